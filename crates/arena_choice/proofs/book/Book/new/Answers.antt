use Rattle.std.proofs.Common.{arith}
use Rattle.arena_choice.proofs.BookLaws.{sound_first}
use Rattle.arena_choice.proofs.book.Book.new.Goals as goal

pub invariant_of-result : goal.invariant_of-result
invariant_of-result c = record {
  sound = rw (c.first_arenas.ensures, c.push_front.ensures.pushed, c.in_ok-list.ensures.empty, c.in_ok-kept.ensures.empty, c.in_ok-free.ensures.empty) (sound_first c.args.records c.requires.one c.requires.most);
  room = record { list = omega (arith, c.push_front.ensures.room, c.in_ok-list.ensures.room); kept = omega (arith, c.in_ok-kept.ensures.room); free = omega (arith, c.in_ok-free.ensures.room) };
}
