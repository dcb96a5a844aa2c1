use Rattle.std.proofs.Common.{◌≡◌, true, arith}
use Rattle.arena_choice.specs.Numbers.{has}
use Rattle.arena_choice.specs.Books.{BookValue}
use Rattle.arena_choice.specs.Rows.{seen}
use Rattle.arena_choice.proofs.BookLaws.{sound_reused}
use Rattle.arena_choice.proofs.book.Book.reused.Goals as goal

pub invariant_of-self : goal.invariant_of-self
invariant_of-self c =
    let before : BookValue = seen c.self.inside.list c.self.inside.kept c.self.inside.free c.self.inside.next c.self.inside.limit c.self.inside.arenas c.self.inside.records in
    let known : has c.args.a before.list ≡ true = rw (← c.self.view_is) at c.requires in
    record {
      sound = rw (c.from.ensures, c.behind_or.ensures, c.take_out.ensures.rest) (sound_reused before c.args.thread c.args.a c.self.invariant.sound known);
      room = record { list = c.self.invariant.room.list; kept = c.self.invariant.room.kept; free = omega (arith, c.take_out.ensures.room, c.self.invariant.room.free) };
    }
