use Rattle.std.proofs.Common.{arith}
use Rattle.arena_choice.specs.Books.{BookValue}
use Rattle.arena_choice.specs.Choices.{CanAttach}
use Rattle.arena_choice.specs.Rows.{seen}
use Rattle.arena_choice.proofs.BookLaws.{sound_attached}
use Rattle.arena_choice.proofs.book.Book.attach.Goals as goal

pub invariant_of-self : goal.invariant_of-self
invariant_of-self c =
    let before : BookValue = seen c.self.inside.list c.self.inside.kept c.self.inside.free c.self.inside.next c.self.inside.limit c.self.inside.arenas c.self.inside.records in
    let can : CanAttach before c.args.a = rw (← c.self.view_is) at c.requires in
    record {
      sound = rw (c.from.ensures, c.move_over.ensures.list, c.move_over.ensures.kept, c.take_out.ensures.rest) (sound_attached before c.args.thread c.args.a c.self.invariant.sound can);
      room = record { list = omega (arith, c.move_over.ensures.list_room, c.self.invariant.room.list); kept = omega (arith, c.move_over.ensures.kept_room, c.self.invariant.room.kept); free = omega (arith, c.take_out.ensures.room, c.self.invariant.room.free) };
    }
