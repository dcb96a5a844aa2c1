use Rattle.std.proofs.Common.{sym, subst, arith}
use Rattle.arena_choice.specs.Books.{BookValue, IsSound}
use Rattle.arena_choice.specs.Rows.{seen}
use Rattle.arena_choice.proofs.BookLaws.{sound_undone}
use Rattle.arena_choice.proofs.book.Book.undo_new.Goals as goal

pub invariant_of-self : goal.invariant_of-self
invariant_of-self c =
    let before : BookValue = seen c.self.inside.list c.self.inside.kept c.self.inside.free c.self.inside.next c.self.inside.limit c.self.inside.arenas c.self.inside.records in
    record {
      sound = subst (λ ns. IsSound (record before { kept = ns })) (sym c.take_out.ensures.rest) (sound_undone before c.args.a c.self.invariant.sound);
      room = record { list = c.self.invariant.room.list; kept = omega (arith, c.take_out.ensures.room, c.self.invariant.room.kept); free = c.self.invariant.room.free };
    }
