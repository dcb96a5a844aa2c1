use Rattle.std.proofs.Common.{◌≡◌, ◌∷◌, true, sym, subst, arith, ap, ◌∙◌}
use Rattle.arena_choice.specs.Books.{BookValue, IsSound}
use Rattle.arena_choice.specs.Choices.{has_number_left}
use Rattle.arena_choice.specs.Rows.{seen}
use Rattle.arena_choice.proofs.BookLaws.{sound_with_new_number}
use Rattle.arena_choice.proofs.book.Book.keep_number.Goals as goal

pub invariant_of-self : goal.invariant_of-self
invariant_of-self c =
    let before : BookValue = seen c.self.inside.list c.self.inside.kept c.self.inside.free c.self.inside.next c.self.inside.limit c.self.inside.arenas c.self.inside.records in
    let place : has_number_left before ≡ true = rw (← c.self.view_is) at c.requires in
    record {
      sound = subst (λ ns. IsSound (record before { kept = ns })) (sym (c.push_front.ensures.pushed ∙ ap (λ a. a ∷ c.self.inside.kept.numbers) c.lowest_unused-a.ensures)) (sound_with_new_number before c.self.invariant.sound place);
      room = record { list = c.self.invariant.room.list; kept = omega (arith, c.push_front.ensures.room, c.self.invariant.room.kept); free = c.self.invariant.room.free };
    }
