use Rattle.std.proofs.Common.{◌≡◌, true, false, sym, arith, ◌∙◌, None, set}
use Rattle.arena_choice.specs.Numbers.{has}
use Rattle.arena_choice.specs.Books.{BookValue}
use Rattle.arena_choice.specs.Rows.{seen}
use Rattle.arena_choice.proofs.BookLaws.{sound_left, sound_freed, arena_listed, arena_not_free, free_has_room}
use Rattle.arena_choice.proofs.book.Book.detach.Goals as goal

pub push_front-requires : goal.push_front-requires
push_front-requires c =
    let before : BookValue = seen c.self.inside.list c.self.inside.kept c.self.inside.free c.self.inside.next c.self.inside.limit c.self.inside.arenas c.self.inside.records in
    let known : has c.in-Some.a before.list ≡ true = arena_listed before c.from.result c.in-Some.a c.self.invariant.sound c.in-Some.is in
    let apart : has c.in-Some.a before.free ≡ false = arena_not_free before c.from.result c.in-Some.a c.self.invariant.sound c.in-Some.is in
    omega (arith, free_has_room before c.in-Some.a c.self.invariant.sound known apart, c.self.invariant.room.free)

pub invariant_of-self : goal.invariant_of-self
invariant_of-self c =
    let before : BookValue = seen c.self.inside.list c.self.inside.kept c.self.inside.free c.self.inside.next c.self.inside.limit c.self.inside.arenas c.self.inside.records in
    let known : has c.in-Some.a before.list ≡ true = arena_listed before c.from.result c.in-Some.a c.self.invariant.sound c.in-Some.is in
    let apart : has c.in-Some.a before.free ≡ false = arena_not_free before c.from.result c.in-Some.a c.self.invariant.sound c.in-Some.is in
    let left : BookValue = record before { arenas = set before.arenas c.from-in-Some.result None } in
    record {
      sound = rw c.push_front.ensures.pushed (sound_freed left c.in-Some.a (sound_left before c.from-in-Some.result c.self.invariant.sound) known apart (sym c.attached_to.ensures ∙ c.if-attached_to-eq0.true));
      room = record { list = c.self.invariant.room.list; kept = c.self.invariant.room.kept; free = omega (arith, c.push_front.ensures.room, c.self.invariant.room.free) };
    }

pub invariant_of-self-else-attached_to-eq0 : goal.invariant_of-self-else-attached_to-eq0
invariant_of-self-else-attached_to-eq0 c =
    let before : BookValue = seen c.self.inside.list c.self.inside.kept c.self.inside.free c.self.inside.next c.self.inside.limit c.self.inside.arenas c.self.inside.records in
    record { sound = sound_left before c.from-in-Some.result c.self.invariant.sound; room = c.self.invariant.room }
