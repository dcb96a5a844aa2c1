use Rattle.std.proofs.Common.{◌≡◌, ℕ, ◌<◌, false, List, None, length, slice_index_or, sym, ap, ◌∙◌, subst, arith, below_more}
use Rattle.std.proofs.lemmas.List.{get_or_default}
use Rattle.arena_rules.specs.HeapPlaces.{IsHeapPlaced}
use Rattle.arena_rules.specs.PlainArena.{is_main}
use Rattle.serial_places.specs.SerialWays.{SerialState, slot_in}
use Rattle.serial_places.proofs.Ends.{IsUsualIn, each_kept}
use Rattle.serial_places.proofs.serial.Serial.laws.Goals as goal
use Rattle.serial_places.proofs.serial.Serial.laws.Goals.{in-Some, in_default}

each : (c : goal.After-loop-slot) (k : ℕ) → k < length c.self.inside.arenas.items → IsUsualIn (slot_in c.self.inside.arenas.items k)
each c =
    let here : (k : ℕ) → k < length c.deref-slot-items.result.now → IsUsualIn (slot_in c.deref-slot-items.result.now k) =
    λ k h. c.loop-slot.invariant k (omega (arith, h, c.loop-slot-test.false)) in
    rw c.deref-slot-items.ensures.value at here

pub returns-clause-ten : goal.returns-clause-ten
returns-clause-ten c =
    each_kept (λ s. length s.bins.bins ≡ 10) (λ s h. h.ten) c.self.inside.arenas.items c.args.self.now.slots (ap (λ (s : SerialState). s.slots) c.self.view_is) (each c)

pub returns-clause-heaps : goal.returns-clause-heaps
returns-clause-heaps c =
    each_kept (λ s. is_main s.kept.arena ≡ false → (closed : List ℕ) × IsHeapPlaced s.kept.arena closed) (λ s h. h.heaps)
    c.self.inside.arenas.items c.args.self.now.slots (ap (λ (s : SerialState). s.slots) c.self.view_is) (each c)

pub loop-slot-preserved : goal.loop-slot-preserved
loop-slot-preserved c =
    let here : IsUsualIn c.slot-item.result =
    elim c.match-slot.branch [
      | in-Some w ↦ subst IsUsualIn (sym w.in-Some.is) (record { ten = w.laws.ensures; heaps = rw w.as_ref-ground.ensures at w.laws-in-Some.ensures.heaps })
      | in_default w ↦ subst IsUsualIn (sym w.in_default.is) tt
    ] in
    let read : c.slot-item.result ≡ slice_index_or c.deref-slot-items.result.now c.loop-slot.slot-index None =
    c.slot-item.is ∙ get_or_default c.deref-slot-items.result.now c.loop-slot.slot-index c.slot-item.result None c.loop-slot-test.true in
    below_more _ _ c.loop-slot.invariant (subst IsUsualIn read here)
