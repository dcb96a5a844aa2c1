-- What places have, slot by slot and tray by tray.
use Rattle.std.proofs.Common.{◌≡◌, ℕ, zero, suc, ◌+◌, ◌*◌, ◌<◌, false, List, [], ◌∷◌, ◌++◌, length, map, flat_map, Option, Some, None, refl, sym, ap, ◌∙◌, subst, arith, append-nil}
use Rattle.std.specs.Prelude.{IfSome, option_map}
use Rattle.chunk_tags.specs.declared.block.Block.{Block}
use Rattle.arena_rules.specs.HeapPlaces.{IsHeapPlaced}
use Rattle.arena_rules.specs.PlainArena.{is_main}
use Rattle.arena_ground.specs.Grounds.{GroundView}
use Rattle.arena_core.specs.declared.arena.Arena.{Arena}
use Rattle.serial_places.specs.Trays.{full_before, full_trays}
use Rattle.serial_places.specs.declared.slot.Slot.{Slot}
use Rattle.serial_places.specs.declared.tray.Tray.{Tray}
use Rattle.serial_places.specs.declared.tray.Tray.TheVariants.{Empty, Full, Taken}
use Rattle.serial_places.specs.SerialWays.{KeptSlot, kept_slot, kept_ground, slot_in, those_in, fast_lists}
use Rattle.serial_places.proofs.Slots.{slot-map}

-- what is so of each arena that is there
pub record IsUsual (s : Slot) : Type 0 where
  pub ten : length s.bins.bins ≡ 10
  pub heaps : is_main s.arena.ground.value.arena ≡ false → (closed : List ℕ) × IsHeapPlaced s.arena.ground.value.arena closed

abbrev pub IsUsualIn : Option Slot → Type 0
IsUsualIn o = IfSome o IsUsual

-- the slots that are there, as they are kept
abbrev pub kept_in : List (Option Slot) → List KeptSlot
kept_in slots = those_in (map (option_map kept_slot) slots)

-- slots are split so
pub record IsSplit (slots : List (Option Slot)) (arenas : List (Arena GroundView)) (fast : List (List ℕ)) : Type 0 where
  pub arenas_are : map kept_ground arenas ≡ map (λ s. s.kept) (kept_in slots)
  pub fast_are : fast ≡ flat_map fast_lists (kept_in slots)
  pub ten : length fast ≡ 10 * length arenas

-- a tray behind others
full-append : (n : ℕ) (trays : List Tray) (t : Tray) → full_trays n (trays ++ t ∷ []) ≡ full_trays n trays ++ full_before (n + length trays) t []
full-append n [] t = ap (λ k. full_before k t []) (omega arith)
full-append n (Empty ∷ ts) t = full-append (n + 1) ts t ∙ ap (λ k. full_trays (n + 1) ts ++ full_before k t []) (omega arith)
full-append n (Full b ∷ ts) t = ap (λ bs. (n, b) ∷ bs) (full-append (n + 1) ts t ∙ ap (λ k. full_trays (n + 1) ts ++ full_before k t []) (omega arith))
full-append n (Taken ∷ ts) t = full-append (n + 1) ts t ∙ ap (λ k. full_trays (n + 1) ts ++ full_before k t []) (omega arith)

-- where it is full, its block comes behind theirs, and else none
pub full_more : (trays : List Tray) (t : Tray) (n : ℕ) (b : Block) (old new : List (ℕ × Block)) → t ≡ Full b → n ≡ length trays → old ≡ full_trays 0 trays → new ≡ old ++ (n, b) ∷ [] →
    new ≡ full_trays 0 (trays ++ t ∷ [])
full_more trays t n b old new full number before after =
    after ∙ (ap (λ bs. bs ++ (n, b) ∷ []) before ∙ (ap (λ k. full_trays 0 trays ++ (k, b) ∷ []) (omega (arith, number))
    ∙ (ap (λ v. full_trays 0 trays ++ full_before (0 + length trays) v []) (sym full) ∙ sym (full-append 0 trays t))))

not_full : (n : ℕ) (t : Tray) → ((b : Block) → t ≡ Full b → ⊥) → full_before n t [] ≡ []
not_full n Empty other = refl
not_full n (Full b) other = absurd (other b refl)
not_full n Taken other = refl

pub full_same : (trays : List Tray) (t : Tray) (old : List (ℕ × Block)) → ((b : Block) → t ≡ Full b → ⊥) → old ≡ full_trays 0 trays → old ≡ full_trays 0 (trays ++ t ∷ [])
full_same trays t old other before =
    before ∙ (sym (append-nil (full_trays 0 trays)) ∙ (ap (λ bs. full_trays 0 trays ++ bs) (sym (not_full (0 + length trays) t other)) ∙ sym (full-append 0 trays t)))

-- what follows in each slot

each_usual : (slots : List (Option Slot)) → ((k : ℕ) → k < length slots → IsUsualIn (slot_in slots k)) → (n : ℕ) → IsUsualIn (slot_in slots n)
each_usual [] h n = tt
each_usual (o ∷ os) h zero = h zero (omega arith)
each_usual (o ∷ os) h (suc n) = each_usual os (λ k within. h (suc k) (omega (arith, within))) n

usual_kept : (Q : KeptSlot → Type 0) → ((s : Slot) → IsUsual s → Q (kept_slot s)) → (o : Option Slot) → IsUsualIn o → IfSome (option_map kept_slot o) Q
usual_kept Q f None h = tt
usual_kept Q f (Some s) h = f s h

pub each_kept : (Q : KeptSlot → Type 0) → ((s : Slot) → IsUsual s → Q (kept_slot s)) → (slots : List (Option Slot)) (kept : List (Option KeptSlot)) → map (option_map kept_slot) slots ≡ kept →
    ((k : ℕ) → k < length slots → IsUsualIn (slot_in slots k)) → (n : ℕ) → IfSome (slot_in kept n) Q
each_kept Q f slots kept same h n =
    subst (λ (os : List (Option KeptSlot)). IfSome (slot_in os n) Q) same
    (subst (λ (o : Option KeptSlot). IfSome o Q) (sym (slot-map kept_slot slots n)) (usual_kept Q f (slot_in slots n) (each_usual slots h n)))
