-- All trays, of which the first are written and the others are empty.
use Rattle.std.proofs.Common.{◌≡◌, ℕ, zero, suc, ◌+◌, ◌-◌, ◌<◌, ◌≤◌, List, [], ◌∷◌, ◌++◌, length, get_or, set, replicate, refl, sym, ap, ◌∙◌, arith, append_assoc, length-append, length-set}
use Rattle.std.proofs.lemmas.List.{length-replicate, replicate-append-replicate, get_or_append_left, get_or-append_right, set-append_left, set-get_or, get_or_read}
use Rattle.serial_places.specs.Trays.{tray_at, taken_tray, all_trays, empty_trays, full_trays}
use Rattle.serial_places.specs.declared.tray.Tray.{Tray}
use Rattle.serial_places.specs.declared.tray.Tray.TheVariants.{Empty, Full, Taken}

-- so many trays, of which these are the first
abbrev filled : ℕ → List Tray → List Tray
filled n first = first ++ replicate (n - length first) Empty

-- ---- none is written

filled_none : (n : ℕ) (first : List Tray) → first ≡ [] → filled n first ≡ replicate n Empty
filled_none n first e = ap (filled n) e ∙ ap (λ k. replicate k Empty) (omega arith)

pub all_none : (first : List Tray) → first ≡ [] → all_trays first ≡ empty_trays
unfolding all_trays empty_trays
all_none first e = filled_none 65536 first e

-- ---- more are written, without a block

filled_more : (n k : ℕ) (first : List Tray) → k ≤ n → filled n (first ++ replicate (k - length first) Empty) ≡ filled n first
filled_more n k first le =
    let m : ℕ = k - length first in
    let more : length (first ++ replicate m Empty) ≡ length first + m = length-append first (replicate m Empty) ∙ ap (λ x. length first + x) (length-replicate m Empty) in
    append_assoc first (replicate m Empty) (replicate (n - length (first ++ replicate m Empty)) Empty)
    ∙ ap (λ x. first ++ x) (replicate-append-replicate m (n - length (first ++ replicate m Empty)) Empty
    ∙ ap (λ x. replicate x Empty) (omega (arith, more, le)))

all_more : (k : ℕ) (first : List Tray) → k ≤ 65536 → all_trays (first ++ replicate (k - length first) Empty) ≡ all_trays first
unfolding all_trays
all_more k first le = filled_more 65536 k first le

-- written up to one of them
pub all_reached : (now first more : List Tray) (i : ℕ) → all_trays first ≡ now → i < 65536 → more ≡ first ++ replicate (i + 1 - length first) Empty → all_trays more ≡ now
all_reached now first more i view lt is = ap all_trays is ∙ (all_more (i + 1) first (omega (arith, lt)) ∙ view)

pub reached_within : (first more : List Tray) (i : ℕ) → more ≡ first ++ replicate (i + 1 - length first) Empty → i < length more
reached_within first more i is =
    omega (arith, ap (λ (ts : List Tray). length ts) is, length-append first (replicate (i + 1 - length first) Empty), length-replicate (i + 1 - length first) Empty)

-- ---- one that is written

filled_at : (n i : ℕ) (first : List Tray) → i < length first → tray_at (filled n first) i ≡ tray_at first i
filled_at n i first lt = get_or_append_left first (replicate (n - length first) Empty) Empty i lt

filled-set : (n i : ℕ) (first : List Tray) (t : Tray) → i < length first → set (filled n first) i t ≡ filled n (set first i t)
filled-set n i first t lt =
    set-append_left first (replicate (n - length first) Empty) i t lt
    ∙ ap (λ k. set first i t ++ replicate (n - k) Empty) (sym (length-set first i t))

all_at : (i : ℕ) (first : List Tray) → i < length first → tray_at (all_trays first) i ≡ tray_at first i
unfolding all_trays
all_at i first lt = filled_at 65536 i first lt

all-set : (i : ℕ) (first : List Tray) (t : Tray) → i < length first → set (all_trays first) i t ≡ all_trays (set first i t)
unfolding all_trays
all-set i first t lt = filled-set 65536 i first t lt

-- it is read there
pub all_read : (now first : List Tray) (i : ℕ) (t : Tray) → all_trays first ≡ now → i < length first → t ≡ get_or first i t → t ≡ tray_at now i
all_read now first i t view lt read =
    get_or_read first i t lt read Empty ∙ (sym (all_at i first lt) ∙ ap (λ ts. tray_at ts i) view)

-- and written
pub all_written : (now first : List Tray) (i : ℕ) (t new : Tray) (change : Tray → Tray) → all_trays first ≡ now → i < length first → t ≡ get_or first i t → new ≡ change t →
    all_trays (set first i new) ≡ set now i (change (tray_at now i))
all_written now first i t new change view lt read is =
    sym (all-set i first new lt) ∙ (ap (λ ts. set ts i new) view ∙ ap (set now i) (is ∙ ap change (all_read now first i t view lt read)))

-- ---- one that isn't written

pub no_tray : (m n : ℕ) → tray_at (replicate m Empty) n ≡ Empty
no_tray zero n = refl
no_tray (suc m) zero = refl
no_tray (suc m) (suc n) = no_tray m n

filled_past : (n i : ℕ) (first : List Tray) → length first ≤ i → tray_at (filled n first) i ≡ Empty
filled_past n i first past =
    get_or-append_right first (replicate (n - length first) Empty) (length first) i Empty refl past ∙ no_tray (n - length first) (i - length first)

pub all_past : (now first : List Tray) (i : ℕ) → all_trays first ≡ now → length first ≤ i → tray_at now i ≡ Empty
unfolding all_trays
all_past now first i view past = ap (λ ts. tray_at ts i) (sym view) ∙ filled_past 65536 i first past

-- a take leaves it
pub take_past : (now : List Tray) (i : ℕ) → tray_at now i ≡ Empty → now ≡ set now i (taken_tray (tray_at now i))
take_past now i e = sym (set-get_or now i Empty) ∙ ap (set now i) (e ∙ sym (ap taken_tray e))

-- ---- the blocks

full-empty : (n k : ℕ) → full_trays n (replicate k Empty) ≡ []
full-empty n zero = refl
full-empty n (suc k) = full-empty (n + 1) k

full-append_empty : (n k : ℕ) (first : List Tray) → full_trays n (first ++ replicate k Empty) ≡ full_trays n first
full-append_empty n k [] = full-empty n k
full-append_empty n k (Empty ∷ ts) = full-append_empty (n + 1) k ts
full-append_empty n k (Full b ∷ ts) = ap (λ bs. (n, b) ∷ bs) (full-append_empty (n + 1) k ts)
full-append_empty n k (Taken ∷ ts) = full-append_empty (n + 1) k ts

-- those that aren't written have none
pub full_all : (n : ℕ) (first : List Tray) → full_trays n (all_trays first) ≡ full_trays n first
unfolding all_trays
full_all n first = full-append_empty n (65536 - length first) first
