-- Dials where a mapping is counted, and sums of numbers that are bounded one by one.
use Rattle.std.proofs.Common.{◌≡◌, ℕ, suc, ◌+◌, ◌*◌, ◌≤◌, List, [], ◌∷◌, map, length, get_or, set, sym, refl, ap, arith, subst, add-mul, mul-le-mul_right}
use mathlib.Core.Option.{some}
use lib.ListN.{get_elem?}
use Rattle.chunk_tags.specs.declared.tunables.Tunables.{Tunables}
use Rattle.address_space.specs.Spaces.{map_length}
use Rattle.board_types.specs.Views.{ViewValue}
use Rattle.board_types.specs.Weights.{weigh}
use Rattle.board_types.specs.Trays.{Tray}
use Rattle.board_types.specs.Dials.{Dials, Counting}
use Rattle.board_types.specs.Law.{dials_of}
use Rattle.board_types.specs.Plays.{one_counted}
use Rattle.board_dials.proofs.DialSteps.{dials_count_one}

abbrev pub counted_in : Counting → ℕ → Counting
counted_in v x = (one_counted v.0 x, v.1)

pub dials_count : (t : Tunables) (trays : List Tray) (words : List ℕ) (views : List Counting) (p : ℕ) (v : Counting) → Dials t trays words views → get_elem? views p ≡ some v → length words ≡ 6 → v.0.all_mapped ≤ map_length → v.0.windows ≡ 1
    → Dials t trays (set words 2 (get_or words 2 0 + 1)) (set views p (counted_in v (get_or words 2 0 + 1)))
dials_count t trays words views p v h at long may window = dials_count_one t trays words views p v h at long (subst (λ (m : ℕ). v.0.all_mapped + 1 ≤ m * (map_length + 1)) (sym window) (omega arith))

-- a sum of numbers that are each at most as many times m as others are
pub weigh_most : {A : Type 0} (f g : A → ℕ) (xs : List A) (m : ℕ) → ((i : ℕ) (v : A) → get_elem? xs i ≡ some v → f v ≤ g v * m) → weigh f xs ≤ weigh g xs * m
weigh_most f g [] m h = omega arith
weigh_most f g (x ∷ xs) m h = let a = h 0 x refl in let b = weigh_most f g xs m (λ i v e. h (suc i) v e) in let c = add-mul (g x) (weigh g xs) m in omega arith

pub most_rows : (n m : ℕ) → n ≤ 256 → n * m ≤ 256 * m
most_rows n m l = mul-le-mul_right m l

pub count_all : (vs : List ViewValue) → length (map dials_of vs) ≡ length vs
count_all [] = refl
count_all (v ∷ vs) = ap suc (count_all vs)
