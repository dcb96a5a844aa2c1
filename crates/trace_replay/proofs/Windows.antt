-- Ranges that lie one behind another: a byte is in one of them at most.
use Rattle.std.proofs.Common.{◌≡◌, ℕ, suc, ◌+◌, ◌-◌, ◌*◌, ◌<◌, ◌≤◌, List, [], ◌∷◌, length, Some, sum_by, inl, inr, refl, ap, ◌∙◌, arith}
use Rattle.std.specs.Prelude.{slice_get}
use Rattle.std.proofs.lemmas.Bool.{cases_lt}
use Rattle.std.proofs.lemmas.List.Sums.{sum_by-cons}
use Rattle.std.proofs.Math.Nat.{mul-le-mul_left}
use Rattle.chunk_tags.specs.Tunables.{main_limit}
use Rattle.address_space.specs.Spaces.{piece_start, heaps_start}
use Rattle.arena_rules.specs.PlainArena.{Plain, IsSound}
use Rattle.arena_rules.specs.MainPlaces.{covers, times_covered, IsMainPlaced}
use Rattle.arena_rules.specs.Heaps.{heap_start, last_length}
use Rattle.arena_rules.specs.HeapPlaces.{IsHeapPlaced}
use Rattle.arena_rules.proofs.Covered.{covers_le, covers_none, covered_once}
use Rattle.arena_rules.proofs.HeapRanges.{start_from, start_below, before_heaps, behind_heaps, not_in_heap}
use Rattle.arena_rules.proofs.MainPlaces.{uncovered}

-- a number for a byte is at most 1, and 0 outside a range
pub record IsInRange (n from end weight : ℕ) : Type 0 where
  pub most : weight ≤ 1
  pub before : n < from → weight ≡ 0
  pub behind : end ≤ n → weight ≡ 0

pub covers_range : (n at size end : ℕ) → at + size ≤ end → IsInRange n at end (covers n at size)
covers_range n at size end le = record {
  most = covers_le n at size;
  before = λ lt. covers_none n at size (inl lt);
  behind = λ ge. covers_none n at size (inr (omega (arith, ge, le)));
}

-- so is the sum over ranges that begin one behind another
pub record IsInRanges (n from weight : ℕ) : Type 0 where
  pub most : weight ≤ 1
  pub before : n < from → weight ≡ 0

pub in_ranges : {X : Type 0} (f : X → ℕ) (n : ℕ) (start : ℕ → ℕ) (xs : List X) → ((i : ℕ) → start i ≤ start (suc i)) →
    ((i : ℕ) (x : X) → slice_get xs i ≡ Some x → IsInRange n (start i) (start (suc i)) (f x)) → IsInRanges n (start 0) (sum_by f xs)
in_ranges f n start [] rises each = record { most = omega arith; before = λ lt. refl }
in_ranges f n start (x ∷ xs) rises each =
    let one = sum_by-cons f x xs in
    let here : IsInRange n (start 0) (start 1) (f x) = each 0 x refl in
    let rest : IsInRanges n (start 1) (sum_by f xs) = in_ranges f n (λ i. start (suc i)) xs (λ i. rises (suc i)) (λ i y at. each (suc i) y at) in
    let up : start 0 ≤ start 1 = rises 0 in
    record {
      most = elim (cases_lt n (start 1)) [
        | inl lt ↦ omega (arith, one, here.most, rest.before lt)
        | inr ge ↦ omega (arith, one, here.behind ge, rest.most)
      ];
      before = λ lt. omega (arith, one, here.before lt, rest.before (omega (arith, lt, up)));
    }

-- behind all of them it is 0 too
pub behind_all : {X : Type 0} (f : X → ℕ) (xs : List X) → ((i : ℕ) (x : X) → slice_get xs i ≡ Some x → f x ≡ 0) → sum_by f xs ≡ 0
behind_all f [] each = refl
behind_all f (x ∷ xs) each = omega (arith, sum_by-cons f x xs, each 0 x refl, behind_all f xs (λ i y at. each (suc i) y at))

-- ---- the tiles of arenas

-- where main's windows end
abbrev pub main_end : ℕ
main_end = piece_start + main_limit

pub main_range : (a : Plain) (n : ℕ) → IsSound a → IsMainPlaced a → IsInRange n 0 main_end (times_covered n a)
main_range a n s p = record {
  most = covered_once n a.tiles s.row;
  before = λ lt. absurd (omega (arith, lt));
  behind = λ ge. uncovered a n p (record { break = inr (omega (arith, ge, p.limit)); pieces = inr (omega (arith, ge, p.piece_limit)) });
}

-- where the heaps of the arena with a number begin, main's being none
abbrev pub heaps_from : ℕ → ℕ → ℕ → ℕ
heaps_from heaps heap_max i = heaps_start + i * (heaps * heap_max)

pub heaps_rise : (heaps heap_max i : ℕ) → heaps_from heaps heap_max i ≤ heaps_from heaps heap_max (suc i)
heaps_rise heaps heap_max i =
    let w : ℕ = heaps * heap_max in
    let next : suc i * w ≡ i * w + w = omega arith in
    omega (arith, next)

mul_right : (a b c : ℕ) → a ≤ b → a * c ≤ b * c
mul_right a b c le = omega (arith, mul-le-mul_left c le)

heap_first : (a : Plain) (i heaps heap_max : ℕ) → a.number ≡ i + 1 → a.windows.heaps ≡ heaps → a.windows.heap_max ≡ heap_max → heap_start a 0 ≡ heaps_from heaps heap_max i
heap_first a i heaps heap_max number h m =
    let k : a.number - 1 ≡ i = omega (arith, number) in
    let first : heap_start a 0 ≡ heaps_start + (i * heaps + 0) * heap_max =
    ap (λ j. heaps_start + (j * a.windows.heaps + 0) * a.windows.heap_max) k ∙ (ap (λ w. heaps_start + (i * w + 0) * a.windows.heap_max) h ∙ ap (λ w. heaps_start + (i * heaps + 0) * w) m) in
    omega (arith, first)

pub heaps_range : (a : Plain) (closed : List ℕ) (n i heaps heap_max : ℕ) → IsSound a → IsHeapPlaced a closed → a.number ≡ i + 1 → a.windows.heaps ≡ heaps → a.windows.heap_max ≡ heap_max →
    IsInRange n (heaps_from heaps heap_max i) (heaps_from heaps heap_max (suc i)) (times_covered n a)
heaps_range a closed n i heaps heap_max s p number h m =
    let first : heap_start a 0 ≡ heaps_from heaps heap_max i = heap_first a i heaps heap_max number h m in
    let last : ℕ = length closed in
    let from : heap_start a last ≡ heap_start a 0 + last * a.windows.heap_max = start_from a last in
    record {
      most = covered_once n a.tiles s.row;
      before = λ lt. omega (
        arith,
        p.filled n,
        before_heaps a 0 closed n p.each (omega (arith, lt, first)),
        not_in_heap a last (last_length a) n p.last (inl (omega (arith, lt, first, start_below a 0 last (omega arith)))),
      );
      behind = λ ge.
          let w : ℕ = heaps * heap_max in
          let next : suc i * w ≡ i * w + w = omega arith in
          let most : (last + 1) * heap_max ≤ w = mul_right (last + 1) heaps heap_max (omega (arith, p.count, h)) in
          let here : heap_start a last + heap_max ≤ n = omega (arith, ge, next, first, from, ap (λ x. last * x) m, most) in
          let same : 0 + last ≡ last = omega arith in
          let lens : heap_start a (0 + last) ≤ n = omega (arith, here, ap (heap_start a) same) in
          omega (
            arith,
            p.filled n,
            behind_heaps a 0 closed n p.each lens,
            not_in_heap a last (last_length a) n p.last (inr (omega (arith, here, p.last.window, m))),
          );
    }
