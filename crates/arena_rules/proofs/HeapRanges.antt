-- Laws of where the heaps of another arena lie, for this crate and those above it: each in its window, behind the one
-- before, and how often they have a byte.
use Rattle.std.proofs.Common.{◌≡◌, ℕ, suc, ◌+◌, ◌-◌, ◌*◌, ◌/◌, ◌%◌, ◌<◌, ◌≤◌, List, [], ◌∷◌, ◌++◌, length, refl, sym, ap, ◌∙◌, inl, inr, arith}
use Rattle.std.specs.Prelude.{◌⊎◌}
use Rattle.std.specs.List.{AllByRecursion}
use Rattle.std.proofs.Math.Nat.{add-mul, zero-mul, mul-zero, mul-le-mul_right}
use Rattle.std.proofs.lemmas.Nat.{div-mul-add, mul-mod_second, mul-le}
use Rattle.std.proofs.lemmas.Bool.Decides.{nat_tests}
use Rattle.address_space.specs.Spaces.{heaps_start}
use Rattle.arena_rules.specs.PlainArena.{Plain}
use Rattle.arena_rules.specs.Heaps.{header_bytes, heap_start, heap_index}
use Rattle.arena_rules.specs.HeapPlaces.{AreHeapWindows, IsHeapLength, times_in_heap, times_in_heaps}
use Rattle.arena_rules.specs.MainPlaces.{covers}
use Rattle.arena_rules.proofs.Covered.{covers_none, covers_one, covers_adds}

-- ---- windows

pub start_from : (a : Plain) (heap : ℕ) → heap_start a heap ≡ heap_start a 0 + heap * a.windows.heap_max
start_from a heap =
    let before : ℕ = (a.number - 1) * a.windows.heaps in
    omega (arith, add-mul before heap a.windows.heap_max, add-mul before 0 a.windows.heap_max, zero-mul a.windows.heap_max)

-- a heap's window ends where the next one begins
pub start_next : (a : Plain) (heap : ℕ) → heap_start a (heap + 1) ≡ heap_start a heap + a.windows.heap_max
start_next a heap =
    let before : ℕ = (a.number - 1) * a.windows.heaps in
    let size : ℕ = a.windows.heap_max in
    omega (arith, ap (λ (n : ℕ). n * size) (next before heap), add-mul (before + heap) 1 size, one size)
  where
    next : (m n : ℕ) → m + (n + 1) ≡ m + n + 1
    next m n = omega arith

    one : (n : ℕ) → 1 * n ≡ n
    one n = omega arith

pub start_below : (a : Plain) (heap next : ℕ) → heap ≤ next → heap_start a heap ≤ heap_start a next
start_below a heap next le =
    omega (arith, start_from a heap, start_from a next, mul-le-mul_right {m = heap} {n = next} a.windows.heap_max le)

-- a window ends at most where that of any later heap begins
pub start_behind : (a : Plain) (heap next : ℕ) → heap < next → heap_start a heap + a.windows.heap_max ≤ heap_start a next
start_behind a heap next lt =
    let le : heap_start a (heap + 1) ≤ heap_start a next = start_below a (heap + 1) next (omega (arith, lt)) in
    omega (arith, start_next a heap, le)

-- the heap of an address in a window
pub index_in : (a : Plain) (heap at : ℕ) → heap_start a heap ≤ at → at < heap_start a heap + a.windows.heap_max → heap_index a at ≡ heap
index_in a heap at ge lt =
    let inside : at - heap_start a heap < a.windows.heap_max = omega (arith, ge, lt) in
    let from : at - heap_start a 0 ≡ heap * a.windows.heap_max + (at - heap_start a heap) = omega (arith, ge, start_from a heap) in
    ap (λ n. n / a.windows.heap_max) from ∙ div-mul-add heap a.windows.heap_max (at - heap_start a heap) inside

-- heaps begin at whole pages
pub start_page : (a : Plain) (heap : ℕ) → AreHeapWindows a.windows → heap_start a heap % 4096 ≡ 0
start_page a heap w =
    let before : ℕ = (a.number - 1) * a.windows.heaps + heap in
    let whole : (before * a.windows.heap_max) % 4096 ≡ 0 =
    sym (mul-mod_second before a.windows.heap_max 4096) ∙ (ap (λ n. (before * n) % 4096) w.whole ∙ ap (λ n. n % 4096) (mul-zero before)) in
    omega (arith, whole)

-- the end of the windows of all arenas
pub windows_end : (a : Plain) (heap : ℕ) → AreHeapWindows a.windows → a.number < 64 → heap < a.windows.heaps → heap_start a heap + a.windows.heap_max ≤ heaps_start + 64 * 64 * 67108864
windows_end a heap w number lt =
    let size : ℕ = a.windows.heap_max in
    let before : ℕ = (a.number - 1) * a.windows.heaps in
    let arenas : before ≤ 62 * 64 = mul-le (a.number - 1) a.windows.heaps 62 64 (omega (arith, number)) w.heaps in
    let bytes : (before + heap + 1) * size ≤ 4096 * 67108864 = mul-le (before + heap + 1) size 4096 67108864 (omega (arith, arenas, lt, w.heaps)) w.most in
    omega (arith, bytes, add-mul (before + heap) 1 size)

-- ---- headers

pub header_least : (heap : ℕ) → 32 ≤ header_bytes heap
header_least heap = grind (arith, nat_tests)

pub header_most : (heap : ℕ) → header_bytes heap ≤ 2240
header_most heap = grind (arith, nat_tests)

pub header_whole : (heap : ℕ) → header_bytes heap % 16 ≡ 0
header_whole heap = grind (arith, nat_tests)

pub header_next : (heap : ℕ) → header_bytes (heap + 1) ≡ 32
header_next heap = grind (arith, nat_tests)

-- ---- which heaps have a byte

-- it isn't behind the header of a heap, or not in its length
pub not_in_heap : (a : Plain) (heap len n : ℕ) → IsHeapLength a.windows len → (n < heap_start a heap + header_bytes heap) ⊎ (heap_start a heap + len ≤ n) → times_in_heap a heap len n ≡ 0
not_in_heap a heap len n l out =
    let start : ℕ = heap_start a heap in
    covers_none n (start + header_bytes heap) (len - header_bytes heap) (elim out [
      | inl before ↦ inl before
      | inr after ↦ inr (omega (arith, after, header_most heap, l.some))
    ])

pub in_heap : (a : Plain) (heap len n : ℕ) → heap_start a heap + header_bytes heap ≤ n → n < heap_start a heap + len → times_in_heap a heap len n ≡ 1
in_heap a heap len n ge lt =
    covers_one n (heap_start a heap + header_bytes heap) (len - header_bytes heap) ge (omega (arith, ge, lt))

pub before_heaps : (a : Plain) (heap : ℕ) (lens : List ℕ) (n : ℕ) → AllByRecursion (IsHeapLength a.windows) lens → n < heap_start a heap → times_in_heaps a heap lens n ≡ 0
before_heaps a heap [] n all lt = refl
before_heaps a heap (len ∷ lens) n all lt =
    omega (
      arith,
      not_in_heap a heap len n all.0 (inl (omega (arith, lt))),
      before_heaps a (heap + 1) lens n all.1 (omega (arith, lt, start_below a heap (heap + 1) (omega arith))),
    )

pub behind_heaps : (a : Plain) (heap : ℕ) (lens : List ℕ) (n : ℕ) → AllByRecursion (IsHeapLength a.windows) lens → heap_start a (heap + length lens) ≤ n → times_in_heaps a heap lens n ≡ 0
behind_heaps a heap [] n all ge = refl
behind_heaps a heap (len ∷ lens) n all ge =
    let next : heap + length (len ∷ lens) ≡ heap + 1 + length lens = omega arith in
    let ge' : heap_start a (heap + 1 + length lens) ≤ n = omega (arith, ge, ap (heap_start a) next) in
    omega (
      arith,
      not_in_heap a heap len n all.0 (inr (omega (arith, ge', all.0.window, start_next a heap, start_below a (heap + 1) (heap + 1 + length lens) (omega arith)))),
      behind_heaps a (heap + 1) lens n all.1 ge',
    )

pub heaps_append : (a : Plain) (heap : ℕ) (lens more : List ℕ) (n : ℕ) → times_in_heaps a heap (lens ++ more) n ≡ times_in_heaps a heap lens n + times_in_heaps a (heap + length lens) more n
heaps_append a heap [] more n = omega (arith, ap (λ h. times_in_heaps a h more n) (zero_more heap))
  where
    zero_more : (n : ℕ) → n ≡ n + 0
    zero_more n = omega arith
heaps_append a heap (len ∷ lens) more n =
    omega (arith, heaps_append a (heap + 1) lens more n, ap (λ h. times_in_heaps a h more n) (next heap (length lens)))
  where
    next : (m k : ℕ) → m + 1 + k ≡ m + suc k
    next m k = omega arith

from_zero : (n : ℕ) → 0 + n ≡ n
from_zero n = omega arith

-- the same for heaps from the first on
pub behind_closed : (a : Plain) (lens : List ℕ) (n : ℕ) → AllByRecursion (IsHeapLength a.windows) lens → heap_start a (length lens) ≤ n → times_in_heaps a 0 lens n ≡ 0
behind_closed a lens n all ge = behind_heaps a 0 lens n all (omega (arith, ge, ap (heap_start a) (from_zero (length lens))))

-- one heap more
pub heaps_push : (a : Plain) (lens : List ℕ) (len n : ℕ) → times_in_heaps a 0 (lens ++ len ∷ []) n ≡ times_in_heaps a 0 lens n + times_in_heap a (length lens) len n
heaps_push a lens len n = omega (arith, heaps_append a 0 lens (len ∷ []) n, ap (λ h. times_in_heap a h len n) (from_zero (length lens)))

-- a heap that is longer
pub heap_longer : (a : Plain) (heap len growth n : ℕ) → 2240 ≤ len → times_in_heap a heap (len + growth) n ≡ times_in_heap a heap len n + covers n (heap_start a heap + len) growth
heap_longer a heap len growth n le =
    let head : ℕ = header_bytes heap in
    let most : head ≤ 2240 = header_most heap in
    let size : len + growth - head ≡ len - head + growth = omega (arith, most, le) in
    let at : heap_start a heap + head + (len - head) ≡ heap_start a heap + len = omega (arith, most, le) in
    omega (
      arith,
      ap (covers n (heap_start a heap + head)) size,
      (covers_adds n).adds (heap_start a heap + head) (len - head) growth,
      ap (λ at. covers n at growth) at,
    )
