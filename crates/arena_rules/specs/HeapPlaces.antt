-- Where the tiles of another arena lie (this project's own): they fill its heaps, behind their headers.
use Rattle.std.specs.Prelude.{◌≡◌, ℕ, ◌+◌, ◌-◌, ◌*◌, ◌%◌, ◌<◌, ◌≤◌, false, List, [], ◌∷◌, length, sum_by}
use Rattle.std.specs.List.{AllByRecursion}
use Rattle.arena_rules.specs.PlainArena.{Plain, HeapWindows, is_main, tiled_bytes}
use Rattle.arena_rules.specs.MainPlaces.{covers, times_covered}
use Rattle.arena_rules.specs.Heaps.{header_bytes, heap_start, last_heap, last_length}

-- windows in their ranges: whole pages, of at least 64 KiB and at most 64 MiB, and at most 64 of them
pub record AreHeapWindows (w : HeapWindows) : Type 0 where
  pub whole : w.heap_max % 4096 ≡ 0
  pub least : 65536 ≤ w.heap_max
  pub most : w.heap_max ≤ 67108864
  pub heaps : w.heaps ≤ 64

-- the length of a heap: whole pages, no more than its window
pub record IsHeapLength (w : HeapWindows) (len : ℕ) : Type 0 where
  pub whole : len % 4096 ≡ 0
  pub some : 4096 ≤ len
  pub window : len ≤ w.heap_max

-- how often a byte is behind the header of a heap of this length
abbrev pub times_in_heap : Plain → ℕ → ℕ → ℕ → ℕ
times_in_heap a heap len n = covers n (heap_start a heap + header_bytes heap) (len - header_bytes heap)

-- the same for heaps of these lengths, from one on
abbrev pub times_in_heaps : Plain → ℕ → List ℕ → ℕ → ℕ
times_in_heaps a heap [] n = 0
times_in_heaps a heap (len ∷ lens) n = times_in_heap a heap len n + times_in_heaps a (heap + 1) lens n

-- An arena with heaps of these lengths, and the one that top is in behind them: a byte behind their headers is in one tile,
-- any other in none. Its bytes from the system are those of the heaps.
pub record IsHeapPlaced (a : Plain) (closed : List ℕ) : Type 0 where
  pub other : is_main a ≡ false
  pub number : a.number < 64
  pub windows : AreHeapWindows a.windows
  pub filled : (n : ℕ) → times_covered n a ≡ times_in_heaps a 0 closed n + times_in_heap a (length closed) (last_length a) n
  pub each : AllByRecursion (IsHeapLength a.windows) closed
  pub last : IsHeapLength a.windows (last_length a)
  pub top : last_heap a ≡ length closed
  pub count : length closed < a.windows.heaps
  pub system : a.system ≡ sum_by (λ len. len) closed + last_length a
  pub tiled : tiled_bytes a + (2240 + 32 * length closed) ≡ a.system
