-- What the heaps of another arena grow by (this project's own).
use Rattle.std.specs.Prelude.{◌≡◌, ℕ, ◌+◌, ◌%◌, ◌<◌, ◌≤◌}
use Rattle.part_words.specs.Extents.{Extent, AreOpen}
use Rattle.arena_rules.specs.PlainArena.{Plain}
use Rattle.arena_rules.specs.Moves.{top_end}
use Rattle.arena_rules.specs.Heaps.{heap_start, last_heap, last_length}
use Rattle.arena_rules.specs.HeapPlaces.{IsHeapLength}

-- whole pages behind the last heap that have words, and end in its window
pub record IsHeapGrowth (e : Extent) (a : Plain) (growth : ℕ) : Type 0 where
  pub words : AreOpen e (top_end a) growth
  pub some : 0 < growth
  pub pages : growth % 4096 ≡ 0
  pub window : last_length a + growth ≤ a.windows.heap_max

-- one heap more, which has words
pub record IsNewHeap (e : Extent) (a : Plain) (len : ℕ) : Type 0 where
  pub words : AreOpen e (heap_start a (last_heap a + 1)) len
  pub length : IsHeapLength a.windows len
  pub window : last_heap a + 1 < a.windows.heaps
