-- Top is trimmed: glibc 2.31 malloc/malloc.c, systrim for the main arena, and malloc/arena.c, heap_trim for the others.
-- All that heap_trim's loop does here, and which heaps are dropped, is this project's own.
use Rattle.std.specs.Prelude.{◌≡◌, ℕ, ◌+◌, ◌-◌, ◌%◌, ◌≤◌, suc, zero, Bool, nat_eq, nat_lt, nat_le, length, Some, None, if◌then◌else◌}
use Rattle.chunk_tags.specs.Pages.{page_down_of}
use Rattle.chunk_tags.specs.declared.tunables.Tunables.{Tunables}
use Rattle.address_space.specs.declared.asks.Back.TheVariants as backs
use Rattle.arena_rules.specs.PlainArena.{Plain, is_main}
use Rattle.arena_rules.specs.Moves.{top_size, top_end, with_top_size}
use Rattle.arena_rules.specs.Heaps.{heap_shortened, end_before_heap, end_bytes, last_heap, last_length, without_heap}
use Rattle.arena_rules.specs.declared.heap_end.HeapEnd.{HeapEnd}
use Rattle.arena_rules.specs.Rules.{Rules, Stop, Does, Gives}

-- The bytes that top can give back: whole pages behind the pad and a smallest chunk, where top reaches the threshold.
abbrev pub spare_bytes : Tunables → Plain → ℕ → ℕ
spare_bytes t a threshold = if nat_le threshold (top_size a) then page_down_of (top_size a - 33 - t.top_pad) else 0

-- main gives back the end of its break, where top ends there
abbrev pub main_spare : Tunables → Plain → ℕ → ℕ
main_spare t a threshold = if nat_eq (top_end a) a.break_at then spare_bytes t a threshold else 0

-- bytes that can be taken off the end of main's top and break
pub record CanCutMain (a : Plain) (bytes : ℕ) : Type 0 where
  pub at_break : top_end a ≡ a.break_at
  pub left : bytes + 32 ≤ top_size a
  pub whole : bytes % 4096 ≡ 0

abbrev pub main_cut : Plain → ℕ → Plain
main_cut a bytes =
    record (with_top_size a (top_size a - bytes)) { break_at = a.break_at - bytes; system = a.system - bytes }

abbrev pub trimmed_main : Tunables → Plain → ℕ → Rules Plain
trimmed_main t a threshold =
    let bytes = main_spare t a threshold in
    if nat_lt 0 bytes
    then Does (Gives (backs.Break a.break_at (a.break_at - bytes))) (Stop (main_cut a bytes))
    else Stop a

-- Heaps of another arena.

-- whether the end of the heap before, with what that may still grow by, is enough for the pad, a smallest chunk and a page
abbrev pub is_enough_end : Tunables → HeapEnd → Bool
is_enough_end t e = nat_le (t.top_pad + 32 + 4096) (end_bytes e + e.room)

-- While top is the first chunk of its heap and the end of the heap before is enough, the last heap is dropped; an arena has
-- no more of them than tiles.
abbrev pub dropped_heaps : ℕ → Tunables → Plain → (Plain → Rules Plain) → Rules Plain
dropped_heaps zero t a go = go a
dropped_heaps (suc n) t a go = elim (end_before_heap a) [
  | None ↦ go a
  | Some e ↦ if is_enough_end t e
      then Does (Gives (backs.DropHeap a.number (last_heap a) (last_length a))) (dropped_heaps n t (without_heap a e) go)
      else go a
]

-- then the end of the last heap is given back
abbrev pub heap_cut : Tunables → ℕ → Plain → Rules Plain
heap_cut t threshold a =
    let bytes = spare_bytes t a threshold in
    if nat_lt 0 bytes
    then Does (Gives (backs.ShrinkHeap a.number (last_heap a) (last_length a) (last_length a - bytes))) (Stop (heap_shortened a bytes))
    else Stop a

abbrev pub trimmed_heaps : Tunables → Plain → ℕ → Rules Plain
trimmed_heaps t a threshold = dropped_heaps (length a.tiles) t a (heap_cut t threshold)

-- Trimming, by the threshold that was read.
abbrev pub trimmed : Tunables → Plain → ℕ → Rules Plain
trimmed t a threshold = if is_main a then trimmed_main t a threshold else trimmed_heaps t a threshold
