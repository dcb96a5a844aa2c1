-- An arena asks the system for more: glibc 2.31 malloc/malloc.c, sysmalloc, and malloc/arena.c, new_heap and grow_heap.
-- How an old top is closed, and what is gone through once more, is this project's own.
use Rattle.std.specs.Prelude.{ℕ, ◌+◌, ◌-◌, suc, zero, max, Bool, true, false, nat_eq, nat_lt, nat_le, Option, Some, None, if◌then◌else◌}
use Rattle.chunk_tags.specs.declared.tiles.Chunk.{Chunk}
use Rattle.chunk_tags.specs.Pages.{page_up_of, mapping_length}
use Rattle.chunk_tags.specs.Dials.{MmapThreshold, MappedCount}
use Rattle.chunk_tags.specs.declared.tunables.Tunables.{Tunables}
use Rattle.address_space.specs.declared.asks.Ask.TheVariants as asks
use Rattle.arena_rules.specs.PlainArena.{Plain, is_main}
use Rattle.arena_rules.specs.Moves.{top_size, top_start, top_end, with_top_size, with_moved_top, left_of_top, cut_from_top}
use Rattle.arena_rules.specs.Rules.{Rules, Stop, Does, Needs, Counts, Maps, behind, asks_for, reads, flag_of, place_told}
use Rattle.arena_rules.specs.Heaps.{heap_added, heap_extended, last_heap, last_length, opened_arena}
use Rattle.arena_rules.specs.Release.{released}

-- what was found: a chunk of the arena, a mapped chunk, or nothing
pub data Found : Type 0 where
  InArena : Chunk → Found
  InMapping : Chunk → Found
  Nowhere : Found

pub record Took : Type 0 where
  pub found : Found
  pub arena : Plain

-- What is left of a closed top is released.
abbrev pub closing : Tunables → Option Chunk → Plain → Rules Plain
closing t None a = Stop a
closing t (Some c) a = released t a c

-- whether top can give nb bytes and keep the smallest chunk
abbrev pub has_top_for : Plain → ℕ → Bool
has_top_for a nb = nat_le (nb + 32) (top_size a)

-- A chunk of nb bytes is cut from top, where that suffices: what is made of it and the arena, and what of the arena where
-- it isn't cut.
abbrev pub cut_or : {A : Type 0} → (Chunk → Plain → A) → (Plain → A) → ℕ → Plain → A
cut_or cut uncut nb a =
    if has_top_for a nb then cut (record { at = top_start a; size = nb }) (cut_from_top a nb) else uncut a

-- The main arena.

-- the part of a growth that main's top gives, while main is contiguous
abbrev pub top_part : Plain → ℕ
top_part a = if a.contiguous then top_size a else 0

-- by how much the break grows
abbrev pub main_growth : Tunables → Plain → ℕ → ℕ
main_growth t a nb = page_up_of (nb + t.top_pad + 32 - top_part a)

-- the length of a piece, where the break was refused (MMAP_AS_MORECORE_SIZE at least)
abbrev pub piece_length : Tunables → Plain → ℕ → ℕ
piece_length t a nb = max (page_up_of (main_growth t a nb + top_part a)) 1048576

abbrev pub with_break : Plain → ℕ → Plain
with_break a growth = record a { break_at = a.break_at + growth; system = a.system + growth }

abbrev pub with_piece : Plain → ℕ → Plain
with_piece a len = record a { contiguous = false; next_piece = a.next_piece + len; system = a.system + len }

-- The break was granted. Where top ends at it, top grows; where there is no top, the new range is it; else top moves to
-- it, and the old one is closed.
abbrev pub is_top_at_break : Plain → Bool
is_top_at_break a = nat_eq (top_end a) a.break_at

abbrev pub break_taken : Plain → ℕ → Plain
break_taken a growth =
    if is_top_at_break a
    then with_top_size (with_break a growth) (top_size a + growth)
    else with_moved_top (with_break a growth) a.break_at growth

-- what is then to be released
abbrev pub break_rest : Plain → Option Chunk
break_rest a = if is_top_at_break a then None else left_of_top a

-- A piece was granted: it is top, and the old one is closed.
abbrev pub piece_taken : Plain → ℕ → Plain
piece_taken a len = with_moved_top (with_piece a len) a.next_piece len

-- Where the break is refused a piece is asked for.
abbrev pub piece_grown : Tunables → ℕ → Plain → Rules Plain
piece_grown t nb a =
    let len = piece_length t a nb in
    asks_for a (asks.Piece a.next_piece len) (λ granted.
    if granted then closing t (left_of_top a) (piece_taken a len) else Stop a)

-- The break is asked for. Where closing an old top trimmed so much of the new one that it doesn't suffice, all of this
-- is gone through once more.
abbrev pub main_grown : ℕ → Tunables → ℕ → Plain → Rules Plain
main_grown zero t nb a = Stop a
main_grown (suc n) t nb a =
    let growth = main_growth t a nb in
    asks_for a (asks.Break a.break_at (a.break_at + growth)) (λ granted.
    if granted
    then behind (closing t (break_rest a) (break_taken a growth)) (λ b.
    if has_top_for b nb then Stop b else main_grown n t nb b)
    else piece_grown t nb a)

-- Another arena.

-- the first length of a heap, for a need
abbrev pub first_length : Tunables → ℕ → ℕ
first_length t need = page_up_of (
    if nat_lt (need + t.top_pad) 32768 then 32768
    else (if nat_le (need + t.top_pad) t.heap_max then need + t.top_pad
    else (if nat_le need t.heap_max then t.heap_max else need)))

-- Where the last heap can't be extended a new one is asked for; behind its header, of 32 bytes, the rest is top.
abbrev pub next_heap_grown : Tunables → ℕ → Plain → Rules (Option Plain)
next_heap_grown t nb a =
    let len = first_length t (nb + 64) in
    asks_for a (asks.NewHeap a.number (last_heap a + 1) len) (λ granted.
    if granted then behind (closing t (left_of_top a) (heap_added a len)) (λ b. Stop (Some b)) else Stop None)

-- by how much the last heap is extended, so that top suffices
abbrev pub extension_bytes : Plain → ℕ → ℕ
extension_bytes a nb = page_up_of (nb + 32 - top_size a)

-- The last heap is extended; else a heap is added. None is the refusal of both.
abbrev pub heaps_grown : Tunables → ℕ → Plain → Rules (Option Plain)
heaps_grown t nb a =
    let len = last_length a in
    let growth = extension_bytes a nb in
    asks_for a (asks.GrowHeap a.number (last_heap a) len (len + growth)) (λ granted.
    if granted then Stop (Some (heap_extended a growth)) else next_heap_grown t nb a)

-- A new arena asks for its heap 0, with a need; behind its header and its record all is top.
abbrev pub first_heap : Tunables → ℕ → Plain → Rules (Option Plain) → Rules (Option Plain)
first_heap t need a refused =
    let len = first_length t need in
    asks_for a (asks.NewHeap a.number 0 len) (λ granted. if granted then Stop (Some (opened_arena a len)) else refused)

-- The need is that of a request of so many bytes; where that is refused, the least.
abbrev pub opened : Tunables → ℕ → Plain → Rules (Option Plain)
opened t bytes a = first_heap t (bytes + 2248) a (first_heap t 2248 a (Stop None))

-- All arenas.

-- the most bytes that there were, raised to those that there are
abbrev pub noted : Plain → Plain
noted a = record a { most = max a.most a.system }

-- a chunk of nb bytes from top, where that suffices
abbrev pub from_top : ℕ → Plain → Took
from_top = cut_or (λ c b. record { found = InArena c; arena = b }) (λ b. record { found = Nowhere; arena = b })

-- A mapping is asked for. Where it is granted it is counted.
abbrev pub mapping : ℕ → Plain → Rules (Option Chunk)
mapping nb a =
    let len = mapping_length nb in
    Needs a (Maps len) (λ s.
    if flag_of s then Does (Counts len) (Stop (Some (record { at = place_told s; size = len }))) else Stop None)

-- where it is granted it is the answer
abbrev pub maps_else : ℕ → Plain → Rules Took → Rules Took
maps_else nb a refused = behind (mapping nb a) (λ mapped. elim mapped [
  | Some c ↦ Stop (record { found = InMapping c; arena = a })
  | None ↦ refused
])

-- The arena grows, and a chunk is cut from its top.

abbrev pub cut_from_grown : ℕ → Plain → Rules Took
cut_from_grown nb a = Stop (from_top nb (noted a))

-- another arena's extension and its new heap are tried once more
abbrev pub grown_again : Tunables → ℕ → Plain → Rules Took
grown_again t nb a = behind (heaps_grown t nb a) (λ grown. cut_from_grown nb (elim grown [ Some b ↦ b | None ↦ a ]))

-- where both are refused a mapping is asked for, unless one was, and then both once more
abbrev pub other_grown : Tunables → ℕ → Bool → Plain → Rules Took
other_grown t nb tried a = behind (heaps_grown t nb a) (λ grown. elim grown [
  | Some b ↦ cut_from_grown nb b
  | None ↦ if tried then cut_from_grown nb a else maps_else nb a (grown_again t nb a)
])

abbrev pub grown : Tunables → ℕ → Bool → Plain → Rules Took
grown t nb tried a = if is_main a then behind (main_grown 2 t nb a) (cut_from_grown nb) else other_grown t nb tried a

-- whether a mapping is asked for first: the size reaches the threshold, and there aren't too many
abbrev pub maps_first : Tunables → ℕ → Plain → Rules Bool
maps_first t nb a =
    reads a MmapThreshold (λ threshold.
    if nat_le threshold nb then reads a MappedCount (λ count. Stop (nat_lt count t.mmaps_max)) else Stop false)

-- The system is asked: for a mapping first, where that is so; else, and where that is refused, the arena grows.
abbrev pub system_asked : Tunables → ℕ → Plain → Rules Took
system_asked t nb a = behind (maps_first t nb a) (λ first. if first then maps_else nb a (grown t nb true a) else grown t nb false a)
