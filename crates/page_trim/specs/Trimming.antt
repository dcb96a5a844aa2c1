-- malloc_trim(3) of one arena: glibc 2.31 malloc/malloc.c, mtrim. Each arena is consolidated, main's top is cut to a pad, and
-- the whole pages inside free chunks are given up.
use Rattle.std.specs.Prelude.{◌≡◌, ℕ, ◌+◌, ◌-◌, ◌/◌, ◌≤◌, ◌&&◌, nat_eq, nat_lt, List, [], ◌∷◌, ◌++◌, map, drop, take, fold, if◌then◌else◌}
use Rattle.chunk_tags.specs.BinOrder.{fast_chunk, times_in}
use Rattle.chunk_tags.specs.Pages.{page_down_of}
use Rattle.chunk_tags.specs.declared.tiles.Chunk.{Chunk}
use Rattle.arena_ground.specs.Grounds.{GroundView}
use Rattle.arena_core.specs.declared.arena.Arena.{Arena}
use Rattle.arena_rules.specs.PlainArena.{Plain, IsSound, is_main, times_used}
use Rattle.arena_rules.specs.Moves.{top_end, top_size}
use Rattle.arena_rules.specs.Release.{merged}
use Rattle.arena_rules.specs.Trim.{main_cut}
use Rattle.page_trim.specs.declared.ranges.PageRange.{PageRange}
use Rattle.page_trim.specs.FreePages.{free_pages, pages_in}

-- the chunks of fast bins from an index on, each bin's from its front
abbrev pub chunks_listed : ℕ → List (List ℕ) → List Chunk
chunks_listed bin [] = []
chunks_listed bin (list ∷ lists) = map (fast_chunk bin) list ++ chunks_listed (bin + 1) lists

-- an arena into which a chunk was merged
abbrev pub merged_into : Plain → Chunk → Plain
merged_into a c = (merged a c).arena

-- consolidation: all chunks of the fast bins are merged, bin by bin (malloc_consolidate)
unfoldable pub consolidated_arena : List (List ℕ) → Plain → Plain
consolidated_arena fast a = fold merged_into a (chunks_listed 0 fast)

-- chunks that are used ones of a sound arena, as often
pub record HasUsed (cs : List Chunk) (a : Plain) : Type 0 where
  pub sound : IsSound a
  pub used : (e : Chunk) → times_in e cs ≤ times_used e a

-- the chunks of the fast bins are such
abbrev pub AreListed : List (List ℕ) → Plain → Type 0
AreListed fast a = HasUsed (chunks_listed 0 fast) a

-- What main's top gives back where it ends at the break: whole pages behind the pad, a smallest chunk and the byte that makes
-- it more than that (systrim). Another arena gives nothing back.
unfoldable pub bytes_back : ℕ → Plain → ℕ
bytes_back pad a =
    if is_main a && nat_eq (top_end a) a.break_at then page_down_of (top_size a - 33 - pad) else 0

abbrev pub cut_back : ℕ → Plain → Plain
cut_back bytes a = if nat_lt 0 bytes then main_cut a bytes else a

-- the arena afterwards
unfoldable pub trimmed_arena : ℕ → List (List ℕ) → Plain → Plain
trimmed_arena pad fast a = let b = consolidated_arena fast a in cut_back (bytes_back pad b) b

-- What was given up: the ranges of pages inside free chunks, the bytes that went back off main's top, and how many pages of
-- the system stay.
pub record Trim : Type 0 where
  pub ranges : List PageRange
  pub back : ℕ
  pub kept : ℕ

abbrev pub trim_with : ℕ → Plain → Trim
trim_with back b =
    let ranges = free_pages b.tiles in
    record { ranges = ranges; back = back; kept = b.system / 4096 - pages_in ranges }

unfoldable pub trim_of : ℕ → List (List ℕ) → Plain → Trim
trim_of pad fast a = trim_with (bytes_back pad (consolidated_arena fast a)) (trimmed_arena pad fast a)

-- ---- all arenas

-- arenas without their journals
abbrev pub plains_of : List (Arena GroundView) → List Plain
plains_of arenas = map (λ a. a.ground.value.arena) arenas

-- each arena has its ten lists, one arena after another, and their chunks are used ones of it
abbrev pub AreAllListed : List (List ℕ) → List Plain → Type 0
AreAllListed lists [] = Unit {0}
AreAllListed lists (a ∷ arenas) = AreListed (take 10 lists) a × AreAllListed (drop 10 lists) arenas

-- what was given up of one, behind its number
abbrev pub numbered_trim : ℕ → List (List ℕ) → Plain → ℕ × Trim
numbered_trim pad fast a = (a.number, trim_of pad fast a)

-- and of each
abbrev pub trims_of : ℕ → List (List ℕ) → List Plain → List (ℕ × Trim)
trims_of pad lists [] = []
trims_of pad lists (a ∷ arenas) = numbered_trim pad (take 10 lists) a ∷ trims_of pad (drop 10 lists) arenas
