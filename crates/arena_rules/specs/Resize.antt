-- A used chunk gets another size under its arena's lock: glibc 2.31 malloc/malloc.c, _int_realloc. What is parted off and
-- what is left behind is released as any chunk that a hold gives up.
use Rattle.std.specs.Prelude.{ℕ, ◌+◌, ◌-◌, Bool, true, false, ◌&&◌, not, nat_eq, nat_lt, nat_le, Some, None, if◌then◌else◌}
use Rattle.chunk_tags.specs.declared.tiles.Chunk.{Chunk}
use Rattle.chunk_tags.specs.Tiles.{is_free, fused, tile_behind}
use Rattle.chunk_tags.specs.declared.tiles.TileKind.TheVariants.{Used}
use Rattle.chunk_tags.specs.declared.tunables.Tunables.{Tunables}
use Rattle.arena_rules.specs.PlainArena.{Plain}
use Rattle.arena_rules.specs.Moves.{tile_of, parted, Hand, hand, joined_behind, is_before_top, absorbed, cut_from_top, top_size}
use Rattle.arena_rules.specs.Rules.{Rules, Stop, behind}
use Rattle.arena_rules.specs.Release.{released}
use Rattle.arena_rules.specs.Growth.{Found, InArena, InMapping, Nowhere, Took}
use Rattle.arena_rules.specs.Search.{searched}

-- The parts of a chunk that is parted: its first nb bytes, and what is behind them.

abbrev pub front_of : Chunk → ℕ → Chunk
front_of c nb = record { at = c.at; size = nb }

abbrev pub back_of : Chunk → ℕ → Chunk
back_of c nb = record { at = c.at + nb; size = c.size - nb }

-- a chunk of the arena, as what was found
abbrev pub took_in : Chunk → Plain → Took
took_in c a = record { found = InArena c; arena = a }

-- A used chunk keeps its first nb bytes; what is behind them is parted off and released.
abbrev pub cut_behind : Tunables → ℕ → Hand → Rules Took
cut_behind t nb h =
    behind (released t (parted h.arena h.chunk nb) (back_of h.chunk nb)) (λ b. Stop (took_in (front_of h.chunk nb) b))

-- Cutting: a rest of at least 32 bytes is parted off and released; a smaller one stays with the chunk.
abbrev pub cut_to : Tunables → ℕ → Hand → Rules Took
cut_to t nb h = if nat_lt (h.chunk.size - nb) 32 then Stop (took_in h.chunk h.arena) else cut_behind t nb h

-- Top is directly behind, and both have nb bytes and a smallest chunk.
abbrev pub fits_with_top : Plain → Chunk → ℕ → Bool
fits_with_top a c nb = is_before_top a c && nat_le (nb + 32) (c.size + top_size a)

-- The chunk grows into that top, to exactly nb bytes. A free chunk may be before it.
abbrev pub grown_into_top : Plain → Chunk → ℕ → Plain
grown_into_top a c nb = cut_from_top (absorbed a c) nb

-- A free chunk is directly behind, and both have nb bytes.
abbrev pub fits_with_free : Plain → Chunk → ℕ → Bool
fits_with_free a c nb = elim (tile_behind c.at a.tiles) [
  | None ↦ false
  | Some u ↦ is_free u && nat_le nb (c.size + u.size)
]

-- whether a chunk begins where another ends
abbrev pub is_next_to : Chunk → Chunk → Bool
is_next_to c d = nat_eq d.at (c.at + c.size)

-- A used chunk and the used chunk directly behind it become one.
abbrev pub joined_with : Hand → Chunk → Hand
joined_with h d = record {
  chunk = record { at = h.chunk.at; size = h.chunk.size + d.size };
  arena = record h.arena { tiles = fused h.chunk.at (tile_of Used h.chunk.at (h.chunk.size + d.size)) h.arena.tiles };
}

-- The block is moved to what was found, and its old chunk is released.
abbrev pub moved_from_old : Tunables → Chunk → Took → Rules Took
moved_from_old t c took = behind (released t took.arena c) (λ b. Stop (record { found = took.found; arena = b }))

-- What was found: a chunk of the arena directly behind is joined and cut; to any other, or to a mapping, the block is
-- moved; where nothing was found it stays, and all is as the search left it.
abbrev pub resize_with : Tunables → Chunk → ℕ → Took → Rules Took
resize_with t c nb took = elim took.found [
  | InArena d ↦ if is_next_to c d then cut_to t nb (joined_with (hand c took.arena) d) else moved_from_old t c took
  | InMapping d ↦ moved_from_old t c took
  | Nowhere ↦ Stop took
]

abbrev pub resize_by_search : Tunables → Plain → Chunk → ℕ → Rules Took
resize_by_search t a c nb = behind (searched t nb a) (resize_with t c nb)

-- The resize of a used chunk to nb bytes. Its end says which it is: a chunk of the arena at the old address is the block
-- that is kept, any other chunk or mapping is where it has moved, and nothing found is a refusal.
abbrev pub resize_of : Tunables → Plain → Chunk → ℕ → Rules Took
resize_of t a c nb =
    if nat_le nb c.size then cut_to t nb (hand c a)
    else (if fits_with_top a c nb then Stop (took_in (front_of c nb) (grown_into_top a c nb))
    else (if fits_with_free a c nb then cut_to t nb (joined_behind (hand c a))
    else resize_by_search t a c nb))

-- What a resize ended with, in words.

abbrev pub is_kept : Chunk → Found → Bool
is_kept c found = elim found [ InArena d ↦ nat_eq d.at c.at | InMapping d ↦ false | Nowhere ↦ false ]

abbrev pub is_moved : Chunk → Found → Bool
is_moved c found = elim found [ InArena d ↦ not (nat_eq d.at c.at) | InMapping d ↦ true | Nowhere ↦ false ]
