-- Words for worked examples (this project's own).
use Rattle.std.specs.Prelude.{ℕ, ◌+◌, List, [], Option, Some, None}
use Rattle.chunk_tags.specs.declared.tiles.Chunk.{Chunk}
use Rattle.chunk_tags.specs.declared.tiles.Tile.{Tile}
use Rattle.chunk_tags.specs.declared.tunables.Tunables.{Tunables}
use Rattle.arena_rules.specs.declared.said.Said.{Said}
use Rattle.address_space.specs.Spaces.{main_start}
use Rattle.arena_rules.specs.PlainArena.{Plain, empty_main, unsorted_of}
use Rattle.arena_rules.specs.Moves.{cut_from_top, shelved}
use Rattle.arena_rules.specs.Growth.{break_taken, InArena, InMapping, Nowhere, Took}
use Rattle.arena_rules.specs.Rules.{end_of_rules}
use Rattle.arena_rules.specs.Search.{searched}

-- address and size of the chunk that a search finds in an arena
abbrev pub found_by : Tunables → ℕ → Plain → List Said → Option (ℕ × ℕ)
found_by t nb a said = elim (end_of_rules t (searched t nb a) said) [
  | None ↦ None
  | Some took ↦ elim took.found [ InArena c ↦ Some (c.at, c.size) | InMapping c ↦ None | Nowhere ↦ None ]
]

-- main after a first growth of two pages, and with three chunks cut from it, of 32, 64 and 48 bytes
abbrev pub two_pages : Plain
two_pages = break_taken empty_main 8192

abbrev pub three_cut : Plain
three_cut = cut_from_top (cut_from_top (cut_from_top two_pages 32) 64) 48

-- the same with the second one free
abbrev pub second_free : Plain
second_free = shelved three_cut (record { at = main_start + 32; size = 64 })

-- what rules ended with: the chunk of the arena, the mapping, and the arena's tiles and unsorted chunks
abbrev pub chunk_ended : Option Took → Option Chunk
chunk_ended None = None
chunk_ended (Some took) = elim took.found [ InArena c ↦ Some c | InMapping c ↦ None | Nowhere ↦ None ]

abbrev pub mapping_ended : Option Took → Option Chunk
mapping_ended None = None
mapping_ended (Some took) = elim took.found [ InArena c ↦ None | InMapping c ↦ Some c | Nowhere ↦ None ]

abbrev pub tiles_ended : Option Took → List Tile
tiles_ended None = []
tiles_ended (Some took) = took.arena.tiles

abbrev pub unsorted_ended : Option Took → List Chunk
unsorted_ended None = []
unsorted_ended (Some took) = unsorted_of took.arena

-- main after its first growth, with the chunk of a cache's structure and a small one behind it
abbrev pub small_cut : Plain
small_cut = cut_from_top (cut_from_top (break_taken empty_main 135168) 656) 32

-- the same where the small one has grown to 1,008 bytes and another small one is behind it
abbrev pub grown_cut : Plain
grown_cut = cut_from_top (cut_from_top (cut_from_top (break_taken empty_main 135168) 656) 1008) 32

-- then with chunks of 2,016, 3,008 and 32 bytes, the second of them free
abbrev pub free_between : Plain
free_between =
    shelved (cut_from_top (cut_from_top (cut_from_top grown_cut 2016) 3008) 32) (record { at = main_start + 3712; size = 3008 })

-- two chunks of 60,016 bytes behind the small one, the second before top
abbrev pub two_large : Plain
two_large = cut_from_top (cut_from_top small_cut 60016) 60016

-- an aligned chunk of 112 bytes behind the small one, and its tail
abbrev pub tail_stashed : Plain
tail_stashed = cut_from_top (cut_from_top small_cut 112) 112
