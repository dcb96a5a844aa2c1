-- Main as the tests have it (this project's own), after its first growth.
use Rattle.std.specs.Prelude.{◌+◌}
use Rattle.chunk_tags.specs.declared.tiles.Chunk.{Chunk}
use Rattle.address_space.specs.Spaces.{main_start}
use Rattle.arena_rules.specs.PlainArena.{Plain, empty_main}
use Rattle.arena_rules.specs.Moves.{cut_from_top, shelved}
use Rattle.arena_rules.specs.Growth.{break_taken}
use Rattle.arena_rules.specs.Resize.{grown_into_top}

-- two chunks of 32 bytes, before top
abbrev pub first_chunk : Chunk
first_chunk = record { at = main_start; size = 32 }

abbrev pub second_chunk : Chunk
second_chunk = record { at = main_start + 32; size = 32 }

abbrev pub two_chunks : Plain
two_chunks = cut_from_top (cut_from_top (break_taken empty_main 135168) 32) 32

-- the first of them is free, and the second has grown to 64 bytes
abbrev pub grown_behind_free : Plain
grown_behind_free = grown_into_top (shelved two_chunks first_chunk) second_chunk 64
