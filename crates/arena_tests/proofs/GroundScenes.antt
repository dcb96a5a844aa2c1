-- Main as the tests have it.
use Rattle.std.proofs.Common.{◌+◌, refl, arith}
use Rattle.chunk_tags.specs.Sizes.{IsChunkSize}
use Rattle.chunk_tags.specs.declared.tiles.TileKind.TheVariants.{Top}
use Rattle.address_space.specs.Spaces.{main_start}
use Rattle.arena_rules.specs.PlainArena.{IsSound, empty_main}
use Rattle.arena_rules.specs.Moves.{tile_of, cut_from_top, shelved}
use Rattle.arena_rules.specs.Growth.{break_taken}
use Rattle.arena_rules.proofs.ChunkMoves.{shelved_moved}
use Rattle.arena_rules.proofs.MainPlaces.{empty_placed}
use Rattle.arena_rules.proofs.Moved.{sound_empty}
use Rattle.arena_rules.proofs.Resizes.{grown_into_top_moved}
use Rattle.arena_rules.proofs.TopMoves.{cut_moved}
use Rattle.heap_top.proofs.MainMoves.{IsMainKept, break_kept, cut_kept}
use Rattle.arena_tests.specs.GroundScenes.{first_chunk, second_chunk, two_chunks, grown_behind_free}

smallest : IsChunkSize 32
smallest = (omega arith, omega arith)

-- ---- two chunks, one after the other

grown : IsMainKept empty_main (break_taken empty_main 135168)
grown = break_kept empty_main 135168 sound_empty empty_placed (omega arith) refl (omega arith)

one_chunk : IsMainKept (break_taken empty_main 135168) (cut_from_top (break_taken empty_main 135168) 32)
one_chunk = cut_kept (break_taken empty_main 135168) 32 grown.sound grown.placed smallest refl

both_chunks : IsMainKept (cut_from_top (break_taken empty_main 135168) 32) two_chunks
both_chunks = cut_kept (cut_from_top (break_taken empty_main 135168) 32) 32 one_chunk.sound one_chunk.placed smallest refl

pub first_growth : IsSound (break_taken empty_main 135168)
first_growth = grown.sound

pub sound_one : IsSound (cut_from_top (break_taken empty_main 135168) 32)
sound_one = one_chunk.sound

pub sound_two : IsSound two_chunks
sound_two = both_chunks.sound

-- ---- the first is free, and the second grows

pub sound_free : IsSound (shelved two_chunks first_chunk)
sound_free = (shelved_moved two_chunks first_chunk sound_two refl (record { before = refl; behind = refl; top = refl })).sound

pub sound_grown : IsSound grown_behind_free
sound_grown = (grown_into_top_moved (shelved two_chunks first_chunk) second_chunk 64 sound_free refl refl (omega arith, omega arith)).sound

pub sound_next : IsSound (cut_from_top grown_behind_free 32)
sound_next = (cut_moved grown_behind_free (tile_of Top (main_start + 96) 135072) 32 sound_grown refl smallest (omega arith)).sound
