-- Main as the tests have it (this project's own): no free chunk, and words for 256 KiB of its break and for 2 MiB of
-- pieces.
use Rattle.std.specs.Prelude.{◌≡◌, ◌-◌, ◌/◌, [], ◌∷◌, None}
use Rattle.part_words.specs.Extents.{Extent}
use Rattle.address_space.specs.Spaces.{main_start, piece_start}
use Rattle.chunk_image.specs.Rows.{TileRow}
use Rattle.arena_rules.specs.MainPlaces.{IsMainPlaced}
use Rattle.arena_rules.specs.PlainArena.{IsSound, empty_bins}
use Rattle.heap_top.specs.Regions.{arena_of, KnowsTop}
use Rattle.heap_top.specs.declared.regions.Regions.{Regions}

abbrev pub scene_words : Extent
scene_words = record {
  base = main_start;
  width = (piece_start - main_start) / 16;
  words = 16384 ∷ 131072 ∷ [];
}

pub record IsScene (r : Regions) (w : TileRow) : Type 0 where
  pub sound : IsSound (arena_of r w.tiles empty_bins None)
  pub placed : IsMainPlaced (arena_of r w.tiles empty_bins None)
  pub known : KnowsTop r.top w.tiles
  pub words : w.extent ≡ scene_words
