use Rattle.std.proofs.Common.{◌≡◌, [], ap, ◌∙◌}
use Rattle.chunk_image.specs.Rows.{TileRow}
use Rattle.part_words.specs.Extents.{extended}
use Rattle.address_space.specs.Spaces.{main_start, piece_start}
use Rattle.arena_tests.specs.MainScenes.{scene_words}
use Rattle.arena_tests.proofs.MainScenes.{scene_start}
use Rattle.arena_tests.proofs.region_tests.main_with_words.Goals as goal

pub returns : goal.returns
returns c =
    let one = c.in_ok-open.ensures.ok ∙ ap (λ (w : TileRow). record w { extent = extended w.extent main_start 262144 }) c.new-tiles.ensures in
    let two : c.open-2.new.self ≡ record { tiles = []; extent = scene_words } =
    c.in_ok-open-2.ensures.ok ∙ ap (λ (w : TileRow). record w { extent = extended w.extent piece_start 2097152 }) one in
    scene_start c.main.result c.open-2.new.self c.main.ensures.arena c.main.ensures.top two
