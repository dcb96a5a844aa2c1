use Rattle.std.proofs.Common.{◌≡◌, ◌+◌, [], ◌∷◌, sym, ap, ◌∙◌, subst}
use Rattle.chunk_tags.specs.Tiles.{Row, swapped, tile_at, top_of}
use Rattle.chunk_tags.specs.declared.tiles.TileKind.TheVariants.{Free}
use Rattle.address_space.specs.Spaces.{heaps_start}
use Rattle.chunk_image.specs.Rows.{TileRow}
use Rattle.arena_rules.specs.PlainArena.{Plain}
use Rattle.arena_rules.specs.Moves.{tile_of}
use Rattle.heap_top.specs.Regions.{address_of, arena_of}
use Rattle.arena_tests.specs.HeapScenes.{free_rest}
use Rattle.arena_tests.proofs.HeapScenes.{sound_rest}
use Rattle.arena_tests.proofs.region_tests.free_the_rest.Goals as goal

pub set_kind-requires-clause-row : goal.set_kind-requires-clause-row
set_kind-requires-clause-row c = c.requires.known.row

pub set_kind-requires-clause-tile : goal.set_kind-requires-clause-tile
set_kind-requires-clause-tile c = ap (λ (x : Plain). tile_at (heaps_start + 3264) x.tiles) c.requires.arena

pub returns : goal.returns
returns c =
    let g = c.requires in
    let e = c.set_kind.ensures in
    let is : c.set_kind.new.self.tiles ≡ free_rest.tiles =
    ap (λ (w : TileRow). w.tiles) e ∙ ap (λ (x : Plain). swapped (heaps_start + 3264) (tile_of Free (heaps_start + 3264) 8992 ∷ []) x.tiles) g.arena in
    record {
      arena = ap (λ ts. arena_of c.args.heaps.now ts free_rest.bins free_rest.last) is ∙ ap (λ (x : Plain). record x { tiles = free_rest.tiles; bins = free_rest.bins; last = free_rest.last }) g.arena;
      closed = g.closed;
      known = record {
        row = subst Row (sym is) sound_rest.row;
        is = ap (λ ts. address_of (top_of ts)) is ∙ (sym (ap (λ (x : Plain). address_of (top_of x.tiles)) g.arena) ∙ g.known.is);
      };
      room = g.room;
      words = ap (λ (w : TileRow). w.extent) e ∙ g.words;
    }
