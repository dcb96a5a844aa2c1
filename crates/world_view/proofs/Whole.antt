-- Of a whole scene all is shown.
use Rattle.std.proofs.Common.{◌≡◌, map, arith}
use Rattle.world_view.specs.Scenes.{Scene, shown_arena}
use Rattle.world_view.specs.Shows.{IsWholeScene, ShowsAll, tile_span, view_span}
use Rattle.world_view.proofs.Finding.{tiles_shown}
use Rattle.world_view.proofs.InUse.{arena_used}
use Rattle.world_view.proofs.MappedShown.{named_shown, structure_shown, tray_shown}

pub whole_shown : (s : Scene) → IsWholeScene s → ShowsAll s
whole_shown s w =
    record {
      arenas = λ i a is.
          let tiles : map view_span (shown_arena s a).tiles ≡ map tile_span a.arena.tiles = tiles_shown s i a is (w.arenas i a is) in
          record { tiles = tiles; in_use = arena_used s a (w.arenas i a is) tiles };
      named = named_shown s (λ n. omega (arith, w.apart n));
      structures = structure_shown s (λ n. omega (arith, w.apart n));
      trays = tray_shown s (λ n. omega (arith, w.apart n));
    }
