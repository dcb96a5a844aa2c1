-- The bytes of an arena that are in use are those of its headers and of the tiles that are shown in use.
use Rattle.std.proofs.Common.{◌≡◌, ℕ, ◌+◌, ◌*◌, Bool, true, false, List, [], ◌∷◌, map, filter, sum_by, refl, ap, arith}
use Rattle.std.specs.Prelude.{if◌then◌else◌}
use Rattle.std.proofs.lemmas.List.Sums.{sum_by-cons}
use Rattle.list_laws.proofs.Sums.{sum_by-map}
use Rattle.chunk_tags.specs.declared.tiles.Tile.{Tile}
use Rattle.arena_rules.specs.HeapPlaces.{IsHeapPlaced}
use Rattle.arena_rules.specs.Heaps.{header_bytes, last_heap}
use Rattle.arena_rules.specs.MainPlaces.{IsPlaced}
use Rattle.arena_rules.specs.PlainArena.{Plain, is_main, tiled_bytes}
use Rattle.stats_text.specs.declared.views.Place.{Place}
use Rattle.stats_text.specs.declared.views.Place.TheVariants as places
use Rattle.stats_text.specs.declared.views.TileView.{TileView}
use Rattle.stats_text.specs.Totals.{is_idle_place, is_in_use_place, tile_bytes_of, idle_bytes_of, in_use_bytes_of, in_use_of}
use Rattle.stats_text.specs.Views.{Arena}
use Rattle.world_view.specs.Scenes.{ArenaScene, Scene, arena_shown, shown_arena}
use Rattle.world_view.specs.Shows.{IsWholeArena, tile_span, view_span, headers_of}

halves : (p : Place) (size : ℕ) → (if is_idle_place p then size else 0) + (if is_in_use_place p then size else 0) ≡ size
halves (places.Live thread name) size = omega arith
halves (places.Cache thread) size = omega arith
halves (places.Structure thread) size = omega arith
halves (places.Tray tray) size = omega arith
halves (places.Fast bin) size = omega arith
halves (places.Bin bin) size = omega arith
halves places.Top size = omega arith
halves places.Fence size = omega arith

filtered : (p : TileView → Bool) (t : TileView) (ts : List TileView) → tile_bytes_of (filter p (t ∷ ts)) ≡ (if p t then t.size else 0) + tile_bytes_of (filter p ts)
unfolding tile_bytes_of
filtered p t ts =
    let rest : List TileView = filter p ts in
    elim (p t) as (λ b. sum_by (λ (x : TileView). x.size) (if b then t ∷ rest else rest) ≡ (if b then t.size else 0) + sum_by (λ (x : TileView). x.size) rest) [
      | true ↦ sum_by-cons (λ (x : TileView). x.size) t rest
      | false ↦ omega arith
    ]

all_bytes : (ts : List TileView) → idle_bytes_of ts + in_use_bytes_of ts ≡ sum_by (λ t. t.size) ts
unfolding idle_bytes_of in_use_bytes_of tile_bytes_of
all_bytes [] = refl
all_bytes (t ∷ ts) =
    omega (
      arith,
      filtered (λ x. is_idle_place x.place) t ts,
      filtered (λ x. is_in_use_place x.place) t ts,
      halves t.place t.size,
      sum_by-cons (λ (x : TileView). x.size) t ts,
      all_bytes ts,
    )

used_shown : (a : Arena) (tiles : List Tile) (headers : ℕ) → map view_span a.tiles ≡ map tile_span tiles → sum_by (λ (t : Tile). t.size) tiles + headers ≡ a.system → in_use_of a ≡ in_use_bytes_of a.tiles + headers
unfolding in_use_of
used_shown a tiles headers shown system =
    omega (
      arith,
      all_bytes a.tiles,
      sum_by-map (λ (x : ℕ × ℕ). x.1) view_span a.tiles,
      sum_by-map (λ (x : ℕ × ℕ). x.1) tile_span tiles,
      ap (sum_by (λ (x : ℕ × ℕ). x.1)) shown,
      system,
    )

-- the bytes of an arena are those of its tiles and headers
headers_fill : (a : Plain) → IsPlaced a → (is_main a ≡ false → (closed : List ℕ) × IsHeapPlaced a closed) → tiled_bytes a + headers_of a ≡ a.system
headers_fill a main heaps =
    let rest : ℕ = header_bytes 0 + 32 * last_heap a in
    let cases : (b : Bool) → is_main a ≡ b → tiled_bytes a + (if b then 0 else rest) ≡ a.system = elim [
      | true ↦ λ is. omega (arith, (main is).tiled)
      | false ↦ λ is. omega (arith, (heaps is).1.tiled, (heaps is).1.top)
    ] in
    cases (is_main a) refl

pub arena_used : (s : Scene) (a : ArenaScene) → IsWholeArena s a → map view_span (shown_arena s a).tiles ≡ map tile_span a.arena.tiles →
    in_use_of (shown_arena s a) ≡ in_use_bytes_of (shown_arena s a).tiles + headers_of a.arena
unfolding arena_shown
arena_used s a w shown = used_shown (shown_arena s a) a.arena.tiles (headers_of a.arena) shown (headers_fill a.arena w.main w.heaps)
