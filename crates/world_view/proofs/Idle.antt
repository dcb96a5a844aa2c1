-- Of an arena's tiles those in bins and top are idle; they are at most its bytes from the system, of which there are at most
-- 2^32.
use Rattle.std.proofs.Common.{◌≡◌, ℕ, ◌+◌, ◌*◌, ◌^◌, ◌≤◌, Bool, true, false, List, [], ◌∷◌, ◌++◌, Option, Some, None, refl, ap, arith}
use Rattle.std.specs.Prelude.{filter, map, length, sum_by, IfSome, if◌then◌else◌}
use Rattle.std.specs.List.{AllByRecursion}
use Rattle.std.specs.Global.{Vec}
use Rattle.std.proofs.lemmas.List.{length-map}
use Rattle.std.proofs.lemmas.List.Sums.{sum_by-cons}
use Rattle.chunk_tags.specs.declared.block.Block.{Block}
use Rattle.chunk_tags.specs.declared.tiles.Tile.{Tile}
use Rattle.thread_cache.specs.Caches.{CacheValue, addresses_of}
use Rattle.thread_cache.specs.Held.{IsSoundCache}
use Rattle.arena_rules.specs.HeapPlaces.{IsHeapLength, IsHeapPlaced}
use Rattle.arena_rules.specs.MainPlaces.{IsMainPlaced, IsPlaced}
use Rattle.arena_rules.specs.PlainArena.{Plain, HeapWindows, is_main}
use Rattle.stats_text.specs.declared.views.Place.{Place}
use Rattle.stats_text.specs.declared.views.TileView.{TileView}
use Rattle.stats_text.specs.Totals.{is_idle_place, tile_bytes_of, idle_bytes_of}
use Rattle.world_view.specs.Places.{FoundAt, view_of_tile, place_in, shown_at, shown_tiles}

-- a chunk's bytes, where it is idle
abbrev idle_of : TileView → ℕ
idle_of t = if is_idle_place t.place then t.size else 0

idle-nil : idle_bytes_of [] ≡ 0
unfolding idle_bytes_of tile_bytes_of
idle-nil = refl

idle-cons : (t : TileView) (ts : List TileView) → idle_bytes_of (t ∷ ts) ≡ idle_of t + idle_bytes_of ts
unfolding idle_bytes_of tile_bytes_of
idle-cons t ts =
    let rest : List TileView = filter (λ x. is_idle_place x.place) ts in
    elim (is_idle_place t.place) as (λ b. sum_by (λ x. x.size) (if b then t ∷ rest else rest) ≡ (if b then t.size else 0) + sum_by (λ x. x.size) rest) [
      | true ↦ sum_by-cons (λ x. x.size) t rest
      | false ↦ omega arith
    ]

idle_most : (t : TileView) → idle_of t ≤ t.size
idle_most t = elim (is_idle_place t.place) as (λ b. (if b then t.size else 0) ≤ t.size) [ true ↦ omega arith | false ↦ omega arith ]

shown_most : (t : Tile) (o : Option Place) (rest : List TileView) → idle_bytes_of (shown_at t o ++ rest) ≤ t.size + idle_bytes_of rest
shown_most t None rest = omega arith
shown_most t (Some place) rest =
    let v : TileView = view_of_tile t.addr t.size 0 place in
    omega (arith, idle-cons v rest, idle_most v)

-- what is shown of tiles has at most their bytes
pub idle_tiles : (found : FoundAt) (ts : List Tile) → idle_bytes_of (shown_tiles found ts) ≤ sum_by (λ t. t.size) ts
idle_tiles found [] = omega (arith, idle-nil)
idle_tiles found (t ∷ ts) =
    omega (arith, sum_by-cons (λ (x : Tile). x.size) t ts, idle_tiles found ts, shown_most t (place_in found t) (shown_tiles found ts))

-- what follows for both, follows
pub filled_cases : (P : Type 0) (a : Plain) → IsPlaced a → (is_main a ≡ false → (closed : List ℕ) × IsHeapPlaced a closed) → (IsMainPlaced a → P) → ((closed : List ℕ) → IsHeapPlaced a closed → P) → P
filled_cases P a main heaps one other =
    let cases : (b : Bool) → is_main a ≡ b → P = elim [
      | true ↦ λ is. one (main is)
      | false ↦ λ is. other (heaps is).0 (heaps is).1
    ] in
    cases (is_main a) refl

pub idle_in_arena : (a : Plain) (found : FoundAt) → IsPlaced a → (is_main a ≡ false → (closed : List ℕ) × IsHeapPlaced a closed) → idle_bytes_of (shown_tiles found a.tiles) ≤ a.system
idle_in_arena a found main heaps =
    filled_cases (idle_bytes_of (shown_tiles found a.tiles) ≤ a.system) a main heaps
    (λ p. omega (arith, idle_tiles found a.tiles, p.tiled))
    (λ closed p. omega (arith, idle_tiles found a.tiles, p.tiled))

heaps_fit : (w : HeapWindows) (lens : List ℕ) → AllByRecursion (IsHeapLength w) lens → w.heap_max ≤ 67108864 → sum_by (λ len. len) lens ≤ 67108864 * length lens
heaps_fit w [] each most = omega arith
heaps_fit w (len ∷ lens) each most = omega (arith, sum_by-cons (λ (n : ℕ). n) len lens, heaps_fit w lens each.1 most, each.0.window)

pub system_fits : (a : Plain) → IsPlaced a → (is_main a ≡ false → (closed : List ℕ) × IsHeapPlaced a closed) → a.system ≤ 2 ^ 32
system_fits a main heaps =
    filled_cases (a.system ≤ 2 ^ 32) a main heaps
    (λ p. omega (arith, p.system, p.limit, p.piece_limit))
    (λ closed p. omega (arith, p.system, heaps_fit a.windows closed p.each p.windows.most, p.last.window, p.windows.most, p.windows.heaps, p.count))

-- a cache has at most 64 lists
pub sixty_four : (v : List (Vec ℕ)) (c : CacheValue) → map (λ list. list.items) v ≡ addresses_of c → IfSome c IsSoundCache → length v ≤ 64
sixty_four v None e s = omega (arith, ap length e, length-map v (λ (list : Vec ℕ). list.items))
sixty_four v (Some c) e s =
    omega (arith, ap length e, length-map v (λ (list : Vec ℕ). list.items), length-map c.lists (λ (blocks : List Block). map (λ b. b.addr) blocks), s.width)
