-- A ground after a chunk is claimed, shelved or parted.
use Rattle.std.proofs.Common.{◌≡◌, ℕ, ◌+◌, ◌-◌, ◌<◌, cond, List, [], ◌∷◌, map, set, Option, Some, None, IsTrue, refl, sym, ap, ◌∙◌, arith}
use Rattle.std.proofs.lemmas.Bool.{ne_eqb}
use Rattle.chunk_tags.specs.declared.tiles.Chunk.{Chunk}
use Rattle.chunk_tags.specs.Sizes.{IsChunkSize}
use Rattle.chunk_tags.specs.Tiles.{swapped, tile_at}
use Rattle.chunk_tags.specs.declared.tiles.Tile.{Tile}
use Rattle.chunk_tags.specs.declared.tiles.TileKind.TheVariants.{Used, Free}
use Rattle.ordinary_bins.specs.Lists.{Linked, put_front, list_at, times_listed as times_linked, without as apart_from}
use Rattle.chunk_image.specs.Rows.{TileRow}
use Rattle.large_bins.specs.SeenChunks.{size_in, size_at}
use Rattle.arena_rules.specs.PlainArena.{Plain, times_listed, is_own}
use Rattle.arena_rules.specs.Moves.{tile_of, claimed, shelved, parted, StandsAlone, is_free_tile}
use Rattle.arena_rules.proofs.ChunkMoves.{listed_tile, own_count, claimed_moved, shelved_moved, parted_moved}
use Rattle.arena_rules.proofs.Counts.{used_tile}
use Rattle.arena_rules.proofs.Lookups.{swapped_other}
use Rattle.heap_top.specs.declared.regions.Regions.{Regions}
use Rattle.heap_top.proofs.TopLaws.{none_inside}
use Rattle.arena_ground.specs.Grounds.{arena_with, tile_chunk, chunks_at, bins_at}
use Rattle.arena_ground.proofs.Bridges.{agree, size_kept, bin_is, bin_set, unlinked_at, bins_without}
use Rattle.arena_ground.proofs.Keeping.{top_swapped, IsSoundGround, lists_of, IsDone, done}

-- a used chunk is the tile at its address, and in no bin
pub own_tile : (r : Regions) (w : TileRow) (l : Linked) (last : Option ℕ) (c : Chunk) → IsSoundGround r w l last → IsTrue (is_own (arena_with r w l last) c) → tile_at c.at w.tiles ≡ Some (tile_of Used c.at c.size)
own_tile r w l last c g own = used_tile c (arena_with r w l last) g.sound.row (own_count (arena_with r w l last) c own)

pub used_unlinked : (r : Regions) (w : TileRow) (l : Linked) (last : Option ℕ) (c : Chunk) → IsSoundGround r w l last → tile_at c.at w.tiles ≡ Some (tile_of Used c.at c.size) → times_linked c.at l.lists ≡ 0
used_unlinked r w l last c g found = unlinked_at (arena_with r w l last) l.lists c.at (lists_of r w l last g) (ap is_free_tile found)

-- ---- a free chunk is claimed

pub claim_done : (r : Regions) (w : TileRow) (l m : Linked) (last : Option ℕ) (c : Chunk) → IsSoundGround r w l last → 0 < times_listed c (arena_with r w l last) → m.lists ≡ map (apart_from c.at) l.lists → m.extent ≡ l.extent → IsDone r (record w { tiles = swapped c.at (tile_of Used c.at c.size ∷ []) w.tiles }) m last (claimed (arena_with r w l last) c)
claim_done r w l m last c g some lists links =
    let a : Plain = arena_with r w l last in
    let t : Tile = tile_of Free c.at c.size in
    let x : Tile = tile_of Used c.at c.size in
    let found : tile_at c.at w.tiles ≡ Some t = listed_tile a c g.sound some in
    let now : List Tile = swapped c.at (x ∷ []) w.tiles in
    let v : TileRow = record w { tiles = now } in
    let moved = (claimed_moved a c g.sound some).moved in
    let bins : bins_at now m.lists ≡ (claimed a c).bins =
    ap (bins_at now) lists
    ∙ (agree w.tiles now (map (apart_from c.at) l.lists) (λ n some. size_kept c.at n t x w.tiles found refl refl)
    ∙ bins_without a l.lists c (lists_of r w l last g) some) in
    done r w v l m last (claimed a c) _ _ g.ground moved refl (record { tiles = refl; links = links }) (λ i. record (claimed a c) { bins = bins i })
    (top_swapped c.at (x ∷ []) t w.tiles found refl refl)

-- ---- a used chunk is shelved

pub shelve_done : (r : Regions) (w : TileRow) (l m : Linked) (last : Option ℕ) (c : Chunk) → IsSoundGround r w l last → IsTrue (is_own (arena_with r w l last) c) → StandsAlone (arena_with r w l last) c → m.lists ≡ put_front 1 c.at l.lists → m.extent ≡ l.extent → IsDone r (record w { tiles = swapped c.at (tile_of Free c.at c.size ∷ []) w.tiles }) m last (shelved (arena_with r w l last) c)
shelve_done r w l m last c g own alone lists links =
    let a : Plain = arena_with r w l last in
    let t : Tile = tile_of Used c.at c.size in
    let x : Tile = tile_of Free c.at c.size in
    let found : tile_at c.at w.tiles ≡ Some t = own_tile r w l last c g own in
    let now : List Tile = swapped c.at (x ∷ []) w.tiles in
    let v : TileRow = record w { tiles = now } in
    let moved = shelved_moved a c g.sound own alone in
    let sizes : (n : ℕ) → size_at now n ≡ size_at w.tiles n = λ n. size_kept c.at n t x w.tiles found refl refl in
    let here : tile_chunk w.tiles c.at ≡ c = ap (λ n. record { at = c.at; size = n }) (ap size_in found) in
    let bins : bins_at now m.lists ≡ (shelved a c).bins =
    ap (bins_at now) lists
    ∙ (agree w.tiles now (put_front 1 c.at l.lists) (λ n some. sizes n)
    ∙ (bin_set w.tiles l.lists 1 (c.at ∷ list_at 1 l.lists)
    ∙ ap (λ cs. set (bins_at w.tiles l.lists) 1 cs) (ap (λ d. d ∷ chunks_at w.tiles (list_at 1 l.lists)) here ∙ ap (λ cs. c ∷ cs) (sym (bin_is w.tiles l.lists 1))))) in
    done r w v l m last (shelved a c) _ _ g.ground moved refl (record { tiles = refl; links = links }) (λ i. record (shelved a c) { bins = bins i })
    (top_swapped c.at (x ∷ []) t w.tiles found refl refl)

-- ---- a used chunk is parted

pub part_done : (r : Regions) (w : TileRow) (l : Linked) (last : Option ℕ) (c : Chunk) (nb : ℕ) → IsSoundGround r w l last → IsTrue (is_own (arena_with r w l last) c) → IsChunkSize nb → IsChunkSize (c.size - nb) → IsDone r (record w { tiles = swapped c.at (tile_of Used c.at nb ∷ tile_of Used (c.at + nb) (c.size - nb) ∷ []) w.tiles }) l last (parted (arena_with r w l last) c nb)
part_done r w l last c nb g own first rest =
    let a : Plain = arena_with r w l last in
    let t : Tile = tile_of Used c.at c.size in
    let x : Tile = tile_of Used c.at nb in
    let y : Tile = tile_of Used (c.at + nb) (c.size - nb) in
    let found : tile_at c.at w.tiles ≡ Some t = own_tile r w l last c g own in
    let now : List Tile = swapped c.at (x ∷ y ∷ []) w.tiles in
    let v : TileRow = record w { tiles = now } in
    let moved = (parted_moved a c nb g.sound own first rest).moved in
    let none : tile_at (c.at + nb) w.tiles ≡ None = none_inside (c.at + nb) t w.tiles g.sound.row found (omega (arith, first.0)) (omega (arith, rest.0)) in
    let bare : times_linked (c.at + nb) l.lists ≡ 0 = unlinked_at a l.lists (c.at + nb) (lists_of r w l last g) (ap is_free_tile none) in
    let apart : (n : ℕ) → 0 < times_linked n l.lists → size_at now n ≡ size_at w.tiles n = λ n some.
    let ne : n ≡ c.at → ⊥ = λ e. omega (arith, some, used_unlinked r w l last c g found, ap (λ m. times_linked m l.lists) e) in
    let ne2 : n ≡ c.at + nb → ⊥ = λ e. omega (arith, some, bare, ap (λ m. times_linked m l.lists) e) in
    ap size_in (swapped_other c.at n (x ∷ y ∷ []) w.tiles ne
    (ap (λ b. cond b (Some x) (tile_at n (y ∷ []))) (ne_eqb c.at n (λ e. ne (sym e))) ∙ ap (λ b. cond b (Some y) None) (ne_eqb (c.at + nb) n (λ e. ne2 (sym e))))) in
    let bins : bins_at now l.lists ≡ a.bins = agree w.tiles now l.lists apart in
    done r w v l l last (parted a c nb) _ _ g.ground moved refl (record { tiles = refl; links = refl }) (λ i. record (parted a c nb) { bins = bins i })
    (top_swapped c.at (x ∷ y ∷ []) t w.tiles found refl refl)
