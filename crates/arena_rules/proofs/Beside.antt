-- Laws of what no move changes, for this crate and those above it: all of an arena but its tiles and its bins.
use Rattle.std.proofs.Common.{◌≡◌, ℕ, ◌+◌, ◌-◌, Bool, true, false, cond, [], ◌∷◌, Option, Some, None, refl, ◌∙◌}
use Rattle.std.specs.Prelude.{nat_lt}
use Rattle.chunk_tags.specs.declared.tiles.Chunk.{Chunk}
use Rattle.chunk_tags.specs.BinOrder.{inserted}
use Rattle.chunk_tags.specs.Sizes.{is_small_size, small_index_of, large_index_of}
use Rattle.chunk_tags.specs.Tiles.{is_free, tile_before, tile_behind, top_of}
use Rattle.chunk_tags.specs.declared.tiles.Tile.{Tile}
use Rattle.chunk_tags.specs.declared.tiles.TileKind.TheVariants.{Used, Top}
use Rattle.arena_rules.specs.PlainArena.{Plain, bin_at, with_bin, with_front, unlinked, beside}
use Rattle.arena_rules.specs.Moves.{tile_of, with_tiles, Hand, joined, joined_before, joined_behind, is_before_top, absorbed, shelved, claimed, parted, top_size, cut_from_top, with_top_size, with_new_top, closed_top, with_moved_top}
use Rattle.arena_rules.specs.Release.{Merging, merged}
use Rattle.arena_rules.specs.Search.{carved, sorted_in}

joined_if : (h : Hand) (t : Tile) (at : ℕ) (b : Bool) → beside (cond b (joined h t at) h).arena ≡ beside h.arena
joined_if h t at true = refl
joined_if h t at false = refl

pub beside_joined_before : (h : Hand) → beside (joined_before h).arena ≡ beside h.arena
beside_joined_before h =
    let cases : (o : Option Tile) → let r : Hand = elim o [ None ↦ h | Some t ↦ cond (is_free t) (joined h t t.addr) h ] in beside r.arena ≡ beside h.arena = elim [
      | None ↦ refl
      | Some t ↦ joined_if h t t.addr (is_free t)
    ] in
    cases (tile_before h.chunk.at h.arena.tiles)

pub beside_joined_behind : (h : Hand) → beside (joined_behind h).arena ≡ beside h.arena
beside_joined_behind h =
    let cases : (o : Option Tile) → let r : Hand = elim o [ None ↦ h | Some t ↦ cond (is_free t) (joined h t h.chunk.at) h ] in beside r.arena ≡ beside h.arena = elim [
      | None ↦ refl
      | Some t ↦ joined_if h t h.chunk.at (is_free t)
    ] in
    cases (tile_behind h.chunk.at h.arena.tiles)

pub beside_merged : (a : Plain) (c : Chunk) → beside (merged a c).arena ≡ beside a
beside_merged a c =
    let h1 : Hand = joined_before (record { chunk = c; arena = a }) in
    let h2 : Hand = joined_behind h1 in
    let cases : (b : Bool) → beside (cond {A = Merging} b (record { arena = absorbed h2.arena h2.chunk; size = h2.chunk.size + top_size h2.arena; in_top = true }) (record { arena = shelved h2.arena h2.chunk; size = h2.chunk.size; in_top = false })).arena ≡ beside h2.arena = elim [ true ↦ refl | false ↦ refl ] in
    cases (is_before_top h2.arena h2.chunk) ∙ (beside_joined_behind h1 ∙ beside_joined_before (record { chunk = c; arena = a }))

pub beside_carved : (a : Plain) (c : Chunk) (nb : ℕ) → beside (carved a c nb) ≡ beside a
beside_carved a c nb =
    let cases : (b : Bool) → beside (cond b (claimed a c) (shelved (parted (claimed a c) c nb) (record { at = c.at + nb; size = c.size - nb }))) ≡ beside a = elim [ true ↦ refl | false ↦ refl ] in
    cases (nat_lt (c.size - nb) 32)

pub beside_sorted : (a : Plain) (c : Chunk) → beside (sorted_in a c) ≡ beside a
beside_sorted a c =
    let b : Plain = unlinked a c in
    let i : ℕ = large_index_of c.size in
    let cases : (small : Bool) → beside (cond small (with_front b (small_index_of c.size) c) (with_bin b i (inserted c (bin_at b i)))) ≡ beside a = elim [ true ↦ refl | false ↦ refl ] in
    cases (is_small_size c.size)

pub beside_cut : (a : Plain) (nb : ℕ) → beside (cut_from_top a nb) ≡ beside a
beside_cut a nb =
    let cases : (o : Option Tile) → beside (elim o [ None ↦ a | Some t ↦ with_tiles a t.addr (tile_of Used t.addr nb ∷ tile_of Top (t.addr + nb) (t.size - nb) ∷ []) ]) ≡ beside a = elim [ None ↦ refl | Some t ↦ refl ] in
    cases (top_of a.tiles)

pub beside_sized : (a : Plain) (size : ℕ) → beside (with_top_size a size) ≡ beside a
beside_sized a size =
    let cases : (o : Option Tile) → beside (elim o [ None ↦ a | Some t ↦ with_tiles a t.addr (tile_of Top t.addr size ∷ []) ]) ≡ beside a = elim [ None ↦ refl | Some t ↦ refl ] in
    cases (top_of a.tiles)

pub beside_moved_top : (a : Plain) (at size : ℕ) → beside (with_moved_top a at size) ≡ beside a
beside_moved_top a at size =
    let cases : (o : Option Tile) → beside (elim o [ None ↦ with_new_top a at size | Some t ↦ with_new_top (with_tiles a t.addr (closed_top t)) at size ]) ≡ beside a = elim [ None ↦ refl | Some t ↦ refl ] in
    cases (top_of a.tiles)
