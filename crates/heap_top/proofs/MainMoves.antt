-- Main after each move of its top or of its ranges, and what a move of top leaves, for this crate and those above it.
use Rattle.std.proofs.Common.{◌≡◌, ℕ, ◌+◌, ◌-◌, ◌%◌, ◌<◌, ◌≤◌, Bool, true, false, cond, [], ◌∷◌, Option, Some, None, IsTrue, refl, ap, arith}
use Rattle.chunk_tags.specs.declared.tiles.Chunk.{Chunk}
use Rattle.chunk_tags.specs.Sizes.{IsChunkSize}
use Rattle.chunk_tags.specs.Tiles.{top_of}
use Rattle.chunk_tags.specs.Tunables.{main_limit}
use Rattle.chunk_tags.specs.declared.tiles.Tile.{Tile}
use Rattle.chunk_tags.specs.declared.tiles.TileKind.TheVariants.{Used, Top}
use Rattle.address_space.specs.Spaces.{main_start, piece_start}
use Rattle.arena_rules.specs.MainPlaces.{IsMainPlaced}
use Rattle.arena_rules.specs.PlainArena.{Plain, IsSound}
use Rattle.arena_rules.specs.Moves.{tile_of, closed_top, cut_from_top, top_end, top_size, with_new_top, with_moved_top, with_tiles, with_top_size}
use Rattle.arena_rules.specs.Growth.{break_taken, has_top_for, is_top_at_break, piece_taken, with_break, with_piece}
use Rattle.arena_rules.specs.Trim.{main_cut, CanCutMain}
use Rattle.arena_rules.proofs.MainPlaces.{placed_along, break_grown, piece_grown, main_cut_moved}
use Rattle.arena_rules.proofs.Moved.{Moved, nothing}
use Rattle.arena_rules.proofs.TopEnds.{cut_end}
use Rattle.arena_rules.proofs.TopMoves.{cut_moved}
use Rattle.heap_top.proofs.TopLaws.{has_room, no_room}

-- main is sound and fills its ranges still, with the same bins
pub record IsMainKept (a new : Plain) : Type 0 where
  pub sound : IsSound new
  pub placed : IsMainPlaced new
  pub bins : new.bins ≡ a.bins
  pub number : new.number ≡ a.number
  pub windows : new.windows ≡ a.windows

-- all of an arena but its tiles
abbrev pub but_tiles : Plain → Plain
but_tiles a = record a { tiles = [] }

-- ---- a chunk is cut off

pub record IsCutOff (a : Plain) (nb : ℕ) : Type 0 where
  pub came : Chunk → ℕ
  pub moved : Moved a (cut_from_top a nb) (λ e. 0) came nothing nothing
  pub same : but_tiles (cut_from_top a nb) ≡ but_tiles a
  pub end : top_end (cut_from_top a nb) ≡ top_end a

pub cut_off : (a : Plain) (nb : ℕ) → IsSound a → IsChunkSize nb → IsTrue (has_top_for a nb) → IsCutOff a nb
cut_off a nb s chunk room =
    let cases : (o : Option Tile) → top_of a.tiles ≡ o → IsCutOff a nb = elim [
      | None ↦ λ e. absurd (no_room a nb e room)
      | Some t ↦ λ e. record {
        came = _;
        moved = cut_moved a t nb s e chunk (has_room a t nb e room);
        end = cut_end a t nb e (omega (arith, has_room a t nb e room));
        same = ap (λ o. but_tiles (elim o [ None ↦ a | Some t ↦ with_tiles a t.addr (tile_of Used t.addr nb ∷ tile_of Top (t.addr + nb) (t.size - nb) ∷ []) ])) e;
      }
    ] in
    cases (top_of a.tiles) refl

pub cut_kept : (a : Plain) (nb : ℕ) → IsSound a → IsMainPlaced a → IsChunkSize nb → IsTrue (has_top_for a nb) → IsMainKept a (cut_from_top a nb)
cut_kept a nb s f chunk room =
    let c : IsCutOff a nb = cut_off a nb s chunk room in
    record {
      sound = c.moved.sound;
      placed = placed_along a (cut_from_top a nb) _ c.came c.moved (ap (λ (x : Plain). record x { bins = [] }) c.same) f;
      bins = ap (λ (x : Plain). x.bins) c.same;
      number = ap (λ (x : Plain). x.number) c.same;
      windows = ap (λ (x : Plain). x.windows) c.same;
    }

-- ---- top has another size, or moves

pub sized_same : (a : Plain) (size : ℕ) → but_tiles (with_top_size a size) ≡ but_tiles a
sized_same a size =
    let sized : (o : Option Tile) → but_tiles (elim o [ None ↦ a | Some t ↦ with_tiles a t.addr (tile_of Top t.addr size ∷ []) ]) ≡ but_tiles a = elim [ None ↦ refl | Some t ↦ refl ] in
    sized (top_of a.tiles)

pub moved_same : (a : Plain) (at size : ℕ) → but_tiles (with_moved_top a at size) ≡ but_tiles a
moved_same a at size =
    let moved : (o : Option Tile) → but_tiles (elim o [ None ↦ with_new_top a at size | Some t ↦ with_new_top (with_tiles a t.addr (closed_top t)) at size ]) ≡ but_tiles a = elim [ None ↦ refl | Some t ↦ refl ] in
    moved (top_of a.tiles)

-- ---- main grows

break_same : (a : Plain) (growth : ℕ) → but_tiles (break_taken a growth) ≡ but_tiles (with_break a growth)
break_same a growth =
    let b : Plain = with_break a growth in
    let cases : (is : Bool) → but_tiles (cond is (with_top_size b (top_size a + growth)) (with_moved_top b a.break_at growth)) ≡ but_tiles b = elim [
      | true ↦ sized_same b (top_size a + growth)
      | false ↦ moved_same b a.break_at growth
    ] in
    cases (is_top_at_break a)

pub break_kept : (a : Plain) (growth : ℕ) → IsSound a → IsMainPlaced a → 0 < growth → growth % 4096 ≡ 0 → a.break_at + growth ≤ main_start + main_limit → IsMainKept a (break_taken a growth)
break_kept a growth s f some pages window =
    let new : Plain = break_taken a growth in
    let same : but_tiles new ≡ but_tiles (with_break a growth) = break_same a growth in
    let grown = break_grown a growth s f some pages window in
    record {
      sound = grown.moved.sound;
      placed = grown.placed;
      bins = ap (λ (x : Plain). x.bins) same;
      number = ap (λ (x : Plain). x.number) same;
      windows = ap (λ (x : Plain). x.windows) same;
    }

piece_same : (a : Plain) (len : ℕ) → but_tiles (piece_taken a len) ≡ but_tiles (with_piece a len)
piece_same a len = moved_same (with_piece a len) a.next_piece len

pub piece_kept : (a : Plain) (len : ℕ) → IsSound a → IsMainPlaced a → 0 < len → len % 4096 ≡ 0 → a.next_piece + len ≤ piece_start + main_limit → IsMainKept a (piece_taken a len)
piece_kept a len s f some pages window =
    let new : Plain = piece_taken a len in
    let same : but_tiles new ≡ but_tiles (with_piece a len) = piece_same a len in
    let grown = piece_grown a len s f some pages window in
    record {
      sound = grown.moved.sound;
      placed = grown.placed;
      bins = ap (λ (x : Plain). x.bins) same;
      number = ap (λ (x : Plain). x.number) same;
      windows = ap (λ (x : Plain). x.windows) same;
    }

-- ---- the end of the break is given back

pub trim_kept : (a : Plain) (bytes : ℕ) → IsSound a → IsMainPlaced a → CanCutMain a bytes → IsMainKept a (main_cut a bytes)
trim_kept a bytes s f can =
    let same : but_tiles (with_top_size a (top_size a - bytes)) ≡ but_tiles a = sized_same a (top_size a - bytes) in
    let cut = main_cut_moved a bytes s f can in
    record {
      sound = cut.moved.sound;
      placed = cut.placed;
      bins = ap (λ (x : Plain). x.bins) same;
      number = ap (λ (x : Plain). x.number) same;
      windows = ap (λ (x : Plain). x.windows) same;
    }
