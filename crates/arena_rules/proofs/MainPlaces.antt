-- Laws of the places of main's tiles, for this crate and those above it: every move keeps them, and so do growing by the
-- break or by a piece, and giving back the end of the break.
use Rattle.std.proofs.Common.{◌≡◌, ℕ, ◌+◌, ◌-◌, ◌%◌, ◌<◌, ◌≤◌, Bool, true, false, cond, List, Option, Some, None, IfSome, refl, sym, ap, ◌∙◌, subst, inl, inr, arith}
use Rattle.std.specs.Prelude.{◌⊎◌}
use Rattle.std.proofs.lemmas.Bool.{eqb-true, eq-eqb, cases_lt}
use Rattle.chunk_tags.specs.declared.tiles.Chunk.{Chunk}
use Rattle.chunk_tags.specs.Sizes.{IsChunkSize}
use Rattle.chunk_tags.specs.Tiles.{end_of, IsTile, tile_behind, top_of}
use Rattle.chunk_tags.specs.declared.tiles.Tile.{Tile}
use Rattle.chunk_tags.specs.Tunables.{main_limit}
use Rattle.address_space.specs.Spaces.{main_start, piece_start}
use Rattle.arena_rules.specs.PlainArena.{Plain, empty_main, is_main, IsSound, once_of, beside}
use Rattle.arena_rules.specs.MainPlaces.{covers, times_covered, break_bytes, piece_bytes, IsMainPlaced, IsPlaced}
use Rattle.arena_rules.specs.Moves.{with_top_size, with_moved_top, left_of_top, top_size, top_end}
use Rattle.arena_rules.specs.Growth.{with_break, with_piece, is_top_at_break, break_taken, break_rest, piece_taken}
use Rattle.arena_rules.specs.Trim.{main_cut, CanCutMain}
use Rattle.arena_rules.proofs.Beside.{beside_sized, beside_moved_top}
use Rattle.arena_rules.proofs.Rows.{if_found}
use Rattle.arena_rules.proofs.Changes.{AreNeighbours, neighbours_behind, tile_is}
use Rattle.arena_rules.proofs.Entries.{Apart}
use Rattle.arena_rules.proofs.Covered.{covers_one, covers_none, covers_adds, covered_by, apart_uncovered}
use Rattle.arena_rules.proofs.Moved.{Moved, parts_of, none, nothing, moved_as, sound_as, moved_from, moved_to, bytes_moved}
use Rattle.arena_rules.proofs.Tops.{IsTopOf, top_found}
use Rattle.arena_rules.proofs.TopMoves.{sized_moved, shrunk_fits, top_moved, all_at}

-- ---- what no tile has

-- an address that is neither in main's break nor in its pieces
pub record IsOutside (a : Plain) (n : ℕ) : Type 0 where
  pub break : (n < main_start) ⊎ (a.break_at ≤ n)
  pub pieces : (n < piece_start) ⊎ (a.next_piece ≤ n)

pub uncovered : (a : Plain) (n : ℕ) → IsMainPlaced a → IsOutside a n → times_covered n a ≡ 0
uncovered a n p out =
    let break : (n < main_start) ⊎ (main_start + break_bytes a ≤ n) = elim out.break [ inl before ↦ inl before | inr after ↦ inr (omega (arith, after, p.start)) ] in
    let pieces : (n < piece_start) ⊎ (piece_start + piece_bytes a ≤ n) = elim out.pieces [ inl before ↦ inl before | inr after ↦ inr (omega (arith, after, p.pieces)) ] in
    omega (arith, p.filled n, covers_none n main_start (break_bytes a) break, covers_none n piece_start (piece_bytes a) pieces)

-- ---- moves that take and give no bytes

pub placed_moved : (a new : Plain) (left came : Chunk → ℕ) → Moved a new left came nothing nothing → new.break_at ≡ a.break_at → new.next_piece ≡ a.next_piece → new.system ≡ a.system → IsMainPlaced a → IsMainPlaced new
placed_moved a new left came m break_is piece_is system_is p = record {
  filled = λ n. omega (
    arith,
    m.spans (covers n) (covers_adds n),
    p.filled n,
    ap (λ b. covers n main_start (b - main_start)) break_is,
    ap (λ b. covers n piece_start (b - piece_start)) piece_is,
  );
  start = omega (arith, p.start, break_is);
  limit = omega (arith, p.limit, break_is);
  pieces = omega (arith, p.pieces, piece_is);
  piece_limit = omega (arith, p.piece_limit, piece_is);
  break_page = ap (λ n. n % 4096) break_is ∙ p.break_page;
  piece_page = ap (λ n. n % 4096) piece_is ∙ p.piece_page;
  system = omega (arith, p.system, system_is, break_is, piece_is);
  tiled = omega (arith, bytes_moved a new left came nothing nothing m, p.tiled, system_is);
}

pub placed_along : (a new : Plain) (left came : Chunk → ℕ) → Moved a new left came nothing nothing → beside new ≡ beside a → IsMainPlaced a → IsMainPlaced new
placed_along a new left came m same p =
    placed_moved a new left came m (ap (λ x. x.break_at) same) (ap (λ x. x.next_piece) same) (ap (λ x. x.system) same) p

pub placed_still : (a new : Plain) (left came : Chunk → ℕ) → Moved a new left came nothing nothing → beside new ≡ beside a → IsPlaced a → IsPlaced new
placed_still a new left came m same placed main =
    placed_along a new left came m same (placed (ap is_main (sym same) ∙ main))

-- ---- the break grows

-- no tile lies in what the break grows by
break_apart : (a : Plain) (growth : ℕ) → IsSound a → IsMainPlaced a → 0 < growth → a.break_at + growth ≤ main_start + main_limit → Apart a.break_at (a.break_at + growth) a.tiles
break_apart a growth s p some le =
    apart_uncovered a.break_at (a.break_at + growth) a.tiles s.row (omega (arith, some)) (λ n ge lt.
    uncovered a n p (record { break = inr ge; pieces = inl (omega (arith, lt, le)) }))

pub record IsGrowth (a new : Plain) (came : Chunk → ℕ) (at size : ℕ) : Type 0 where
  pub moved : Moved a new none came nothing (λ v. v at size)
  pub placed : IsMainPlaced new

grown_placed : (a new : Plain) (came : Chunk → ℕ) (growth : ℕ) → IsMainPlaced a → Moved a new none came nothing (λ v. v a.break_at growth) → growth % 4096 ≡ 0 → a.break_at + growth ≤ main_start + main_limit → new.break_at ≡ a.break_at + growth → new.next_piece ≡ a.next_piece → new.system ≡ a.system + growth → IsMainPlaced new
grown_placed a new came growth p m whole le break_is piece_is system_is = record {
  filled = λ n.
      let length : break_bytes new ≡ break_bytes a + growth = omega (arith, p.start, break_is) in
      let end : main_start + break_bytes a ≡ a.break_at = omega (arith, p.start) in
      omega (
        arith,
        m.spans (covers n) (covers_adds n),
        p.filled n,
        ap (covers n main_start) length,
        (covers_adds n).adds main_start (break_bytes a) growth,
        ap (λ at. covers n at growth) end,
        ap (λ b. covers n piece_start (b - piece_start)) piece_is,
      );
  start = omega (arith, p.start, break_is);
  limit = omega (arith, le, break_is);
  pieces = omega (arith, p.pieces, piece_is);
  piece_limit = omega (arith, p.piece_limit, piece_is);
  break_page = omega (arith, p.break_page, whole, break_is);
  piece_page = ap (λ n. n % 4096) piece_is ∙ p.piece_page;
  system = omega (arith, p.system, p.start, system_is, break_is, piece_is);
  tiled = omega (arith, bytes_moved a new none came nothing (λ v. v a.break_at growth) m, p.tiled, system_is);
}

-- the tile behind top begins behind what the break grows by
room_at_break : (a : Plain) (t : Tile) (growth : ℕ) → IsSound a → IsMainPlaced a → top_of a.tiles ≡ Some t → end_of t ≡ a.break_at → 0 < growth → a.break_at + growth ≤ main_start + main_limit → IfSome (tile_behind t.addr a.tiles) (λ u. t.addr + (t.size + growth) ≤ u.addr)
room_at_break a t growth s p e at_break some le =
    if_found (λ u. t.addr + (t.size + growth) ≤ u.addr) (tile_behind t.addr a.tiles) (λ u behind.
    let next : AreNeighbours t u a.tiles = neighbours_behind t u a.tiles s.row (top_found t a.tiles s.row e).found behind in
    elim (all_at (λ w. (end_of w ≤ a.break_at) ⊎ (a.break_at + growth ≤ w.addr)) u.addr u a.tiles (break_apart a growth s p some le) next.second) [
      | inl before ↦ absurd (omega (arith, before, next.meets.order, at_break, next.tile_behind_it.size.0))
      | inr after ↦ omega (arith, after, at_break)
    ])

-- top ends at the break
record IsTopAtBreak (a : Plain) : Type 0 where
  tile : Tile
  top : top_of a.tiles ≡ Some tile
  end : end_of tile ≡ a.break_at

top_at_break : (a : Plain) → IsMainPlaced a → is_top_at_break a ≡ true → IsTopAtBreak a
top_at_break a p is =
    let cases : (o : Option Tile) → top_of a.tiles ≡ o → elim o [ None ↦ 0 | Some t ↦ end_of t ] ≡ a.break_at → IsTopAtBreak a = elim [
      | None ↦ λ e h. absurd (omega (arith, h, p.start))
      | Some t ↦ λ e h. record { tile = t; top = e; end = h }
    ] in
    cases (top_of a.tiles) refl (eqb-true (top_end a) a.break_at is)

extended : (a : Plain) (growth : ℕ) → IsSound a → IsMainPlaced a → is_top_at_break a ≡ true → 0 < growth → growth % 4096 ≡ 0 → a.break_at + growth ≤ main_start + main_limit → Moved a (with_top_size (with_break a growth) (top_size a + growth)) none none nothing (λ v. v a.break_at growth)
extended a growth s p is some whole le =
    let t : IsTopAtBreak a = top_at_break a p is in
    let b : Plain = with_break a growth in
    let top : IsTopOf t.tile a.tiles = top_found t.tile a.tiles s.row t.top in
    let tile : IsTile t.tile = tile_is t.tile a.tiles s.row top.found in
    let size : top_size a ≡ t.tile.size = ap (λ o. elim o [ None ↦ 0 | Some t ↦ t.size ]) t.top in
    let chunk : IsChunkSize (t.tile.size + growth) = (omega (arith, tile.size.0), omega (arith, tile.size.1, whole)) in
    let m : Moved b (with_top_size b (t.tile.size + growth)) none none (λ v. v t.tile.addr t.tile.size) (λ v. v t.tile.addr (t.tile.size + growth)) =
    sized_moved b t.tile (t.tile.size + growth) (sound_as a b refl refl s) t.top chunk (room_at_break a t.tile growth s p t.top t.end some le) in
    subst (λ n. Moved a (with_top_size b (n + growth)) none none nothing (λ v. v a.break_at growth)) (sym size)
    (moved_as a (with_top_size b (t.tile.size + growth)) none none none none _ _ nothing (λ v. v a.break_at growth)
    (moved_from a b (with_top_size b (t.tile.size + growth)) none none _ _ refl m) (λ e. refl)
    (λ v adds. omega (arith, adds.adds t.tile.addr t.tile.size growth, ap (λ n. v n growth) t.end)))

whole_is_chunk : (n : ℕ) → 0 < n → n % 4096 ≡ 0 → IsChunkSize n
whole_is_chunk n some whole = (omega (arith, some, whole), omega (arith, whole))

pub break_grown : (a : Plain) (growth : ℕ) → IsSound a → IsMainPlaced a → 0 < growth → growth % 4096 ≡ 0 → a.break_at + growth ≤ main_start + main_limit → IsGrowth a (break_taken a growth) (λ e. once_of e (break_rest a)) a.break_at growth
break_grown a growth s p some whole le =
    let b : Plain = with_break a growth in
    let sound : IsSound b = sound_as a b refl refl s in
    let done : (new : Plain) (came : Chunk → ℕ) → Moved a new none came nothing (λ v. v a.break_at growth) → beside new ≡ beside b → IsGrowth a new came a.break_at growth = λ new came m same. record {
      moved = m;
      placed = grown_placed a new came growth p m whole le (ap (λ x. x.break_at) same) (ap (λ x. x.next_piece) same) (ap (λ x. x.system) same);
    } in
    let cases : (t : Bool) → is_top_at_break a ≡ t → IsGrowth a (cond t (with_top_size b (top_size a + growth)) (with_moved_top b a.break_at growth)) (λ e. once_of e (cond t None (left_of_top a))) a.break_at growth = elim [
      | true ↦ λ is. done (with_top_size b (top_size a + growth)) none (extended a growth s p is some whole le) (beside_sized b (top_size a + growth))
      | false ↦ λ is. done (with_moved_top b a.break_at growth) (λ e. once_of e (left_of_top a))
          (moved_from a b (with_moved_top b a.break_at growth) none (λ e. once_of e (left_of_top a)) nothing (λ v. v a.break_at growth) refl
          (top_moved b a.break_at growth sound (whole_is_chunk growth some whole) (omega (arith, p.break_page)) (break_apart a growth s p some le)))
          (beside_moved_top b a.break_at growth)
    ] in
    cases (is_top_at_break a) refl

-- ---- a piece is top

pub piece_grown : (a : Plain) (len : ℕ) → IsSound a → IsMainPlaced a → 0 < len → len % 4096 ≡ 0 → a.next_piece + len ≤ piece_start + main_limit → IsGrowth a (piece_taken a len) (λ e. once_of e (left_of_top a)) a.next_piece len
piece_grown a len s p some whole le =
    let b : Plain = with_piece a len in
    let new : Plain = piece_taken a len in
    let came : Chunk → ℕ = λ e. once_of e (left_of_top a) in
    let same : beside new ≡ beside b = beside_moved_top b a.next_piece len in
    let break_is : new.break_at ≡ a.break_at = ap (λ x. x.break_at) same in
    let piece_is : new.next_piece ≡ a.next_piece + len = ap (λ x. x.next_piece) same in
    let system_is : new.system ≡ a.system + len = ap (λ x. x.system) same in
    let apart : Apart a.next_piece (a.next_piece + len) a.tiles = apart_uncovered a.next_piece (a.next_piece + len) a.tiles s.row (omega (arith, some)) (λ n ge lt.
    uncovered a n p (record { break = inr (omega (arith, ge, p.limit, p.pieces)); pieces = inr ge })) in
    let m : Moved a new none came nothing (λ v. v a.next_piece len) = moved_from a b new none came nothing (λ v. v a.next_piece len) refl
    (top_moved b a.next_piece len (sound_as a b refl refl s) (whole_is_chunk len some whole) (omega (arith, p.piece_page)) apart) in
    record {
      moved = m;
      placed = record {
        filled = λ n.
            let length : piece_bytes new ≡ piece_bytes a + len = omega (arith, p.pieces, piece_is) in
            let end : piece_start + piece_bytes a ≡ a.next_piece = omega (arith, p.pieces) in
            omega (
              arith,
              m.spans (covers n) (covers_adds n),
              p.filled n,
              ap (covers n piece_start) length,
              (covers_adds n).adds piece_start (piece_bytes a) len,
              ap (λ at. covers n at len) end,
              ap (λ b. covers n main_start (b - main_start)) break_is,
            );
        start = omega (arith, p.start, break_is);
        limit = omega (arith, p.limit, break_is);
        pieces = omega (arith, p.pieces, piece_is);
        break_page = ap (λ n. n % 4096) break_is ∙ p.break_page;
        piece_limit = omega (arith, le, piece_is);
        piece_page = omega (arith, p.piece_page, whole, piece_is);
        system = omega (arith, p.system, p.pieces, system_is, break_is, piece_is);
        tiled = omega (arith, bytes_moved a new none came nothing (λ v. v a.next_piece len) m, p.tiled, system_is);
      };
    }

-- ---- the end of the break is given back

pub record IsCut (a : Plain) (bytes : ℕ) : Type 0 where
  pub moved : Moved a (main_cut a bytes) none none (λ v. v (a.break_at - bytes) bytes) nothing
  pub placed : IsMainPlaced (main_cut a bytes)

-- what is left of main is in its window
cut_start : (a : Plain) (t : Tile) (bytes : ℕ) → IsMainPlaced a → IsTopOf t a.tiles → end_of t ≡ a.break_at → bytes + 32 ≤ t.size → main_start ≤ a.break_at - bytes
cut_start a t bytes p top end left =
    elim (cases_lt t.addr main_start) [
      | inl before ↦
          let out : times_covered t.addr a ≡ 0 = uncovered a t.addr p (record { break = inl before; pieces = inl (omega (arith, before, p.start, p.limit)) }) in
          absurd (omega (arith, out, covered_by t.addr t.addr t a.tiles top.found, covers_one t.addr t.addr t.size (omega arith) (omega (arith, left))))
      | inr within ↦ omega (arith, within, end, left)
    ]

pub main_cut_moved : (a : Plain) (bytes : ℕ) → IsSound a → IsMainPlaced a → CanCutMain a bytes → IsCut a bytes
main_cut_moved a bytes s p can =
    let t : IsTopAtBreak a = top_at_break a p (eq-eqb (top_end a) a.break_at can.at_break) in
    let top : IsTopOf t.tile a.tiles = top_found t.tile a.tiles s.row t.top in
    let tile : IsTile t.tile = tile_is t.tile a.tiles s.row top.found in
    let size : top_size a ≡ t.tile.size = ap (λ o. elim o [ None ↦ 0 | Some t ↦ t.size ]) t.top in
    let left : bytes + 32 ≤ t.tile.size = omega (arith, can.left, size) in
    let now : ℕ = t.tile.size - bytes in
    let cut : Plain = with_top_size a now in
    let new : Plain = main_cut a bytes in
    let chunk : IsChunkSize now = (omega (arith, left), omega (arith, left, tile.size.1, can.whole)) in
    let m : Moved a cut none none (λ v. v t.tile.addr t.tile.size) (λ v. v t.tile.addr now) = sized_moved a t.tile now s t.top chunk (shrunk_fits a t.tile now s t.top (omega (arith, left))) in
    let at : t.tile.addr + now ≡ a.break_at - bytes = omega (arith, left, t.end) in
    let m2 : Moved a cut none none (λ v. v (a.break_at - bytes) bytes) nothing = moved_as a cut none none none none _ _ (λ v. v (a.break_at - bytes) bytes) nothing m (λ e. refl)
    (λ v adds. omega (arith, parts_of v t.tile.addr now bytes t.tile.size adds (omega (arith, left)), ap (λ n. v n bytes) at)) in
    let tiles : cut.tiles ≡ new.tiles = ap (λ n. (with_top_size a (n - bytes)).tiles) (sym size) in
    let bins : cut.bins ≡ new.bins = ap (λ n. (with_top_size a (n - bytes)).bins) (sym size) in
    let m3 : Moved a new none none (λ v. v (a.break_at - bytes) bytes) nothing = moved_to a cut new none none (λ v. v (a.break_at - bytes) bytes) nothing tiles bins m2 in
    let piece_is : new.next_piece ≡ a.next_piece = ap (λ x. x.next_piece) (beside_sized a (top_size a - bytes)) in
    let start : main_start ≤ a.break_at - bytes = cut_start a t.tile bytes p top t.end left in
    record {
      moved = m3;
      placed = record {
        filled = λ n.
            let length : break_bytes new + bytes ≡ break_bytes a = omega (arith, start) in
            let end : main_start + break_bytes new ≡ a.break_at - bytes = omega (arith, start) in
            omega (
              arith,
              m3.spans (covers n) (covers_adds n),
              p.filled n,
              ap (covers n main_start) length,
              (covers_adds n).adds main_start (break_bytes new) bytes,
              ap (λ at. covers n at bytes) end,
              ap (λ b. covers n piece_start (b - piece_start)) piece_is,
            );
        start = start;
        limit = omega (arith, p.limit);
        pieces = omega (arith, p.pieces, piece_is);
        piece_limit = omega (arith, p.piece_limit, piece_is);
        break_page = omega (arith, p.break_page, can.whole, left, t.end);
        piece_page = ap (λ n. n % 4096) piece_is ∙ p.piece_page;
        system = omega (arith, p.system, piece_is, start);
        tiled = omega (arith, bytes_moved a new none none (λ v. v (a.break_at - bytes) bytes) nothing m3, p.tiled);
      };
    }

-- ---- main before its first growth

-- a range of no bytes
covers_nothing : (n at : ℕ) → (n < at) ⊎ (at + 0 ≤ n)
covers_nothing n at = elim (cases_lt n at) [ inl before ↦ inl before | inr after ↦ inr (omega (arith, after)) ]

pub empty_placed : IsMainPlaced empty_main
empty_placed = record {
  filled = λ n. omega (arith, covers_none n main_start 0 (covers_nothing n main_start), covers_none n piece_start 0 (covers_nothing n piece_start));
  start = omega arith;
  limit = omega arith;
  pieces = omega arith;
  piece_limit = omega arith;
  break_page = refl;
  piece_page = refl;
  system = refl;
  tiled = refl;
}

-- the same with other bins and another last remainder, and with the most bytes that there were
pub placed_beside : (a : Plain) (bins : List (List Chunk)) (last : Option ℕ) (most : ℕ) → IsMainPlaced a → IsMainPlaced (record a { bins = bins; last = last; most = most })
placed_beside a bins last most p = record {
  filled = p.filled;
  start = p.start;
  limit = p.limit;
  pieces = p.pieces;
  piece_limit = p.piece_limit;
  break_page = p.break_page;
  piece_page = p.piece_page;
  system = p.system;
  tiled = p.tiled;
}
