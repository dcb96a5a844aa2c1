-- Laws of merging, for this crate and those above it: a used chunk before top becomes part of it, and a chunk that is
-- given up is merged with its free neighbours.
use Rattle.std.proofs.Common.{◌≡◌, ℕ, ◌+◌, ◌<◌, Bool, true, false, cond, [], ◌∷◌, Option, Some, None, IsTrue, refl, ap, ◌∙◌, arith}
use Rattle.chunk_tags.specs.BinOrder.{once}
use Rattle.chunk_tags.specs.declared.tiles.Chunk.{Chunk}
use Rattle.chunk_tags.specs.Tiles.{is_top, end_of, tile_before, tile_behind}
use Rattle.chunk_tags.specs.declared.tiles.Tile.{Tile}
use Rattle.chunk_tags.specs.declared.tiles.TileKind.TheVariants.{Used, Top}
use Rattle.arena_rules.specs.PlainArena.{Plain, IsSound, times_used, is_own}
use Rattle.arena_rules.specs.Moves.{tile_of, Hand, joined_before, joined_behind, is_before_top, top_size, absorbed, shelved}
use Rattle.arena_rules.specs.Release.{Merging, merged}
use Rattle.arena_rules.proofs.Rows.{NotFree, may_lead_behind}
use Rattle.arena_rules.proofs.Counts.{used_tile}
use Rattle.arena_rules.proofs.Changes.{AreNeighbours, neighbours_behind, IsFusion, IsFused, fused_row}
use Rattle.arena_rules.proofs.Moved.{Moved, parts_of, none, nothing, moved_then, moved_as, listed_still, top_to, moved_with}
use Rattle.arena_rules.proofs.Tops.{top_at, top_tile_is}
use Rattle.arena_rules.proofs.ChunkMoves.{alone_after, own_count, own_from, shelved_moved, IsJoinedBefore, joined_before_moved, IsJoinedBehind, joined_behind_moved}

-- ---- a used chunk before top becomes part of it

absorbed_at : (a : Plain) (c : Chunk) (at size : ℕ) → IsSound a → 0 < times_used c a → tile_behind c.at a.tiles ≡ Some (tile_of Top at size) → NotFree (tile_before c.at a.tiles) → Moved a (absorbed a c) (λ e. once e c) none nothing nothing
absorbed_at a c at size s own e before =
    let t : Tile = tile_of Used c.at c.size in
    let u : Tile = tile_of Top at size in
    let x : Tile = tile_of Top c.at (c.size + top_size a) in
    let next : AreNeighbours t u a.tiles = neighbours_behind t u a.tiles s.row (used_tile c a s.row own) e in
    let joins : end_of t ≡ at = next.meets.joins refl in
    let top : top_size a ≡ size = ap (λ o. elim o [ None ↦ 0 | Some t ↦ t.size ]) (top_at a u s next.second refl) in
    let fusion : IsFusion t u x a.tiles = record {
      next = next;
      at = refl;
      size = omega (arith, top);
      inner = refl;
      edge = refl;
      not_free = refl;
      before = may_lead_behind x (tile_before c.at a.tiles) before;
    } in
    let now : IsFused t u x a.tiles = fused_row t u x a.tiles s.row fusion in
    moved_with a (absorbed a c) (t ∷ u ∷ []) (x ∷ []) (λ e. once e c) none nothing nothing s now.changed
    (listed_still a (absorbed a c) (t ∷ u ∷ []) (x ∷ []) s refl (λ e. refl)) (omega (arith, top_to a at u s next.second))
    (record { leaves = λ e. omega arith; comes = λ e. refl; spans = λ v adds. omega (arith, parts_of v c.at c.size size (c.size + top_size a) adds (omega (arith, top)), ap (λ n. v n size) joins) })

-- the tile behind is top
pub record HasTopBehind (a : Plain) (c : Chunk) : Type 0 where
  pub tile : Tile
  pub behind : tile_behind c.at a.tiles ≡ Some tile
  pub top : is_top tile ≡ true

pub has_top_behind : (a : Plain) (c : Chunk) → is_before_top a c ≡ true → HasTopBehind a c
has_top_behind a c is =
    let cases : (o : Option Tile) → tile_behind c.at a.tiles ≡ o → elim o [ None ↦ false | Some t ↦ is_top t ] ≡ true → HasTopBehind a c = elim [
      | None ↦ λ e h. absurd cc
      | Some t ↦ λ e h. record { tile = t; behind = e; top = h }
    ] in
    cases (tile_behind c.at a.tiles) refl is

pub absorbed_moved : (a : Plain) (c : Chunk) → IsSound a → IsTrue (is_own a c) → is_before_top a c ≡ true → NotFree (tile_before c.at a.tiles) → Moved a (absorbed a c) (λ e. once e c) none nothing nothing
absorbed_moved a c s own is before =
    let h = has_top_behind a c is in
    absorbed_at a c h.tile.addr h.tile.size s (own_count a c own) (h.behind ∙ ap (λ (t : Tile). Some t) (top_tile_is h.tile h.top)) before

-- ---- a chunk is merged

pub merged_moved : (a : Plain) (c : Chunk) → IsSound a → IsTrue (is_own a c) → Moved a (merged a c).arena (λ e. once e c) none nothing nothing
merged_moved a c s own =
    let h0 : Hand = record { chunk = c; arena = a } in
    let h1 : Hand = joined_before h0 in
    let h2 : Hand = joined_behind h1 in
    let m1 : IsJoinedBefore h0 h1 = joined_before_moved h0 s (own_count a c own) in
    let m2 : IsJoinedBehind h1 h2 = joined_behind_moved h1 m1.joined.moved.sound m1.joined.own in
    let both = moved_then a h1.arena h2.arena (λ e. once e c) (λ e. once e h1.chunk) (λ e. once e h1.chunk) (λ e. once e h2.chunk) nothing nothing nothing nothing m1.joined.moved m2.joined.moved in
    let before = m2.before m1.before in
    let own2 : IsTrue (is_own h2.arena h2.chunk) = own_from h2.arena h2.chunk m2.joined.own in
    let end : (d : Plain) → Moved h2.arena d (λ e. once e h2.chunk) none nothing nothing → Moved a d (λ e. once e c) none nothing nothing = λ d m.
    moved_as a d _ _ (λ e. once e c) none _ _ nothing nothing (moved_then a h2.arena d _ _ (λ e. once e h2.chunk) none nothing nothing nothing nothing both m) (λ e. omega arith) (λ v adds. refl) in
    let cases : (b : Bool) → is_before_top h2.arena h2.chunk ≡ b → Moved a (cond {A = Merging} b (record { arena = absorbed h2.arena h2.chunk; size = h2.chunk.size + top_size h2.arena; in_top = true }) (record { arena = shelved h2.arena h2.chunk; size = h2.chunk.size; in_top = false })).arena (λ e. once e c) none nothing nothing = elim [
      | true ↦ λ is. end (absorbed h2.arena h2.chunk) (absorbed_moved h2.arena h2.chunk m2.joined.moved.sound own2 is before)
      | false ↦ λ is. end (shelved h2.arena h2.chunk) (shelved_moved h2.arena h2.chunk m2.joined.moved.sound own2 (alone_after h2.arena h2.chunk before m2.behind is))
    ] in
    cases (is_before_top h2.arena h2.chunk) refl
