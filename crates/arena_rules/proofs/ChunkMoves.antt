-- Laws of the moves of chunks, for this crate and those above it: a chunk is claimed, shelved, parted, joined with its
-- neighbours, or becomes part of top.
use Rattle.std.proofs.Common.{◌≡◌, ℕ, ◌+◌, ◌-◌, ◌<◌, Bool, true, false, cond, List, [], ◌∷◌, length, Option, Some, None, IsTrue, refl, sym, ap, ◌∙◌, subst, arith}
use Rattle.std.specs.Prelude.{sum_by}
use Rattle.std.proofs.lemmas.Bool.{ltb-true, lt-ltb, or_parts, or_from}
use Rattle.std.proofs.lemmas.List.{length-map, length-set}
use Rattle.chunk_tags.specs.BinOrder.{without, once}
use Rattle.chunk_tags.specs.declared.tiles.Chunk.{Chunk}
use Rattle.chunk_tags.specs.Sizes.{IsChunkSize}
use Rattle.chunk_tags.specs.Tiles.{is_used, is_free, is_top, end_of, IsTile, tile_at, tile_before, tile_behind}
use Rattle.chunk_tags.specs.declared.tiles.Tile.{Tile}
use Rattle.chunk_tags.specs.declared.tiles.TileKind.TheVariants.{Used, Free}
use Rattle.arena_rules.specs.PlainArena.{Plain, bin_at, unlinked, times_listed, IsBin, IsSound, times_used, is_own}
use Rattle.arena_rules.specs.Moves.{tile_of, chunk_of, with_tiles, claimed, shelved, parted, Hand, joined, joined_before, joined_behind, StandsAlone, is_free_tile, is_before_top}
use Rattle.arena_rules.proofs.Bins.{times_unlinked, bins_unlinked, times_with_front, bins_with, bin_with_front, once_self}
use Rattle.arena_rules.proofs.Counts.{weight, same_tile, free_kind, used_tile, free_tile, at_most_once, once_tiled}
use Rattle.arena_rules.proofs.Changes.{AreNeighbours, neighbours_before, neighbours_behind, none_before_free, none_behind_free, tile_is, IsExchange, IsExchanged, exchanged, IsParting, IsParted, parted_row, IsFusion, IsFused, fused_row}
use Rattle.arena_rules.proofs.Rows.{NotFree, Neither, may_lead, may_lead_behind, may_follow, neither_not_free}
use Rattle.arena_rules.proofs.Moved.{Moved, Measure, Adds, parts_of, none, nothing, IsRelisted, listed_still, weight_top, top_to, moved_with, came_used}

-- ---- what is listed and what is own

pub own_from : (a : Plain) (c : Chunk) → 0 < times_used c a → IsTrue (is_own a c)
own_from a c some = lt-ltb 0 (times_used c a) some

pub own_count : (a : Plain) (c : Chunk) → IsTrue (is_own a c) → 0 < times_used c a
own_count a c own = ltb-true 0 (times_used c a) own

-- a listed chunk is a free tile, listed once
pub listed_once : (a : Plain) (c : Chunk) → IsSound a → 0 < times_listed c a → times_listed c a ≡ 1
listed_once a c s some = omega (arith, s.listed.once c, at_most_once is_free c a.tiles s.row)

pub listed_tile : (a : Plain) (c : Chunk) → IsSound a → 0 < times_listed c a → tile_at c.at a.tiles ≡ Some (tile_of Free c.at c.size)
listed_tile a c s some = free_tile c a s.row (omega (arith, s.listed.once c))

-- a free tile is listed once
pub tile_listed : (a : Plain) (t : Tile) → IsSound a → is_free t ≡ true → tile_at t.addr a.tiles ≡ Some t → times_listed (chunk_of t) a ≡ 1
tile_listed a t s free at = omega (arith, s.listed.once (chunk_of t), once_tiled is_free t a.tiles s.row free at)

-- the lists without a chunk that was free and isn't
pub relisted_without : (a new : Plain) (c : Chunk) (gone news : List Tile) → IsSound a → times_listed c a ≡ 1 → new.bins ≡ (unlinked a c).bins → ((e : Chunk) → sum_by (weight is_free e) gone ≡ sum_by (weight is_free e) news + once e c) → IsRelisted a new gone news
relisted_without a new c gone news s one same free = record {
  times = λ e. omega (arith, free e, times_unlinked e c a one, ap (sum_by (λ cs. sum_by (once e) cs)) same);
  width = ap length same ∙ (length-map a.bins (without c) ∙ s.listed.width);
  bins = λ i. subst (λ (bins : List (List Chunk)). IsBin i (bin_at (record a { bins = bins }) i)) (sym same) (bins_unlinked c a s.listed.bins i);
}

-- ---- a free chunk is claimed

-- what stands before a chunk, and behind it, as a look-up gives it
pub record IsAlone (a : Plain) (c : Chunk) : Type 0 where
  pub before : NotFree (tile_before c.at a.tiles)
  pub behind : Neither (tile_behind c.at a.tiles)

pub free_not_found : (o : Option Tile) → is_free_tile o ≡ false → NotFree o
free_not_found None e = tt
free_not_found (Some t) e = e

pub no_free_found : (o : Option Tile) → NotFree o → is_free_tile o ≡ false
no_free_found None h = refl
no_free_found (Some t) h = h

neither_found : (o : Option Tile) → is_free_tile o ≡ false → elim o [ None ↦ false | Some t ↦ is_top t ] ≡ false → Neither o
neither_found None e top = tt
neither_found (Some t) e top = or_from (is_free t) (is_top t) e top

no_top_found : (o : Option Tile) → Neither o → elim o [ None ↦ false | Some t ↦ is_top t ] ≡ false
no_top_found None h = refl
no_top_found (Some t) h = (or_parts (is_free t) (is_top t) h).1

pub alone_of : (a : Plain) (c : Chunk) → StandsAlone a c → IsAlone a c
alone_of a c s = record { before = free_not_found (tile_before c.at a.tiles) s.before; behind = neither_found (tile_behind c.at a.tiles) s.behind s.top }

pub stands_alone : (a : Plain) (c : Chunk) → IsAlone a c → StandsAlone a c
stands_alone a c s = record {
  before = no_free_found (tile_before c.at a.tiles) s.before;
  behind = no_free_found (tile_behind c.at a.tiles) (neither_not_free (tile_behind c.at a.tiles) s.behind);
  top = no_top_found (tile_behind c.at a.tiles) s.behind;
}

-- what is known after both joins
pub alone_after : (a : Plain) (c : Chunk) → NotFree (tile_before c.at a.tiles) → NotFree (tile_behind c.at a.tiles) → is_before_top a c ≡ false → StandsAlone a c
alone_after a c before behind top = record { before = no_free_found (tile_before c.at a.tiles) before; behind = no_free_found (tile_behind c.at a.tiles) behind; top = top }

pub record IsClaimed (a : Plain) (c : Chunk) : Type 0 where
  pub moved : Moved a (claimed a c) none (λ e. once e c) nothing nothing
  pub alone : StandsAlone (claimed a c) c
  pub size : IsChunkSize c.size

pub claimed_moved : (a : Plain) (c : Chunk) → IsSound a → 0 < times_listed c a → IsClaimed a c
claimed_moved a c s some =
    let t : Tile = tile_of Free c.at c.size in
    let x : Tile = tile_of Used c.at c.size in
    let at : tile_at c.at a.tiles ≡ Some t = listed_tile a c s some in
    let tile : IsTile t = tile_is t a.tiles s.row at in
    let exchange : IsExchange t x a.tiles = record {
      found = at;
      tile = record { size = tile.size; place = tile.place };
      at = refl;
      end = refl;
      edge = refl;
      before = may_lead x (tile_before c.at a.tiles) refl;
      behind = may_follow x (tile_behind c.at a.tiles) refl;
    } in
    let now : IsExchanged t x a.tiles = exchanged t x a.tiles s.row exchange in
    record {
      moved = moved_with a (claimed a c) (t ∷ []) (x ∷ []) none (λ e. once e c) nothing nothing s now.changed
          (relisted_without a (claimed a c) c (t ∷ []) (x ∷ []) s (listed_once a c s some) refl (λ e. omega arith))
          (omega (arith, top_to a c.at t s at)) (record { leaves = λ e. refl; comes = λ e. omega arith; spans = λ v adds. refl });
      alone = stands_alone (claimed a c) c (record {
        before = subst NotFree (sym now.before) (none_before_free t a.tiles s.row refl at);
        behind = subst Neither (sym now.behind) (none_behind_free t a.tiles s.row refl at);
      });
      size = tile.size;
    }

-- ---- a used chunk is shelved

pub shelved_moved : (a : Plain) (c : Chunk) → IsSound a → IsTrue (is_own a c) → StandsAlone a c → Moved a (shelved a c) (λ e. once e c) none nothing nothing
shelved_moved a c s own stands =
    let alone : IsAlone a c = alone_of a c stands in
    let t : Tile = tile_of Used c.at c.size in
    let x : Tile = tile_of Free c.at c.size in
    let at : tile_at c.at a.tiles ≡ Some t = used_tile c a s.row (own_count a c own) in
    let exchange : IsExchange t x a.tiles = record {
      found = at;
      tile = record { size = (tile_is t a.tiles s.row at).size; place = (tile_is t a.tiles s.row at).place };
      at = refl;
      end = refl;
      edge = refl;
      before = may_lead_behind x (tile_before c.at a.tiles) alone.before;
      behind = alone.behind;
    } in
    let lt : 1 < length a.bins = omega (arith, s.listed.width) in
    let c1 : Plain = with_tiles a c.at (x ∷ []) in
    moved_with a (shelved a c) (t ∷ []) (x ∷ []) (λ e. once e c) none nothing nothing s (exchanged t x a.tiles s.row exchange).changed
    (record {
      times = λ e. omega (arith, times_with_front e c c1 1 lt);
      width = length-set a.bins 1 (c ∷ bin_at a 1) ∙ s.listed.width;
      bins = bins_with c1 1 (c ∷ bin_at a 1) lt (bin_with_front c 1 (bin_at a 1) (omega arith) (λ no. absurd (no refl)) (s.listed.bins 1)) s.listed.bins;
    })
    (omega (arith, top_to a c.at t s at)) (record { leaves = λ e. omega arith; comes = λ e. refl; spans = λ v adds. refl })

-- ---- a used chunk is parted

pub record IsPartedAt (a : Plain) (c : Chunk) (nb : ℕ) : Type 0 where
  pub moved : Moved a (parted a c nb) (λ e. once e c) (λ e. once e (record { at = c.at; size = nb }) + once e (record { at = c.at + nb; size = c.size - nb })) nothing nothing
  pub before : tile_before c.at (parted a c nb).tiles ≡ tile_before c.at a.tiles
  pub alone : StandsAlone a c → StandsAlone (parted a c nb) (record { at = c.at + nb; size = c.size - nb })

pub parted_moved : (a : Plain) (c : Chunk) (nb : ℕ) → IsSound a → IsTrue (is_own a c) → IsChunkSize nb → IsChunkSize (c.size - nb) → IsPartedAt a c nb
parted_moved a c nb s own first rest =
    let t : Tile = tile_of Used c.at c.size in
    let x : Tile = tile_of Used c.at nb in
    let y : Tile = tile_of Used (c.at + nb) (c.size - nb) in
    let at : tile_at c.at a.tiles ≡ Some t = used_tile c a s.row (own_count a c own) in
    let tile : IsTile t = tile_is t a.tiles s.row at in
    let parting : IsParting t x y a.tiles = record {
      found = at;
      first = record { size = first; place = tile.place };
      second = record { size = rest; place = omega (arith, tile.place, first.1) };
      at = refl;
      joins = refl;
      end = omega (arith, rest.0);
      edge = refl;
      neither = refl;
      not_free = refl;
    } in
    let now : IsParted t x y a.tiles = parted_row t x y a.tiles s.row parting in
    record {
      moved = moved_with a (parted a c nb) (t ∷ []) (x ∷ y ∷ []) (λ e. once e c) (λ e. once e (record { at = c.at; size = nb }) + once e (record { at = c.at + nb; size = c.size - nb })) nothing nothing s now.changed
          (listed_still a (parted a c nb) (t ∷ []) (x ∷ y ∷ []) s refl (λ e. refl)) (omega (arith, top_to a c.at t s at))
          (record { leaves = λ e. omega arith; comes = λ e. omega arith; spans = λ v adds. omega (arith, parts_of v c.at nb (c.size - nb) c.size adds (omega (arith, rest.0))) });
      before = now.before;
      alone = λ h. stands_alone (parted a c nb) (record { at = c.at + nb; size = c.size - nb }) (record {
        before = subst NotFree (sym now.second) refl;
        behind = subst Neither (sym now.behind) (alone_of a c h).behind;
      });
    }

-- ---- two chunks are joined

-- a free tile's kind is free
pub free_is : (t : Tile) → is_free t ≡ true → t ≡ tile_of Free t.addr t.size
free_is t free = same_tile t Free t.addr t.size (free_kind t.kind free) refl refl

joined_moved : (h : Hand) (at size : ℕ) (first second : Tile) → IsSound h.arena → tile_at at h.arena.tiles ≡ Some (tile_of Free at size) → IsFused first second (tile_of Used first.addr (h.chunk.size + size)) h.arena.tiles → ((w : Tile → ℕ) → sum_by w (first ∷ second ∷ []) ≡ w (tile_of Used h.chunk.at h.chunk.size) + w (tile_of Free at size)) → ((v : Measure) → Adds v → v first.addr (h.chunk.size + size) ≡ v h.chunk.at h.chunk.size + v at size) → Moved h.arena (joined h (tile_of Free at size) first.addr).arena (λ e. once e h.chunk) (λ e. once e (record { at = first.addr; size = h.chunk.size + size })) nothing nothing
joined_moved h at size first second s found now pair whole =
    let free : Chunk = record { at = at; size = size } in
    let x : Tile = tile_of Used first.addr (h.chunk.size + size) in
    let new : Plain = (joined h (tile_of Free at size) first.addr).arena in
    moved_with h.arena new (first ∷ second ∷ []) (x ∷ []) (λ e. once e h.chunk) (λ e. once e (record { at = first.addr; size = h.chunk.size + size })) nothing nothing s now.changed
    (relisted_without h.arena new free (first ∷ second ∷ []) (x ∷ []) s (tile_listed h.arena (tile_of Free at size) s refl found) refl (λ e. omega (arith, pair (weight is_free e))))
    (omega (arith, pair weight_top, top_to h.arena at (tile_of Free at size) s found))
    (record { leaves = λ e. omega (arith, pair (weight is_used e)); comes = λ e. omega arith; spans = λ v adds. omega (arith, pair (λ t. v t.addr t.size), whole v adds) })

-- a chunk in hand became another
pub record IsJoined (h new : Hand) : Type 0 where
  pub moved : Moved h.arena new.arena (λ e. once e h.chunk) (λ e. once e new.chunk) nothing nothing
  pub own : 0 < times_used new.chunk new.arena

joined_same : (h : Hand) → IsSound h.arena → 0 < times_used h.chunk h.arena → IsJoined h h
joined_same h s own = record { moved = record { sound = s; used = λ e. refl; spans = λ v adds. refl }; own = own }

pub record IsJoinedBefore (h new : Hand) : Type 0 where
  pub joined : IsJoined h new
  pub before : NotFree (tile_before new.chunk.at new.arena.tiles)

joined_to_before : (h : Hand) (at size : ℕ) → IsSound h.arena → 0 < times_used h.chunk h.arena → tile_before h.chunk.at h.arena.tiles ≡ Some (tile_of Free at size) → IsJoinedBefore h (joined h (tile_of Free at size) at)
joined_to_before h at size s own e =
    let t : Tile = tile_of Free at size in
    let u : Tile = tile_of Used h.chunk.at h.chunk.size in
    let x : Tile = tile_of Used at (h.chunk.size + size) in
    let next : AreNeighbours t u h.arena.tiles = neighbours_before t u h.arena.tiles s.row (used_tile h.chunk h.arena s.row own) e in
    let fusion : IsFusion t u x h.arena.tiles = record {
      next = next;
      at = refl;
      size = omega arith;
      inner = refl;
      edge = refl;
      not_free = refl;
      before = may_lead x (tile_before at h.arena.tiles) refl;
    } in
    let now : IsFused t u x h.arena.tiles = fused_row t u x h.arena.tiles s.row fusion in
    let joins : end_of t ≡ u.addr = next.meets.joins refl in
    let moved = joined_moved h at size t u s next.first now (λ w. omega arith) (λ v adds. omega (arith, parts_of v at size h.chunk.size (h.chunk.size + size) adds (omega arith), ap (λ n. v n h.chunk.size) joins)) in
    record {
      joined = record { moved = moved; own = came_used h.arena _ h.chunk (λ e. once e (record { at = at; size = h.chunk.size + size })) nothing nothing (record { at = at; size = h.chunk.size + size }) moved own (omega (arith, once_self (record { at = at; size = h.chunk.size + size }))) };
      before = subst NotFree (sym now.before) (none_before_free t h.arena.tiles s.row refl next.first);
    }

pub joined_before_moved : (h : Hand) → IsSound h.arena → 0 < times_used h.chunk h.arena → IsJoinedBefore h (joined_before h)
joined_before_moved h s own =
    let same : NotFree (tile_before h.chunk.at h.arena.tiles) → IsJoinedBefore h h = λ before. record { joined = joined_same h s own; before = before } in
    let cases : (o : Option Tile) → tile_before h.chunk.at h.arena.tiles ≡ o → IsJoinedBefore h (elim o [ None ↦ h | Some t ↦ cond (is_free t) (joined h t t.addr) h ]) = elim [
      | None ↦ λ e. same (subst NotFree (sym e) tt)
      | Some t ↦ λ e.
          let kinds : (b : Bool) → is_free t ≡ b → IsJoinedBefore h (cond b (joined h t t.addr) h) = elim [
            | true ↦ λ free. subst (λ u. IsJoinedBefore h (joined h u t.addr)) (sym (free_is t free)) (joined_to_before h t.addr t.size s own (e ∙ ap (λ (u : Tile). Some u) (free_is t free)))
            | false ↦ λ none_free. same (subst NotFree (sym e) none_free)
          ] in
          kinds (is_free t) refl
    ] in
    cases (tile_before h.chunk.at h.arena.tiles) refl

pub record IsJoinedBehind (h new : Hand) : Type 0 where
  pub joined : IsJoined h new
  pub before : NotFree (tile_before h.chunk.at h.arena.tiles) → NotFree (tile_before new.chunk.at new.arena.tiles)
  pub behind : NotFree (tile_behind new.chunk.at new.arena.tiles)

joined_to_behind : (h : Hand) (at size : ℕ) → IsSound h.arena → 0 < times_used h.chunk h.arena → tile_behind h.chunk.at h.arena.tiles ≡ Some (tile_of Free at size) → IsJoinedBehind h (joined h (tile_of Free at size) h.chunk.at)
joined_to_behind h at size s own e =
    let t : Tile = tile_of Used h.chunk.at h.chunk.size in
    let u : Tile = tile_of Free at size in
    let x : Tile = tile_of Used h.chunk.at (h.chunk.size + size) in
    let next : AreNeighbours t u h.arena.tiles = neighbours_behind t u h.arena.tiles s.row (used_tile h.chunk h.arena s.row own) e in
    let fusion : IsFusion t u x h.arena.tiles = record {
      next = next;
      at = refl;
      size = refl;
      inner = refl;
      edge = refl;
      not_free = refl;
      before = may_lead x (tile_before h.chunk.at h.arena.tiles) refl;
    } in
    let now : IsFused t u x h.arena.tiles = fused_row t u x h.arena.tiles s.row fusion in
    let joins : end_of t ≡ u.addr = next.meets.joins refl in
    let moved = joined_moved h at size t u s next.second now (λ w. omega arith) (λ v adds. omega (arith, adds.adds h.chunk.at h.chunk.size size, ap (λ n. v n size) joins)) in
    record {
      joined = record { moved = moved; own = came_used h.arena _ h.chunk (λ e. once e (record { at = h.chunk.at; size = h.chunk.size + size })) nothing nothing (record { at = h.chunk.at; size = h.chunk.size + size }) moved own (omega (arith, once_self (record { at = h.chunk.at; size = h.chunk.size + size }))) };
      before = λ before. subst NotFree (sym now.before) before;
      behind = subst NotFree (sym now.behind)
          (neither_not_free (tile_behind at h.arena.tiles) (none_behind_free u h.arena.tiles s.row refl next.second));
    }

pub joined_behind_moved : (h : Hand) → IsSound h.arena → 0 < times_used h.chunk h.arena → IsJoinedBehind h (joined_behind h)
joined_behind_moved h s own =
    let same : NotFree (tile_behind h.chunk.at h.arena.tiles) → IsJoinedBehind h h = λ behind. record { joined = joined_same h s own; before = λ before. before; behind = behind } in
    let cases : (o : Option Tile) → tile_behind h.chunk.at h.arena.tiles ≡ o → IsJoinedBehind h (elim o [ None ↦ h | Some t ↦ cond (is_free t) (joined h t h.chunk.at) h ]) = elim [
      | None ↦ λ e. same (subst NotFree (sym e) tt)
      | Some t ↦ λ e.
          let kinds : (b : Bool) → is_free t ≡ b → IsJoinedBehind h (cond b (joined h t h.chunk.at) h) = elim [
            | true ↦ λ free. subst (λ u. IsJoinedBehind h (joined h u h.chunk.at)) (sym (free_is t free)) (joined_to_behind h t.addr t.size s own (e ∙ ap (λ (u : Tile). Some u) (free_is t free)))
            | false ↦ λ none_free. same (subst NotFree (sym e) none_free)
          ] in
          kinds (is_free t) refl
    ] in
    cases (tile_behind h.chunk.at h.arena.tiles) refl
