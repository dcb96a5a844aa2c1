-- A ground after a move: it is the moved arena, and what is always so is so again.
use Rattle.std.proofs.Common.{◌≡◌, ℕ, ◌<◌, ◌≤◌, ◌/◌, ◌^◌, ◌⊎◌, Bool, true, false, cond, List, [], ◌∷◌, ◌++◌, Option, Some, None, IsTrue, refl, sym, ap, ◌∙◌, subst, inl, inr, arith}
use Rattle.std.specs.Prelude.{nat_eq, drop, sum_by, vec_capacity}
use Rattle.std.proofs.lemmas.Bool.{cases_lt}
use Rattle.chunk_tags.specs.declared.tiles.Chunk.{Chunk}
use Rattle.chunk_tags.specs.Tiles.{is_top, end_of, Row, swapped, fused, tile_at, tile_behind, top_of}
use Rattle.chunk_tags.specs.declared.tiles.Tile.{Tile}
use Rattle.part_words.specs.Extents.{IsWider}
use Rattle.ordinary_bins.specs.Lists.{Linked}
use Rattle.chunk_image.specs.Rows.{TileRow}
use Rattle.address_space.specs.Spaces.{main_start}
use Rattle.arena_rules.specs.PlainArena.{Plain, HeapWindows, IsSound, beside, is_main}
use Rattle.arena_rules.specs.Heaps.{heap_start}
use Rattle.arena_rules.specs.Moves.{top_end}
use Rattle.arena_rules.specs.MainPlaces.{times_covered, IsMainPlaced}
use Rattle.arena_rules.proofs.Changes.{tile_is}
use Rattle.arena_rules.proofs.Covered.{covered_by, covers_one}
use Rattle.arena_rules.proofs.HeapPlaces.{heap_still}
use Rattle.arena_rules.proofs.HeapTiles.{all_from, bytes_bounded}
use Rattle.arena_rules.proofs.Moved.{Moved, nothing}
use Rattle.arena_rules.proofs.Rows.{addr_at}
use Rattle.heap_top.specs.declared.regions.Regions.{Regions}
use Rattle.heap_top.specs.Regions.{address_of, bare_arena, IsOther, KnowsTop}
use Rattle.heap_top.proofs.TopLaws.{heaps_beside, main_bytes}
use Rattle.arena_rules.proofs.MainPlaces.{placed_along, placed_beside, uncovered}
use Rattle.arena_rules.proofs.TopMoves.{all_at}
use Rattle.arena_ground.specs.Grounds.{GroundView, arena_with, part_bytes, view_of, words_start, IsGround, IsPlacedIn}
use Rattle.arena_ground.proofs.Bridges.{AreBins}

-- ---- top where other tiles change

top_append : (news us : List Tile) → top_of news ≡ None → top_of (news ++ us) ≡ top_of us
top_append [] us none = refl
top_append (x ∷ xs) us none =
    let cases : (b : Bool) → cond b (Some x) (top_of xs) ≡ None → cond b (Some x) (top_of (xs ++ us)) ≡ top_of us = elim [
      | true ↦ λ h. absurd cc
      | false ↦ λ h. top_append xs us h
    ] in
    cases (is_top x) none

pub top_swapped : (at : ℕ) (news : List Tile) (t : Tile) (ts : List Tile) → tile_at at ts ≡ Some t → is_top t ≡ false → top_of news ≡ None → top_of (swapped at news ts) ≡ top_of ts
top_swapped at news t [] e low none = absurd cc
top_swapped at news t (u ∷ us) e low none =
    let cases : (b : Bool) → cond b (Some u) (tile_at at us) ≡ Some t → top_of (cond b (news ++ us) (u ∷ swapped at news us)) ≡ top_of (u ∷ us) = elim [
      | true ↦ λ h.
          let same : u ≡ t = cc in
          top_append news us none ∙ sym (ap (λ b. cond b (Some u) (top_of us)) (ap is_top same ∙ low))
      | false ↦ λ h. ap (λ o. cond (is_top u) (Some u) o) (top_swapped at news t us h low none)
    ] in
    cases (nat_eq u.addr at) e

behind_rest : (at : ℕ) (t u : Tile) (ts : List Tile) → nat_eq t.addr at ≡ false → tile_behind at (t ∷ ts) ≡ Some u → tile_behind at ts ≡ Some u
behind_rest at t u [] is e = absurd cc
behind_rest at t u (v ∷ ts) is e = sym (ap (λ b. cond b (Some v) (tile_behind at (v ∷ ts))) is) ∙ e

fused_first : (at : ℕ) (x u : Tile) (v : Tile) (vs : List Tile) → nat_eq v.addr at ≡ true → tile_behind at (v ∷ vs) ≡ Some u → is_top v ≡ false → is_top u ≡ false → is_top x ≡ false → top_of (x ∷ drop 1 vs) ≡ top_of (v ∷ vs)
fused_first at x u v [] is e low low2 low3 = absurd cc
fused_first at x u v (w ∷ ws) is e low low2 low3 =
    let next : cond (nat_eq v.addr at) (Some w) (tile_behind at (w ∷ ws)) ≡ Some u = e in
    let first : Some w ≡ Some u = sym (ap (λ b. cond b (Some w) (tile_behind at (w ∷ ws))) is) ∙ next in
    let same : w ≡ u = cc in
    ap (λ b. cond b (Some x) (top_of ws)) low3
    ∙ sym (ap (λ b. cond b (Some v) (top_of (w ∷ ws))) low ∙ ap (λ b. cond b (Some w) (top_of ws)) (ap is_top same ∙ low2))

pub top_fused : (at : ℕ) (x t u : Tile) (ts : List Tile) → tile_at at ts ≡ Some t → tile_behind at ts ≡ Some u → is_top t ≡ false → is_top u ≡ false → is_top x ≡ false → top_of (fused at x ts) ≡ top_of ts
top_fused at x t u [] found e low low2 low3 = absurd cc
top_fused at x t u (v ∷ vs) found e low low2 low3 =
    let cases : (b : Bool) → nat_eq v.addr at ≡ b → cond b (Some v) (tile_at at vs) ≡ Some t → top_of (cond b (x ∷ drop 1 vs) (v ∷ fused at x vs)) ≡ top_of (v ∷ vs) = elim [
      | true ↦ λ is h.
          let same : v ≡ t = cc in
          fused_first at x u v vs is e (ap is_top same ∙ low) low2 low3
      | false ↦ λ is h. ap (λ o. cond (is_top v) (Some v) o) (top_fused at x t u vs h (behind_rest at v u vs is e) low low2 low3)
    ] in
    cases (nat_eq v.addr at) refl found

-- ---- a sound ground

pub record IsSoundGround (r : Regions) (w : TileRow) (l : Linked) (last : Option ℕ) : Type 0 where
  pub ground : IsGround r w l last
  pub sound : IsSound (arena_with r w l last)

pub held : (r : Regions) (w : TileRow) (l : Linked) (last : Option ℕ) (v : GroundView) → IsGround r w l last → view_of r w l last ≡ v → IsSound v.arena → IsSoundGround r w l last
held r w l last v g is s = record { ground = g; sound = subst (λ (v : GroundView). IsSound v.arena) (sym is) s }

pub lists_of : (r : Regions) (w : TileRow) (l : Linked) (last : Option ℕ) → IsSoundGround r w l last → AreBins (arena_with r w l last) l.lists
lists_of r w l last g = record { bins = refl; sound = g.sound }

-- ---- main, and other arenas

pub kinds : (b : Bool) → IsTrue b ⊎ (b ≡ false)
kinds true = inl refl
kinds false = inr refl

pub in_beside : (a : Plain) (closed : List ℕ) (bins : List (List Chunk)) (last : Option ℕ) (most : ℕ) → IsPlacedIn a closed → IsPlacedIn (record a { bins = bins; last = last; most = most }) closed
in_beside a closed bins last most p = record {
  main = λ is. placed_beside a bins last most (p.main is);
  other = λ is. heaps_beside a closed bins last most (p.other is);
}

-- a move that takes and gives no bytes
pub in_still : (a new : Plain) (left came : Chunk → ℕ) (closed : List ℕ) → Moved a new left came nothing nothing → beside new ≡ beside a → top_end new ≡ top_end a → IsPlacedIn a closed → IsPlacedIn new closed
in_still a new left came closed moved same end p =
    let kind : is_main a ≡ is_main new = ap (λ (x : Plain). is_main x) (sym same) in
    record {
      main = λ is. placed_along a new left came moved same (p.main (kind ∙ is));
      other = λ is. heap_still a new left came closed moved same end (p.other (kind ∙ is));
    }

-- a tile lies where main begins, or behind
pub high_tile : (r : Regions) (w : TileRow) (l : Linked) (last : Option ℕ) (n : ℕ) (t : Tile) → IsSoundGround r w l last → tile_at n w.tiles ≡ Some t → main_start ≤ n
high_tile r w l last n t g found =
    let a : Plain = arena_with r w l last in
    let here : t.addr ≡ n = addr_at n t w.tiles found in
    let in_main : IsTrue (is_main a) → main_start ≤ n = λ is.
    elim (cases_lt n main_start) [
      | inr ge ↦ ge
      | inl lt ↦
          let out : times_covered n a ≡ 0 = uncovered a n (g.ground.placed.main is) (record { break = inl lt; pieces = inl (omega (arith, lt)) }) in
          let size : 32 ≤ t.size = (tile_is t w.tiles g.sound.row (ap (λ m. tile_at m w.tiles) here ∙ found)).size.0 in
          absurd (omega (arith, out, covered_by n n t w.tiles found, covers_one n t.addr t.size (omega (arith, here)) (omega (arith, here, size))))
    ] in
    elim (kinds (is_main a)) [
      | inl is ↦ in_main is
      | inr is ↦ omega (arith, here, all_at (λ u. heap_start a 0 ≤ u.addr) n t w.tiles (all_from a r.closed.items g.sound.row (g.ground.placed.other is)) found)
    ]

-- all tiles together have less than 16 GiB
pub ground_below : (r : Regions) (w : TileRow) (l : Linked) (last : Option ℕ) → IsGround r w l last → sum_by (λ (t : Tile). t.size) w.tiles < 2 ^ 34
ground_below r w l last g =
    let a : Plain = arena_with r w l last in
    elim (kinds (is_main a)) [
      | inl is ↦ omega (arith, main_bytes a (g.placed.main is))
      | inr is ↦ omega (arith, bytes_bounded a r.closed.items (g.placed.other is))
    ]

-- main, seen without its bins
pub bare_main : (r : Regions) (w : TileRow) (l : Linked) (last : Option ℕ) → IsGround r w l last → IsTrue (is_main (arena_with r w l last)) → IsMainPlaced (bare_arena r w.tiles)
bare_main r w l last g is = placed_beside (arena_with r w l last) [] None r.most (g.placed.main is)

-- the regions of another arena, seen without its bins
pub other_of : (r : Regions) (w : TileRow) (l : Linked) (last : Option ℕ) → IsGround r w l last → is_main (arena_with r w l last) ≡ false → IsOther r w.tiles
other_of r w l last g is = record {
  known = g.known;
  placed = heaps_beside (arena_with r w l last) r.closed.items [] None r.most (g.placed.other is);
  room = g.room;
}

-- ---- a ground after a move

pub record IsDone (r : Regions) (w : TileRow) (l : Linked) (last : Option ℕ) (new : Plain) : Type 0 where
  pub is : arena_with r w l last ≡ new
  pub kept : IsGround r w l last

-- where words stay as they are
pub record AreWordsKept (w v : TileRow) (l m : Linked) : Type 0 where
  pub tiles : v.extent ≡ w.extent
  pub links : m.extent ≡ l.extent

abbrev pub windows_of : Regions → HeapWindows
windows_of r = record { heap_max = r.heap_max; heaps = r.heaps }

-- it is the same arena, with as much room for lengths
pub record AreRegionsKept (r s : Regions) : Type 0 where
  pub number : s.number ≡ r.number
  pub windows : windows_of s ≡ windows_of r
  pub room : vec_capacity r.closed ≤ vec_capacity s.closed

pub kept_words : (r s : Regions) (w v : TileRow) (l m : Linked) (last now : Option ℕ) → IsGround r w l last → AreWordsKept w v l m → AreRegionsKept r s → KnowsTop s.top v.tiles → IsPlacedIn (arena_with s v m now) s.closed.items → IsGround s v m now
kept_words r s w v l m last now g k same known placed =
    let like : ℕ → HeapWindows → Plain = λ number windows. record (arena_with s v m now) { number = number; windows = windows } in
    record {
      known = known;
      placed = placed;
      room = omega (arith, g.room, same.room, ap (λ (x : HeapWindows). x.heaps) same.windows);
      covers = subst (λ e. IsWider e m.extent) (sym k.tiles) (subst (IsWider w.extent) (sym k.links) g.covers);
      base = ap (λ e. e.base) k.tiles ∙ (g.base ∙ λ i. words_start (like (sym same.number i) (sym same.windows i)));
      width = ap (λ e. e.width) k.tiles ∙ (g.width ∙ λ i. part_bytes (like (sym same.number i) (sym same.windows i)) / 16);
    }

-- after a move that takes and gives no bytes, and leaves top as it is
pub done : (r : Regions) (w v : TileRow) (l m : Linked) (last : Option ℕ) (new : Plain) (left came : Chunk → ℕ) → IsGround r w l last → Moved (arena_with r w l last) new left came nothing nothing → beside new ≡ beside (arena_with r w l last) → AreWordsKept w v l m → arena_with r v m last ≡ new → top_of v.tiles ≡ top_of w.tiles → IsDone r v m last new
done r w v l m last new left came g moved same k is top =
    let tiles : new.tiles ≡ v.tiles = ap (λ (x : Plain). x.tiles) (sym is) in
    let end : top_end new ≡ top_end (arena_with r w l last) = ap (λ (o : Option Tile). elim o [ None ↦ 0 | Some t ↦ end_of t ]) (ap top_of tiles ∙ top) in
    record {
      is = is;
      kept = kept_words r r w v l m last last g k (record { number = refl; windows = refl; room = omega arith })
          (record { row = subst Row tiles moved.sound.row; is = ap address_of top ∙ g.known.is })
          (subst (λ x. IsPlacedIn x r.closed.items) (sym is) (in_still (arena_with r w l last) new left came r.closed.items moved same end g.placed));
    }
