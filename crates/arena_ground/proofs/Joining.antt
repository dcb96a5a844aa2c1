-- A ground after a chunk is joined with a free neighbour, or with the used chunk behind it.
use Rattle.std.proofs.Common.{◌≡◌, ℕ, ◌+◌, ◌<◌, ◌≤◌, ◌≢◌, Bool, true, false, cond, List, map, Option, Some, None, IsTrue, refl, sym, ap, ◌∙◌, subst, arith}
use Rattle.std.proofs.lemmas.Bool.{eqb-true}
use Rattle.chunk_tags.specs.BinOrder.{once}
use Rattle.chunk_tags.specs.declared.tiles.Chunk.{Chunk}
use Rattle.chunk_tags.specs.Tiles.{is_free, is_top, is_edge, fused, tile_at, tile_before, tile_behind}
use Rattle.chunk_tags.specs.declared.tiles.Tile.{Tile}
use Rattle.chunk_tags.specs.declared.tiles.TileKind.TheVariants.{Used}
use Rattle.ordinary_bins.specs.Lists.{Linked, times_listed as times_linked, without as apart_from}
use Rattle.ordinary_bins.proofs.ListLaws.{unlinked_itself, unlinked_other}
use Rattle.chunk_image.specs.Rows.{TileRow, where_free, free_before_of}
use Rattle.large_bins.specs.SeenChunks.{size_in}
use Rattle.arena_rules.specs.PlainArena.{Plain, times_listed, is_own, unlinked}
use Rattle.arena_rules.specs.Moves.{tile_of, chunk_of, Hand, hand, joined, joined_before, joined_behind, is_free_tile}
use Rattle.arena_rules.specs.Resize.{is_next_to, joined_with}
use Rattle.arena_rules.proofs.Changes.{AreNeighbours, neighbours_before, neighbours_behind}
use Rattle.arena_rules.proofs.ChunkMoves.{tile_listed, free_is, own_count, joined_before_moved, joined_behind_moved}
use Rattle.arena_rules.proofs.Lookups.{fused_other}
use Rattle.arena_rules.proofs.Moved.{Moved, nothing}
use Rattle.arena_rules.proofs.Resizes.{next_tile, joined_with_moved}
use Rattle.heap_top.specs.declared.regions.Regions.{Regions}
use Rattle.arena_ground.specs.Grounds.{arena_with, bins_at}
use Rattle.arena_ground.proofs.Bridges.{agree, listed_times, bins_without}
use Rattle.arena_ground.proofs.Keeping.{top_fused, IsSoundGround, lists_of, IsDone, done}
use Rattle.arena_ground.proofs.Moving.{own_tile, used_unlinked}

-- ---- a free neighbour

pub record IsFreeTile (o : Option Tile) (t : Tile) : Type 0 where
  pub is : o ≡ Some t
  pub free : is_free t ≡ true

pub free_found : (o : Option Tile) (t : Tile) → where_free o ≡ Some t → IsFreeTile o t
free_found None t e = absurd cc
free_found (Some u) t e =
    let cases : (b : Bool) → is_free u ≡ b → cond b (Some u) None ≡ Some t → IsFreeTile (Some u) t = elim [
      | true ↦ λ is h. let same : u ≡ t = cc in record { is = ap (λ (u : Tile). Some u) same; free = ap is_free (sym same) ∙ is }
      | false ↦ λ is h. absurd cc
    ] in
    cases (is_free u) refl e

pub none_free : (o : Option Tile) → where_free o ≡ None → is_free_tile o ≡ false
none_free None e = refl
none_free (Some u) e =
    let cases : (b : Bool) → cond b (Some u) None ≡ None → b ≡ false = elim [ true ↦ λ h. absurd cc | false ↦ λ h. refl ] in
    cases (is_free u) e

-- a joined chunk, where the neighbour is free, and where it isn't
pub before_is : (h : Hand) (t : Tile) → IsFreeTile (tile_before h.chunk.at h.arena.tiles) t → joined_before h ≡ joined h t t.addr
before_is h t f =
    ap (λ o. elim o [ None ↦ h | Some u ↦ cond (is_free u) (joined h u u.addr) h ]) f.is ∙ ap (λ b. cond b (joined h t t.addr) h) f.free

pub behind_is : (h : Hand) (t : Tile) → IsFreeTile (tile_behind h.chunk.at h.arena.tiles) t → joined_behind h ≡ joined h t h.chunk.at
behind_is h t f =
    ap (λ o. elim o [ None ↦ h | Some u ↦ cond (is_free u) (joined h u h.chunk.at) h ]) f.is ∙ ap (λ b. cond b (joined h t h.chunk.at) h) f.free

pub behind_not : (h : Hand) → is_free_tile (tile_behind h.chunk.at h.arena.tiles) ≡ false → joined_behind h ≡ h
behind_not h =
    let cases : (o : Option Tile) → is_free_tile o ≡ false → elim o [ None ↦ h | Some u ↦ cond (is_free u) (joined h u h.chunk.at) h ] ≡ h = elim [
      | None ↦ λ e. refl
      | Some u ↦ λ e. ap (λ b. cond b (joined h u h.chunk.at) h) e
    ] in
    cases (tile_behind h.chunk.at h.arena.tiles)

not_top : (t : Tile) → is_free t ≡ true → is_top t ≡ false
not_top t free = ap is_top (free_is t free)

not_edge : (t : Tile) → is_free t ≡ true → is_edge t ≡ false
not_edge t free = ap is_edge (free_is t free)

-- a free tile that is linked
pub free_linked : (r : Regions) (w : TileRow) (l : Linked) (last : Option ℕ) (t : Tile) → IsSoundGround r w l last → is_free t ≡ true → tile_at t.addr w.tiles ≡ Some t → 1 ≤ times_linked t.addr l.lists
free_linked r w l last t g free found =
    let one = tile_listed (arena_with r w l last) t g.sound free found in
    omega (arith, one, listed_times (arena_with r w l last) l.lists (chunk_of t) (lists_of r w l last g) (omega (arith, one)))

-- two neighbours, one of which is a free tile and one a used chunk
pub record ArePair (r : Regions) (w : TileRow) (l : Linked) (last : Option ℕ) (t u : Tile) (f : Tile) (c : Chunk) : Type 0 where
  pub held : IsSoundGround r w l last
  pub own : IsTrue (is_own (arena_with r w l last) c)
  pub found : tile_at t.addr w.tiles ≡ Some t
  pub behind : tile_behind t.addr w.tiles ≡ Some u
  pub chunk : is_edge t ≡ false
  pub low : is_top t ≡ false
  pub low2 : is_top u ≡ false
  pub linked : 1 ≤ times_linked f.addr l.lists
  pub free : is_free f ≡ true
  pub tile : tile_at f.addr w.tiles ≡ Some f
  pub either : (n : ℕ) → n ≢ f.addr → n ≢ c.at → (n ≢ t.addr) × (n ≢ u.addr)

-- what is listed but for the free tile is where it was
pair_bins : (r : Regions) (w : TileRow) (l : Linked) (last : Option ℕ) (t u f : Tile) (c : Chunk) (size : ℕ) → ArePair r w l last t u f c → bins_at (fused t.addr (tile_of Used t.addr size) w.tiles) (map (apart_from f.addr) l.lists) ≡ (unlinked (arena_with r w l last) (chunk_of f)).bins
pair_bins r w l last t u f c size p =
    let a : Plain = arena_with r w l last in
    let x : Tile = tile_of Used t.addr size in
    let some : 0 < times_listed (chunk_of f) a = omega (arith, tile_listed a f p.held.sound p.free p.tile) in
    agree w.tiles (fused t.addr x w.tiles) (map (apart_from f.addr) l.lists) (λ n listed.
    let ne : n ≢ f.addr = λ e. absurd (omega (arith, listed, unlinked_itself f.addr l.lists, ap (λ m. times_linked m (map (apart_from f.addr) l.lists)) e)) in
    let ne2 : n ≢ c.at = λ e. absurd (omega (arith, listed, unlinked_other n f.addr l.lists ne, used_unlinked r w l last c p.held (own_tile r w l last c p.held p.own), ap (λ m. times_linked m l.lists) e)) in
    let apart = p.either n ne ne2 in
    ap size_in (fused_other t.addr n u x w.tiles apart.0 apart.1 refl p.behind))
    ∙ bins_without a l.lists (chunk_of f) (lists_of r w l last p.held) some

-- the ground after they are joined
pub pair_done : (r : Regions) (w : TileRow) (l m : Linked) (last : Option ℕ) (t u f : Tile) (c : Chunk) (size : ℕ) (came : Chunk → ℕ) → ArePair r w l last t u f c → Moved (arena_with r w l last) (record (unlinked (arena_with r w l last) (chunk_of f)) { tiles = fused t.addr (tile_of Used t.addr size) w.tiles }) (λ e. once e c) came nothing nothing → m.lists ≡ map (apart_from f.addr) l.lists → m.extent ≡ l.extent → IsDone r (record w { tiles = fused t.addr (tile_of Used t.addr size) w.tiles }) m last (record (unlinked (arena_with r w l last) (chunk_of f)) { tiles = fused t.addr (tile_of Used t.addr size) w.tiles })
pair_done r w l m last t u f c size came p moved lists links =
    let a : Plain = arena_with r w l last in
    let now : List Tile = fused t.addr (tile_of Used t.addr size) w.tiles in
    let new : Plain = record (unlinked a (chunk_of f)) { tiles = now } in
    let bins : bins_at now m.lists ≡ new.bins = ap (bins_at now) lists ∙ pair_bins r w l last t u f c size p in
    done r w (record w { tiles = now }) l m last new _ _ p.held.ground moved refl (record { tiles = refl; links = links }) (λ i. record new { bins = bins i })
    (top_fused t.addr (tile_of Used t.addr size) t u w.tiles p.found p.behind p.low p.low2 refl)

-- ---- the two joins

without_tile : (r : Regions) (w : TileRow) (l : Linked) (last : Option ℕ) (t : Tile) → IsSoundGround r w l last → is_free t ≡ true → tile_at t.addr w.tiles ≡ Some t → bins_at w.tiles (map (apart_from t.addr) l.lists) ≡ (unlinked (arena_with r w l last) (chunk_of t)).bins
without_tile r w l last t g free found =
    let a : Plain = arena_with r w l last in
    bins_without a l.lists (chunk_of t) (lists_of r w l last g) (omega (arith, tile_listed a t g.sound free found))

pub pair_before : (r : Regions) (w : TileRow) (l : Linked) (last : Option ℕ) (c : Chunk) (t : Tile) → IsSoundGround r w l last → IsTrue (is_own (arena_with r w l last) c) → free_before_of c.at w.tiles ≡ Some t → ArePair r w l last t (tile_of Used c.at c.size) t c
pair_before r w l last c t g own e =
    let f : IsFreeTile (tile_before c.at w.tiles) t = free_found (tile_before c.at w.tiles) t e in
    let found : tile_at c.at w.tiles ≡ Some (tile_of Used c.at c.size) = own_tile r w l last c g own in
    let next : AreNeighbours t (tile_of Used c.at c.size) w.tiles = neighbours_before t (tile_of Used c.at c.size) w.tiles g.sound.row found f.is in
    record {
      held = g;
      own = own;
      found = next.first;
      behind = next.behind;
      chunk = not_edge t f.free;
      low = not_top t f.free;
      low2 = refl;
      linked = free_linked r w l last t g f.free next.first;
      free = f.free;
      tile = next.first;
      either = λ n ne ne2. (ne, ne2);
    }

pub pair_behind : (r : Regions) (w : TileRow) (l : Linked) (last : Option ℕ) (c : Chunk) (u : Tile) → IsSoundGround r w l last → IsTrue (is_own (arena_with r w l last) c) → tile_behind c.at w.tiles ≡ Some u → is_free u ≡ true → ArePair r w l last (tile_of Used c.at c.size) u u c
pair_behind r w l last c u g own behind free =
    let found : tile_at c.at w.tiles ≡ Some (tile_of Used c.at c.size) = own_tile r w l last c g own in
    let next : AreNeighbours (tile_of Used c.at c.size) u w.tiles = neighbours_behind (tile_of Used c.at c.size) u w.tiles g.sound.row found behind in
    record {
      held = g;
      own = own;
      found = found;
      behind = behind;
      chunk = refl;
      low = refl;
      low2 = not_top u free;
      linked = free_linked r w l last u g free next.second;
      free = free;
      tile = next.second;
      either = λ n ne ne2. (ne2, ne);
    }

-- the chunk that they are, in its arena
pub record IsJoinDone (r : Regions) (w : TileRow) (l : Linked) (last : Option ℕ) (c : Chunk) (new : Hand) (left : List (List Chunk)) : Type 0 where
  pub is : hand c (arena_with r w l last) ≡ new
  pub done : IsDone r w l last new.arena
  pub bins : new.arena.bins ≡ left

pub join_before_done : (r : Regions) (w : TileRow) (l m : Linked) (last : Option ℕ) (c : Chunk) (t : Tile) → IsSoundGround r w l last → IsTrue (is_own (arena_with r w l last) c) → free_before_of c.at w.tiles ≡ Some t → m.lists ≡ map (apart_from t.addr) l.lists → m.extent ≡ l.extent → IsJoinDone r (record w { tiles = fused t.addr (tile_of Used t.addr (t.size + c.size)) w.tiles }) m last (record { at = t.addr; size = t.size + c.size }) (joined_before (hand c (arena_with r w l last))) (bins_at w.tiles m.lists)
join_before_done r w l m last c t g own e lists links =
    let a : Plain = arena_with r w l last in
    let h : Hand = hand c a in
    let p = pair_before r w l last c t g own e in
    let f : IsFreeTile (tile_before c.at w.tiles) t = free_found (tile_before c.at w.tiles) t e in
    let pair : ℕ → Hand = λ size. hand (record { at = t.addr; size = size }) (record (unlinked a (chunk_of t)) { tiles = fused t.addr (tile_of Used t.addr size) w.tiles }) in
    let is : joined_before h ≡ pair (t.size + c.size) = before_is h t f ∙ ap pair (let e : c.size + t.size ≡ t.size + c.size = omega arith in e) in
    let j = (joined_before_moved h g.sound (own_count a c own)).joined in
    let moved : Moved a (pair (t.size + c.size)).arena (λ e. once e c) (λ e. once e (pair (t.size + c.size)).chunk) nothing nothing = subst (λ (new : Hand). Moved a new.arena (λ e. once e c) (λ e. once e new.chunk) nothing nothing) is j.moved in
    let d = pair_done r w l m last t (tile_of Used c.at c.size) t c (t.size + c.size) _ p moved lists links in
    record {
      is = ap (λ b. hand (record { at = t.addr; size = t.size + c.size }) b) d.is ∙ sym is;
      done = record { is = d.is ∙ ap (λ (x : Hand). x.arena) (sym is); kept = d.kept };
      bins = ap (λ (x : Hand). x.arena.bins) is ∙ sym (ap (bins_at w.tiles) lists ∙ without_tile r w l last t g p.free p.tile);
    }

pub join_behind_done : (r : Regions) (w : TileRow) (l m : Linked) (last : Option ℕ) (c : Chunk) (u : Tile) → IsSoundGround r w l last → IsTrue (is_own (arena_with r w l last) c) → tile_behind c.at w.tiles ≡ Some u → is_free u ≡ true → m.lists ≡ map (apart_from u.addr) l.lists → m.extent ≡ l.extent → IsJoinDone r (record w { tiles = fused c.at (tile_of Used c.at (c.size + u.size)) w.tiles }) m last (record { at = c.at; size = c.size + u.size }) (joined_behind (hand c (arena_with r w l last))) (bins_at w.tiles m.lists)
join_behind_done r w l m last c u g own behind free lists links =
    let a : Plain = arena_with r w l last in
    let h : Hand = hand c a in
    let p = pair_behind r w l last c u g own behind free in
    let is : joined_behind h ≡ joined h u c.at = behind_is h u (record { is = behind; free = free }) in
    let j = (joined_behind_moved h g.sound (own_count a c own)).joined in
    let moved : Moved a (joined h u c.at).arena (λ e. once e c) (λ e. once e (joined h u c.at).chunk) nothing nothing = subst (λ (new : Hand). Moved a new.arena (λ e. once e c) (λ e. once e new.chunk) nothing nothing) is j.moved in
    let d = pair_done r w l m last (tile_of Used c.at c.size) u u c (c.size + u.size) _ p moved lists links in
    record {
      is = ap (λ b. hand (record { at = c.at; size = c.size + u.size }) b) d.is ∙ sym is;
      done = record { is = d.is ∙ ap (λ (x : Hand). x.arena) (sym is); kept = d.kept };
      bins = ap (λ (x : Hand). x.arena.bins) is ∙ sym (ap (bins_at w.tiles) lists ∙ without_tile r w l last u g p.free p.tile);
    }

-- ---- two used chunks

pub used_behind : (r : Regions) (w : TileRow) (l : Linked) (last : Option ℕ) (c d : Chunk) → IsSoundGround r w l last → IsTrue (is_own (arena_with r w l last) c) → IsTrue (is_own (arena_with r w l last) d) → IsTrue (is_next_to c d) → tile_behind c.at w.tiles ≡ Some (tile_of Used d.at d.size)
used_behind r w l last c d g own own_d next =
    next_tile (tile_of Used c.at c.size) (tile_of Used d.at d.size) w.tiles g.sound.row (own_tile r w l last c g own) refl (own_tile r w l last d g own_d) (eqb-true d.at (c.at + c.size) next)

pub join_used_done : (r : Regions) (w : TileRow) (l : Linked) (last : Option ℕ) (c d : Chunk) → IsSoundGround r w l last → IsTrue (is_own (arena_with r w l last) c) → IsTrue (is_own (arena_with r w l last) d) → IsTrue (is_next_to c d) → IsDone r (record w { tiles = fused c.at (tile_of Used c.at (c.size + d.size)) w.tiles }) l last (joined_with (hand c (arena_with r w l last)) d).arena
join_used_done r w l last c d g own own_d next =
    let a : Plain = arena_with r w l last in
    let x : Tile = tile_of Used c.at (c.size + d.size) in
    let u : Tile = tile_of Used d.at d.size in
    let now : List Tile = fused c.at x w.tiles in
    let new : Plain = (joined_with (hand c a) d).arena in
    let found : tile_at c.at w.tiles ≡ Some (tile_of Used c.at c.size) = own_tile r w l last c g own in
    let behind : tile_behind c.at w.tiles ≡ Some u = used_behind r w l last c d g own own_d next in
    let moved = joined_with_moved (hand c a) d g.sound (own_count a c own) (own_count a d own_d) next in
    let bins : bins_at now l.lists ≡ a.bins = agree w.tiles now l.lists (λ n listed.
    ap size_in (fused_other c.at n u x w.tiles (λ e. omega (arith, listed, used_unlinked r w l last c g found, ap (λ m. times_linked m l.lists) e))
    (λ e. omega (arith, listed, used_unlinked r w l last d g (own_tile r w l last d g own_d), ap (λ m. times_linked m l.lists) e)) refl behind)) in
    done r w (record w { tiles = now }) l l last new _ _ g.ground moved refl (record { tiles = refl; links = refl }) (λ i. record new { bins = bins i })
    (top_fused c.at x (tile_of Used c.at c.size) u w.tiles found behind refl refl refl)
