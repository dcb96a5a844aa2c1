-- A ground after a move of top, of main's ranges, or of its words.
use Rattle.std.proofs.Common.{◌≡◌, ℕ, ◌+◌, ◌-◌, ◌≤◌, false, List, [], ◌∷◌, Option, Some, None, IsTrue, refl, sym, ap, ◌∙◌, subst, arith, true≢false}
use Rattle.std.specs.Prelude.{nat_eq, sum_by, vec_capacity}
use Rattle.chunk_tags.specs.declared.tiles.Chunk.{Chunk}
use Rattle.chunk_tags.specs.BinOrder.{times_in}
use Rattle.chunk_tags.specs.Sizes.{IsChunkSize}
use Rattle.chunk_tags.specs.Tiles.{tile_before, tile_behind, top_of}
use Rattle.chunk_tags.specs.declared.tiles.Tile.{Tile}
use Rattle.chunk_tags.specs.declared.tiles.TileKind.TheVariants.{Used, Top}
use Rattle.chunk_tags.specs.Tunables.{main_limit}
use Rattle.ordinary_bins.specs.Lists.{Linked}
use Rattle.part_words.specs.Extents.{IsWider}
use Rattle.chunk_image.specs.Rows.{TileRow}
use Rattle.address_space.specs.Spaces.{main_start, piece_start}
use Rattle.large_bins.specs.SeenChunks.{size_in}
use Rattle.arena_rules.specs.PlainArena.{Plain, IsSound, is_main, is_own, beside}
use Rattle.arena_rules.specs.Moves.{tile_of, with_tiles, absorbed, cut_from_top, is_before_top, is_free_tile, top_end}
use Rattle.arena_rules.specs.Growth.{break_taken, has_top_for, noted, piece_taken}
use Rattle.arena_rules.specs.Trim.{main_cut, CanCutMain}
use Rattle.arena_rules.specs.Resize.{fits_with_top, grown_into_top}
use Rattle.arena_rules.proofs.Changes.{AreNeighbours, neighbours_behind}
use Rattle.arena_rules.proofs.ChunkMoves.{listed_tile, free_not_found}
use Rattle.arena_rules.proofs.Merging.{HasTopBehind, has_top_behind, absorbed_moved}
use Rattle.arena_rules.proofs.Resizes.{grown_into_top_moved, beside_grown_into_top}
use Rattle.arena_rules.proofs.Tops.{top_at}
use Rattle.heap_top.specs.declared.regions.Regions.{Regions}
use Rattle.heap_top.specs.Regions.{arena_of, HasTop, KnowsTop}
use Rattle.heap_top.specs.MainRanges.{IsNewRange}
use Rattle.arena_rules.proofs.Moved.{Moved, nothing}
use Rattle.arena_rules.proofs.TopEnds.{absorbed_end, grown_into_top_end}
use Rattle.heap_top.proofs.MainMoves.{IsCutOff, IsMainKept, cut_off, break_kept, piece_kept, trim_kept}
use Rattle.heap_top.proofs.TopLaws.{knows_top}
use Rattle.arena_ground.specs.Grounds.{arena_with, bins_at, tile_chunk, IsGround, IsPlacedIn}
use Rattle.arena_ground.proofs.Bridges.{agree, times_all}
use Rattle.arena_ground.proofs.Keeping.{in_beside, in_still, windows_of, AreRegionsKept, IsSoundGround, IsDone, kept_words}
use Rattle.arena_ground.proofs.Moving.{own_tile}

-- ---- in general

-- where a sound arena has these bins, its tiles give them
top_bins : (b : Plain) (ts : List Tile) (lists : List (List ℕ)) → IsSound b → b.bins ≡ bins_at ts lists → bins_at b.tiles lists ≡ bins_at ts lists
top_bins b ts lists s same =
    agree ts b.tiles lists (λ n some.
    ap size_in (listed_tile b (tile_chunk ts n) s (omega (arith, some, times_all ts n lists, ap (sum_by (times_in (tile_chunk ts n))) same))))

-- what a change of the regions did
pub record IsChangedTo (r s : Regions) (w v : TileRow) (l m : Linked) (last : Option ℕ) (new : Plain) : Type 0 where
  pub arena : arena_of s v.tiles (bins_at w.tiles m.lists) last ≡ new
  pub top : HasTop s.top v.tiles
  pub extent : v.extent ≡ w.extent
  pub links : m.extent ≡ l.extent
  pub room : vec_capacity r.closed ≤ vec_capacity s.closed

-- what is so of the arena after it
pub record IsKeptIn (r : Regions) (w : TileRow) (m : Linked) (closed : List ℕ) (new : Plain) : Type 0 where
  pub sound : IsSound new
  pub placed : IsPlacedIn new closed
  pub bins : new.bins ≡ bins_at w.tiles m.lists
  pub number : new.number ≡ r.number
  pub windows : new.windows ≡ windows_of r

pub change_done : (r s : Regions) (w v : TileRow) (l m : Linked) (last : Option ℕ) (new : Plain) → IsGround r w l last → IsChangedTo r s w v l m last new → IsKeptIn r w m s.closed.items new → IsDone s v m last new
change_done r s w v l m last new g t k =
    let bins : bins_at v.tiles m.lists ≡ bins_at w.tiles m.lists =
    ap (λ (x : Plain). bins_at x.tiles m.lists) t.arena ∙ top_bins new w.tiles m.lists k.sound k.bins in
    let is : arena_with s v m last ≡ new = ap (λ bins. arena_of s v.tiles bins last) bins ∙ t.arena in
    let same : AreRegionsKept r s = record {
      number = ap (λ (x : Plain). x.number) t.arena ∙ k.number;
      windows = ap (λ (x : Plain). x.windows) t.arena ∙ k.windows;
      room = t.room;
    } in
    record {
      is = is;
      kept = kept_words r s w v l m last last g (record { tiles = t.extent; links = t.links }) same
          (knows_top (arena_with s v m last) s.top (subst IsSound (sym is) k.sound) t.top) (subst (λ x. IsPlacedIn x s.closed.items) (sym is) k.placed);
    }

-- what a move of top did
pub record IsTopMoved (r s : Regions) (w v : TileRow) (l : Linked) (last : Option ℕ) (new : Plain) : Type 0 where
  pub arena : arena_of s v.tiles (bins_at w.tiles l.lists) last ≡ new
  pub top : HasTop s.top v.tiles
  pub extent : v.extent ≡ w.extent
  pub closed : s.closed ≡ r.closed

pub top_done : (r s : Regions) (w v : TileRow) (l : Linked) (last : Option ℕ) (new : Plain) → IsGround r w l last → IsTopMoved r s w v l last new → IsKeptIn r w l r.closed.items new → IsDone s v l last new
top_done r s w v l last new g m k =
    change_done r s w v l l last new g (record { arena = m.arena; top = m.top; extent = m.extent; links = refl; room = omega (arith, ap (λ x. vec_capacity x) m.closed) })
    (record { sound = k.sound; placed = subst (λ x. IsPlacedIn new x.items) (sym m.closed) k.placed; bins = k.bins; number = k.number; windows = k.windows })

-- a move that takes and gives no bytes
still_done : (r s : Regions) (w v : TileRow) (l : Linked) (last : Option ℕ) (new : Plain) (left came : Chunk → ℕ) → IsGround r w l last → IsTopMoved r s w v l last new → Moved (arena_with r w l last) new left came nothing nothing → beside new ≡ beside (arena_with r w l last) → top_end new ≡ top_end (arena_with r w l last) → new.bins ≡ bins_at w.tiles l.lists → IsDone s v l last new
still_done r s w v l last new left came g m moved same end bins =
    top_done r s w v l last new g m (record {
      sound = moved.sound;
      placed = in_still (arena_with r w l last) new left came r.closed.items moved same end g.placed;
      bins = bins;
      number = ap (λ (x : Plain). x.number) same;
      windows = ap (λ (x : Plain). x.windows) same;
    })

-- a move of main
main_done : (r s : Regions) (w v : TileRow) (l : Linked) (last : Option ℕ) (new : Plain) → IsGround r w l last → IsTrue (is_main (arena_with r w l last)) → IsTopMoved r s w v l last new → IsMainKept (arena_with r w l last) new → IsDone s v l last new
main_done r s w v l last new g main m k =
    top_done r s w v l last new g m (record {
      sound = k.sound;
      placed = record { main = λ is. k.placed; other = λ not. absurd (true≢false (sym main ∙ (ap (λ n. nat_eq n 0) (sym k.number) ∙ not))) };
      bins = k.bins;
      number = k.number;
      windows = k.windows;
    })

-- ---- a chunk is cut off

pub cut_done : (r s : Regions) (w v : TileRow) (l : Linked) (last : Option ℕ) (nb : ℕ) → IsSoundGround r w l last → IsChunkSize nb → IsTrue (has_top_for (arena_with r w l last) nb) → IsTopMoved r s w v l last (cut_from_top (arena_with r w l last) nb) → IsDone s v l last (cut_from_top (arena_with r w l last) nb)
cut_done r s w v l last nb g chunk room m =
    let a : Plain = arena_with r w l last in
    let c : IsCutOff a nb = cut_off a nb g.sound chunk room in
    still_done r s w v l last (cut_from_top a nb) _ c.came g.ground m c.moved (ap (λ (x : Plain). record x { bins = [] }) c.same) c.end (ap (λ (x : Plain). x.bins) c.same)

-- ---- a chunk becomes part of it

pub behind_top : (r : Regions) (w : TileRow) (l : Linked) (last : Option ℕ) (c : Chunk) → IsSoundGround r w l last → IsTrue (is_own (arena_with r w l last) c) → IsTrue (is_before_top (arena_with r w l last) c) → tile_behind c.at w.tiles ≡ top_of w.tiles
behind_top r w l last c g own before =
    let a : Plain = arena_with r w l last in
    let h : HasTopBehind a c = has_top_behind a c before in
    let next : AreNeighbours (tile_of Used c.at c.size) h.tile w.tiles = neighbours_behind (tile_of Used c.at c.size) h.tile w.tiles g.sound.row (own_tile r w l last c g own) h.behind in
    h.behind ∙ sym (top_at a h.tile g.sound next.second h.top)

pub absorb_done : (r s : Regions) (w v : TileRow) (l : Linked) (last : Option ℕ) (c : Chunk) → IsSoundGround r w l last → IsTrue (is_own (arena_with r w l last) c) → is_free_tile (tile_before c.at w.tiles) ≡ false → IsTrue (is_before_top (arena_with r w l last) c) → IsTopMoved r s w v l last (absorbed (arena_with r w l last) c) → IsDone s v l last (absorbed (arena_with r w l last) c)
absorb_done r s w v l last c g own before top m =
    let a : Plain = arena_with r w l last in
    let moved = absorbed_moved a c g.sound own top (free_not_found (tile_before c.at w.tiles) before) in
    still_done r s w v l last (absorbed a c) _ _ g.ground m moved refl (absorbed_end a c g.sound own top) refl

-- ---- a chunk grows into it

grown_bins : (a : Plain) (c : Chunk) (nb : ℕ) → (grown_into_top a c nb).bins ≡ a.bins
grown_bins a c nb =
    let b : Plain = absorbed a c in
    let cut : Option Tile → Plain = λ o. elim o [ None ↦ b | Some t ↦ with_tiles b t.addr (tile_of Used t.addr nb ∷ tile_of Top (t.addr + nb) (t.size - nb) ∷ []) ] in
    let cases : (o : Option Tile) → (cut o).bins ≡ a.bins = elim [ None ↦ refl | Some t ↦ refl ] in
    cases (top_of b.tiles)

pub grow_done : (r s : Regions) (w v : TileRow) (l : Linked) (last : Option ℕ) (c : Chunk) (nb : ℕ) → IsSoundGround r w l last → IsTrue (is_own (arena_with r w l last) c) → IsChunkSize nb → IsTrue (fits_with_top (arena_with r w l last) c nb) → IsTopMoved r s w v l last (grown_into_top (arena_with r w l last) c nb) → IsDone s v l last (grown_into_top (arena_with r w l last) c nb)
grow_done r s w v l last c nb g own chunk room m =
    let a : Plain = arena_with r w l last in
    let moved = grown_into_top_moved a c nb g.sound own room chunk in
    still_done r s w v l last (grown_into_top a c nb) _ _ g.ground m moved (beside_grown_into_top a c nb) (grown_into_top_end a c nb g.sound own room) (grown_bins a c nb)

-- ---- main grows

pub break_done : (r s : Regions) (w v : TileRow) (l : Linked) (last : Option ℕ) (growth : ℕ) → IsSoundGround r w l last → IsTrue (is_main (arena_with r w l last)) → IsNewRange w.extent r.break_at growth (main_start + main_limit) → IsTopMoved r s w v l last (break_taken (arena_with r w l last) growth) → IsDone s v l last (break_taken (arena_with r w l last) growth)
break_done r s w v l last growth g main range m =
    let a : Plain = arena_with r w l last in
    main_done r s w v l last (break_taken a growth) g.ground main m (break_kept a growth g.sound (g.ground.placed.main main) range.some range.pages range.window)

pub piece_done : (r s : Regions) (w v : TileRow) (l : Linked) (last : Option ℕ) (len : ℕ) → IsSoundGround r w l last → IsTrue (is_main (arena_with r w l last)) → IsNewRange w.extent r.next_piece len (piece_start + main_limit) → IsTopMoved r s w v l last (piece_taken (arena_with r w l last) len) → IsDone s v l last (piece_taken (arena_with r w l last) len)
piece_done r s w v l last len g main range m =
    let a : Plain = arena_with r w l last in
    main_done r s w v l last (piece_taken a len) g.ground main m (piece_kept a len g.sound (g.ground.placed.main main) range.some range.pages range.window)

-- ---- the end of the break is given back

pub trim_done : (r s : Regions) (w v : TileRow) (l : Linked) (last : Option ℕ) (bytes : ℕ) → IsSoundGround r w l last → IsTrue (is_main (arena_with r w l last)) → CanCutMain (arena_with r w l last) bytes → IsTopMoved r s w v l last (main_cut (arena_with r w l last) bytes) → IsDone s v l last (main_cut (arena_with r w l last) bytes)
trim_done r s w v l last bytes g main can m =
    let a : Plain = arena_with r w l last in
    main_done r s w v l last (main_cut a bytes) g.ground main m (trim_kept a bytes g.sound (g.ground.placed.main main) can)

-- ---- other numbers, and more words

pub noted_kept : (r s : Regions) (w : TileRow) (l : Linked) (last : Option ℕ) → IsGround r w l last → s.top ≡ r.top → s.closed ≡ r.closed → arena_with s w l last ≡ noted (arena_with r w l last) → IsGround s w l last
noted_kept r s w l last g top closed is =
    let a : Plain = arena_with r w l last in
    let same : AreRegionsKept r s = record {
      number = ap (λ (x : Plain). x.number) is;
      windows = ap (λ (x : Plain). x.windows) is;
      room = omega (arith, ap (λ x. vec_capacity x) closed);
    } in
    let placed : IsPlacedIn (noted a) r.closed.items = in_beside a r.closed.items a.bins a.last (noted a).most g.placed in
    kept_words r s w w l l last last g (record { tiles = refl; links = refl }) same
    (record { row = g.known.row; is = g.known.is ∙ sym top }) (subst (λ x. IsPlacedIn x s.closed.items) (sym is) (subst (λ x. IsPlacedIn (noted a) x.items) (sym closed) placed))

pub opened_kept : (r : Regions) (w v : TileRow) (l m : Linked) (last : Option ℕ) → IsGround r w l last → v.tiles ≡ w.tiles → m.lists ≡ l.lists → IsWider v.extent m.extent → v.extent.base ≡ w.extent.base → v.extent.width ≡ w.extent.width → IsGround r v m last
opened_kept r w v l m last g tiles lists covers base width = record {
  known = subst (KnowsTop r.top) (sym tiles) g.known;
  placed = subst (λ x. IsPlacedIn x r.closed.items) (λ i. arena_of r (sym tiles i) (bins_at (sym tiles i) (sym lists i)) last) g.placed;
  room = g.room;
  covers = covers;
  base = base ∙ g.base;
  width = width ∙ g.width;
}
