-- Laws of heaps that are dropped, for this crate and those above it: the heap of top, which is its only tile, goes, and
-- the end of the heap before is top.
use Rattle.std.proofs.Common.{◌≡◌, ℕ, ◌+◌, ◌-◌, ◌<◌, ◌≤◌, Bool, true, false, ◌&&◌, ◌||◌, cond, List, [], ◌∷◌, Option, Some, None, refl, sym, ap, ◌∙◌, subst, inl, inr, arith}
use Rattle.std.specs.Prelude.{slice_get}
use Rattle.std.proofs.lemmas.Bool.{and_left, or_parts, and_cases, true≢false}
use Rattle.chunk_tags.specs.Tiles.{is_free, is_top, is_edge, end_of, IsTile, Meets, Leads, Row, swapped, tile_before, top_of}
use Rattle.chunk_tags.specs.declared.tiles.Tile.{Tile}
use Rattle.chunk_tags.specs.declared.tiles.TileKind.{TileKind}
use Rattle.chunk_tags.specs.declared.tiles.TileKind.TheVariants.{Used, Free, Top, Fence}
use Rattle.arena_rules.specs.PlainArena.{Plain, unlinked, IsSound}
use Rattle.arena_rules.specs.Moves.{tile_of, top_start}
use Rattle.arena_rules.specs.declared.heap_end.HeapEnd.{HeapEnd}
use Rattle.arena_rules.specs.Heaps.{free_part, end_before, end_bytes, end_start, heap_length, without_heap}
use Rattle.arena_rules.proofs.Rows.{onto, at_place, first_is, Ends, front_ends, swapped_here, read, row_behind, Led, led, led_as, found_also, if_found, NotFree, MayLead, may_lead_behind}
use Rattle.arena_rules.proofs.Counts.{same_tile}
use Rattle.arena_rules.proofs.Changes.{IsChanged, changed_at, AreNeighbours, neighbours_before, resized_leads}
use Rattle.arena_rules.proofs.Entries.{gap_is_edge}
use Rattle.arena_rules.proofs.Moved.{Moved, parts_of, none, nothing, listed_still, top_to, moved_with}
use Rattle.arena_rules.proofs.Tops.{IsTopOf, top_found, top_at}
use Rattle.arena_rules.proofs.ChunkMoves.{free_is, relisted_without, tile_listed}
use Rattle.arena_rules.proofs.Lookups.{some_is}

-- ---- in the row

-- an edge ends where another tile did, before others that stay
ends_there : (f top x : Tile) (us : List Tile) → Meets f top → Leads top us → end_of x ≡ end_of f → is_edge x ≡ true → Leads x us
ends_there f top x us meets leads end edge =
    resized_leads top x us leads edge (if_found (λ u. end_of x ≤ u.addr) (slice_get us 0) (λ u e. below u us leads e))
  where
    below : (u : Tile) (us : List Tile) → Leads top us → slice_get us 0 ≡ Some u → end_of x ≤ u.addr
    below u [] h e = absurd cc
    below u (v ∷ vs) h e = let same : v ≡ u = cc in omega (arith, h.order, meets.order, end, ap (λ (t : Tile). t.addr) same)

-- the fence at the end of a heap becomes top, and the top behind it goes
pub record IsDropping (f top x : Tile) (ts : List Tile) : Type 0 where
  pub next : AreNeighbours f top ts
  pub tile : IsTile x
  pub at : x.addr ≡ f.addr
  pub end : end_of x ≡ end_of f
  pub edge : is_edge x ≡ true
  pub before : MayLead x (tile_before f.addr ts)

dropped_in : (f top x : Tile) (ls us : List Tile) → Row (onto ls (f ∷ top ∷ us)) → IsDropping f top x (onto ls (f ∷ top ∷ us)) → IsChanged (onto ls (f ∷ top ∷ us)) (swapped f.addr (x ∷ []) (swapped top.addr [] (onto ls (f ∷ top ∷ us)))) (f ∷ top ∷ []) (x ∷ [])
dropped_in f top x ls us row d =
    let r = read ls f (top ∷ us) row in
    let here : Row (f ∷ top ∷ us) = row_behind ls (f ∷ top ∷ us) row in
    let new : Row (x ∷ us) = (d.tile, ends_there f top x us here.1 here.2.1 d.end d.edge, here.2.2) in
    let first : Led ls (x ∷ us) = led_as ls f x (top ∷ us) us (led ls (f ∷ top ∷ us) row) d.at (subst (MayLead x) r.before d.before) in
    let gone : swapped top.addr [] (onto ls (f ∷ top ∷ us)) ≡ onto ls (f ∷ us) = swapped_here (f ∷ ls) top us [] (front_ends (f ∷ ls) top us row) in
    let is : swapped f.addr (x ∷ []) (swapped top.addr [] (onto ls (f ∷ top ∷ us))) ≡ onto ls (x ∷ us) =
    ap (swapped f.addr (x ∷ [])) gone ∙ swapped_here ls f us (x ∷ []) (front_ends ls f (top ∷ us) row) in
    subst (λ n. IsChanged (onto ls (f ∷ top ∷ us)) n (f ∷ top ∷ []) (x ∷ [])) (sym is) (changed_at ls (f ∷ top ∷ []) us (x ∷ []) row new first)

-- the same with the free chunk before the fence
pub record IsDroppingFree (u f top x : Tile) (ts : List Tile) : Type 0 where
  pub before : AreNeighbours u f ts
  pub next : AreNeighbours f top ts
  pub tile : IsTile x
  pub at : x.addr ≡ u.addr
  pub end : end_of x ≡ end_of f
  pub edge : is_edge x ≡ true
  pub free : is_free u ≡ true

dropped_free_in : (u f top x : Tile) (ls us : List Tile) → Row (onto ls (u ∷ f ∷ top ∷ us)) → IsDroppingFree u f top x (onto ls (u ∷ f ∷ top ∷ us)) → IsChanged (onto ls (u ∷ f ∷ top ∷ us)) (swapped f.addr (x ∷ []) (swapped top.addr [] (swapped u.addr [] (onto ls (u ∷ f ∷ top ∷ us))))) (u ∷ f ∷ top ∷ []) (x ∷ [])
dropped_free_in u f top x ls us row d =
    let here : Row (u ∷ f ∷ top ∷ us) = row_behind ls (u ∷ f ∷ top ∷ us) row in
    let new : Row (x ∷ us) = (d.tile, ends_there f top x us here.2.1 here.2.2.1 d.end d.edge, here.2.2.2) in
    let old : Led ls (u ∷ f ∷ top ∷ us) = led ls (u ∷ f ∷ top ∷ us) row in
    let apart : MayLead x (slice_get ls 0) =
    found_also (λ l. Leads l (u ∷ f ∷ top ∷ us)) (λ l. is_free l && (is_free x || is_top x) ≡ false) (slice_get ls 0) (λ l h. and_left (is_free l) (is_free x || is_top x) (not_before_free l u h d.free)) old in
    let first : Led ls (x ∷ us) = led_as ls u x (f ∷ top ∷ us) us old d.at apart in
    let ends_top : Ends top.addr (f ∷ u ∷ ls) = front_ends (f ∷ u ∷ ls) top us row in
    let one : swapped u.addr [] (onto ls (u ∷ f ∷ top ∷ us)) ≡ onto ls (f ∷ top ∷ us) = swapped_here ls u (f ∷ top ∷ us) [] (front_ends ls u (f ∷ top ∷ us) row) in
    let two : swapped top.addr [] (onto ls (f ∷ top ∷ us)) ≡ onto ls (f ∷ us) = swapped_here (f ∷ ls) top us [] (ends_top.0, ends_top.1.1) in
    let three : swapped f.addr (x ∷ []) (onto ls (f ∷ us)) ≡ onto ls (x ∷ us) = swapped_here ls f us (x ∷ []) (front_ends (u ∷ ls) f (top ∷ us) row).1 in
    let is : swapped f.addr (x ∷ []) (swapped top.addr [] (swapped u.addr [] (onto ls (u ∷ f ∷ top ∷ us)))) ≡ onto ls (x ∷ us) =
    ap (λ ts. swapped f.addr (x ∷ []) (swapped top.addr [] ts)) one ∙ (ap (swapped f.addr (x ∷ [])) two ∙ three) in
    subst (λ n. IsChanged (onto ls (u ∷ f ∷ top ∷ us)) n (u ∷ f ∷ top ∷ []) (x ∷ [])) (sym is) (changed_at ls (u ∷ f ∷ top ∷ []) us (x ∷ []) row new first)
  where
    not_before_free : (l u : Tile) → Meets l u → is_free u ≡ true → is_free l ≡ false
    not_before_free l u meets free =
        elim (and_cases (is_free l) (is_free u || is_top u) meets.apart) [
          | inl other ↦ other
          | inr neither ↦ absurd (true≢false (sym free ∙ (or_parts (is_free u) (is_top u) neither).0))
        ]

pub dropped_row : (f top x : Tile) (ts : List Tile) → Row ts → IsDropping f top x ts → IsChanged ts (swapped f.addr (x ∷ []) (swapped top.addr [] ts)) (f ∷ top ∷ []) (x ∷ [])
dropped_row f top x ts row d =
    at_place (λ xs. Row xs → IsDropping f top x xs → IsChanged xs (swapped f.addr (x ∷ []) (swapped top.addr [] xs)) (f ∷ top ∷ []) (x ∷ [])) f ts d.next.first (λ ls us row d.
    first_is (λ vs. Row (onto ls (f ∷ vs)) → IsDropping f top x (onto ls (f ∷ vs)) → IsChanged (onto ls (f ∷ vs)) (swapped f.addr (x ∷ []) (swapped top.addr [] (onto ls (f ∷ vs)))) (f ∷ top ∷ []) (x ∷ [])) top us
    (sym (read ls f us row).behind ∙ d.next.behind) (dropped_in f top x ls) row d) row d

abbrev pub free_dropped : Tile → Tile → Tile → Tile → List Tile → List Tile
free_dropped u f top x ts = swapped f.addr (x ∷ []) (swapped top.addr [] (swapped u.addr [] ts))

-- what is to be shown of a row
abbrev DropsFree : Tile → Tile → Tile → Tile → List Tile → Type 0
DropsFree u f top x xs = Row xs → IsDroppingFree u f top x xs → IsChanged xs (free_dropped u f top x xs) (u ∷ f ∷ top ∷ []) (x ∷ [])

pub dropped_free_row : (u f top x : Tile) (ts : List Tile) → Row ts → IsDroppingFree u f top x ts → IsChanged ts (free_dropped u f top x ts) (u ∷ f ∷ top ∷ []) (x ∷ [])
dropped_free_row u f top x ts row d =
    at_place (DropsFree u f top x) u ts d.before.first (λ ls us row d.
    first_is (λ vs. DropsFree u f top x (onto ls (u ∷ vs))) f us (sym (read ls u us row).behind ∙ d.before.behind) (λ vs row d.
    first_is (λ ws. DropsFree u f top x (onto ls (u ∷ f ∷ ws))) top vs (sym (read (u ∷ ls) f vs row).behind ∙ d.next.behind) (dropped_free_in u f top x ls) row d) row d) row d

-- ---- in the arena

whole_dropped : (a new : Plain) (at size top_addr top_size now : ℕ) → IsSound a → AreNeighbours (tile_of Fence at size) (tile_of Top top_addr top_size) a.tiles → NotFree (tile_before at a.tiles) → now ≡ size → new.tiles ≡ swapped at (tile_of Top at now ∷ []) (swapped top_addr [] a.tiles) → new.bins ≡ a.bins → Moved a new none none (λ v. v top_addr top_size) nothing
whole_dropped a new at size top_addr top_size now s next before same tiles bins =
    let f : Tile = tile_of Fence at size in
    let top : Tile = tile_of Top top_addr top_size in
    let x : Tile = tile_of Top at now in
    let dropping : IsDropping f top x a.tiles = record {
      next = next;
      tile = record { size = (omega (arith, next.tile.size.0, same), omega (arith, next.tile.size.1, same)); place = next.tile.place };
      at = refl;
      end = omega (arith, same);
      edge = refl;
      before = may_lead_behind x (tile_before at a.tiles) before;
    } in
    let c : IsChanged a.tiles new.tiles (f ∷ top ∷ []) (x ∷ []) = subst (λ ts. IsChanged a.tiles ts (f ∷ top ∷ []) (x ∷ [])) (sym tiles) (dropped_row f top x a.tiles s.row dropping) in
    moved_with a new (f ∷ top ∷ []) (x ∷ []) none none (λ v. v top_addr top_size) nothing s c
    (listed_still a new (f ∷ top ∷ []) (x ∷ []) s bins (λ e. refl)) (omega (arith, top_to a top_addr top s next.second))
    (record { leaves = λ e. refl; comes = λ e. refl; spans = λ v adds. omega (arith, ap (v at) same) })

free_end_dropped : (a new : Plain) (free_addr free_size at size top_addr top_size now : ℕ) → IsSound a → AreNeighbours (tile_of Free free_addr free_size) (tile_of Fence at size) a.tiles → AreNeighbours (tile_of Fence at size) (tile_of Top top_addr top_size) a.tiles → now ≡ size + free_size → new.tiles ≡ free_dropped (tile_of Free free_addr free_size) (tile_of Fence at size) (tile_of Top top_addr top_size) (tile_of Top free_addr now) a.tiles → new.bins ≡ (unlinked a (record { at = free_addr; size = free_size })).bins → Moved a new none none (λ v. v top_addr top_size) nothing
free_end_dropped a new free_addr free_size at size top_addr top_size now s before next same tiles bins =
    let u : Tile = tile_of Free free_addr free_size in
    let f : Tile = tile_of Fence at size in
    let top : Tile = tile_of Top top_addr top_size in
    let x : Tile = tile_of Top free_addr now in
    let joins : free_addr + free_size ≡ at = before.meets.joins refl in
    let dropping : IsDroppingFree u f top x a.tiles = record {
      before = before;
      next = next;
      tile = record { size = (omega (arith, next.tile.size.0, same), omega (arith, next.tile.size.1, before.tile.size.1, same)); place = before.tile.place };
      at = refl;
      end = omega (arith, same, joins);
      edge = refl;
      free = refl;
    } in
    let c : IsChanged a.tiles new.tiles (u ∷ f ∷ top ∷ []) (x ∷ []) = subst (λ ts. IsChanged a.tiles ts (u ∷ f ∷ top ∷ []) (x ∷ [])) (sym tiles) (dropped_free_row u f top x a.tiles s.row dropping) in
    moved_with a new (u ∷ f ∷ top ∷ []) (x ∷ []) none none (λ v. v top_addr top_size) nothing s c
    (relisted_without a new (record { at = free_addr; size = free_size }) (u ∷ f ∷ top ∷ []) (x ∷ []) s (tile_listed a u s refl before.first) bins (λ e. omega arith))
    (omega (arith, top_to a top_addr top s next.second))
    (record {
      leaves = λ e. refl;
      comes = λ e. refl;
      spans = λ v adds. omega (arith, parts_of v free_addr free_size size now adds (omega (arith, same)), ap (λ n. v n size) joins);
    })

fence_kind : (k : TileKind) → is_edge (tile_of k 0 0) ≡ true → is_top (tile_of k 0 0) ≡ false → k ≡ Fence
fence_kind Used e not_top = absurd cc
fence_kind Free e not_top = absurd cc
fence_kind Top e not_top = absurd cc
fence_kind Fence e not_top = refl

-- the tile before top, with a gap between, is a fence
fence_before : (a : Plain) (f top : Tile) → IsSound a → top_of a.tiles ≡ Some top → AreNeighbours f top a.tiles → end_of f < top.addr → f ≡ tile_of Fence f.addr f.size
fence_before a f top s e next gap =
    let edge : is_edge f ≡ true = gap_is_edge f top.addr next.meets.joins gap in
    let cases : (b : Bool) → is_top f ≡ b → f ≡ tile_of Fence f.addr f.size = elim [
      | true ↦ λ is.
          let same : top ≡ f = some_is top f (sym e ∙ top_at a f s next.first is) in
          absurd (omega (arith, gap, ap (λ (t : Tile). t.addr) same))
      | false ↦ λ is. same_tile f Fence f.addr f.size (fence_kind f.kind edge is) refl refl
    ] in
    cases (is_top f) refl

-- what stands before the fence, where it is free
none_free : (o : Option Tile) → None ≡ free_part o → NotFree o
none_free None e = tt
none_free (Some u) e =
    let cases : (b : Bool) → is_free u ≡ b → None ≡ cond b (Some u) None → is_free u ≡ false = elim [
      | true ↦ λ is h. absurd cc
      | false ↦ λ is h. is
    ] in
    cases (is_free u) refl e

pub record IsFreePart (u : Tile) (o : Option Tile) : Type 0 where
  pub found : o ≡ Some u
  pub free : is_free u ≡ true

pub free_part_is : (u : Tile) (o : Option Tile) → Some u ≡ free_part o → IsFreePart u o
free_part_is u None e = absurd cc
free_part_is u (Some v) e =
    let cases : (b : Bool) → is_free v ≡ b → Some u ≡ cond b (Some v) None → IsFreePart u (Some v) = elim [
      | true ↦ λ is h. let same : u ≡ v = cc in record { found = ap (λ (t : Tile). Some t) (sym same); free = ap is_free same ∙ is }
      | false ↦ λ is h. absurd cc
    ] in
    cases (is_free v) refl e

dropped : (a : Plain) (top f : Tile) (o : Option Tile) (room : ℕ) → IsSound a → top_start a ≡ top.addr → AreNeighbours (tile_of Fence f.addr f.size) (tile_of Top top.addr top.size) a.tiles → o ≡ free_part (tile_before f.addr a.tiles) → Moved a (without_heap a (record { fence = f; before = o; room = room })) none none (λ v. v top.addr top.size) nothing
dropped a top f None room s start next e =
    let end : HeapEnd = record { fence = f; before = None; room = room } in
    whole_dropped a (without_heap a end) f.addr f.size top.addr top.size (end_bytes end) s next (none_free (tile_before f.addr a.tiles) e) (omega arith)
    (ap (λ n. swapped f.addr (tile_of Top (end_start end) (end_bytes end) ∷ []) (swapped n [] a.tiles)) start) refl
dropped a top f (Some u) room s start next e =
    let end : HeapEnd = record { fence = f; before = Some u; room = room } in
    let p : IsFreePart u (tile_before f.addr a.tiles) = free_part_is u (tile_before f.addr a.tiles) e in
    let fence : Tile = tile_of Fence f.addr f.size in
    let before : AreNeighbours (tile_of Free u.addr u.size) fence a.tiles = neighbours_before (tile_of Free u.addr u.size) fence a.tiles s.row next.first (p.found ∙ ap (λ (x : Tile). Some x) (free_is u p.free)) in
    free_end_dropped a (without_heap a end) u.addr u.size f.addr f.size top.addr top.size (end_bytes end) s before next refl
    (ap (λ n. swapped f.addr (tile_of Top (end_start end) (end_bytes end) ∷ []) (swapped n [] (swapped u.addr [] a.tiles))) start) refl

pub record IsEndBefore (a : Plain) (top : Tile) (e : HeapEnd) : Type 0 where
  pub fence : tile_before top.addr a.tiles ≡ Some e.fence
  pub before : e.before ≡ free_part (tile_before e.fence.addr a.tiles)
  pub room : e.room ≡ a.windows.heap_max - heap_length a e.fence

pub end_is : (a : Plain) (top : Tile) (e : HeapEnd) → end_before a top ≡ Some e → IsEndBefore a top e
end_is a top e is =
    let cases : (o : Option Tile) → tile_before top.addr a.tiles ≡ o → elim o [ None ↦ None | Some f ↦ Some (record { fence = f; before = free_part (tile_before f.addr a.tiles); room = a.windows.heap_max - heap_length a f }) ] ≡ Some e → IsEndBefore a top e = elim [
      | None ↦ λ found h. absurd cc
      | Some f ↦ λ found h.
          let made : HeapEnd = record { fence = f; before = free_part (tile_before f.addr a.tiles); room = a.windows.heap_max - heap_length a f } in
          let same : made ≡ e = same_end made e h in
          subst (λ x. IsEndBefore a top x) same (record { fence = found; before = refl; room = refl })
    ] in
    cases (tile_before top.addr a.tiles) refl is
  where
    same_end : (d e : HeapEnd) → let o : Option HeapEnd = Some d in o ≡ Some e → d ≡ e
    same_end d e h = cc

-- The heap of top goes, which is a gap away from the tile before it.
pub heap_dropped : (a : Plain) (top : Tile) (e : HeapEnd) → IsSound a → top_of a.tiles ≡ Some top → end_before a top ≡ Some e → end_of e.fence < top.addr → Moved a (without_heap a e) none none (λ v. v top.addr top.size) nothing
heap_dropped a top e s is ends gap =
    let b : IsEndBefore a top e = end_is a top e ends in
    let f : IsTopOf top a.tiles = top_found top a.tiles s.row is in
    let next : AreNeighbours e.fence top a.tiles = neighbours_before e.fence top a.tiles s.row f.found b.fence in
    let fence : e.fence ≡ tile_of Fence e.fence.addr e.fence.size = fence_before a e.fence top s is next gap in
    let both : AreNeighbours (tile_of Fence e.fence.addr e.fence.size) (tile_of Top top.addr top.size) a.tiles =
    subst (λ x. AreNeighbours x (tile_of Top top.addr top.size) a.tiles) fence (subst (λ x. AreNeighbours e.fence x a.tiles) f.is next) in
    dropped a top e.fence e.before e.room s (ap (λ o. elim o [ None ↦ 0 | Some t ↦ t.addr ]) is) both b.before
