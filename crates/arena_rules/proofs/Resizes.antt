-- Laws of a used chunk that gets another size, for this crate and those above it: it grows into the top behind it, is joined
-- with the free or the used chunk behind it, and is parted.
use Rattle.std.proofs.Common.{◌≡◌, ℕ, ◌+◌, ◌-◌, ◌<◌, ◌≤◌, Bool, true, false, ◌&&◌, cond, List, [], ◌∷◌, Option, Some, None, IsTrue, refl, sym, ap, ◌∙◌, subst, arith}
use Rattle.std.specs.Prelude.{sum_by, slice_get, nat_eq, nat_lt, nat_le}
use Rattle.std.proofs.lemmas.Bool.{eq-eqb, eqb-true, ne_eqb, leb-true, cond-false, and_right, and_parts}
use Rattle.std.proofs.lemmas.List.Sums.{sum_by-cons}
use Rattle.chunk_tags.specs.BinOrder.{once}
use Rattle.chunk_tags.specs.Sizes.{IsChunkSize}
use Rattle.chunk_tags.specs.declared.tiles.Chunk.{Chunk}
use Rattle.chunk_tags.specs.Tiles.{is_free, is_top, is_edge, end_of, Meets, Leads, Row, swapped, fused, tile_at, tile_behind, top_of}
use Rattle.chunk_tags.specs.declared.tiles.Tile.{Tile}
use Rattle.chunk_tags.specs.declared.tiles.TileKind.TheVariants.{Used, Top}
use Rattle.chunk_tags.specs.declared.tunables.Tunables.{Tunables}
use Rattle.arena_rules.specs.PlainArena.{Plain, IsSound, times_used, is_own, beside}
use Rattle.arena_rules.specs.MainPlaces.{IsPlaced}
use Rattle.arena_rules.specs.Moves.{tile_of, with_tiles, parted, Hand, hand, joined, joined_behind, is_before_top, absorbed, top_size}
use Rattle.arena_rules.specs.Release.{released}
use Rattle.arena_rules.specs.Growth.{Took}
use Rattle.arena_rules.specs.KeptMappings.{StopsAs}
use Rattle.arena_rules.specs.Resize.{cut_to, moved_from_old, is_kept, front_of, back_of, fits_with_free, fits_with_top, grown_into_top, is_next_to, joined_with}
use Rattle.arena_rules.proofs.Rows.{onto, at_place, first_is, front_ends, swapped_here, read, row_behind, Led, led, led_as, leads_as, sum_by_onto, may_lead, may_follow}
use Rattle.arena_rules.proofs.Bins.{once_self}
use Rattle.arena_rules.proofs.Beside.{beside_cut, beside_joined_behind}
use Rattle.arena_rules.proofs.Counts.{used_tile}
use Rattle.arena_rules.proofs.MainPlaces.{placed_still}
use Rattle.arena_rules.proofs.Merging.{HasTopBehind, has_top_behind}
use Rattle.arena_rules.proofs.Changes.{IsChanged, changed_at, AreNeighbours, neighbours_behind, IsFusion, IsFused, fused_row}
use Rattle.arena_rules.proofs.Moved.{Moved, parts_of, nothing, listed_still, weight_top, top_to, moved_with, came_used}
use Rattle.arena_rules.proofs.Tops.{top_at, top_tile_is}
use Rattle.arena_rules.proofs.ChunkMoves.{own_count, own_from, parted_moved, joined_behind_moved}
use Rattle.arena_rules.proofs.Own.{own_tile}
use Rattle.arena_rules.proofs.KeptMappings.{stops_behind, stops_if}

-- ---- a used chunk grows into top

not_counted : (b : Bool) → cond {A = ℕ} b 1 0 ≡ 0 → b ≡ false
not_counted true e = absurd (omega (arith, e))
not_counted false e = refl

-- top is behind tiles none of which is top
top_onto : (ls ts : List Tile) → sum_by weight_top ls ≡ 0 → top_of (onto ls ts) ≡ top_of ts
top_onto [] ts e = refl
top_onto (l ∷ ls) ts e =
    let one = sum_by-cons weight_top l ls in
    top_onto ls (l ∷ ts) (omega (arith, e, one)) ∙ cond-false (is_top l) (Some l) (top_of ts) (not_counted (is_top l) (omega (arith, e, one)))

-- A used tile of n bytes and the top of s bytes behind it become a used tile of nb bytes and the rest as top.
abbrev whole_top : ℕ → ℕ → ℕ → Tile
whole_top at n s = tile_of Top at (n + s)

abbrev regrown : ℕ → ℕ → ℕ → ℕ → List Tile
regrown at n s nb = tile_of Used at nb ∷ tile_of Top (at + nb) (n + s - nb) ∷ []

record IsRegrown (at n v s nb : ℕ) (ts : List Tile) : Type 0 where
  top : top_of (fused at (whole_top at n s) ts) ≡ Some (whole_top at n s)
  changed : IsChanged ts (swapped at (regrown at n s nb) (fused at (whole_top at n s) ts)) (tile_of Used at n ∷ tile_of Top v s ∷ []) (regrown at n s nb)

regrown_in : (at n v s nb : ℕ) (ls us : List Tile) → IsChunkSize nb → nb + 32 ≤ n + s → Row (onto ls (tile_of Used at n ∷ tile_of Top v s ∷ us)) → sum_by weight_top (onto ls (tile_of Used at n ∷ tile_of Top v s ∷ us)) ≡ 1 → IsRegrown at n v s nb (onto ls (tile_of Used at n ∷ tile_of Top v s ∷ us))
regrown_in at n v s nb ls us chunk le row one =
    let t : Tile = tile_of Used at n in
    let u : Tile = tile_of Top v s in
    let m : Tile = whole_top at n s in
    let x : Tile = tile_of Used at nb in
    let y : Tile = tile_of Top (at + nb) (n + s - nb) in
    let r = read ls t (u ∷ us) row in
    let here : Row (t ∷ u ∷ us) = row_behind ls (t ∷ u ∷ us) row in
    let joins : at + n ≡ v = here.1.joins refl in
    let meets : Meets x y = record { order = omega arith; joins = λ no. refl; apart = refl } in
    let last : Leads y us = leads_as u y us here.2.1 (omega (arith, le, joins)) refl (may_follow y (slice_get us 0) refl) in
    let new : Row (x ∷ y ∷ us) = (
      record { size = chunk; place = here.0.place },
      meets,
      (
        record {
          size = (omega (arith, le), omega (arith, le, chunk.1, here.0.size.1, here.2.0.size.1));
          place = omega (arith, here.0.place, chunk.1);
        },
        last,
        here.2.2,
      ),
    ) in
    let first : Led ls (x ∷ y ∷ us) = led_as ls t x (u ∷ us) (y ∷ us) (led ls (t ∷ u ∷ us) row) refl (may_lead x (slice_get ls 0) refl) in
    let c : IsChanged (onto ls (t ∷ u ∷ us)) (onto ls (x ∷ y ∷ us)) (t ∷ u ∷ []) (x ∷ y ∷ []) = changed_at ls (t ∷ u ∷ []) us (x ∷ y ∷ []) row new first in
    let fuse : fused at m (onto ls (t ∷ u ∷ us)) ≡ onto ls (m ∷ us) = r.fuse m in
    let swap : swapped at (x ∷ y ∷ []) (onto ls (m ∷ us)) ≡ onto ls (x ∷ y ∷ us) = swapped_here ls m us (x ∷ y ∷ []) (front_ends ls t (u ∷ us) row) in
    let none_before : sum_by weight_top ls ≡ 0 = omega (arith, one, sum_by_onto weight_top ls (t ∷ u ∷ us), sum_by-cons weight_top t (u ∷ us), sum_by-cons weight_top u us) in
    record {
      top = ap top_of fuse ∙ top_onto ls (m ∷ us) none_before;
      changed = subst (λ z. IsChanged (onto ls (t ∷ u ∷ us)) z (t ∷ u ∷ []) (x ∷ y ∷ [])) (sym (ap (swapped at (x ∷ y ∷ [])) fuse ∙ swap)) c;
    }

regrown_row : (at n v s nb : ℕ) (ts : List Tile) → IsChunkSize nb → nb + 32 ≤ n + s → AreNeighbours (tile_of Used at n) (tile_of Top v s) ts → Row ts → sum_by weight_top ts ≡ 1 → IsRegrown at n v s nb ts
regrown_row at n v s nb ts chunk le next row one =
    let t : Tile = tile_of Used at n in
    let u : Tile = tile_of Top v s in
    at_place (λ xs. Row xs → sum_by weight_top xs ≡ 1 → tile_behind at xs ≡ Some u → IsRegrown at n v s nb xs) t ts next.first (λ ls us row one behind.
    first_is (λ vs. Row (onto ls (t ∷ vs)) → sum_by weight_top (onto ls (t ∷ vs)) ≡ 1 → IsRegrown at n v s nb (onto ls (t ∷ vs))) u us (sym (read ls t us row).behind ∙ behind) (λ rest. regrown_in at n v s nb ls rest chunk le) row one) row one next.behind

-- the arena so, where top is taken to have s bytes
abbrev absorbed_as : Plain → Chunk → ℕ → Plain
absorbed_as a c s = record a { tiles = fused c.at (whole_top c.at c.size s) a.tiles }

abbrev cut_as : Plain → Chunk → ℕ → ℕ → Option Tile → Plain
cut_as a c nb s o = elim o [
  | None ↦ absorbed_as a c s
  | Some t ↦ with_tiles (absorbed_as a c s) t.addr (tile_of Used t.addr nb ∷ tile_of Top (t.addr + nb) (t.size - nb) ∷ [])
]

grown_at : (a : Plain) (c : Chunk) (nb v s : ℕ) → IsSound a → 0 < times_used c a → tile_behind c.at a.tiles ≡ Some (tile_of Top v s) → IsChunkSize nb → nb + 32 ≤ c.size + s → Moved a (grown_into_top a c nb) (λ e. once e c) (λ e. once e (front_of c nb)) nothing nothing
grown_at a c nb v s sound own e chunk le =
    let t : Tile = tile_of Used c.at c.size in
    let u : Tile = tile_of Top v s in
    let next : AreNeighbours t u a.tiles = neighbours_behind t u a.tiles sound.row (used_tile c a sound.row own) e in
    let joins : c.at + c.size ≡ v = next.meets.joins refl in
    let one : sum_by weight_top a.tiles ≡ 1 = top_to a v u sound next.second in
    let now : IsRegrown c.at c.size v s nb a.tiles = regrown_row c.at c.size v s nb a.tiles chunk le next sound.row one in
    let top : top_size a ≡ s = ap (λ o. elim o [ None ↦ 0 | Some t ↦ t.size ]) (top_at a u sound next.second refl) in
    let news : List Tile = regrown c.at c.size s nb in
    let new : Plain = with_tiles (absorbed_as a c s) c.at news in
    let m : Moved a new (λ e. once e c) (λ e. once e (front_of c nb)) nothing nothing = moved_with a new (t ∷ u ∷ []) news (λ e. once e c) (λ e. once e (front_of c nb)) nothing nothing sound now.changed
    (listed_still a new (t ∷ u ∷ []) news sound refl (λ e. refl)) (omega (arith, one))
    (record {
      leaves = λ e. omega arith;
      comes = λ e. omega arith;
      spans = λ w adds. omega (
        arith,
        parts_of w c.at c.size s (c.size + s) adds refl,
        ap (λ n. w n s) joins,
        parts_of w c.at nb (c.size + s - nb) (c.size + s) adds (omega (arith, le)),
      );
    }) in
    let cut : Moved a (cut_as a c nb s (top_of (absorbed_as a c s).tiles)) (λ e. once e c) (λ e. once e (front_of c nb)) nothing nothing =
    subst (λ o. Moved a (cut_as a c nb s o) (λ e. once e c) (λ e. once e (front_of c nb)) nothing nothing) (sym now.top) m in
    subst (λ n. Moved a (cut_as a c nb n (top_of (absorbed_as a c n).tiles)) (λ e. once e c) (λ e. once e (front_of c nb)) nothing nothing) (sym top) cut

pub grown_into_top_moved : (a : Plain) (c : Chunk) (nb : ℕ) → IsSound a → IsTrue (is_own a c) → fits_with_top a c nb ≡ true → IsChunkSize nb → Moved a (grown_into_top a c nb) (λ e. once e c) (λ e. once e (front_of c nb)) nothing nothing
grown_into_top_moved a c nb s own is chunk =
    let both = and_parts (is_before_top a c) (nat_le (nb + 32) (c.size + top_size a)) is in
    let h : HasTopBehind a c = has_top_behind a c both.0 in
    let e : tile_behind c.at a.tiles ≡ Some (tile_of Top h.tile.addr h.tile.size) = h.behind ∙ ap (λ (t : Tile). Some t) (top_tile_is h.tile h.top) in
    let next : AreNeighbours (tile_of Used c.at c.size) (tile_of Top h.tile.addr h.tile.size) a.tiles =
    neighbours_behind (tile_of Used c.at c.size) (tile_of Top h.tile.addr h.tile.size) a.tiles s.row (used_tile c a s.row (own_count a c own)) e in
    let top : top_size a ≡ h.tile.size = ap (λ o. elim o [ None ↦ 0 | Some t ↦ t.size ]) (top_at a (tile_of Top h.tile.addr h.tile.size) s next.second refl) in
    grown_at a c nb h.tile.addr h.tile.size s (own_count a c own) e chunk (omega (arith, leb-true (nb + 32) (c.size + top_size a) both.1, top))

pub beside_grown_into_top : (a : Plain) (c : Chunk) (nb : ℕ) → beside (grown_into_top a c nb) ≡ beside a
beside_grown_into_top a c nb = beside_cut (absorbed a c) nb

pub grown_into_top_placed : (a : Plain) (c : Chunk) (nb : ℕ) → IsSound a → IsTrue (is_own a c) → fits_with_top a c nb ≡ true → IsChunkSize nb → IsPlaced a → IsPlaced (grown_into_top a c nb)
grown_into_top_placed a c nb s own is chunk =
    placed_still a (grown_into_top a c nb) (λ e. once e c) (λ e. once e (front_of c nb)) (grown_into_top_moved a c nb s own is chunk) (beside_grown_into_top a c nb)

-- ---- two used chunks side by side become one

-- a tile that begins where another one that is no edge ends is the next one
next_in : (t u : Tile) (ls us : List Tile) → Row (onto ls (t ∷ us)) → is_edge t ≡ false → tile_at u.addr (onto ls (t ∷ us)) ≡ Some u → u.addr ≡ end_of t → tile_behind t.addr (onto ls (t ∷ us)) ≡ Some u
next_in t u ls [] row inner found at =
    let edge : is_edge t ≡ true = (row_behind ls (t ∷ []) row).1 in
    absurd cc
next_in t u ls (v ∷ vs) row inner found at =
    let here : Row (t ∷ v ∷ vs) = row_behind ls (t ∷ v ∷ vs) row in
    let place : u.addr ≡ v.addr = at ∙ here.1.joins inner in
    let second : tile_at v.addr (onto ls (t ∷ v ∷ vs)) ≡ Some v = (read (t ∷ ls) v vs row).at in
    (read ls t (v ∷ vs) row).behind ∙ (sym second ∙ (ap (λ n. tile_at n (onto ls (t ∷ v ∷ vs))) (sym place) ∙ found))

pub next_tile : (t u : Tile) (ts : List Tile) → Row ts → tile_at t.addr ts ≡ Some t → is_edge t ≡ false → tile_at u.addr ts ≡ Some u → u.addr ≡ end_of t → tile_behind t.addr ts ≡ Some u
next_tile t u ts row first inner second at =
    at_place (λ xs. Row xs → tile_at u.addr xs ≡ Some u → tile_behind t.addr xs ≡ Some u) t ts first (λ ls us row second. next_in t u ls us row inner second at) row second

pub joined_with_moved : (h : Hand) (d : Chunk) → IsSound h.arena → 0 < times_used h.chunk h.arena → 0 < times_used d h.arena → is_next_to h.chunk d ≡ true → Moved h.arena (joined_with h d).arena (λ e. once e h.chunk + once e d) (λ e. once e (joined_with h d).chunk) nothing nothing
joined_with_moved h d s own own_d is =
    let a : Plain = h.arena in
    let c : Chunk = h.chunk in
    let t : Tile = tile_of Used c.at c.size in
    let u : Tile = tile_of Used d.at d.size in
    let x : Tile = tile_of Used c.at (c.size + d.size) in
    let new : Plain = (joined_with h d).arena in
    let at : d.at ≡ c.at + c.size = eqb-true d.at (c.at + c.size) is in
    let first : tile_at c.at a.tiles ≡ Some t = used_tile c a s.row own in
    let next : AreNeighbours t u a.tiles = neighbours_behind t u a.tiles s.row first (next_tile t u a.tiles s.row first refl (used_tile d a s.row own_d) at) in
    let fusion : IsFusion t u x a.tiles = record {
      next = next;
      at = refl;
      size = refl;
      inner = refl;
      edge = refl;
      not_free = refl;
      before = may_lead x _ refl;
    } in
    let now : IsFused t u x a.tiles = fused_row t u x a.tiles s.row fusion in
    moved_with a new (t ∷ u ∷ []) (x ∷ []) (λ e. once e c + once e d) (λ e. once e (joined_with h d).chunk) nothing nothing s now.changed
    (listed_still a new (t ∷ u ∷ []) (x ∷ []) s refl (λ e. refl)) (omega (arith, top_to a c.at t s first))
    (record {
      leaves = λ e. omega arith;
      comes = λ e. omega arith;
      spans = λ v adds. omega (arith, parts_of v c.at c.size d.size (c.size + d.size) adds refl, ap (λ n. v n d.size) at);
    })

pub joined_with_placed : (h : Hand) (d : Chunk) → IsSound h.arena → 0 < times_used h.chunk h.arena → 0 < times_used d h.arena → is_next_to h.chunk d ≡ true → IsPlaced h.arena → IsPlaced (joined_with h d).arena
joined_with_placed h d s own own_d is =
    placed_still h.arena (joined_with h d).arena (λ e. once e h.chunk + once e d) (λ e. once e (joined_with h d).chunk) (joined_with_moved h d s own own_d is) refl

-- the joined chunk is a used one
once_elsewhere : (e c : Chunk) → (e.size ≡ c.size → ⊥) → once e c ≡ 0
once_elsewhere e c ne =
    ap (λ (b : Bool). cond b 1 0) (and_right (nat_eq e.at c.at) (nat_eq e.size c.size) (ne_eqb e.size c.size ne))

pub joined_with_own : (h : Hand) (d : Chunk) → IsSound h.arena → 0 < times_used h.chunk h.arena → 0 < times_used d h.arena → is_next_to h.chunk d ≡ true → 0 < times_used (joined_with h d).chunk (joined_with h d).arena
joined_with_own h d s own own_d is =
    let whole : Chunk = (joined_with h d).chunk in
    let first = own_tile h.arena h.chunk s own in
    let second = own_tile h.arena d s own_d in
    omega (
      arith,
      (joined_with_moved h d s own own_d is).used whole,
      once_self whole,
      once_elsewhere whole h.chunk (λ e. omega (arith, e, second.size.0)),
      once_elsewhere whole d (λ e. omega (arith, e, first.size.0)),
    )

-- ---- a used chunk takes the free one behind it

pub free_behind_fits : (a : Plain) (c : Chunk) (nb : ℕ) → fits_with_free a c nb ≡ true → nb ≤ (joined_behind (hand c a)).chunk.size
free_behind_fits a c nb is =
    let h : Hand = hand c a in
    let cases : (o : Option Tile) → elim o [ None ↦ false | Some u ↦ is_free u && nat_le nb (c.size + u.size) ] ≡ true → let r : Hand = elim o [ None ↦ h | Some u ↦ cond (is_free u) (joined h u c.at) h ] in nb ≤ r.chunk.size = elim [
      | None ↦ λ is. absurd cc
      | Some u ↦ λ is.
          let both = and_parts (is_free u) (nat_le nb (c.size + u.size)) is in
          subst (λ (b : Bool). nb ≤ (cond b (joined h u c.at) h).chunk.size) (sym both.0) (leb-true nb (c.size + u.size) both.1)
    ] in
    cases (tile_behind c.at a.tiles) is

pub joined_behind_at : (h : Hand) → (joined_behind h).chunk.at ≡ h.chunk.at
joined_behind_at h =
    let kinds : (u : Tile) (b : Bool) → (cond b (joined h u h.chunk.at) h).chunk.at ≡ h.chunk.at = λ u. elim [ true ↦ refl | false ↦ refl ] in
    let cases : (o : Option Tile) → let r : Hand = elim o [ None ↦ h | Some u ↦ cond (is_free u) (joined h u h.chunk.at) h ] in r.chunk.at ≡ h.chunk.at = elim [
      | None ↦ refl
      | Some u ↦ kinds u (is_free u)
    ] in
    cases (tile_behind h.chunk.at h.arena.tiles)

pub joined_behind_placed : (h : Hand) → IsSound h.arena → 0 < times_used h.chunk h.arena → IsPlaced h.arena → IsPlaced (joined_behind h).arena
joined_behind_placed h s own =
    placed_still h.arena (joined_behind h).arena (λ e. once e h.chunk) (λ e. once e (joined_behind h).chunk) (joined_behind_moved h s own).joined.moved (beside_joined_behind h)

-- ---- a used chunk is parted behind its first nb bytes

pub record IsCutAt (a : Plain) (c : Chunk) (nb : ℕ) : Type 0 where
  pub moved : Moved a (parted a c nb) (λ e. once e c) (λ e. once e (front_of c nb) + once e (back_of c nb)) nothing nothing
  pub placed : IsPlaced a → IsPlaced (parted a c nb)
  pub rest : IsChunkSize (c.size - nb)
  pub front : 0 < times_used (front_of c nb) (parted a c nb)
  pub back : 0 < times_used (back_of c nb) (parted a c nb)

pub cut_at : (a : Plain) (c : Chunk) (nb : ℕ) → IsSound a → 0 < times_used c a → IsChunkSize nb → nb + 32 ≤ c.size → IsCutAt a c nb
cut_at a c nb s own chunk le =
    let came : Chunk → ℕ = λ e. once e (front_of c nb) + once e (back_of c nb) in
    let rest : IsChunkSize (c.size - nb) = (omega (arith, le), omega (arith, le, chunk.1, (own_tile a c s own).size.1)) in
    let m : Moved a (parted a c nb) (λ e. once e c) came nothing nothing = (parted_moved a c nb s (own_from a c own) chunk rest).moved in
    record {
      moved = m;
      placed = placed_still a (parted a c nb) (λ e. once e c) came m refl;
      rest = rest;
      front = came_used a (parted a c nb) c came nothing nothing (front_of c nb) m own (omega (arith, once_self (front_of c nb)));
      back = came_used a (parted a c nb) c came nothing nothing (back_of c nb) m own (omega (arith, once_self (back_of c nb)));
    }

-- ---- what a resize ends with

-- a cut keeps the block at its address
pub cut_to_keeps : (t : Tunables) (nb : ℕ) (h : Hand) → StopsAs (λ x. is_kept h.chunk x.found ≡ true) (cut_to t nb h)
cut_to_keeps t nb h =
    let same : nat_eq h.chunk.at h.chunk.at ≡ true = eq-eqb h.chunk.at h.chunk.at refl in
    stops_if (λ x. is_kept h.chunk x.found ≡ true) (nat_lt (h.chunk.size - nb) 32) _ _ same
    (stops_behind (λ x. is_kept h.chunk x.found ≡ true) (released t (parted h.arena h.chunk nb) (back_of h.chunk nb)) _ (λ b. same))

-- a move ends with what was found
pub moved_ends_with : (t : Tunables) (c : Chunk) (took : Took) → StopsAs (λ x. x.found ≡ took.found) (moved_from_old t c took)
moved_ends_with t c took = stops_behind (λ x. x.found ≡ took.found) (released t took.arena c) _ (λ b. refl)
