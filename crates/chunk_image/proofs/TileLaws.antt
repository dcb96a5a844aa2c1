-- What the words of tiles say of a tile of the row.
use Rattle.std.proofs.Common.{◌≡◌, ℕ, ◌+◌, ◌-◌, ◌%◌, ◌^◌, ◌<◌, Bool, true, false, List, [], ◌∷◌, nat_eq, Some, None, if◌then◌else◌, sym, ap, ◌∙◌, refl, subst, inl, inr, arith}
use Rattle.std.proofs.lemmas.Bool.{cases_lt, ne_eqb, eqb-true, eqb-false}
use Rattle.chunk_tags.specs.declared.tiles.Tile.{Tile}
use Rattle.chunk_tags.specs.declared.tiles.TileKind.{TileKind}
use Rattle.chunk_tags.specs.declared.tiles.TileKind.TheVariants.{Free}
use Rattle.chunk_tags.specs.Tiles.{is_free, is_edge, end_of, Row, swapped, fused, entered, tile_at, tile_behind}
use Rattle.part_words.specs.Extents.{Extent, IsOpen}
use Rattle.part_words.specs.Parts.{Parts, update, extent_of}
use Rattle.part_words.proofs.Opening.{IsOpen-within}
use Rattle.part_words.proofs.Updates.{update_other}
use Rattle.chunk_image.specs.declared.heads.Head.{Head}
use Rattle.chunk_image.specs.Rows.{IsRoom, IsWordSize}
use Rattle.chunk_image.specs.Heads.{no_head, head_at, tiles_with, is_free_head, tiles_of, row_of, IsKept, CanStand}
use Rattle.chunk_image.proofs.FootLaws.{update_cases, free_kind, free_size}
use Rattle.chunk_image.proofs.Rooms.{IsRoom-append, IsRoom-take, IsRoom-drop}
use Rattle.chunk_image.proofs.Rows.{spread, row_tile, apart, same_end, IsBehind, row_behind, behind_found, swapped-entered, swapped-fused}
use Rattle.chunk_image.proofs.ScanLaws.{tile_with, tile_at-tiles_of, tile_at-below, tiles_of-changed, tiles_of-entered}

-- a tile of the row, and its head
pub record Begins (heads : Parts Head) (t : Tile) : Type 0 where
  pub below : t.addr < 2 ^ 64
  pub found : tile_at t.addr (tiles_of heads) ≡ Some t
  pub head : head_at heads t.addr ≡ record { size = t.size; kind = t.kind }
  pub some : 0 < t.size
  pub fits : IsWordSize t.size
  pub room : IsRoom (extent_of heads) t.addr t.size

head_with : (at : ℕ) (h : Head) (t : Tile) → tile_with at h ≡ Some t → (h ≡ record { size = t.size; kind = t.kind }) × (0 < t.size)
head_with at h t = go (nat_eq h.size 0) refl
  where
    go : (b : Bool) → nat_eq h.size 0 ≡ b → (if b then None else Some (record { addr = at; size = h.size; kind = h.kind })) ≡ Some t → (h ≡ record { size = t.size; kind = t.kind }) × (0 < t.size)
    go true e found = cc
    go false e found =
        let x : Tile = record { addr = at; size = h.size; kind = h.kind } in
        let same : x ≡ t = cc in
        (ap (λ (y : Tile). record { size = y.size; kind = y.kind }) same, omega (arith, ap (λ (y : Tile). y.size) same, eqb-false h.size 0 e))

pub begins : (heads : Parts Head) (feet : Parts ℕ) (t : Tile) → IsKept heads feet → tile_at t.addr (tiles_of heads) ≡ Some t → Begins heads t
begins heads feet t kept found =
    let below = tile_at-below heads t.addr t found in
    let h = head_with t.addr (head_at heads t.addr) t (sym (tile_at-tiles_of heads t.addr below) ∙ found) in
    record {
      below = below;
      found = found;
      head = h.0;
      some = h.1;
      fits = subst (λ (k : Head). IsWordSize k.size) h.0 (kept.fits t.addr);
      room = subst (λ (k : Head). 0 < k.size → IsRoom (extent_of heads) t.addr k.size) h.0 (kept.room t.addr) h.1;
    }

-- a head is that of a tile
pub begins_with : (heads : Parts Head) (feet : Parts ℕ) (a : ℕ) → IsKept heads feet → 0 < (head_at heads a).size → Begins heads (record { addr = a; size = (head_at heads a).size; kind = (head_at heads a).kind })
begins_with heads feet a kept some =
    let room = kept.room a some in
    let below : a < 2 ^ 64 = omega (arith, room.end) in
    record {
      below = below;
      found = tile_at-tiles_of heads a below ∙ ap (λ b. if b then None else Some (record { addr = a; size = (head_at heads a).size; kind = (head_at heads a).kind })) (ne_eqb (head_at heads a).size 0 (λ none. omega (arith, none, some)));
      head = refl;
      some = some;
      fits = kept.fits a;
      room = room;
    }

-- its address has a word
pub IsOpen-begin : (heads : Parts Head) (t : Tile) → Begins heads t → IsOpen (extent_of heads) t.addr
IsOpen-begin heads t b =
    subst (IsOpen (extent_of heads)) (omega arith) (b.room.words 0 (omega (arith, b.some)))

-- a free tile that ends where a tile ends is that tile
pub ends_alone : (heads : Parts Head) (feet : Parts ℕ) (t : Tile) → IsKept heads feet → Row (tiles_of heads) → Begins heads t → (a : ℕ) → is_free_head (head_at heads a) ≡ true → a + (head_at heads a).size ≡ end_of t → a ≡ t.addr
ends_alone heads feet t kept row b a free e =
    let some = free_size (head_at heads a) free in
    let other = begins_with heads feet a kept some in
    same_end a t.addr (tiles_of heads) _ t row other.found b.found some b.some e

-- the tile behind begins too
pub begins_behind : (heads : Parts Head) (feet : Parts ℕ) (t u : Tile) → IsKept heads feet → Begins heads t → IsBehind t.addr (tiles_of heads) t u → Begins heads u
begins_behind heads feet t u kept b behind =
    begins heads feet u kept (subst (λ n. tile_at n (tiles_of heads) ≡ Some u) (sym behind.joins) behind.found)

-- the end of a chunk has a word
pub IsOpen-end : (heads : Parts Head) (feet : Parts ℕ) (t : Tile) → IsKept heads feet → Row (tiles_of heads) → Begins heads t → is_edge t ≡ false → IsOpen (extent_of heads) (end_of t)
IsOpen-end heads feet t kept row b no_edge =
    let next = row_behind t.addr (tiles_of heads) t row b.found no_edge in
    subst (IsOpen (extent_of heads)) next.1.joins (IsOpen-begin heads next.0 (begins_behind heads feet t next.0 kept b next.1))

pub no_free : (t : Tile) → t.kind ≡ Free → is_free t ≡ false → ⊥
no_free t e used = let clash : true ≡ false = rw e at used in cc

pub row_is : (heads : Parts Head) (ts : List Tile) (e : Extent) → tiles_of heads ≡ ts → extent_of heads ≡ e → row_of heads ≡ record { tiles = ts; extent = e }
row_is heads ts e tiles extent = rw (tiles, extent) refl

one_with : (at : ℕ) (h : Head) → 0 < h.size → tiles_with at h ≡ record { addr = at; size = h.size; kind = h.kind } ∷ []
one_with at h some =
    ap (λ b. if b then [] else record { addr = at; size = h.size; kind = h.kind } ∷ []) (ne_eqb h.size 0 (λ none. omega (arith, none, some)))

-- Each change: the head can stand, and the row that it makes.

pub can_set_kind : (heads : Parts Head) (feet : Parts ℕ) (t : Tile) (kind : TileKind) → IsKept heads feet → Row (tiles_of heads) → tile_at t.addr (tiles_of heads) ≡ Some t → (kind ≡ Free → is_edge t ≡ false) → CanStand heads t.addr (record { size = t.size; kind = kind })
can_set_kind heads feet t kind kept row found chunk =
    let b = begins heads feet t kept found in
    record {
      place = IsOpen-begin heads t b;
      fits = b.fits;
      room = b.room;
      foot = λ free. IsOpen-end heads feet t kept row b (chunk (free_kind _ free));
      alone = λ _. ends_alone heads feet t kept row b;
    }

pub can_set_size : (heads : Parts Head) (feet : Parts ℕ) (t : Tile) (size : ℕ) → IsKept heads feet → Row (tiles_of heads) → tile_at t.addr (tiles_of heads) ≡ Some t → is_free t ≡ false → IsWordSize size → IsRoom (extent_of heads) (end_of t) (size - t.size) → CanStand heads t.addr (record { size = size; kind = t.kind })
can_set_size heads feet t size kept row found used fits more =
    let b = begins heads feet t kept found in
    let whole = (row_tile t.addr (tiles_of heads) t row found).size.1 in
    let not_free : is_free_head (record { size = size; kind = t.kind }) ≡ true → ⊥ = λ free. no_free t (free_kind _ free) used in
    record {
      place = IsOpen-begin heads t b;
      fits = fits;
      room = IsRoom-take (extent_of heads) t.addr (t.size + (size - t.size)) size (omega arith) (IsRoom-append (extent_of heads) t.addr t.size (size - t.size) whole b.room more);
      foot = λ free. absurd (not_free free);
      alone = λ free. absurd (not_free free);
    }

-- a head that says that no tile begins there
pub can_clear : (heads : Parts Head) (feet : Parts ℕ) (t : Tile) → IsKept heads feet → tile_at t.addr (tiles_of heads) ≡ Some t → CanStand heads t.addr no_head
can_clear heads feet t kept found =
    let b = begins heads feet t kept found in
    record {
      place = IsOpen-begin heads t b;
      fits = record { whole = refl; below = omega arith };
      room = record { words = λ n none. absurd (omega (arith, none)); end = omega (arith, b.below) };
      foot = λ free. cc;
      alone = λ free. cc;
    }

pub can_enter : (heads : Parts Head) (t : Tile) → is_free t ≡ false → 0 < t.size → IsWordSize t.size → IsRoom (extent_of heads) t.addr t.size → CanStand heads t.addr (record { size = t.size; kind = t.kind })
can_enter heads t used some fits room =
    let not_free : is_free_head (record { size = t.size; kind = t.kind }) ≡ true → ⊥ = λ free. no_free t (free_kind _ free) used in
    record {
      place = subst (IsOpen (extent_of heads)) (omega arith) (room.words 0 (omega (arith, some)));
      fits = fits;
      room = room;
      foot = λ free. absurd (not_free free);
      alone = λ free. absurd (not_free free);
    }

pub row_changed : (heads : Parts Head) (feet : Parts ℕ) (t : Tile) (h : Head) (heads' : Parts Head) → IsKept heads feet → tile_at t.addr (tiles_of heads) ≡ Some t → 0 < h.size → head_at heads' ≡ update (head_at heads) t.addr h → extent_of heads' ≡ extent_of heads → row_of heads' ≡ record { tiles = swapped t.addr (record { addr = t.addr; size = h.size; kind = h.kind } ∷ []) (tiles_of heads); extent = extent_of heads }
row_changed heads feet t h heads' kept found some written same =
    let b = begins heads feet t kept found in
    let tiles = tiles_of-changed heads heads' t.addr h written b.below (omega (arith, b.some, ap (λ (k : Head). k.size) b.head)) in
    row_is heads' _ _ (tiles ∙ ap (λ ts. swapped t.addr ts (tiles_of heads)) (one_with t.addr h some)) same

pub row_cleared : (heads : Parts Head) (feet : Parts ℕ) (t : Tile) (heads' : Parts Head) → IsKept heads feet → tile_at t.addr (tiles_of heads) ≡ Some t → head_at heads' ≡ update (head_at heads) t.addr no_head → extent_of heads' ≡ extent_of heads → row_of heads' ≡ record { tiles = swapped t.addr [] (tiles_of heads); extent = extent_of heads }
row_cleared heads feet t heads' kept found written same =
    let b = begins heads feet t kept found in
    let tiles : tiles_of heads' ≡ swapped t.addr [] (tiles_of heads) = tiles_of-changed heads heads' t.addr no_head written b.below (omega (arith, b.some, ap (λ (k : Head). k.size) b.head)) in
    row_is heads' _ _ tiles same

no_tile : (t : Tile) → Some t ≡ None → ⊥
no_tile t e = cc

-- where no tile is found, no head stands
no_head_at : (heads : Parts Head) (at : ℕ) → at < 2 ^ 64 → tile_at at (tiles_of heads) ≡ None → (head_at heads at).size ≡ 0
no_head_at heads at below none = go (nat_eq (head_at heads at).size 0) refl
  where
    go : (b : Bool) → nat_eq (head_at heads at).size 0 ≡ b → (head_at heads at).size ≡ 0
    go true e = eqb-true (head_at heads at).size 0 e
    go false e =
        absurd (no_tile _ (ap (λ b. if b then None else Some (record { addr = at; size = (head_at heads at).size; kind = (head_at heads at).kind })) (sym e) ∙ (sym (tile_at-tiles_of heads at below) ∙ none)))

pub row_entered : (heads : Parts Head) (t : Tile) (heads' : Parts Head) → t.addr < 2 ^ 64 → tile_at t.addr (tiles_of heads) ≡ None → 0 < t.size → head_at heads' ≡ update (head_at heads) t.addr (record { size = t.size; kind = t.kind }) → extent_of heads' ≡ extent_of heads → row_of heads' ≡ record { tiles = entered t (tiles_of heads); extent = extent_of heads }
row_entered heads t heads' below none some written same =
    let tiles : tiles_of heads' ≡ entered t (tiles_of heads) = tiles_of-entered heads heads' t.addr (record { size = t.size; kind = t.kind }) written below (no_head_at heads t.addr below none) some in
    row_is heads' _ _ tiles same

-- A chunk and the tile behind it.
pub record Joins (heads : Parts Head) (feet : Parts ℕ) (t u : Tile) : Type 0 where
  pub kept : IsKept heads feet
  pub row : Row (tiles_of heads)
  pub found : tile_at t.addr (tiles_of heads) ≡ Some t
  pub chunk : is_edge t ≡ false
  pub behind : tile_behind t.addr (tiles_of heads) ≡ Some u

-- what is known of both
pub record Side (heads : Parts Head) (t u : Tile) : Type 0 where
  pub first : Begins heads t
  pub second : Begins heads u
  pub joins : u.addr ≡ end_of t
  pub whole : t.size % 16 ≡ 0

pub side : (heads : Parts Head) (feet : Parts ℕ) (t u : Tile) → Joins heads feet t u → Side heads t u
side heads feet t u j =
    let b = begins heads feet t j.kept j.found in
    let behind = behind_found t.addr (tiles_of heads) t u j.row j.found j.chunk j.behind in
    record {
      first = b;
      second = begins_behind heads feet t u j.kept b behind;
      joins = behind.joins;
      whole = (row_tile t.addr (tiles_of heads) t j.row j.found).size.1;
    }

pub can_fuse : (heads : Parts Head) (feet : Parts ℕ) (t u : Tile) (kind : TileKind) (heads' : Parts Head) → Joins heads feet t u → (kind ≡ Free → is_edge u ≡ false) → t.size + u.size < 2 ^ 34 → head_at heads' ≡ update (head_at heads) u.addr no_head → extent_of heads' ≡ extent_of heads → CanStand heads' t.addr (record { size = t.size + u.size; kind = kind })
can_fuse heads feet t u kind heads' j last below written same =
    let s = side heads feet t u j in
    let end : u.addr + u.size ≡ t.addr + (t.size + u.size) = omega (arith, s.joins) in
    record {
      place = rw same (IsOpen-begin heads t s.first);
      fits = record { whole = omega (arith, s.first.fits.whole, s.second.fits.whole); below = below };
      room = rw same (IsRoom-append (extent_of heads) t.addr t.size u.size s.whole s.first.room (subst (λ n. IsRoom (extent_of heads) n u.size) s.joins s.second.room));
      foot = λ free. rw same (subst (IsOpen (extent_of heads)) end (IsOpen-end heads feet u j.kept j.row s.second (last (free_kind _ free))));
      alone = λ _ a. rw written (update_cases (λ k. is_free_head k ≡ true → a + k.size ≡ t.addr + (t.size + u.size) → a ≡ t.addr) (head_at heads) u.addr no_head a (λ _ free. cc)
          (λ other free e. absurd (other (ends_alone heads feet u j.kept j.row s.second a free (e ∙ sym end)))));
    }

-- the second gone, and another head for the first
pub tiles_fused : (heads : Parts Head) (feet : Parts ℕ) (t u : Tile) (h : Head) (heads' heads'' : Parts Head) → Joins heads feet t u → 0 < h.size → head_at heads' ≡ update (head_at heads) u.addr no_head → head_at heads'' ≡ update (head_at heads') t.addr h → tiles_of heads'' ≡ fused t.addr (record { addr = t.addr; size = h.size; kind = h.kind }) (tiles_of heads)
tiles_fused heads feet t u h heads' heads'' j some written written' =
    let s = side heads feet t u j in
    let x : Tile = record { addr = t.addr; size = h.size; kind = h.kind } in
    let one : tiles_with t.addr h ≡ x ∷ [] = one_with t.addr h some in
    let apart_u : t.addr ≡ u.addr → ⊥ = λ e. omega (arith, e, s.joins, s.first.some) in
    let still : 0 < (head_at heads' t.addr).size = rw (written, update_other (head_at heads) u.addr no_head t.addr apart_u, s.first.head) s.first.some in
    let gone : tiles_of heads' ≡ swapped u.addr [] (tiles_of heads) = tiles_of-changed heads heads' u.addr no_head written s.second.below (omega (arith, s.second.some, ap (λ (k : Head). k.size) s.second.head)) in
    tiles_of-changed heads' heads'' t.addr h written' s.first.below still ∙ (ap (λ ts. swapped t.addr ts (tiles_of heads')) one ∙ (ap (swapped t.addr (x ∷ [])) gone ∙ swapped-fused 0 t.addr (tiles_of heads) u x (spread (tiles_of heads) j.row) j.behind))

pub row_fused : (heads : Parts Head) (feet : Parts ℕ) (t u : Tile) (kind : TileKind) (heads' heads'' : Parts Head) → Joins heads feet t u → head_at heads' ≡ update (head_at heads) u.addr no_head → extent_of heads' ≡ extent_of heads → head_at heads'' ≡ update (head_at heads') t.addr (record { size = t.size + u.size; kind = kind }) → extent_of heads'' ≡ extent_of heads' → row_of heads'' ≡ record { tiles = fused t.addr (record { addr = t.addr; size = t.size + u.size; kind = kind }) (tiles_of heads); extent = extent_of heads }
row_fused heads feet t u kind heads' heads'' j written same written' same' =
    let s = side heads feet t u j in
    row_is heads'' _ _ (tiles_fused heads feet t u (record { size = t.size + u.size; kind = kind }) heads' heads'' j (omega (arith, s.first.some)) written written') (same' ∙ same)

-- A tile that is cut into two.
pub record Cuts (heads : Parts Head) (feet : Parts ℕ) (t : Tile) (nb : ℕ) : Type 0 where
  pub kept : IsKept heads feet
  pub row : Row (tiles_of heads)
  pub found : tile_at t.addr (tiles_of heads) ≡ Some t
  pub whole : nb % 16 ≡ 0
  pub some : 0 < nb
  pub less : nb < t.size

pub can_cut : (heads : Parts Head) (feet : Parts ℕ) (t : Tile) (nb : ℕ) (first : TileKind) → Cuts heads feet t nb → (first ≡ Free → ⊥) → CanStand heads t.addr (record { size = nb; kind = first })
can_cut heads feet t nb first k used =
    let b = begins heads feet t k.kept k.found in
    record {
      place = IsOpen-begin heads t b;
      fits = record { whole = k.whole; below = omega (arith, k.less, b.fits.below) };
      room = IsRoom-take (extent_of heads) t.addr t.size nb (omega (arith, k.less)) b.room;
      foot = λ free. absurd (used (free_kind _ free));
      alone = λ free. absurd (used (free_kind _ free));
    }

pub can_part : (heads : Parts Head) (feet : Parts ℕ) (t : Tile) (nb : ℕ) (first rest : TileKind) (heads' : Parts Head) → Cuts heads feet t nb → (first ≡ Free → ⊥) → (rest ≡ Free → is_edge t ≡ false) → head_at heads' ≡ update (head_at heads) t.addr (record { size = nb; kind = first }) → extent_of heads' ≡ extent_of heads → CanStand heads' (t.addr + nb) (record { size = t.size - nb; kind = rest })
can_part heads feet t nb first rest heads' k used chunk written same =
    let b = begins heads feet t k.kept k.found in
    let end : end_of t ≡ t.addr + nb + (t.size - nb) = omega (arith, k.less) in
    record {
      place = rw same (IsOpen-within (extent_of heads) t.addr t.size nb k.whole k.less b.room.words);
      fits = record { whole = omega (arith, k.whole, b.fits.whole, k.less); below = omega (arith, b.fits.below) };
      room = rw same (IsRoom-drop (extent_of heads) t.addr t.size nb k.whole (omega (arith, k.less)) b.room);
      foot = λ free. rw same (subst (IsOpen (extent_of heads)) end (IsOpen-end heads feet t k.kept k.row b (chunk (free_kind _ free))));
      alone = λ _ a. rw written (update_cases (λ h. is_free_head h ≡ true → a + h.size ≡ t.addr + nb + (t.size - nb) → a ≡ t.addr + nb) (head_at heads) t.addr (record { size = nb; kind = first }) a (λ _ free. absurd (used (free_kind _ free)))
          (λ other free e. absurd (other (ends_alone heads feet t k.kept k.row b a free (e ∙ sym end)))));
    }

-- no tile begins within a tile
none_within : (heads : Parts Head) (feet : Parts ℕ) (t : Tile) (nb : ℕ) → Cuts heads feet t nb → (head_at heads (t.addr + nb)).size ≡ 0
none_within heads feet t nb k =
    elim (cases_lt 0 (head_at heads (t.addr + nb)).size) [
      | inl some ↦ let other = begins_with heads feet (t.addr + nb) k.kept some in
          absurd (omega (arith, k.some, k.less, apart t.addr (t.addr + nb) (tiles_of heads) t _ k.row k.found other.found (omega (arith, k.some))))
      | inr none ↦ omega (arith, none)
    ]

pub row_cut : (heads : Parts Head) (feet : Parts ℕ) (t : Tile) (nb : ℕ) (first rest : TileKind) (heads' heads'' : Parts Head) → Cuts heads feet t nb → head_at heads' ≡ update (head_at heads) t.addr (record { size = nb; kind = first }) → extent_of heads' ≡ extent_of heads → head_at heads'' ≡ update (head_at heads') (t.addr + nb) (record { size = t.size - nb; kind = rest }) → extent_of heads'' ≡ extent_of heads' → row_of heads'' ≡ record { tiles = swapped t.addr (record { addr = t.addr; size = nb; kind = first } ∷ record { addr = t.addr + nb; size = t.size - nb; kind = rest } ∷ []) (tiles_of heads); extent = extent_of heads }
row_cut heads feet t nb first rest heads' heads'' k written same written' same' =
    let b = begins heads feet t k.kept k.found in
    let x : Tile = record { addr = t.addr; size = nb; kind = first } in
    let y : Tile = record { addr = t.addr + nb; size = t.size - nb; kind = rest } in
    let one : tiles_with t.addr (record { size = nb; kind = first }) ≡ x ∷ [] = one_with t.addr (record { size = nb; kind = first }) k.some in
    let cut : tiles_of heads' ≡ swapped t.addr (x ∷ []) (tiles_of heads) =
    tiles_of-changed heads heads' t.addr (record { size = nb; kind = first }) written b.below (omega (arith, b.some, ap (λ (h : Head). h.size) b.head)) ∙ ap (λ ts. swapped t.addr ts (tiles_of heads)) one in
    let free : (head_at heads' (t.addr + nb)).size ≡ 0 = rw (written, update_other (head_at heads) t.addr (record { size = nb; kind = first }) (t.addr + nb) (λ e. omega (arith, e, k.some))) (none_within heads feet t nb k) in
    let tiles : tiles_of heads'' ≡ swapped t.addr (x ∷ y ∷ []) (tiles_of heads) =
    tiles_of-entered heads' heads'' (t.addr + nb) (record { size = t.size - nb; kind = rest }) written' (omega (arith, b.room.end, k.less)) free (omega (arith, k.less)) ∙ (ap (entered y) cut ∙ swapped-entered 0 t.addr (tiles_of heads) t x y (spread (tiles_of heads) k.row) k.found refl (omega (arith, k.some)) (omega (arith, k.less))) in
    row_is heads'' _ _ tiles (same' ∙ same)
