-- A border that is shifted between two tiles.
use Rattle.std.proofs.Common.{◌≡◌, ℕ, ◌+◌, ◌-◌, ◌%◌, ◌^◌, ◌<◌, ◌≤◌, true, false, [], ◌∷◌, ap, ◌∙◌, refl, inl, inr, arith}
use Rattle.std.proofs.lemmas.Bool.{cases_lt}
use Rattle.chunk_tags.specs.declared.tiles.Tile.{Tile}
use Rattle.chunk_tags.specs.declared.tiles.TileKind.TheVariants.{Used}
use Rattle.chunk_tags.specs.Tiles.{is_free, swapped, fused, entered}
use Rattle.part_words.specs.Parts.{Parts, update, extent_of}
use Rattle.part_words.proofs.Opening.{IsOpen-within}
use Rattle.part_words.proofs.Updates.{update_other}
use Rattle.chunk_image.specs.declared.heads.Head.{Head}
use Rattle.chunk_image.specs.Heads.{no_head, head_at, is_free_head, tiles_of, row_of, CanStand}
use Rattle.chunk_image.proofs.FootLaws.{update_cases, free_kind}
use Rattle.chunk_image.proofs.Rooms.{IsRoom-take, IsRoom-drop}
use Rattle.chunk_image.proofs.Rows.{spread, apart, fused-entered}
use Rattle.chunk_image.proofs.ScanLaws.{tiles_of-entered}
use Rattle.chunk_image.proofs.TileLaws.{begins_with, no_free, row_is, Joins, side, can_fuse, tiles_fused}

-- two tiles, neither of which is free, and the size of the first that is to be
pub record Shifts (heads : Parts Head) (feet : Parts ℕ) (t u : Tile) (nb : ℕ) : Type 0 where
  pub sides : Joins heads feet t u
  pub used : is_free t ≡ false
  pub rest : is_free u ≡ false
  pub whole : nb % 16 ≡ 0
  pub some : 0 < nb
  pub less : nb < t.size + u.size
  pub below : t.size + u.size < 2 ^ 34

abbrev pub first_head : Tile → ℕ → Head
first_head t nb = record { size = nb; kind = t.kind }

abbrev pub second_head : Tile → Tile → ℕ → Head
second_head t u nb = record { size = t.size + u.size - nb; kind = u.kind }

-- the words once the second is gone
pub record IsCleared (heads : Parts Head) (u : Tile) (gone : Parts Head) : Type 0 where
  pub written : head_at gone ≡ update (head_at heads) u.addr no_head
  pub extent : extent_of gone ≡ extent_of heads

-- both in one
both_stand : (heads : Parts Head) (feet : Parts ℕ) (t u : Tile) (nb : ℕ) (gone : Parts Head) → Shifts heads feet t u nb → IsCleared heads u gone → CanStand gone t.addr (record { size = t.size + u.size; kind = Used })
both_stand heads feet t u nb gone k is = can_fuse heads feet t u Used gone k.sides (λ no. absurd cc) k.below is.written is.extent

pub can_stand_first : (heads : Parts Head) (feet : Parts ℕ) (t u : Tile) (nb : ℕ) (gone : Parts Head) → Shifts heads feet t u nb → IsCleared heads u gone → CanStand gone t.addr (first_head t nb)
can_stand_first heads feet t u nb gone k is =
    let both = both_stand heads feet t u nb gone k is in
    let not_free : is_free_head (first_head t nb) ≡ true → ⊥ = λ free. no_free t (free_kind _ free) k.used in
    record {
      place = both.place;
      fits = record { whole = k.whole; below = omega (arith, k.less, k.below) };
      room = IsRoom-take (extent_of gone) t.addr (t.size + u.size) nb (omega (arith, k.less)) both.room;
      foot = λ free. absurd (not_free free);
      alone = λ free. absurd (not_free free);
    }

pub can_stand_second : (heads : Parts Head) (feet : Parts ℕ) (t u : Tile) (nb : ℕ) (gone short : Parts Head) → Shifts heads feet t u nb → IsCleared heads u gone → extent_of short ≡ extent_of gone → CanStand short (t.addr + nb) (second_head t u nb)
can_stand_second heads feet t u nb gone short k is same =
    let both = both_stand heads feet t u nb gone k is in
    let not_free : is_free_head (second_head t u nb) ≡ true → ⊥ = λ free. no_free u (free_kind _ free) k.rest in
    record {
      place = rw same (IsOpen-within (extent_of gone) t.addr (t.size + u.size) nb k.whole k.less both.room.words);
      fits = record { whole = omega (arith, k.whole, both.fits.whole, k.less); below = omega (arith, k.below) };
      room = rw same (IsRoom-drop (extent_of gone) t.addr (t.size + u.size) nb k.whole (omega (arith, k.less)) both.room);
      foot = λ free. absurd (not_free free);
      alone = λ free. absurd (not_free free);
    }

-- both end below 2^64
pub end_below : (heads : Parts Head) (feet : Parts ℕ) (t u : Tile) (nb : ℕ) → Shifts heads feet t u nb → t.addr + (t.size + u.size) < 2 ^ 64
end_below heads feet t u nb k =
    let s = side heads feet t u k.sides in
    omega (arith, s.joins, s.second.room.end)

-- no other tile begins within both
none_within : (heads : Parts Head) (feet : Parts ℕ) (t u : Tile) (nb : ℕ) → Shifts heads feet t u nb → (t.addr + nb ≡ u.addr → ⊥) → (head_at heads (t.addr + nb)).size ≡ 0
none_within heads feet t u nb k other =
    let s = side heads feet t u k.sides in
    elim (cases_lt 0 (head_at heads (t.addr + nb)).size) [
      | inl some ↦
          let b = begins_with heads feet (t.addr + nb) k.sides.kept some in
          let past : t.addr + t.size ≤ t.addr + nb = apart t.addr (t.addr + nb) (tiles_of heads) t _ k.sides.row s.first.found b.found (omega (arith, k.some)) in
          absurd (omega (arith, k.less, s.joins, apart u.addr (t.addr + nb) (tiles_of heads) u _ k.sides.row s.second.found b.found (omega (arith, past, s.joins, other))))
      | inr none ↦ omega (arith, none)
    ]

pub row_shifted : (heads : Parts Head) (feet : Parts ℕ) (t u : Tile) (nb : ℕ) (gone short new : Parts Head) → Shifts heads feet t u nb → IsCleared heads u gone → head_at short ≡ update (head_at gone) t.addr (first_head t nb) → extent_of short ≡ extent_of gone → head_at new ≡ update (head_at short) (t.addr + nb) (second_head t u nb) → extent_of new ≡ extent_of short → row_of new ≡ record { tiles = swapped t.addr (record t { size = nb } ∷ record u { addr = t.addr + nb; size = t.size + u.size - nb } ∷ []) (fused t.addr (record u { addr = t.addr; size = t.size + u.size }) (tiles_of heads)); extent = extent_of heads }
row_shifted heads feet t u nb gone short new k is first same second same2 =
    let s = side heads feet t u k.sides in
    let x : Tile = record t { size = nb } in
    let y : Tile = record u { addr = t.addr + nb; size = t.size + u.size - nb } in
    let m : Tile = record u { addr = t.addr; size = t.size + u.size } in
    let bare : (head_at short (t.addr + nb)).size ≡ 0 =
    rw (first, update_other (head_at gone) t.addr (first_head t nb) (t.addr + nb) (λ e. omega (arith, e, k.some)), is.written)
    (update_cases (λ (h : Head). h.size ≡ 0) (head_at heads) u.addr no_head (t.addr + nb) (λ _. refl) (none_within heads feet t u nb k)) in
    let tiles : tiles_of new ≡ swapped t.addr (x ∷ y ∷ []) (fused t.addr m (tiles_of heads)) =
    tiles_of-entered short new (t.addr + nb) (second_head t u nb) second (omega (arith, end_below heads feet t u nb k, k.less)) bare (omega (arith, k.less))
    ∙ (ap (entered y) (tiles_fused heads feet t u (first_head t nb) gone short k.sides k.some is.written first)
    ∙ fused-entered 0 t.addr (tiles_of heads) t u x y m (spread (tiles_of heads) k.sides.row) k.sides.found k.sides.behind refl refl (omega (arith, k.some)) (omega (arith, s.joins, k.less))) in
    row_is new _ _ tiles (same2 ∙ (same ∙ is.extent))
