-- Laws of the moves of top, for this crate and those above it: a chunk is cut off it, it gets another size, and it moves
-- to a new range.
use Rattle.std.proofs.Common.{◌≡◌, ℕ, ◌+◌, ◌-◌, ◌%◌, ◌≤◌, Bool, true, false, cond, List, [], ◌∷◌, ◌++◌, length, Option, Some, None, IfSome, refl, sym, ap, ◌∙◌, subst, inl, inr, arith}
use Rattle.std.specs.Prelude.{nat_eq, nat_lt, sum_by, ◌⊎◌}
use Rattle.std.specs.List.{AllByRecursion}
use Rattle.std.proofs.lemmas.Bool.{ltb-false}
use Rattle.std.proofs.lemmas.List.Sums.{sum_by-cons}
use Rattle.chunk_tags.specs.BinOrder.{once}
use Rattle.chunk_tags.specs.declared.tiles.Chunk.{Chunk}
use Rattle.chunk_tags.specs.Sizes.{IsChunkSize}
use Rattle.chunk_tags.specs.Tiles.{is_used, is_free, end_of, IsTile, swapped, entered, tile_at, tile_before, tile_behind, top_of}
use Rattle.chunk_tags.specs.declared.tiles.Tile.{Tile}
use Rattle.chunk_tags.specs.declared.tiles.TileKind.TheVariants.{Used, Top, Fence}
use Rattle.arena_rules.specs.PlainArena.{Plain, IsSound, once_of}
use Rattle.arena_rules.specs.Moves.{tile_of, with_tiles, cut_from_top, with_top_size, with_new_top, closed_top, with_moved_top, left_of_top}
use Rattle.arena_rules.proofs.Rows.{if_found, may_lead, may_follow}
use Rattle.arena_rules.proofs.Counts.{weight}
use Rattle.arena_rules.proofs.Changes.{IsChanged, neighbours_behind, tile_is, IsExchange, exchanged, IsParting, parted_row, IsResizing, resized}
use Rattle.arena_rules.proofs.Entries.{Apart, IsEntry, entered_changed}
use Rattle.arena_rules.proofs.Moved.{Moved, Measure, Adds, parts_of, none, nothing, listed_still, weight_top, some_counts, top_to, moved_with}
use Rattle.arena_rules.proofs.Tops.{IsTopOf, top_found, no_top}

-- top at an address
pub top_tile : (a : Plain) (t : Tile) → IsSound a → top_of a.tiles ≡ Some t → tile_at t.addr a.tiles ≡ Some (tile_of Top t.addr t.size)
top_tile a t s e =
    let f : IsTopOf t a.tiles = top_found t a.tiles s.row e in
    f.found ∙ ap (λ (x : Tile). Some x) f.is

-- ---- a chunk is cut off top

cut_at : (a : Plain) (at size nb : ℕ) → IsSound a → tile_at at a.tiles ≡ Some (tile_of Top at size) → IsChunkSize nb → nb + 32 ≤ size → Moved a (with_tiles a at (tile_of Used at nb ∷ tile_of Top (at + nb) (size - nb) ∷ [])) none (λ e. once e (record { at = at; size = nb })) nothing nothing
cut_at a at size nb s found chunk le =
    let t : Tile = tile_of Top at size in
    let x : Tile = tile_of Used at nb in
    let y : Tile = tile_of Top (at + nb) (size - nb) in
    let tile : IsTile t = tile_is t a.tiles s.row found in
    let parting : IsParting t x y a.tiles = record {
      found = found;
      first = record { size = chunk; place = tile.place };
      second = record { size = (omega (arith, le), omega (arith, le, chunk.1, tile.size.1)); place = omega (arith, tile.place, chunk.1) };
      at = refl;
      joins = refl;
      end = omega (arith, le);
      edge = refl;
      neither = refl;
      not_free = refl;
    } in
    let new : Plain = with_tiles a at (x ∷ y ∷ []) in
    moved_with a new (t ∷ []) (x ∷ y ∷ []) none (λ e. once e (record { at = at; size = nb })) nothing nothing s (parted_row t x y a.tiles s.row parting).changed
    (listed_still a new (t ∷ []) (x ∷ y ∷ []) s refl (λ e. refl)) (omega (arith, top_to a at t s found))
    (record { leaves = λ e. refl; comes = λ e. omega arith; spans = λ v adds. omega (arith, parts_of v at nb (size - nb) size adds (omega (arith, le))) })

pub cut_moved : (a : Plain) (t : Tile) (nb : ℕ) → IsSound a → top_of a.tiles ≡ Some t → IsChunkSize nb → nb + 32 ≤ t.size → Moved a (cut_from_top a nb) none (λ e. once e (record { at = t.addr; size = nb })) nothing nothing
cut_moved a t nb s e chunk le =
    subst (λ o. Moved a (elim o [ None ↦ a | Some t ↦ with_tiles a t.addr (tile_of Used t.addr nb ∷ tile_of Top (t.addr + nb) (t.size - nb) ∷ []) ]) none (λ e. once e (record { at = t.addr; size = nb })) nothing nothing)
    (sym e) (cut_at a t.addr t.size nb s (top_tile a t s e) chunk le)

-- ---- top gets another size

sized_at : (a : Plain) (at size now : ℕ) → IsSound a → tile_at at a.tiles ≡ Some (tile_of Top at size) → IsChunkSize now → IfSome (tile_behind at a.tiles) (λ u. at + now ≤ u.addr) → Moved a (with_tiles a at (tile_of Top at now ∷ [])) none none (λ v. v at size) (λ v. v at now)
sized_at a at size now s found chunk room =
    let t : Tile = tile_of Top at size in
    let x : Tile = tile_of Top at now in
    let resizing : IsResizing t x a.tiles = record {
      found = found;
      tile = record { size = chunk; place = (tile_is t a.tiles s.row found).place };
      at = refl;
      kind = refl;
      edge = refl;
      room = room;
    } in
    let new : Plain = with_tiles a at (x ∷ []) in
    moved_with a new (t ∷ []) (x ∷ []) none none (λ v. v at size) (λ v. v at now) s (resized t x a.tiles s.row resizing)
    (listed_still a new (t ∷ []) (x ∷ []) s refl (λ e. refl)) (omega (arith, top_to a at t s found))
    (record { leaves = λ e. refl; comes = λ e. refl; spans = λ v adds. omega arith })

pub sized_moved : (a : Plain) (t : Tile) (now : ℕ) → IsSound a → top_of a.tiles ≡ Some t → IsChunkSize now → IfSome (tile_behind t.addr a.tiles) (λ u. t.addr + now ≤ u.addr) → Moved a (with_top_size a now) none none (λ v. v t.addr t.size) (λ v. v t.addr now)
sized_moved a t now s e chunk room =
    subst (λ o. Moved a (elim o [ None ↦ a | Some t ↦ with_tiles a t.addr (tile_of Top t.addr now ∷ []) ]) none none (λ v. v t.addr t.size) (λ v. v t.addr now))
    (sym e) (sized_at a t.addr t.size now s (top_tile a t s e) chunk room)

-- what is smaller fits
pub shrunk_fits : (a : Plain) (t : Tile) (now : ℕ) → IsSound a → top_of a.tiles ≡ Some t → now ≤ t.size → IfSome (tile_behind t.addr a.tiles) (λ u. t.addr + now ≤ u.addr)
shrunk_fits a t now s e le =
    if_found (λ u. t.addr + now ≤ u.addr) (tile_behind t.addr a.tiles) (λ u behind.
    let order : end_of t ≤ u.addr = (neighbours_behind t u a.tiles s.row (top_found t a.tiles s.row e).found behind).meets.order in
    omega (arith, order, le))

-- ---- a new range is top

empty_where : (ts : List Tile) → top_of ts ≡ None → sum_by weight_top ts ≡ cond (nat_lt 0 (length ts)) 1 0 → ts ≡ []
empty_where [] e tops = refl
empty_where (t ∷ ts) e tops = absurd (omega (arith, no_top (t ∷ ts) e, tops, some_counts t ts))

-- an arena without top has no tile
pub no_tiles : (a : Plain) → IsSound a → top_of a.tiles ≡ None → a.tiles ≡ []
no_tiles a s e = empty_where a.tiles e s.one_top

pub new_top_moved : (a : Plain) (at size : ℕ) → IsSound a → top_of a.tiles ≡ None → IsChunkSize size → at % 16 ≡ 0 → Moved a (with_new_top a at size) none none nothing (λ v. v at size)
new_top_moved a at size s e chunk place =
    let x : Tile = tile_of Top at size in
    let entry : IsEntry x a.tiles = record { tile = record { size = chunk; place = place }; edge = refl; apart = subst (Apart at (at + size)) (sym (no_tiles a s e)) tt } in
    let new : Plain = with_new_top a at size in
    moved_with a new [] (x ∷ []) none none nothing (λ v. v at size) s (entered_changed x a.tiles s.row entry)
    (listed_still a new [] (x ∷ []) s refl (λ e. refl)) (omega (arith, no_top a.tiles e))
    (record { leaves = λ e. refl; comes = λ e. refl; spans = λ v adds. omega arith })

-- ---- top moves

all_append : (P : Tile → Type 0) (ts us : List Tile) → AllByRecursion P ts → AllByRecursion P us → AllByRecursion P (ts ++ us)
all_append P [] us all more = more
all_append P (t ∷ ts) us all more = (all.0, all_append P ts us all.1 more)

all_swapped : (P : Tile → Type 0) (at : ℕ) (news ts : List Tile) → AllByRecursion P ts → AllByRecursion P news → AllByRecursion P (swapped at news ts)
all_swapped P at news [] all more = tt
all_swapped P at news (t ∷ ts) all more =
    let cases : (b : Bool) → AllByRecursion P (cond b (news ++ ts) (t ∷ swapped at news ts)) = elim [
      | true ↦ all_append P news ts more all.1
      | false ↦ (all.0, all_swapped P at news ts all.1 more)
    ] in
    cases (nat_eq t.addr at)

-- what holds of all tiles holds of the one at an address
pub all_at : (P : Tile → Type 0) (at : ℕ) (t : Tile) (ts : List Tile) → AllByRecursion P ts → tile_at at ts ≡ Some t → P t
all_at P at t [] all e = absurd cc
all_at P at t (u ∷ us) all e =
    let cases : (b : Bool) → cond b (Some u) (tile_at at us) ≡ Some t → P t = elim [
      | true ↦ λ h. let same : u ≡ t = cc in subst P same all.0
      | false ↦ λ h. all_at P at t us all.1 h
    ] in
    cases (nat_eq u.addr at) e

-- an old top was closed
record IsClosed (a : Plain) (t : Tile) (news : List Tile) (came : Chunk → ℕ) : Type 0 where
  changed : IsChanged a.tiles (swapped t.addr news a.tiles) (t ∷ []) news
  tops : sum_by weight_top news ≡ 0
  free : (e : Chunk) → sum_by (weight is_free e) news ≡ 0
  used : (e : Chunk) → sum_by (weight is_used e) news ≡ came e
  spans : (v : Measure) → Adds v → sum_by (λ t. v t.addr t.size) news ≡ v t.addr t.size
  within : AllByRecursion (λ u. (t.addr ≤ u.addr) × (end_of u ≤ end_of t)) news

closed_small : (a : Plain) (at size : ℕ) → IsSound a → tile_at at a.tiles ≡ Some (tile_of Top at size) → IsClosed a (tile_of Top at size) (tile_of Fence at size ∷ []) none
closed_small a at size s found =
    let t : Tile = tile_of Top at size in
    let x : Tile = tile_of Fence at size in
    let tile : IsTile t = tile_is t a.tiles s.row found in
    let exchange : IsExchange t x a.tiles = record {
      found = found;
      tile = record { size = tile.size; place = tile.place };
      at = refl;
      end = refl;
      edge = refl;
      before = may_lead x (tile_before at a.tiles) refl;
      behind = may_follow x (tile_behind at a.tiles) refl;
    } in
    record { changed = (exchanged t x a.tiles s.row exchange).changed; tops = refl; free = λ e. refl; used = λ e. refl; spans = λ v adds. omega arith; within = ((omega arith, omega arith), tt) }

closed_large : (a : Plain) (at size : ℕ) → IsSound a → tile_at at a.tiles ≡ Some (tile_of Top at size) → 64 ≤ size → IsClosed a (tile_of Top at size) (tile_of Used at (size - 32) ∷ tile_of Fence (at + (size - 32)) 32 ∷ []) (λ e. once e (record { at = at; size = size - 32 }))
closed_large a at size s found le =
    let t : Tile = tile_of Top at size in
    let x : Tile = tile_of Used at (size - 32) in
    let y : Tile = tile_of Fence (at + (size - 32)) 32 in
    let tile : IsTile t = tile_is t a.tiles s.row found in
    let parting : IsParting t x y a.tiles = record {
      found = found;
      first = record { size = (omega (arith, le), omega (arith, le, tile.size.1)); place = tile.place };
      second = record { size = (omega arith, refl); place = omega (arith, le, tile.place, tile.size.1) };
      at = refl;
      joins = refl;
      end = omega (arith, le);
      edge = refl;
      neither = refl;
      not_free = refl;
    } in
    record {
      changed = (parted_row t x y a.tiles s.row parting).changed;
      tops = refl;
      free = λ e. refl;
      used = λ e. omega arith;
      spans = λ v adds. omega (arith, parts_of v at (size - 32) 32 size adds (omega (arith, le)));
      within = ((omega arith, omega arith), ((omega arith, omega (arith, le)), tt));
    }

-- what lies apart from a tile lies apart from its parts
apart_within : (at end : ℕ) (t : Tile) (news : List Tile) → (end_of t ≤ at) ⊎ (end ≤ t.addr) → AllByRecursion (λ u. (t.addr ≤ u.addr) × (end_of u ≤ end_of t)) news → Apart at end news
apart_within at end t [] apart within = tt
apart_within at end t (u ∷ us) apart within =
    (elim apart [ inl before ↦ inl (omega (arith, before, within.0.1)) | inr after ↦ inr (omega (arith, after, within.0.0)) ], apart_within at end t us apart within.1)

closed_moved : (a : Plain) (t : Tile) (news : List Tile) (came : Chunk → ℕ) (at size : ℕ) → IsSound a → tile_at t.addr a.tiles ≡ Some t → t ≡ tile_of Top t.addr t.size → IsClosed a t news came → IsChunkSize size → at % 16 ≡ 0 → Apart at (at + size) a.tiles → Moved a (with_new_top (with_tiles a t.addr news) at size) none came nothing (λ v. v at size)
closed_moved a t news came at size s found is c chunk place apart =
    let x : Tile = tile_of Top at size in
    let mid : List Tile = swapped t.addr news a.tiles in
    let new : Plain = with_new_top (with_tiles a t.addr news) at size in
    let entry : IsEntry x mid = record {
      tile = record { size = chunk; place = place };
      edge = refl;
      apart = all_swapped (λ u. (end_of u ≤ at) ⊎ (at + size ≤ u.addr)) t.addr news a.tiles apart
          (apart_within at (at + size) t news (all_at (λ u. (end_of u ≤ at) ⊎ (at + size ≤ u.addr)) t.addr t a.tiles apart found) c.within);
    } in
    let m : IsChanged mid (entered x mid) [] (x ∷ []) = entered_changed x mid c.changed.row entry in
    let both : IsChanged a.tiles new.tiles (t ∷ []) (x ∷ news) = record { row = m.row; sums = λ w. omega (arith, c.changed.sums w, m.sums w, sum_by-cons w x news) } in
    let cons = λ (w : Tile → ℕ). sum_by-cons w x news in
    moved_with a new (t ∷ []) (x ∷ news) none came nothing (λ v. v at size) s both
    (listed_still a new (t ∷ []) (x ∷ news) s refl (λ e. omega (arith, cons (weight is_free e), c.free e, ap (weight is_free e) is)))
    (omega (arith, cons weight_top, c.tops, top_to a t.addr t s found, ap weight_top is))
    (record {
      leaves = λ e. omega (arith, ap (weight is_used e) is);
      comes = λ e. omega (arith, cons (weight is_used e), c.used e);
      spans = λ v adds. omega (arith, cons (λ t. v t.addr t.size), c.spans v adds);
    })

moved_from_top : (a : Plain) (t : Tile) (at size : ℕ) → IsSound a → top_of a.tiles ≡ Some t → IsChunkSize size → at % 16 ≡ 0 → Apart at (at + size) a.tiles → Moved a (with_new_top (with_tiles a t.addr (closed_top t)) at size) none (λ e. once_of e (cond (nat_lt t.size 64) None (Some (record { at = t.addr; size = t.size - 32 })))) nothing (λ v. v at size)
moved_from_top a t at size s e chunk place apart =
    let f : IsTopOf t a.tiles = top_found t a.tiles s.row e in
    let found : tile_at t.addr a.tiles ≡ Some (tile_of Top t.addr t.size) = top_tile a t s e in
    let cases : (b : Bool) → nat_lt t.size 64 ≡ b → Moved a (with_new_top (with_tiles a t.addr (cond b (tile_of Fence t.addr t.size ∷ []) (tile_of Used t.addr (t.size - 32) ∷ tile_of Fence (t.addr + (t.size - 32)) 32 ∷ []))) at size) none (λ e. once_of e (cond b None (Some (record { at = t.addr; size = t.size - 32 })))) nothing (λ v. v at size) = elim [
      | true ↦ λ is. closed_moved a (tile_of Top t.addr t.size) (tile_of Fence t.addr t.size ∷ []) none at size s found refl (closed_small a t.addr t.size s found) chunk place apart
      | false ↦ λ is. closed_moved a (tile_of Top t.addr t.size) (tile_of Used t.addr (t.size - 32) ∷ tile_of Fence (t.addr + (t.size - 32)) 32 ∷ []) (λ e. once e (record { at = t.addr; size = t.size - 32 })) at size s found refl (closed_large a t.addr t.size s found (ltb-false t.size 64 is)) chunk place apart
    ] in
    cases (nat_lt t.size 64) refl

pub top_moved : (a : Plain) (at size : ℕ) → IsSound a → IsChunkSize size → at % 16 ≡ 0 → Apart at (at + size) a.tiles → Moved a (with_moved_top a at size) none (λ e. once_of e (left_of_top a)) nothing (λ v. v at size)
top_moved a at size s chunk place apart =
    let cases : (o : Option Tile) → top_of a.tiles ≡ o → Moved a (elim o [ None ↦ with_new_top a at size | Some t ↦ with_new_top (with_tiles a t.addr (closed_top t)) at size ]) none (λ e. once_of e (elim o [ None ↦ None | Some t ↦ cond (nat_lt t.size 64) None (Some (record { at = t.addr; size = t.size - 32 })) ])) nothing (λ v. v at size) = elim [
      | None ↦ λ e. new_top_moved a at size s e chunk place
      | Some t ↦ λ e. moved_from_top a t at size s e chunk place apart
    ] in
    cases (top_of a.tiles) refl
