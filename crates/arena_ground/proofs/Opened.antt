-- A ground whose words were opened, and main before its first growth.
use Rattle.std.proofs.Common.{◌≡◌, ℕ, ◌+◌, ◌<◌, List, Option, Result, Ok, Err, refl, sym, ap, ◌∙◌, subst}
use Rattle.std.specs.Prelude.{OnOk, OnErr}
use Rattle.chunk_tags.specs.declared.tiles.Tile.{Tile}
use Rattle.part_words.specs.Extents.{Extent, extended, AreOpen, IsWithinPart, IsWider}
use Rattle.part_words.proofs.Opening.{AreOpen-covers, AreOpen-range, Covers-extended, Covers-more, Covers-same, IsWithinPart-covers, extended-open}
use Rattle.ordinary_bins.specs.Lists.{Linked, empty_lists}
use Rattle.chunk_image.specs.Rows.{TileRow}
use Rattle.arena_rules.specs.PlainArena.{Plain, empty_bins}
use Rattle.arena_rules.specs.Heaps.{heap_start, last_heap}
use Rattle.arena_rules.specs.Moves.{top_end}
use Rattle.heap_top.specs.declared.regions.Regions.{Regions}
use Rattle.heap_top.specs.HeapRanges.{IsHeapGrowth, IsNewHeap}
use Rattle.heap_top.specs.MainRanges.{IsNewRange}
use Rattle.arena_ground.specs.Grounds.{bins_at, IsGround}
use Rattle.arena_ground.proofs.Topping.{opened_kept}

pub opened_ground : {T E : Type 0} (r : Regions) (w v : TileRow) (l m : Linked) (last : Option ℕ) (at len : ℕ) (res : Result T E) → IsGround r w l last → OnOk res (v ≡ record w { extent = extended w.extent at len }) → OnErr res (v ≡ w) → m.lists ≡ l.lists → m.extent ≡ extended l.extent at len → IsGround r v m last
opened_ground r w v l m last at len (Ok x) g ok err lists links =
    opened_kept r w v l m last g (ap (λ (x : TileRow). x.tiles) ok) lists
    (subst (λ (x : TileRow). IsWider x.extent m.extent) (sym ok) (subst (IsWider (extended w.extent at len)) (sym links) (Covers-extended w.extent l.extent at len g.covers)))
    (ap (λ (x : TileRow). x.extent.base) ok) (ap (λ (x : TileRow). x.extent.width) ok)
opened_ground r w v l m last at len (Err x) g ok err lists links =
    opened_kept r w v l m last g (ap (λ (x : TileRow). x.tiles) err) lists
    (subst (λ (x : TileRow). IsWider x.extent m.extent) (sym err) (subst (IsWider w.extent) (sym links) (Covers-more w.extent l.extent at len g.covers)))
    (ap (λ (x : TileRow). x.extent.base) err) (ap (λ (x : TileRow). x.extent.width) err)

pub opened_bins : {T E : Type 0} (w v : TileRow) (l m : Linked) (at len : ℕ) (res : Result T E) → OnOk res (v ≡ record w { extent = extended w.extent at len }) → OnErr res (v ≡ w) → m.lists ≡ l.lists → bins_at w.tiles l.lists ≡ bins_at v.tiles m.lists
opened_bins w v l m at len (Ok x) ok err lists = ap (λ (x : TileRow). bins_at x.tiles l.lists) (sym ok) ∙ ap (bins_at v.tiles) (sym lists)
opened_bins w v l m at len (Err x) ok err lists = ap (λ (x : TileRow). bins_at x.tiles l.lists) (sym err) ∙ ap (bins_at v.tiles) (sym lists)

pub opened_room : {T E : Type 0} (w v : TileRow) (at len : ℕ) (res : Result T E) → IsWithinPart w.extent at len → OnOk res (v ≡ record w { extent = extended w.extent at len }) → OnOk res (AreOpen v.extent at len)
opened_room w v at len (Ok x) within ok = subst (λ (x : TileRow). AreOpen x.extent at len) (sym ok) (AreOpen-range w.extent at len within)
opened_room w v at len (Err x) within ok = ok

-- ---- where words are missing

missing : (e f : Extent) (at len : ℕ) → IsWider e f → IsWithinPart e at len → 0 < len → (extended f at len ≡ f → ⊥) → AreOpen e at len → ⊥
missing e f at len covers range some more all =
    more (extended-open f at len (IsWithinPart-covers e f at len covers range) some (AreOpen-covers e f at len covers all))

-- those of links, and so those of tiles
pub links_missing : {T E : Type 0} (w : TileRow) (l : Linked) (at len : ℕ) (res : Result T E) → IsWider w.extent l.extent → IsWithinPart w.extent at len → 0 < len → (extended l.extent at len ≡ l.extent → ⊥) → OnErr res ((AreOpen w.extent at len → ⊥) × (AreOpen w.extent at len → ⊥))
links_missing w l at len (Ok x) covers range some more = tt
links_missing w l at len (Err x) covers range some more =
    let none = missing w.extent l.extent at len covers range some more in
    (none, none)

pub tiles_missing : {T E : Type 0} (w v : TileRow) (at len : ℕ) (res : Result T E) → IsWithinPart w.extent at len → 0 < len → OnErr res (v ≡ w) → OnErr res (extended w.extent at len ≡ w.extent → ⊥) → OnErr res ((AreOpen w.extent at len → ⊥) × (AreOpen v.extent at len → ⊥))
tiles_missing w v at len (Ok x) range some same more = tt
tiles_missing w v at len (Err x) range some same more =
    let none = missing w.extent w.extent at len (Covers-same w.extent) range some more in
    (none, λ all. none (subst (λ (x : TileRow). AreOpen x.extent at len) same all))

-- so there is no room for what is to be taken there
pub range_missing : {T E : Type 0} (res : Result T E) (e f : Extent) (at from now len limit : ℕ) → at ≡ from → now ≡ from → OnErr res ((AreOpen e at len → ⊥) × (AreOpen f at len → ⊥)) → OnErr res ((IsNewRange e from len limit → ⊥) × (IsNewRange f now len limit → ⊥))
range_missing (Ok x) e f at from now len limit here same none = tt
range_missing (Err x) e f at from now len limit here same none =
    (λ (r : IsNewRange e from len limit). none.0 (rw here r.words), λ (r : IsNewRange f now len limit). none.1 (rw (here ∙ sym same) r.words))

pub growth_missing : {T E : Type 0} (res : Result T E) (e f : Extent) (at : ℕ) (a new : Plain) (growth : ℕ) → at ≡ top_end a → new ≡ a → OnErr res ((AreOpen e at growth → ⊥) × (AreOpen f at growth → ⊥)) → OnErr res ((IsHeapGrowth e a growth → ⊥) × (IsHeapGrowth f new growth → ⊥))
growth_missing (Ok x) e f at a new growth here same none = tt
growth_missing (Err x) e f at a new growth here same none =
    (λ (r : IsHeapGrowth e a growth). none.0 (rw here r.words), λ (r : IsHeapGrowth f new growth). none.1 (rw (here ∙ ap top_end (sym same)) r.words))

pub heap_missing : {T E : Type 0} (res : Result T E) (e f : Extent) (at : ℕ) (a new : Plain) (len : ℕ) → at ≡ heap_start a (last_heap a + 1) → new ≡ a → OnErr res ((AreOpen e at len → ⊥) × (AreOpen f at len → ⊥)) → OnErr res ((IsNewHeap e a len → ⊥) × (IsNewHeap f new len → ⊥))
heap_missing (Ok x) e f at a new len here same none = tt
heap_missing (Err x) e f at a new len here same none =
    (λ (r : IsNewHeap e a len). none.0 (rw here r.words), λ (r : IsNewHeap f new len). none.1 (rw (here ∙ ap (λ (x : Plain). heap_start x (last_heap x + 1)) (sym same)) r.words))

pub empty_at : (ts : List Tile) → bins_at ts empty_lists ≡ empty_bins
unfolding empty_lists empty_bins
empty_at ts = refl
