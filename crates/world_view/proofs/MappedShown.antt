-- Each mapped chunk of a thread or a tray is shown with its place, where no byte is of two of them.
use Rattle.std.proofs.Common.{◌≡◌, ℕ, zero, suc, ◌+◌, ◌-◌, ◌≤◌, Bool, true, false, cond, List, [], ◌∷◌, ◌++◌, map, filter, fold, Option, Some, None, ◌⊎◌, inl, inr, sum_by, get_or, refl, sym, ap, ◌∙◌, subst, arith}
use Rattle.std.specs.Prelude.{◌&&◌, nat_le, not, is_some, slice_get, if◌then◌else◌}
use Rattle.std.proofs.lemmas.Bool.Decides.{nat_tests}
use Rattle.std.proofs.lemmas.List.{map-append}
use Rattle.std.proofs.lemmas.List.Elements.{filter-append}
use Rattle.std.proofs.lemmas.List.Sums.{sum_by-cons, sum_by-append}
use Rattle.list_laws.specs.Rising.{at}
use Rattle.chunk_tags.specs.declared.block.Block.{Block}
use Rattle.chunk_tags.specs.declared.tiles.Tile.{Tile}
use Rattle.thread_cache.specs.Caches.{structure_of, cached_tiles}
use Rattle.arena_holds.specs.Places.{weight_of, as_mapped_byte}
use Rattle.own_blocks.specs.declared.own.Own.{Own}
use Rattle.block_names.specs.Names.{NameTable, block_at, is_name}
use Rattle.block_names.proofs.Keyed.{name_is}
use Rattle.block_names.proofs.Tables.{in_both_parts, either_part}
use Rattle.std.specs.Map.{lookup, values_of}
use Rattle.std.proofs.lemmas.Bool.{cases_Bool}
use Rattle.own_blocks.specs.Own.{in_names, in_own}
use Rattle.stats_text.specs.declared.views.Place.{Place}
use Rattle.stats_text.specs.declared.views.Place.TheVariants as places
use Rattle.stats_text.specs.declared.views.TileView.{TileView}
use Rattle.world_view.specs.declared.finds.Find.{Find}
use Rattle.world_view.specs.Places.{block_find, named_from, held_find, far_finds, named_finds, cached_find, structure_finds, thread_finds, threads_finds, tray_find, finds_of, put_tile, by_address, mapped_finds}
use Rattle.world_view.specs.Scenes.{Scene}
use Rattle.world_view.specs.Shows.{in_threads, in_trays, in_scene, ShowsMapped}
use Rattle.world_view.proofs.ByAddress.{at_put, at_kept, value_at}

-- ---- chunks that have no byte in common are all there

-- 1 where a byte is of a chunk that is shown, its lead included, else 0
abbrev view_byte : ℕ → TileView → ℕ
view_byte n v = if nat_le (v.addr - v.lead) n && nat_le n (v.addr + (v.size - 1)) then 1 else 0

first_byte : (n : ℕ) (v : TileView) → n ≡ v.addr → view_byte n v ≡ 1
first_byte n v is = grind (arith, nat_tests)

rest_kept : (v : TileView) (es : List (ℕ × TileView)) (ts : List TileView) → at v.addr es ≡ Some v → sum_by (view_byte v.addr) ts ≡ 0 → at v.addr (fold put_tile es ts) ≡ Some v
rest_kept v es [] found none = found
rest_kept v es (t ∷ ts) found none =
    let one = sum_by-cons (view_byte v.addr) t ts in
    let other : v.addr ≡ t.addr → ⊥ = λ same. omega (arith, one, none, first_byte v.addr t same) in
    rest_kept v (put_tile es t) ts (at_kept v.addr t.addr t v es other found) (omega (arith, one, none))

abbrev IsIn : TileView → List TileView → Type 0
IsIn v [] = ⊥
IsIn v (t ∷ ts) = (t ≡ v) ⊎ IsIn v ts

all_put : (v : TileView) (es : List (ℕ × TileView)) (ts : List TileView) → IsIn v ts → sum_by (view_byte v.addr) ts ≤ 1 → at v.addr (fold put_tile es ts) ≡ Some v
all_put v es [] is once = absurd is
all_put v es (t ∷ ts) is once =
    let one = sum_by-cons (view_byte v.addr) t ts in
    elim is [
      | inl same ↦
          let here : at v.addr (put_tile es t) ≡ Some v = subst (λ (x : TileView). at v.addr (put_tile es x) ≡ Some v) (sym same) (at_put v.addr v es) in
          let addr : v.addr ≡ t.addr = ap (λ (x : TileView). x.addr) (sym same) in
          rest_kept v (put_tile es t) ts here (omega (arith, one, once, first_byte v.addr t addr))
      | inr later ↦ all_put v (put_tile es t) ts later (omega (arith, one, once))
    ]

-- ---- the bytes of the mapped chunks

find_byte : (n : ℕ) (f : Find) (fs : List Find) → sum_by (view_byte n) (mapped_finds (f ∷ fs)) ≡ cond f.mapped (view_byte n f.tile) 0 + sum_by (view_byte n) (mapped_finds fs)
find_byte n f fs =
    let rest : List Find = filter (λ (x : Find). x.mapped) fs in
    elim f.mapped as (λ b. sum_by (view_byte n) (map (λ (x : Find). x.tile) (cond b (f ∷ rest) rest)) ≡ cond b (view_byte n f.tile) 0 + sum_by (view_byte n) (map (λ (x : Find). x.tile) rest)) [
      | true ↦ sum_by-cons (view_byte n) f.tile (map (λ (x : Find). x.tile) rest)
      | false ↦ omega arith
    ]

block_byte : (n : ℕ) (p : Place) (b : Block) → cond (not (is_some b.arena)) (view_byte n (block_find p b).tile) 0 ≡ as_mapped_byte n b
block_byte n p b =
    let v : ℕ = view_byte n (block_find p b).tile in
    elim (is_some b.arena) as (λ (s : Bool). cond (not s) v 0 ≡ cond s 0 v) [ true ↦ refl | false ↦ refl ]

-- those of a block in front of others
block_more : (n : ℕ) (p : Place) (b : Block) (fs : List Find) → sum_by (view_byte n) (mapped_finds (block_find p b ∷ fs)) ≡ as_mapped_byte n b + sum_by (view_byte n) (mapped_finds fs)
block_more n p b fs = omega (arith, find_byte n (block_find p b) fs, block_byte n p b)

row_bytes : (n thread name : ℕ) (os : List (Option Block)) → sum_by (view_byte n) (mapped_finds (named_from thread name os)) ≡ sum_by (λ o. weight_of o (as_mapped_byte n)) os
row_bytes n thread name [] = refl
row_bytes n thread name (None ∷ os) = omega (arith, sum_by-cons (λ o. weight_of o (as_mapped_byte n)) None os, row_bytes n thread (name + 1) os)
row_bytes n thread name (Some b ∷ os) =
    omega (
      arith,
      sum_by-cons (λ o. weight_of o (as_mapped_byte n)) (Some b) os,
      block_more n (places.Live thread name) b (named_from thread (name + 1) os),
      row_bytes n thread (name + 1) os,
    )

held_bytes : (n thread name : ℕ) (o : Option Block) → sum_by (view_byte n) (mapped_finds (held_find thread name o)) ≡ weight_of o (as_mapped_byte n)
held_bytes n thread name None = refl
held_bytes n thread name (Some b) = omega (arith, block_more n (places.Live thread name) b [])

cached_bytes : (n thread : ℕ) (ts : List Tile) → sum_by (view_byte n) (mapped_finds (map (cached_find thread) ts)) ≡ 0
cached_bytes n thread [] = refl
cached_bytes n thread (t ∷ ts) = cached_bytes n thread ts

structure_bytes : (n thread : ℕ) (o : Option Block) → sum_by (view_byte n) (mapped_finds (structure_finds thread o)) ≡ weight_of o (as_mapped_byte n)
structure_bytes n thread None = refl
structure_bytes n thread (Some b) = omega (arith, block_more n (places.Structure thread) b [])

mapped_both : (some more : List Find) → mapped_finds (some ++ more) ≡ mapped_finds some ++ mapped_finds more
mapped_both some more =
    let tile : Find → TileView = λ f. f.tile in
    let mapped : Find → Bool = λ f. f.mapped in
    ap (map tile) (filter-append mapped some more) ∙ map-append tile (filter mapped some) (filter mapped more)

both_bytes : (n : ℕ) (some more : List Find) → sum_by (view_byte n) (mapped_finds (some ++ more)) ≡ sum_by (view_byte n) (mapped_finds some) + sum_by (view_byte n) (mapped_finds more)
both_bytes n some more = ap (sum_by (view_byte n)) (mapped_both some more) ∙ sum_by-append (view_byte n) (mapped_finds some) (mapped_finds more)

far_bytes : (n thread : ℕ) (es : List (ℕ × Option Block)) → sum_by (view_byte n) (mapped_finds (far_finds thread es)) ≡ sum_by (λ o. weight_of o (as_mapped_byte n)) (values_of es)
far_bytes n thread [] = refl
far_bytes n thread (x ∷ es) =
    omega (
      arith,
      sum_by-cons (λ o. weight_of o (as_mapped_byte n)) x.1 (values_of es),
      both_bytes n (held_find thread x.0 x.1) (far_finds thread es),
      held_bytes n thread x.0 x.1,
      far_bytes n thread es,
    )

named_bytes : (n thread : ℕ) (names : NameTable) → sum_by (view_byte n) (mapped_finds (named_finds thread names)) ≡ in_names names (as_mapped_byte n)
named_bytes n thread names =
    omega (
      arith,
      in_both_parts names (λ o. weight_of o (as_mapped_byte n)),
      both_bytes n (named_from thread 0 names.near) (far_finds thread names.far),
      row_bytes n thread 0 names.near,
      far_bytes n thread names.far,
    )

thread_bytes : (n thread : ℕ) (own : Own) → sum_by (view_byte n) (mapped_finds (thread_finds thread own)) ≤ in_own own (as_mapped_byte n)
unfolding thread_finds
thread_bytes n thread own =
    let named : List Find = named_finds thread own.names in
    let cached : List Find = map (cached_find thread) (cached_tiles own.cache) in
    let structure : List Find = structure_finds thread (structure_of own.cache) in
    let all : sum_by (view_byte n) (mapped_finds (named ++ cached ++ structure)) ≤ in_own own (as_mapped_byte n) = omega (
      arith,
      both_bytes n (named ++ cached) structure,
      both_bytes n named cached,
      named_bytes n thread own.names,
      cached_bytes n thread (cached_tiles own.cache),
      structure_bytes n thread (structure_of own.cache),
    ) in
    all

threads_bytes : (n thread : ℕ) (owns : List Own) → sum_by (view_byte n) (mapped_finds (threads_finds thread owns)) ≤ in_threads owns (as_mapped_byte n)
threads_bytes n thread [] = omega arith
threads_bytes n thread (own ∷ owns) =
    omega (
      arith,
      sum_by-cons (λ (o : Own). in_own o (as_mapped_byte n)) own owns,
      both_bytes n (thread_finds thread own) (threads_finds (thread + 1) owns),
      thread_bytes n thread own,
      threads_bytes n (thread + 1) owns,
    )

trays_bytes : (n : ℕ) (trays : List (ℕ × Block)) → sum_by (view_byte n) (mapped_finds (map tray_find trays)) ≡ in_trays trays (as_mapped_byte n)
trays_bytes n [] = refl
trays_bytes n (t ∷ trays) =
    omega (arith, sum_by-cons (λ (x : ℕ × Block). as_mapped_byte n x.1) t trays, block_more n (places.Tray t.0) t.1 (map tray_find trays), trays_bytes n trays)

scene_bytes : (n : ℕ) (s : Scene) → sum_by (view_byte n) (mapped_finds (finds_of s.owns s.trays)) ≤ in_scene s (as_mapped_byte n)
unfolding finds_of
scene_bytes n s =
    let threads : List Find = threads_finds 0 s.owns in
    let trays : List Find = map tray_find s.trays in
    let all : sum_by (view_byte n) (mapped_finds (threads ++ trays)) ≤ in_scene s (as_mapped_byte n) = omega (arith, both_bytes n threads trays, threads_bytes n 0 s.owns, trays_bytes n s.trays) in
    all

-- ---- what is among them

-- a block at a place is, where it is mapped
abbrev Has : List Find → Place → Block → Type 0
Has fs p b = b.arena ≡ None → IsIn (block_find p b).tile (mapped_finds fs)

has_later : (f : Find) (fs : List Find) (p : Place) (b : Block) → Has fs p b → Has (f ∷ fs) p b
has_later f fs p b has none =
    let v : TileView = (block_find p b).tile in
    let rest : List Find = filter (λ (x : Find). x.mapped) fs in
    elim f.mapped as (λ c. IsIn v (map (λ (x : Find). x.tile) (cond c (f ∷ rest) rest))) [ true ↦ inr (has none) | false ↦ has none ]

has_first : (fs : List Find) (p : Place) (b : Block) → Has (block_find p b ∷ fs) p b
has_first fs p b none =
    let f : Find = block_find p b in
    let rest : List Find = filter (λ (x : Find). x.mapped) fs in
    let mapped : not (is_some b.arena) ≡ true = ap (λ (o : Option ℕ). not (is_some o)) none in
    let here : IsIn f.tile (map (λ (x : Find). x.tile) (cond true (f ∷ rest) rest)) = inl refl in
    subst (λ (c : Bool). IsIn f.tile (map (λ (x : Find). x.tile) (cond c (f ∷ rest) rest))) (sym mapped) here

in_front : (v : TileView) (ts us : List TileView) → IsIn v ts → IsIn v (ts ++ us)
in_front v [] us is = absurd is
in_front v (t ∷ ts) us is = elim is [ inl same ↦ inl same | inr later ↦ inr (in_front v ts us later) ]

in_back : (v : TileView) (ts us : List TileView) → IsIn v us → IsIn v (ts ++ us)
in_back v [] us is = is
in_back v (t ∷ ts) us is = inr (in_back v ts us is)

has_front : (some more : List Find) (p : Place) (b : Block) → Has some p b → Has (some ++ more) p b
has_front some more p b has none =
    subst (IsIn (block_find p b).tile) (sym (mapped_both some more)) (in_front (block_find p b).tile (mapped_finds some) (mapped_finds more) (has none))

has_back : (some more : List Find) (p : Place) (b : Block) → Has more p b → Has (some ++ more) p b
has_back some more p b has none =
    subst (IsIn (block_find p b).tile) (sym (mapped_both some more)) (in_back (block_find p b).tile (mapped_finds some) (mapped_finds more) (has none))

row_in : (thread first name : ℕ) (os : List (Option Block)) (b : Block) → get_or os name None ≡ Some b → Has (named_from thread first os) (places.Live thread (first + name)) b
row_in thread first name [] b e = absurd cc
row_in thread first zero (None ∷ os) b e = absurd cc
row_in thread first zero (Some c ∷ os) b e =
    let same : b ≡ c = cc in
    let at_first : first ≡ first + 0 = omega arith in
    let fs : List Find = named_from thread (first + 1) os in
    subst (λ (k : ℕ). Has (block_find (places.Live thread first) c ∷ fs) (places.Live thread k) b) at_first
    (subst (λ (x : Block). Has (block_find (places.Live thread first) c ∷ fs) (places.Live thread first) x) (sym same) (has_first fs (places.Live thread first) c))
row_in thread first (suc name) (None ∷ os) b e =
    let k : first + 1 + name ≡ first + suc name = omega arith in
    subst (λ (k : ℕ). Has (named_from thread (first + 1) os) (places.Live thread k) b) k (row_in thread (first + 1) name os b e)
row_in thread first (suc name) (Some c ∷ os) b e =
    let k : first + 1 + name ≡ first + suc name = omega arith in
    let fs : List Find = named_from thread (first + 1) os in
    has_later (block_find (places.Live thread first) c) fs (places.Live thread (first + suc name)) b
    (subst (λ (k : ℕ). Has fs (places.Live thread k) b) k (row_in thread (first + 1) name os b e))

-- what is found there under a name is in the list
far_in : (thread name : ℕ) (es : List (ℕ × Option Block)) (b : Block) → lookup (is_name name) es ≡ Some (Some b) → Has (far_finds thread es) (places.Live thread name) b
far_in thread name [] b e = absurd cc
far_in thread name (x ∷ es) b e = elim (cases_Bool (is_name name x.0)) [
  | inl hit ↦
      let found : Some x.1 ≡ Some (Some b) = sym (ap (λ v. cond v (Some x.1) (lookup (is_name name) es)) hit) ∙ e in
      let held : x.1 ≡ Some b = cc in
      let here : Has (held_find thread name x.1) (places.Live thread name) b =
      subst (λ (o : Option Block). Has (held_find thread name o) (places.Live thread name) b) (sym held) (has_first [] (places.Live thread name) b) in
      has_front (held_find thread x.0 x.1) (far_finds thread es) (places.Live thread name) b
      (subst (λ (k : ℕ). Has (held_find thread k x.1) (places.Live thread name) b) (name_is name x.0 hit) here)
  | inr miss ↦
      let later : lookup (is_name name) es ≡ Some (Some b) = sym (ap (λ v. cond v (Some x.1) (lookup (is_name name) es)) miss) ∙ e in
      has_back (held_find thread x.0 x.1) (far_finds thread es) (places.Live thread name) b (far_in thread name es b later)
]

named_in : (thread name : ℕ) (names : NameTable) (b : Block) → block_at names name ≡ Some b → Has (named_finds thread names) (places.Live thread name) b
named_in thread name names b e =
    let row : List Find = named_from thread 0 names.near in
    let far : List Find = far_finds thread names.far in
    let k : 0 + name ≡ name = omega arith in
    elim (either_part names name b e) [
      | inl at ↦ has_front row far (places.Live thread name) b (subst (λ (k : ℕ). Has row (places.Live thread k) b) k (row_in thread 0 name names.near b at))
      | inr at ↦ has_back row far (places.Live thread name) b (far_in thread name names.far b at)
    ]

structure_in : (thread : ℕ) (o : Option Block) (b : Block) → o ≡ Some b → Has (structure_finds thread o) (places.Structure thread) b
structure_in thread None b e = absurd cc
structure_in thread (Some c) b e =
    let same : b ≡ c = cc in
    subst (λ (x : Block). Has (block_find (places.Structure thread) c ∷ []) (places.Structure thread) x) (sym same) (has_first [] (places.Structure thread) c)

-- among the blocks of a thread, of all threads, and of these and the trays
thread_named : (thread name : ℕ) (own : Own) (b : Block) → block_at own.names name ≡ Some b → Has (thread_finds thread own) (places.Live thread name) b
unfolding thread_finds
thread_named thread name own b e =
    let named : List Find = named_finds thread own.names in
    let cached : List Find = map (cached_find thread) (cached_tiles own.cache) in
    let structure : List Find = structure_finds thread (structure_of own.cache) in
    let first : Has named (places.Live thread name) b = named_in thread name own.names b e in
    has_front (named ++ cached) structure (places.Live thread name) b (has_front named cached (places.Live thread name) b first)

thread_structure : (thread : ℕ) (own : Own) (b : Block) → structure_of own.cache ≡ Some b → Has (thread_finds thread own) (places.Structure thread) b
unfolding thread_finds
thread_structure thread own b e =
    let named : List Find = named_finds thread own.names in
    let cached : List Find = map (cached_find thread) (cached_tiles own.cache) in
    has_back (named ++ cached) (structure_finds thread (structure_of own.cache)) (places.Structure thread) b (structure_in thread (structure_of own.cache) b e)

in_threads_of : (place : ℕ → Place) (b : Block) (own : Own) → ((thread : ℕ) → Has (thread_finds thread own) (place thread) b) → (first thread : ℕ) (owns : List Own) → slice_get owns thread ≡ Some own →
    Has (threads_finds first owns) (place (first + thread)) b
in_threads_of place b own has first thread [] e = absurd cc
in_threads_of place b own has first zero (o ∷ owns) e =
    let same : o ≡ own = cc in
    let at_first : first ≡ first + 0 = omega arith in
    let here : Has (thread_finds first o) (place first) b = subst (λ (x : Own). Has (thread_finds first x) (place first) b) (sym same) (has first) in
    let all : Has (thread_finds first o ++ threads_finds (first + 1) owns) (place first) b = has_front (thread_finds first o) (threads_finds (first + 1) owns) (place first) b here in
    subst (λ (k : ℕ). Has (thread_finds first o ++ threads_finds (first + 1) owns) (place k) b) at_first all
in_threads_of place b own has first (suc thread) (o ∷ owns) e =
    let k : first + 1 + thread ≡ first + suc thread = omega arith in
    let later : Has (threads_finds (first + 1) owns) (place (first + suc thread)) b = subst (λ (k : ℕ). Has (threads_finds (first + 1) owns) (place k) b) k (in_threads_of place b own has (first + 1) thread owns e) in
    has_back (thread_finds first o) (threads_finds (first + 1) owns) (place (first + suc thread)) b later

tray_in : (i : ℕ) (t : ℕ × Block) (trays : List (ℕ × Block)) → slice_get trays i ≡ Some t → Has (map tray_find trays) (places.Tray t.0) t.1
tray_in i t [] e = absurd cc
tray_in zero t (u ∷ trays) e =
    let same : u ≡ t = cc in
    subst (λ (x : ℕ × Block). Has (tray_find u ∷ map tray_find trays) (places.Tray x.0) x.1) same (has_first (map tray_find trays) (places.Tray u.0) u.1)
tray_in (suc i) t (u ∷ trays) e = has_later (tray_find u) (map tray_find trays) (places.Tray t.0) t.1 (tray_in i t trays e)

-- ---- so they are shown

abbrev AreApart : Scene → Type 0
AreApart s = (n : ℕ) → in_scene s (as_mapped_byte n) ≤ 1

find_shown : (s : Scene) (p : Place) (b : Block) → AreApart s → Has (finds_of s.owns s.trays) p b → ShowsMapped s b p
unfolding by_address
find_shown s p b apart has none =
    let v : TileView = (block_find p b).tile in
    let ts : List TileView = mapped_finds (finds_of s.owns s.trays) in
    let once : sum_by (view_byte v.addr) ts ≤ 1 = omega (arith, scene_bytes v.addr s, apart v.addr) in
    value_at v.addr v (fold put_tile [] ts) (all_put v [] ts (has none) once)

of_thread : (s : Scene) (place : ℕ → Place) (b : Block) (own : Own) (thread : ℕ) → ((k : ℕ) → Has (thread_finds k own) (place k) b) → slice_get s.owns thread ≡ Some own → Has (finds_of s.owns s.trays) (place thread) b
unfolding finds_of
of_thread s place b own thread has e =
    let threads : List Find = threads_finds 0 s.owns in
    let k : 0 + thread ≡ thread = omega arith in
    let here : Has threads (place thread) b = subst (λ (k : ℕ). Has threads (place k) b) k (in_threads_of place b own has 0 thread s.owns e) in
    has_front threads (map tray_find s.trays) (place thread) b here

of_tray : (s : Scene) (i : ℕ) (t : ℕ × Block) → slice_get s.trays i ≡ Some t → Has (finds_of s.owns s.trays) (places.Tray t.0) t.1
unfolding finds_of
of_tray s i t e = has_back (threads_finds 0 s.owns) (map tray_find s.trays) (places.Tray t.0) t.1 (tray_in i t s.trays e)

pub named_shown : (s : Scene) → AreApart s → (thread name : ℕ) (own : Own) (b : Block) → slice_get s.owns thread ≡ Some own → block_at own.names name ≡ Some b → ShowsMapped s b (places.Live thread name)
named_shown s apart thread name own b at held =
    find_shown s (places.Live thread name) b apart (of_thread s (λ k. places.Live k name) b own thread (λ k. thread_named k name own b held) at)

pub structure_shown : (s : Scene) → AreApart s → (thread : ℕ) (own : Own) (b : Block) → slice_get s.owns thread ≡ Some own → structure_of own.cache ≡ Some b → ShowsMapped s b (places.Structure thread)
structure_shown s apart thread own b at held =
    find_shown s (places.Structure thread) b apart (of_thread s places.Structure b own thread (λ k. thread_structure k own b held) at)

pub tray_shown : (s : Scene) → AreApart s → (i : ℕ) (t : ℕ × Block) → slice_get s.trays i ≡ Some t → ShowsMapped s t.1 (places.Tray t.0)
tray_shown s apart i t at = find_shown s (places.Tray t.0) t.1 apart (of_tray s i t at)
