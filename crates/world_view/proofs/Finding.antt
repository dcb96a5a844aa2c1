-- Each tile of an arena is shown: a used one is found among the blocks of threads and trays or in the fast bins, a free one in
-- another bin.
use Rattle.std.proofs.Common.{◌≡◌, ℕ, zero, suc, ◌+◌, ◌<◌, ◌≤◌, Bool, true, false, ◌&&◌, cond, List, [], ◌∷◌, ◌++◌, map, length, Option, Some, None, is_some, sum_by, get_or, refl, sym, ap, ◌∙◌, append_assoc, arith}
use Rattle.std.specs.Prelude.{nat_eq, slice_get}
use Rattle.std.specs.List.{range_with_len}
use Rattle.std.proofs.Math.Seq.{get_or-append_seam}
use Rattle.std.proofs.lemmas.Bool.{eq-eqb, and_from}
use Rattle.std.proofs.lemmas.List.{map-append, map-id, length-append, length-map}
use Rattle.std.proofs.lemmas.List.Sums.{sum_by-cons, sum_by-append}
use Rattle.chunk_tags.specs.BinOrder.{same_chunk, times_in, fast_chunk}
use Rattle.chunk_tags.specs.declared.block.Block.{Block}
use Rattle.chunk_tags.specs.declared.tiles.Chunk.{Chunk}
use Rattle.chunk_tags.specs.declared.tiles.Tile.{Tile}
use Rattle.chunk_tags.specs.declared.tiles.TileKind.{TileKind}
use Rattle.chunk_tags.specs.declared.tiles.TileKind.TheVariants.{Used, Free, Top, Fence}
use Rattle.chunk_tags.specs.Tiles.{is_used, is_free}
use Rattle.thread_cache.specs.Caches.{blocks_of, structure_of, block_tile}
use Rattle.fast_bins.specs.PlainBins.{FastState, FastBin, listed, chunks_from}
use Rattle.arena_rules.specs.PlainArena.{Plain, is_chunk, times_listed, times_tiled, times_used}
use Rattle.arena_rules.proofs.Counts.{weight}
use Rattle.arena_holds.specs.Places.{weight_of, as_chunk_of}
use Rattle.own_blocks.specs.declared.own.Own.{Own}
use Rattle.block_names.specs.Names.{NameTable}
use Rattle.block_names.proofs.Tables.{in_both_parts}
use Rattle.std.specs.Map.{values_of}
use Rattle.own_blocks.specs.Own.{in_names, in_own}
use Rattle.stats_text.specs.declared.views.Place.{Place}
use Rattle.stats_text.specs.declared.views.Place.TheVariants as places
use Rattle.world_view.specs.declared.finds.Find.{Find}
use Rattle.world_view.specs.Places.{named_from, held_find, far_finds, named_finds, cached_find, structure_finds, thread_finds, threads_finds, tray_find, finds_of, fast_lists, ten_lists, fast_of, bins_of, Placed, FoundAt, placed_in, binned, finds_found, found_by_address, place_in, shown_at, shown_tiles}
use Rattle.world_view.specs.Scenes.{ArenaScene, Scene, all_binned, all_found, arena_shown, shown_arena}
use Rattle.world_view.specs.Shows.{in_threads, in_trays, in_scene, times_fast, IsWholeArena, tile_span, view_span}
use Rattle.world_view.proofs.ByAddress.{IsThere, stands_at, times_found, found_there}

-- ---- blocks of threads and trays are found

fewer : (a b : Bool) → cond {A = ℕ} (a && b) 1 0 ≤ cond a 1 0
fewer true true = omega arith
fewer true false = omega arith
fewer false b = omega arith

block_found : (m : ℕ) (e : Chunk) (b : Block) (p : Place) → as_chunk_of m e b ≤ stands_at e.at (b.addr, p)
block_found m e b p =
    let none : Bool = elim b.arena [ None ↦ false | Some a ↦ nat_eq a m ] in
    omega (arith, fewer (nat_eq e.at b.addr && nat_eq e.size b.size) none, fewer (nat_eq e.at b.addr) (nat_eq e.size b.size))

row_found : (m : ℕ) (e : Chunk) (thread name : ℕ) (os : List (Option Block)) → sum_by (λ o. weight_of o (as_chunk_of m e)) os ≤ times_found e.at (finds_found (named_from thread name os))
row_found m e thread name [] = omega arith
row_found m e thread name (None ∷ os) = omega (arith, sum_by-cons (λ o. weight_of o (as_chunk_of m e)) None os, row_found m e thread (name + 1) os)
row_found m e thread name (Some b ∷ os) =
    let f : Placed = (b.addr, places.Live thread name) in
    omega (
      arith,
      sum_by-cons (λ o. weight_of o (as_chunk_of m e)) (Some b) os,
      sum_by-cons (stands_at e.at) f (finds_found (named_from thread (name + 1) os)),
      row_found m e thread (name + 1) os,
      block_found m e b (places.Live thread name),
    )

held_found : (m : ℕ) (e : Chunk) (thread name : ℕ) (o : Option Block) → weight_of o (as_chunk_of m e) ≤ times_found e.at (finds_found (held_find thread name o))
held_found m e thread name None = omega arith
held_found m e thread name (Some b) =
    let f : Placed = (b.addr, places.Live thread name) in
    omega (arith, sum_by-cons (stands_at e.at) f [], block_found m e b (places.Live thread name))

cached_found : (m : ℕ) (e : Chunk) (thread : ℕ) (bs : List Block) → sum_by (as_chunk_of m e) bs ≤ times_found e.at (finds_found (map (cached_find thread) (map block_tile bs)))
cached_found m e thread [] = omega arith
cached_found m e thread (b ∷ bs) =
    let f : Placed = (b.addr, places.Cache thread) in
    omega (
      arith,
      sum_by-cons (as_chunk_of m e) b bs,
      sum_by-cons (stands_at e.at) f (finds_found (map (cached_find thread) (map block_tile bs))),
      cached_found m e thread bs,
      block_found m e b (places.Cache thread),
    )

structure_found : (m : ℕ) (e : Chunk) (thread : ℕ) (o : Option Block) → weight_of o (as_chunk_of m e) ≤ times_found e.at (finds_found (structure_finds thread o))
structure_found m e thread None = omega arith
structure_found m e thread (Some b) =
    let f : Placed = (b.addr, places.Structure thread) in
    omega (arith, sum_by-cons (stands_at e.at) f [], block_found m e b (places.Structure thread))

found_both : (n : ℕ) (some more : List Find) → times_found n (finds_found (some ++ more)) ≡ times_found n (finds_found some) + times_found n (finds_found more)
found_both n some more =
    let f : Find → Placed = λ x. (x.tile.addr, x.tile.place) in
    ap (times_found n) (map-append f some more) ∙ sum_by-append (stands_at n) (map f some) (map f more)

far_found : (m : ℕ) (e : Chunk) (thread : ℕ) (es : List (ℕ × Option Block)) →
    sum_by (λ o. weight_of o (as_chunk_of m e)) (values_of es) ≤ times_found e.at (finds_found (far_finds thread es))
far_found m e thread [] = omega arith
far_found m e thread (x ∷ es) =
    omega (
      arith,
      sum_by-cons (λ o. weight_of o (as_chunk_of m e)) x.1 (values_of es),
      found_both e.at (held_find thread x.0 x.1) (far_finds thread es),
      held_found m e thread x.0 x.1,
      far_found m e thread es,
    )

named_found : (m : ℕ) (e : Chunk) (thread : ℕ) (names : NameTable) → in_names names (as_chunk_of m e) ≤ times_found e.at (finds_found (named_finds thread names))
named_found m e thread names =
    omega (
      arith,
      in_both_parts names (λ o. weight_of o (as_chunk_of m e)),
      found_both e.at (named_from thread 0 names.near) (far_finds thread names.far),
      row_found m e thread 0 names.near,
      far_found m e thread names.far,
    )

thread_found : (m : ℕ) (e : Chunk) (thread : ℕ) (own : Own) → in_own own (as_chunk_of m e) ≤ times_found e.at (finds_found (thread_finds thread own))
unfolding thread_finds
thread_found m e thread own =
    let named : List Find = named_finds thread own.names in
    let cached : List Find = map (cached_find thread) (map block_tile (blocks_of own.cache)) in
    let structure : List Find = structure_finds thread (structure_of own.cache) in
    let all : in_own own (as_chunk_of m e) ≤ times_found e.at (finds_found (named ++ cached ++ structure)) = omega (
      arith,
      found_both e.at (named ++ cached) structure,
      found_both e.at named cached,
      named_found m e thread own.names,
      cached_found m e thread (blocks_of own.cache),
      structure_found m e thread (structure_of own.cache),
    ) in
    all

threads_found : (m : ℕ) (e : Chunk) (thread : ℕ) (owns : List Own) → in_threads owns (as_chunk_of m e) ≤ times_found e.at (finds_found (threads_finds thread owns))
threads_found m e thread [] = omega arith
threads_found m e thread (own ∷ owns) =
    omega (
      arith,
      sum_by-cons (λ (o : Own). in_own o (as_chunk_of m e)) own owns,
      found_both e.at (thread_finds thread own) (threads_finds (thread + 1) owns),
      thread_found m e thread own,
      threads_found m e (thread + 1) owns,
    )

trays_found : (m : ℕ) (e : Chunk) (trays : List (ℕ × Block)) → in_trays trays (as_chunk_of m e) ≤ times_found e.at (finds_found (map tray_find trays))
trays_found m e [] = omega arith
trays_found m e (t ∷ trays) =
    let f : Placed = (t.1.addr, places.Tray t.0) in
    omega (
      arith,
      sum_by-cons (λ (x : ℕ × Block). as_chunk_of m e x.1) t trays,
      sum_by-cons (stands_at e.at) f (finds_found (map tray_find trays)),
      trays_found m e trays,
      block_found m e t.1 (places.Tray t.0),
    )

blocks_found : (m : ℕ) (e : Chunk) (s : Scene) → in_scene s (as_chunk_of m e) ≤ times_found e.at (finds_found (finds_of s.owns s.trays))
unfolding finds_of
blocks_found m e s =
    let threads : List Find = threads_finds 0 s.owns in
    let trays : List Find = map tray_find s.trays in
    let all : in_scene s (as_chunk_of m e) ≤ times_found e.at (finds_found (threads ++ trays)) =
    omega (arith, found_both e.at threads trays, threads_found m e 0 s.owns, trays_found m e s.trays) in
    all

-- ---- so are the chunks in bins

-- lists by number, the first number being this
abbrev numbered_from : ℕ → List (List ℕ) → List (ℕ × List ℕ)
numbered_from number [] = []
numbered_from number (ats ∷ lists) = (number, ats) ∷ numbered_from (number + 1) lists

-- those that are read one by one
read_numbered : {X : Type 0} (f : X → List ℕ) (d : X) (xs front back : List X) (number : ℕ) → length front ≡ number → xs ≡ front ++ back →
    map (λ k. (k, f (get_or xs k d))) (range_with_len number (length back)) ≡ numbered_from number (map f back)
read_numbered f d xs front [] number len is = refl
read_numbered {X} f d xs front (b ∷ back) number len is =
    let here : get_or xs number d ≡ b = ap (λ n. get_or xs n d) (sym len) ∙ (ap (λ (ys : List X). get_or ys (length front) d) is ∙ get_or-append_seam front b back d) in
    let later : map (λ k. (k, f (get_or xs k d))) (range_with_len (number + 1) (length back)) ≡ numbered_from (number + 1) (map f back) =
    read_numbered f d xs (front ++ b ∷ []) back (number + 1) (omega (arith, length-append front (b ∷ []))) (is ∙ sym (append_assoc front (b ∷ []) back)) in
    ap (λ (x : X). (number, f x) ∷ map (λ k. (k, f (get_or xs k d))) (range_with_len (number + 1) (length back))) here
    ∙ ap (λ rest. (number, f b) ∷ rest) later

fast_numbered : (s : FastState) → length s.bins ≡ 10 → fast_of s ≡ numbered_from 0 (fast_lists s)
unfolding ten_lists
fast_numbered s ten =
    ap (λ n. map (λ k. (k, get_or (fast_lists s) k [])) (range_with_len 0 n)) (sym (length-map s.bins listed ∙ ten))
    ∙ read_numbered (λ (ats : List ℕ). ats) [] (fast_lists s) [] (fast_lists s) 0 refl refl
    ∙ ap (numbered_from 0) (map-id (fast_lists s))

-- the addresses of chunks
abbrev places_of : List Chunk → List ℕ
places_of cs = map (λ c. c.at) cs

bins_numbered : (a : Plain) → length a.bins ≡ 127 → bins_of a ≡ numbered_from 0 (map places_of a.bins)
unfolding bins_of
bins_numbered a all =
    ap (λ n. map (λ k. (k, places_of (get_or a.bins k []))) (range_with_len 0 n)) (sym all)
    ∙ read_numbered places_of [] a.bins [] a.bins 0 refl refl

-- the chunks of one list, and of numbered lists
list_found : {X : Type 0} (e : Chunk) (p : Place) (chunk : X → Chunk) (xs : List X) → times_in e (map chunk xs) ≤ times_found e.at (map (λ (n : ℕ). (n, p)) (map (λ x. (chunk x).at) xs))
list_found e p chunk [] = omega arith
list_found {X} e p chunk (x ∷ xs) =
    let c : Chunk = chunk x in
    let f : Placed = (c.at, p) in
    omega (
      arith,
      sum_by-cons (λ d. cond {A = ℕ} (same_chunk e d) 1 0) c (map chunk xs),
      sum_by-cons (stands_at e.at) f (map (λ (n : ℕ). (n, p)) (map (λ x. (chunk x).at) xs)),
      list_found e p chunk xs,
      fewer (nat_eq e.at c.at) (nat_eq e.size c.size),
    )

found_lists : (n : ℕ) (place : ℕ → Place) (number : ℕ) (ats : List ℕ) (lists : List (List ℕ)) →
    times_found n (placed_in place (numbered_from number (ats ∷ lists))) ≡ times_found n (map (λ (addr : ℕ). (addr, place number)) ats) + times_found n (placed_in place (numbered_from (number + 1) lists))
found_lists n place number ats lists = sum_by-append (stands_at n) (map (λ (addr : ℕ). (addr, place number)) ats) (placed_in place (numbered_from (number + 1) lists))

bins_found : (e : Chunk) (number : ℕ) (bins : List (List Chunk)) → sum_by (times_in e) bins ≤ times_found e.at (placed_in places.Bin (numbered_from number (map places_of bins)))
bins_found e number [] = omega arith
bins_found e number (cs ∷ bins) =
    let same : map (λ (c : Chunk). c) cs ≡ cs = map-id cs in
    omega (
      arith,
      sum_by-cons (times_in e) cs bins,
      found_lists e.at places.Bin number (places_of cs) (map places_of bins),
      list_found e (places.Bin number) (λ c. c) cs,
      ap (times_in e) same,
      bins_found e (number + 1) bins,
    )

fast_found : (e : Chunk) (number : ℕ) (bins : List FastBin) → times_in e (chunks_from number bins) ≤ times_found e.at (placed_in places.Fast (numbered_from number (map listed bins)))
fast_found e number [] = omega arith
fast_found e number (b ∷ bins) =
    omega (
      arith,
      sum_by-append (λ d. cond {A = ℕ} (same_chunk e d) 1 0) (map (fast_chunk number) (listed b)) (chunks_from (number + 1) bins),
      found_lists e.at places.Fast number (listed b) (map listed bins),
      list_found e (places.Fast number) (fast_chunk number) (listed b),
      ap (λ ats. times_found e.at (map (λ (addr : ℕ). (addr, places.Fast number)) ats)) (map-id (listed b)),
      fast_found e (number + 1) bins,
    )

-- the chunks in the bins of an arena
binned_here : ℕ → ArenaScene → ℕ
binned_here n a = times_found n (binned (fast_of a.fast) (bins_of a.arena))

arena_found : (e : Chunk) (a : ArenaScene) → length a.fast.bins ≡ 10 → length a.arena.bins ≡ 127 → times_fast a.fast e + times_listed e a.arena ≤ binned_here e.at a
unfolding binned binned_here
arena_found e a ten all =
    let fast : List Placed = placed_in places.Fast (fast_of a.fast) in
    let bins : List Placed = placed_in places.Bin (bins_of a.arena) in
    let both : times_fast a.fast e + times_listed e a.arena ≤ times_found e.at (fast ++ bins) = omega (
      arith,
      sum_by-append (stands_at e.at) fast bins,
      ap (λ lists. times_found e.at (placed_in places.Fast lists)) (fast_numbered a.fast ten),
      ap (λ lists. times_found e.at (placed_in places.Bin lists)) (bins_numbered a.arena all),
      fast_found e 0 a.fast.bins,
      bins_found e 0 a.arena.bins,
    ) in
    both

arena_among : (n : ℕ) (arenas : List ArenaScene) (i : ℕ) (a : ArenaScene) → slice_get arenas i ≡ Some a → binned_here n a ≤ times_found n (all_binned arenas)
unfolding binned_here
arena_among n [] i a is = absurd cc
arena_among n (b ∷ arenas) zero a is =
    let same : b ≡ a = cc in
    omega (
      arith,
      ap (λ (x : ArenaScene). times_found n (binned (fast_of x.fast) (bins_of x.arena))) same,
      sum_by-append (stands_at n) (binned (fast_of b.fast) (bins_of b.arena)) (all_binned arenas),
    )
arena_among n (b ∷ arenas) (suc i) a is =
    omega (arith, arena_among n arenas i a is, sum_by-append (stands_at n) (binned (fast_of b.fast) (bins_of b.arena)) (all_binned arenas))

-- ---- each tile is shown

place_there : (found : FoundAt) (t : Tile) → (is_used t ≡ true → IsThere t.addr found) → (is_free t ≡ true → IsThere t.addr found) → is_some (place_in found t) ≡ true
place_there found t =
    elim t.kind as (λ (k : TileKind).
    (elim k [ Used ↦ true | Free ↦ false | Top ↦ false | Fence ↦ false ] ≡ true → IsThere t.addr found) →
    (elim k [ Used ↦ false | Free ↦ true | Top ↦ false | Fence ↦ false ] ≡ true → IsThere t.addr found) →
    is_some (elim k [ Used ↦ found t.addr | Free ↦ found t.addr | Top ↦ Some places.Top | Fence ↦ Some places.Fence ]) ≡ true) [
      | Used ↦ λ used free. used refl
      | Free ↦ λ used free. free refl
      | Top ↦ λ used free. refl
      | Fence ↦ λ used free. refl
    ]

-- the tiles of a kind that are a chunk, among these
abbrev Among : (List Tile) → Plain → Type 0
Among ts a = (kind : Tile → Bool) (c : Chunk) → sum_by (weight kind c) ts ≤ times_tiled kind c a

tile_counts : (kind : Tile → Bool) (t : Tile) (ts : List Tile) (a : Plain) → Among (t ∷ ts) a → kind t ≡ true → 0 < times_tiled kind (record { at = t.addr; size = t.size }) a
tile_counts kind t ts a among is =
    let c : Chunk = record { at = t.addr; size = t.size } in
    let one : weight kind c t ≡ 1 = ap (λ (b : Bool). cond {A = ℕ} b 1 0) (and_from (kind t) (is_chunk c t) is (and_from (nat_eq t.addr t.addr) (nat_eq t.size t.size) (eq-eqb t.addr t.addr refl) (eq-eqb t.size t.size refl))) in
    omega (arith, among kind c, sum_by-cons (weight kind c) t ts, one)

all_shown : (found : FoundAt) (a : Plain) (ts : List Tile) → ((c : Chunk) → 0 < times_used c a → IsThere c.at found) → ((c : Chunk) → 0 < times_tiled is_free c a → IsThere c.at found) → Among ts a →
    map view_span (shown_tiles found ts) ≡ map tile_span ts
all_shown found a [] used free among = refl
all_shown found a (t ∷ ts) used free among =
    let c : Chunk = record { at = t.addr; size = t.size } in
    let there : is_some (place_in found t) ≡ true = place_there found t (λ is. used c (tile_counts is_used t ts a among is)) (λ is. free c (tile_counts is_free t ts a among is)) in
    let later : map view_span (shown_tiles found ts) ≡ map tile_span ts = all_shown found a ts used free (λ kind d. omega (arith, among kind d, sum_by-cons (weight kind d) t ts)) in
    let step : (o : Option Place) → is_some o ≡ true → map view_span (shown_at t o ++ shown_tiles found ts) ≡ tile_span t ∷ map tile_span ts = elim [
      | None ↦ λ none. absurd cc
      | Some place ↦ λ some. ap (λ rest. tile_span t ∷ rest) later
    ] in
    step (place_in found t) there

-- what stands at a chunk's address in a scene
chunk_found : (s : Scene) (i : ℕ) (a : ArenaScene) (e : Chunk) → slice_get s.arenas i ≡ Some a → IsWholeArena s a →
    times_used e a.arena + times_tiled is_free e a.arena ≤ times_found e.at (finds_found (finds_of s.owns s.trays) ++ all_binned s.arenas)
chunk_found s i a e is w =
    omega (
      arith,
      sum_by-append (stands_at e.at) (finds_found (finds_of s.owns s.trays)) (all_binned s.arenas),
      blocks_found a.arena.number e s,
      arena_among e.at s.arenas i a is,
      arena_found e a w.ten w.sound.listed.width,
      w.each e,
      w.sound.listed.once e,
    )

pub tiles_shown : (s : Scene) (i : ℕ) (a : ArenaScene) → slice_get s.arenas i ≡ Some a → IsWholeArena s a → map view_span (shown_arena s a).tiles ≡ map tile_span a.arena.tiles
unfolding all_found arena_shown
tiles_shown s i a is w =
    let found : List Placed = finds_found (finds_of s.owns s.trays) ++ all_binned s.arenas in
    all_shown (found_by_address found) a.arena a.arena.tiles
    (λ c some. found_there c.at found (omega (arith, chunk_found s i a c is w, some)))
    (λ c some. found_there c.at found (omega (arith, chunk_found s i a c is w, some)))
    (λ kind c. omega arith)
