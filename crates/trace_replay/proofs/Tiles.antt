-- The world of a process between two calls is tiled.
use Rattle.std.proofs.Common.{◌≡◌, ℕ, zero, suc, ◌+◌, ◌%◌, ◌<◌, ◌≤◌, false, List, [], ◌∷◌, map, length, Option, Some, None, sum_by, inl, inr, refl, sym, ap, ◌∙◌, subst, arith}
use Rattle.std.specs.Prelude.{IfSome, slice_get}
use Rattle.std.proofs.lemmas.Bool.{eq-eqb, ne_eqb, cases_lt}
use Rattle.std.proofs.lemmas.List.{length-map}
use Rattle.std.proofs.lemmas.List.Sums.{sum_by-cons}
use Rattle.std.proofs.lemmas.Option.{get_or_from_slice_get, slice_get_within}
use Rattle.chunk_tags.specs.Pages.{user_address}
use Rattle.chunk_tags.specs.Tiles.{is_used}
use Rattle.chunk_tags.specs.declared.block.Block.{Block}
use Rattle.chunk_tags.specs.declared.tiles.Chunk.{Chunk}
use Rattle.chunk_tags.specs.declared.tunables.Tunables.{Tunables}
use Rattle.address_space.specs.Spaces.{heaps_start, map_length, map_start, map_limit}
use Rattle.arena_rules.specs.PlainArena.{is_main}
use Rattle.arena_rules.specs.MainPlaces.{times_covered}
use Rattle.arena_rules.specs.HeapPlaces.{IsHeapPlaced}
use Rattle.arena_rules.proofs.Counts.{at_most_once}
use Rattle.arena_rules.proofs.Own.{own_tile}
use Rattle.fast_bins.specs.PlainBins.{RoomyBin}
use Rattle.malloc_calls.specs.declared.thread.Thread.{Thread}
use Rattle.block_names.specs.Names.{NameTable, block_at}
use Rattle.block_names.proofs.Tables.{held_weighs}
use Rattle.own_blocks.specs.Own.{in_names, in_own}
use Rattle.malloc_calls.specs.Threads.{own_of, names_of, space_of}
use Rattle.block_names.specs.Blocks.{IsHeld}
use Rattle.arena_holds.specs.Places.{weight_of, as_chunk_of, as_mapped, as_mapped_bytes, as_mapped_byte, given_byte}
use Rattle.serial_places.specs.LawsOfPlaces.{chunk_in, own_chunk}
use Rattle.serial_places.specs.SerialWays.{SerialState, KeptSlot, IsSerial, IsKept, slot_in, those_in, seen_slot, seen_slots, stock_in, used_in}
use Rattle.serial_places.specs.Trays.{tray_at, in_tray, in_trays, full_trays, IsHeldTray}
use Rattle.serial_places.specs.declared.tray.Tray.{Tray}
use Rattle.serial_places.specs.declared.tray.Tray.TheVariants.{Empty, Full, Taken}
use Rattle.world_view.specs.Scenes.{ArenaScene, Scene}
use Rattle.world_view.specs.Shows as shows
use Rattle.world_view.specs.Shows.{IsWholeArena, IsWholeScene, ShowsAll, in_scene, times_tiled_in}
use Rattle.trace_replay.specs.Processes.{thread_world, world_with, in_threads, times_given_to, AreBetweenCalls}
use Rattle.trace_replay.specs.Tiling.{IsTiled}
use Rattle.trace_replay.specs.Views.{arena_scene, scene_of}
use Rattle.trace_replay.specs.World.{ThreadWorld}
use Rattle.trace_replay.proofs.Sums.{part_of_sum}
use Rattle.trace_replay.proofs.Windows.{IsInRange, IsInRanges, in_ranges, behind_all, covers_range, main_end, main_range, heaps_from, heaps_rise, heaps_range}

-- what an option has
at_some : {A : Type 0} (P : A → Type 0) (o : Option A) (x : A) → o ≡ Some x → IfSome o P → P x
at_some P o x e h = subst (λ v. IfSome v P) e h

-- what the places tell by themselves
pub record Told (st : SerialState) : Type 0 where
  pub kept : IsSerial st
  pub ten : (n : ℕ) → IfSome (slot_in st.slots n) (λ s. length s.bins.bins ≡ 10)
  pub heaps : (n : ℕ) → IfSome (slot_in st.slots n) (λ s. is_main s.kept.arena ≡ false → (closed : List ℕ) × IsHeapPlaced s.kept.arena closed)

-- ---- the blocks of a scene

owns_weigh : {K : Type 0} (threads : List (Thread K)) (weigh : Block → ℕ) → shows.in_threads (map (λ (th : ThreadWorld K). th.own) (map thread_world threads)) weigh ≡ in_threads threads weigh
owns_weigh [] weigh = refl
owns_weigh {K = K} (th ∷ ths) weigh =
    omega (
      arith,
      sum_by-cons (λ own. in_own own weigh) (own_of th) (map (λ (th : ThreadWorld K). th.own) (map thread_world ths)),
      sum_by-cons (λ (x : Thread K). in_own (own_of x) weigh) th ths,
      owns_weigh ths weigh,
    )

full_weigh : (n : ℕ) (ts : List Tray) (weigh : Block → ℕ) → shows.in_trays (full_trays n ts) weigh ≡ in_trays ts weigh
full_weigh n [] weigh = refl
full_weigh n (Empty ∷ ts) weigh = omega (arith, sum_by-cons (λ t. in_tray t weigh) Empty ts, full_weigh (n + 1) ts weigh)
full_weigh n (Full c ∷ ts) weigh =
    omega (arith, sum_by-cons (λ t. in_tray t weigh) (Full c) ts, sum_by-cons (λ (t : ℕ × Block). weigh t.1) (n, c) (full_trays (n + 1) ts), full_weigh (n + 1) ts weigh)
full_weigh n (Taken ∷ ts) weigh = omega (arith, sum_by-cons (λ t. in_tray t weigh) Taken ts, full_weigh (n + 1) ts weigh)

abbrev scene_at : {K : Type 0} → List (Thread K) → SerialState → Scene
scene_at threads st = scene_of [] (world_with threads st)

scene_weighs : {K : Type 0} (threads : List (Thread K)) (st : SerialState) (weigh : Block → ℕ) → in_scene (scene_at threads st) weigh ≡ in_trays st.trays weigh + in_threads threads weigh
scene_weighs threads st weigh = omega (arith, owns_weigh threads weigh, full_weigh 0 st.trays weigh)

-- ---- its arenas

-- an arena of a scene stands in a slot
record FromSlot (slots : List (Option KeptSlot)) (a : ArenaScene) : Type 0 where
  number : ℕ
  slot : KeptSlot
  at : slot_in slots number ≡ Some slot
  is : a ≡ arena_scene (seen_slot slot)

from_slot : (slots : List (Option KeptSlot)) (i : ℕ) (a : ArenaScene) → slice_get (map arena_scene (those_in (seen_slots slots))) i ≡ Some a → FromSlot slots a
from_slot [] i a e = absurd cc
from_slot (None ∷ os) i a e = let f = from_slot os i a e in record { number = suc f.number; slot = f.slot; at = f.at; is = f.is }
from_slot (Some s ∷ os) zero a e = record { number = 0; slot = s; at = refl; is = cc }
from_slot (Some s ∷ os) (suc i) a e = let f = from_slot os i a e in record { number = suc f.number; slot = f.slot; at = f.at; is = f.is }

kept_at : (st : SerialState) (n : ℕ) (s : KeptSlot) → IsSerial st → slot_in st.slots n ≡ Some s → IsKept st.tunables n s.kept
kept_at st n s serial e = (at_some _ (slot_in st.slots n) s e (serial.kept n)).kept

whole_arena : {K : Type 0} (t : Tunables) (threads : List (Thread K)) (st : SerialState) (n : ℕ) (s : KeptSlot) → AreBetweenCalls t threads st → Told st → slot_in st.slots n ≡ Some s →
    IsWholeArena (scene_at threads st) (arena_scene (seen_slot s))
whole_arena t threads st n s settled told e =
    let k : IsKept st.tunables n s.kept = kept_at st n s told.kept e in
    record {
      sound = k.sound;
      main = k.placed;
      heaps = at_some (λ (x : KeptSlot). is_main x.kept.arena ≡ false → (closed : List ℕ) × IsHeapPlaced x.kept.arena closed) (slot_in st.slots n) s e (told.heaps n);
      ten = length-map s.bins.bins (λ (b : RoomyBin). b.bin) ∙ at_some (λ (x : KeptSlot). length x.bins.bins ≡ 10) (slot_in st.slots n) s e (told.ten n);
      once = λ c. at_most_once is_used c s.kept.arena.tiles k.sound.row;
      each = λ c. omega (
        arith,
        scene_weighs threads st (as_chunk_of s.kept.arena.number c),
        ap (λ m. in_trays st.trays (as_chunk_of m c) + in_threads threads (as_chunk_of m c)) k.number,
        settled.exact.chunks n c,
        ap (λ (o : Option KeptSlot). stock_in o c) e,
        ap (λ (o : Option KeptSlot). used_in o c) e,
      );
    }

-- ---- no byte is in two tiles or mapped chunks

-- how many tiles of what stands in a slot have a byte
tiled_in : ℕ → Option KeptSlot → ℕ
tiled_in n None = 0
tiled_in n (Some s) = times_covered n s.kept.arena

tiled_all : (n : ℕ) (slots : List (Option KeptSlot)) → sum_by (λ (a : ArenaScene). times_covered n a.arena) (map arena_scene (those_in (seen_slots slots))) ≡ sum_by (tiled_in n) slots
unfolding tiled_in
tiled_all n [] = refl
tiled_all n (None ∷ os) = omega (arith, sum_by-cons (tiled_in n) None os, tiled_all n os)
tiled_all n (Some s ∷ os) =
    omega (
      arith,
      sum_by-cons (tiled_in n) (Some s) os,
      sum_by-cons (λ (a : ArenaScene). times_covered n a.arena) (arena_scene (seen_slot s)) (map arena_scene (those_in (seen_slots os))),
      tiled_all n os,
    )

-- main is in its windows
in_main : (t : Tunables) (n : ℕ) (o : Option KeptSlot) → IfSome o (λ s. IsKept t 0 s.kept) → IsInRange n 0 main_end (tiled_in n o)
unfolding tiled_in
in_main t n None h = record { most = omega arith; before = λ lt. refl; behind = λ ge. refl }
in_main t n (Some s) k = main_range s.kept.arena n k.sound (k.placed (eq-eqb s.kept.arena.number 0 k.number))

-- another arena is in those of its heaps
in_heaps : (t : Tunables) (n i : ℕ) (o : Option KeptSlot) → IfSome o (λ s. IsKept t (suc i) s.kept) →
    IfSome o (λ s. is_main s.kept.arena ≡ false → (closed : List ℕ) × IsHeapPlaced s.kept.arena closed) → IsInRange n (heaps_from t.heaps t.heap_max i) (heaps_from t.heaps t.heap_max (suc i)) (tiled_in n o)
unfolding tiled_in
in_heaps t n i None k heaps = record { most = omega arith; before = λ lt. refl; behind = λ ge. refl }
in_heaps t n i (Some s) k heaps =
    let other : is_main s.kept.arena ≡ false = ne_eqb s.kept.arena.number 0 (λ z. omega (arith, z, k.number)) in
    let placed = heaps other in
    let windows = k.heaps other in
    heaps_range s.kept.arena placed.0 n i t.heaps t.heap_max k.sound placed.1 (omega (arith, k.number)) (ap (λ w. w.heaps) windows) (ap (λ w. w.heap_max) windows)

-- how many tiles of all but main have it
in_others : (t : Tunables) (n : ℕ) (os : List (Option KeptSlot)) → ((i : ℕ) → IfSome (slot_in os i) (λ s. IsKept t (suc i) s.kept)) →
    ((i : ℕ) → IfSome (slot_in os i) (λ s. is_main s.kept.arena ≡ false → (closed : List ℕ) × IsHeapPlaced s.kept.arena closed)) → IsInRanges n heaps_start (sum_by (tiled_in n) os)
in_others t n os kept heaps =
    let all : IsInRanges n (heaps_from t.heaps t.heap_max 0) (sum_by (tiled_in n) os) = in_ranges (tiled_in n) n (heaps_from t.heaps t.heap_max) os (heaps_rise t.heaps t.heap_max)
    (λ i o at.
    let is : slot_in os i ≡ o = get_or_from_slice_get os i o None at in
    in_heaps t n i o (subst (λ (x : Option KeptSlot). IfSome x (λ s. IsKept t (suc i) s.kept)) is (kept i))
    (subst (λ (x : Option KeptSlot). IfSome x (λ s. is_main s.kept.arena ≡ false → (closed : List ℕ) × IsHeapPlaced s.kept.arena closed)) is (heaps i))) in
    record { most = all.most; before = λ lt. all.before (omega (arith, lt)) }

-- the windows for mappings of all threads
record IsGiven (n weight : ℕ) : Type 0 where
  most : weight ≤ 1
  before : n < map_start 0 → weight ≡ 0
  behind : map_limit ≤ n → weight ≡ 0

all_given : {K : Type 0} (t : Tunables) (threads : List (Thread K)) (st : SerialState) (n : ℕ) → AreBetweenCalls t threads st → IsGiven n (times_given_to n threads)
all_given {K = K} t threads st n s =
    let each : (i : ℕ) (th : Thread K) → slice_get threads i ≡ Some th → IsInRange n (map_start i) (map_start (suc i)) (given_byte n (space_of th)) = λ i th at.
    let r = s.ready i th at in
    let own : map_start (space_of th).thread ≡ map_start i = ap map_start r.space in
    let next : map_start (suc i) ≡ map_start i + map_length = omega arith in
    subst (λ from. IsInRange n from (map_start (suc i)) (given_byte n (space_of th))) own
    (covers_range n (map_start (space_of th).thread) (space_of th).mapped (map_start (suc i)) (omega (arith, own, next, r.inside))) in
    let all : IsInRanges n (map_start 0) (times_given_to n threads) = in_ranges (λ (th : Thread K). given_byte n (space_of th)) n map_start threads (λ i. omega arith) each in
    record {
      most = all.most;
      before = all.before;
      behind = λ ge. behind_all (λ (th : Thread K). given_byte n (space_of th)) threads (λ i th at.
          let in_all : i < length threads = slice_get_within threads i th at in
          (each i th at).behind (omega (arith, ge, in_all, s.count)));
    }

-- three such numbers are together at most 1
apart_sum : (n main others mapped given : ℕ) → IsInRange n 0 main_end main → IsInRanges n heaps_start others → IsGiven n given → mapped ≤ given → main + others + mapped ≤ 1
apart_sum n main others mapped given a b c le =
    elim (cases_lt n (map_start 0)) [
      | inl low ↦ omega (arith, a.most, b.before (omega (arith, low)), c.before low, le)
      | inr ge ↦ elim (cases_lt n map_limit) [
        | inl middle ↦ omega (arith, a.behind (omega (arith, ge)), b.before (omega (arith, middle)), c.most, le)
        | inr high ↦ omega (arith, a.behind (omega (arith, ge)), b.most, c.behind high, le)
      ]
    ]

slots_apart : (t : Tunables) (n mapped given : ℕ) (slots : List (Option KeptSlot)) → length slots ≡ 64 → ((i : ℕ) → IfSome (slot_in slots i) (λ s. IsKept t i s.kept)) →
    ((i : ℕ) → IfSome (slot_in slots i) (λ s. is_main s.kept.arena ≡ false → (closed : List ℕ) × IsHeapPlaced s.kept.arena closed)) → IsGiven n given → mapped ≤ given →
    sum_by (tiled_in n) slots + mapped ≤ 1
slots_apart t n mapped given [] count kept heaps c le = absurd cc
slots_apart t n mapped given (o ∷ os) count kept heaps c le =
    omega (
      arith,
      sum_by-cons (tiled_in n) o os,
      apart_sum n (tiled_in n o) (sum_by (tiled_in n) os) mapped given (in_main t n o (kept 0)) (in_others t n os (λ i. kept (suc i)) (λ i. heaps (suc i))) c le,
    )

keeps_only : (st : SerialState) (n : ℕ) (o : Option KeptSlot) → slot_in st.slots n ≡ o → IsSerial st → IfSome o (λ s. IsKept st.tunables n s.kept)
keeps_only st n None e s = tt
keeps_only st n (Some k) e s = kept_at st n k s e

-- the scene is whole
pub whole_scene : {K : Type 0} (t : Tunables) (threads : List (Thread K)) (st : SerialState) → AreBetweenCalls t threads st → Told st → IsWholeScene (scene_at threads st)
whole_scene {K = K} t threads st s told = record {
  arenas = λ i a e.
      let f : FromSlot st.slots a = from_slot st.slots i a e in
      subst (IsWholeArena (scene_at threads st)) (sym f.is) (whole_arena t threads st f.number f.slot s told f.at);
  apart = λ n. omega (
    arith,
    tiled_all n st.slots,
    scene_weighs threads st (as_mapped_byte n),
    slots_apart st.tunables n (in_trays st.trays (as_mapped_byte n) + in_threads threads (as_mapped_byte n)) (times_given_to n threads) st.slots told.kept.slots
        (λ i. keeps_only st i (slot_in st.slots i) refl told.kept) told.heaps (all_given t threads st n s) (s.apart n),
  );
}

-- ---- where a user's addresses lie

-- the weight of a block that has a name
named_weighs : (name : ℕ) (names : NameTable) (b : Block) (weigh : Block → ℕ) → block_at names name ≡ Some b → weigh b ≤ in_names names weigh
named_weighs name names b weigh e = omega (arith, held_weighs name names b (λ o. weight_of o weigh) e)

-- of one in a tray
posted_weighs : (tray : ℕ) (ts : List Tray) (b : Block) (weigh : Block → ℕ) → tray_at ts tray ≡ Full b → weigh b ≤ in_trays ts weigh
posted_weighs tray [] b weigh e = let no : Empty ≡ Full b = e in absurd cc
posted_weighs zero (t ∷ ts) b weigh e = omega (arith, sum_by-cons (λ t. in_tray t weigh) t ts, ap (λ t. in_tray t weigh) e)
posted_weighs (suc tray) (t ∷ ts) b weigh e = omega (arith, sum_by-cons (λ t. in_tray t weigh) t ts, posted_weighs tray ts b weigh e)

used_place : (n : ℕ) (o : Option KeptSlot) (c : Chunk) (t : Tunables) → IfSome o (λ s. IsKept t n s.kept) → 0 < used_in o c → c.at % 16 ≡ 0
used_place n None c t k some = absurd (omega (arith, some))
used_place n (Some s) c t k some = (own_tile s.kept.arena c k.sound some).place

block_aligned : {K : Type 0} (t : Tunables) (threads : List (Thread K)) (st : SerialState) (b : Block) → AreBetweenCalls t threads st → IsSerial st → IsHeld b →
    ((weigh : Block → ℕ) → weigh b ≤ in_trays st.trays weigh + in_threads threads weigh) → user_address b.addr % 16 ≡ 0
block_aligned t threads st b s serial held weighs =
    let c : Chunk = chunk_in b in
    let cases : (o : Option ℕ) → b.arena ≡ o → b.addr % 16 ≡ 0 = elim [
      | None ↦ λ arena. (held.mapped arena).place
      | Some n ↦ λ arena.
          used_place n (slot_in st.slots n) c st.tunables (keeps_only st n (slot_in st.slots n) refl serial)
          (omega (arith, s.exact.chunks n c, weighs (as_chunk_of n c), own_chunk b n arena))
    ] in
    let whole : b.addr % 16 ≡ 0 = cases b.arena refl in
    omega (arith, whole)

-- the thread of a thread's world
record FromThread {K : Type 0} (threads : List (Thread K)) (i : ℕ) (w : ThreadWorld K) : Type 0 where
  thread : Thread K
  at : slice_get threads i ≡ Some thread
  is : thread_world thread ≡ w

from_thread : {K : Type 0} (threads : List (Thread K)) (i : ℕ) (w : ThreadWorld K) → slice_get (map thread_world threads) i ≡ Some w → FromThread threads i w
from_thread [] i w e = absurd cc
from_thread (th ∷ ths) zero w e = record { thread = th; at = refl; is = cc }
from_thread (th ∷ ths) (suc i) w e = let f = from_thread ths i w e in record { thread = f.thread; at = f.at; is = f.is }

named_aligned : {K : Type 0} (t : Tunables) (threads : List (Thread K)) (st : SerialState) (i name : ℕ) (th : Thread K) (b : Block) → AreBetweenCalls t threads st → IsSerial st → slice_get threads i ≡ Some th →
    block_at (names_of th) name ≡ Some b → user_address b.addr % 16 ≡ 0
named_aligned {K = K} t threads st i name th b s serial at e =
    let held : IsHeld b = at_some IsHeld (block_at (names_of th) name) b e ((s.ready i th at).held.held name) in
    block_aligned t threads st b s serial held
    (λ weigh. omega (arith, part_of_sum (λ (x : Thread K). in_own (own_of x) weigh) threads i th at, named_weighs name (names_of th) b weigh e))

posted_aligned : {K : Type 0} (t : Tunables) (threads : List (Thread K)) (st : SerialState) (tray : ℕ) (b : Block) → AreBetweenCalls t threads st → IsSerial st → tray_at st.trays tray ≡ Full b →
    user_address b.addr % 16 ≡ 0
posted_aligned t threads st tray b s serial e =
    block_aligned t threads st b s serial (subst IsHeldTray e (serial.held tray)) (λ weigh. omega (arith, posted_weighs tray st.trays b weigh e))

-- ---- all of it

given_same : {K : Type 0} (n : ℕ) (threads : List (Thread K)) → sum_by (λ (th : ThreadWorld K). given_byte n th.space) (map thread_world threads) ≡ times_given_to n threads
given_same n [] = refl
given_same {K = K} n (th ∷ ths) =
    omega (
      arith,
      sum_by-cons (λ (x : ThreadWorld K). given_byte n x.space) (thread_world th) (map thread_world ths),
      sum_by-cons (λ (x : Thread K). given_byte n (space_of x)) th ths,
      given_same n ths,
    )

pub tiled_between : {K : Type 0} (t : Tunables) (threads : List (Thread K)) (st : SerialState) → ((s : Scene) → IsWholeScene s → ShowsAll s) → AreBetweenCalls t threads st → Told st → IsTiled (world_with threads st)
tiled_between {K = K} t threads st shown s told =
    let whole : IsWholeScene (scene_at threads st) = whole_scene t threads st s told in
    record {
      whole = whole;
      shown = shown (scene_at threads st) whole;
      mapped = scene_weighs threads st as_mapped ∙ s.exact.count;
      bytes = scene_weighs threads st as_mapped_bytes ∙ s.exact.bytes;
      window = λ n. omega (arith, scene_weighs threads st (as_mapped_byte n), s.apart n, given_same n threads);
      own_window = λ i w e.
          let f : FromThread threads i w = from_thread threads i w e in
          ap (λ (x : ThreadWorld K). x.space.thread) (sym f.is) ∙ (s.ready i f.thread f.at).space;
      aligned = λ i name b has.
          let f : FromThread threads i has.owner = from_thread threads i has.owner has.owns in
          named_aligned t threads st i name f.thread b s told.kept f.at (ap (λ (x : ThreadWorld K). block_at x.own.names name) f.is ∙ has.names);
      posted = λ tray b e. posted_aligned t threads st tray b s told.kept e;
    }
