-- What places have at the end, as what a report shows of them.
use Rattle.std.proofs.Common.{◌≡◌, ℕ, suc, ◌+◌, ◌*◌, ◌^◌, ◌<◌, ◌≤◌, List, [], ◌∷◌, ◌++◌, map, length, Option, Some, None, refl, sym, ap, ◌∙◌, subst, arith}
use Rattle.std.specs.Prelude.{IfSome, IfOk, Result, slice_get}
use Rattle.std.specs.List.{AllByRecursion, flat_map}
use Rattle.std.proofs.lemmas.List.{length-map}
use Rattle.std.proofs.lemmas.Result.{IfOk-weaker}
use Rattle.std.proofs.lemmas.List.Sums.{sum_by-cons}
use Rattle.chunk_tags.specs.declared.block.Block.{Block}
use Rattle.chunk_tags.specs.declared.tunables.Tunables.{Tunables}
use Rattle.address_space.specs.Spaces.{map_length}
use Rattle.arena_choice.specs.Books.{BookValue}
use Rattle.arena_core.specs.declared.arena.Arena.{Arena}
use Rattle.arena_ground.specs.Grounds.{GroundView}
use Rattle.arena_holds.specs.Places.{KeptArena}
use Rattle.arena_rules.specs.PlainArena.{Plain}
use Rattle.fast_bins.specs.PlainBins.{RoomyBin}
use Rattle.own_blocks.specs.declared.own.Own.{Own}
use Rattle.malloc_calls.specs.declared.thread.Thread.{Thread}
use Rattle.malloc_calls.specs.Threads.{own_of, space_of}
use Rattle.mapped_chunks.specs.declared.plain.DialState.{DialState}
use Rattle.serial_places.specs.SerialWays.{SerialState, KeptSlot, IsSerial, EndsAs, slot_in, those_in, seen_slots, kept_ground, fast_lists}
use Rattle.serial_places.specs.Trays.{full_trays}
use Rattle.stats_text.specs.Views.{Shown}
use Rattle.world_view.specs.Places as shown
use Rattle.world_view.specs.Scenes.{ArenaScene, Scene, AreArenas, shown_of}
use Rattle.trace_replay.specs.Processes.{thread_world, world_with, bytes_given, AreBetweenCalls}
use Rattle.trace_replay.specs.Views.{arena_scene, scene_of}
use Rattle.trace_replay.specs.World.{ThreadWorld}

-- the arenas of a scene
abbrev pub scenes_of : List (Option KeptSlot) → List ArenaScene
scenes_of slots = map arena_scene (those_in (seen_slots slots))

arenas_seen : (slots : List (Option KeptSlot)) → map (λ (s : ArenaScene). s.arena) (scenes_of slots) ≡ map (λ (k : KeptArena). k.arena) (map (λ (s : KeptSlot). s.kept) (those_in slots))
arenas_seen [] = refl
arenas_seen (None ∷ os) = arenas_seen os
arenas_seen (Some s ∷ os) = ap (λ (more : List Plain). s.kept.arena ∷ more) (arenas_seen os)

lists_seen : (slots : List (Option KeptSlot)) → flat_map (λ (s : ArenaScene). shown.fast_lists s.fast) (scenes_of slots) ≡ flat_map fast_lists (those_in slots)
lists_seen [] = refl
lists_seen (None ∷ os) = lists_seen os
lists_seen (Some s ∷ os) = ap (λ (more : List (List ℕ)). fast_lists s ++ more) (lists_seen os)

ten_seen : (slots : List (Option KeptSlot)) → ((n : ℕ) → IfSome (slot_in slots n) (λ s. length s.bins.bins ≡ 10)) → AllByRecursion (λ (s : ArenaScene). length s.fast.bins ≡ 10) (scenes_of slots)
ten_seen [] ten = tt
ten_seen (None ∷ os) ten = ten_seen os (λ n. ten (suc n))
ten_seen (Some s ∷ os) ten = (length-map s.bins.bins (λ (b : RoomyBin). b.bin) ∙ ten 0, ten_seen os (λ n. ten (suc n)))

grounds : (arenas : List (Arena GroundView)) → map (λ (k : KeptArena). k.arena) (map kept_ground arenas) ≡ map (λ (a : Arena GroundView). a.ground.value.arena) arenas
grounds [] = refl
grounds (a ∷ more) = ap (λ (rest : List Plain). a.ground.value.arena ∷ rest) (grounds more)

pub are_arenas : (st : SerialState) (arenas : List (Arena GroundView)) (fast : List (List ℕ)) (book : BookValue) (trays : List (ℕ × Block)) (words : DialState) → EndsAs st arenas fast book trays words →
    ((n : ℕ) → IfSome (slot_in st.slots n) (λ s. length s.bins.bins ≡ 10)) → AreArenas (scenes_of st.slots) (map (λ (a : Arena GroundView). a.ground.value.arena) arenas) fast
are_arenas st arenas fast book trays words ends ten = record {
  arenas_are = arenas_seen st.slots ∙ ap (map (λ (k : KeptArena). k.arena)) (sym ends.arenas_are) ∙ grounds arenas;
  lists_are = lists_seen st.slots ∙ sym ends.fast_are;
  ten = ten_seen st.slots ten;
}

-- ---- how many there are

those_few : (slots : List (Option KeptSlot)) → length (those_in slots) ≤ length slots
those_few [] = omega arith
those_few (None ∷ os) = omega (arith, those_few os)
those_few (Some s ∷ os) = omega (arith, those_few os)

pub arenas_few : (st : SerialState) (arenas : List (Arena GroundView)) (fast : List (List ℕ)) (book : BookValue) (trays : List (ℕ × Block)) (words : DialState) → EndsAs st arenas fast book trays words → IsSerial st →
    length arenas ≤ 64
arenas_few st arenas fast book trays words ends serial =
    omega (
      arith,
      length-map arenas kept_ground,
      length-map (those_in st.slots) (λ (s : KeptSlot). s.kept),
      ap length ends.arenas_are,
      those_few st.slots,
      serial.slots,
    )

given_most : {K : Type 0} (threads : List (Thread K)) → ((k : ℕ) (th : Thread K) → slice_get threads k ≡ Some th → (space_of th).mapped ≤ map_length) →
    bytes_given threads ≤ length threads * map_length
given_most [] each = omega arith
given_most {K = K} (th ∷ ths) each =
    omega (arith, sum_by-cons (λ (x : Thread K). (space_of x).mapped) th ths, each 0 th refl, given_most ths (λ k x at. each (suc k) x at))

pub bytes_fit : {K : Type 0} (t : Tunables) (threads : List (Thread K)) (st : SerialState) (words : DialState) → words ≡ st.dials.state → AreBetweenCalls t threads st → words.bytes + 2 ^ 40 < 2 ^ 64
bytes_fit t threads st words is s =
    let most = given_most threads (λ k th at. (s.ready k th at).inside) in
    let few : length threads * map_length ≤ 64 * map_length = omega (arith, s.count) in
    omega (arith, most, few, s.noted_bytes, ap (λ (d : DialState). d.bytes) is)

-- ---- the scene

owns_seen : {K : Type 0} (threads : List (Thread K)) → map own_of threads ≡ map (λ (th : ThreadWorld K). th.own) (map thread_world threads)
owns_seen [] = refl
owns_seen {K = K} (th ∷ ths) = ap (λ (more : List Own). own_of th ∷ more) (owns_seen ths)

abbrev pub scene_with : SerialState → List Own → List (ℕ × Block) → BookValue → DialState → List ℕ → Scene
scene_with st owns trays book words lines = record {
  owns = owns;
  arenas = scenes_of st.slots;
  trays = trays;
  book = book;
  dials = words;
  lines = lines;
}

-- what is shown of what places have at the end is what is shown of their world
pub shown_at_end : {K : Type 0} (threads : List (Thread K)) (st : SerialState) (arenas : List (Arena GroundView)) (fast : List (List ℕ)) (book : BookValue) (trays : List (ℕ × Block)) (words : DialState) (lines wanted : List ℕ) (s : Shown) →
    EndsAs st arenas fast book trays words → lines ≡ wanted → s ≡ shown_of (scene_with st (map own_of threads) trays book words lines) → s ≡ shown_of (scene_of wanted (world_with threads st))
shown_at_end threads st arenas fast book trays words lines wanted s ends same is =
    is ∙ ap (λ (ls : List ℕ). shown_of (scene_with st (map own_of threads) trays book words ls)) same
    ∙ ap (λ (d : DialState). shown_of (scene_with st (map own_of threads) trays book d wanted)) ends.words_are
    ∙ ap (λ (b : BookValue). shown_of (scene_with st (map own_of threads) trays b st.dials.state wanted)) ends.book_is
    ∙ ap (λ (ts : List (ℕ × Block)). shown_of (scene_with st (map own_of threads) ts st.book st.dials.state wanted)) ends.trays_are
    ∙ ap (λ (os : List Own). shown_of (scene_with st os (full_trays 0 st.trays) st.book st.dials.state wanted)) (owns_seen threads)

-- the same where slices of these are shown
pub slices_shown : {K E : Type 0} (threads seen : List (Thread K)) (st : SerialState) (arenas lent : List (Arena GroundView)) (fast lists : List (List ℕ)) (book : BookValue) (trays full : List (ℕ × Block)) (words : DialState) (lines wanted : List ℕ) (r : Result Shown E) →
    EndsAs st arenas fast book trays words → ((n : ℕ) → IfSome (slot_in st.slots n) (λ s. length s.bins.bins ≡ 10)) → seen ≡ threads → lent ≡ arenas → lists ≡ fast → full ≡ trays → lines ≡ wanted →
    ((scenes : List ArenaScene) → AreArenas scenes (map (λ (a : Arena GroundView). a.ground.value.arena) lent) lists →
    IfOk r (λ s. s ≡ shown_of (record { owns = map own_of seen; arenas = scenes; trays = full; book = book; dials = words; lines = lines }))) →
    IfOk r (λ s. s ≡ shown_of (scene_of wanted (world_with threads st)))
slices_shown {K = K} threads seen st arenas lent fast lists book trays full words lines wanted r ends ten threads_are arenas_are lists_are trays_are lines_are shows =
    let here : AreArenas (scenes_of st.slots) (map (λ (a : Arena GroundView). a.ground.value.arena) lent) lists =
    subst (λ (ls : List (List ℕ)). AreArenas (scenes_of st.slots) (map (λ (a : Arena GroundView). a.ground.value.arena) lent) ls) (sym lists_are)
    (subst (λ (those : List (Arena GroundView)). AreArenas (scenes_of st.slots) (map (λ (a : Arena GroundView). a.ground.value.arena) those) fast) (sym arenas_are) (are_arenas st arenas fast book trays words ends ten)) in
    IfOk-weaker r (λ s. s ≡ shown_of (scene_with st (map own_of seen) full book words lines)) _
    (λ s is.
    let same : s ≡ shown_of (scene_with st (map own_of threads) trays book words lines) =
    is ∙ ap (λ (ths : List (Thread K)). shown_of (scene_with st (map own_of ths) full book words lines)) threads_are
    ∙ ap (λ (bs : List (ℕ × Block)). shown_of (scene_with st (map own_of threads) bs book words lines)) trays_are in
    shown_at_end threads st arenas fast book trays words lines wanted s ends lines_are same)
    (shows (scenes_of st.slots) here)
