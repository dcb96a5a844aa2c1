-- The threads and their world before the first call.
use Rattle.std.proofs.Common.{◌≡◌, ℕ, zero, suc, ◌+◌, true, List, [], ◌∷◌, ◌++◌, map, length, replicate, Some, None, refl, sym, ap, ◌∙◌, subst, arith}
use Rattle.std.specs.Prelude.{IsTrue, slice_get}
use Rattle.std.specs.List.{All, AllByRecursion}
use Rattle.std.proofs.lemmas.List.{length-replicate}
use Rattle.std.proofs.lemmas.List.Elements.{All-from_recursion, recursion_from_All}
use Rattle.std.proofs.lemmas.List.Sums.{sum_by-cons}
use Rattle.chunk_tags.specs.declared.block.Block.{Block}
use Rattle.chunk_tags.specs.declared.tunables.Tunables.{Tunables}
use Rattle.address_space.specs.Ports.{Port}
use Rattle.address_space.specs.Spaces.{new_space, space_tells}
use Rattle.arena_rules.specs.Rules.{windows_of}
use Rattle.mapped_chunks.specs.declared.plain.DialState.{DialState}
use Rattle.malloc_calls.specs.declared.thread.Thread.{Thread}
use Rattle.block_names.specs.Names.{block_at}
use Rattle.block_names.proofs.Tables.{none_at, none_weigh, table_none}
use Rattle.own_blocks.specs.Own.{in_own}
use Rattle.malloc_calls.specs.Threads.{new_thread, own_of}
use Rattle.arena_holds.specs.Places.{as_mapped_byte, weight_of}
use Rattle.serial_places.specs.SerialWays.{SerialState, IsFirst, first_slots}
use Rattle.serial_places.specs.LawsOfPlaces.{serial_laws}
use Rattle.serial_places.specs.Trays.{in_trays, tray_at, empty_trays}
use Rattle.serial_places.specs.declared.tray.Tray.TheVariants.{Empty, Full}
use Rattle.serial_places.proofs.SerialFirst.{first_serves, first_whole, none_in_trays}
use Rattle.trace_replay.specs.Headline.{AllTell}
use Rattle.trace_replay.specs.Naming.{HoldsWithin}
use Rattle.trace_replay.specs.Processes.{started_threads, thread_world, world_with, in_threads, ThreadTells, IsReady, AreBetweenCalls}
use Rattle.trace_replay.specs.Tiling.{FitsWithin, no_wishes}
use Rattle.trace_replay.specs.World.{World, ThreadWorld, first_thread, first_threads, opening_world}

-- ---- one after another

pub started_push : {K : Type 0} (t : Tunables) (n : ℕ) (ks : List K) (k : K) →
    started_threads t n (ks ++ k ∷ []) ≡ started_threads t n ks ++ new_thread (n + length ks) (new_space k (n + length ks) (windows_of t)) ∷ []
started_push t n [] k =
    let e : n ≡ n + 0 = omega arith in
    ap (λ m. new_thread m (new_space k m (windows_of t)) ∷ []) e
started_push t n (x ∷ ks) k =
    let e : n + 1 + length ks ≡ n + length (x ∷ ks) = omega arith in
    ap (λ (more : List (Thread _)). new_thread n (new_space x n (windows_of t)) ∷ more)
    (started_push t (n + 1) ks k ∙ ap (λ m. started_threads t (n + 1) ks ++ new_thread m (new_space k m (windows_of t)) ∷ []) e)

worlds : {K : Type 0} (t : Tunables) (n : ℕ) (ks : List K) → map thread_world (started_threads t n ks) ≡ first_threads t n ks
worlds t n [] = refl
worlds t n (k ∷ ks) = ap (λ (more : List (ThreadWorld _)). first_thread t n k ∷ more) (worlds t (n + 1) ks)

length-started : {K : Type 0} (t : Tunables) (n : ℕ) (ks : List K) → length (started_threads t n ks) ≡ length ks
length-started t n [] = refl
length-started t n (k ∷ ks) = omega (arith, length-started t (n + 1) ks)

started_ready : {K : Type 0} (t : Tunables) (n : ℕ) (ks : List K) (i : ℕ) (th : Thread K) → slice_get (started_threads t n ks) i ≡ Some th → IsReady t (n + i) th
started_ready t n [] i th at = absurd cc
started_ready {K = K} t n (k ∷ ks) zero th at =
    let same : new_thread n (new_space k n (windows_of t)) ≡ th = cc in
    let e : n ≡ n + 0 = omega arith in
    subst (λ m. IsReady t m th) e
    (subst (IsReady t n) same (record { numbered = refl; space = refl; windows = refl; inside = omega arith; held = table_none }))
started_ready t n (k ∷ ks) (suc i) th at =
    let e : n + 1 + i ≡ n + suc i = omega arith in
    subst (λ m. IsReady t m th) e (started_ready t (n + 1) ks i th at)

started_weigh : {K : Type 0} (t : Tunables) (n : ℕ) (ks : List K) (weigh : Block → ℕ) → in_threads (started_threads t n ks) weigh ≡ 0
started_weigh t n [] weigh = refl
started_weigh {K = K} t n (k ∷ ks) weigh =
    omega (arith, sum_by-cons (λ (th : Thread K). in_own (own_of th) weigh) (new_thread n (new_space k n (windows_of t))) (started_threads t (n + 1) ks), started_weigh t (n + 1) ks weigh, none_weigh (λ o. weight_of o weigh))

-- ---- the world

no_tray : (m n : ℕ) → tray_at (replicate m Empty) n ≡ Empty
no_tray zero n = refl
no_tray (suc m) zero = refl
no_tray (suc m) (suc n) = no_tray m n

empty_at : (n : ℕ) → tray_at empty_trays n ≡ Empty
unfolding empty_trays
empty_at n = no_tray 65536 n

length-empty : length empty_trays ≡ 65536
unfolding empty_trays
length-empty = length-replicate 65536 Empty

pub first_world_is : {K : Type 0} (t : Tunables) (kernels : List K) (threads : List (Thread K)) (st : SerialState) → threads ≡ started_threads t 0 kernels → IsFirst t st →
    world_with threads st ≡ opening_world t kernels
first_world_is {K = K} t kernels threads st is f =
    rw (is, f.slots, f.dials, f.book, f.trays) (ap (λ ts. record { threads = ts; slots = first_slots; dials = (opening_world t kernels).dials; book = (opening_world t kernels).book; trays = empty_trays }) (worlds t 0 kernels))

pub first_settled : {K : Type 0} (t : Tunables) (kernels : List K) (threads : List (Thread K)) (st : SerialState) → length kernels ≡ 64 → threads ≡ started_threads t 0 kernels → IsFirst t st →
    AreBetweenCalls t threads st
first_settled {K = K} t kernels threads st count is f =
    let all : List (Thread K) = started_threads t 0 kernels in
    let trays : (weigh : Block → ℕ) → in_trays st.trays weigh ≡ 0 = λ weigh. ap (λ ts. in_trays ts weigh) f.trays ∙ none_in_trays weigh in
    subst (λ ths. AreBetweenCalls t ths st) (sym is)
    (record {
      count = length-started t 0 kernels ∙ count;
      ready = λ i th at. let e : 0 + i ≡ i = omega arith in subst (λ m. IsReady t m th) e (started_ready t 0 kernels i th at);
      exact = serial_laws.same true st (λ weigh. 0) (in_threads all) (started_weigh t 0 kernels) (first_serves t st true f);
      whole = first_whole t st f;
      trays = ap length f.trays ∙ length-empty;
      tunables = f.tunables;
      noted = omega (arith, ap (λ (d : DialState). d.mapped) f.dials);
      noted_bytes = omega (arith, ap (λ (d : DialState). d.bytes) f.dials);
      apart = λ n. omega (arith, trays (as_mapped_byte n), started_weigh t 0 kernels (as_mapped_byte n));
    })

unnamed : {K : Type 0} (t : Tunables) (n : ℕ) (ks : List K) (i name : ℕ) (th : ThreadWorld K) → slice_get (first_threads t n ks) i ≡ Some th → block_at th.own.names name ≡ None
unnamed t n [] i name th at = absurd cc
unnamed t n (k ∷ ks) zero name th at =
    let same : first_thread t n k ≡ th = cc in
    ap (λ (w : ThreadWorld _). block_at w.own.names name) (sym same) ∙ none_at name
unnamed t n (k ∷ ks) (suc i) name th at = unnamed t (n + 1) ks i name th at

-- no name holds a block, and no tray
pub first_holds : {K : Type 0} (t : Tunables) (kernels : List K) (w : World K) → w ≡ opening_world t kernels → HoldsWithin [] w
first_holds {K = K} t kernels w is =
    subst (λ (v : World K). HoldsWithin [] v) (sym is)
    (record { named = λ i name th at not_held. unnamed t 0 kernels i name th at; posted = λ tray not_posted. empty_at tray })

pub first_fits : {K : Type 0} (t : Tunables) (kernels : List K) (w : World K) → w ≡ opening_world t kernels → FitsWithin no_wishes w
first_fits {K = K} t kernels w is =
    subst (λ (v : World K). FitsWithin no_wishes v) (sym is)
    (record {
      named = λ i name b has. let no : None ≡ Some b = sym (unnamed t 0 kernels i name has.owner has.owns) ∙ has.names in absurd cc;
      posted = λ tray b at. let no : Empty ≡ Full b = sym (empty_at tray) ∙ at in absurd cc;
    })

-- each thread's kernel tells where each port does
all_tell : {K : Type 0} (port : Port K) (t : Tunables) (n : ℕ) (threads : List (Thread K)) (ks : List K) → map thread_world threads ≡ first_threads t n ks → AllByRecursion (λ k. IsTrue (port.tells k)) ks → AllByRecursion (ThreadTells port) threads
all_tell port t n [] ks is tell = tt
all_tell port t n (th ∷ ths) [] is tell = absurd cc
all_tell {K} port t n (th ∷ ths) (k ∷ ks) is tell =
    let head : first_thread t n k ≡ thread_world th = cc in
    let tail : map thread_world ths ≡ first_threads t (n + 1) ks = cc in
    (subst (λ (w : ThreadWorld K). IsTrue (space_tells port w.space)) head tell.0, all_tell port t (n + 1) ths ks tail tell.1)

pub first_tells : {K : Type 0} (port : Port K) (t : Tunables) (kernels : List K) (threads : List (Thread K)) (st : SerialState) → world_with threads st ≡ opening_world t kernels → AllTell port kernels → All (ThreadTells port) threads
first_tells port t kernels threads st is tell =
    All-from_recursion (ThreadTells port) threads
    (all_tell port t 0 threads kernels (ap (λ (w : World _). w.threads) is) (recursion_from_All (λ k. IsTrue (port.tells k)) kernels tell))
