-- Between two calls of any threads.
use Rattle.std.proofs.Common.{◌≡◌, ℕ, zero, suc, ◌+◌, ◌-◌, ◌*◌, ◌<◌, ◌≤◌, true, false, List, [], ◌∷◌, length, Some, inl, inr, refl, sym, ap, ◌∙◌, subst, arith}
use Rattle.std.specs.Prelude.{slice_get, slice_set}
use Rattle.std.proofs.lemmas.List.{length-set}
use Rattle.std.proofs.lemmas.List.Sums.{sum_by-cons}
use Rattle.std.proofs.lemmas.Option.{slice_get_within}
use Rattle.chunk_tags.specs.declared.block.Block.{Block}
use Rattle.chunk_tags.specs.declared.tunables.Tunables.{Tunables}
use Rattle.address_space.specs.Spaces.{map_length}
use Rattle.malloc_calls.specs.declared.thread.Thread.{Thread}
use Rattle.block_names.specs.Names.{IsTable}
use Rattle.own_blocks.specs.Own.{in_own}
use Rattle.malloc_calls.specs.Threads.{own_of, names_of, space_of}
use Rattle.arena_holds.specs.Places.{Hands, both_of, as_mapped_byte, given_byte}
use Rattle.serial_places.specs.SerialWays.{SerialState, Serves, Notes}
use Rattle.serial_places.specs.LawsOfPlaces.{serial_laws}
use Rattle.trace_replay.specs.Processes.{in_threads, bytes_given, IsReady, AreBetweenCalls, IsServedBy, KeepsOn}
use Rattle.trace_replay.proofs.Sums.{sum_changed, part_of_sum, either_at}

-- the blocks of all threads but one
abbrev others_than : {K : Type 0} → List (Thread K) → Thread K → Hands
others_than threads th weigh = in_threads threads weigh - in_own (own_of th) weigh

-- these are those of the thread and the others
with_others : {K : Type 0} (threads : List (Thread K)) (k : ℕ) (th : Thread K) (weigh : Block → ℕ) → slice_get threads k ≡ Some th →
    in_own (own_of th) weigh + others_than threads th weigh ≡ in_threads threads weigh
with_others {K = K} threads k th weigh at = omega (arith, part_of_sum (λ (x : Thread K). in_own (own_of x) weigh) threads k th at)

-- so they are when the thread changed
with_changed : {K : Type 0} (threads : List (Thread K)) (k : ℕ) (th new : Thread K) (weigh : Block → ℕ) → slice_get threads k ≡ Some th →
    in_own (own_of new) weigh + others_than threads th weigh ≡ in_threads (slice_set threads k new) weigh
with_changed {K = K} threads k th new weigh at =
    omega (arith, part_of_sum (λ (x : Thread K). in_own (own_of x) weigh) threads k th at, sum_changed (λ (x : Thread K). in_own (own_of x) weigh) threads k th new at)

-- ---- what the windows of all threads were given

-- each is at most a window
given_most : {K : Type 0} (threads : List (Thread K)) → ((k : ℕ) (th : Thread K) → slice_get threads k ≡ Some th → (space_of th).mapped ≤ map_length) →
    bytes_given threads ≤ length threads * map_length
given_most [] each = omega arith
given_most {K = K} (th ∷ ths) each =
    omega (arith, sum_by-cons (λ (x : Thread K). (space_of x).mapped) th ths, each 0 th refl, given_most ths (λ k x at. each (suc k) x at))

-- those of all but one
others_most : {K : Type 0} (threads : List (Thread K)) (i : ℕ) (x : Thread K) → slice_get threads i ≡ Some x → ((k : ℕ) (th : Thread K) → slice_get threads k ≡ Some th → (space_of th).mapped ≤ map_length) →
    bytes_given threads ≤ (space_of x).mapped + (length threads - 1) * map_length
others_most [] i x at each = absurd cc
others_most {K = K} (th ∷ ths) zero x at each =
    let same : th ≡ x = cc in
    omega (arith, sum_by-cons (λ (y : Thread K). (space_of y).mapped) th ths, ap (λ (y : Thread K). (space_of y).mapped) same, given_most ths (λ k y at. each (suc k) y at))
others_most {K = K} (th ∷ ths) (suc i) x at each =
    omega (
      arith,
      sum_by-cons (λ (y : Thread K). (space_of y).mapped) th ths,
      each 0 th refl,
      others_most ths i x at (λ k y at. each (suc k) y at),
      slice_get_within ths i x at,
    )

-- ---- a call of one thread

known_less : (st : SerialState) (hands : Hands) → Serves true st hands → Serves false st hands
known_less st hands s = record {
  chunks = λ n e. omega (arith, s.chunks n e);
  count = omega (arith, s.count);
  bytes = omega (arith, s.bytes);
}

-- the counted mappings are noted, of the thread and of all others
noted_with : {K : Type 0} (t : Tunables) (threads : List (Thread K)) (st : SerialState) (k : ℕ) (th : Thread K) → slice_get threads k ≡ Some th → AreBetweenCalls t threads st →
    Notes st (space_of th).mapped (bytes_given threads - (space_of th).mapped)
noted_with {K = K} t threads st k th at s =
    let part : (space_of th).mapped ≤ bytes_given threads = part_of_sum (λ (x : Thread K). (space_of x).mapped) threads k th at in
    let most : bytes_given threads ≤ (space_of th).mapped + (length threads - 1) * map_length = others_most threads k th at (λ n x is. (s.ready n x is).inside) in
    record {
      windows = omega (arith, most, s.count);
      count = omega (arith, part, s.noted);
      bytes = omega (arith, part, s.noted_bytes);
    }

-- the places serve each thread
pub served_thread : {K : Type 0} (t : Tunables) (threads : List (Thread K)) (st : SerialState) (k : ℕ) (th : Thread K) → slice_get threads k ≡ Some th → AreBetweenCalls t threads st → IsServedBy t th st
served_thread {K = K} t threads st k th at s = record {
  served = serial_laws.fewer st (in_threads threads) (in_own (own_of th)) (λ weigh. part_of_sum (λ (x : Thread K). in_own (own_of x) weigh) threads k th at)
      (known_less st (in_threads threads) s.exact);
  others = bytes_given threads - (space_of th).mapped;
  notes = noted_with t threads st k th at s;
  tunables = s.tunables;
  windows = (s.ready k th at).windows;
  whole = s.whole;
}

-- a call of one thread keeps all settled
pub settled_next : {K : Type 0} (t : Tunables) (threads : List (Thread K)) (st next : SerialState) (k : ℕ) (th new : Thread K) → slice_get threads k ≡ Some th → KeepsOn th st new next →
    IsTable (names_of new) → AreBetweenCalls t threads st → AreBetweenCalls t (slice_set threads k new) next
settled_next {K = K} t threads st next k th new at c held s =
    let others : Hands = others_than threads th in
    let before : Serves true st (both_of (in_own (own_of th)) others) = serial_laws.same true st (in_threads threads) (both_of (in_own (own_of th)) others) (λ weigh. with_others threads k th weigh at) s.exact in
    let notes : Notes next (space_of new).mapped (bytes_given threads - (space_of th).mapped) = c.notes (bytes_given threads - (space_of th).mapped) (noted_with t threads st k th at s) in
    let lt : k < length threads = slice_get_within threads k th at in
    let part : (space_of th).mapped ≤ bytes_given threads = part_of_sum (λ (x : Thread K). (space_of x).mapped) threads k th at in
    let given : bytes_given (slice_set threads k new) + (space_of th).mapped ≡ bytes_given threads + (space_of new).mapped = sum_changed (λ (x : Thread K). (space_of x).mapped) threads k th new at in
    record {
      count = length-set threads k new ∙ s.count;
      ready = λ n x is. elim (either_at threads k n new x lt is) [
        | inl here ↦ subst (λ m. IsReady t m x) (sym here.0) (subst (IsReady t k) (sym here.1) (c.ready t k held (s.ready k th at)))
        | inr other ↦ s.ready n x other.1
      ];
      exact = serial_laws.same true next (both_of (in_own (own_of new)) others) (in_threads (slice_set threads k new)) (λ weigh. sym (with_changed threads k th new weigh at)) (c.serves others before);
      whole = c.whole s.whole;
      trays = c.trays ∙ s.trays;
      tunables = c.tunables ∙ s.tunables;
      noted = omega (arith, notes.count, part, given);
      noted_bytes = omega (arith, notes.bytes, part, given);
      apart = λ n. omega (
        arith,
        s.apart n,
        c.bytes n,
        sum_changed (λ (x : Thread K). in_own (own_of x) (as_mapped_byte n)) threads k th new at,
        sum_changed (λ (x : Thread K). given_byte n (space_of x)) threads k th new at,
      );
    }
