-- What a call of a thread keeps, that first made a place for a name.
use Rattle.std.proofs.Common.{◌≡◌, ℕ, true, false, length, refl, sym, ap, ◌∙◌, subst, arith}
use Rattle.chunk_tags.specs.declared.block.Block.{Block}
use Rattle.chunk_tags.specs.declared.tunables.Tunables.{Tunables}
use Rattle.address_space.specs.declared.space.Space.{Space}
use Rattle.own_blocks.specs.declared.own.Own.{Own}
use Rattle.malloc_calls.specs.declared.thread.Thread.{Thread}
use Rattle.block_names.specs.Names.{IsTable, with_place}
use Rattle.block_names.proofs.Tables.{place_weighs}
use Rattle.own_blocks.specs.Own.{in_own}
use Rattle.malloc_calls.specs.Threads.{own_of, names_of, space_of, number_of, with_names}
use Rattle.arena_holds.specs.Places.{Hands, weight_of, both_of, as_mapped_byte, given_byte, standing, Carries}
use Rattle.arena_holds.specs.Returning.{IsUnseen}
use Rattle.serial_places.specs.SerialWays.{SerialState, Serves, state_ways}
use Rattle.serial_places.specs.LawsOfPlaces.{serial_laws}
use Rattle.serial_places.specs.Trays.{in_trays}
use Rattle.trace_replay.specs.Processes.{IsReady, IsServedBy, KeepsOn}
use Rattle.trace_replay.specs.World.{own_with_place}
use Rattle.trace_replay.proofs.TrayEnds.{SameBlocks}
use Rattle.trace_replay.proofs.Within.{StaysWithin}

-- ---- a place for a name weighs nothing

pub own_weighs : (name : ℕ) (own : Own) (weigh : Block → ℕ) → in_own (own_with_place name own) weigh ≡ in_own own weigh
own_weighs name own weigh = omega (arith, place_weighs name own.names (λ o. weight_of o weigh) refl)

-- the thread with the place
abbrev pub readied : {K : Type 0} → ℕ → Thread K → Thread K
readied name th = with_names (with_place name (names_of th)) th

pub served_there : {K : Type 0} (t : Tunables) (th there : Thread K) (st : SerialState) (name : ℕ) → there ≡ readied name th → IsServedBy t th st → IsServedBy t there st
served_there {K = K} t th there st name is s =
    let at : IsServedBy t (readied name th) st = record {
      served = serial_laws.same false st (in_own (own_of th)) (in_own (own_with_place name (own_of th))) (own_weighs name (own_of th)) s.served;
      others = s.others;
      notes = s.notes;
      tunables = s.tunables;
      windows = s.windows;
      whole = s.whole;
    } in
    subst (λ (x : Thread K). IsServedBy t x st) (sym is) at

-- ---- what is kept

-- of the thread itself
pub ready_still : {K : Type 0} (t : Tunables) (number : ℕ) (th new : Thread K) → number_of new ≡ number_of th → StaysWithin (space_of th) (space_of new) →
    (space_of new).windows ≡ (space_of th).windows → IsTable (names_of new) → IsReady t number th → IsReady t number new
ready_still t number th new same within windows held r = record {
  numbered = same ∙ r.numbered;
  space = within.thread ∙ r.space;
  windows = windows ∙ r.windows;
  inside = within.inside r.inside;
  held = held;
}

serves_for : (st next : SerialState) (given got some more : Hands) → ((weigh : Block → ℕ) → given weigh ≡ some weigh) → ((weigh : Block → ℕ) → got weigh ≡ more weigh) →
    ((others : Hands) → Serves true st (both_of given others) → Serves true next (both_of got others)) →
    (others : Hands) → Serves true st (both_of some others) → Serves true next (both_of more others)
serves_for st next given got some more e f keeps others s =
    serial_laws.same true next (both_of got others) (both_of more others) (λ weigh. omega (arith, f weigh))
    (keeps others (serial_laws.same true st (both_of some others) (both_of given others) (λ weigh. omega (arith, e weigh)) s))

-- a call that uses no tray
kept_carried : {K : Type 0} (th new : Thread K) (st next : SerialState) (name : ℕ) → number_of new ≡ number_of th →
    Carries state_ways true (in_own (own_of (readied name th))) (standing st (space_of th)) (in_own (own_of new)) (standing next (space_of new)) →
    StaysWithin (space_of th) (space_of new) → next.trays ≡ st.trays → KeepsOn th st new next
kept_carried th new st next name same c within trays =
    let weighs : (weigh : Block → ℕ) → in_own (own_of (readied name th)) weigh ≡ in_own (own_of th) weigh = own_weighs name (own_of th) in
    record {
      serves = serves_for st next (in_own (own_of (readied name th))) (in_own (own_of new)) (in_own (own_of th)) (in_own (own_of new)) weighs (λ weigh. refl) (c.serves true (λ e. refl));
      notes = c.notes;
      bytes = λ n. omega (arith, c.mapped n, weighs (as_mapped_byte n), ap (λ ts. in_trays ts (as_mapped_byte n)) trays);
      whole = c.whole;
      trays = ap length trays;
      tunables = c.tunables;
      ready = λ t number held. ready_still t number th new same within c.windows held;
    }

pub keeps_carried : {K : Type 0} (th there new : Thread K) (st next : SerialState) (name : ℕ) → there ≡ readied name th → number_of new ≡ number_of there →
    Carries state_ways true (in_own (own_of there)) (standing st (space_of there)) (in_own (own_of new)) (standing next (space_of new)) →
    StaysWithin (space_of there) (space_of new) → next.trays ≡ st.trays → KeepsOn th st new next
keeps_carried {K = K} th there new st next name is same c within trays =
    let P : Thread K → Type 0 = λ x. number_of new ≡ number_of x →
    Carries state_ways true (in_own (own_of x)) (standing st (space_of x)) (in_own (own_of new)) (standing next (space_of new)) →
    StaysWithin (space_of x) (space_of new) → KeepsOn th st new next in
    let at : P (readied name th) = λ e d w. kept_carried th new st next name e d w trays in
    subst P (sym is) at same c within

-- the end of a thread makes no place
pub keeps_at_exit : {K : Type 0} (th new : Thread K) (st next : SerialState) → number_of new ≡ number_of th →
    Carries state_ways true (in_own (own_of th)) (standing st (space_of th)) (in_own (own_of new)) (standing next (space_of new)) →
    StaysWithin (space_of th) (space_of new) → next.trays ≡ st.trays → KeepsOn th st new next
keeps_at_exit th new st next same c within trays = record {
  serves = c.serves true (λ e. refl);
  notes = c.notes;
  bytes = λ n. omega (arith, c.mapped n, ap (λ ts. in_trays ts (as_mapped_byte n)) trays);
  whole = c.whole;
  trays = ap length trays;
  tunables = c.tunables;
  ready = λ t number held. ready_still t number th new same within c.windows held;
}

-- a call at a tray, with the same blocks in it and with the thread
kept_unseen : {K : Type 0} (th new : Thread K) (st next : SerialState) (name : ℕ) → number_of new ≡ number_of th → space_of new ≡ space_of th →
    IsUnseen state_ways st (in_own (own_of (readied name th))) (in_own (own_of new)) next → SameBlocks (own_of (readied name th)) (own_of new) st.trays next.trays →
    KeepsOn th st new next
kept_unseen {K = K} th new st next name same space u blocks =
    let weighs : (weigh : Block → ℕ) → in_own (own_of (readied name th)) weigh ≡ in_own (own_of th) weigh = own_weighs name (own_of th) in
    let mapped : (space_of new).mapped ≡ (space_of th).mapped = ap (λ (s : Space K). s.mapped) space in
    record {
      serves = serves_for st next (in_own (own_of (readied name th))) (in_own (own_of new)) (in_own (own_of th)) (in_own (own_of new)) weighs (λ weigh. refl) (u.serves true);
      notes = λ others n. subst (λ own. state_ways.notes next own others) (sym mapped) (u.notes (space_of th).mapped others n);
      bytes = λ n. omega (arith, blocks.all (as_mapped_byte n), weighs (as_mapped_byte n), ap (λ (s : Space K). given_byte n s) space);
      whole = u.whole;
      trays = blocks.count;
      tunables = u.tunables;
      ready = λ t number held.
          ready_still t number th new same
          (record { thread = ap (λ (s : Space K). s.thread) space; inside = λ le. omega (arith, le, mapped) })
          (ap (λ (s : Space K). s.windows) space) held;
    }

pub keeps_unseen : {K : Type 0} (th there new : Thread K) (st next : SerialState) (name : ℕ) → there ≡ readied name th → number_of new ≡ number_of there → space_of new ≡ space_of there →
    IsUnseen state_ways st (in_own (own_of there)) (in_own (own_of new)) next → SameBlocks (own_of there) (own_of new) st.trays next.trays → KeepsOn th st new next
keeps_unseen {K = K} th there new st next name is same space u blocks =
    let P : Thread K → Type 0 = λ x. number_of new ≡ number_of x → space_of new ≡ space_of x →
    IsUnseen state_ways st (in_own (own_of x)) (in_own (own_of new)) next → SameBlocks (own_of x) (own_of new) st.trays next.trays → KeepsOn th st new next in
    let at : P (readied name th) = λ e f v b. kept_unseen th new st next name e f v b in
    subst P (sym is) at same space u blocks
