-- A call of a thread that uses no tray, with a place for a name.
use Rattle.std.proofs.Common.{◌≡◌, ℕ, Bool, Result, subst}
use Rattle.std.specs.Prelude.{is_ok, IfOk}
use Rattle.chunk_tags.specs.declared.refusals.NoMemory.{NoMemory}
use Rattle.chunk_tags.specs.declared.tunables.Tunables.{Tunables}
use Rattle.address_space.specs.Ports.{Port}
use Rattle.own_blocks.specs.declared.own.Own.{Own}
use Rattle.own_blocks.specs.declared.reply.Reply.{Reply}
use Rattle.malloc_calls.specs.declared.thread.Thread.{Thread}
use Rattle.own_blocks.specs.Own.{in_own}
use Rattle.malloc_calls.specs.Threads.{own_of, space_of, number_of, who_of}
use Rattle.arena_holds.specs.Calls.{Call}
use Rattle.arena_holds.specs.Places.{standing, Carries}
use Rattle.serial_places.specs.SerialWays.{SerialState, state_ways}
use Rattle.trace_replay.specs.Processes.{KeepsOn, DoesAt}
use Rattle.trace_replay.proofs.CallResults.{AllResults}
use Rattle.trace_replay.proofs.CallEnds.{does_quietly}
use Rattle.trace_replay.proofs.Keeping.{readied, keeps_carried, keeps_at_exit}
use Rattle.trace_replay.proofs.Results.{if_ok_is}

-- what the thread has of its places, and the result
pub record QuietCall {K : Type 0} (th : Thread K) (st : SerialState) (new : Thread K) (next : SerialState) (P : Reply × Own → Type 0) (reply : Reply) : Type 0 where
  pub keeps : KeepsOn th st new next
  pub trays : next.trays ≡ st.trays
  pub result : P (reply, own_of new)

pub quiet_call : {K : Type 0} (port : Port K) (t : Tunables) (line name : ℕ) (call : Call (Reply × Own)) (th there new : Thread K) (st next : SerialState) (P : Reply × Own → Type 0) (r : Result Reply NoMemory) →
    there ≡ readied name th → number_of new ≡ number_of there → AllResults P call →
    Carries state_ways (is_ok r) (in_own (own_of there)) (standing st (space_of there)) (in_own (own_of new)) (standing next (space_of new)) →
    IfOk r (λ reply. DoesAt port t line call there st reply new next) → IfOk r (QuietCall th st new next P)
quiet_call {K = K} port t line name call th there new st next P r is same results carries does =
    if_ok_is (λ reply. DoesAt port t line call there st reply new next) (QuietCall th st new next P) r
    (λ reply ok d.
    let e = does_quietly port t (who_of line there) call (standing st (space_of there)) (standing next (space_of new)) P (reply, own_of new) results d in
    let all = subst (λ (well : Bool). Carries state_ways well (in_own (own_of there)) (standing st (space_of there)) (in_own (own_of new)) (standing next (space_of new))) ok carries in
    record { keeps = keeps_carried th there new st next name is same all e.space e.result.trays; trays = e.result.trays; result = e.result.result })
    does

-- the end of a thread
pub quiet_end : {K : Type 0} (port : Port K) (t : Tunables) (line : ℕ) (call : Call (Reply × Own)) (th new : Thread K) (st next : SerialState) (r : Result Reply NoMemory) →
    number_of new ≡ number_of th → AllResults (λ x. Unit {0}) call →
    Carries state_ways (is_ok r) (in_own (own_of th)) (standing st (space_of th)) (in_own (own_of new)) (standing next (space_of new)) →
    IfOk r (λ reply. DoesAt port t line call th st reply new next) → IfOk r (QuietCall th st new next (λ x. Unit {0}))
quiet_end {K = K} port t line call th new st next r same results carries does =
    if_ok_is (λ reply. DoesAt port t line call th st reply new next) (QuietCall th st new next (λ x. Unit {0})) r
    (λ reply ok d.
    let e = does_quietly port t (who_of line th) call (standing st (space_of th)) (standing next (space_of new)) (λ x. Unit {0}) (reply, own_of new) results d in
    let all = subst (λ (well : Bool). Carries state_ways well (in_own (own_of th)) (standing st (space_of th)) (in_own (own_of new)) (standing next (space_of new))) ok carries in
    record { keeps = keeps_at_exit th new st next same all e.space e.result.trays; trays = e.result.trays; result = tt })
    does
