-- A line's call, over the threads by number.
use Rattle.std.proofs.Common.{◌≡◌, ℕ, ◌<◌, ◌≤◌, List, map, length, get_or, set, Some, refl, sym, ap, ◌∙◌, subst, arith}
use Rattle.std.specs.Prelude.{slice_get, option_map}
use Rattle.std.specs.List.{All}
use Rattle.std.specs.Option.{option_and_then}
use Rattle.std.proofs.lemmas.List.{map-set}
use Rattle.std.proofs.lemmas.List.Elements.{All-get_or, All-set}
use Rattle.std.proofs.lemmas.Option.{slice_get-get_or, slice_get-map, slice_get_within, get_or_from_slice_get}
use Rattle.chunk_tags.specs.declared.tunables.Tunables.{Tunables}
use Rattle.address_space.specs.Ports.{Port}
use Rattle.arena_core.specs.declared.journal.Who.{Who}
use Rattle.own_blocks.specs.declared.reply.Reply.{Reply}
use Rattle.malloc_calls.specs.declared.thread.Thread.{Thread}
use Rattle.malloc_calls.specs.Threads.{own_of, space_of, number_of, who_of}
use Rattle.malloc_calls.specs.Threads.{names_of}
use Rattle.arena_holds.specs.Going.{Does}
use Rattle.arena_holds.specs.Places.{standing}
use Rattle.serial_places.specs.SerialWays.{SerialState, serial_setting, world_at}
use Rattle.serial_places.proofs.Serving.{PlaysTo, plays_call}
use Rattle.trace_text.specs.declared.trace.Line.{Line}
use Rattle.trace_replay.specs.Naming.{LeavesLine, MayCall, MayRun}
use Rattle.trace_replay.specs.Processes.{thread_world, world_with, ThreadTells, AreBetweenCalls, Calls, EndsLine}
use Rattle.trace_replay.specs.World.{World, ThreadWorld, who_in, call_of, name_in, answer_left, played_line, step}
use Rattle.trace_replay.proofs.LineEnds.{thread_tidied, ended_keeps, ended_leaves}
use Rattle.trace_replay.proofs.Settling.{settled_next}

-- ---- the thread of a line

pub thread_at : {K : Type 0} (threads : List (Thread K)) (k n : ℕ) (d th : Thread K) → k ≡ n → n ≤ 63 → length threads ≡ 64 → th ≡ get_or threads k d → slice_get threads n ≡ Some th
thread_at threads k n d th is most count value =
    let lt : n < length threads = omega (arith, most, count) in
    slice_get-get_or threads n d lt ∙ ap Some (ap (λ i. get_or threads i d) (sym is) ∙ sym value)

pub world_there : {K : Type 0} (threads : List (Thread K)) (n : ℕ) (th : Thread K) → slice_get threads n ≡ Some th → slice_get (map thread_world threads) n ≡ Some (thread_world th)
world_there threads n th at = slice_get-map thread_world threads n ∙ ap (option_map thread_world) at

pub may_call : {K : Type 0} (line : Line) (threads : List (Thread K)) (st : SerialState) (th : Thread K) → MayRun line (world_with threads st) → slice_get threads line.thread ≡ Some th →
    MayCall line (names_of th) st.trays
may_call line threads st th may at = may.may (thread_world th) (world_there threads line.thread th at)

-- ---- over kernels that tell

tells_there : {K : Type 0} (port : Port K) (threads : List (Thread K)) (n : ℕ) (th : Thread K) → slice_get threads n ≡ Some th → All (ThreadTells port) threads → ThreadTells port th
tells_there port threads n th at all =
    subst (ThreadTells port) (get_or_from_slice_get threads n th th at) (All-get_or (ThreadTells port) threads n th (slice_get_within threads n th at) all)

-- the call is what it plays
plays_line : {K : Type 0} (port : Port K) (t : Tunables) (line : Line) (th new : Thread K) (st next : SerialState) (reply : Reply) → number_of th ≡ line.thread → st.tunables ≡ t → ThreadTells port th →
    Calls port t line th st reply new next →
    PlaysTo (λ (v : SerialState). v) port t (who_in line) (call_of t line.thread line.call (own_of th)) (world_at st (space_of th)) (reply, own_of new) (standing next (space_of new))
plays_line {K} port t line th new st next reply number tunables tells c =
    let D : Who → Type 0 = λ who. Does (serial_setting (λ (v : SerialState). v) port) t who (call_of t line.thread line.call (own_of th)) (standing st (space_of th)) (reply, own_of new) (standing next (space_of new)) in
    let who : who_of line.number th ≡ who_in line = ap (λ (n : ℕ). record { thread = n; line = line.number }) number in
    let d : D (who_in line) = subst D who c.does in
    plays_call (λ (v : SerialState). v) port (reply, own_of new) refl (record { tunables = tunables; tells = tells }) d.goes

left_world : {K : Type 0} (threads : List (Thread K)) (k n : ℕ) (new : Thread K) → k ≡ n → set (map thread_world threads) n (thread_world new) ≡ map thread_world (set threads k new)
left_world threads k n new is = ap (λ i. set (map thread_world threads) i (thread_world new)) (sym is) ∙ sym (map-set thread_world threads k new)

pub step_told : {K : Type 0} (port : Port K) (t : Tunables) (line : Line) (threads : List (Thread K)) (st next : SerialState) (th new end : Thread K) (reply : Reply) (k : ℕ) → k ≡ line.thread → slice_get threads line.thread ≡ Some th →
    AreBetweenCalls t threads st → All (ThreadTells port) threads → Calls port t line th st reply new next → EndsLine line new end → step port t line (world_with threads st) ≡ Some (reply, world_with (set threads k end) next)
unfolding step
step_told {K} port t line threads st next th new end reply k is at s tells c e =
    let w : World K = world_with threads st in
    let p = plays_line port t line th new st next reply (s.ready line.thread th at).numbered s.tunables (tells_there port threads line.thread th at tells) c in
    ap (option_and_then (λ (x : ThreadWorld K). option_map (answer_left w line) (played_line port t line w x))) (world_there threads line.thread th at)
    ∙ ap (option_map (answer_left w line)) p.played
    ∙ ap (λ ts. Some (reply, record (world_with threads next) { threads = ts })) (left_world threads k line.thread (thread_tidied (name_in line.call) new) is)
    ∙ ap (λ (x : Thread K). Some (reply, world_with (set threads k x) next)) (sym e.is)

pub tells_next : {K : Type 0} (port : Port K) (t : Tunables) (line : Line) (threads : List (Thread K)) (st next : SerialState) (th new end : Thread K) (reply : Reply) (k : ℕ) → slice_get threads line.thread ≡ Some th →
    AreBetweenCalls t threads st → All (ThreadTells port) threads → Calls port t line th st reply new next → EndsLine line new end → All (ThreadTells port) (set threads k end)
tells_next port t line threads st next th new end reply k at s tells c e =
    All-set (ThreadTells port) threads k end
    (subst (ThreadTells port) (sym e.is)
    (plays_line port t line th new st next reply (s.ready line.thread th at).numbered s.tunables (tells_there port threads line.thread th at tells) c).at.tells) tells

-- ---- what it leaves

pub line_left : {K : Type 0} (port : Port K) (t : Tunables) (line : Line) (threads : List (Thread K)) (st next : SerialState) (th new end : Thread K) (reply : Reply) (k : ℕ) → k ≡ line.thread → slice_get threads line.thread ≡ Some th →
    Calls port t line th st reply new next → EndsLine line new end → LeavesLine line reply (world_with threads st) (world_with (set threads k end) next)
line_left port t line threads st next th new end reply k is at c e = record {
  old = thread_world th;
  new = thread_world end;
  thread = world_there threads line.thread th at;
  threads = sym (left_world threads k line.thread end is);
  blocks = ended_leaves line reply (names_of th) new end st.trays next.trays e c.blocks;
}

pub step_settled : {K : Type 0} (port : Port K) (t : Tunables) (line : Line) (threads : List (Thread K)) (st next : SerialState) (th new end : Thread K) (reply : Reply) (k : ℕ) → k ≡ line.thread → slice_get threads line.thread ≡ Some th →
    Calls port t line th st reply new next → EndsLine line new end → AreBetweenCalls t threads st → AreBetweenCalls t (set threads k end) next
step_settled port t line threads st next th new end reply k is at c e s =
    subst (λ i. AreBetweenCalls t (set threads i end) next) (sym is) (settled_next t threads st next line.thread th end at (ended_keeps line th new end st next e c.keeps) e.held s)
