-- The call of a line, by its kind.
use Rattle.std.proofs.Common.{◌≡◌, ℕ, Result, sym, subst}
use Rattle.std.specs.Prelude.{IfOk}
use Rattle.chunk_tags.specs.declared.refusals.NoMemory.{NoMemory}
use Rattle.chunk_tags.specs.declared.tunables.Tunables.{Tunables}
use Rattle.address_space.specs.Ports.{Port}
use Rattle.own_blocks.specs.declared.reply.Reply.{Reply}
use Rattle.malloc_calls.specs.declared.thread.Thread.{Thread}
use Rattle.malloc_calls.specs.Threads.{own_of, names_of, number_of}
use Rattle.serial_places.specs.SerialWays.{SerialState}
use Rattle.trace_text.specs.declared.trace.Call.{Call}
use Rattle.trace_text.specs.declared.trace.Line.{Line}
use Rattle.trace_replay.specs.Naming.{LeavesBlocks}
use Rattle.trace_replay.specs.Processes.{KeepsOn, DoesAt, Calls}
use Rattle.trace_replay.specs.World.{call_of}
use Rattle.trace_replay.proofs.Results.{if_ok₃}

pub called : {K : Type 0} (port : Port K) (t : Tunables) (line : Line) (call : Call) (th new : Thread K) (st next : SerialState) (r : Result Reply NoMemory) → line.call ≡ call → number_of th ≡ line.thread →
    IfOk r (λ reply. DoesAt port t line.number (call_of t (number_of th) call (own_of th)) th st reply new next) → IfOk r (λ reply. KeepsOn th st new next) →
    IfOk r (λ reply. LeavesBlocks line reply (names_of th) (names_of new) st.trays next.trays) → IfOk r (λ reply. Calls port t line th st reply new next)
called port t line call th new st next r is number does keeps blocks =
    if_ok₃ (λ reply. DoesAt port t line.number (call_of t (number_of th) call (own_of th)) th st reply new next) (λ reply. KeepsOn th st new next)
    (λ reply. LeavesBlocks line reply (names_of th) (names_of new) st.trays next.trays) (λ reply. Calls port t line th st reply new next) r
    (λ reply d k b. record {
      does = subst (λ (c : Call). DoesAt port t line.number (call_of t line.thread c (own_of th)) th st reply new next) (sym is)
          (subst (λ (n : ℕ). DoesAt port t line.number (call_of t n call (own_of th)) th st reply new next) number d);
      keeps = k;
      blocks = b;
    })
    does keeps blocks
