-- A call of a thread at a tray, with a place for a name.
use Rattle.std.proofs.Common.{List}
use Rattle.chunk_tags.specs.declared.tunables.Tunables.{Tunables}
use Rattle.address_space.specs.Ports.{Port}
use Rattle.arena_core.specs.declared.journal.Who.{Who}
use Rattle.own_blocks.specs.declared.own.Own.{Own}
use Rattle.own_blocks.specs.declared.reply.Reply.{Reply}
use Rattle.malloc_calls.specs.declared.thread.Thread.{Thread}
use Rattle.malloc_calls.specs.Threads.{own_of, space_of}
use Rattle.arena_holds.specs.Calls.{Call}
use Rattle.arena_holds.specs.Going.{Does}
use Rattle.arena_holds.specs.Places.{standing}
use Rattle.serial_places.specs.SerialWays.{SerialState, serial_setting}
use Rattle.serial_places.specs.declared.tray.Tray.{Tray}
use Rattle.trace_replay.proofs.CallEnds.{AllEnds, does_ends}

-- who calls isn't seen at trays, nor the tunables
abbrev pub DoesAsAny : {K : Type 0} → Port K → Call (Reply × Own) → Thread K → SerialState → Reply → Thread K → SerialState → Type 0
DoesAsAny port call th st reply new next = (t : Tunables) (who : Who) →
    Does (serial_setting (λ (v : SerialState). v) port) t who call (standing st (space_of th)) (reply, own_of new) (standing next (space_of new))

-- what is true of its end, where that is true of each
pub tray_result : {K : Type 0} (port : Port K) (t : Tunables) (who : Who) (call : Call (Reply × Own)) (there new : Thread K) (st next : SerialState) (Q : Reply × Own → List Tray → Type 0) (reply : Reply) →
    AllEnds Q call st.trays → DoesAsAny port call there st reply new next → Q (reply, own_of new) next.trays
tray_result port t who call there new st next Q reply ends does =
    (does_ends port t who call (standing st (space_of there)) (standing next (space_of new)) Q (reply, own_of new) ends (does t who)).result
