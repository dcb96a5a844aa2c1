-- Where a line of a trace is left for want of memory (this project's own). No public clause cites this file.
use Rattle.std.specs.Prelude.{◌≡◌, ◌⊎◌, ℕ, false, List, Some, None, take, slice_get, slice_set}
use Rattle.chunk_tags.specs.declared.tunables.Tunables.{Tunables}
use Rattle.address_space.specs.Ports.{Port}
use Rattle.arena_holds.specs.Places.{standing}
use Rattle.block_names.specs.Names.{has_place, block_at}
use Rattle.own_blocks.specs.LeftCalls.{IsLeft}
use Rattle.own_blocks.specs.declared.reply.Reply.{Reply}
use Rattle.malloc_calls.specs.declared.thread.Thread.{Thread}
use Rattle.malloc_calls.specs.Threads.{names_of, number_of, own_of, space_of, who_of}
use Rattle.serial_places.specs.SerialWays.{SerialState, serial_setting}
use Rattle.trace_text.specs.declared.trace.Call.{Call}
use Rattle.trace_text.specs.declared.trace.Line.{Line}
use Rattle.trace_replay.specs.declared.process.Process.{Process}
use Rattle.trace_replay.specs.declared.sheet.Sheet.{Sheet}
use Rattle.trace_replay.specs.Processes.{world_of, Tells, step_in, run_in, IsBetweenCalls}
use Rattle.trace_replay.specs.Sheets.{LacksRoomFor, NotesRun}
use Rattle.trace_replay.specs.World.{call_of, name_in}

-- ---- the call of a line

-- The name of a call has no place, and memory was short for one: nothing changed.
pub record LacksPlace {K : Type 0} (call : Call) (th : Thread K) (st : SerialState) (new : Thread K) (next : SerialState) : Type 0 where
  pub name : ℕ
  pub named : name_in call ≡ Some name
  pub none : has_place (names_of th) name ≡ false
  pub thread : new ≡ th
  pub places : next ≡ st

-- The call goes its way with a place for its name, and is left there where it asks for memory. No name gets a block, and all
-- but its own hold what they held.
pub record IsLeftThere {K : Type 0} (port : Port K) (t : Tunables) (line : ℕ) (call : Call) (th : Thread K) (st : SerialState) (new : Thread K) (next : SerialState) : Type 0 where
  pub left : IsLeft (serial_setting (λ s. s) port) t (who_of line th) (call_of t (number_of th) call (own_of th)) (standing st (space_of th)) (standing next (space_of new))
  pub none : (n : ℕ) → block_at (names_of th) n ≡ None → block_at (names_of new) n ≡ None
  pub others : (n : ℕ) → (name_in call ≡ Some n → ⊥) → block_at (names_of new) n ≡ block_at (names_of th) n

-- A line's call is left for want of memory: it has no place for its name, or it is left on its way with one.
abbrev pub IsCallLeft : {K : Type 0} → Port K → Tunables → ℕ → Call → Thread K → SerialState → Thread K → SerialState → Type 0
IsCallLeft port t line call th st new next = LacksPlace call th st new next ⊎ IsLeftThere port t line call th st new next

-- ---- a line of a process

-- A line is left in the call of its thread; all other threads have what they had.
pub record IsStepLeft {K : Type 0} {g : _} (port : Port K) (line : Line) (p left : Process K g) : Type 0 where
  pub old : Thread K
  pub new : Thread K
  pub thread : slice_get p.threads.items line.thread ≡ Some old
  pub threads : left.threads.items ≡ slice_set p.threads.items line.thread new
  pub call : IsCallLeft port p.t line.number line.call old p.serial new left.serial

-- The line went to its end, and memory was short for the record of its reply, which is longer than the room that is left.
pub record LacksRecord {K : Type 0} {g : _} (port : Port K) (line : Line) (p : Process K g) (sheet : Sheet) (left : Process K g) : Type 0 where
  pub reply : Reply
  pub told : Tells port p → step_in port line p ≡ Some (reply, world_of left)
  pub full : LacksRoomFor sheet line reply

-- A line is left, in its call or at its record.
abbrev pub IsLineLeft : {K : Type 0} {g : _} → Port K → Line → Process K g → Sheet → Process K g → Type 0
IsLineLeft port line p sheet left = IsStepLeft port line p left ⊎ LacksRecord port line p sheet left

-- A run of lines is left at one of them; those before it went through, from a process and a sheet to others.
pub record IsRunLeft {K : Type 0} {g : _} (port : Port K) (lines : List Line) (p : Process K g) (sheet : Sheet) (left : Process K g) : Type 0 where
  pub count : ℕ
  pub line : Line
  pub at : Process K g
  pub noted : Sheet
  pub next : slice_get lines count ≡ Some line
  pub ran : Tells port p → NotesRun sheet noted (run_in port (take count lines) p) (world_of at)
  pub settled : IsBetweenCalls at
  pub tunables : at.t ≡ p.t
  pub short : IsLineLeft port line at noted left
