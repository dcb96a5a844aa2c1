-- A process of the code, as the world that it stands for (this project's own). No public clause cites this file.
use Rattle.std.specs.Prelude.{◌≡◌, ℕ, ◌+◌, ◌≤◌, true, List, [], ◌∷◌, map, length, IsTrue, Option, Some, Result, sum_by, slice_get}
use Rattle.std.specs.List.{All}
use Rattle.chunk_tags.specs.declared.tunables.Tunables.{Tunables}
use Rattle.address_space.specs.Ports.{Port}
use Rattle.address_space.specs.Spaces.{space_tells, map_length, new_space}
use Rattle.arena_rules.specs.Rules.{windows_of}
use Rattle.own_blocks.specs.declared.own.Own.{Own}
use Rattle.own_blocks.specs.declared.reply.Reply.{Reply}
use Rattle.malloc_calls.specs.declared.thread.Thread.{Thread}
use Rattle.block_names.specs.Names.{IsTable, FarNamesRise}
use Rattle.own_blocks.specs.Own.{in_own}
use Rattle.malloc_calls.specs.Threads.{new_thread, own_of, with_own, names_of, space_of, number_of, who_of, IsSpaceOf}
use Rattle.arena_holds.specs.Calls.{Call}
use Rattle.arena_holds.specs.Going.{Does}
use Rattle.arena_holds.specs.Places.{tray_count, Hands, both_of, as_mapped_byte, given_byte, IsServed, standing}
use Rattle.serial_places.specs.SerialWays.{SerialState, Serves, Notes, IsWhole, seen_slots, state_ways, serial_setting}
use Rattle.serial_places.specs.Trays.{in_trays}
use Rattle.trace_text.specs.declared.trace.Line.{Line}
use Rattle.trace_replay.specs.declared.exit.Exit.{Exit}
use Rattle.trace_replay.specs.declared.process.Process.{Process}
use Rattle.trace_replay.specs.Naming.{LeavesBlocks}
use Rattle.trace_replay.specs.Runs.{Run, run_of}
use Rattle.trace_replay.specs.World.{World, ThreadWorld, call_of, name_in, own_tidied, step}

-- ---- its world

abbrev pub thread_world : {K : Type 0} → Thread K → ThreadWorld K
thread_world th = record { own = own_of th; space = space_of th }

abbrev pub world_with : {K : Type 0} → List (Thread K) → SerialState → World K
world_with threads st = record {
  threads = map thread_world threads;
  slots = seen_slots st.slots;
  dials = st.dials.state;
  book = st.book;
  trays = st.trays;
}

abbrev pub world_of : {K : Type 0} {g : _} → Process K g → World K
world_of p = world_with p.threads.items p.serial

-- whether the kernel of a thread tells, and those of all threads
abbrev pub ThreadTells : {K : Type 0} → Port K → Thread K → Type 0
ThreadTells port th = IsTrue (space_tells port (space_of th))

abbrev pub Tells : {K : Type 0} {g : _} → Port K → Process K g → Type 0
Tells port p = All (ThreadTells port) p.threads.items

-- what the rules give from its world: a line, and a run
abbrev pub step_in : {K : Type 0} {g : _} → Port K → Line → Process K g → Option (Reply × World K)
step_in port line p = step port p.t line (world_of p)

abbrev pub run_in : {K : Type 0} {g : _} → Port K → List Line → Process K g → Result (Run K) Exit
run_in port lines p = run_of port p.t lines (world_of p)

-- threads that begin, the first with this number
abbrev pub started_threads : {K : Type 0} → Tunables → ℕ → List K → List (Thread K)
started_threads t number [] = []
started_threads t number (kernel ∷ kernels) =
    new_thread number (new_space kernel number (windows_of t)) ∷ started_threads t (number + 1) kernels

-- ---- between two calls

-- the blocks of threads
abbrev pub in_threads : {K : Type 0} → List (Thread K) → Hands
in_threads threads weigh = sum_by (λ th. in_own (own_of th) weigh) threads

-- the bytes of their windows for mappings that they were given; and how many were given a byte
abbrev pub bytes_given : {K : Type 0} → List (Thread K) → ℕ
bytes_given threads = sum_by (λ th. (space_of th).mapped) threads

abbrev pub times_given_to : {K : Type 0} → ℕ → List (Thread K) → ℕ
times_given_to n threads = sum_by (λ th. given_byte n (space_of th)) threads

-- a thread with its number, in its own address space behind these windows, which holds what it may
pub record IsReady {K : Type 0} (t : Tunables) (number : ℕ) (th : Thread K) : Type 0 where
  pub numbered : number_of th ≡ number
  pub space : IsSpaceOf number (space_of th)
  pub windows : (space_of th).windows ≡ windows_of t
  pub inside : (space_of th).mapped ≤ map_length
  pub held : IsTable (names_of th)

-- Between two calls: the threads have their numbers, the places serve exactly the blocks of all of them, each arena of the book
-- is there, the mapped chunks are noted, and no byte of these is in two of them or in none of the windows.
pub record AreBetweenCalls {K : Type 0} (t : Tunables) (threads : List (Thread K)) (st : SerialState) : Type 0 where
  pub count : length threads ≡ 64
  pub ready : (number : ℕ) (th : Thread K) → slice_get threads number ≡ Some th → IsReady t number th
  pub exact : Serves true st (in_threads threads)
  pub whole : IsWhole st
  pub trays : length st.trays ≡ tray_count
  pub tunables : st.tunables ≡ t
  pub noted : st.dials.state.mapped ≤ bytes_given threads
  pub noted_bytes : st.dials.state.bytes ≤ bytes_given threads
  pub apart : (n : ℕ) → in_trays st.trays (as_mapped_byte n) + in_threads threads (as_mapped_byte n) ≤ times_given_to n threads

abbrev pub IsBetweenCalls : {K : Type 0} {g : _} → Process K g → Type 0
IsBetweenCalls p = AreBetweenCalls p.t p.threads.items p.serial

-- ---- a call of a thread

-- what a call of a thread needs of where it stands
abbrev pub IsServedBy : {K : Type 0} → Tunables → Thread K → SerialState → Type 0
IsServedBy t th st = IsServed state_ways t (in_own (own_of th)) (standing st (space_of th))

-- What it keeps, where all went well: what others have is given out still, and the thread's new blocks; mappings are noted; no
-- byte of a mapped chunk came to the thread or to a tray but from one of these or from the thread's window; each arena of the
-- book is there; and the thread is ready.
pub record KeepsOn {K : Type 0} (th : Thread K) (st : SerialState) (new : Thread K) (next : SerialState) : Type 0 where
  pub serves : (others : Hands) → Serves true st (both_of (in_own (own_of th)) others) → Serves true next (both_of (in_own (own_of new)) others)
  pub notes : (others : ℕ) → Notes st (space_of th).mapped others → Notes next (space_of new).mapped others
  pub bytes : (n : ℕ) → in_trays next.trays (as_mapped_byte n) + in_own (own_of new) (as_mapped_byte n) + given_byte n (space_of th)
      ≤ in_trays st.trays (as_mapped_byte n) + in_own (own_of th) (as_mapped_byte n) + given_byte n (space_of new)
  pub whole : IsWhole st → IsWhole next
  pub trays : length next.trays ≡ length st.trays
  pub tunables : next.tunables ≡ st.tunables
  pub ready : (t : Tunables) (number : ℕ) → IsTable (names_of new) → IsReady t number th → IsReady t number new

-- it does these steps
abbrev pub DoesAt : {K : Type 0} → Port K → Tunables → ℕ → Call (Reply × Own) → Thread K → SerialState → Reply → Thread K → SerialState → Type 0
DoesAt port t line call th st reply new next =
    Does (serial_setting (λ s. s) port) t (who_of line th) call (standing st (space_of th)) (reply, own_of new) (standing next (space_of new))

-- A line's call went to its end.
pub record Calls {K : Type 0} (port : Port K) (t : Tunables) (line : Line) (th : Thread K) (st : SerialState) (reply : Reply) (new : Thread K) (next : SerialState) : Type 0 where
  pub does : DoesAt port t line.number (call_of t line.thread line.call (own_of th)) th st reply new next
  pub keeps : KeepsOn th st new next
  pub blocks : LeavesBlocks line reply (names_of th) (names_of new) st.trays next.trays

-- A line's thread at its end, where its call left this; all that a thread has is a table.
pub record EndsLine {K : Type 0} (line : Line) (left end : Thread K) : Type 0 where
  pub is : end ≡ with_own (own_tidied (name_in line.call) (own_of left)) left
  pub rising : FarNamesRise (names_of left)
  pub table : IsTable (names_of left)
  pub held : IsTable (names_of end)
