-- The threads of a trace and what their calls go over: each thread's cache, blocks by name and address space, and the arenas with
-- their fast bins, the words beside them, the book of arenas and the trays (this project's own). The rules of a call are those of
-- malloc_calls and own_blocks.
use Rattle.std.specs.Prelude.{ℕ, ◌+◌, List, [], ◌∷◌, Option, Some, None, option_map, slice_get, slice_set}
use Rattle.std.specs.Option.{option_and_then}
use Rattle.chunk_tags.specs.declared.tunables.Tunables.{Tunables}
use Rattle.address_space.specs.declared.space.Space.{Space}
use Rattle.address_space.specs.Ports.{Port}
use Rattle.address_space.specs.Spaces.{new_space}
use Rattle.mapped_chunks.specs.declared.plain.DialState.{DialState}
use Rattle.arena_rules.specs.Rules.{windows_of}
use Rattle.arena_core.specs.declared.journal.Who.{Who}
use Rattle.arena_choice.specs.Books.{BookValue, first_book}
use Rattle.own_blocks.specs.declared.own.Own.{Own}
use Rattle.own_blocks.specs.declared.reply.Reply.{Reply}
use Rattle.block_names.specs.Names.{with_place, tidied}
use Rattle.own_blocks.specs.Own.{new_own}
use Rattle.arena_holds.specs.Calls.{Call}
use Rattle.malloc_calls.specs.Mallocs.{malloc_call, calloc_call, posix_memalign_call}
use Rattle.malloc_calls.specs.Reallocs.{realloc_call}
use Rattle.own_blocks.specs.Frees.{free_call}
use Rattle.own_blocks.specs.Exits.{exit_call}
use Rattle.malloc_calls.specs.Trays.{post_call, take_call}
use Rattle.serial_places.specs.SerialWays.{SerialWorld, WorldSlot, first_slots, first_words, played_call}
use Rattle.serial_places.specs.Trays.{empty_trays}
use Rattle.serial_places.specs.declared.tray.Tray.{Tray}
use Rattle.trace_text.specs.declared.trace.Call.TheVariants as calls
use Rattle.trace_text.specs.declared.trace.Call as traced
use Rattle.trace_text.specs.declared.trace.Line.{Line}

-- what a thread has of its own
pub record ThreadWorld (K : Type 0) : Type 0 where
  pub own : Own
  pub space : Space K

-- the threads by number; and the arenas with their fast bins, in slots by number, the words, the book of arenas and the trays
pub record World (K : Type 0) : Type 0 where
  pub threads : List (ThreadWorld K)
  pub slots : List (Option WorldSlot)
  pub dials : DialState
  pub book : BookValue
  pub trays : List Tray

-- threads that begin, one over each port, the first with this number
abbrev pub first_thread : {K : Type 0} → Tunables → ℕ → K → ThreadWorld K
first_thread t number kernel = record { own = new_own; space = new_space kernel number (windows_of t) }

abbrev pub first_threads : {K : Type 0} → Tunables → ℕ → List K → List (ThreadWorld K)
first_threads t number [] = []
first_threads t number (kernel ∷ kernels) = first_thread t number kernel ∷ first_threads t (number + 1) kernels

-- the world that a run begins with, over the port of each thread
abbrev pub opening_world : {K : Type 0} → Tunables → List K → World K
opening_world t kernels = record {
  threads = first_threads t 0 kernels;
  slots = first_slots;
  dials = first_words t;
  book = first_book t.records;
  trays = empty_trays;
}

-- who a thread is in a line
abbrev pub who_in : Line → Who
who_in line = record { thread = line.thread; line = line.number }

-- the thread with a place for a name
abbrev pub own_with_place : ℕ → Own → Own
own_with_place name own = record own { names = with_place name own.names }

-- the call of a line of a thread
abbrev pub call_of : Tunables → ℕ → traced.Call → Own → Call (Reply × Own)
call_of t thread (calls.Malloc name size) own = malloc_call t thread name size (own_with_place name own)
call_of t thread (calls.Calloc name n size) own = calloc_call t thread name n size (own_with_place name own)
call_of t thread (calls.Realloc name size) own = realloc_call t thread name size (own_with_place name own)
call_of t thread (calls.Align name align size) own = posix_memalign_call t thread name align size (own_with_place name own)
call_of t thread (calls.Free name) own = free_call t thread name (own_with_place name own)
call_of t thread (calls.Post name tray) own = post_call name tray (own_with_place name own)
call_of t thread (calls.Take name tray) own = take_call name tray (own_with_place name own)
call_of t thread calls.Exit own = exit_call t thread own

-- the name of a call; the end of a thread has none
abbrev pub name_in : traced.Call → Option ℕ
name_in (calls.Malloc name size) = Some name
name_in (calls.Calloc name n size) = Some name
name_in (calls.Realloc name size) = Some name
name_in (calls.Align name align size) = Some name
name_in (calls.Free name) = Some name
name_in (calls.Post name tray) = Some name
name_in (calls.Take name tray) = Some name
name_in calls.Exit = None

-- the thread at the end of its line: the place of the line's name goes, where that is one of its own and empty
abbrev pub own_tidied : Option ℕ → Own → Own
own_tidied None own = own
own_tidied (Some name) own = record own { names = tidied name own.names }

-- what a thread's call goes over
abbrev pub serial_of : {K : Type 0} → World K → ThreadWorld K → SerialWorld K
serial_of w th = record { slots = w.slots; dials = w.dials; book = w.book; trays = w.trays; space = th.space }

-- the world at the end of a line whose call left this
abbrev pub world_left : {K : Type 0} → World K → Line → Own → SerialWorld K → World K
world_left w line own s = record {
  threads = slice_set w.threads line.thread (record { own = own_tidied (name_in line.call) own; space = s.space });
  slots = s.slots;
  dials = s.dials;
  book = s.book;
  trays = s.trays;
}

abbrev pub answer_left : {K : Type 0} → World K → Line → (Reply × Own) × SerialWorld K → Reply × World K
answer_left w line played = (played.0.0, world_left w line played.0.1 played.1)

-- the call of a line, over what its thread has
abbrev pub played_line : {K : Type 0} → Port K → Tunables → Line → World K → ThreadWorld K → Option ((Reply × Own) × SerialWorld K)
played_line port t line w th = played_call port t (who_in line) (call_of t line.thread line.call th.own) (serial_of w th)

-- one line of the trace: the reply, and the world; `None` where the call has no world to go to
unfoldable pub step : {K : Type 0} → Port K → Tunables → Line → World K → Option (Reply × World K)
step port t line w =
    option_and_then (λ th. option_map (answer_left w line) (played_line port t line w th)) (slice_get w.threads line.thread)
