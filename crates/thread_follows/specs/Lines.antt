-- The lines of one thread as calls in a row (this project's own).
use Rattle.std.specs.Prelude.{◌≡◌, ℕ, nat_eq, List, [], ◌∷◌, Option, Some, None}
use Rattle.std.specs.List.{filter}
use Rattle.chunk_tags.specs.declared.tunables.Tunables.{Tunables}
use Rattle.arena_core.specs.declared.journal.Who.{Who}
use Rattle.arena_holds.specs.Calls.{Call}
use Rattle.arena_holds.specs.Going.{Told}
use Rattle.block_names.specs.Names.{with_place, tidied}
use Rattle.own_blocks.specs.declared.own.Own.{Own}
use Rattle.own_blocks.specs.declared.reply.Reply.{Reply}
use Rattle.malloc_calls.specs.Mallocs.{malloc_call, calloc_call, posix_memalign_call}
use Rattle.malloc_calls.specs.Reallocs.{realloc_call}
use Rattle.own_blocks.specs.Frees.{free_call}
use Rattle.own_blocks.specs.Exits.{exit_call}
use Rattle.malloc_calls.specs.Trays.{post_call, take_call}
use Rattle.trace_text.specs.declared.trace.Call.TheVariants as calls
use Rattle.trace_text.specs.declared.trace.Call as traced
use Rattle.trace_text.specs.declared.trace.Line.{Line}
use Rattle.call_told.specs.Obeys.{Obeys}

abbrev pub who_in : Line → Who
who_in line = record { thread = line.thread; line = line.number }

abbrev pub own_with_place : ℕ → Own → Own
own_with_place name own = record own { names = with_place name own.names }

-- the call of a line of a thread
abbrev pub call_of : Tunables → ℕ → traced.Call → Own → Call (Reply × Own)
call_of t thread (calls.Malloc name size) own = malloc_call t thread name size (own_with_place name own)
call_of t thread (calls.Calloc name n size) own = calloc_call t thread name n size (own_with_place name own)
call_of t thread (calls.Realloc name size) own = realloc_call t thread name size (own_with_place name own)
call_of t thread (calls.Align name align size) own = posix_memalign_call t thread name align size (own_with_place name own)
call_of t thread (calls.Free name) own = free_call t thread name (own_with_place name own)
call_of t thread (calls.Post name tray) own = post_call name tray (own_with_place name own)
call_of t thread (calls.Take name tray) own = take_call name tray (own_with_place name own)
call_of t thread calls.Exit own = exit_call t thread own

abbrev pub name_in : traced.Call → Option ℕ
name_in (calls.Malloc name size) = Some name
name_in (calls.Calloc name n size) = Some name
name_in (calls.Realloc name size) = Some name
name_in (calls.Align name align size) = Some name
name_in (calls.Free name) = Some name
name_in (calls.Post name tray) = Some name
name_in (calls.Take name tray) = Some name
name_in calls.Exit = None

abbrev pub own_tidied : Option ℕ → Own → Own
own_tidied None own = own
own_tidied (Some name) own = record own { names = tidied name own.names }

-- one line: its call goes so with what it was told, to this reply, and the rest from what that leaves
pub record LineCall (t : Tunables) (line : Line) (reply : Reply) (told : List Told) (own : Own) (Rest : Own → Type 0) : Type 0 where
  pub left : Own
  pub obeys : Obeys t (who_in line) (call_of t line.thread line.call own) told (reply, left)
  pub rest : Rest (own_tidied (name_in line.call) left)

-- lines in a row, each with its reply and with what it was told, from this to that
abbrev pub AreCalls : Tunables → List (Line × Reply) → List (List Told) → Own → Own → Type 0
AreCalls t [] [] own end = end ≡ own
AreCalls t (r ∷ rs) (told ∷ tolds) own end = LineCall t r.0 r.1 told own (λ next. AreCalls t rs tolds next end)
AreCalls t rs tolds own end = ⊥

-- the lines of a thread
abbrev pub lines_by : ℕ → List Line → List Line
lines_by thread lines = filter (λ line. nat_eq line.thread thread) lines
