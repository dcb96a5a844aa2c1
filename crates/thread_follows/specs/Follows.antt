-- What a report of threads is held against: its records and its final state follow from the journals that it prints
-- (this project's own).
use Rattle.std.specs.Prelude.{◌≡◌, ℕ, ◌+◌, ◌++◌, nat_eq, List, [], ◌∷◌, length, map, sum_by, if◌then◌else◌}
use Rattle.std.specs.List.{flat_map}
use Rattle.chunk_tags.specs.declared.block.Block.{Block}
use Rattle.chunk_tags.specs.declared.tunables.Tunables.{Tunables}
use Rattle.fast_bins.specs.PlainBins.{FastState}
use Rattle.mapped_chunks.specs.declared.plain.DialState.{DialState}
use Rattle.arena_rules.specs.PlainArena.{Plain}
use Rattle.arena_core.specs.Journal.{Recorded}
use Rattle.arena_core.specs.Replay.{IsReplay}
use Rattle.arena_choice.specs.Books.{BookValue}
use Rattle.arena_holds.specs.Going.{Told, Held}
use Rattle.arena_holds.specs.Places.{KeptArena, new_arena}
use Rattle.own_blocks.specs.declared.own.Own.{Own}
use Rattle.own_blocks.specs.declared.reply.Reply.{Reply}
use Rattle.own_blocks.specs.Own.{new_own}
use Rattle.trace_text.specs.declared.trace.Line.{Line}
use Rattle.call_told.specs.Deeds.{entries_told, posts_told, takes_told}
use Rattle.thread_follows.specs.Lines.{AreCalls, lines_by}

-- What is left at the end: the arenas with their journals, by number; the fast bins of each; the book; the blocks in full trays;
-- and the words.
pub record FinalState : Type 0 where
  pub arenas : List KeptArena
  pub fast : List FastState
  pub book : BookValue
  pub trays : List (ℕ × Block)
  pub dials : DialState

-- one thread of a report: its number, its lines with their replies, and what it has at the end
pub record ThreadRun : Type 0 where
  pub number : ℕ
  pub replies : List (Line × Reply)
  pub own : Own

-- the journal of the arena with a number
abbrev pub journal_in : List KeptArena → ℕ → List Recorded
journal_in [] a = []
journal_in (k ∷ ks) a = if nat_eq k.arena.number a then k.journal else journal_in ks a

-- the entries of a thread in a journal whose first entry has this place, each with its place
abbrev pub placed_by : ℕ → ℕ → List Recorded → List (ℕ × Recorded)
placed_by thread n [] = []
placed_by thread n (e ∷ es) = if nat_eq e.who.thread thread then (n, e) ∷ placed_by thread (n + 1) es else placed_by thread (n + 1) es

-- an entry stands at its place, and the arena before it is what the entries before it give
pub record StandsAt (t : Tunables) (journal : List Recorded) (a place : ℕ) (before : Plain) (entry : Recorded) : Type 0 where
  pub front : List Recorded
  pub rest : List Recorded
  pub at : journal ≡ front ++ entry ∷ rest
  pub place_is : length front ≡ place
  pub replays : IsReplay t (new_arena t a) front before

-- so does each entry of a hold that was told
abbrev pub AllStand : Tunables → List KeptArena → List Told → Type 0
AllStand t arenas [] = Unit {0}
AllStand t arenas (Held a place before entry ∷ told) = StandsAt t (journal_in arenas a) a place before entry × AllStand t arenas told
AllStand t arenas (x ∷ told) = AllStand t arenas told

-- all that was told in the lines of a thread
abbrev pub all_told : List (List Told) → List Told
all_told tolds = flat_map (λ told. told) tolds

-- One thread follows, with what its lines were told: it has a record for each of its lines; each is what the rules give, and so
-- is what is left; and the entries told are exactly those of the journals that are this thread's.
pub record FollowsThread (t : Tunables) (f : FinalState) (lines : List Line) (run : ThreadRun) (tolds : List (List Told)) : Type 0 where
  pub lines_are : map (λ r. r.0) run.replies ≡ lines_by run.number lines
  pub calls : AreCalls t run.replies tolds new_own run.own
  pub stand : AllStand t f.arenas (all_told tolds)
  pub exactly : (a : ℕ) → entries_told a (all_told tolds) ≡ placed_by run.number 0 (journal_in f.arenas a)

-- a thread, and what its lines were told
pub record ToldRun : Type 0 where
  pub run : ThreadRun
  pub tolds : List (List Told)

abbrev pub weigh_posts : (ℕ × Block → ℕ) → ToldRun → ℕ
weigh_posts h r = sum_by h (posts_told (all_told r.tolds))

abbrev pub weigh_takes : (ℕ × Block → ℕ) → ToldRun → ℕ
weigh_takes h r = sum_by h (takes_told (all_told r.tolds))

-- each thread of a list follows, the first having this number
abbrev pub AllFollow : Tunables → FinalState → List Line → ℕ → List ToldRun → Type 0
AllFollow t f lines n [] = Unit {0}
AllFollow t f lines n (r ∷ rs) = (r.run.number ≡ n) × (FollowsThread t f lines r.run r.tolds × AllFollow t f lines (n + 1) rs)

-- All threads follow, from number 0 on; and what was posted was taken, or is in a tray at the end, as often.
pub record Follows (t : Tunables) (f : FinalState) (lines : List Line) (runs : List ThreadRun) : Type 0 where
  pub tolds : List ToldRun
  pub runs_are : map (λ r. r.run) tolds ≡ runs
  pub threads : AllFollow t f lines 0 tolds
  pub trays : (h : ℕ × Block → ℕ) → sum_by (weigh_posts h) tolds ≡ sum_by (weigh_takes h) tolds + sum_by h f.trays
