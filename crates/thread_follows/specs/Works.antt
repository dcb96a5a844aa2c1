-- What a worker promises of its thread, and what closing the board promises of the final state (this project's own).
use Rattle.std.specs.Prelude.{◌≡◌, ℕ, ◌+◌, ◌++◌, List, [], ◌∷◌, map, sum_by}
use Rattle.chunk_tags.specs.declared.block.Block.{Block}
use Rattle.chunk_tags.specs.declared.tunables.Tunables.{Tunables}
use Rattle.arena_core.specs.Journal.{Recorded}
use Rattle.arena_holds.specs.Going.{Told}
use Rattle.arena_holds.specs.Places.{KeptArena}
use Rattle.own_blocks.specs.Own.{new_own}
use Rattle.trace_text.specs.declared.trace.Line.{Line}
use Rattle.board_types.specs.Flat.{FlatView}
use Rattle.board_types.specs.Views.{Added, Posted as PostedBlock}
use Rattle.call_told.specs.Deeds.{posts_told, takes_told}
use Rattle.thread_follows.specs.Listed.{AreAdded, entries_in}
use Rattle.thread_follows.specs.Lines.{AreCalls, lines_by}
use Rattle.thread_follows.specs.Follows.{FinalState, ThreadRun, journal_in, placed_by, all_told}

-- one worker: its thread's run, what that was told, and the view of the pass that it retired
pub record Worker : Type 0 where
  pub run : ThreadRun
  pub tolds : List (List Told)
  pub view : FlatView

-- the weight of a block with its tray, as a view has it
abbrev pub weight_of : (ℕ × Block → ℕ) → PostedBlock → ℕ
weight_of h p = h (p.tray, p.block)

-- What a worker promises, where it has a record for each line of its thread. A view has its posts and its takes in another
-- order than they were told in, so they are compared by weight.
pub record Works (t : Tunables) (lines : List Line) (w : Worker) : Type 0 where
  pub number : w.view.number ≡ w.run.number
  pub lines_are : map (λ r. r.0) w.run.replies ≡ lines_by w.run.number lines
  pub calls : AreCalls t w.run.replies w.tolds new_own w.run.own
  pub added : AreAdded t (all_told w.tolds) w.view.added
  pub posts : (h : ℕ × Block → ℕ) → sum_by (weight_of h) w.view.posts ≡ sum_by h (posts_told (all_told w.tolds))
  pub takes : (h : ℕ × Block → ℕ) → sum_by (weight_of h) w.view.takes ≡ sum_by h (takes_told (all_told w.tolds))

-- an entry that a view lists stands behind the journal that the arena had
pub record IsPlacedAt (arenas : List KeptArena) (x : Added) : Type 0 where
  pub rest : List Recorded
  pub at : journal_in arenas x.arena ≡ x.before ++ x.entry ∷ rest

abbrev pub AllPlaced : List KeptArena → List Added → Type 0
AllPlaced arenas [] = Unit {0}
AllPlaced arenas (x ∷ xs) = IsPlacedAt arenas x × AllPlaced arenas xs

-- What closing promises of the view of a pass: the entries that it lists stand at their places, and are all of its thread.
pub record IsListed (f : FinalState) (n : ℕ) (v : FlatView) : Type 0 where
  pub number : v.number ≡ n
  pub placed : AllPlaced f.arenas v.added
  pub entries : (a : ℕ) → entries_in a v.added ≡ placed_by v.number 0 (journal_in f.arenas a)

abbrev pub AllListed : FinalState → ℕ → List FlatView → Type 0
AllListed f n [] = Unit {0}
AllListed f n (v ∷ vs) = IsListed f n v × AllListed f (n + 1) vs

-- and of all: what was posted was taken, or is in a tray, as often
pub record IsLawful (views : List FlatView) (f : FinalState) : Type 0 where
  pub listed : AllListed f 0 views
  pub trays : (h : ℕ × Block → ℕ) → sum_by (λ v. sum_by (weight_of h) v.posts) views ≡ sum_by (λ v. sum_by (weight_of h) v.takes) views + sum_by h f.trays

abbrev pub AllWork : Tunables → List Line → List Worker → Type 0
AllWork t lines [] = Unit {0}
AllWork t lines (w ∷ ws) = Works t lines w × AllWork t lines ws
