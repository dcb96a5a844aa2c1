-- What a view lists behind steps over a board (this project's own).
use Rattle.std.specs.Prelude.{◌≡◌, ℕ, ◌+◌, ◌++◌, List, Some, sum_by}
use Rattle.chunk_tags.specs.declared.tunables.Tunables.{Tunables}
use Rattle.arena_holds.specs.Going.{Told}
use Rattle.board_types.specs.Views.{Added, Posted}
use Rattle.board_types.specs.Flat.{FlatView}
use Rattle.thread_places.specs.ListedTold.{posts_told, takes_told, AreAdded}
use Rattle.thread_places.specs.BoardWays.{BoardState}

-- The pass was here and is here again: behind the entries that it listed stand those that were told, in order, and by any weight
-- it lists so much more that was posted, and taken.
pub record Lists (t : Tunables) (old new : BoardState) (told : List Told) : Type 0 where
  pub view : FlatView
  pub now : FlatView
  pub more : List Added
  pub at : old.here ≡ Some view
  pub tuned : view.tunables ≡ t
  pub then : new.here ≡ Some now
  pub added : now.added ≡ view.added ++ more
  pub are : AreAdded t told more
  pub posts : (h : Posted → ℕ) → sum_by h now.posts ≡ sum_by h view.posts + sum_by h (posts_told told)
  pub takes : (h : Posted → ℕ) → sum_by h now.takes ≡ sum_by h view.takes + sum_by h (takes_told told)
