-- What two passes have as one, and where the chunks are once one pass is left (this project's own).
use Rattle.std.specs.Prelude.{◌≡◌, ℕ, ◌+◌, ◌≤◌, List, [], ◌++◌}
use Rattle.chunk_tags.specs.declared.tiles.Chunk.{Chunk}
use Rattle.board_types.specs.Views.{HomeValue, PlacesView}
use Rattle.board_types.specs.Weights.{each}
use Rattle.board_types.specs.Trays.{Tray}
use Rattle.board_types.specs.Dials.{full}
use Rattle.board_types.specs.Chains.{times_own, in_lists}
use Rattle.board_types.specs.Places.{as_chunk_of, times_in, used_at}

-- two passes as one: what both have, and all that their unlocks changed
abbrev pub places_together : PlacesView → PlacesView → PlacesView
places_together v w = record {
  mine = v.mine ++ w.mine;
  made = v.made ++ w.made;
  unmade = v.unmade ++ w.unmade;
  pending = v.pending ++ w.pending;
}

-- What the one pass says that is left: each used chunk is its own, in a full tray, or in a chain or private list; the chunks that
-- came to be used are those that are, and those that ceased to be; and none is pushed that its arena doesn't have as used.
pub record AreAllPlaced (last : List HomeValue) (chains own : List (List ℕ)) (trays : List Tray) (v : PlacesView) : Type 0 where
  pub one_place : (a : ℕ) (c : Chunk) →
      times_in a c v.mine + (each (full (as_chunk_of a c)) 0 trays + (in_lists a c 0 chains + in_lists a c 0 own)) ≡ used_at last a c
  pub once : (a : ℕ) (c : Chunk) → used_at last a c ≤ 1
  pub changed : (a : ℕ) (c : Chunk) → times_own a c v.made ≡ used_at last a c + times_own a c v.unmade
  pub pending : v.pending ≡ []
