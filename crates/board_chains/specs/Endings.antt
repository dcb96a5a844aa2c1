-- What two passes know of chains as one, and what chains are where one pass is left (this project's own).
use Rattle.std.specs.Prelude.{◌≡◌, ℕ, ◌+◌, ◌<◌, ◌/◌, None, List, [], ◌++◌, map, slice_index}
use mathlib.Core.Option.{some}
use lib.ListN.{get_elem?}
use Rattle.chunk_tags.specs.declared.tiles.Chunk.{Chunk}
use Rattle.board_types.specs.declared.layout.Layout.{Layout}
use Rattle.board_types.specs.Views.{HomeValue, ChainsView}
use Rattle.board_types.specs.Chains.{Spells, link_at, front, bins_of, times_own, in_lists}

-- two passes that hold nothing as one: both's pushes and pops, and nothing that is remembered
abbrev pub chains_together : ChainsView → ChainsView → ChainsView
chains_together v w = record {
  pushes = v.pushes ++ w.pushes;
  pops = v.pops ++ w.pops;
  written = None;
  loaded = None;
  own = [];
  gathered = [];
  flag = None;
  walk = None;
}

-- What one view says that is left: the links spell each chain from its head and each private list from its front, the fronts lie
-- with the arenas, and what was pushed was popped, or is in a chain or a private list.
pub record AreLast (k : Layout) (chains own : List (List ℕ)) (last : List HomeValue) (heads links : List ℕ)
    (v : ChainsView) : Type 0 where
  pub spelled : (i : ℕ) (cs : List ℕ) → get_elem? chains i ≡ some cs → Spells (link_at k links (i / 10)) cs (slice_index heads i)
  pub owned : (i : ℕ) (cs : List ℕ) → get_elem? own i ≡ some cs → Spells (link_at k links (i / 10)) cs (front cs)
  pub fronts : (a : ℕ) (x : HomeValue) → a < k.records → get_elem? last a ≡ some x → map front (bins_of a own) ≡ x.fronts
  pub pushed : (a : ℕ) (c : Chunk) →
      times_own a c v.pushes ≡ times_own a c v.pops + (in_lists a c 0 chains + in_lists a c 0 own)
