-- Arenas one after another, as the code goes over them (this project's own). No public clause cites this file.
use Rattle.std.specs.Prelude.{ℕ, ◌+◌, ◌*◌, List, [], ◌∷◌, ◌++◌, map, slice_index_or}
use Rattle.std.specs.List.{range_with_len}
use Rattle.fast_bins.specs.FastPorts.{fast_bin_count}
use Rattle.arena_rules.specs.PlainArena.{Plain}
use Rattle.arena_ground.specs.Grounds.{GroundView}
use Rattle.arena_core.specs.declared.arena.Arena as held
use Rattle.stats_text.specs.Views.{Arena}
use Rattle.world_view.specs.Places.{Placed, FoundAt, bins_of, binned}
use Rattle.world_view.specs.Scenes.{arena_shown}

-- the lists of the fast chunks of the arena at an index, where there are ten lists an arena
abbrev pub fast_bin_at : List (List ℕ) → ℕ → ℕ → ℕ × List ℕ
fast_bin_at lists index number = (number, slice_index_or lists (fast_bin_count * index + number) [])

unfoldable pub fast_at : List (List ℕ) → ℕ → List (ℕ × List ℕ)
fast_at lists index = map (fast_bin_at lists index) (range_with_len 0 fast_bin_count)

-- the arenas without their journals
abbrev pub plains_of : List (held.Arena GroundView) → List Plain
plains_of arenas = map (λ a. a.ground.value.arena) arenas

-- the chunks in the bins of arenas, of which the first has this index
abbrev pub binned_from : List (List ℕ) → ℕ → List Plain → List Placed
binned_from lists index [] = []
binned_from lists index (a ∷ arenas) =
    binned (fast_at lists index) (bins_of a) ++ binned_from lists (index + 1) arenas

-- the arenas as they are shown
abbrev pub arenas_from : FoundAt → List ℕ → List (List ℕ) → ℕ → List Plain → List Arena
arenas_from found list lists index [] = []
arenas_from found list lists index (a ∷ arenas) =
    arena_shown found list (fast_at lists index) a ∷ arenas_from found list lists (index + 1) arenas
