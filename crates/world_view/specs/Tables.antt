-- What is found at addresses, as the code keeps it (this project's own). No public clause cites this file.
use Rattle.std.specs.Prelude.{ℕ, ◌<◌, ◌≤◌, List}
use Rattle.std.specs.List.Sorted.{IsNonDecreasingBy, IsPartitionPoint}
use Rattle.world_view.specs.Places.{Placed}

-- by address
abbrev pub IsByAddress : List Placed → Type 0
IsByAddress fs = IsNonDecreasingBy (λ f. f.0) fs

-- up to an index all is found up to an address, and from there on behind it
abbrev pub IsEnd : List Placed → ℕ → ℕ → Type 0
IsEnd fs at index = IsPartitionPoint (λ f. f.0 ≤ at) (λ f. at < f.0) fs index
