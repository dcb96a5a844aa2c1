-- A chunk is either idle or in use, and the bytes in use are within those from the system.
use Rattle.std.proofs.Common.{◌≡◌, ℕ, ◌+◌, ◌<◌, ◌≤◌, List, length, get_or, take, refl, ap, arith}
use Rattle.std.proofs.lemmas.List.Filters.{sum_by-filter_both}
use Rattle.std.proofs.lemmas.List.Sums.{sum_by-le-sum_by, sum_by-take-le, sum_by_more_le}
use Rattle.stats_text.specs.declared.views.TileView.{TileView}
use Rattle.stats_text.specs.Views.{Arena}
use Rattle.stats_text.specs.Totals.{is_idle_place, is_in_use_place, tile_bytes_of, idle_bytes_of, in_use_bytes_of, in_use_of, used_bytes_of, system_bytes_of}

pub idle_and_in_use : (tiles : List TileView) → idle_bytes_of tiles + in_use_bytes_of tiles ≡ tile_bytes_of tiles
unfolding tile_bytes_of idle_bytes_of in_use_bytes_of
idle_and_in_use tiles = sum_by-filter_both (λ t. is_idle_place t.place) (λ t. is_in_use_place t.place) (λ t. refl) (λ t. t.size) tiles

in_use_within : (a : Arena) → in_use_of a ≤ a.system
unfolding in_use_of
in_use_within a = omega arith

used_within : (arenas : List Arena) → used_bytes_of arenas ≤ system_bytes_of arenas
unfolding used_bytes_of system_bytes_of
used_within arenas = sum_by-le-sum_by in_use_of (λ a. a.system) arenas in_use_within

-- the sum over the first arenas, and that with the next one's bytes
pub used_so_far : (arenas : List Arena) (i : ℕ) → used_bytes_of (take i arenas) ≤ system_bytes_of arenas
unfolding used_bytes_of
used_so_far arenas i = omega (arith, sum_by-take-le in_use_of arenas i, used_within arenas)

pub used_with_next : (arenas : List Arena) (i : ℕ) (a : Arena) → a ≡ get_or arenas i a → i < length arenas → used_bytes_of (take i arenas) + in_use_of a ≤ system_bytes_of arenas
unfolding used_bytes_of
used_with_next arenas i a is lt = omega (arith, sum_by_more_le in_use_of arenas i a lt, ap in_use_of is, used_within arenas)
