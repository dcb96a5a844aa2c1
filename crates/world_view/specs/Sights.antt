-- What is seen of chunks as the code goes over them (this project's own). No public clause cites this file.
use Rattle.std.specs.Prelude.{ℕ, if◌then◌else◌, List, []}
use Rattle.stats_text.specs.declared.views.TileView.{TileView}
use Rattle.world_view.specs.declared.finds.Find.{Find}
use Rattle.world_view.specs.declared.sights.Sights.{Sights}
use Rattle.world_view.specs.Places.{FoundAt, found_by_address, nothing_found, put_found, put_tile}

-- where each chunk is found, and the mapped ones by address
pub record Seen : Type 0 where
  pub found : FoundAt
  pub mapped : List (ℕ × TileView)

unfoldable pub seen_in : Sights → Seen
seen_in s = record { found = found_by_address s.found; mapped = s.mapped.entries }

abbrev pub nothing_seen : Seen
nothing_seen = record { found = nothing_found; mapped = [] }

-- what is seen with one chunk more
abbrev pub put_seen : Seen → Find → Seen
put_seen s f = record {
  found = put_found s.found (f.tile.addr, f.tile.place);
  mapped = if f.mapped then put_tile s.mapped f.tile else s.mapped;
}
