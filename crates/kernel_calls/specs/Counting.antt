-- What is counted of asks, and of what is given back (this project's own).
use Rattle.std.specs.Prelude.{ℕ, ◌+◌, ◌-◌, ◌^◌, min, nat_lt, List, sum_by, if◌then◌else◌}
use Rattle.address_space.specs.declared.asks.Ask.{Ask}
use Rattle.address_space.specs.declared.asks.Ask.TheVariants as asks
use Rattle.address_space.specs.declared.asks.Back.{Back}
use Rattle.address_space.specs.declared.asks.Back.TheVariants as backs
use Rattle.address_space.specs.Ports.{counted}
use Rattle.kernel_calls.specs.declared.counts.Counts.{Counts}

-- one ask more: the count of its kind rises, and no other
abbrev pub with_ask : Counts → Ask → Counts
with_ask c (asks.Break old new) = record c { breaks_up = counted c.breaks_up }
with_ask c (asks.Piece addr len) = record c { pieces = counted c.pieces }
with_ask c (asks.NewHeap arena heap len) = record c { heaps_made = counted c.heaps_made }
with_ask c (asks.GrowHeap arena heap old_len new_len) = record c { heaps_grown = counted c.heaps_grown }
with_ask c (asks.Map addr len) = record c { mappings = counted c.mappings }
with_ask c (asks.Remap old_addr old_len new_addr new_len) = if nat_lt old_len new_len
    then record c { remaps_grown = counted c.remaps_grown }
    else record c { remaps_shrunk = counted c.remaps_shrunk }

-- one giving back more: the count of its kind rises, and no other
abbrev pub with_back : Counts → Back → Counts
with_back c (backs.Break old new) = record c { breaks_down = counted c.breaks_down }
with_back c (backs.ShrinkHeap arena heap old_len new_len) = record c { heaps_shrunk = counted c.heaps_shrunk }
with_back c (backs.DropHeap arena heap len) = record c { heaps_dropped = counted c.heaps_dropped }
with_back c (backs.Unmap addr len) = record c { unmappings = counted c.unmappings }

-- before any call
abbrev pub no_calls : Counts
no_calls = record {
  breaks_up = 0;
  breaks_down = 0;
  pieces = 0;
  heaps_made = 0;
  heaps_grown = 0;
  heaps_shrunk = 0;
  heaps_dropped = 0;
  mappings = 0;
  unmappings = 0;
  remaps_grown = 0;
  remaps_shrunk = 0;
}

-- a sum as far as 64 bits have it
abbrev pub capped : ℕ → ℕ
capped n = min n (2 ^ 64 - 1)

-- all kinds together
unfoldable pub total_of : Counts → ℕ
total_of c = capped (c.breaks_up + c.breaks_down + c.pieces
    + c.heaps_made + c.heaps_grown + c.heaps_shrunk + c.heaps_dropped
    + c.mappings + c.unmappings + c.remaps_grown + c.remaps_shrunk)

-- two counts together, kind by kind
unfoldable pub both : Counts → Counts → Counts
both a b = record {
  breaks_up = capped (a.breaks_up + b.breaks_up);
  breaks_down = capped (a.breaks_down + b.breaks_down);
  pieces = capped (a.pieces + b.pieces);
  heaps_made = capped (a.heaps_made + b.heaps_made);
  heaps_grown = capped (a.heaps_grown + b.heaps_grown);
  heaps_shrunk = capped (a.heaps_shrunk + b.heaps_shrunk);
  heaps_dropped = capped (a.heaps_dropped + b.heaps_dropped);
  mappings = capped (a.mappings + b.mappings);
  unmappings = capped (a.unmappings + b.unmappings);
  remaps_grown = capped (a.remaps_grown + b.remaps_grown);
  remaps_shrunk = capped (a.remaps_shrunk + b.remaps_shrunk);
}

-- the counts of all threads together, kind by kind
unfoldable pub sums_of : List Counts → Counts
sums_of all = record {
  breaks_up = capped (sum_by (λ c. c.breaks_up) all);
  breaks_down = capped (sum_by (λ c. c.breaks_down) all);
  pieces = capped (sum_by (λ c. c.pieces) all);
  heaps_made = capped (sum_by (λ c. c.heaps_made) all);
  heaps_grown = capped (sum_by (λ c. c.heaps_grown) all);
  heaps_shrunk = capped (sum_by (λ c. c.heaps_shrunk) all);
  heaps_dropped = capped (sum_by (λ c. c.heaps_dropped) all);
  mappings = capped (sum_by (λ c. c.mappings) all);
  unmappings = capped (sum_by (λ c. c.unmappings) all);
  remaps_grown = capped (sum_by (λ c. c.remaps_grown) all);
  remaps_shrunk = capped (sum_by (λ c. c.remaps_shrunk) all);
}
