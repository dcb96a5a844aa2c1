-- Marks of bins by bits, as glibc 2.31 keeps some (malloc/malloc.c, binmap of malloc_state); that they are exact is this
-- project's own. No public clause cites this file.
use Rattle.std.specs.Prelude.{◌≡◌, ℕ, ◌-◌, ◌<◌, Bool, not, nat_lt, List, if◌then◌else◌, slice_index_or}
use Rattle.std.specs.Int.{bit_at}
use Rattle.ordinary_bins.specs.Codes.{node_of}
use Rattle.ordinary_bins.specs.Lists.{bin_count}
use Rattle.ordinary_bins.specs.declared.nodes.LinkCodes.{LinkCodes}
use Rattle.ordinary_bins.specs.declared.bin_map.BinMap.{BinMap}

-- the bit of a mark
abbrev pub mark_of : Bool → ℕ
mark_of is_set = if is_set then 1 else 0

-- the mark of a bin
abbrev pub marked : BinMap → ℕ → ℕ
marked m bin = if nat_lt bin 64 then bit_at m.low bin else bit_at m.high (bin - 64)

-- whether links lead forward to a chunk
abbrev pub leads_on : ℕ → ℕ → LinkCodes → Bool
leads_on base width c = not (nat_lt (node_of base width c.fd) bin_count)

-- a bin is marked exactly where its own node leads to a chunk, and the place behind the last bin never is
pub record AreMarked (m : BinMap) (base width : ℕ) (own : List LinkCodes) : Type 0 where
  pub bins : (bin : ℕ) → bin < bin_count → marked m bin ≡ mark_of (leads_on base width (slice_index_or own bin (record { fd = 0; bk = 0 })))
  pub behind : marked m bin_count ≡ 0
