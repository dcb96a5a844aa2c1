use Rattle.std.proofs.Common.{◌≡◌, take}
use Rattle.std.specs.List.{flat_map}
use Rattle.page_trim.specs.FreePages.{pages_of}
use Rattle.page_trim.proofs.ranges.free_pages.Given as goal

abbrev pub invariant-loop-t : goal.invariant-loop-t
invariant-loop-t l = l.ranges.items ≡ flat_map pages_of (take l.t-index l.tiles)
