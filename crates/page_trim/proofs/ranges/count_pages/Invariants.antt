use Rattle.std.proofs.Common.{◌≡◌, ◌+◌, drop}
use Rattle.page_trim.specs.FreePages.{pages_in}
use Rattle.page_trim.proofs.ranges.count_pages.Given as goal

abbrev pub invariant-loop-range : goal.invariant-loop-range
invariant-loop-range l = l.pages + pages_in (drop l.range-index l.ranges) ≡ pages_in l.ranges
