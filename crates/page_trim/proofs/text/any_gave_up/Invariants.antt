use Rattle.std.proofs.Common.{◌≡◌, false, take}
use Rattle.std.specs.List.{list_any}
use Rattle.page_trim.specs.TrimText.{gave_up}
use Rattle.page_trim.proofs.text.any_gave_up.Given as goal

abbrev pub invariant-loop-arena : goal.invariant-loop-arena
invariant-loop-arena l = list_any (λ a. gave_up a.1) (take l.arena-index l.all) ≡ false
