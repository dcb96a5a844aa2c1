use Rattle.std.proofs.Common.{◌≡◌, ◌++◌, take}
use Rattle.std.specs.List.{flat_map}
use Rattle.page_trim.specs.TrimText.{lines_numbered}
use Rattle.page_trim.proofs.text.push_arenas.Given as goal

abbrev pub invariant-loop-number : goal.invariant-loop-number
invariant-loop-number l = l.out.items ≡ l.initial.out.items ++ flat_map (λ number. flat_map (lines_numbered number) l.all) (take l.number-index l.list)
