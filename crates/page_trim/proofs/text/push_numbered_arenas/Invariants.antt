use Rattle.std.proofs.Common.{◌≡◌, ◌++◌, take}
use Rattle.std.specs.List.{flat_map}
use Rattle.page_trim.specs.TrimText.{lines_numbered}
use Rattle.page_trim.proofs.text.push_numbered_arenas.Given as goal

abbrev pub invariant-loop-arena : goal.invariant-loop-arena
invariant-loop-arena l = l.out.items ≡ l.initial.out.items ++ flat_map (lines_numbered l.number) (take l.arena-index l.all)
