use Rattle.std.proofs.Common.{◌≡◌, length, map, drop}
use Rattle.page_trim.specs.Trimming.{plains_of}
use Rattle.page_trim.proofs.AllArenas.{IsTrimming}
use Rattle.page_trim.proofs.arenas.trim_arenas.Given as goal

abbrev pub invariant-loop-index : goal.invariant-loop-index
invariant-loop-index l = record {
  left : IsTrimming l.pad (map (λ v. v.items) l.fast) (plains_of l.fn.arenas) l.all.items (map (λ v. v.items) l.left) (plains_of (drop l.index l.arenas));
  rest : length l.arenas ≡ length l.fn.arenas;
}
