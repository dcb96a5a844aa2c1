use Rattle.std.proofs.Common.{sym, ◌∙◌}
use Rattle.heap_top.specs.Regions.{bare_arena}
use Rattle.heap_top.proofs.DropLaws.{not_first}
use Rattle.heap_top.proofs.regions.Regions.end_before.Goals as goal

pub returns-else-is_top_first : goal.returns-else-is_top_first
returns-else-is_top_first c = sym (not_first (bare_arena c.args.self.now c.args.tiles.now.tiles) (sym c.is_top_first.ensures ∙ c.if-is_top_first.false))
