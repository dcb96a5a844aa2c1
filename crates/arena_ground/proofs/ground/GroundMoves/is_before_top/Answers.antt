use Rattle.std.proofs.Common.{None, Some, false, sym, ap, ◌∙◌}
use Rattle.chunk_tags.specs.Tiles.{is_top}
use Rattle.arena_ground.proofs.ground.GroundMoves.is_before_top.Goals as goal

pub returns : goal.returns
returns c = c.is_top.ensures ∙ ap (λ o. elim o [ None ↦ false | Some t ↦ is_top t ]) (sym c.behind.ensures)
