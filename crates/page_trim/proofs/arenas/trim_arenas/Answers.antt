use Rattle.std.proofs.Common.{map, arith, ◌<◌, length, subst}
use Rattle.page_trim.specs.Trimming.{AreListed}
use Rattle.page_trim.proofs.AllArenas.{first_left, next_listed, front_items}
use Rattle.page_trim.proofs.arenas.trim_arenas.Goals as goal

pub trim_one-requires-clause-listed : goal.trim_one-requires-clause-listed
trim_one-requires-clause-listed c =
    let below : c.loop-index.index < length c.loop-index.arenas = omega arith in
    let first = first_left c.loop-index.arenas c.loop-index.index c.index-arenas-index.result below c.index-arenas-index.is in
    let listed = next_listed _ _ _ _ _ _ _ _ c.loop-index.invariant.left first in
    subst (λ a. AreListed (map (λ l. l.items) c.split_at.result.0.now) a.ground.value.arena) c.index-arenas-index.is
    (subst (λ ls. AreListed ls c.index-arenas-index.result.ground.value.arena) (front_items c.loop-index.left.now c.split_at.result.0.now c.split_at.ensures.front) listed)
