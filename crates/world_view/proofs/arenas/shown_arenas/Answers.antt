use Rattle.std.proofs.Common.{◌<◌, length, map, arith}
use Rattle.world_view.specs.Places.{found_by_address}
use Rattle.world_view.specs.Rows.{plains_of}
use Rattle.world_view.proofs.Going.{none_yet, one_more, first_left}
use Rattle.world_view.proofs.arenas.shown_arenas.Goals as goal

pub loop-index-init : goal.loop-index-init
loop-index-init c =
    rw c.new-views.ensures.items (none_yet (found_by_address c.args.found.now) c.args.list.now (map (λ v. v.items) c.args.lists.now) (plains_of c.args.arenas.now))

pub loop-index-preserved : goal.loop-index-preserved
loop-index-preserved c =
    let within : c.loop-index.index < length c.args.arenas.now = omega arith in
    one_more (found_by_address c.args.found.now) c.args.list.now (map (λ v. v.items) c.args.lists.now) (plains_of c.args.arenas.now) c.loop-index.index
    _ _ _ _ _ _ c.loop-index.invariant (first_left c.args.arenas.now c.loop-index.index c.index-arenas-index.result within c.index-arenas-index.is)
    c.in_ok-push.ensures.items (rw c.as_ref.ensures at c.in_ok-arena_view.ensures.shown) c.in_ok-arena_view.ensures.idle
    c.in_ok-arena_view.ensures.fits
