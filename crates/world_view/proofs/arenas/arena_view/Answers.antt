use Rattle.world_view.specs.Places.{found_by_address}
use Rattle.world_view.proofs.Idle.{idle_in_arena, system_fits}
use Rattle.world_view.proofs.arenas.arena_view.Goals as goal

pub returns-clause-idle : goal.returns-clause-idle
returns-clause-idle c =
    rw (c.in_ok-tile_views.ensures, c.as_slice.ensures.value, c.in_ok-tiles.ensures, c.system.ensures)
    (idle_in_arena c.args.ground.now.arena (found_by_address c.args.found.now) c.laws.ensures.main c.laws.ensures.heaps)

pub returns-clause-fits : goal.returns-clause-fits
returns-clause-fits c = rw c.system.ensures (system_fits c.args.ground.now.arena c.laws.ensures.main c.laws.ensures.heaps)
