use Rattle.arena_growth.proofs.grow.+grow_main.Given as goal

abbrev pub decreases-grow_main : goal.decreases-grow_main
decreases-grow_main g l = l.turns
