use Rattle.arena_core.proofs.searching.+go_round.Given as goal

abbrev pub decreases-go_round : goal.decreases-go_round
decreases-go_round g l = l.again
