use Rattle.part_words.proofs.Opening.{IsOpen-covers}
use Rattle.arena_ground.proofs.Bridges.{open_here}
use Rattle.arena_ground.proofs.steps.shelve.Goals as goal

pub push_front-requires-clause-word : goal.push_front-requires-clause-word
push_front-requires-clause-word c =
    IsOpen-covers _ _ _ c.requires.covers (open_here _ _ _ _ c.requires.row c.tile-t.ensures.tile c.tile-t.ensures.room)
