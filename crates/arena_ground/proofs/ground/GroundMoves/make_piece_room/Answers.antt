use Rattle.std.proofs.Common.{ap}
use Rattle.arena_rules.specs.PlainArena.{Plain}
use Rattle.arena_ground.specs.Grounds.{GroundView}
use Rattle.arena_ground.proofs.Opened.{range_missing}
use Rattle.arena_ground.proofs.ground.GroundMoves.make_piece_room.Goals as goal

pub returns-clause-full : goal.returns-clause-full
returns-clause-full c =
    range_missing c.open_words.result _ _ _ _ _ c.args.len _ (ap (λ (v : GroundView). v.arena.next_piece) c.self.view_is) (ap (λ (a : Plain). a.next_piece) c.open_words.ensures.arena) c.open_words.ensures.full
