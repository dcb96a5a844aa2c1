use Rattle.std.proofs.Common.{arith}
use Rattle.part_words.proofs.WordLaws.{Holds, word_exists, word_is}
use Rattle.part_words.proofs.words.Words.get.Goals as goal
use Rattle.part_words.proofs.words.Words.get.Goals.{After-index-words}

holds : (g : _) → (c : After-index-words g) → Holds c.self.inside.base c.self.inside.width c.self.inside.parts.items c.args.at c.index-words.result.now
holds g c =
    record { is_open = rw (← c.self.view_is) at c.requires; read = rw c.place_of-part.ensures.part at c.index-words.ensures }

pub get-requires : goal.get-requires
get-requires g c =
    omega (arith, word_exists _ _ _ _ _ (holds g c), c.place_of-part.ensures.place)

pub returns : goal.returns
returns g c =
    λ d. rw (← c.self.view_is) (word_is _ _ _ _ _ (holds g (goal.at.returns g c).After-index-words) _ d (rw c.place_of-part.ensures.place at c.get.ensures c.get.result))
