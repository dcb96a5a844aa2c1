use Rattle.std.proofs.Common.{arith}
use Rattle.part_words.proofs.WordLaws.{Holds, word_exists, word_at-written, extent_of-written}
use Rattle.part_words.proofs.words.Words.set.Goals as goal
use Rattle.part_words.proofs.words.Words.set.Goals.{After-index_mut-words}

holds : (g : _) → (c : After-index_mut-words g) → Holds c.self.inside.base c.self.inside.width c.self.inside.parts.items c.args.at c.index_mut-words.result.now
holds g c =
    record { is_open = rw (← c.self.view_is) at c.requires; read = rw c.place_of-part.ensures.part at c.index_mut-words.ensures.value }

pub set-requires : goal.set-requires
set-requires g c =
    omega (arith, word_exists _ _ _ _ _ (holds g c), c.place_of-part.ensures.place)

pub returns-clause-word : goal.returns-clause-word
returns-clause-word g c =
    λ d. rw (← c.self.view_is, c.place_of-part.ensures.part) (word_at-written _ _ _ _ _ _ _ (record { holds = holds g (goal.at.returns-clause-word g c).After-index_mut-words; word = rw c.place_of-part.ensures.place at c.set.ensures }) d)

pub returns-clause-extent : goal.returns-clause-extent
returns-clause-extent g c =
    rw (← c.self.view_is, c.place_of-part.ensures.part) (extent_of-written _ _ _ _ _ _ c.args.value (record { holds = holds g (goal.at.returns-clause-extent g c).After-index_mut-words; word = rw c.place_of-part.ensures.place at c.set.ensures }))
