use Rattle.part_words.proofs.Passing.{Passed}
use Rattle.part_words.specs.Parts.{extent_of}
use Rattle.part_words.proofs.words.Words.next_open.Given as goal

abbrev pub invariant-loop-part : goal.invariant-loop-part
invariant-loop-part g l = Passed (extent_of l.self) l.at l.part l.place
