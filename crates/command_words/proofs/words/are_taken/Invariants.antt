use Rattle.std.proofs.Common.{◌≡◌, length}
use Rattle.command_words.specs.Parts.{texts_of, parts_of}
use Rattle.command_words.specs.Asked.{are_taken}
use Rattle.command_words.proofs.words.are_taken.Given as goal

abbrev pub invariant-loop-part : goal.invariant-loop-part
invariant-loop-part l = are_taken (parts_of (texts_of l.words)) ≡ are_taken (parts_of (texts_of l.left))

abbrev pub decreases-loop-part : goal.decreases-loop-part
decreases-loop-part l = length l.left
