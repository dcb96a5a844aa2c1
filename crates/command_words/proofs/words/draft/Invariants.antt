use Rattle.std.proofs.Common.{◌≡◌, ◌≤◌, length}
use Rattle.std.specs.Prelude.{IfSome}
use Rattle.std.specs.List.{fold}
use Rattle.chunk_tags.specs.Tunables.{IsTuned}
use Rattle.command_words.specs.Parts.{texts_of, parts_of}
use Rattle.command_words.specs.Asked.{draft_of, with_part}
use Rattle.command_words.proofs.words.draft.Given as goal

abbrev pub invariant-loop-part : goal.invariant-loop-part
invariant-loop-part l = record {
  chosen : draft_of l.fn.mode (parts_of (texts_of l.words)) ≡ fold with_part l.draft (parts_of (texts_of l.left));
  tuned : IsTuned l.draft.tunables;
  lines : IfSome l.draft.lines (λ n. n ≤ 1000000);
}

abbrev pub decreases-loop-part : goal.decreases-loop-part
decreases-loop-part l = length l.left
