use Rattle.std.proofs.Common.{◌==◌, ℕ, List, not, rules, tests}
use Rattle.std.proofs.lemmas.Iterator.Search.{all_from_yields_List}
use Rattle.std.proofs.lemmas.Iterator.Splits.{YieldsList-from_slice_split}
use Rattle.trace_text.specs.Grammar.{is_empty}
use Rattle.trace_text.proofs.fields.are_filled.Goals as goal

pub returns : goal.returns
returns c =
    all_from_yields_List (λ (field : List ℕ). not (is_empty field)) _ _ _ c.all.ensures.ran
    (YieldsList-from_slice_split _ (λ b. b == 32) c.args.text.now c.split.ensures.rest c.split.ensures.done c.split.ensures.closure (λ x r q k. search (rules, tests)))
    (λ x b q k. search (rules, tests))
