use Rattle.std.proofs.Common.{rules, tests, ◌≡◌, ◌∙◌, []}
use Rattle.std.specs.Prelude.{fold}
use Rattle.std.proofs.lemmas.Iterator.{YieldsList-from_slice}
use Rattle.std.proofs.lemmas.Iterator.Consumers.{fold_from_yields_List}
use Rattle.kernel_calls.specs.Counting.{both, sums_of, no_calls}
use Rattle.kernel_calls.proofs.Summing.{fold-both}
use Rattle.kernel_calls.proofs.counts.sum_of.Goals as goal

pub returns : goal.returns
unfolding sums_of
returns c =
    let folded : c.fold.result ≡ fold both no_calls c.args.all.now =
    fold_from_yields_List _ both no_calls c.fold.result c.fold.ensures.ran (YieldsList-from_slice c.args.all.now (cc)) (λ a x b q k. search (rules, tests)) in
    folded ∙ fold-both [] c.args.all.now
