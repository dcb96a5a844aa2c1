use Rattle.std.proofs.Common.{arith, ◌∷◌, [], length-append}
use Rattle.part_words.proofs.Filling.{one_more}
use Rattle.part_words.proofs.words.add_parts.Goals as goal

pub loop-added-preserved : goal.loop-added-preserved
loop-added-preserved g c =
    let e = c.in_ok-push.ensures.items in
    let n = length-append c.loop-added.parts.items (c.new.result ∷ []) in
    record {
      count = rw e (omega (arith, n));
      within = omega arith;
      more = rw e (omega (arith, n));
      items = rw e (one_more _ _ _ c.loop-added.invariant.items c.loop-added.invariant.more c.new.ensures);
    }
