use Rattle.std.proofs.Common.{◌≡◌, length, arith}
use Rattle.std.proofs.lemmas.Bool.Decides.{nat_tests}
use Rattle.byte_edge.proofs.WriteLoop.{one_more, cut_short, all_flushed}
use Rattle.byte_edge.proofs.writing.write_text.Goals as goal

pub loop-rest-preserved : goal.loop-rest-preserved
loop-rest-preserved g c =
    rw c.split_at.ensures.back
    (one_more _ _ _ _ _ _ _ c.loop-rest.invariant c.in-Took.ensures)

pub returns-in-Failed : goal.returns-in-Failed
returns-in-Failed g c = cut_short _ _ _ _ _ _ c.loop-rest.invariant c.in-Failed.ensures

pub returns-in-Done : goal.returns-in-Done
returns-in-Done g c =
    let empty : length c.loop-rest.rest.now ≡ 0 = grind (arith, nat_tests) in
    all_flushed _ _ _ _ _ _ c.loop-rest.invariant empty c.in-Done.ensures

pub returns-in-Failed-flush : goal.returns-in-Failed-flush
returns-in-Failed-flush g c = cut_short _ _ _ _ _ _ c.loop-rest.invariant c.in-Failed-flush.ensures
