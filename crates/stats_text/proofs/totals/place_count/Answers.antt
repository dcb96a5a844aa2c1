use Rattle.std.proofs.Common.{◌<◌, arith}
use Rattle.std.proofs.lemmas.List.{take_all}
use Rattle.std.proofs.lemmas.List.Elements.{All-more}
use Rattle.std.proofs.lemmas.Bool.Decides.{nat_tests}
use Rattle.stats_text.proofs.totals.place_count.Goals as goal

pub loop-arena-preserved : goal.loop-arena-preserved
loop-arena-preserved c = record {
  all =
      All-more (λ a. a.list < c.max-count.result) c.args.arenas.now c.loop-arena.arena-index c.arena-item.result c.loop-arena-test.true
      (λ k d h. grind (arith, nat_tests, c.loop-arena.invariant.all k d h))
      (grind (arith, nat_tests));
  few = grind (arith, nat_tests);
}

pub returns-clause-all : goal.returns-clause-all
returns-clause-all c = grind (arith, take_all c.loop-arena.arena-index c.args.arenas.now c.loop-arena-test.false)
