use Rattle.std.proofs.Common.{◌≤◌, subst, rules}
use Rattle.std.proofs.lemmas.List.{take_all}
use Rattle.std.proofs.lemmas.List.Elements.{All-more}
use Rattle.stats_text.specs.Views.{Arena}
use Rattle.stats_text.specs.Totals.{idle_bytes_of, AreWithinSystem}
use Rattle.text_tests.proofs.report_tests.are_within.Goals as goal

pub loop-arena-preserved : goal.loop-arena-preserved
loop-arena-preserved c =
    let P : Arena → Type 0 = λ a. idle_bytes_of a.tiles ≤ a.system in
    All-more P c.args.arenas.now c.loop-arena.arena-index c.arena-item.result c.loop-arena-test.true c.loop-arena.invariant
    (subst P c.arena-item.is (c.is_within.ensures (search rules)))

pub returns : goal.returns
returns c _ = subst AreWithinSystem (take_all c.loop-arena.arena-index c.args.arenas.now c.loop-arena-test.false) c.loop-arena.invariant
