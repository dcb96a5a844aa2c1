use Rattle.std.proofs.Common.{◌<◌, ◌≤◌, Some, subst, sym, arith}
use Rattle.ordinary_bins.specs.Lists.{list_at, times_listed}
use Rattle.ordinary_bins.proofs.ListLaws.{listed_in}
use Rattle.large_bins.specs.SeenChunks.{size_at}
use Rattle.large_bins.specs.Places.{EndsBelow}
use Rattle.large_bins.proofs.Fitting.{back_at, back_on, back_fits, back_none}
use Rattle.large_bins.proofs.Turns.{turns_back, fewer_back, once_in}
use Rattle.large_bins.proofs.bins.last_fitting.Goals as goal
use Rattle.large_bins.proofs.bins.last_fitting.Goals.{In-Some}

walk : (c : In-Some) → EndsBelow (size_at c.args.tiles.now.tiles) c.args.nb (list_at c.args.bin c.args.links.now.lists) (Some c.in-Some.at)
walk c = subst (EndsBelow (size_at c.args.tiles.now.tiles) c.args.nb (list_at c.args.bin c.args.links.now.lists)) c.in-Some.is c.loop-next.invariant

listed : (c : In-Some) → 1 ≤ times_listed c.in-Some.at c.args.links.now.lists
listed c = listed_in c.in-Some.at c.args.bin c.args.links.now.lists _ _ (back_at (walk c)).split

pub size_of-requires : goal.size_of-requires
size_of-requires c = c.requires.tiles.each c.in-Some.at (listed (goal.at.size_of-requires c).In-Some)

pub returns-then-nb-size_of-clause-last : goal.returns-then-nb-size_of-clause-last
returns-then-nb-size_of-clause-last c = back_fits (walk (goal.at.returns-then-nb-size_of-clause-last c).In-Some) (omega arith)

pub before-next-requires : goal.before-next-requires
before-next-requires c = listed (goal.at.before-next-requires c).In-Some

pub loop-next-smaller : goal.loop-next-smaller
loop-next-smaller c =
    let w = walk (goal.at.loop-next-smaller c).In-Some in
    let xs = list_at c.args.bin c.args.links.now.lists in
    let fewer = fewer_back (once_in c.args.links.now.lists c.args.bin c.laws.ensures.once) c.in-Some.at _ _ (back_at w).split c.before-next.result
    (sym (c.before-next.ensures c.args.bin _ _ c.requires.bin (back_at w).split)) in
    subst (λ o. turns_back xs c.before-next.result < turns_back xs o) (sym c.in-Some.is) fewer

pub loop-next-preserved : goal.loop-next-preserved
loop-next-preserved c =
    let w = walk (goal.at.loop-next-preserved c).In-Some in
    back_on w (omega arith) (sym (c.before-next.ensures c.args.bin _ _ c.requires.bin (back_at w).split))

pub returns-clause-none : goal.returns-clause-none
returns-clause-none c =
    back_none (subst (EndsBelow (size_at c.args.tiles.now.tiles) c.args.nb (list_at c.args.bin c.args.links.now.lists)) c.in_default.is c.loop-next.invariant)
