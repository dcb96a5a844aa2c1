use Rattle.std.proofs.Common.{◌<◌, ◌≤◌, [], Some, refl, subst, sym, ◌∙◌, arith}
use Rattle.ordinary_bins.specs.Lists.{list_at, times_listed}
use Rattle.ordinary_bins.proofs.ListLaws.{listed_in, last_listed}
use Rattle.large_bins.specs.SeenChunks.{size_at}
use Rattle.large_bins.specs.Places.{AllAbove, Passes}
use Rattle.large_bins.proofs.Ends.{no_last}
use Rattle.large_bins.proofs.FirstBins.{firsts_listed, large_firsts}
use Rattle.large_bins.proofs.Insertion.{all_greater, ends, pass_at, pass_on, stops}
use Rattle.large_bins.proofs.Turns.{turns_on, fewer_on, once_in}
use Rattle.large_bins.proofs.bins.first_not_above.Goals as goal
use Rattle.large_bins.proofs.bins.first_not_above.Goals.{In-Some}

walk : (c : In-Some) → Passes (size_at c.args.tiles.now.tiles) c.args.size (list_at c.args.bin c.args.firsts.now.lists) (Some c.in-Some.at)
walk c = subst (Passes (size_at c.args.tiles.now.tiles) c.args.size (list_at c.args.bin c.args.firsts.now.lists)) c.in-Some.is c.loop-next.invariant

listed : (c : In-Some) → 1 ≤ times_listed c.in-Some.at c.args.firsts.now.lists
listed c = listed_in c.in-Some.at c.args.bin c.args.firsts.now.lists _ _ (pass_at (walk c)).split

pub returns-in_err-last-clause-none : goal.returns-in_err-last-clause-none
returns-in_err-last-clause-none c =
    let none = no_last (list_at c.args.bin c.args.links.now.lists) (sym c.last.ensures ∙ c.in_err-last.was) in
    rw c.from_residual.ensures (subst (AllAbove (size_at c.args.tiles.now.tiles) c.args.size) (sym none) tt)

pub size_of-requires : goal.size_of-requires
size_of-requires c =
    c.requires.tiles.each c.in_ok-last.last (last_listed c.args.bin c.args.links.now.lists c.in_ok-last.last (sym c.last.ensures ∙ c.in_ok-last.was))

pub returns-then-size-size_of-clause-none : goal.returns-then-size-size_of-clause-none
returns-then-size-size_of-clause-none c =
    all_greater _ _ _ c.in_ok-last.last c.requires.falling (sym c.last.ensures ∙ c.in_ok-last.was) (omega arith)

pub size_of-requires-in-Some : goal.size_of-requires-in-Some
size_of-requires-in-Some c =
    c.requires.tiles.each c.in-Some.at (firsts_listed (size_at c.args.tiles.now.tiles) c.args.links.now.lists c.requires.firsts c.in-Some.at (listed (goal.at.size_of-requires-in-Some c).In-Some))

pub returns-then-size_of-size-clause-some : goal.returns-then-size_of-size-clause-some
returns-then-size_of-size-clause-some c =
    stops (size_at c.args.tiles.now.tiles) c.args.size c.in-Some.at _ _ c.requires.falling (large_firsts _ c.args.links.now.lists c.requires.firsts c.args.bin c.requires.large) (walk (goal.at.returns-then-size_of-size-clause-some c).In-Some) (omega arith)

pub loop-next-smaller : goal.loop-next-smaller
loop-next-smaller c =
    let w = walk (goal.at.loop-next-smaller c).In-Some in
    let xs = list_at c.args.bin c.args.firsts.now.lists in
    let fewer = fewer_on (once_in c.args.firsts.now.lists c.args.bin c.laws.ensures.once) c.in-Some.at _ _ (pass_at w).split c.next-next.result
    (sym (c.next-next.ensures c.args.bin _ _ c.requires.bin (pass_at w).split)) in
    subst (λ o. turns_on xs c.next-next.result < turns_on xs o) (sym c.in-Some.is) fewer

pub loop-next-preserved : goal.loop-next-preserved
loop-next-preserved c =
    let w = walk (goal.at.loop-next-preserved c).In-Some in
    pass_on w (omega arith) (sym (c.next-next.ensures c.args.bin _ _ c.requires.bin (pass_at w).split))

pub returns-clause-none : goal.returns-clause-none
returns-clause-none c =
    ends (size_at c.args.tiles.now.tiles) c.args.size _ _ (large_firsts _ c.args.links.now.lists c.requires.firsts c.args.bin c.requires.large)
    (subst (Passes (size_at c.args.tiles.now.tiles) c.args.size (list_at c.args.bin c.args.firsts.now.lists)) c.in_default.is c.loop-next.invariant)

pub next-next-requires : goal.next-next-requires
next-next-requires c = listed (goal.at.next-next-requires c).In-Some
