use Rattle.std.proofs.Common.{◌≡◌, Some, refl, sym, ◌∙◌, arith}
use Rattle.std.proofs.lemmas.Bool.{eqb-true, eqb-false}
use Rattle.part_words.proofs.Opening.{IsOpen-covers}
use Rattle.ordinary_bins.specs.Lists.{times_listed}
use Rattle.large_bins.specs.Places.{first_of_size}
use Rattle.large_bins.specs.SeenChunks.{size_at}
use Rattle.large_bins.proofs.FirstBins.{firsts_are, firsts_left, firsts_next, firsts_without, is_first, next_stands, next_unlisted, IsFirst}
use Rattle.large_bins.proofs.bins.forget.Goals as goal
use Rattle.large_bins.proofs.bins.forget.Goals.{Then-is_listed, In-Some}

-- the chunk is the first of its size
first : (c : Then-is_listed) → IsFirst (size_at c.args.tiles.now.tiles) c.args.links.now.lists c.args.firsts.now.lists c.args.at
first c =
    let one : times_listed c.args.at c.args.firsts.now.lists ≡ 1 = eqb-true (times_listed c.args.at c.args.firsts.now.lists) 1 (sym c.is_listed.ensures ∙ c.if-is_listed.true) in
    is_first (size_at c.args.tiles.now.tiles) c.args.links.now.lists c.args.firsts.now.lists c.args.at c.requires.firsts c.requires.falling c.laws-2.ensures.width (omega (arith, one))

behind : (c : In-Some) → (i : IsFirst (size_at c.args.tiles.now.tiles) c.args.links.now.lists c.args.firsts.now.lists c.args.at) → first_of_size (size_at c.args.tiles.now.tiles) (size_at c.args.tiles.now.tiles c.args.at) i.back ≡ Some c.in-Some.next
behind c i = sym (c.equal_behind.ensures i.bin i.front i.back i.below i.split) ∙ c.in-Some.is

pub returns-else-is_listed-clause-firsts : goal.returns-else-is_listed-clause-firsts
returns-else-is_listed-clause-firsts c =
    let other = eqb-false (times_listed c.args.at c.args.firsts.now.lists) 1 (sym c.is_listed.ensures ∙ c.if-is_listed.false) in
    firsts_without (size_at c.args.tiles.now.tiles) c.args.links.now.lists c.args.at c.requires.firsts (omega (arith, other, c.laws-2.ensures.once c.args.at))

pub returns-in-None-clause-firsts : goal.returns-in-None-clause-firsts
returns-in-None-clause-firsts c =
    let f = size_at c.args.tiles.now.tiles in
    let i = first (goal.at.returns-in-None-clause-firsts c).Then-is_listed in
    let none = sym (c.equal_behind.ensures i.bin i.front i.back i.below i.split) ∙ c.in-None.is in
    firsts_are f refl c.unlink.ensures.lists
    (firsts_left c.requires.firsts c.laws.ensures.width c.laws-2.ensures.width (c.laws.ensures.once c.args.at) (c.laws-2.ensures.once c.args.at) i none)

pub replace-requires-clause-high : goal.replace-requires-clause-high
replace-requires-clause-high c =
    let at = goal.at.replace-requires-clause-high c in
    let i = first at.Then-is_listed in
    (c.laws.ensures.words c.in-Some.next (next_stands c.in-Some.next i (behind at.In-Some i))).0

pub replace-requires-clause-word : goal.replace-requires-clause-word
replace-requires-clause-word c =
    let at = goal.at.replace-requires-clause-word c in
    let i = first at.Then-is_listed in
    IsOpen-covers _ _ _ c.requires.wider (c.laws.ensures.words c.in-Some.next (next_stands c.in-Some.next i (behind at.In-Some i))).1

pub replace-requires-clause-unlisted : goal.replace-requires-clause-unlisted
replace-requires-clause-unlisted c =
    let at = goal.at.replace-requires-clause-unlisted c in
    let i = first at.Then-is_listed in
    next_unlisted c.in-Some.next c.requires.firsts c.laws.ensures.width (c.laws.ensures.once c.in-Some.next) i (behind at.In-Some i)

pub returns-in-Some-clause-firsts : goal.returns-in-Some-clause-firsts
returns-in-Some-clause-firsts c =
    let f = size_at c.args.tiles.now.tiles in
    let at = goal.at.returns-in-Some-clause-firsts c in
    let i = first at.Then-is_listed in
    firsts_are f refl (c.replace.ensures.lists i.bin _ _ i.below i.first)
    (firsts_next c.in-Some.next c.requires.firsts c.laws.ensures.width c.laws-2.ensures.width (c.laws.ensures.once c.args.at) i (behind at.In-Some i))
