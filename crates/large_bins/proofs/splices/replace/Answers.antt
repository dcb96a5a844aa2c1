use Rattle.std.proofs.Common.{◌≡◌, ◌≤◌, ◌<◌, ℕ, [], ◌∷◌, ◌++◌, List, set, map, length, sym, ap, ◌∙◌, subst, arith}
use Rattle.std.proofs.lemmas.List.{get_or-set_same, length-set, set-set}
use Rattle.ordinary_bins.specs.Lists.{list_at, times_listed, without}
use Rattle.ordinary_bins.proofs.ListLaws.{bin_of_listed, listed_in, unlinked_at}
use Rattle.large_bins.proofs.Ends.{stands_at}
use Rattle.large_bins.proofs.splices.replace.Goals as goal

pub unlink-requires : goal.unlink-requires
unlink-requires c =
    let lists = c.args.links.now.lists in
    let i = bin_of_listed c.args.at lists c.requires.listed in
    let s = stands_at c.args.at (list_at i.bin lists) i.stands in
    let ys = s.front ++ c.args.at ∷ c.args.other ∷ s.back in
    let now = c.insert_behind.ensures.lists i.bin s.front s.back (omega (arith, i.below, c.laws.ensures.width)) s.split in
    subst (λ ls. 1 ≤ times_listed c.args.at ls) (sym now) (listed_in c.args.at i.bin (set lists i.bin ys) s.front (c.args.other ∷ s.back) (get_or-set_same lists i.bin ys [] i.below))

pub returns-clause-lists : goal.returns-clause-lists
returns-clause-lists c = λ bin front back lt split.
    let lists = c.args.links.now.lists in
    let ys = front ++ c.args.at ∷ c.args.other ∷ back in
    let mid = set lists bin ys in
    let now = c.insert_behind.ensures.lists bin front back lt split in
    let inside : bin < length lists = omega (arith, lt, c.laws.ensures.width) in
    let once : times_listed c.args.at mid ≤ 1 = omega (arith, c.laws-2.ensures.once c.args.at, ap (times_listed c.args.at) now) in
    c.unlink.ensures.lists
    ∙ (ap (map (without c.args.at)) now
    ∙ (unlinked_at c.args.at bin mid front (c.args.other ∷ back) (omega (arith, inside, length-set lists bin ys)) once (get_or-set_same lists bin ys [] inside) ∙ set-set lists bin ys (front ++ c.args.other ∷ back)))
