use Rattle.std.proofs.Common.{◌≡◌, ℕ, [], ◌∷◌, ◌++◌, List, set, sym, ap, ◌∙◌, arith}
use Rattle.std.proofs.lemmas.List.{append_assoc}
use Rattle.ordinary_bins.specs.Lists.{list_at}
use Rattle.ordinary_bins.proofs.ListLaws.{bin_of_listed, listed_in}
use Rattle.large_bins.proofs.Ends.{ends_in, no_last, stands_at}
use Rattle.large_bins.proofs.splices.insert_before.Goals as goal

pub insert_behind-requires-clause-after : goal.insert_behind-requires-clause-after
insert_behind-requires-clause-after c =
    let lists = c.args.links.now.lists in
    let i = bin_of_listed c.args.next lists c.requires.next in
    let s = stands_at c.args.next (list_at i.bin lists) i.stands in
    let e = ends_in s.front c.in-Some.before (sym (c.in-Some.ensures i.bin s.front s.back (omega (arith, i.below, c.laws.ensures.width)) s.split)) in
    listed_in c.in-Some.before i.bin lists e.front (c.args.next ∷ s.back) (s.split ∙ (ap (λ (ys : List ℕ). ys ++ c.args.next ∷ s.back) e.is ∙ append_assoc e.front (c.in-Some.before ∷ []) (c.args.next ∷ s.back)))

pub returns-in-None-clause-lists : goal.returns-in-None-clause-lists
returns-in-None-clause-lists c = λ front back split.
    let lists = c.args.links.now.lists in
    let none = no_last front (sym (c.in-None.ensures c.args.bin front back c.requires.bin split)) in
    c.push_front.ensures.lists ∙ ap (λ (xs : List ℕ). set lists c.args.bin xs) (ap (λ (xs : List ℕ). c.args.at ∷ xs) (split ∙ ap (λ (ys : List ℕ). ys ++ c.args.next ∷ back) none) ∙ sym (ap (λ (ys : List ℕ). ys ++ c.args.at ∷ c.args.next ∷ back) none))

pub returns-in-Some-clause-lists : goal.returns-in-Some-clause-lists
returns-in-Some-clause-lists c = λ front back split.
    let lists = c.args.links.now.lists in
    let b = c.in-Some.before in
    let e = ends_in front b (sym (c.in-Some.ensures c.args.bin front back c.requires.bin split)) in
    let is : list_at c.args.bin lists ≡ e.front ++ b ∷ c.args.next ∷ back = split ∙ (ap (λ (ys : List ℕ). ys ++ c.args.next ∷ back) e.is ∙ append_assoc e.front (b ∷ []) (c.args.next ∷ back)) in
    c.insert_behind.ensures.lists c.args.bin e.front (c.args.next ∷ back) c.requires.bin is
    ∙ ap (λ (xs : List ℕ). set lists c.args.bin xs) (sym (ap (λ (ys : List ℕ). ys ++ c.args.at ∷ c.args.next ∷ back) e.is ∙ append_assoc e.front (b ∷ []) (c.args.at ∷ c.args.next ∷ back)))
