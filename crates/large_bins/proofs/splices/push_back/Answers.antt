use Rattle.std.proofs.Common.{[], ◌∷◌, ◌++◌, List, ℕ, set, sym, ap, ◌∙◌, subst, arith}
use Rattle.std.proofs.lemmas.List.{append_assoc}
use Rattle.ordinary_bins.specs.Lists.{list_at}
use Rattle.ordinary_bins.proofs.ListLaws.{last_listed}
use Rattle.large_bins.proofs.Ends.{ends_in, no_last}
use Rattle.large_bins.proofs.splices.push_back.Goals as goal

pub insert_behind-requires-clause-after : goal.insert_behind-requires-clause-after
insert_behind-requires-clause-after c = last_listed c.args.bin c.args.links.now.lists c.in-Some.last (sym c.last.ensures ∙ c.in-Some.is)

pub returns-in-None-clause-lists : goal.returns-in-None-clause-lists
returns-in-None-clause-lists c =
    let none = no_last (list_at c.args.bin c.args.links.now.lists) (sym c.last.ensures ∙ c.in-None.is) in
    c.push_front.ensures.lists ∙ ap (λ (xs : List ℕ). set c.args.links.now.lists c.args.bin xs) (ap (λ (xs : List ℕ). c.args.at ∷ xs) none ∙ sym (ap (λ (xs : List ℕ). xs ++ c.args.at ∷ []) none))

pub returns-in-Some-clause-lists : goal.returns-in-Some-clause-lists
returns-in-Some-clause-lists c =
    let e = ends_in (list_at c.args.bin c.args.links.now.lists) c.in-Some.last (sym c.last.ensures ∙ c.in-Some.is) in
    c.insert_behind.ensures.lists c.args.bin e.front [] c.requires.bin e.is
    ∙ ap (λ (xs : List ℕ). set c.args.links.now.lists c.args.bin xs) (sym (ap (λ (xs : List ℕ). xs ++ c.args.at ∷ []) e.is ∙ append_assoc e.front (c.in-Some.last ∷ []) (c.args.at ∷ [])))
