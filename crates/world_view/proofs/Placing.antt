-- Numbered lists as the code reads them, one by one.
use Rattle.std.proofs.Common.{◌≡◌, ℕ, ◌+◌, List, [], ◌∷◌, ◌++◌, map, refl, sym, ap, ◌∙◌, arith}
use Rattle.std.specs.Global.{Vec}
use Rattle.std.specs.List.{range_with_len}
use Rattle.std.proofs.lemmas.List.FromFn.{map-range_with_len_more}
use Rattle.stats_text.specs.Views.{lists_of}

lists_of-push : (bins : List (ℕ × Vec ℕ)) (x : ℕ × Vec ℕ) → lists_of (bins ++ x ∷ []) ≡ lists_of bins ++ (x.0, x.1.items) ∷ []
lists_of-push [] x = refl
lists_of-push (b ∷ bins) x = ap (λ rest. (b.0, b.1.items) ∷ rest) (lists_of-push bins x)

pub list_more : (f : ℕ → ℕ × List ℕ) (bins after : List (ℕ × Vec ℕ)) (number : ℕ) (list : Vec ℕ) → (number, list.items) ≡ f number → after ≡ bins ++ (number, list) ∷ [] →
    lists_of bins ≡ map f (range_with_len 0 number) → lists_of after ≡ map f (range_with_len 0 (number + 1))
list_more f bins after number list is pushed before =
    ap lists_of pushed ∙ lists_of-push bins (number, list)
    ∙ ap (λ front. front ++ (number, list.items) ∷ []) before
    ∙ ap (λ x. map f (range_with_len 0 number) ++ x ∷ []) is
    ∙ sym (map-range_with_len_more f 0 number number (omega arith))
