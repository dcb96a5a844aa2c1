-- Sums that stop at what 64 bits have.
use Rattle.std.proofs.Common.{◌≡◌, ℕ, ◌+◌, List, [], ◌∷◌, ◌++◌, sym, ◌∙◌, ap, append_assoc, arith, refl}
use Rattle.std.specs.Prelude.{fold, sum_by}
use Rattle.std.proofs.lemmas.List.{append-nil}
use Rattle.std.proofs.lemmas.List.Sums.{sum_by_push}
use Rattle.kernel_calls.specs.declared.counts.Counts.{Counts}
use Rattle.kernel_calls.specs.Counting.{capped, both, sums_of}

-- a sum that stopped needn't be known to go on
pub capped-add : (a b : ℕ) → capped (capped a + b) ≡ capped (a + b)
capped-add a b = omega arith

-- one number more
pub one_more : (a b sum more : ℕ) → sum ≡ capped a → more ≡ capped (sum + b) → more ≡ capped (a + b)
one_more a b sum more e f = rw (f, e) (capped-add a b)

kind_push : (of_kind : Counts → ℕ) (all : List Counts) (c : Counts) → capped (sum_by of_kind (all ++ c ∷ [])) ≡ capped (capped (sum_by of_kind all) + of_kind c)
kind_push of_kind all c = ap capped (sum_by_push of_kind all c) ∙ sym (capped-add (sum_by of_kind all) (of_kind c))

-- the counts of one thread more
sums_of_push : (all : List Counts) (c : Counts) → sums_of (all ++ c ∷ []) ≡ both (sums_of all) c
unfolding sums_of both
sums_of_push all c =
    rw (
      kind_push (λ d. d.breaks_up) all c,
      kind_push (λ d. d.breaks_down) all c,
      kind_push (λ d. d.pieces) all c,
      kind_push (λ d. d.heaps_made) all c,
      kind_push (λ d. d.heaps_grown) all c,
      kind_push (λ d. d.heaps_shrunk) all c,
      kind_push (λ d. d.heaps_dropped) all c,
      kind_push (λ d. d.mappings) all c,
      kind_push (λ d. d.unmappings) all c,
      kind_push (λ d. d.remaps_grown) all c,
      kind_push (λ d. d.remaps_shrunk) all c,
    ) refl

-- the counts of all threads, added one after another
pub fold-both : (done rest : List Counts) → fold both (sums_of done) rest ≡ sums_of (done ++ rest)
fold-both done [] = ap sums_of (sym (append-nil done))
fold-both done (c ∷ rest) =
    ap (λ sums. fold both sums rest) (sym (sums_of_push done c))
    ∙ (fold-both (done ++ c ∷ []) rest
    ∙ ap sums_of (append_assoc done (c ∷ []) rest))
