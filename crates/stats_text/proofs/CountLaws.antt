-- Counts go with the answers: one more answer, and the room for it.
use Rattle.std.proofs.Common.{◌≡◌, ◌+◌, ◌-◌, ◌^◌, ◌<◌, ℕ, Bool, true, false, cond, List, [], ◌∷◌, ◌++◌, length, refl, arith, ◌∙◌}
use Rattle.std.specs.Prelude.{count_by}
use Rattle.std.proofs.lemmas.List.Sums.{count_by-le-length, fold-append}
use Rattle.std.proofs.lemmas.List.{length_push}
use Rattle.stats_text.specs.declared.records.Outcome.{Outcome}
use Rattle.stats_text.specs.AnswerCounts.{gives_block, is_null, is_missed, is_skip, counts_of, count_with, counts_with, HasRoom}

added : (n : ℕ) (b : Bool) → n + cond b 1 0 ≡ count_with n b
added n true = refl
added n false = omega arith

count_push : (p : Outcome → Bool) (outcomes : List Outcome) (said : Outcome) → count_by p (outcomes ++ said ∷ []) ≡ count_with (count_by p outcomes) (p said)
count_push p outcomes said = fold-append (λ (n : ℕ) (o : Outcome). n + cond (p o) 1 0) 0 outcomes (said ∷ []) ∙ added (count_by p outcomes) (p said)

-- the counts of answers and one more
pub counts_push : (outcomes : List Outcome) (said : Outcome) → counts_of (outcomes ++ said ∷ []) ≡ counts_with (counts_of outcomes) said
unfolding counts_of counts_with
counts_push outcomes said =
    rw (length_push outcomes said, count_push gives_block outcomes said, count_push is_null outcomes said, count_push is_missed outcomes said, count_push is_skip outcomes said) refl

-- fewer than 2^64 - 1 answers leave room for one
pub counts_room : (outcomes : List Outcome) → length outcomes < 2 ^ 64 - 1 → HasRoom (counts_of outcomes)
unfolding counts_of
counts_room outcomes h = record {
  lines = h;
  got = omega (arith, h, count_by-le-length gives_block outcomes);
  null = omega (arith, h, count_by-le-length is_null outcomes);
  missed = omega (arith, h, count_by-le-length is_missed outcomes);
  skip = omega (arith, h, count_by-le-length is_skip outcomes);
}
