-- Laws on words as a function of the address. Other crates may cite this file.
use Rattle.std.proofs.Common.{◌≡◌, ℕ, ◌+◌, ◌*◌, Bool, true, false, eqb, cond, refl}
use Rattle.std.proofs.Math.Path.{fun_ext}
use Rattle.std.proofs.lemmas.Bool.{eq-eqb, ne_eqb}
use Rattle.part_words.specs.Extents.{index_of}
use Rattle.part_words.specs.Parts.{no_words, word_at, update}

pub update_same : {T : Type 0} (f : ℕ → T) (at : ℕ) (x : T) → update f at x at ≡ x
update_same f at x = rw (eq-eqb at at refl) refl

pub update_other : {T : Type 0} (f : ℕ → T) (at : ℕ) (x : T) (a : ℕ) → (a ≡ at → ⊥) → update f at x a ≡ f a
update_other f at x a ne = rw (ne_eqb a at ne) refl

cond_alike : {X : Type 0} (b : Bool) (x : X) → cond b x x ≡ x
cond_alike true x = refl
cond_alike false x = refl

-- where there are no words, each address has the default
pub word_at-no_words : {T : Type 0} (base stride : ℕ) (d : T) → word_at (no_words base stride) d ≡ (λ a. d)
unfolding word_at
word_at-no_words base stride d =
    fun_ext (λ a. cond_alike (eqb (base + 16 * index_of base a) a) d)
