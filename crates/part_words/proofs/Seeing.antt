-- Laws on words that are seen through a function. Other crates may cite this file.
use Rattle.std.proofs.Common.{◌≡◌, ℕ, ◌+◌, ◌*◌, ◌/◌, ◌%◌, Bool, true, false, eqb, cond, List, [], ◌∷◌, length, map, get_or, sym, ap, ◌∙◌, refl, inl, inr}
use Rattle.std.proofs.lemmas.Bool.{cases_eq}
use Rattle.std.proofs.Math.Path.{fun_ext}
use Rattle.std.proofs.Math.ListN.{get_or-map}
use Rattle.std.proofs.lemmas.List.{length-map}
use Rattle.part_words.specs.Extents.{index_of}
use Rattle.part_words.specs.Parts.{Parts, word_at, update, extent_of, seen_through}
use Rattle.part_words.proofs.Updates.{update_same, update_other}

cond_through : {T U : Type 0} (f : T → U) (b : Bool) (x d : T) → cond b (f x) (f d) ≡ f (cond b x d)
cond_through f true x d = refl
cond_through f false x d = refl

-- each word is what the function makes of it
pub word_at-seen_through : {T U : Type 0} (f : T → U) (ws : Parts T) (d : T) → word_at (seen_through f ws) (f d) ≡ (λ a. f (word_at ws d a))
unfolding word_at
word_at-seen_through f ws d =
    fun_ext (λ a.
    let n = index_of ws.base a in
    let part = get_or-map (map f) ws.parts (n / ws.width) [] in
    let word = ap (λ ps. get_or ps (n % ws.width) (f d)) part ∙ get_or-map f (get_or ws.parts (n / ws.width) []) (n % ws.width) d in
    ap (λ x. cond (eqb (ws.base + 16 * n) a) x (f d)) word ∙ cond_through f (eqb (ws.base + 16 * n) a) _ d)

lengths : {T U : Type 0} (f : T → U) (ps : List (List T)) → map length (map (map f) ps) ≡ map length ps
lengths f [] = refl
lengths f (p ∷ ps) = rw (length-map p f, lengths f ps) refl

-- and as many words are open
pub extent_of-seen_through : {T U : Type 0} (f : T → U) (ws : Parts T) → extent_of (seen_through f ws) ≡ extent_of ws
extent_of-seen_through f ws =
    ap (λ words. record { base = ws.base; width = ws.width; words = words }) (lengths f ws.parts)

update_through : {T U : Type 0} (f : T → U) (g : ℕ → T) (at : ℕ) (x : T) → (λ a. f (update g at x a)) ≡ update (λ a. f (g a)) at (f x)
update_through f g at x = fun_ext (λ a. sym (cond_through f (eqb a at) x (g a)))

update_own : {U : Type 0} (g : ℕ → U) (at : ℕ) → update g at (g at) ≡ g
update_own g at =
    fun_ext (λ a. elim (cases_eq a at) [
      | inl e ↦ rw e (update_same g at (g at))
      | inr other ↦ update_other g at (g at) a other
    ])

-- a word that is written is seen so
pub written_through : {T U : Type 0} (f : T → U) (ws ws' : Parts T) (d : T) (at : ℕ) (x : T) → word_at ws' d ≡ update (word_at ws d) at x → word_at (seen_through f ws') (f d) ≡ update (word_at (seen_through f ws) (f d)) at (f x)
written_through f ws ws' d at x e =
    rw (word_at-seen_through f ws' d, word_at-seen_through f ws d, e) (update_through f (word_at ws d) at x)

-- what is written is seen as the word that was there
pub same_through : {T U : Type 0} (f : T → U) (ws ws' : Parts T) (d : T) (at : ℕ) (x : T) → word_at ws' d ≡ update (word_at ws d) at x → f x ≡ f (word_at ws d at) → word_at (seen_through f ws') (f d) ≡ word_at (seen_through f ws) (f d)
same_through f ws ws' d at x e same =
    written_through f ws ws' d at x e ∙ rw (same, word_at-seen_through f ws d) (update_own (λ a. f (word_at ws d a)) at)
