-- A head is written, and the feet with it.
use Rattle.std.proofs.Common.{◌≡◌, ℕ, ◌+◌, ◌-◌, ◌<◌, ◌≤◌, Bool, true, false, ◌&&◌, nat_lt, sym, ap, ◌∙◌, refl, subst, inl, inr, arith}
use Rattle.std.proofs.lemmas.Bool.{cases_eq, lt-ltb, ltb-true}
use Rattle.part_words.specs.Parts.{update}
use Rattle.part_words.proofs.Updates.{update_same, update_other}
use Rattle.chunk_tags.specs.declared.tiles.TileKind.{TileKind}
use Rattle.chunk_tags.specs.declared.tiles.TileKind.TheVariants.{Used, Free, Top, Fence}
use Rattle.chunk_image.specs.declared.heads.Head.{Head}
use Rattle.chunk_image.specs.Heads.{is_kind_free, is_free_head, with_foot, AreFooted}

-- what is true of the new value, and of the others, is true after an update
pub update_cases : {T : Type 0} (P : T → Type 0) (f : ℕ → T) (at : ℕ) (x : T) (a : ℕ) → (a ≡ at → P x) → ((a ≡ at → ⊥) → P (f a)) → P (update f at x a)
update_cases {T} P f at x a here there =
    elim (cases_eq a at) [
      | inl e ↦ subst (λ b. P (update f at x b)) (sym e) (subst P (sym (update_same f at x)) (here e))
      | inr other ↦ subst P (sym (update_other f at x a other)) (there other)
    ]

foot_cases : (P : ℕ → Type 0) (h : Head) (at n : ℕ) (g : ℕ → ℕ) (b : ℕ) → (is_free_head h ≡ true → b ≡ at + h.size → P n) → ((is_free_head h ≡ true → b ≡ at + h.size → ⊥) → P (g b)) → P (with_foot h at n g b)
foot_cases P h at n g b here there = go (is_free_head h) refl
  where
    go : (free : Bool) → is_free_head h ≡ free → P (with_foot h at n g b)
    go true e = rw e (update_cases P g (at + h.size) n b (here e) (λ other. there (λ _ same. other same)))
    go false e = rw e (there (λ free _. cc))

kind_free : (k : TileKind) → is_kind_free k ≡ true → k ≡ Free
kind_free Used e = cc
kind_free Free e = refl
kind_free Top e = cc
kind_free Fence e = cc

and_right : (a b : Bool) → (a && b) ≡ true → b ≡ true
and_right true b e = e
and_right false b e = cc

and_left : (a b : Bool) → (a && b) ≡ true → a ≡ true
and_left true b e = refl
and_left false b e = cc

-- a free tile has a size
pub free_size : (h : Head) → is_free_head h ≡ true → 0 < h.size
free_size h free = ltb-true 0 h.size (and_left (nat_lt 0 h.size) (is_kind_free h.kind) free)

pub free_kind : (h : Head) → is_free_head h ≡ true → h.kind ≡ Free
free_kind h free = kind_free h.kind (and_right (nat_lt 0 h.size) (is_kind_free h.kind) free)

-- a free tile's head is known by its size
pub free_head : (h : Head) → is_free_head h ≡ true → h ≡ record { size = h.size; kind = Free }
free_head h free =
    ap (λ k. record { size = h.size; kind = k }) (free_kind h free)

-- the foot of another tile stays
feet_kept : (f : ℕ → Head) (g : ℕ → ℕ) (at : ℕ) (h : Head) (a : ℕ) → AreFooted f g → (a ≡ at → ⊥) → is_free_head (f a) ≡ true → (is_free_head h ≡ true → a + (f a).size ≡ at + h.size → ⊥) → with_foot h at h.size (with_foot (f at) at 0 g) (a + (f a).size) ≡ (f a).size
feet_kept f g at h a old other free apart =
    foot_cases (λ n. n ≡ (f a).size) h at h.size (with_foot (f at) at 0 g) (a + (f a).size) (λ now e. absurd (apart now e))
    (λ _. foot_cases (λ n. n ≡ (f a).size) (f at) at 0 g (a + (f a).size) (λ was e. absurd (other (omega (arith, e, old.footed at was, old.footed a free, ap g e)))) (λ _. old.footed a free))

-- a foot that stands means a free tile
feet_meant : (f : ℕ → Head) (g : ℕ → ℕ) (at : ℕ) (h : Head) (b : ℕ) → AreFooted f g → 0 < with_foot h at h.size (with_foot (f at) at 0 g) b → update f at h (b - with_foot h at h.size (with_foot (f at) at 0 g) b) ≡ record { size = with_foot h at h.size (with_foot (f at) at 0 g) b; kind = Free }
feet_meant f g at h b old =
    let P : ℕ → Type 0 = λ n. 0 < n → update f at h (b - n) ≡ record { size = n; kind = Free } in
    foot_cases P h at h.size (with_foot (f at) at 0 g) b
    (λ now e _. let here : b - h.size ≡ at = omega (arith, e) in rw here (update_same f at h ∙ free_head h now))
    (λ _. foot_cases P (f at) at 0 g b (λ _ _ no_foot. absurd (omega (arith, no_foot)))
    (λ gone stands. update_other f at h (b - g b) (λ here.
    let was : f at ≡ record { size = g b; kind = Free } = subst (λ a. f a ≡ record { size = g b; kind = Free }) here (old.meant b stands) in
    gone (rw (was, lt-ltb 0 (g b) stands) refl) (omega (arith, here, old.below b, ap (λ (k : Head). k.size) was))) ∙ old.meant b stands))

-- a head is written where it can stand
pub AreFooted-put : (f : ℕ → Head) (g : ℕ → ℕ) (at : ℕ) (h : Head) → AreFooted f g → (is_free_head h ≡ true → (a : ℕ) → is_free_head (f a) ≡ true → a + (f a).size ≡ at + h.size → a ≡ at) → AreFooted (update f at h) (with_foot h at h.size (with_foot (f at) at 0 g))
AreFooted-put f g at h old alone =
    record {
      footed = λ a. update_cases (λ k. is_free_head k ≡ true → with_foot h at h.size (with_foot (f at) at 0 g) (a + k.size) ≡ k.size) f at h a
          (λ e now. rw (e, now) (update_same (with_foot (f at) at 0 g) (at + h.size) h.size))
          (λ other free. feet_kept f g at h a old other free (λ now e. other (alone now a free e)));
      below = λ b. foot_cases (λ n. n ≤ b) h at h.size (with_foot (f at) at 0 g) b (λ _ e. omega arith) (λ _. foot_cases (λ n. n ≤ b) (f at) at 0 g b (λ _ _. omega arith) (λ _. old.below b));
      meant = λ b. feet_meant f g at h b old;
    }
