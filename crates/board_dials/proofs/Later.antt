-- What was true of a threshold, or of a dial that was read, still is while views grow.
use Rattle.std.proofs.Common.{ℕ, zero, suc, ◌≤◌, ⊎_elim, inl, inr, List, [], ◌∷◌, ◌++◌, arith}
use Rattle.chunk_tags.specs.declared.tunables.Tunables.{Tunables}
use Rattle.board_types.specs.Weights.{weigh}
use Rattle.board_types.specs.Dials.{Counting, SomeView, IsDue, IsIn, IsSetTo, IsThreshold, IsRead, AreRead, AreRaises, AreAtMost}

-- views that list at least as much
pub record IsLater (views after : List Counting) : Type 0 where
  pub sets : (i n : ℕ) → SomeView (λ v. IsSetTo i n v.0.set) views → SomeView (λ v. IsSetTo i n v.0.set) after
  pub raises : (n : ℕ) → SomeView (λ v. IsIn n v.0.raises) views → SomeView (λ v. IsIn n v.0.raises) after
  pub counts : weigh (λ v. v.0.all_mapped) views ≤ weigh (λ v. v.0.all_mapped) after
  pub lengths : weigh (λ v. v.0.all_bytes) views ≤ weigh (λ v. v.0.all_bytes) after

module _ (t : Tunables) (views after : List Counting) (later : IsLater views after) where
  pub threshold_later : (i n : ℕ) → IsThreshold t views i n → IsThreshold t after i n
  threshold_later zero n h = ⊎_elim (λ a. inl a) (λ b. inr (⊎_elim (λ c. inl (later.sets 0 n c)) (λ c. inr (later.raises n c)) b)) h
  threshold_later (suc i) n h = ⊎_elim (λ a. inl a) (λ b. inr (⊎_elim (λ c. inl (later.sets 1 n c)) (λ c. inr (c.0, c.1, later.raises c.0 c.2)) b)) h

  read_later : (i n : ℕ) → IsRead t views (i, n) → IsRead t after (i, n)
  read_later zero n h = threshold_later 0 n h
  read_later (suc zero) n h = threshold_later 1 n h
  read_later (suc (suc zero)) n h = let more = later.counts in omega arith
  read_later (suc (suc (suc zero))) n h = let more = later.lengths in omega arith
  read_later (suc (suc (suc (suc zero)))) n h = let more = later.counts in omega arith
  read_later (suc (suc (suc (suc (suc i))))) n h = let more = later.lengths in omega arith

  pub reads_later : (xs : List (ℕ × ℕ)) → AreRead t views xs → AreRead t after xs
  reads_later [] h = tt
  reads_later (x ∷ xs) h = (read_later x.0 x.1 h.0, reads_later xs h.1)

-- what is due is due to any smaller number, and at most what all are
pub due_less : (m n : ℕ) (xs : List ℕ) → m ≤ n → IsDue n xs → IsDue m xs
due_less m n [] le h = h
due_less m n (x ∷ xs) le h = ⊎_elim (λ a. inl (omega arith)) (λ a. inr (due_less m n xs le a)) h

pub due_within : (k n : ℕ) (xs : List ℕ) → AreAtMost k xs → IsDue n xs → n ≤ k
due_within k n [] all h = absurd h
due_within k n (x ∷ xs) all h = ⊎_elim (λ a. let b = all.0 in omega arith) (λ a. due_within k n xs all.1 a) h

-- what is in one of two lists is in both behind each other
pub at_most_both : (n : ℕ) (xs ys : List ℕ) → AreAtMost n xs → AreAtMost n ys → AreAtMost n (xs ++ ys)
at_most_both n [] ys a b = b
at_most_both n (x ∷ xs) ys a b = (a.0, at_most_both n xs ys a.1 b)

pub due_left : (n : ℕ) (xs ys : List ℕ) → IsDue n xs → IsDue n (xs ++ ys)
due_left n [] ys h = absurd h
due_left n (x ∷ xs) ys h = ⊎_elim (λ a. inl a) (λ a. inr (due_left n xs ys a)) h

pub due_right : (n : ℕ) (xs ys : List ℕ) → IsDue n ys → IsDue n (xs ++ ys)
due_right n [] ys h = h
due_right n (x ∷ xs) ys h = inr (due_right n xs ys h)

pub in_left : (n : ℕ) (xs ys : List ℕ) → IsIn n xs → IsIn n (xs ++ ys)
in_left n [] ys h = absurd h
in_left n (x ∷ xs) ys h = ⊎_elim (λ a. inl a) (λ a. inr (in_left n xs ys a)) h

pub in_right : (n : ℕ) (xs ys : List ℕ) → IsIn n ys → IsIn n (xs ++ ys)
in_right n [] ys h = h
in_right n (x ∷ xs) ys h = inr (in_right n xs ys h)

pub set_left : (i n : ℕ) (xs ys : List (ℕ × ℕ)) → IsSetTo i n xs → IsSetTo i n (xs ++ ys)
set_left i n [] ys h = absurd h
set_left i n (x ∷ xs) ys h = ⊎_elim (λ a. inl a) (λ a. inr (set_left i n xs ys a)) h

pub set_right : (i n : ℕ) (xs ys : List (ℕ × ℕ)) → IsSetTo i n ys → IsSetTo i n (xs ++ ys)
set_right i n [] ys h = h
set_right i n (x ∷ xs) ys h = inr (set_right i n xs ys h)

pub raises_both : (t : Tunables) (xs ys : List ℕ) → AreRaises t xs → AreRaises t ys → AreRaises t (xs ++ ys)
raises_both t [] ys a b = b
raises_both t (x ∷ xs) ys a b = (a.0, a.1, raises_both t xs ys a.2 b)

pub reads_both : (t : Tunables) (views : List Counting) (xs ys : List (ℕ × ℕ)) → AreRead t views xs → AreRead t views ys → AreRead t views (xs ++ ys)
reads_both t views [] ys a b = b
reads_both t views (x ∷ xs) ys a b = (a.0, reads_both t views xs ys a.1 b)
