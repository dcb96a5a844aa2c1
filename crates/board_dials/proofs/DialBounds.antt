-- No word of the dials wraps or goes below 0, and where the mmap threshold may stand.
use Rattle.std.proofs.Common.{◌≡◌, ℕ, ◌+◌, ◌-◌, ◌%◌, ◌^◌, ◌<◌, ◌≤◌, ◌⊎◌, ⊎_elim, inl, inr, List, [], ◌∷◌, length, get_or, sym, arith, subst}
use native.Mathlib.Nat.{mod-eq_of_lt}
use Rattle.chunk_tags.specs.declared.tunables.Tunables.{Tunables}
use Rattle.address_space.specs.Spaces.{map_length}
use Rattle.board_types.specs.Weights.{weigh}
use Rattle.board_types.specs.Trays.{Tray}
use Rattle.board_types.specs.Dials.{Dials, Counting, SomeView, IsThreshold, AreRaises, IsIn, IsSetTo}
use Rattle.board_dials.proofs.DialParts.{weigh_most, most_rows}

module _ (t : Tunables) (trays : List Tray) (words : List ℕ) (views : List Counting) (law : Dials t trays words views) where
  pub mapped_room : length views ≤ 256 → (get_or words 2 0 + 1) % 2 ^ 64 ≡ get_or words 2 0 + 1
  mapped_room few =
      let a = law.all_mapped.0 in
      let b = weigh_most (λ (c : Counting). c.0.all_mapped) (λ (c : Counting). c.0.windows) views (map_length + 1) law.counted in
      let c = most_rows (weigh (λ (c : Counting). c.0.windows) views) (map_length + 1) (let o = law.one_each in omega arith) in
      mod-eq_of_lt (omega arith)

  pub bytes_room : (k : ℕ) → length views ≤ 256 → k ≤ map_length → (get_or words 3 0 + k) % 2 ^ 64 ≡ get_or words 3 0 + k
  bytes_room k few short =
      let a = law.given in
      let b = weigh_most (λ (c : Counting). c.0.given) (λ (c : Counting). c.0.windows) views map_length law.windows in
      let c = most_rows (weigh (λ (c : Counting). c.0.windows) views) map_length (let o = law.one_each in omega arith) in
      mod-eq_of_lt (omega arith)

  -- where the mmap threshold may stand: at its start, where somebody set it, or where a raise may be
  raise_in : (n : ℕ) (xs : List ℕ) → AreRaises t xs → IsIn n xs → AreRaises t (n ∷ [])
  raise_in n [] all h = absurd h
  raise_in n (x ∷ xs) all h = ⊎_elim (λ is. subst (λ (m : ℕ). AreRaises t (m ∷ [])) (sym is) (all.0, all.1, tt)) (λ more. raise_in n xs all.2 more) h

  pub threshold_is : (n : ℕ) → IsThreshold t views 0 n → (n ≡ t.mmap_threshold) ⊎ (SomeView (λ v. IsSetTo 0 n v.0.set) views ⊎ AreRaises t (n ∷ []))
  threshold_is n h = ⊎_elim (λ a. inl a) (λ b. inr (⊎_elim (λ c. inl c) (λ c. inr (raise_in n c.1.0.raises (law.raises c.0 c.1 c.2) c.3)) b)) h

-- what fetch_sub makes of a word that is at least what it takes
pub less_word : (n k : ℕ) → k ≤ n → n < 2 ^ 64 → (n + (2 ^ 64 - k)) % 2 ^ 64 ≡ n - k
less_word n k l small = omega arith
