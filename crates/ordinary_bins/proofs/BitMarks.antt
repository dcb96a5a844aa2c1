-- The first bit from a place on.
use Rattle.std.proofs.Common.{◌≡◌, ℕ, ◌+◌, ◌-◌, ◌/◌, ◌%◌, ◌^◌, ◌<◌, ◌≤◌, w64, sym, ap, ◌∙◌, arith, inl, inr}
use Rattle.std.specs.Int.{bit_at, trailing_zeros}
use Rattle.std.proofs.lemmas.Bool.{cases_lt}
use Rattle.std.proofs.Math.Nat.{mod-lt, div-le_self}
use Rattle.std.proofs.lemmas.Nat.{div-add-mod', pow_pos}
use Rattle.std.proofs.lemmas.Nat.Bits.{bit_at-zero, bit_at_above, bit_at_cat_high, bit_at-trailing_zeros}

-- a bit behind a place is one of the word without what is before it
shifted : (n k j : ℕ) → k ≤ j → bit_at n j ≡ bit_at (n / 2 ^ k) (j - k)
shifted n k j le =
    ap (λ m. bit_at m j) (sym (div-add-mod' n (2 ^ k))) ∙ bit_at_cat_high (n / 2 ^ k) k (n % 2 ^ k) j (mod-lt n (pow_pos k)) le

pub none_set : (n k i : ℕ) → n / 2 ^ k ≡ 0 → k ≤ i → bit_at n i ≡ 0
none_set n k i zero le = shifted n k i le ∙ ap (λ m. bit_at m (i - k)) zero ∙ bit_at-zero (i - k)

-- the place of the first one
abbrev pub first_place : ℕ → ℕ → ℕ
first_place n k = k + trailing_zeros w64 (n / 2 ^ k)

pub first_set : (n k : ℕ) → n < 2 ^ 64 → 0 < n / 2 ^ k → (k ≤ first_place n k) × (first_place n k < 64) × (bit_at n (first_place n k) ≡ 1)
first_set n k fits some =
    let rest : n / 2 ^ k < 2 ^ 64 = omega (arith, fits, div-le_self n (2 ^ k)) in
    let t = trailing_zeros w64 (n / 2 ^ k) in
    let found = bit_at-trailing_zeros w64 (n / 2 ^ k) some rest in
    let place : (k + t) - k ≡ t = omega arith in
    let set : bit_at n (k + t) ≡ 1 = shifted n k (k + t) (omega arith) ∙ ap (bit_at (n / 2 ^ k)) place ∙ found.1 in (
      omega arith,
      elim (cases_lt (k + t) 64) [
        | inl lt ↦ lt
        | inr le ↦ let no : ⊥ = omega (arith, set, bit_at_above n 64 (k + t) fits le) in absurd no
      ],
      set,
    )

pub first_before : (n k i : ℕ) → n < 2 ^ 64 → 0 < n / 2 ^ k → k ≤ i → i < first_place n k → bit_at n i ≡ 0
first_before n k i fits some le lt =
    let rest : n / 2 ^ k < 2 ^ 64 = omega (arith, fits, div-le_self n (2 ^ k)) in
    shifted n k i le ∙ (bit_at-trailing_zeros w64 (n / 2 ^ k) some rest).2 (i - k) (omega arith)
