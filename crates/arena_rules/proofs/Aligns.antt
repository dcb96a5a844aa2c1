-- Laws of alignments and of the lead before an aligned chunk, for this crate and those above it: none, or a chunk; its end is
-- aligned; and the size that is searched for has nb bytes and a smallest chunk behind it.
use Rattle.std.proofs.Common.{◌≡◌, ℕ, ◌+◌, ◌-◌, ◌*◌, ◌/◌, ◌%◌, ◌^◌, ◌<◌, ◌≤◌, Bool, true, false, cond, count_ones, refl, sym, ap, ◌∙◌, inl, inr, arith}
use Rattle.std.specs.Prelude.{nat_eq, nat_lt, ◌⊎◌}
use Rattle.std.proofs.lemmas.Bool.{eqb-true, eqb-false, ltb-true, ltb-false}
use Rattle.std.proofs.lemmas.Nat.{mod_below, ones_cat, zero_from_ones}
use Rattle.std.proofs.Math.Nat.{mod-mod_of_dvd, dvd_of_mod-eq-zero, mod-add-mod, mod_self, add-mod_left, zero-mod}
use Rattle.chunk_tags.specs.Sizes.{IsChunkSize}
use Rattle.arena_rules.specs.Align.{IsAlignment, size_with_lead, bytes_past, lead_past, lead_of}

-- an alignment is a multiple of 16: of its binary digits one is set, and from 32 on that is none of the lowest four
pub alignment_whole : {align : ℕ} → IsAlignment align → align % 16 ≡ 0
alignment_whole {align} i =
    let parts : align / 16 * 2 ^ 4 + align % 16 ≡ align = omega arith in
    let one : count_ones (align / 16) + count_ones (align % 16) ≡ 1 = sym (ones_cat 4 (align / 16) (align % 16) (omega arith)) ∙ (ap count_ones parts ∙ eqb-true (count_ones align) 1 i.power) in
    let high : count_ones (align / 16) ≡ 0 → ⊥ = λ none. let none : align / 16 ≡ 0 = zero_from_ones (align / 16) none in omega (arith, i.least) in
    zero_from_ones (align % 16) (omega arith)

pub record IsLead (align at lead : ℕ) : Type 0 where
  pub aligned : (at + lead + 16) % align ≡ 0
  pub whole : lead % 16 ≡ 0
  pub chunk : (lead ≡ 0) ⊎ (32 ≤ lead)
  pub most : lead ≤ align + 16

-- a user address is past a multiple by less than the alignment, and by whole 16 bytes
record IsPast (align at past : ℕ) : Type 0 where
  below : past < align
  whole : past % 16 ≡ 0
  adds : (lead : ℕ) → (at + lead + 16) % align ≡ (past + lead) % align

past_of : (align at : ℕ) → IsAlignment align → at % 16 ≡ 0 → IsPast align at (bytes_past align at)
past_of align at i place = record {
  below = mod_below (at + 16) align (omega (arith, i.least));
  whole = mod-mod_of_dvd 16 (at + 16) (dvd_of_mod-eq-zero 16 (alignment_whole i)) ∙ omega (arith, place);
  adds = λ lead. let same : at + lead + 16 ≡ at + 16 + lead = omega arith in
      ap (λ n. n % align) same ∙ sym (mod-add-mod (at + 16) align lead);
}

lead_behind : (align at past : ℕ) → IsAlignment align → IsPast align at past → (past ≡ 0 → ⊥) → IsLead align at (lead_past align past)
lead_behind align at past i p some =
    let whole : align % 16 ≡ 0 = alignment_whole i in
    let near : past + (align - past) ≡ align = omega (arith, p.below) in
    let far : past + (align - past + align) ≡ align + align = omega (arith, p.below) in
    let cases : (b : Bool) → nat_lt (align - past) 32 ≡ b → IsLead align at (cond b (align - past + align) (align - past)) = elim [
      | true ↦ λ is. record {
        aligned = p.adds (align - past + align) ∙ (ap (λ n. n % align) far ∙ (add-mod_left align align ∙ mod_self align));
        whole = omega (arith, p.below, p.whole, whole);
        chunk = inr (omega (arith, i.least));
        most = omega (arith, p.below, p.whole, whole, ltb-true (align - past) 32 is);
      }
      | false ↦ λ is. record {
        aligned = p.adds (align - past) ∙ (ap (λ n. n % align) near ∙ mod_self align);
        whole = omega (arith, p.below, p.whole, whole);
        chunk = inr (ltb-false (align - past) 32 is);
        most = omega arith;
      }
    ] in
    cases (nat_lt (align - past) 32) refl

pub lead_is : (align at : ℕ) → IsAlignment align → at % 16 ≡ 0 → IsLead align at (lead_of align at)
lead_is align at i place =
    let past : ℕ = bytes_past align at in
    let p : IsPast align at past = past_of align at i place in
    let cases : (b : Bool) → nat_eq past 0 ≡ b → IsLead align at (cond b 0 (lead_past align past)) = elim [
      | true ↦ λ is. record {
        aligned = p.adds 0 ∙ (ap (λ n. (n + 0) % align) (eqb-true past 0 is) ∙ zero-mod align);
        whole = refl;
        chunk = inl refl;
        most = omega arith;
      }
      | false ↦ λ is. lead_behind align at past i p (eqb-false past 0 is)
    ] in
    cases (nat_eq past 0) refl

-- a lead that is parted off is a chunk
pub lead_chunk : (align at : ℕ) → IsAlignment align → at % 16 ≡ 0 → nat_eq (lead_of align at) 0 ≡ false → IsChunkSize (lead_of align at)
lead_chunk align at i place is =
    let lead : IsLead align at (lead_of align at) = lead_is align at i place in
    elim lead.chunk [
      | inl none ↦ absurd (eqb-false (lead_of align at) 0 is none)
      | inr some ↦ (some, lead.whole)
    ]

-- there is room for the longest lead, and behind it for nb bytes and a smallest chunk
lead_fits : (align nb : ℕ) → nb % 16 ≡ 0 → align % 16 ≡ 0 → nb + align + 48 ≤ size_with_lead align nb
lead_fits align nb whole i =
    let r : ℕ = nb + align + 32 in
    let cases : (b : Bool) → nat_lt (r + 23) 32 ≡ b → nb + align + 48 ≤ cond b 32 ((r + 23) / 16 * 16) = elim [
      | true ↦ λ is. absurd (omega (arith, ltb-true (r + 23) 32 is))
      | false ↦ λ is. omega (arith, whole, i)
    ] in
    cases (nat_lt (r + 23) 32) refl

pub aligned_part_fits : (align nb at size : ℕ) → IsAlignment align → at % 16 ≡ 0 → nb % 16 ≡ 0 → size_with_lead align nb ≤ size → lead_of align at + nb + 32 ≤ size
aligned_part_fits align nb at size i place whole le =
    omega (arith, (lead_is align at i place).most, lead_fits align nb whole (alignment_whole i), le)
