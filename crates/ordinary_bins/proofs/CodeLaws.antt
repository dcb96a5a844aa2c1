-- Codes of nodes.
use Rattle.std.proofs.Common.{◌≡◌, ℕ, ◌+◌, ◌-◌, ◌*◌, ◌/◌, ◌%◌, ◌^◌, ◌<◌, ◌≤◌, ◌⊎◌, max, get_or, ltb, sym, subst, ap, ◌∙◌, inl, inr, arith, refl, true, false}
use Rattle.std.proofs.Math.Nat.{mod-eq_of_lt, mul-add-mod_self_right}
use Rattle.std.proofs.lemmas.Nat.{div-add-mod', div-mul-add, mod_below}
use Rattle.std.proofs.lemmas.Bool.{cases_eq, cases_lt, lt-ltb, le-ltb}
use Rattle.part_words.specs.Extents.{Extent, index_of, changed_at, IsOpen, IsWithinPart, extended}
use Rattle.part_words.proofs.Opening.{get_or-changed_same, get_or-changed_other}
use Rattle.ordinary_bins.specs.Lists.{bin_count}
use Rattle.ordinary_bins.specs.Codes.{far, near_words, node_of, HasCode, AreCoded}

pub node_of-own : (base width code : ℕ) → code < bin_count → node_of base width code ≡ code
unfolding node_of
node_of-own base width code lt = let own : ltb code bin_count ≡ true = lt-ltb code bin_count lt in rw own refl

pub node_of-near : (base width code : ℕ) → bin_count ≤ code → code < far → node_of base width code ≡ (base + 16 * (code - bin_count)) % 2 ^ 64
unfolding node_of
node_of-near base width code le lt =
    let chunk : ltb code bin_count ≡ false = le-ltb code bin_count le in
    let near : ltb code far ≡ true = lt-ltb code far lt in
    rw (chunk, near) refl

pub node_of-far : (base width code : ℕ) → far ≤ code → node_of base width code ≡ (base + 16 * (width + (code - far))) % 2 ^ 64
unfolding node_of
node_of-far base width code le =
    let chunk : ltb code bin_count ≡ false = le-ltb code bin_count (omega (arith, le)) in
    let above : ltb code far ≡ false = le-ltb code far le in
    rw (chunk, above) refl

-- a word's code leads back to its address
pub near_back : (base width word node : ℕ) → base + 16 * word ≡ node → node < 2 ^ 64 → word < near_words → node_of base width (word + bin_count) ≡ node
near_back base width word node place fits lt =
    node_of-near base width (word + bin_count) (omega arith) (omega (arith, lt)) ∙ omega (arith, place, fits)

pub far_back : (base width word node : ℕ) → base + 16 * word ≡ node → node < 2 ^ 64 → width ≤ word → node_of base width (word - width + far) ≡ node
far_back base width word node place fits le =
    node_of-far base width (word - width + far) (omega arith) ∙ omega (arith, place, fits, le)

-- A range of a part.

positive : (n : ℕ) → (n ≡ 0 → ⊥) → 0 < n
positive n some = elim (cases_lt 0 n) [
  | inl lt ↦ lt
  | inr none ↦ absurd (some (omega (arith, none)))
]

-- a number of a later part than the first
past_first : (w i j : ℕ) → 0 < w → j / w ≡ i / w → w ≤ i → w ≤ j
past_first w i j wide same le =
    elim (cases_lt j w) [
      | inl lt ↦ absurd (omega (arith, le, lt, mod-eq_of_lt lt, div-add-mod' i w, div-add-mod' j w, ap (λ q. q * w) same, mod_below i w wide))
      | inr past ↦ past
    ]

-- a word that is open then is of the range's part, and before its end, or was open
opened : (e : Extent) (at len n : ℕ) → IsOpen (extended e at len) n → (index_of e.base n / e.width ≡ index_of e.base at / e.width) × (index_of e.base n < index_of e.base at + len / 16) ⊎ IsOpen e n
opened e at len n open_n =
    let i = index_of e.base at in
    let j = index_of e.base n in
    let k = i / e.width in
    let more : ℕ → ℕ = max (i % e.width + len / 16) in
    elim (cases_eq (j / e.width) k) [
      | inl same ↦
          let read : get_or (changed_at 0 k more e.words) (j / e.width) 0 ≡ more (get_or e.words k 0) = ap (λ q. get_or (changed_at 0 k more e.words) q 0) same ∙ get_or-changed_same 0 k more e.words in
          elim (cases_lt (j % e.width) (i % e.width + len / 16)) [
            | inl lt ↦ inl (same, omega (arith, lt, div-add-mod' i e.width, div-add-mod' j e.width, ap (λ q. q * e.width) same))
            | inr past ↦ inr (record { place = open_n.place; below = omega (arith, open_n.below, read, past, ap (λ q. get_or e.words q 0) same) })
          ]
      | inr other ↦ inr (record { place = open_n.place; below = omega (arith, open_n.below, get_or-changed_other 0 k more e.words (j / e.width) other) })
    ]

-- a range is coded where there are codes for the words that come
coded_more : (base width : ℕ) (e : Extent) (at len : ℕ) → AreCoded base width e → ((word : ℕ) → word / width ≡ index_of base at / width → word < index_of base at + len / 16 → HasCode width word) → AreCoded base width (extended e at len)
coded_more base width e at len coded room = record {
  base_is = coded.base_is;
  width_is = coded.width_is;
  wide = coded.wide;
  codes = λ n o. elim (opened e at len n o) [
    | inl new ↦ room (index_of base n) (rw (coded.base_is, coded.width_is) at new.0) (rw coded.base_is at new.1)
    | inr old ↦ coded.codes n old
  ];
}

pub coded_near : (base width : ℕ) (e : Extent) (at len : ℕ) → AreCoded base width e → index_of base at + len / 16 ≤ near_words → AreCoded base width (extended e at len)
coded_near base width e at len coded near =
    coded_more base width e at len coded (λ word same lt. record { room = λ le. absurd (omega (arith, le, lt, near)) })

pub coded_far : (base width : ℕ) (e : Extent) (at len : ℕ) → AreCoded base width e → width ≤ index_of base at → index_of base at + len / 16 - width ≤ far → AreCoded base width (extended e at len)
coded_far base width e at len coded later few =
    coded_more base width e at len coded (λ word same lt. record { room = λ le. (past_first width (index_of base at) word coded.wide same later, omega (arith, lt, few, later)) })

pub coded_none : (base width : ℕ) (e : Extent) (at len : ℕ) → AreCoded base width e → len ≡ 0 → index_of base at % width ≡ 0 → AreCoded base width (extended e at len)
coded_none base width e at len coded none start =
    coded_more base width e at len coded (λ word same lt. absurd (omega (arith, lt, none, start, div-add-mod' word width, div-add-mod' (index_of base at) width, ap (λ q. q * width) same)))

-- where nothing is to be opened, the range is within what codes reach
pub open_has_room : (base width : ℕ) (e : Extent) (at len : ℕ) → AreCoded base width e → IsWithinPart e at len → extended e at len ≡ e → (index_of base at % width + len / 16 ≡ 0 → ⊥) → near_words < index_of base at + len / 16 → (width ≤ index_of base at) × (index_of base at + len / 16 - width ≤ far)
open_has_room base width e at len coded within same some near =
    let i = index_of e.base at in
    let k = i / e.width in
    let end = i % e.width + len / 16 in
    let last = k * e.width + (end - 1) in
    let base_is : i ≡ index_of base at = ap (λ b. index_of b at) coded.base_is in
    let some_e : end ≡ 0 → ⊥ = rw (← coded.base_is, ← coded.width_is) at some in
    let long : 0 < end = positive end some_e in
    let fits : end - 1 < e.width = omega (arith, within.fits, long) in
    let below : end ≤ get_or e.words k 0 = omega (arith, get_or-changed_same 0 k (max end) e.words, ap (λ (f : Extent). get_or f.words k 0) same) in
    let word : index_of e.base (e.base + 16 * last) ≡ last = omega arith in
    let part : last / e.width ≡ k = div-mul-add k e.width (end - 1) fits in
    let place : last % e.width ≡ end - 1 = mul-add-mod_self_right k e.width (end - 1) ∙ mod-eq_of_lt fits in
    let is_open : IsOpen e (e.base + 16 * last) = record {
      place = omega (arith, word);
      below = rw (word, part, place) (omega (arith, below, long));
    } in
    let has : HasCode width last = subst (HasCode width) (ap (λ b. index_of b (e.base + 16 * last)) (sym coded.base_is) ∙ word) (coded.codes (e.base + 16 * last) is_open) in
    let count : last + 1 ≡ index_of base at + len / 16 = omega (arith, div-add-mod' i e.width, long, base_is) in
    let room = has.room (omega (arith, near, count)) in
    let later = past_first e.width last i (omega (arith, coded.wide, coded.width_is)) (sym part) (omega (arith, room.0, coded.width_is)) in
    (omega (arith, later, coded.width_is, base_is), omega (arith, room.1, count))
