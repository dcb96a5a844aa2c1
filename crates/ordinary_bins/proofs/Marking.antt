-- The marks of bins go with the links of their own nodes.
use Rattle.std.proofs.Common.{◌≡◌, ℕ, ◌<◌, ◌≤◌, not, Option, Some, None, IfSome, IfNone, ltb, leb, List, length, set, get_or, sym, ap, ◌∙◌, inl, inr, arith}
use Rattle.std.proofs.lemmas.Bool.{cases_lt, cases_eq, lt-ltb, le-ltb, lt-leb, le-leb}
use Rattle.std.proofs.lemmas.List.{get_or-set_same, get_or-set_other}
use Rattle.ordinary_bins.specs.Lists.{bin_count}
use Rattle.ordinary_bins.specs.Codes.{node_of}
use Rattle.ordinary_bins.specs.BinMaps.{marked, mark_of, leads_on, AreMarked}
use Rattle.ordinary_bins.specs.NodeWords.{no_codes, ahead}
use Rattle.ordinary_bins.specs.declared.bin_map.BinMap.{BinMap}
use Rattle.ordinary_bins.specs.declared.nodes.LinkCodes.{LinkCodes}
use Rattle.ordinary_bins.specs.declared.nodes.Nodes.{Nodes}
use Rattle.ordinary_bins.proofs.CodeLaws.{node_of-own}
use Rattle.ordinary_bins.proofs.NodeLinks.{own_codes}

mark_is : (nodes : Nodes) (bin : ℕ) → bin < bin_count → marked nodes.map bin ≡ mark_of (not (ltb (ahead nodes bin) bin_count))
mark_is nodes bin lt = nodes.marks.bins bin lt ∙ ap (λ c. mark_of (leads_on nodes.base nodes.width c)) (sym (own_codes nodes bin lt))

leads : (nodes : Nodes) (bin : ℕ) → bin < bin_count → marked nodes.map bin ≡ 1 → bin_count ≤ ahead nodes bin
leads nodes bin lt set = elim (cases_lt (ahead nodes bin) bin_count) [
  | inl own ↦ absurd (omega (arith, set, mark_is nodes bin lt, ap (λ t. mark_of (not t)) (lt-ltb (ahead nodes bin) bin_count own)))
  | inr chunk ↦ chunk
]

leads_back : (nodes : Nodes) (bin : ℕ) → bin < bin_count → marked nodes.map bin ≡ 0 → ahead nodes bin < bin_count
leads_back nodes bin lt none = elim (cases_lt (ahead nodes bin) bin_count) [
  | inl own ↦ own
  | inr chunk ↦ absurd (omega (arith, none, mark_is nodes bin lt, ap (λ t. mark_of (not t)) (le-ltb (ahead nodes bin) bin_count chunk)))
]

-- what was found by the marks
pub filled_by : (nodes : Nodes) (bin : ℕ) (found : Option ℕ) → IfSome found (λ b. (bin ≤ b) × (b < 128) × (marked nodes.map b ≡ 1)) → IfSome found (λ b. (bin ≤ b) × (b < bin_count) × (bin_count ≤ ahead nodes b))
filled_by nodes bin None set = tt
filled_by nodes bin (Some b) set = elim (cases_lt b bin_count) [
  | inl lt ↦ (set.0, lt, leads nodes b lt set.2)
  | inr le ↦
      let last : b ≡ bin_count = omega (arith, set.1) in
      absurd (omega (arith, set.2, ap (marked nodes.map) last, nodes.marks.behind))
]

pub empty_before : (nodes : Nodes) (bin : ℕ) (found : Option ℕ) → IfSome found (λ b. (bin ≤ b) × (b < 128) × (marked nodes.map b ≡ 1)) → IfSome found (λ b. (n : ℕ) → bin ≤ n → n < b → marked nodes.map n ≡ 0) →
    IfSome found (λ b. (n : ℕ) → bin ≤ n → n < b → ahead nodes n < bin_count)
empty_before nodes bin None set before = tt
empty_before nodes bin (Some b) set before = λ n low high. leads_back nodes n (omega (arith, set.1, high)) (before n low high)

pub all_empty : (nodes : Nodes) (bin : ℕ) (found : Option ℕ) → IfNone found ((n : ℕ) → bin ≤ n → n < 128 → marked nodes.map n ≡ 0) → IfNone found ((n : ℕ) → bin ≤ n → n < bin_count → ahead nodes n < bin_count)
all_empty nodes bin None none = λ n low high. leads_back nodes n high (none n low (omega (arith, high)))
all_empty nodes bin (Some b) none = tt

-- ---- marks that are kept

pub fresh_marks : (m : BinMap) (base width : ℕ) (own : List LinkCodes) → ((n : ℕ) → marked m n ≡ 0) → ((n : ℕ) → n < bin_count → get_or own n no_codes ≡ record { fd = n; bk = n }) → AreMarked m base width own
fresh_marks m base width own none is = record {
  bins = λ bin lt.
      none bin
      ∙ sym (ap (λ c. mark_of (leads_on base width c)) (is bin lt) ∙ ap (λ n. mark_of (not (ltb n bin_count))) (node_of-own base width bin lt) ∙ ap (λ t. mark_of (not t)) (lt-ltb bin bin_count lt));
  behind = none bin_count;
}

same_mark : (base width lead : ℕ) (c : LinkCodes) → lead ≡ node_of base width c.fd → mark_of (leb bin_count lead) ≡ mark_of (leads_on base width c)
same_mark base width lead c is = elim (cases_lt lead bin_count) [
  | inl own ↦ ap mark_of (lt-leb bin_count lead own) ∙ sym (ap (λ n. mark_of (not (ltb n bin_count))) (sym is) ∙ ap (λ t. mark_of (not t)) (lt-ltb lead bin_count own))
  | inr chunk ↦ ap mark_of (le-leb bin_count lead chunk) ∙ sym (ap (λ n. mark_of (not (ltb n bin_count))) (sym is) ∙ ap (λ t. mark_of (not t)) (le-ltb lead bin_count chunk))
]

pub marks_set : (m after : BinMap) (base width : ℕ) (own : List LinkCodes) (node lead : ℕ) (c : LinkCodes) → node < length own → node < bin_count → AreMarked m base width own →
    lead ≡ node_of base width c.fd → marked after node ≡ mark_of (leb bin_count lead) → ((n : ℕ) → n < 128 → (n ≡ node → ⊥) → marked after n ≡ marked m n) → AreMarked after base width (set own node c)
marks_set m after base width own node lead c inside low are is here others = record {
  bins = λ bin lt. elim (cases_eq bin node) [
    | inl same ↦
        ap (marked after) same ∙ here ∙ same_mark base width lead c is
        ∙ sym (ap (λ d. mark_of (leads_on base width d)) (ap (λ n. get_or (set own node c) n no_codes) same ∙ get_or-set_same own node c no_codes inside))
    | inr other ↦ others bin (omega arith) other ∙ are.bins bin lt ∙ sym (ap (λ d. mark_of (leads_on base width d)) (get_or-set_other own node bin c no_codes other))
  ];
  behind = others bin_count (omega arith) (λ same. omega (arith, same, low)) ∙ are.behind;
}
