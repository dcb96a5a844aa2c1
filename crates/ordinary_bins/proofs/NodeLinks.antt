-- Links that are written.
use Rattle.std.proofs.Common.{◌≡◌, ℕ, ◌<◌, ◌≤◌, ltb, sym, ap, ◌∙◌, inl, inr, arith, refl, set, get_or, length, true, false}
use Rattle.std.proofs.lemmas.Bool.{cases_lt, cases_eq, lt-ltb, le-ltb}
use Rattle.std.proofs.lemmas.List.{get_or-set_same, get_or-set_other}
use Rattle.part_words.specs.Parts.{word_at, no_words, update}
use Rattle.part_words.proofs.Updates.{update_same, update_other, word_at-no_words}
use Rattle.ordinary_bins.specs.Lists.{bin_count}
use Rattle.ordinary_bins.specs.Codes.{node_of}
use Rattle.ordinary_bins.specs.Rings.{Redirects}
use Rattle.ordinary_bins.specs.NodeWords.{codes_at, no_codes, node_in, ahead, back, Wrote, IsFresh}
use Rattle.ordinary_bins.proofs.CodeLaws.{node_of-own}
use Rattle.ordinary_bins.specs.declared.nodes.LinkCodes.{LinkCodes}
use Rattle.ordinary_bins.specs.declared.nodes.Nodes.{Nodes}

pub own_codes : (nodes : Nodes) (n : ℕ) → n < bin_count → codes_at nodes n ≡ get_or nodes.own.items n no_codes
unfolding codes_at
own_codes nodes n lt = let own : ltb n bin_count ≡ true = lt-ltb n bin_count lt in rw own refl

pub word_codes : (nodes : Nodes) (n : ℕ) → bin_count ≤ n → codes_at nodes n ≡ word_at nodes.words no_codes n
unfolding codes_at
word_codes nodes n le = let chunk : ltb n bin_count ≡ false = le-ltb n bin_count le in rw chunk refl

-- only links are written
pub record Keeps (old new : Nodes) : Type 0 where
  pub base : new.base ≡ old.base
  pub width : new.width ≡ old.width

pub wrote_own : (old new : Nodes) (node : ℕ) (c : LinkCodes) → node < length old.own.items → node < bin_count → new.own.items ≡ set old.own.items node c → new.words ≡ old.words → Keeps old new → Wrote old new node c
wrote_own old new node c inside lt own words keeps = record {
  here = own_codes new node lt ∙ (ap (λ cs. get_or cs node no_codes) own ∙ get_or-set_same old.own.items node c no_codes inside);
  others = λ n ne. elim (cases_lt n bin_count) [
    | inl low ↦ own_codes new n low ∙ (ap (λ cs. get_or cs n no_codes) own ∙ (get_or-set_other old.own.items node n c no_codes ne ∙ sym (own_codes old n low)))
    | inr high ↦ word_codes new n high ∙ (ap (λ ws. word_at ws no_codes n) words ∙ sym (word_codes old n high))
  ];
  base = keeps.base;
  width = keeps.width;
}

pub wrote_word : (old new : Nodes) (node : ℕ) (c : LinkCodes) → bin_count ≤ node → new.own ≡ old.own → word_at new.words no_codes ≡ update (word_at old.words no_codes) node c → Keeps old new → Wrote old new node c
wrote_word old new node c le own words keeps = record {
  here = word_codes new node le ∙ (ap (λ (f : ℕ → LinkCodes). f node) words ∙ update_same (word_at old.words no_codes) node c);
  others = λ n ne. elim (cases_lt n bin_count) [
    | inl low ↦ own_codes new n low ∙ (ap (λ v. get_or v.items n no_codes) own ∙ sym (own_codes old n low))
    | inr high ↦ word_codes new n high ∙ (ap (λ (f : ℕ → LinkCodes). f n) words ∙ (update_other (word_at old.words no_codes) node c n ne ∙ sym (word_codes old n high)))
  ];
  base = keeps.base;
  width = keeps.width;
}

-- a node without codes leads to the bin that is never used
pub leads_nowhere : (nodes : Nodes) (n : ℕ) → codes_at nodes n ≡ no_codes → ahead nodes n ≡ 0
leads_nowhere nodes n is = ap (λ (c : LinkCodes). node_in nodes c.fd) is ∙ node_of-own _ _ 0 (omega arith)

-- own nodes that are their own neighbours, and no words
pub fresh : (nodes : Nodes) (stride : ℕ) → nodes.words ≡ no_words nodes.base stride → ((n : ℕ) → n < bin_count → get_or nodes.own.items n no_codes ≡ record { fd = n; bk = n }) → IsFresh nodes
fresh nodes stride none own = record {
  own = λ n lt.
      let is = own_codes nodes n lt ∙ own n lt in
      (ap (λ (c : LinkCodes). node_in nodes c.fd) is ∙ node_of-own _ _ n lt, ap (λ (c : LinkCodes). node_in nodes c.bk) is ∙ node_of-own _ _ n lt);
  chunks = λ n high. leads_nowhere nodes n (word_codes nodes n high ∙ (ap (λ ws. word_at ws no_codes n) none ∙ ap (λ (g : ℕ → LinkCodes). g n) (word_at-no_words nodes.base stride no_codes)));
}

-- nodes with another way back from one of them
back_node : (old new : Nodes) → new.base ≡ old.base → new.width ≡ old.width → (code : ℕ) → node_in new code ≡ node_in old code
back_node old new base width code = ap (λ b. node_of b new.width code) base ∙ ap (λ w. node_of old.base w code) width

pub same_ahead : (old new : Nodes) (node fd to : ℕ) → fd ≡ (codes_at old node).fd → Wrote old new node (record { fd = fd; bk = to }) → (n : ℕ) → ahead new n ≡ ahead old n
same_ahead old new node fd to kept wrote n =
    back_node old new wrote.base wrote.width (codes_at new n).fd
    ∙ ap (node_in old) (elim (cases_eq n node) [
      | inl same ↦ ap (λ m. (codes_at new m).fd) same ∙ ap (λ (c : LinkCodes). c.fd) wrote.here ∙ kept ∙ ap (λ m. (codes_at old m).fd) (sym same)
      | inr other ↦ ap (λ (c : LinkCodes). c.fd) (wrote.others n other)
    ])

pub led_back : (old new : Nodes) (node fd to : ℕ) → Wrote old new node (record { fd = fd; bk = to }) → Redirects (back old) (back new) node (node_in old to)
led_back old new node fd to wrote = record {
  here = back_node old new wrote.base wrote.width (codes_at new node).bk ∙ ap (λ (c : LinkCodes). node_in old c.bk) wrote.here;
  others = λ n other. back_node old new wrote.base wrote.width (codes_at new n).bk ∙ ap (λ (c : LinkCodes). node_in old c.bk) (wrote.others n other);
}
