-- The lead as it is computed from an address.
use Rattle.std.proofs.Common.{◌≡◌, ℕ, ◌+◌, ◌-◌, ◌%◌, ◌<◌, ◌≤◌, sym, ap, ◌∙◌}
use Rattle.std.specs.Prelude.{nat_eq, nat_lt}
use Rattle.std.proofs.lemmas.Bool.{cond-true, cond-false, eq-eqb, ne_eqb, lt-ltb, le-ltb}
use Rattle.std.proofs.Math.Nat.{mod-add-mod}
use Rattle.arena_rules.specs.Align.{bytes_past, lead_past, lead_of}

-- how far the user address is past a multiple, from the address's own remainder
pub past_is : (align at : ℕ) → (at % align + 16) % align ≡ bytes_past align at
past_is align at = mod-add-mod at align 16

pub no_lead : (align at past : ℕ) → past ≡ bytes_past align at → past ≡ 0 → 0 ≡ lead_of align at
no_lead align at past is none = sym (cond-true {A = ℕ} (nat_eq (bytes_past align at) 0) 0 (lead_past align (bytes_past align at)) (eq-eqb (bytes_past align at) 0 (sym is ∙ none)))

some_lead : (align at past : ℕ) → past ≡ bytes_past align at → (past ≡ 0 → ⊥) → lead_past align past ≡ lead_of align at
some_lead align at past is some =
    ap (lead_past align) is ∙ sym (cond-false {A = ℕ} (nat_eq (bytes_past align at) 0) 0 (lead_past align (bytes_past align at)) (ne_eqb (bytes_past align at) 0 (λ e. some (is ∙ e))))

pub far_lead : (align at past : ℕ) → past ≡ bytes_past align at → (past ≡ 0 → ⊥) → align - past < 32 → align - past + align ≡ lead_of align at
far_lead align at past is some lt =
    sym (cond-true {A = ℕ} (nat_lt (align - past) 32) (align - past + align) (align - past) (lt-ltb (align - past) 32 lt)) ∙ some_lead align at past is some

pub near_lead : (align at past : ℕ) → past ≡ bytes_past align at → (past ≡ 0 → ⊥) → 32 ≤ align - past → align - past ≡ lead_of align at
near_lead align at past is some le =
    sym (cond-false {A = ℕ} (nat_lt (align - past) 32) (align - past + align) (align - past) (le-ltb (align - past) 32 le)) ∙ some_lead align at past is some
