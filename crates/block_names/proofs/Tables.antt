-- Laws of the table of a thread's blocks by name, for every layer that speaks of one.
use Rattle.std.proofs.Common.{◌≡◌, ℕ, zero, suc, ◌+◌, ◌-◌, ◌<◌, ◌≤◌, ◌⊎◌, inl, inr, Bool, true, false, ◌||◌, cond, List, [], ◌∷◌, ◌++◌, Option, Some, None, length, replicate, set, get_or, is_some, sum_by, refl, sym, ap, ◌∙◌, subst, arith}
use Rattle.std.specs.Prelude.{nat_lt, IfSome}
use Rattle.std.specs.Map.{lookup, set_value, remove_entry, values_of}
use Rattle.std.specs.Option.{unwrap_or, option_map}
use Rattle.std.specs.BTreeMap.{insert_entry}
use Rattle.std.specs.Ordering.{nat_cmp}
use Rattle.std.proofs.lemmas.Bool.{cases_Bool, ltb-true, lt-ltb}
use Rattle.std.proofs.lemmas.Bool.Decides.{eqb_tells}
use Rattle.std.proofs.lemmas.List.{length-set, length-append, length-replicate, get_or-set_same, get_or-set_other, set-get_or, set-set}
use Rattle.std.proofs.lemmas.List.Sums.{sum_by-cons, sum_by-append, sum_by-set}
use Rattle.std.proofs.lemmas.Map.Entries.{sum_by-set_value, sum_by-remove_entry}
use Rattle.std.proofs.lemmas.Map.Steps.{set_value_same}
use Rattle.chunk_tags.specs.declared.block.Block.{Block}
use Rattle.block_names.specs.Names.{NameTable, IsTable, no_names, is_near, is_name, far_place, in_row, in_far, row_at, far_at, with_row_to, with_in_row, with_far_place, with_in_far, without_far_place, has_place, block_at, with_place, with_at, with_block, without_block, tidied, weight_in, FarNamesRise}
use Rattle.block_names.specs.Blocks.{IsHeld}
use Rattle.block_names.proofs.Keyed.{set_same, set_other, set_none, set_set, name_is, held_insert, insert_here, insert_weighs, lookup_removed}

-- ---- which part of a table

place_near : (names : NameTable) (name : ℕ) → is_near name ≡ true → has_place names name ≡ in_row names name
unfolding has_place
place_near names name e = ap (λ v. cond v (in_row names name) (in_far names name)) e

place_far : (names : NameTable) (name : ℕ) → is_near name ≡ false → has_place names name ≡ in_far names name
unfolding has_place
place_far names name e = ap (λ v. cond v (in_row names name) (in_far names name)) e

at_near : (names : NameTable) (name : ℕ) → is_near name ≡ true → block_at names name ≡ row_at names name
unfolding block_at
at_near names name e = ap (λ v. cond v (row_at names name) (far_at names name)) e

at_far : (names : NameTable) (name : ℕ) → is_near name ≡ false → block_at names name ≡ far_at names name
unfolding block_at
at_far names name e = ap (λ v. cond v (row_at names name) (far_at names name)) e

with_near : (name : ℕ) (o : Option Block) (names : NameTable) → is_near name ≡ true → with_at name o names ≡ with_in_row name o names
unfolding with_at
with_near name o names e = ap (λ v. cond v (with_in_row name o names) (with_in_far name o names)) e

with_far : (name : ℕ) (o : Option Block) (names : NameTable) → is_near name ≡ false → with_at name o names ≡ with_in_far name o names
unfolding with_at
with_far name o names e = ap (λ v. cond v (with_in_row name o names) (with_in_far name o names)) e

-- ---- something else in a place

row_same : (names : NameTable) (name : ℕ) (o : Option Block) → in_row names name ≡ true → row_at (with_in_row name o names) name ≡ o
row_same names name o h = get_or-set_same names.near name o None (ltb-true name (length names.near) h)

far_same : (names : NameTable) (name : ℕ) (o : Option Block) → in_far names name ≡ true → far_at (with_in_far name o names) name ≡ o
far_same names name o h = ap (λ r. unwrap_or r None) (set_same name names.far o h)

pub at_same : (name : ℕ) (o : Option Block) (names : NameTable) → has_place names name ≡ true → block_at (with_at name o names) name ≡ o
at_same name o names h = elim (cases_Bool (is_near name)) [
  | inl near ↦
      ap (λ (x : NameTable). block_at x name) (with_near name o names near)
      ∙ (at_near (with_in_row name o names) name near ∙ row_same names name o (sym (place_near names name near) ∙ h))
  | inr far ↦
      ap (λ (x : NameTable). block_at x name) (with_far name o names far)
      ∙ (at_far (with_in_far name o names) name far ∙ far_same names name o (sym (place_far names name far) ∙ h))
]

row_other : (names : NameTable) (name n : ℕ) (o : Option Block) → (n ≡ name → ⊥) → block_at (with_in_row name o names) n ≡ block_at names n
unfolding block_at
row_other names name n o other = ap (λ r. cond (is_near n) r (far_at names n)) (get_or-set_other names.near name n o None other)

far_other : (names : NameTable) (name n : ℕ) (o : Option Block) → (n ≡ name → ⊥) → block_at (with_in_far name o names) n ≡ block_at names n
unfolding block_at
far_other names name n o other =
    ap (λ r. cond (is_near n) (row_at names n) (unwrap_or r None)) (set_other name n other names.far o)

pub at_other : (name n : ℕ) (o : Option Block) (names : NameTable) → (n ≡ name → ⊥) → block_at (with_at name o names) n ≡ block_at names n
at_other name n o names other = elim (cases_Bool (is_near name)) [
  | inl near ↦ ap (λ (x : NameTable). block_at x n) (with_near name o names near) ∙ row_other names name n o other
  | inr far ↦ ap (λ (x : NameTable). block_at x n) (with_far name o names far) ∙ far_other names name n o other
]

-- the place stays
pub place_kept : (name : ℕ) (o : Option Block) (names : NameTable) → has_place names name ≡ true → has_place (with_at name o names) name ≡ true
place_kept name o names h = elim (cases_Bool (is_near name)) [
  | inl near ↦
      let row : in_row names name ≡ true = sym (place_near names name near) ∙ h in
      ap (λ (x : NameTable). has_place x name) (with_near name o names near)
      ∙ (place_near (with_in_row name o names) name near ∙ (ap (λ n. nat_lt name n) (length-set names.near name o) ∙ row))
  | inr far ↦
      let own : in_far names name ≡ true = sym (place_far names name far) ∙ h in
      ap (λ (x : NameTable). has_place x name) (with_far name o names far)
      ∙ (place_far (with_in_far name o names) name far ∙ ap (λ r. is_some r) (set_same name names.far o own))
]

-- ---- a name that holds a block

row_below : (os : List (Option Block)) (name : ℕ) (b : Block) → get_or os name None ≡ Some b → name < length os
row_below [] name b e = absurd cc
row_below (o ∷ os) zero b e = omega arith
row_below (o ∷ os) (suc name) b e = omega (arith, row_below os name b e)

held_place : (r : Option (Option Block)) (b : Block) → unwrap_or r None ≡ Some b → r ≡ Some (Some b)
held_place None b e = absurd cc
held_place (Some o) b e = ap (λ (x : Option Block). Some x) e

far_found : (names : NameTable) (name : ℕ) (b : Block) → far_at names name ≡ Some b → far_place name names.far ≡ Some (Some b)
far_found names name b e = held_place (far_place name names.far) b e

-- it has a place
pub place_of : (names : NameTable) (name : ℕ) (b : Block) → block_at names name ≡ Some b → has_place names name ≡ true
place_of names name b e = elim (cases_Bool (is_near name)) [
  | inl near ↦ place_near names name near ∙ lt-ltb name (length names.near) (row_below names.near name b (sym (at_near names name near) ∙ e))
  | inr far ↦ place_far names name far ∙ ap (λ r. is_some r) (far_found names name b (sym (at_far names name far) ∙ e))
]

-- an emptied place is empty
row_gone : (os : List (Option Block)) (name : ℕ) → get_or (set os name None) name None ≡ None
row_gone [] name = refl
row_gone (p ∷ os) zero = refl
row_gone (p ∷ os) (suc name) = row_gone os name

far_gone_step : (t : ℕ → Bool) (es : List (ℕ × Option Block)) → unwrap_or (lookup t (set_value t es None)) None ≡ None
far_gone_step t [] = refl
far_gone_step t (e ∷ es) = elim (cases_Bool (t e.0)) [
  | inl hit ↦
      ap (λ v. unwrap_or (lookup t (cond v ((e.0, None) ∷ es) (e ∷ set_value t es None))) None) hit
      ∙ ap (λ v. unwrap_or (cond v (Some None) (lookup t es)) None) hit
  | inr miss ↦
      ap (λ v. unwrap_or (lookup t (cond v ((e.0, None) ∷ es) (e ∷ set_value t es None))) None) miss
      ∙ (ap (λ v. unwrap_or (cond v (Some e.1) (lookup t (set_value t es None))) None) miss ∙ far_gone_step t es)
]

-- a name that lost its block holds nothing
pub without_none : (name : ℕ) (names : NameTable) → block_at (without_block name names) name ≡ None
without_none name names = elim (cases_Bool (is_near name)) [
  | inl near ↦
      ap (λ (x : NameTable). block_at x name) (with_near name None names near)
      ∙ (at_near (with_in_row name None names) name near ∙ row_gone names.near name)
  | inr far ↦
      ap (λ (x : NameTable). block_at x name) (with_far name None names far)
      ∙ (at_far (with_in_far name None names) name far ∙ far_gone_step (is_name name) names.far)
]

-- what is put last stays
pub set_twice : (name : ℕ) (o p : Option Block) (names : NameTable) → with_at name p (with_at name o names) ≡ with_at name p names
set_twice name o p names = elim (cases_Bool (is_near name)) [
  | inl near ↦
      ap (λ (x : NameTable). with_at name p x) (with_near name o names near)
      ∙ (with_near name p (with_in_row name o names) near
      ∙ (ap (λ (os : List (Option Block)). let t : NameTable = record { near = os; far = names.far } in t) (set-set names.near name o p) ∙ sym (with_near name p names near)))
  | inr far ↦
      ap (λ (x : NameTable). with_at name p x) (with_far name o names far)
      ∙ (with_far name p (with_in_far name o names) far
      ∙ (ap (λ (es : List (ℕ × Option Block)). let t : NameTable = record { near = names.near; far = es } in t) (set_set (is_name name) names.far o p) ∙ sym (with_far name p names far)))
]

row_as_it_was : (name : ℕ) (b : Block) (names : NameTable) → row_at names name ≡ Some b → with_in_row name (Some b) names ≡ names
row_as_it_was name b names e =
    ap (λ (os : List (Option Block)). let t : NameTable = record { near = os; far = names.far } in t)
    (ap (λ (o : Option Block). set names.near name o) (sym e) ∙ set-get_or names.near name None)

far_as_it_was : (name : ℕ) (b : Block) (names : NameTable) → far_at names name ≡ Some b → with_in_far name (Some b) names ≡ names
far_as_it_was name b names e =
    ap (λ (es : List (ℕ × Option Block)). let t : NameTable = record { near = names.near; far = es } in t)
    (set_value_same (is_name name) names.far (Some b) (far_found names name b e))

as_it_was : (name : ℕ) (b : Block) (names : NameTable) → block_at names name ≡ Some b → with_block name b names ≡ names
as_it_was name b names e = elim (cases_Bool (is_near name)) [
  | inl near ↦ with_near name (Some b) names near ∙ row_as_it_was name b names (sym (at_near names name near) ∙ e)
  | inr far ↦ with_far name (Some b) names far ∙ far_as_it_was name b names (sym (at_far names name far) ∙ e)
]

-- a block that was taken from its name goes back
pub put_back : (names : NameTable) (name : ℕ) (b : Block) → block_at names name ≡ Some b → with_block name b (without_block name names) ≡ names
put_back names name b e = set_twice name None (Some b) names ∙ as_it_was name b names e

-- the place of a block that left its name
pub place_left : (names : NameTable) (name : ℕ) (b : Block) → block_at names name ≡ Some b → has_place (without_block name names) name ≡ true
place_left names name b e = place_kept name None names (place_of names name b e)

-- nothing changes where a name holds nothing
far_empty_by : (name : ℕ) (names : NameTable) (r : Option (Option Block)) → far_place name names.far ≡ r → unwrap_or r None ≡ None → set_value (is_name name) names.far None ≡ names.far
far_empty_by name names None at e = set_none (is_name name) names.far None (ap (λ o. is_some o) at)
far_empty_by name names (Some o) at e = set_value_same (is_name name) names.far None (at ∙ ap (λ (x : Option Block). Some x) e)

pub nothing_taken : (name : ℕ) (names : NameTable) → block_at names name ≡ None → without_block name names ≡ names
nothing_taken name names e = elim (cases_Bool (is_near name)) [
  | inl near ↦
      with_near name None names near
      ∙ ap (λ (os : List (Option Block)). let t : NameTable = record { near = os; far = names.far } in t)
      (ap (λ (o : Option Block). set names.near name o) (sym (sym (at_near names name near) ∙ e)) ∙ set-get_or names.near name None)
  | inr far ↦
      with_far name None names far
      ∙ ap (λ (es : List (ℕ × Option Block)). let t : NameTable = record { near = names.near; far = es } in t)
      (far_empty_by name names (far_place name names.far) refl (sym (at_far names name far) ∙ e))
]

-- ---- weights

row_weighs : (names : NameTable) (name : ℕ) (o : Option Block) (weigh : Option Block → ℕ) → name < length names.near →
    weight_in (with_in_row name o names) weigh + weigh (row_at names name) ≡ weight_in names weigh + weigh o
unfolding weight_in
row_weighs names name o weigh lt = omega (arith, sum_by-set weigh names.near name o None lt)

far_weighs_by : (names : NameTable) (name : ℕ) (o : Option Block) (weigh : Option Block → ℕ) (r : Option (Option Block)) → far_place name names.far ≡ r → is_some r ≡ true →
    weight_in (with_in_far name o names) weigh + weigh (unwrap_or r None) ≡ weight_in names weigh + weigh o
unfolding weight_in
far_weighs_by names name o weigh None at h = absurd cc
far_weighs_by names name o weigh (Some p) at h = omega (arith, sum_by-set_value weigh (is_name name) names.far p o at)

pub set_weighs : (name : ℕ) (o : Option Block) (names : NameTable) (weigh : Option Block → ℕ) → has_place names name ≡ true →
    weight_in (with_at name o names) weigh + weigh (block_at names name) ≡ weight_in names weigh + weigh o
set_weighs name o names weigh h = elim (cases_Bool (is_near name)) [
  | inl near ↦
      let lt : name < length names.near = ltb-true name (length names.near) (sym (place_near names name near) ∙ h) in
      ap (λ (x : NameTable). weight_in x weigh + weigh (block_at names name)) (with_near name o names near)
      ∙ (ap (λ (p : Option Block). weight_in (with_in_row name o names) weigh + weigh p) (at_near names name near) ∙ row_weighs names name o weigh lt)
  | inr far ↦
      ap (λ (x : NameTable). weight_in x weigh + weigh (block_at names name)) (with_far name o names far)
      ∙ (ap (λ (p : Option Block). weight_in (with_in_far name o names) weigh + weigh p) (at_far names name far)
      ∙ far_weighs_by names name o weigh (far_place name names.far) refl (sym (place_far names name far) ∙ h))
]

-- both parts weigh together
pub in_both_parts : (names : NameTable) (weigh : Option Block → ℕ) → weight_in names weigh ≡ sum_by weigh names.near + sum_by weigh (values_of names.far)
unfolding weight_in
in_both_parts names weigh = refl

-- a block that has a name is in one of them
pub either_part : (names : NameTable) (name : ℕ) (b : Block) → block_at names name ≡ Some b →
    (get_or names.near name None ≡ Some b) ⊎ (far_place name names.far ≡ Some (Some b))
either_part names name b e = elim (cases_Bool (is_near name)) [
  | inl near ↦ inl (sym (at_near names name near) ∙ e)
  | inr far ↦ inr (far_found names name b (sym (at_far names name far) ∙ e))
]

-- ---- a place is made

nothing_at : {X : Type 0} (k n : ℕ) (x : X) → get_or (replicate k x) n x ≡ x
nothing_at zero n x = refl
nothing_at (suc k) zero x = refl
nothing_at (suc k) (suc n) x = nothing_at k n x

padded : (os : List (Option Block)) (n k : ℕ) → get_or (os ++ replicate k None) n None ≡ get_or os n None
padded [] n k = nothing_at k n None
padded (o ∷ os) zero k = refl
padded (o ∷ os) (suc n) k = padded os n k

nothing_weighs : (k : ℕ) (weigh : Option Block → ℕ) → weigh None ≡ 0 → sum_by weigh (replicate k None) ≡ 0
nothing_weighs zero weigh none = refl
nothing_weighs (suc k) weigh none = omega (arith, sum_by-cons weigh None (replicate k None), nothing_weighs k weigh none)

row_placed : (name n : ℕ) (names : NameTable) → block_at (with_row_to name names) n ≡ block_at names n
unfolding block_at
row_placed name n names = ap (λ r. cond (is_near n) r (far_at names n)) (padded names.near n (name + 1 - length names.near))

far_placed : (name n : ℕ) (names : NameTable) → in_far names name ≡ false → block_at (with_far_place name names) n ≡ block_at names n
unfolding block_at
far_placed name n names none =
    ap (λ r. cond (is_near n) (row_at names n) r)
    (held_insert (is_name n) name names.far (λ hit. subst (λ (m : ℕ). in_far names m ≡ false) (sym (name_is n name hit)) none) none)

placed_near : (name : ℕ) (names : NameTable) → is_near name ≡ true → with_place name names ≡ with_row_to name names
unfolding with_place
placed_near name names e = ap (λ v. cond v (with_row_to name names) (cond (in_far names name) names (with_far_place name names))) e

placed_there : (name : ℕ) (names : NameTable) → is_near name ≡ false → in_far names name ≡ true → with_place name names ≡ names
unfolding with_place
placed_there name names e there =
    ap (λ v. cond v (with_row_to name names) (cond (in_far names name) names (with_far_place name names))) e
    ∙ ap (λ v. cond v names (with_far_place name names)) there

placed_anew : (name : ℕ) (names : NameTable) → is_near name ≡ false → in_far names name ≡ false → with_place name names ≡ with_far_place name names
unfolding with_place
placed_anew name names e none =
    ap (λ v. cond v (with_row_to name names) (cond (in_far names name) names (with_far_place name names))) e
    ∙ ap (λ v. cond v names (with_far_place name names)) none

-- what is true of a table with the place, in each of the three ways of making it
placed_by : (P : NameTable → Type 0) (name : ℕ) (names : NameTable) → (is_near name ≡ true → P (with_row_to name names)) → (is_near name ≡ false → in_far names name ≡ true → P names) →
    (is_near name ≡ false → in_far names name ≡ false → P (with_far_place name names)) → P (with_place name names)
placed_by P name names row there anew = elim (cases_Bool (is_near name)) [
  | inl near ↦ subst P (sym (placed_near name names near)) (row near)
  | inr far ↦
      elim (cases_Bool (in_far names name)) [
        | inl own ↦ subst P (sym (placed_there name names far own)) (there far own)
        | inr none ↦ subst P (sym (placed_anew name names far none)) (anew far none)
      ]
]

-- each name holds what it held
pub at_placed : (name n : ℕ) (names : NameTable) → block_at (with_place name names) n ≡ block_at names n
at_placed name n names =
    placed_by (λ x. block_at x n ≡ block_at names n) name names (λ near. row_placed name n names) (λ far own. refl) (λ far none. far_placed name n names none)

-- the name has its place
pub place_made : (name : ℕ) (names : NameTable) → has_place (with_place name names) name ≡ true
place_made name names =
    placed_by (λ x. has_place x name ≡ true) name names
    (λ near.
    let none : Option Block = None in
    let pad : List (Option Block) = replicate (name + 1 - length names.near) none in
    let lt : name < length (names.near ++ pad) = omega (arith, length-append names.near pad, length-replicate (name + 1 - length names.near) none) in
    place_near (with_row_to name names) name near ∙ lt-ltb name (length (names.near ++ pad)) lt)
    (λ far own. place_far names name far ∙ own)
    (λ far none. place_far (with_far_place name names) name far ∙ insert_here name None names.far)

row_to_weighs : (name : ℕ) (names : NameTable) (weigh : Option Block → ℕ) → weigh None ≡ 0 → weight_in (with_row_to name names) weigh ≡ weight_in names weigh
unfolding weight_in
row_to_weighs name names weigh none =
    let k : ℕ = name + 1 - length names.near in
    omega (arith, sum_by-append weigh names.near (replicate k None), nothing_weighs k weigh none)

far_place_weighs : (name : ℕ) (names : NameTable) (weigh : Option Block → ℕ) → weigh None ≡ 0 → in_far names name ≡ false → weight_in (with_far_place name names) weigh ≡ weight_in names weigh
unfolding weight_in
far_place_weighs name names weigh none free = omega (arith, insert_weighs weigh name None names.far free, none)

-- it weighs nothing
pub place_weighs : (name : ℕ) (names : NameTable) (weigh : Option Block → ℕ) → weigh None ≡ 0 → weight_in (with_place name names) weigh ≡ weight_in names weigh
place_weighs name names weigh none =
    placed_by (λ x. weight_in x weigh ≡ weight_in names weigh) name names (λ near. row_to_weighs name names weigh none) (λ far own. refl)
    (λ far free. far_place_weighs name names weigh none free)

-- a block that has a name weighs as much as all places at most
pub held_weighs : (name : ℕ) (names : NameTable) (b : Block) (weigh : Option Block → ℕ) → block_at names name ≡ Some b → weigh (Some b) ≤ weight_in names weigh + weigh None
held_weighs name names b weigh e =
    omega (arith, set_weighs name None names weigh (place_of names name b e), ap weigh e)

-- ---- a place of its own goes

neither : (x y : Bool) → (x || y) ≡ false → (x ≡ false) × (y ≡ false)
neither true y h = absurd cc
neither false y h = (refl, h)

nothing_in : (o : Option Block) → is_some o ≡ false → o ≡ None
nothing_in None h = refl
nothing_in (Some b) h = absurd cc

-- what is true of a table then, in both ways
tidied_by : (P : NameTable → Type 0) (name : ℕ) (names : NameTable) → P names → (is_near name ≡ false → block_at names name ≡ None → P (without_far_place name names)) → P (tidied name names)
unfolding tidied
tidied_by P name names stays goes = elim (cases_Bool (is_near name || is_some (block_at names name))) [
  | inl kept ↦ subst P (sym (ap (λ v. cond v names (without_far_place name names)) kept)) stays
  | inr gone ↦
      let parts : (is_near name ≡ false) × (is_some (block_at names name) ≡ false) = neither (is_near name) (is_some (block_at names name)) gone in
      subst P (sym (ap (λ v. cond v names (without_far_place name names)) gone)) (goes parts.0 (nothing_in (block_at names name) parts.1))
]

gone_at : (name n : ℕ) (names : NameTable) → FarNamesRise names → is_near name ≡ false → block_at names name ≡ None → block_at (without_far_place name names) n ≡ block_at names n
unfolding block_at
gone_at name n names rise far none =
    let found : Option Block → Option Block = λ r. cond (is_near n) (row_at names n) r in
    let then : Bool → Option Block = λ v. found (unwrap_or (cond v None (far_place n names.far)) None) in
    ap (λ r. found (unwrap_or r None)) (lookup_removed name n names.far rise)
    ∙ elim (cases_Bool (is_name name n)) [
      | inl hit ↦
          let there : far_at names n ≡ None = ap (λ m. far_at names m) (sym (name_is name n hit)) ∙ (sym (at_far names name far) ∙ none) in
          ap then hit ∙ ap found (sym there)
      | inr miss ↦ ap then miss
    ]

-- each name holds what it held
pub at_tidied : (name n : ℕ) (names : NameTable) → FarNamesRise names → block_at (tidied name names) n ≡ block_at names n
at_tidied name n names rise =
    tidied_by (λ x. block_at x n ≡ block_at names n) name names refl (λ far none. gone_at name n names rise far none)

empty_weighs : (weigh : Option Block → ℕ) (r : Option (Option Block)) → weigh None ≡ 0 → unwrap_or r None ≡ None → unwrap_or (option_map weigh r) 0 ≡ 0
empty_weighs weigh None none e = refl
empty_weighs weigh (Some o) none e = ap weigh e ∙ none

gone_weighs : (name : ℕ) (names : NameTable) (weigh : Option Block → ℕ) → weigh None ≡ 0 → far_at names name ≡ None → weight_in (without_far_place name names) weigh ≡ weight_in names weigh
unfolding weight_in
gone_weighs name names weigh none e =
    omega (arith, sum_by-remove_entry weigh (is_name name) names.far, empty_weighs weigh (far_place name names.far) none e)

-- it weighed nothing
pub tidied_weighs : (name : ℕ) (names : NameTable) (weigh : Option Block → ℕ) → weigh None ≡ 0 → weight_in (tidied name names) weigh ≡ weight_in names weigh
tidied_weighs name names weigh none =
    tidied_by (λ x. weight_in x weigh ≡ weight_in names weigh) name names refl
    (λ far e. gone_weighs name names weigh none (sym (at_far names name far) ∙ e))

pub none_there : {X : Type 0} (r : Option X) → is_some r ≡ false → r ≡ None
none_there None h = refl
none_there (Some x) h = absurd cc

-- a table is still one when it loses the empty place of a name
pub removed_table : (name : ℕ) (seen names : NameTable) (es : List (ℕ × Option Block)) → seen ≡ names → es ≡ remove_entry (is_name name) seen.far →
    is_near name ≡ false → block_at names name ≡ None → FarNamesRise names → IsTable names → IsTable (record { near = seen.near; far = es })
removed_table name seen names es same gone far none rise table =
    let less : NameTable = without_far_place name names in
    let now : IsTable less = record {
      row = table.row;
      held = λ n. subst (λ (o : Option Block). IfSome o IsHeld) (sym (gone_at name n names rise far none)) (table.held n);
    } in
    let is : without_far_place name seen ≡ less = ap (λ x. without_far_place name x) same in
    subst (λ (fs : List (ℕ × Option Block)). IsTable (record { near = seen.near; far = fs })) (sym gone) (subst IsTable (sym is) now)

-- ---- a table is still one

-- with something else in the place of a far name
pub set_table : (name : ℕ) (o : Option Block) (names : NameTable) (es : List (ℕ × Option Block)) → is_near name ≡ false → es ≡ set_value (is_name name) names.far o →
    IfSome o IsHeld → IsTable names → IsTable (record { near = names.near; far = es })
set_table name o names es far is held table =
    let left : NameTable = with_in_far name o names in
    let with : List (ℕ × Option Block) → NameTable = λ fs. record { near = names.near; far = fs } in
    let at_name : IfSome (block_at left name) IsHeld = elim (cases_Bool (in_far names name)) [
      | inl there ↦ subst (λ (p : Option Block). IfSome p IsHeld) (sym (at_far left name far ∙ far_same names name o there)) held
      | inr none ↦ subst (λ (x : NameTable). IfSome (block_at x name) IsHeld) (sym (ap with (set_none (is_name name) names.far o none))) (table.held name)
    ] in
    let all : IsTable left = record {
      row = table.row;
      held = λ n. elim (eqb_tells n name) [
        | inl same ↦ subst (λ (m : ℕ). IfSome (block_at left m) IsHeld) (sym same.1) at_name
        | inr apart ↦ subst (λ (p : Option Block). IfSome p IsHeld) (sym (far_other names name n o apart.1)) (table.held n)
      ];
    } in
    subst (λ (fs : List (ℕ × Option Block)). IsTable (record { near = names.near; far = fs })) (sym is) all

-- with a place for another far name
pub placed_table : (name : ℕ) (names : NameTable) (es : List (ℕ × Option Block)) → is_near name ≡ false → has_place names name ≡ false →
    es ≡ insert_entry nat_cmp names.far name None → IsTable names → IsTable (record { near = names.near; far = es })
placed_table name names es far empty is table =
    let none : in_far names name ≡ false = sym (place_far names name far) ∙ empty in
    let all : IsTable (with_far_place name names) = record {
      row = table.row;
      held = λ n. subst (λ (p : Option Block). IfSome p IsHeld) (sym (far_placed name n names none)) (table.held n);
    } in
    subst (λ (fs : List (ℕ × Option Block)). IsTable (record { near = names.near; far = fs })) (sym is) all

-- ---- a table without a place

pub none_at : (name : ℕ) → block_at no_names name ≡ None
unfolding block_at no_names
none_at name =
    let none : Option Block = None in
    elim (is_near name) as (λ v. cond v none none ≡ None) [ true ↦ refl | false ↦ refl ]

pub none_weigh : (weigh : Option Block → ℕ) → weight_in no_names weigh ≡ 0
unfolding weight_in no_names
none_weigh weigh = refl

no_row : length no_names.near ≤ 1048576
unfolding no_names
no_row = omega arith

pub table_none : IsTable no_names
table_none = record { row = no_row; held = λ name. subst (λ (o : Option Block). IfSome o IsHeld) (sym (none_at name)) tt }
