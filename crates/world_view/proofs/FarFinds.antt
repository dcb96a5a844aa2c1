-- The blocks of far names, found name by name.
use Rattle.std.proofs.Common.{◌≡◌, ℕ, false, cond, List, [], ◌∷◌, ◌++◌, Option, Some, None, fold, refl, sym, ap, ◌∙◌, subst}
use Rattle.std.specs.List.{AllByRecursion}
use Rattle.std.specs.List.Sorted.{IsStrictlySortedBy}
use Rattle.std.specs.Map.{keys_of}
use Rattle.std.specs.Option.{unwrap_or}
use Rattle.std.specs.Ordering.{nat_cmp}
use Rattle.std.specs.declared.cmp.Ordering.TheVariants.{Less, Equal}
use Rattle.std.specs.Cmp.{nat_cmp_is}
use Rattle.std.proofs.lemmas.Bool.{false_from_ne_true}
use Rattle.chunk_tags.specs.declared.block.Block.{Block}
use Rattle.block_names.specs.Names.{is_name, far_place}
use Rattle.block_names.proofs.Keyed.{name_is, name_here}
use Rattle.world_view.specs.declared.finds.Find.{Find}
use Rattle.world_view.specs.Places.{held_find, far_finds}
use Rattle.world_view.specs.Sights.{Seen, put_seen}

-- those under these names
abbrev pub finds_under : ℕ → List (ℕ × Option Block) → List ℕ → List Find
finds_under thread far [] = []
finds_under thread far (n ∷ ns) = held_find thread n (unwrap_or (far_place n far) None) ++ finds_under thread far ns

-- a name that comes later is another
later_name : (n k : ℕ) → nat_cmp n k ≡ Less → is_name k n ≡ false
later_name n k less = false_from_ne_true (is_name k n) (λ same.
    let no : Less ≡ Equal = sym less ∙ (ap (nat_cmp n) (name_is k n same) ∙ sym (nat_cmp_is n n Equal refl)) in
    absurd cc)

past_first : (thread : ℕ) (e : ℕ × Option Block) (far : List (ℕ × Option Block)) (ns : List ℕ) → AllByRecursion (λ k. nat_cmp e.0 k ≡ Less) ns →
    finds_under thread (e ∷ far) ns ≡ finds_under thread far ns
past_first thread e far [] later = refl
past_first thread e far (n ∷ ns) later =
    ap (λ v. held_find thread n (unwrap_or (cond v (Some e.1) (far_place n far)) None) ++ finds_under thread (e ∷ far) ns) (later_name e.0 n later.0)
    ∙ ap (λ fs. held_find thread n (unwrap_or (far_place n far) None) ++ fs) (past_first thread e far ns later.1)

-- under all names they are all
found_by_name : (thread : ℕ) (far : List (ℕ × Option Block)) → IsStrictlySortedBy nat_cmp (keys_of far) → finds_under thread far (keys_of far) ≡ far_finds thread far
unfolding IsStrictlySortedBy
found_by_name thread [] rise = refl
found_by_name thread (e ∷ far) rise =
    ap (λ v. held_find thread e.0 (unwrap_or (cond v (Some e.1) (far_place e.0 far)) None) ++ finds_under thread (e ∷ far) (keys_of far)) (name_here e.0)
    ∙ ap (λ fs. held_find thread e.0 e.1 ++ fs) (past_first thread e far (keys_of far) rise.0 ∙ found_by_name thread far rise.1)

-- so is what is seen of them, behind what was seen before
pub seen_by_name : (thread : ℕ) (before : Seen) (far seen : List (ℕ × Option Block)) (ns : List ℕ) → seen ≡ far → ns ≡ keys_of seen → IsStrictlySortedBy nat_cmp (keys_of seen) →
    fold put_seen before (finds_under thread far ns) ≡ fold put_seen before (far_finds thread far)
seen_by_name thread before far seen ns same all rise =
    ap (fold put_seen before)
    (ap (λ (ms : List ℕ). finds_under thread far ms) (all ∙ ap (λ (es : List (ℕ × Option Block)). keys_of es) same)
    ∙ found_by_name thread far (subst (λ (es : List (ℕ × Option Block)). IsStrictlySortedBy nat_cmp (keys_of es)) same rise))
