-- What is true of a result.
use Rattle.std.proofs.Common.{◌≡◌, true, Result, Ok, Err, refl}
use Rattle.std.specs.Prelude.{is_ok, IfOk, OnErr}

pub if_ok : {A E : Type 0} (P Q : A → Type 0) (r : Result A E) → ((x : A) → P x → Q x) → IfOk r P → IfOk r Q
if_ok P Q (Ok x) f h = f x h
if_ok P Q (Err e) f h = tt

pub if_ok_is : {A E : Type 0} (P Q : A → Type 0) (r : Result A E) → ((x : A) → is_ok r ≡ true → P x → Q x) → IfOk r P → IfOk r Q
if_ok_is P Q (Ok x) f h = f x refl h
if_ok_is P Q (Err e) f h = tt

pub if_ok₂ : {A E : Type 0} (P R Q : A → Type 0) (r : Result A E) → ((x : A) → P x → R x → Q x) → IfOk r P → IfOk r R → IfOk r Q
if_ok₂ P R Q (Ok x) f h k = f x h k
if_ok₂ P R Q (Err e) f h k = tt

pub if_ok₃ : {A E : Type 0} (P R S Q : A → Type 0) (r : Result A E) → ((x : A) → P x → R x → S x → Q x) → IfOk r P → IfOk r R → IfOk r S → IfOk r Q
if_ok₃ P R S Q (Ok x) f h k l = f x h k l
if_ok₃ P R S Q (Err e) f h k l = tt

-- a condition of what is true of a result, behind it
pub ok_later : {A E : Type 0} (X Y : Type 0) (r : Result A E) → (X → IfOk r (λ x. Y)) → IfOk r (λ x. X → Y)
ok_later X Y (Ok x) f = f
ok_later X Y (Err e) f = tt

-- what is true in any case
pub on_err : {A E P : Type 0} (r : Result A E) → P → OnErr r P
on_err (Ok x) p = tt
on_err (Err e) p = p

pub on_err₂ : {A E P R Q : Type 0} (r : Result A E) → (P → R → Q) → OnErr r P → OnErr r R → OnErr r Q
on_err₂ (Ok x) f h k = tt
on_err₂ (Err e) f h k = f h k

-- what a result without an error would follow from isn't so
pub on_err_not : {A E P : Type 0} (r : Result A E) (x : A) → (P → r ≡ Ok x) → OnErr r (P → ⊥)
on_err_not (Ok y) x f = tt
on_err_not (Err e) x f = λ p. let no : Err e ≡ Ok x = f p in absurd cc
