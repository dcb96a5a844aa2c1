-- Steps that did not fail.
use Rattle.std.proofs.Common.{◌≡◌, ℕ, ◌^◌, ◌<◌, ◌≤◌, Bool, true, false, cond, leb, ltb, eqb, ◌&&◌, List, [], ◌∷◌, Option, Some, None, Result, Ok, Err, refl, ap, subst, ◌∙◌, arith}
use Rattle.std.specs.Option.{ok_or}
use Rattle.std.specs.Fmt.{decimal}
use Rattle.std.proofs.lemmas.Bool.{and_parts, leb-true, ltb-true, le-leb, lt-ltb, eqb-false}
use Rattle.trace_text.specs.declared.fault.BadWhy.{BadWhy}
use Rattle.trace_text.specs.declared.fault.BadWhy.TheVariants as bad
use Rattle.trace_text.specs.Numbers.{numeral_value}
use Rattle.trace_text.specs.Grammar.{◌>>=◌, highest_name, thread_of, number_at, name_at, tray_read, one_number, two_numbers, three_numbers, fault_if, name_alone, name_and_size, name_and_tray, name_and_sizes, end_of}
use Rattle.trace_text.specs.Spelling.{IsName}
use Rattle.trace_text.proofs.Numerals.{number_again, number_is}

-- the value of a step that did not fail
pub bind_ok : {A B : Type 0} (r : Result A BadWhy) (f : A → Result B BadWhy) (y : B) → (r >>= f) ≡ Ok y → (x : A) × (r ≡ Ok x) × (f x ≡ Ok y)
bind_ok (Ok x) f y e = (x, refl, e)
bind_ok (Err why) f y e = absurd cc

-- a test that was to hold, and one that was not to
pub guard_ok : {A : Type 0} (b : Bool) (why : BadWhy) (r : Result A BadWhy) (y : A) → cond b r (Err why) ≡ Ok y → (b ≡ true) × (r ≡ Ok y)
guard_ok true why r y e = (refl, e)
guard_ok false why r y e = absurd cc

pub no_fault : (faulty : Bool) (why : BadWhy) (y : Unit {0}) → fault_if faulty why ≡ Ok y → faulty ≡ false
no_fault true why y e = absurd cc
no_fault false why y e = refl

abbrev pub done : {A : Type 0} → A → Result A BadWhy
done x = Ok x

pub ok_is : {A : Type 0} (x y : A) → done x ≡ done y → x ≡ y
ok_is x y e = cc

some_from_ok : (o : Option ℕ) (why : BadWhy) (n : ℕ) → ok_or o why ≡ Ok n → o ≡ Some n
some_from_ok None why n e = absurd cc
some_from_ok (Some m) why n e = cc

-- ---- one field

pub thread_is : (field : List ℕ) (n : ℕ) → thread_of field ≡ Ok n → (field ≡ decimal n) × (n ≤ 63)
unfolding thread_of
thread_is field n e =
    let read = bind_ok (ok_or (numeral_value field) bad.Thread) _ n e in
    let small = guard_ok (ltb read.0 64) bad.Thread (Ok read.0) n read.2 in
    let same = ok_is read.0 n small.1 in
    let found = number_is field read.0 (some_from_ok (numeral_value field) bad.Thread read.0 read.1) in
    (found.0 ∙ ap decimal same, omega (arith, ltb-true read.0 64 small.0, same))

pub thread_again : (n : ℕ) → n ≤ 63 → thread_of (decimal n) ≡ Ok n
unfolding thread_of
thread_again n h = rw (number_again n (omega arith), lt-ltb n 64 (omega arith)) refl

pub number_at_is : (field : List ℕ) (n : ℕ) → number_at field ≡ Ok n → (field ≡ decimal n) × (n < 2 ^ 64)
unfolding number_at
number_at_is field n e = number_is field n (some_from_ok (numeral_value field) bad.Number n e)

pub number_at_again : (n : ℕ) → n < 2 ^ 64 → number_at (decimal n) ≡ Ok n
unfolding number_at
number_at_again n h = rw (number_again n h) refl

pub name_is : (version number name : ℕ) → name_at version number ≡ Ok name → (number ≡ name) × IsName version name
unfolding name_at
name_is version number name e =
    let found = guard_ok (leb 1 number && leb number (highest_name version)) bad.Name (Ok number) name e in
    let same = ok_is number name found.1 in
    let tests = and_parts (leb 1 number) (leb number (highest_name version)) found.0 in
    (same, (omega (arith, leb-true 1 number tests.0, same), omega (arith, leb-true number (highest_name version) tests.1, same)))

pub name_again : (version name : ℕ) → IsName version name → name_at version name ≡ Ok name
unfolding name_at
name_again version name h = rw (le-leb 1 name h.0, le-leb name (highest_name version) h.1) refl

pub tray_is : (number tray : ℕ) → tray_read number ≡ Ok tray → (number ≡ tray) × (tray ≤ 65535)
unfolding tray_read
tray_is number tray e =
    let found = guard_ok (leb number 65535) bad.Tray (Ok number) tray e in
    let same = ok_is number tray found.1 in
    (same, omega (arith, leb-true number 65535 found.0, same))

pub tray_again : (tray : ℕ) → tray ≤ 65535 → tray_read tray ≡ Ok tray
unfolding tray_read
tray_again tray h = rw (le-leb tray 65535 h) refl

-- ---- the numbers of a call

same_two : (a b x y : List ℕ) → a ≡ x → b ≡ y → a ∷ b ∷ [] ≡ x ∷ y ∷ []
same_two a b x y p q = cc

same_three : (a b c x y z : List ℕ) → a ≡ x → b ≡ y → c ≡ z → a ∷ b ∷ c ∷ [] ≡ x ∷ y ∷ z ∷ []
same_three a b c x y z p q r = cc

pub one_is : (fields : List (List ℕ)) (n : ℕ) → one_number fields ≡ Ok n → (fields ≡ decimal n ∷ []) × (n < 2 ^ 64)
unfolding one_number
one_is [] n e = absurd cc
one_is (a ∷ []) n e = let first = number_at_is a n e in (ap (λ (f : List ℕ). f ∷ []) first.0, first.1)
one_is (a ∷ b ∷ more) n e = absurd cc

pub one_again : (n : ℕ) → n < 2 ^ 64 → one_number (decimal n ∷ []) ≡ Ok n
unfolding one_number
one_again n h = number_at_again n h

pub two_is : (fields : List (List ℕ)) (p : ℕ × ℕ) → two_numbers fields ≡ Ok p → (fields ≡ decimal p.0 ∷ decimal p.1 ∷ []) × (p.0 < 2 ^ 64) × (p.1 < 2 ^ 64)
unfolding two_numbers
two_is [] p e = absurd cc
two_is (a ∷ []) p e = absurd cc
two_is (a ∷ b ∷ []) p e =
    let x = bind_ok (number_at a) _ p e in
    let y = bind_ok (number_at b) _ p x.2 in
    let first = number_at_is a x.0 x.1 in
    let second = number_at_is b y.0 y.1 in
    let made : ℕ × ℕ = (x.0, y.0) in
    subst (λ (q : ℕ × ℕ). (a ∷ b ∷ [] ≡ decimal q.0 ∷ decimal q.1 ∷ []) × (q.0 < 2 ^ 64) × (q.1 < 2 ^ 64)) {x = made} (ok_is made p y.2) (same_two a b (decimal x.0) (decimal y.0) first.0 second.0, first.1, second.1)
two_is (a ∷ b ∷ c ∷ more) p e = absurd cc

pub two_again : (m n : ℕ) → m < 2 ^ 64 → n < 2 ^ 64 → two_numbers (decimal m ∷ decimal n ∷ []) ≡ Ok (m, n)
unfolding two_numbers
two_again m n h k = rw (number_at_again m h, number_at_again n k) refl

pub three_is : (fields : List (List ℕ)) (p : ℕ × ℕ × ℕ) → three_numbers fields ≡ Ok p → (fields ≡ decimal p.0 ∷ decimal p.1 ∷ decimal p.2 ∷ []) × (p.0 < 2 ^ 64) × (p.1 < 2 ^ 64) × (p.2 < 2 ^ 64)
unfolding three_numbers
three_is [] p e = absurd cc
three_is (a ∷ []) p e = absurd cc
three_is (a ∷ b ∷ []) p e = absurd cc
three_is (a ∷ b ∷ c ∷ []) p e =
    let x = bind_ok (number_at a) _ p e in
    let y = bind_ok (number_at b) _ p x.2 in
    let z = bind_ok (number_at c) _ p y.2 in
    let first = number_at_is a x.0 x.1 in
    let second = number_at_is b y.0 y.1 in
    let third = number_at_is c z.0 z.1 in
    let made : ℕ × ℕ × ℕ = (x.0, y.0, z.0) in
    subst (λ (q : ℕ × ℕ × ℕ). (a ∷ b ∷ c ∷ [] ≡ decimal q.0 ∷ decimal q.1 ∷ decimal q.2 ∷ []) × (q.0 < 2 ^ 64) × (q.1 < 2 ^ 64) × (q.2 < 2 ^ 64)) {x = made} (ok_is made p z.2) (same_three a b c (decimal x.0) (decimal y.0) (decimal z.0) first.0 second.0 third.0, first.1, second.1, third.1)
three_is (a ∷ b ∷ c ∷ d ∷ more) p e = absurd cc

pub three_again : (m n o : ℕ) → m < 2 ^ 64 → n < 2 ^ 64 → o < 2 ^ 64 → three_numbers (decimal m ∷ decimal n ∷ decimal o ∷ []) ≡ Ok (m, n, o)
unfolding three_numbers
three_again m n o h k l = rw (number_at_again m h, number_at_again n k, number_at_again o l) refl

-- ---- the fields behind a command

pub alone_is : (version : ℕ) (fields : List (List ℕ)) (name : ℕ) → name_alone version fields ≡ Ok name → (fields ≡ decimal name ∷ []) × IsName version name
alone_is version fields name e =
    let n = bind_ok (one_number fields) (name_at version) name e in
    let found = one_is fields n.0 n.1 in
    let named = name_is version n.0 name n.2 in
    (rw named.0 at found.0, named.1)

pub size_is : (version : ℕ) (fields : List (List ℕ)) (p : ℕ × ℕ) → name_and_size version fields ≡ Ok p → (fields ≡ decimal p.0 ∷ decimal p.1 ∷ []) × IsName version p.0 × (p.1 < 2 ^ 64)
size_is version fields p e =
    let n = bind_ok (two_numbers fields) _ p e in
    let x = bind_ok (name_at version n.0.0) _ p n.2 in
    let found = two_is fields n.0 n.1 in
    let named = name_is version n.0.0 x.0 x.1 in
    let read : ℕ × ℕ = (x.0, n.0.1) in
    subst (λ (q : ℕ × ℕ). (fields ≡ decimal q.0 ∷ decimal q.1 ∷ []) × IsName version q.0 × (q.1 < 2 ^ 64)) {x = read} (ok_is read p x.2) (rw named.0 at found.0, named.1, found.2)

pub tray_pair_is : (version : ℕ) (fields : List (List ℕ)) (p : ℕ × ℕ) → name_and_tray version fields ≡ Ok p → (fields ≡ decimal p.0 ∷ decimal p.1 ∷ []) × IsName version p.0 × (p.1 ≤ 65535)
tray_pair_is version fields p e =
    let n = bind_ok (two_numbers fields) _ p e in
    let x = bind_ok (name_at version n.0.0) _ p n.2 in
    let y = bind_ok (tray_read n.0.1) _ p x.2 in
    let found = two_is fields n.0 n.1 in
    let named = name_is version n.0.0 x.0 x.1 in
    let trayed = tray_is n.0.1 y.0 y.1 in
    let read : ℕ × ℕ = (x.0, y.0) in
    subst (λ (q : ℕ × ℕ). (fields ≡ decimal q.0 ∷ decimal q.1 ∷ []) × IsName version q.0 × (q.1 ≤ 65535)) {x = read} (ok_is read p y.2) (found.0 ∙ same_two (decimal n.0.0) (decimal n.0.1) (decimal x.0) (decimal y.0) (ap decimal named.0) (ap decimal trayed.0), named.1, trayed.1)

pub sizes_is : (version : ℕ) (fields : List (List ℕ)) (p : ℕ × ℕ × ℕ) → name_and_sizes version fields ≡ Ok p → (fields ≡ decimal p.0 ∷ decimal p.1 ∷ decimal p.2 ∷ []) × IsName version p.0 × (p.1 < 2 ^ 64) × (p.2 < 2 ^ 64)
sizes_is version fields p e =
    let n = bind_ok (three_numbers fields) _ p e in
    let x = bind_ok (name_at version n.0.0) _ p n.2 in
    let found = three_is fields n.0 n.1 in
    let named = name_is version n.0.0 x.0 x.1 in
    let read : ℕ × ℕ × ℕ = (x.0, n.0.1, n.0.2) in
    subst (λ (q : ℕ × ℕ × ℕ). (fields ≡ decimal q.0 ∷ decimal q.1 ∷ decimal q.2 ∷ []) × IsName version q.0 × (q.1 < 2 ^ 64) × (q.2 < 2 ^ 64)) {x = read} (ok_is read p x.2) (rw named.0 at found.0, named.1, found.2, found.3)

pub end_is : (thread : ℕ) (fields : List (List ℕ)) (y : Unit {0}) → end_of thread fields ≡ Ok y → (fields ≡ []) × (0 < thread)
end_is thread [] y e =
    let ne : thread ≡ 0 → ⊥ = eqb-false thread 0 (no_fault (eqb thread 0) bad.MainExit y e) in
    (refl, omega (arith, ne))
end_is thread (a ∷ more) y e = absurd cc
