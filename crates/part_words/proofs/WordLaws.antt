-- One word among the parts, read and written.
use Rattle.std.proofs.Common.{◌≡◌, ℕ, ◌+◌, ◌*◌, ◌/◌, ◌%◌, ◌<◌, Bool, true, false, eqb, cond, List, [], length, map, get_or, set, sym, ap, ◌∙◌, refl, inl, inr, arith}
use Rattle.std.proofs.Math.Path.{fun_ext}
use Rattle.std.proofs.Math.Nat.{div-add-mod}
use Rattle.std.proofs.lemmas.Bool.{cases_eq, eq-eqb, eqb-true}
use Rattle.std.proofs.lemmas.List.{map-set, length-set, length-map, get_or-map, get_or-set_same, get_or-set_other, set-get_or, get_or_default}
use Rattle.part_words.specs.Extents.{index_of, IsOpen}
use Rattle.part_words.specs.Parts.{Parts, word_at, update, extent_of}
use Rattle.part_words.proofs.Opening.{within}
use Rattle.part_words.proofs.Updates.{update_same, update_other}

-- words in these parts
abbrev pub seen : {T : Type 0} → ℕ → ℕ → List (List T) → Parts T
seen base width vs = record { base = base; width = width; parts = vs }

-- v is what is kept of the part of an open address
pub record Holds {T : Type 0} (base width : ℕ) (vs : List (List T)) (at : ℕ) (v : List T) : Type 0 where
  pub is_open : IsOpen (extent_of (seen base width vs)) at
  pub read : v ≡ get_or vs (index_of base at / width) v

-- there is such a part
pub part_exists : {T : Type 0} (base width : ℕ) (vs : List (List T)) (at : ℕ) → IsOpen (extent_of (seen base width vs)) at → index_of base at / width < length vs
part_exists base width vs at h =
    omega (arith, within (map length vs) _ _ h.below, length-map vs length)

part_is : {T : Type 0} (base width : ℕ) (vs : List (List T)) (at : ℕ) (v : List T) → Holds base width vs at v → get_or vs (index_of base at / width) [] ≡ v
part_is base width vs at v h =
    sym (h.read ∙ get_or_default vs (index_of base at / width) v [] (part_exists base width vs at h.is_open))

-- and it has the word
pub word_exists : {T : Type 0} (base width : ℕ) (vs : List (List T)) (at : ℕ) (v : List T) → Holds base width vs at v → index_of base at % width < length v
word_exists base width vs at v h =
    let q = index_of base at / width in
    let e : get_or (map length vs) q 0 ≡ length (get_or vs q []) = get_or-map length vs q [] 0 (omega (arith, part_exists base width vs at h.is_open)) in
    omega (arith, h.is_open.below, e, ap length (part_is base width vs at v h))

-- the word of an address that has a place
word_at-place : {T : Type 0} (ws : Parts T) (d : T) (at : ℕ) → ws.base + 16 * index_of ws.base at ≡ at → word_at ws d at ≡ get_or (get_or ws.parts (index_of ws.base at / ws.width) []) (index_of ws.base at % ws.width) d
unfolding word_at
word_at-place ws d at e = rw (eq-eqb (ws.base + 16 * index_of ws.base at) at e) refl

-- the word that is read
pub word_is : {T : Type 0} (base width : ℕ) (vs : List (List T)) (at : ℕ) (v : List T) → Holds base width vs at v → (x d : T) → x ≡ get_or v (index_of base at % width) x → x ≡ word_at (seen base width vs) d at
word_is base width vs at v h x d e =
    let r = index_of base at % width in
    e ∙ (get_or_default v r x d (word_exists base width vs at v h) ∙ (ap (λ p. get_or p r d) (sym (part_is base width vs at v h)) ∙ sym (word_at-place (seen base width vs) d at h.is_open.place)))

-- one word of the parts is written
abbrev set_in : {T : Type 0} → List (List T) → ℕ → ℕ → T → List (List T)
set_in ps q r x = set ps q (set (get_or ps q []) r x)

set_in_same : {T : Type 0} (ps : List (List T)) (q r : ℕ) (x d : T) → q < length ps → r < length (get_or ps q []) → get_or (get_or (set_in ps q r x) q []) r d ≡ x
set_in_same ps q r x d hq hr =
    rw (get_or-set_same ps q (set (get_or ps q []) r x) [] hq) (get_or-set_same (get_or ps q []) r x d hr)

set_in_other : {T : Type 0} (ps : List (List T)) (q r i j : ℕ) (x d : T) → q < length ps → (i ≡ q → j ≡ r → ⊥) → get_or (get_or (set_in ps q r x) i []) j d ≡ get_or (get_or ps i []) j d
set_in_other {T} ps q r i j x d hq ne =
    elim (cases_eq i q) [
      | inl e ↦ rw (e, get_or-set_same ps q (set (get_or ps q []) r x) [] hq) (get_or-set_other (get_or ps q []) r j x d (ne e))
      | inr other ↦ ap (λ (p : List T). get_or p j d) (get_or-set_other ps q i (set (get_or ps q []) r x) [] other)
    ]

-- two numbers with the same part and place are one
pub same_number : (w m n : ℕ) → m / w ≡ n / w → m % w ≡ n % w → m ≡ n
same_number w m n p q = sym (div-add-mod m w) ∙ (ap (λ k. w * k + m % w) p ∙ (ap (λ k. w * (n / w) + k) q ∙ div-add-mod n w))

cond_same : {X : Type 0} (b : Bool) (x y d : X) → (b ≡ true → x ≡ y) → cond b x d ≡ cond b y d
cond_same true x y d h = h refl
cond_same false x y d h = refl

-- at each address
word_at-set_in : {T : Type 0} (ws : Parts T) (at : ℕ) (x d : T) → IsOpen (extent_of ws) at → (a : ℕ) → word_at (record ws { parts = set_in ws.parts (index_of ws.base at / ws.width) (index_of ws.base at % ws.width) x }) d a ≡ update (word_at ws d) at x a
unfolding word_at
word_at-set_in ws at x d h a =
    let n = index_of ws.base at in
    let m = index_of ws.base a in
    let q = n / ws.width in
    let r = n % ws.width in
    let hq : q < length ws.parts = omega (arith, within (map length ws.parts) _ _ h.below, length-map ws.parts length) in
    let hr : r < length (get_or ws.parts q []) = omega (arith, h.below, get_or-map length ws.parts q [] 0 hq) in
    elim (cases_eq a at) [
      | inl e ↦ rw e (word_at-place (record ws { parts = set_in ws.parts q r x }) d at h.place ∙ (set_in_same ws.parts q r x d hq hr ∙ sym (update_same (word_at ws d) at x)))
      | inr other ↦ cond_same (eqb (ws.base + 16 * m) a) _ _ d (λ on. set_in_other ws.parts q r (m / ws.width) (m % ws.width) x d hq (λ p s. other (omega (arith, same_number ws.width m n p s, eqb-true (ws.base + 16 * m) a on, h.place)))) ∙ sym (update_other (word_at ws d) at x a other)
    ]

-- a part that is kept is replaced by one with this word
pub record Writes {T : Type 0} (base width : ℕ) (vs : List (List T)) (at : ℕ) (v w : List T) (x : T) : Type 0 where
  pub holds : Holds base width vs at v
  pub word : w ≡ set v (index_of base at % width) x

parts_written : {T : Type 0} (base width : ℕ) (vs : List (List T)) (at : ℕ) (v w : List T) (x : T) → Writes base width vs at v w x → set vs (index_of base at / width) w ≡ set_in vs (index_of base at / width) (index_of base at % width) x
parts_written base width vs at v w x h =
    let q = index_of base at / width in
    ap (set vs q) (h.word ∙ ap (λ p. set p (index_of base at % width) x) (sym (part_is base width vs at v h.holds)))

pub word_at-written : {T : Type 0} (base width : ℕ) (vs : List (List T)) (at : ℕ) (v w : List T) (x : T) → Writes base width vs at v w x → (d : T) → word_at (seen base width (set vs (index_of base at / width) w)) d ≡ update (word_at (seen base width vs) d) at x
word_at-written base width vs at v w x h d =
    fun_ext (λ a. rw (parts_written base width vs at v w x h) (word_at-set_in (seen base width vs) at x d h.holds.is_open a))

length-set_in : {T : Type 0} (ps : List (List T)) (q r : ℕ) (x : T) → q < length ps → map length (set_in ps q r x) ≡ map length ps
length-set_in ps q r x hq =
    map-set length ps q (set (get_or ps q []) r x) ∙ (ap (set (map length ps) q) (length-set (get_or ps q []) r x ∙ sym (get_or-map length ps q [] 0 hq)) ∙ set-get_or (map length ps) q 0)

pub extent_of-written : {T : Type 0} (base width : ℕ) (vs : List (List T)) (at : ℕ) (v w : List T) (x : T) → Writes base width vs at v w x → extent_of (seen base width (set vs (index_of base at / width) w)) ≡ extent_of (seen base width vs)
extent_of-written base width vs at v w x h =
    let q = index_of base at / width in
    ap (λ ws. record { base = base; width = width; words = ws }) (ap (map length) (parts_written base width vs at v w x h) ∙ length-set_in vs q (index_of base at % width) x (omega (arith, part_exists base width vs at h.holds.is_open)))
