-- Parts that are opened.
use Rattle.std.proofs.Common.{◌≡◌, ℕ, ◌+◌, ◌-◌, ◌/◌, ◌%◌, ◌<◌, ◌≤◌, max, List, [], ◌∷◌, ◌++◌, length, map, take, replicate, get_or, set, sym, ap, ◌∙◌, refl, inl, inr, arith, zero, suc}
use Rattle.std.specs.Prelude.{Result, Ok, Err, OnOk, OnErr}
use Rattle.std.proofs.Math.Path.{fun_ext}
use Rattle.std.proofs.lemmas.Bool.{cases_eq}
use Rattle.std.proofs.lemmas.List.{append-nil, append_assoc, length-append, length-set, length-map, replicate-append-replicate, set-get_or, take_at, get_or-map, get_or_append_left, get_or_default}
use Rattle.part_words.specs.Extents.{index_of, changed_at}
use Rattle.part_words.specs.Parts.{Parts, word_at, filled}
use Rattle.part_words.proofs.Filled.{get_or-filled, length_filled}
use Rattle.part_words.proofs.Opening.{get_or-changed_same, get_or-changed_other}

-- one more empty part
pub one_more : {T : Type 0} (ws vs : List (List T)) (x : List T) → ws ≡ vs ++ replicate (length ws - length vs) [] → length vs ≤ length ws → x ≡ [] → ws ++ x ∷ [] ≡ vs ++ replicate (length (ws ++ x ∷ []) - length vs) []
one_more ws vs x e h none =
    let n = length ws - length vs in
    let m : length (ws ++ x ∷ []) - length vs ≡ n + 1 = omega (arith, length-append ws (x ∷ []), h) in
    rw m (ap (λ w. ws ++ w ∷ []) none ∙ (ap (λ ps. ps ++ [] ∷ []) e ∙ (append_assoc vs (replicate n []) ([] ∷ []) ∙ ap (λ ps. vs ++ ps) (replicate-append-replicate n 1 []))))

-- a part that is there, or was added, changes
pub changed_part : {X : Type 0} (none : X) (f : X → X) (k : ℕ) (xs : List X) (m : ℕ) → m ≡ suc k - length xs → set (xs ++ replicate m none) k (f (get_or (xs ++ replicate m none) k none)) ≡ changed_at none k f xs
changed_part none f zero [] m e = rw e refl
changed_part none f zero (x ∷ xs) m e =
    let z : m ≡ 0 = omega (arith, e) in
    rw z (ap (λ ys. f x ∷ ys) (append-nil xs))
changed_part none f (suc k) [] m e = let z : m ≡ suc (suc k) = omega (arith, e) in rw z (ap (λ ys. none ∷ ys) (changed_part none f k [] (suc k) (omega arith)))
changed_part none f (suc k) (x ∷ xs) m e = ap (λ ys. x ∷ ys) (changed_part none f k xs m (omega (arith, e)))

-- parts after empty ones were added up to k, and one of them that became another
pub record Fills {T : Type 0} (vs ws : List (List T)) (k : ℕ) (w : List T) : Type 0 where
  pub added : ws ≡ vs ++ replicate (length ws - length vs) []
  pub count : length ws ≡ max (k + 1) (length vs)
  pub read : w ≡ get_or ws k w

part_is : {T : Type 0} (vs ws : List (List T)) (k : ℕ) (w : List T) → Fills vs ws k w → get_or ws k [] ≡ w
part_is vs ws k w h = sym (h.read ∙ get_or_default ws k w [] (omega (arith, h.count)))

-- after it was filled
pub filled_part : {T E : Type 0} (vs ws : List (List T)) (k : ℕ) (w x : List T) (f : List T → List T) (r : Result (Unit {0}) E) → Fills vs ws k w → OnOk r (x ≡ f w) → OnOk r (set ws k x ≡ changed_at [] k f vs)
filled_part vs ws k w x f (Err e) h new = new
filled_part vs ws k w x f (Ok u) h new =
    ap (set ws k) (new ∙ ap f (sym (part_is vs ws k w h))) ∙ (ap (λ ps. set ps k (f (get_or ps k []))) h.added ∙ changed_part [] f k vs (length ws - length vs) (omega (arith, h.count)))

-- where nothing was filled
pub same_part : {T E : Type 0} (vs ws : List (List T)) (k : ℕ) (w x : List T) (r : Result (Unit {0}) E) → Fills vs ws k w → OnErr r (x ≡ w) → OnErr r (set ws k x ≡ vs ++ replicate (length (set ws k x) - length vs) [])
same_part vs ws k w x (Ok u) h same = same
same_part vs ws k w x (Err e) h same =
    rw (length-set ws k x) (ap (set ws k) (same ∙ sym (part_is vs ws k w h)) ∙ (set-get_or ws k [] ∙ h.added))

-- the parts that came are cut off
pub cut_back : {T : Type 0} (ws vs : List (List T)) (n m : ℕ) → ws ≡ vs ++ replicate m [] → n ≡ length vs → take n ws ≡ vs
cut_back ws vs n m e h = ap (take n) e ∙ take_at vs (replicate m []) n (sym h)

-- words that are opened with the default change no word
pub word_at-filled : {T : Type 0} (ws : Parts T) (k n : ℕ) (fill : T) → word_at (record ws { parts = changed_at [] k (filled n fill) ws.parts }) fill ≡ word_at ws fill
unfolding word_at
word_at-filled ws k n fill =
    fun_ext (λ a.
    let i = index_of ws.base a / ws.width in
    let j = index_of ws.base a % ws.width in
    let same : get_or (get_or (changed_at [] k (filled n fill) ws.parts) i []) j fill ≡ get_or (get_or ws.parts i []) j fill =
    elim (cases_eq i k) [
      | inl e ↦ rw (e, get_or-changed_same [] k (filled n fill) ws.parts) (get_or-filled n fill (get_or ws.parts k []) j)
      | inr other ↦ rw (get_or-changed_other [] k (filled n fill) ws.parts i other) refl
    ] in
    rw same refl)

-- and the part is as long as it has to be
pub length-filled : {T : Type 0} (k n : ℕ) (fill : T) (ps : List (List T)) → map length (changed_at [] k (filled n fill) ps) ≡ changed_at 0 k (max n) (map length ps)
length-filled zero n fill [] = ap (λ m. m ∷ []) (length_filled n fill [])
length-filled zero n fill (p ∷ ps) = ap (λ m. m ∷ map length ps) (length_filled n fill p)
length-filled (suc k) n fill [] = ap (λ ns. 0 ∷ ns) (length-filled k n fill [])
length-filled (suc k) n fill (p ∷ ps) = ap (λ ns. length p ∷ ns) (length-filled k n fill ps)

length-changed : (k : ℕ) (f : ℕ → ℕ) (xs : List ℕ) → k < length (changed_at 0 k f xs)
length-changed zero f [] = omega arith
length-changed zero f (x ∷ xs) = omega arith
length-changed (suc k) f [] = omega (arith, length-changed k f [])
length-changed (suc k) f (x ∷ xs) = omega (arith, length-changed k f xs)

-- a part that wouldn't get longer is there, and has as many words
long_enough : (k n : ℕ) (xs : List ℕ) → changed_at 0 k (max n) xs ≡ xs → (k < length xs) × (n ≤ get_or xs k 0)
long_enough k n xs same =
    (omega (arith, length-changed k (max n) xs, ap length same), omega (arith, get_or-changed_same 0 k (max n) xs, ap (λ ys. get_or ys k 0) same))

-- so there are changes to make where the part isn't there
pub missing_part : {T E : Type 0} (vs : List (List T)) (k n : ℕ) (r : Result (Unit {0}) E) → length vs < k + 1 → OnErr r (changed_at 0 k (max n) (map length vs) ≡ map length vs → ⊥)
missing_part vs k n (Ok u) few = tt
missing_part vs k n (Err e) few = λ same.
    omega (arith, few, (long_enough k n (map length vs) same).0, length-map vs length)

-- and where it is too short
pub short_part : {T E : Type 0} (vs ws : List (List T)) (k n : ℕ) (w : List T) (r : Result (Unit {0}) E) → Fills vs ws k w → OnErr r (length w < n) → OnErr r (changed_at 0 k (max n) (map length vs) ≡ map length vs → ⊥)
short_part vs ws k n w (Ok u) h short = short
short_part vs ws k n w (Err e) h short = λ same.
    let long = long_enough k n (map length vs) same in
    let there : k < length vs = omega (arith, long.0, length-map vs length) in
    let read : get_or vs k [] ≡ w = sym (get_or_append_left vs (replicate (length ws - length vs) []) [] k there) ∙ (ap (λ ps. get_or ps k []) (sym h.added) ∙ part_is vs ws k w h) in
    omega (arith, short, long.1, get_or-map length vs k [] 0 there, ap length read)
