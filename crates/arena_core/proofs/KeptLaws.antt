-- Laws of how a journal is kept.
use Rattle.std.proofs.Common.{◌≡◌, ℕ, zero, suc, ◌+◌, List, [], ◌∷◌, ◌++◌, take, drop, map, length, get_or, Some, None, ◌<◌, ◌≤◌, cond, Vec, vec_len, refl, ap, ◌∙◌, sym, append-nil, append_assoc, add-one, arith}
use Rattle.std.proofs.lemmas.Bool.Decides.{nat_tests}
use Rattle.std.proofs.lemmas.List.{take-append-le, drop-append-le, length-drop, length-append, length-map, map-append}
use Rattle.std.proofs.Math.Seq.{take-length, take-suc}
use Rattle.address_space.specs.declared.asks.Ask.{Ask}
use Rattle.address_space.specs.declared.asks.Answer.{Answer}
use Rattle.arena_rules.specs.declared.said.Said.{Said}
use Rattle.arena_rules.specs.declared.said.Said.TheVariants as saids
use Rattle.arena_core.specs.declared.kept.Row.{Row}
use Rattle.arena_core.specs.declared.kept.Told.{Told}
use Rattle.arena_core.specs.declared.kept.Told.TheVariants.{Flag, NonePopped, Popped, NoOwn, Own, Room, Asked, Dial}
use Rattle.arena_core.specs.Arenas.{recorded}
use Rattle.arena_core.specs.Journal.{Recorded}
use Rattle.arena_core.specs.Kept.{told_of, asks_of, asks_in, asks_told, answers_of, entries_of, answers_told, has_room, AreKept}

-- ---- answers

asks_in-append : (xs ys : List Said) → asks_in (xs ++ ys) ≡ asks_in xs ++ asks_in ys
asks_in-append [] ys = refl
asks_in-append (x ∷ xs) ys = ap (λ qs. asks_of x ++ qs) (asks_in-append xs ys) ∙ sym (append_assoc (asks_of x) (asks_in xs) (asks_in ys))

-- answers are kept with their asks, and read back
answers-kept : (ss : List Said) → answers_of (map told_of ss) (asks_in ss) ≡ ss
answers-kept [] = refl
answers-kept (saids.Flag up ∷ ss) = ap (λ (xs : List Said). saids.Flag up ∷ xs) (answers-kept ss)
answers-kept (saids.Popped None ∷ ss) = ap (λ (xs : List Said). saids.Popped None ∷ xs) (answers-kept ss)
answers-kept (saids.Popped (Some at) ∷ ss) = ap (λ (xs : List Said). saids.Popped (Some at) ∷ xs) (answers-kept ss)
answers-kept (saids.Own None ∷ ss) = ap (λ (xs : List Said). saids.Own None ∷ xs) (answers-kept ss)
answers-kept (saids.Own (Some at) ∷ ss) = ap (λ (xs : List Said). saids.Own (Some at) ∷ xs) (answers-kept ss)
answers-kept (saids.Room there ∷ ss) = ap (λ (xs : List Said). saids.Room there ∷ xs) (answers-kept ss)
answers-kept (saids.Asked ask answer ∷ ss) = ap (λ (xs : List Said). saids.Asked ask answer ∷ xs) (answers-kept ss)
answers-kept (saids.Dial n ∷ ss) = ap (λ (xs : List Said). saids.Dial n ∷ xs) (answers-kept ss)

-- more of them behind the first
pub answers-more : (ts : List Told) (asks : List (Ask × Answer)) (ss : List Said) → asks_told ts ≡ length asks → answers_of (ts ++ map told_of ss) (asks ++ asks_in ss) ≡ answers_of ts asks ++ ss
answers-more [] [] ss k = answers-kept ss
answers-more [] (a ∷ asks) ss k = absurd (omega (arith, k))
answers-more (Flag up ∷ ts) asks ss k = ap (λ (xs : List Said). saids.Flag up ∷ xs) (answers-more ts asks ss k)
answers-more (NonePopped ∷ ts) asks ss k = ap (λ (xs : List Said). saids.Popped None ∷ xs) (answers-more ts asks ss k)
answers-more (Popped at ∷ ts) asks ss k = ap (λ (xs : List Said). saids.Popped (Some at) ∷ xs) (answers-more ts asks ss k)
answers-more (NoOwn ∷ ts) asks ss k = ap (λ (xs : List Said). saids.Own None ∷ xs) (answers-more ts asks ss k)
answers-more (Own at ∷ ts) asks ss k = ap (λ (xs : List Said). saids.Own (Some at) ∷ xs) (answers-more ts asks ss k)
answers-more (Room there ∷ ts) asks ss k = ap (λ (xs : List Said). saids.Room there ∷ xs) (answers-more ts asks ss k)
answers-more (Asked ∷ ts) [] ss k = absurd (omega (arith, k))
answers-more (Asked ∷ ts) (a ∷ asks) ss k = ap (λ (xs : List Said). saids.Asked a.0 a.1 ∷ xs) (answers-more ts asks ss (omega (arith, k)))
answers-more (Dial n ∷ ts) asks ss k = ap (λ (xs : List Said). saids.Dial n ∷ xs) (answers-more ts asks ss k)

asks_told-kept : (ss : List Said) → asks_told (map told_of ss) ≡ length (asks_in ss)
asks_told-kept [] = refl
asks_told-kept (saids.Flag up ∷ ss) = asks_told-kept ss
asks_told-kept (saids.Popped None ∷ ss) = asks_told-kept ss
asks_told-kept (saids.Popped (Some at) ∷ ss) = asks_told-kept ss
asks_told-kept (saids.Own None ∷ ss) = asks_told-kept ss
asks_told-kept (saids.Own (Some at) ∷ ss) = asks_told-kept ss
asks_told-kept (saids.Room there ∷ ss) = asks_told-kept ss
asks_told-kept (saids.Asked ask answer ∷ ss) = omega (arith, asks_told-kept ss)
asks_told-kept (saids.Dial n ∷ ss) = asks_told-kept ss

asks_told-append : (ts us : List Told) → asks_told (ts ++ us) ≡ asks_told ts + asks_told us
asks_told-append [] us = omega arith
asks_told-append (Flag up ∷ ts) us = asks_told-append ts us
asks_told-append (NonePopped ∷ ts) us = asks_told-append ts us
asks_told-append (Popped at ∷ ts) us = asks_told-append ts us
asks_told-append (NoOwn ∷ ts) us = asks_told-append ts us
asks_told-append (Own at ∷ ts) us = asks_told-append ts us
asks_told-append (Room there ∷ ts) us = asks_told-append ts us
asks_told-append (Asked ∷ ts) us = omega (arith, asks_told-append ts us)
asks_told-append (Dial n ∷ ts) us = asks_told-append ts us

length-answers : (ts : List Told) (asks : List (Ask × Answer)) → asks_told ts ≡ length asks → length (answers_of ts asks) ≡ length ts
length-answers [] asks k = refl
length-answers (Flag up ∷ ts) asks k = omega (arith, length-answers ts asks k)
length-answers (NonePopped ∷ ts) asks k = omega (arith, length-answers ts asks k)
length-answers (Popped at ∷ ts) asks k = omega (arith, length-answers ts asks k)
length-answers (NoOwn ∷ ts) asks k = omega (arith, length-answers ts asks k)
length-answers (Own at ∷ ts) asks k = omega (arith, length-answers ts asks k)
length-answers (Room there ∷ ts) asks k = omega (arith, length-answers ts asks k)
length-answers (Asked ∷ ts) [] k = absurd (omega (arith, k))
length-answers (Asked ∷ ts) (a ∷ asks) k = omega (arith, length-answers ts asks (omega (arith, k)))
length-answers (Dial n ∷ ts) asks k = omega (arith, length-answers ts asks k)

-- the answer at an index more
pub told-next : (ss : List Said) (i : ℕ) (s : Said) → i < length ss → get_or ss i s ≡ s → map told_of (take (i + 1) ss) ≡ map told_of (take i ss) ++ told_of s ∷ []
told-next ss i s within at =
    let next : take (suc i) ss ≡ take i ss ++ s ∷ [] = take-suc ss i s within ∙ ap (λ x. take i ss ++ x ∷ []) at in
    rw (add-one, next) (map-append told_of (take i ss) (s ∷ []))

pub asks-next : (ss : List Said) (i : ℕ) (s : Said) → i < length ss → get_or ss i s ≡ s → asks_in (take (i + 1) ss) ≡ asks_in (take i ss) ++ asks_of s
asks-next ss i s within at =
    let next : take (suc i) ss ≡ take i ss ++ s ∷ [] = take-suc ss i s within ∙ ap (λ x. take i ss ++ x ∷ []) at in
    rw (add-one, next) (asks_in-append (take i ss) (s ∷ []) ∙ ap (λ qs. asks_in (take i ss) ++ qs) (append-nil (asks_of s)))

-- an answer is to one ask at most
pub few-asks : (s : Said) → length (asks_of s) ≤ 1
few-asks (saids.Flag up) = omega arith
few-asks (saids.Popped at) = omega arith
few-asks (saids.Own at) = omega arith
few-asks (saids.Room there) = omega arith
few-asks (saids.Asked ask answer) = omega arith
few-asks (saids.Dial n) = omega arith

-- one item more of a list
pub take-one : {A : Type 0} (xs : List A) (i : ℕ) → take i xs ++ take 1 (drop i xs) ≡ take (suc i) xs
take-one [] zero = refl
take-one [] (suc i) = refl
take-one (x ∷ xs) zero = refl
take-one (x ∷ xs) (suc i) = ap (λ ys. x ∷ ys) (take-one xs i)

pub drop-one : {A : Type 0} (xs : List A) (i : ℕ) → drop 1 (drop i xs) ≡ drop (suc i) xs
drop-one [] zero = refl
drop-one [] (suc i) = refl
drop-one (x ∷ xs) zero = refl
drop-one (x ∷ xs) (suc i) = drop-one xs i

-- ---- entries

pub length-entries : (rs : List Row) (ss : List Said) → length (entries_of rs ss) ≡ length rs
length-entries [] ss = refl
length-entries (r ∷ rs) ss = omega (arith, length-entries rs (drop r.answers ss))

-- one more, with its answers behind those of the first
entries-more : (rs : List Row) (r : Row) (ss last : List Said) → answers_told rs ≡ length ss → r.answers ≡ length last → entries_of (rs ++ r ∷ []) (ss ++ last) ≡ entries_of rs ss ++ recorded r.who r.act last r.ended ∷ []
entries-more [] r [] last k is = rw is (ap (λ said. recorded r.who r.act said r.ended ∷ []) (take-length last))
entries-more [] r (s ∷ ss) last k is = absurd (omega (arith, k))
entries-more (q ∷ rs) r ss last k is =
    let rest = entries-more rs r (drop q.answers ss) last (omega (arith, k, length-drop q.answers ss)) is in
    rw (take-append-le q.answers ss last (omega (arith, k)), drop-append-le q.answers ss last (omega (arith, k)), rest) refl

answers_told-append : (rs qs : List Row) → answers_told (rs ++ qs) ≡ answers_told rs + answers_told qs
answers_told-append [] qs = omega arith
answers_told-append (r ∷ rs) qs = omega (arith, answers_told-append rs qs)

-- the last hold's answers are kept with the others
pub kept-last : (rs : List Row) (ts : List Told) (asks : List (Ask × Answer)) (last : List Said) → AreKept rs ts asks last → AreKept rs (ts ++ map told_of last) (asks ++ asks_in last) []
kept-last rs ts asks last k = record {
  asks_are = omega (arith, k.asks_are, asks_told-append ts (map told_of last), asks_told-kept last, length-append asks (asks_in last));
  answers_are = omega (arith, k.answers_are, length-append ts (map told_of last), length-map last told_of);
}

pub entries-last : (rs : List Row) (ts : List Told) (asks : List (Ask × Answer)) (last : List Said) → AreKept rs ts asks last →
    entries_of rs (answers_of (ts ++ map told_of last) (asks ++ asks_in last) ++ []) ≡ entries_of rs (answers_of ts asks ++ last)
entries-last rs ts asks last k = ap (entries_of rs) (append-nil _ ∙ answers-more ts asks last k.asks_are)

-- where there is room for an entry, the last hold's answers are kept
no-items : {A : Type 0} (xs : List A) → length xs ≡ 0 → xs ≡ []
no-items [] none = refl
no-items (x ∷ xs) none = absurd (omega (arith, none))

pub no-last : {A B G : Type 0} (rows : Vec A G) (last : Vec B G) (es : List Recorded) → length es < length es + cond (has_room rows last) 1 0 → last.items ≡ []
no-last rows last es room =
    let none : vec_len last ≡ 0 = grind (arith, nat_tests, room) in
    no-items last.items (omega (arith, none, last.ok.0))

-- a hold's entry is appended where those before are kept
pub kept-more : (rs : List Row) (r : Row) (ts : List Told) (asks : List (Ask × Answer)) (last : List Said) → AreKept rs ts asks [] → r.answers ≡ length last → AreKept (rs ++ r ∷ []) ts asks last
kept-more rs r ts asks last k is = record { asks_are = k.asks_are; answers_are = omega (arith, k.answers_are, is, answers_told-append rs (r ∷ [])) }

pub entries-appended : (rs : List Row) (r : Row) (ts : List Told) (asks : List (Ask × Answer)) (last : List Said) → AreKept rs ts asks [] → r.answers ≡ length last →
    entries_of (rs ++ r ∷ []) (answers_of ts asks ++ last) ≡ entries_of rs (answers_of ts asks ++ []) ++ recorded r.who r.act last r.ended ∷ []
entries-appended rs r ts asks last k is =
    rw (append-nil (answers_of ts asks)) (entries-more rs r (answers_of ts asks) last (omega (arith, k.answers_are, length-answers ts asks k.asks_are)) is)
