-- Laws of the lists of free chunks, for this crate and those above it: how often a chunk stands in them, what keeps a
-- bin one, and that what is taken from a list stands in it.
use Rattle.std.proofs.Common.{◌≡◌, ℕ, ◌+◌, ◌<◌, ◌≤◌, Bool, true, false, not, cond, List, [], ◌∷◌, Option, Some, None, map, length, get_or, refl, sym, ap, ◌∙◌, subst, arith, inl, inr, zero, suc}
use Rattle.std.specs.Prelude.{nat_eq, nat_lt, nat_le, min, sum_by, filter}
use Rattle.std.specs.List.{AllByRecursion}
use Rattle.std.proofs.lemmas.Bool.{eqb-true, eq-eqb, leb-true, and_parts, and_from, cases_lt}
use Rattle.std.proofs.lemmas.List.{get_or_past}
use Rattle.std.proofs.lemmas.List.Sums.{sum_by-cons, sum_by-set, get_or-le-sum_by}
use Rattle.chunk_tags.specs.declared.tiles.Chunk.{Chunk}
use Rattle.chunk_tags.specs.BinOrder.{IsFalling, same_chunk, times_in, without, oldest_of, inserted, lesser, smallest_fit, second_of, second_of_size, best_of, once}
use Rattle.chunk_tags.proofs.Falling.{falling_inserted}
use Rattle.list_laws.proofs.Replaced.{at_each-set}
use Rattle.arena_rules.specs.PlainArena.{Plain, bin_at, with_bin, with_front, unlinked, times_listed, BelongsIn, IsBin}

-- ---- chunks that are the same

pub same_chunk_is : (c d : Chunk) → same_chunk c d ≡ true → c ≡ d
same_chunk_is c d e =
    let p = and_parts (nat_eq c.at d.at) (nat_eq c.size d.size) e in
    let at : c.at ≡ d.at = eqb-true c.at d.at p.0 in
    let size : c.size ≡ d.size = eqb-true c.size d.size p.1 in
    λ i. record { at = at i; size = size i }

pub same_chunk_self : (c : Chunk) → same_chunk c c ≡ true
same_chunk_self c = and_from (nat_eq c.at c.at) (nat_eq c.size c.size) (eq-eqb c.at c.at refl) (eq-eqb c.size c.size refl)

pub once_self : (c : Chunk) → once c c ≡ 1
once_self c = ap {B = ℕ} (λ (b : Bool). cond b 1 0) (same_chunk_self c)

-- ---- a list without a chunk

pub without_same : (c : Chunk) (cs : List Chunk) → times_in c (without c cs) ≡ 0
without_same c [] = refl
without_same c (d ∷ ds) =
    let cases : (b : Bool) → same_chunk c d ≡ b → times_in c (cond (not b) (d ∷ without c ds) (without c ds)) ≡ 0 = elim [
      | true ↦ λ is. without_same c ds
      | false ↦ λ is. omega (arith, sum_by-cons (once c) d (without c ds), ap {B = ℕ} (λ (b : Bool). cond b 1 0) is, without_same c ds)
    ] in
    cases (same_chunk c d) refl

pub without_other : (e c : Chunk) (cs : List Chunk) → same_chunk e c ≡ false → times_in e (without c cs) ≡ times_in e cs
without_other e c [] ne = refl
without_other e c (d ∷ ds) ne =
    let cases : (b : Bool) → same_chunk c d ≡ b → times_in e (cond (not b) (d ∷ without c ds) (without c ds)) ≡ times_in e (d ∷ ds) = elim [
      | true ↦ λ is.
          let no : once e d ≡ 0 = ap (once e) (sym (same_chunk_is c d is)) ∙ ap {B = ℕ} (λ (b : Bool). cond b 1 0) ne in
          omega (arith, no, sum_by-cons (once e) d ds, without_other e c ds ne)
      | false ↦ λ is. omega (arith, sum_by-cons (once e) d (without c ds), sum_by-cons (once e) d ds, without_other e c ds ne)
    ] in
    cases (same_chunk c d) refl

times_without_same : (c : Chunk) (bins : List (List Chunk)) → sum_by (times_in c) (map (without c) bins) ≡ 0
times_without_same c [] = refl
times_without_same c (cs ∷ bins) = omega (arith, sum_by-cons (times_in c) (without c cs) (map (without c) bins), without_same c cs, times_without_same c bins)

times_without_other : (e c : Chunk) (bins : List (List Chunk)) → same_chunk e c ≡ false → sum_by (times_in e) (map (without c) bins) ≡ sum_by (times_in e) bins
times_without_other e c [] ne = refl
times_without_other e c (cs ∷ bins) ne =
    omega (
      arith,
      sum_by-cons (times_in e) (without c cs) (map (without c) bins),
      sum_by-cons (times_in e) cs bins,
      without_other e c cs ne,
      times_without_other e c bins ne,
    )

-- a chunk that is listed once is listed no more, and every other as often
pub times_unlinked : (e c : Chunk) (a : Plain) → times_listed c a ≡ 1 → times_listed e (unlinked a c) + once e c ≡ times_listed e a
times_unlinked e c a one =
    let cases : (b : Bool) → same_chunk e c ≡ b → times_listed e (unlinked a c) + cond b 1 0 ≡ times_listed e a = elim [
      | true ↦ λ is. subst (λ d. times_listed d (unlinked a c) + 1 ≡ times_listed d a) (sym (same_chunk_is e c is)) (omega (arith, one, times_without_same c a.bins))
      | false ↦ λ is. omega (arith, times_without_other e c a.bins is)
    ] in
    cases (same_chunk e c) refl

pub all_without : (P : Chunk → Type 0) (c : Chunk) (cs : List Chunk) → AllByRecursion P cs → AllByRecursion P (without c cs)
all_without P c [] all = tt
all_without P c (d ∷ ds) all =
    let cases : (b : Bool) → AllByRecursion P (cond (not b) (d ∷ without c ds) (without c ds)) = elim [
      | true ↦ all_without P c ds all.1
      | false ↦ (all.0, all_without P c ds all.1)
    ] in
    cases (same_chunk c d)

all_below : (n m : ℕ) (cs : List Chunk) → n ≤ m → AllByRecursion (λ x. x.size ≤ n) cs → AllByRecursion (λ x. x.size ≤ m) cs
all_below n m [] le all = tt
all_below n m (c ∷ cs) le all = (omega (arith, all.0), all_below n m cs le all.1)

-- a list in order: each chunk is as large as all behind it
all_behind : (c : Chunk) (cs : List Chunk) → IsFalling (c ∷ cs) → AllByRecursion (λ d. d.size ≤ c.size) cs
all_behind c [] falls = tt
all_behind c (d ∷ ds) falls = (falls.0, all_below d.size c.size ds falls.0 (all_behind d ds falls.1))

falling_behind : (c : Chunk) (cs : List Chunk) → IsFalling (c ∷ cs) → IsFalling cs
falling_behind c [] falls = tt
falling_behind c (d ∷ ds) falls = falls.1

falling_from : (c : Chunk) (cs : List Chunk) → AllByRecursion (λ d. d.size ≤ c.size) cs → IsFalling cs → IsFalling (c ∷ cs)
falling_from c [] all falls = tt
falling_from c (d ∷ ds) all falls = (all.0, falls)

pub falling_without : (c : Chunk) (cs : List Chunk) → IsFalling cs → IsFalling (without c cs)
falling_without c [] falls = tt
falling_without c (d ∷ ds) falls =
    let rest = falling_without c ds (falling_behind d ds falls) in
    let cases : (b : Bool) → IsFalling (cond (not b) (d ∷ without c ds) (without c ds)) = elim [
      | true ↦ rest
      | false ↦ falling_from d (without c ds) (all_without (λ x. x.size ≤ d.size) c ds (all_behind d ds falls)) rest
    ] in
    cases (same_chunk c d)

pub bin_without : (c : Chunk) (i : ℕ) (cs : List Chunk) → IsBin i cs → IsBin i (without c cs)
bin_without c i cs bin = record { belong = all_without (BelongsIn i) c cs bin.belong; falls = λ large. falling_without c cs (bin.falls large) }

pub get_or-without : (c : Chunk) (bins : List (List Chunk)) (i : ℕ) → get_or (map (without c) bins) i [] ≡ without c (get_or bins i [])
get_or-without c [] i = refl
get_or-without c (cs ∷ bins) zero = refl
get_or-without c (cs ∷ bins) (suc i) = get_or-without c bins i

pub bins_unlinked : (c : Chunk) (a : Plain) → ((i : ℕ) → IsBin i (bin_at a i)) → (i : ℕ) → IsBin i (bin_at (unlinked a c) i)
bins_unlinked c a all i = subst (IsBin i) (sym (get_or-without c a.bins i)) (bin_without c i (bin_at a i) (all i))

-- ---- another list in a bin

pub times_with_bin : (e : Chunk) (a : Plain) (i : ℕ) (cs : List Chunk) → i < length a.bins → times_listed e (with_bin a i cs) + times_in e (bin_at a i) ≡ times_listed e a + times_in e cs
times_with_bin e a i cs lt = sum_by-set (times_in e) a.bins i cs [] lt

pub times_with_front : (e c : Chunk) (a : Plain) (i : ℕ) → i < length a.bins → times_listed e (with_front a i c) ≡ times_listed e a + once e c
times_with_front e c a i lt = omega (arith, times_with_bin e a i (c ∷ bin_at a i) lt, sum_by-cons (once e) c (bin_at a i))

pub bins_with : (a : Plain) (i : ℕ) (cs : List Chunk) → i < length a.bins → IsBin i cs → ((j : ℕ) → IsBin j (bin_at a j)) → (j : ℕ) → IsBin j (bin_at (with_bin a i cs) j)
bins_with a i cs lt bin all j = at_each-set IsBin a.bins i cs [] lt bin all j

-- in front of unsorted, or of the small bin of a chunk
pub bin_with_front : (c : Chunk) (i : ℕ) (cs : List Chunk) → i < 64 → BelongsIn i c → IsBin i cs → IsBin i (c ∷ cs)
bin_with_front c i cs small belongs bin = record { belong = (belongs, bin.belong); falls = λ large. absurd (omega arith) }

-- ---- a chunk in its place by size

pub times_inserted : (e c : Chunk) (cs : List Chunk) → times_in e (inserted c cs) ≡ once e c + times_in e cs
times_inserted e c [] = omega (arith, sum_by-cons (once e) c [])
times_inserted e c (d ∷ ds) =
    let two = sum_by-cons (once e) d ds in
    let cases : (b b' : Bool) → times_in e (cond b (c ∷ d ∷ ds) (cond b' (d ∷ c ∷ ds) (d ∷ inserted c ds))) ≡ once e c + times_in e (d ∷ ds) = elim [
      | true ↦ λ b'. omega (arith, two, sum_by-cons (once e) c (d ∷ ds))
      | false ↦ elim [
        | true ↦ omega (arith, two, sum_by-cons (once e) d (c ∷ ds), sum_by-cons (once e) c ds)
        | false ↦ omega (arith, two, sum_by-cons (once e) d (inserted c ds), times_inserted e c ds)
      ]
    ] in
    cases (nat_lt d.size c.size) (nat_eq d.size c.size)

pub all_inserted : (P : Chunk → Type 0) (c : Chunk) (cs : List Chunk) → P c → AllByRecursion P cs → AllByRecursion P (inserted c cs)
all_inserted P c [] p all = (p, tt)
all_inserted P c (d ∷ ds) p all =
    let cases : (b b' : Bool) → AllByRecursion P (cond b (c ∷ d ∷ ds) (cond b' (d ∷ c ∷ ds) (d ∷ inserted c ds))) = elim [
      | true ↦ λ b'. (p, all)
      | false ↦ elim [ true ↦ (all.0, (p, all.1)) | false ↦ (all.0, all_inserted P c ds p all.1) ]
    ] in
    cases (nat_lt d.size c.size) (nat_eq d.size c.size)

pub bin_inserted : (c : Chunk) (i : ℕ) (cs : List Chunk) → BelongsIn i c → IsBin i cs → IsBin i (inserted c cs)
bin_inserted c i cs belongs bin = record { belong = all_inserted (BelongsIn i) c cs belongs bin.belong; falls = λ large. falling_inserted c cs (bin.falls large) }

-- ---- what is taken from a list stands in it

pub times_in_bin : (c : Chunk) (a : Plain) (i : ℕ) → times_in c (bin_at a i) ≤ times_listed c a
times_in_bin c a i =
    elim (cases_lt i (length a.bins)) [
      | inl lt ↦ get_or-le-sum_by (times_in c) a.bins i [] lt
      | inr past ↦ omega (arith, ap (times_in c) (get_or_past a.bins i [] past))
    ]

pub oldest_listed : (c : Chunk) (cs : List Chunk) → oldest_of cs ≡ Some c → 0 < times_in c cs
oldest_listed c [] e = absurd cc
oldest_listed c (d ∷ []) e =
    let same : d ≡ c = cc in
    omega (arith, sum_by-cons (once c) d [], ap (once c) same, once_self c)
oldest_listed c (d ∷ d' ∷ ds) e = omega (arith, sum_by-cons (once c) d (d' ∷ ds), oldest_listed c (d' ∷ ds) e)

pub smallest_fit_fits : (nb s : ℕ) (cs : List Chunk) → smallest_fit nb cs ≡ Some s → nb ≤ s
smallest_fit_fits nb s [] e = absurd cc
smallest_fit_fits nb s (c ∷ cs) e =
    let cases : (b : Bool) (o : Option ℕ) → nat_le nb c.size ≡ b → smallest_fit nb cs ≡ o → cond b (Some (lesser c.size o)) o ≡ Some s → nb ≤ s = elim [
      | false ↦ λ o small is h. smallest_fit_fits nb s cs (is ∙ h)
      | true ↦ elim [
        | None ↦ λ fits is h. let same : c.size ≡ s = cc in omega (arith, leb-true nb c.size fits, same)
        | Some r ↦ λ fits is h. let same : min c.size r ≡ s = cc in omega (arith, leb-true nb c.size fits, same, smallest_fit_fits nb r cs is)
      ]
    ] in
    cases (nat_le nb c.size) (smallest_fit nb cs) refl refl e

times_filter : (p : Chunk → Bool) (c : Chunk) (cs : List Chunk) → times_in c (filter p cs) ≤ times_in c cs
times_filter p c [] = omega arith
times_filter p c (d ∷ ds) =
    let one = sum_by-cons (once c) d ds in
    let cases : (b : Bool) → times_in c (cond b (d ∷ filter p ds) (filter p ds)) ≤ times_in c (d ∷ ds) = elim [
      | true ↦ omega (arith, one, sum_by-cons (once c) d (filter p ds), times_filter p c ds)
      | false ↦ omega (arith, one, times_filter p c ds)
    ] in
    cases (p d)

second_listed : (c : Chunk) (cs : List Chunk) → second_of cs ≡ Some c → 0 < times_in c cs
second_listed c [] e = absurd cc
second_listed c (d ∷ []) e = let same : d ≡ c = cc in omega (arith, sum_by-cons (once c) d [], ap (once c) same, once_self c)
second_listed c (d ∷ d' ∷ ds) e =
    let same : d' ≡ c = cc in
    omega (arith, sum_by-cons (once c) d (d' ∷ ds), sum_by-cons (once c) d' ds, ap (once c) same, once_self c)

filter_sized : (s : ℕ) (cs : List Chunk) → AllByRecursion (λ c. c.size ≡ s) (filter (λ c. nat_eq c.size s) cs)
filter_sized s [] = tt
filter_sized s (c ∷ cs) =
    let cases : (b : Bool) → nat_eq c.size s ≡ b → AllByRecursion (λ c. c.size ≡ s) (cond b (c ∷ filter (λ c. nat_eq c.size s) cs) (filter (λ c. nat_eq c.size s) cs)) = elim [
      | true ↦ λ e. (eqb-true c.size s e, filter_sized s cs)
      | false ↦ λ e. filter_sized s cs
    ] in
    cases (nat_eq c.size s) refl

second_sized : (s : ℕ) (c : Chunk) (cs : List Chunk) → AllByRecursion (λ d. d.size ≡ s) cs → second_of cs ≡ Some c → c.size ≡ s
second_sized s c [] all e = absurd cc
second_sized s c (d ∷ []) all e = let same : d ≡ c = cc in subst (λ x. x.size ≡ s) same all.0
second_sized s c (d ∷ d' ∷ ds) all e = let same : d' ≡ c = cc in subst (λ x. x.size ≡ s) same all.1.0

-- a chunk of a list that fits
pub record IsFitting (nb : ℕ) (c : Chunk) (cs : List Chunk) : Type 0 where
  pub listed : 0 < times_in c cs
  pub fits : nb ≤ c.size

pub best_fits : (nb : ℕ) (c : Chunk) (cs : List Chunk) → best_of nb cs ≡ Some c → IsFitting nb c cs
best_fits nb c cs e =
    let cases : (o : Option ℕ) → smallest_fit nb cs ≡ o → second_of_size o cs ≡ Some c → IsFitting nb c cs = elim [
      | None ↦ λ is h. absurd cc
      | Some s ↦ λ is h.
          let equals : List Chunk = filter (λ d. nat_eq d.size s) cs in
          record {
            listed = omega (arith, second_listed c equals h, times_filter (λ d. nat_eq d.size s) c cs);
            fits = omega (arith, smallest_fit_fits nb s cs is, second_sized s c equals (filter_sized s cs) h);
          }
    ] in
    cases (smallest_fit nb cs) refl e
