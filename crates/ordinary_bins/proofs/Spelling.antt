-- The lists that links spell, after each change of the links.
use Rattle.std.proofs.Common.{◌≡◌, ℕ, ◌+◌, ◌^◌, ◌<◌, ◌≤◌, ◌≢◌, List, [], ◌∷◌, cond, eqb, ltb, not, sym, ap, ◌∙◌, subst, inl, inr, arith, refl, map, get_or, length, zero, suc, true, false}
use Rattle.std.specs.List.{range_with_len, count_by}
use Rattle.std.proofs.lemmas.Bool.Decides.{nat_tests}
use Rattle.std.proofs.lemmas.Bool.{eq-eqb, ne_eqb, cases_lt, cases_eq, lt-ltb, le-ltb}
use Rattle.std.proofs.lemmas.List.{same_lists, get_or_default, length-set, length-map, get_or-set_same, get_or-set_other}
use Rattle.std.proofs.lemmas.List.FromFn.{get_or-map-range_with_len, length-map-range_with_len}
use Rattle.std.proofs.lemmas.List.Sums.{sum_by-cons}
use Rattle.std.proofs.Math.ListN.{get_or-map}
use Rattle.part_words.specs.Extents.{Extent, IsOpen}
use Rattle.ordinary_bins.specs.Lists.{bin_count, list_at, times_in, times_listed, without, put_behind, put_front}
use Rattle.ordinary_bins.specs.Rings.{IsPath, walk, walked, lists_of, IsNode, IsPlace, Spells, Skips, Splices}
use Rattle.ordinary_bins.proofs.ListLaws.{times_in-cons, in_here, in_more, not_first, within, bin_of_listed, behind_none, unlinked_itself, unlinked_other, inserted_itself, inserted_other, fronted}
use Rattle.ordinary_bins.proofs.Paths.{Amid, Along, amid_path, first_is, first_step, path_skipped, path_spliced}

-- How long a list without repeats can be.

-- how many numbers of a list are below a bound
abbrev below : ℕ → List ℕ → ℕ
below n xs = count_by (λ x. ltb x n) xs

below-cons : (n x : ℕ) (xs : List ℕ) → below n (x ∷ xs) ≡ cond (ltb x n) 1 0 + below n xs
below-cons n x xs = sum_by-cons (λ y. cond (ltb y n) 1 0) x xs

below_zero : (xs : List ℕ) → below 0 xs ≡ 0
below_zero [] = refl
below_zero (x ∷ xs) = omega (arith, below_zero xs, below-cons 0 x xs, ap (λ v. cond {A = ℕ} v 1 0) (le-ltb x 0 (omega arith)))

one_step : (n x : ℕ) → cond (ltb x (suc n)) 1 0 ≡ cond (ltb x n) 1 0 + cond (eqb n x) 1 0
one_step n x = grind (arith, nat_tests)

below_suc : (n : ℕ) (xs : List ℕ) → below (suc n) xs ≡ below n xs + times_in n xs
below_suc n [] = refl
below_suc n (x ∷ xs) = omega (arith, below_suc n xs, one_step n x, below-cons n x xs, below-cons (suc n) x xs, times_in-cons n x xs)

few_below : (n : ℕ) (xs : List ℕ) → ((q : ℕ) → times_in q xs ≤ 1) → below n xs ≤ n
few_below zero xs once = omega (arith, below_zero xs)
few_below (suc n) xs once = omega (arith, few_below n xs once, once n, below_suc n xs)

all_below : (n : ℕ) (xs : List ℕ) → ((q : ℕ) → 1 ≤ times_in q xs → q < n) → length xs ≡ below n xs
all_below n [] h = refl
all_below n (x ∷ xs) h =
    let here : x < n = h x (omega (arith, in_here x x xs refl)) in
    omega (arith, all_below n xs (λ q k. h q (omega (arith, k, in_more q x xs))), below-cons n x xs, ap (λ v. cond {A = ℕ} v 1 0) (lt-ltb x n here))

length_below : (n : ℕ) (xs : List ℕ) → ((q : ℕ) → times_in q xs ≤ 1) → ((q : ℕ) → 1 ≤ times_in q xs → q < n) → length xs ≤ n
length_below n xs once h = omega (arith, few_below n xs once, all_below n xs h)

-- no bin's own node is listed
unlisted : {f b : ℕ → ℕ} {e : Extent} {lists : List (List ℕ)} → Spells f b e lists → (bin n : ℕ) → n < bin_count → times_in n (list_at bin lists) ≡ 0
unlisted {lists = lists} h bin n lt = elim (cases_lt 0 (times_in n (list_at bin lists))) [
  | inl some ↦ absurd (omega (arith, lt, (h.places n (omega (arith, some, within n bin lists))).high))
  | inr none ↦ omega (arith, none)
]

-- A walk along a path gives its list.
walk_path : (fuel : ℕ) (f b : ℕ → ℕ) (s e : ℕ) (xs : List ℕ) → IsPath f b s xs e → times_in e xs ≡ 0 → length xs < fuel → walk fuel f e (f s) ≡ xs
unfolding walk
walk_path zero f b s e xs p none h = absurd (omega (arith, h))
walk_path (suc fuel) f b s e [] m none h = let hit : eqb (f s) e ≡ true = eq-eqb (f s) e m.ahead in rw hit refl
walk_path (suc fuel) f b s e (x ∷ xs) p none h =
    let miss : eqb (f s) e ≡ false = ne_eqb (f s) e (λ q. not_first e x xs none (sym q ∙ p.0.ahead)) in
    rw (miss, p.0.ahead)
    (ap (λ (ys : List ℕ). x ∷ ys) (walk_path fuel f b x e xs p.1 (omega (arith, none, in_more e x xs)) (omega (arith, h))))

walked_is : (fuel n : ℕ) (f : ℕ → ℕ) (lists : List (List ℕ)) → length lists ≡ n → ((bin : ℕ) → bin < n → walk fuel f bin (f bin) ≡ get_or lists bin []) → walked fuel n f ≡ lists
unfolding walked
walked_is fuel n f lists width h =
    let spell : ℕ → List ℕ = λ bin. walk fuel f bin (f bin) in
    let long = length-map-range_with_len spell 0 n in
    same_lists (map spell (range_with_len 0 n)) lists (long ∙ sym width)
    (λ k d lt. get_or-map-range_with_len spell 0 n k k d (omega (arith, lt, long)) (omega arith) ∙ (h k (omega (arith, lt, long)) ∙ get_or_default lists k [] d (omega (arith, lt, long, width))))

-- the lists that the forward links spell
pub spelled : {f b : ℕ → ℕ} {e : Extent} {lists : List (List ℕ)} → Spells f b e lists → lists_of f ≡ lists
spelled {f} {b} {e} {lists} h =
    walked_is (2 ^ 64 + 1) bin_count f lists h.width (λ bin lt.
    let xs = list_at bin lists in
    let few : (q : ℕ) → times_in q xs ≤ 1 = λ q. omega (arith, within q bin lists, h.once q) in
    let small : (q : ℕ) → 1 ≤ times_in q xs → q < 2 ^ 64 = λ q k. (h.places q (omega (arith, k, within q bin lists))).fits in
    walk_path (2 ^ 64 + 1) f b bin bin xs (h.rings bin lt) (unlisted h bin bin lt) (omega (arith, length_below (2 ^ 64) xs few small)))

-- what is true of bins' own nodes and of listed chunks is true along a bin's ring
ring_along : {f b : ℕ → ℕ} {e : Extent} {lists : List (List ℕ)} → Spells f b e lists → (P : ℕ → Type 0) → ((n : ℕ) → n < bin_count → P n) → ((n : ℕ) → 1 ≤ times_listed n lists → P n) → (bin : ℕ) → bin < bin_count → Along P bin bin (list_at bin lists)
ring_along {lists = lists} h P own listed bin lt = record {
  start = own bin lt;
  end = own bin lt;
  nodes = λ n k. listed n (omega (arith, k, within n bin lists));
}

amid_listed : {f b : ℕ → ℕ} {e : Extent} {lists : List (List ℕ)} → Spells f b e lists → (P : ℕ → Type 0) → ((n : ℕ) → n < bin_count → P n) → ((n : ℕ) → 1 ≤ times_listed n lists → P n) → (at : ℕ) → 1 ≤ times_listed at lists → Amid f b P at
amid_listed {f} {b} {lists = lists} h P own listed at k =
    let i = bin_of_listed at lists k in
    let lt : i.bin < bin_count = omega (arith, i.below, h.width) in
    let ne : i.bin ≢ at = λ q. absurd (omega (arith, lt, q, (h.places at k).high)) in
    amid_path f b at (list_at i.bin lists) ne (h.rings i.bin lt) (ring_along h P own listed i.bin lt) i.stands

-- a listed chunk's neighbours are nodes
pub amid_nodes : {f b : ℕ → ℕ} {e : Extent} {lists : List (List ℕ)} → Spells f b e lists → (at : ℕ) → 1 ≤ times_listed at lists → Amid f b (IsNode e) at
amid_nodes {e = e} h at k =
    amid_listed h (IsNode e) (λ n lt. record { word = λ le. absurd (omega (arith, lt, le)) }) (λ n m. record { word = λ le. (h.places n m).word }) at k

-- a chunk that stands nowhere is before none
not_before : {f b : ℕ → ℕ} {e : Extent} {lists : List (List ℕ)} {at n : ℕ} → Spells f b e lists → 1 ≤ times_listed at lists → bin_count ≤ n → times_listed n lists ≡ 0 → n ≢ b at
not_before {lists = lists} {at} {n} h k high none =
    (amid_listed h (λ m. n ≢ m) (λ m lt q. absurd (omega (arith, lt, high, q))) (λ m some q. absurd (omega (arith, some, none, ap (λ i. times_listed i lists) q))) at k).back_is

-- a listed chunk leads somewhere, and no other one does
leads_on : {f b : ℕ → ℕ} {e : Extent} {lists : List (List ℕ)} → Spells f b e lists → (at : ℕ) → 1 ≤ times_listed at lists → f at ≢ 0
leads_on {f} {b} {lists = lists} h at k =
    let i = bin_of_listed at lists k in
    let lt : i.bin < bin_count = omega (arith, i.below, h.width) in
    let ne : i.bin ≢ at = λ q. absurd (omega (arith, lt, q, (h.places at k).high)) in
    let used : i.bin ≢ 0 = λ q. absurd (omega (arith, i.stands, ap (λ m. times_in at (list_at m lists)) q, ap (times_in at) h.unused)) in
    (amid_path f b {P = λ n. n ≢ 0} at (list_at i.bin lists) ne (h.rings i.bin lt) (record { start = used; end = used; nodes = λ n m q. absurd (omega (arith, q, (h.places n (omega (arith, m, within n i.bin lists))).high)) }) i.stands).ahead_is

pub listed_read : {f b : ℕ → ℕ} {e : Extent} {lists : List (List ℕ)} → Spells f b e lists → (at : ℕ) → bin_count ≤ at → not (eqb (f at) 0) ≡ eqb (times_listed at lists) 1
listed_read {f} {lists = lists} h at high = elim (cases_lt 0 (times_listed at lists)) [
  | inl some ↦ ap not (ne_eqb (f at) 0 (leads_on h at (omega (arith, some)))) ∙ sym (eq-eqb (times_listed at lists) 1 (omega (arith, some, h.once at)))
  | inr none ↦ ap not (eq-eqb (f at) 0 (h.idle at high (omega (arith, none)))) ∙ sym (ne_eqb (times_listed at lists) 1 (omega (arith, none)))
]

-- and so is the first node of a bin
pub first_node : {f b : ℕ → ℕ} {e : Extent} {lists : List (List ℕ)} → Spells f b e lists → (bin : ℕ) → bin < bin_count → IsNode e (f bin)
first_node {f} {b} {e} {lists} h bin lt =
    first_is f b (list_at bin lists) (h.rings bin lt)
    (ring_along h (IsNode e) (λ n l. record { word = λ le. absurd (omega (arith, l, le)) }) (λ n m. record { word = λ le. (h.places n m).word }) bin lt)

-- A chunk leaves its list.
pub unlinked : {f b f' b' : ℕ → ℕ} {e : Extent} {lists : List (List ℕ)} {at : ℕ} → Spells f b e lists → 1 ≤ times_listed at lists → Skips f b f' b' at → f' at ≡ 0 → Spells f' b' e (map (without at) lists)
unlinked {f} {b} {f'} {b'} {e} {lists} {at} h k skips cleared =
    let high = (h.places at k).high in
    let amid = amid_nodes h at k in
    let fewer : (n : ℕ) → times_listed n (map (without at) lists) ≤ times_listed n lists =
    λ n. elim (cases_eq n at) [
      | inl q ↦ omega (arith, subst (λ m. times_listed m (map (without at) lists) ≡ 0) (sym q) (unlinked_itself at lists))
      | inr ne ↦ omega (arith, unlinked_other n at lists ne)
    ] in
    record {
      width = length-map lists (without at) ∙ h.width;
      unused = get_or-map (without at) lists 0 [] ∙ ap (without at) h.unused;
      rings = λ bin lt.
          let ne : bin ≢ at = λ q. absurd (omega (arith, lt, q, high)) in
          subst (λ xs. IsPath f' b' bin xs bin) (sym (get_or-map (without at) lists bin [])) (path_skipped skips amid ne ne (list_at bin lists) (h.rings bin lt));
      once = λ n. omega (arith, h.once n, fewer n);
      places = λ n m. h.places n (omega (arith, m, fewer n));
      idle = λ n high none. elim (cases_eq n at) [
        | inl q ↦ ap f' q ∙ cleared
        | inr ne ↦
            let nowhere : times_listed n lists ≡ 0 = omega (arith, none, unlinked_other n at lists ne) in
            skips.ahead_else n (λ q. not_before h k high nowhere q) ne ∙ h.idle n high nowhere
      ];
    }

-- A chunk comes to stand behind a node.

-- what stands in no list, where a chunk may lie
pub record IsNew (e : Extent) (lists : List (List ℕ)) (at : ℕ) : Type 0 where
  pub high : bin_count ≤ at
  pub word : IsOpen e at
  pub nowhere : times_listed at lists ≡ 0

apart_from_new : {f b : ℕ → ℕ} {e : Extent} {lists : List (List ℕ)} {at : ℕ} → Spells f b e lists → IsNew e lists at → (bin : ℕ) → bin < bin_count → Along (λ n. n ≢ at) bin bin (list_at bin lists)
apart_from_new {lists = lists} {at} h new =
    ring_along h (λ n. n ≢ at) (λ n lt q. absurd (omega (arith, lt, q, new.high)))
    (λ n k q. absurd (omega (arith, k, new.nowhere, ap (λ m. times_listed m lists) q)))

-- what the lists are then, by how often a chunk stands in them
spells_more : {f b f' b' : ℕ → ℕ} {e : Extent} {lists more : List (List ℕ)} {at : ℕ} → Spells f b e lists → IsNew e lists at → at < 2 ^ 64 → length more ≡ length lists → list_at 0 more ≡ [] → times_listed at more ≡ 1 → ((n : ℕ) → n ≢ at → times_listed n more ≡ times_listed n lists) → ((n : ℕ) → n ≢ at → bin_count ≤ n → times_listed n lists ≡ 0 → f' n ≡ f n) → ((bin : ℕ) → bin < bin_count → IsPath f' b' bin (list_at bin more) bin) → Spells f' b' e more
spells_more {e = e} {lists} {more} {at} h new fits width unused itself others same rings = record {
  width = width ∙ h.width;
  unused = unused;
  rings = rings;
  once = λ n. elim (cases_eq n at) [
    | inl q ↦ omega (arith, itself, ap (λ m. times_listed m more) q)
    | inr ne ↦ omega (arith, others n ne, h.once n)
  ];
  places = λ n m. elim (cases_eq n at) [
    | inl q ↦ subst (IsPlace e) (sym q) (record { high = new.high; fits = fits; word = new.word })
    | inr ne ↦ h.places n (omega (arith, m, others n ne))
  ];
  idle = λ n high none. elim (cases_eq n at) [
    | inl q ↦ absurd (omega (arith, none, itself, ap (λ m. times_listed m more) q))
    | inr ne ↦
        let nowhere : times_listed n lists ≡ 0 = omega (arith, none, others n ne) in
        same n ne high nowhere ∙ h.idle n high nowhere
  ];
}

pub inserted : {f b f' b' : ℕ → ℕ} {e : Extent} {lists : List (List ℕ)} {after at : ℕ} → Spells f b e lists → IsNew e lists at → at < 2 ^ 64 → 1 ≤ times_listed after lists → Splices f b f' b' after at → Spells f' b' e (map (put_behind after at) lists)
inserted {f} {b} {f'} {b'} {e} {lists} {after} {at} h new fits k splices =
    let high = (h.places after k).high in
    spells_more h new fits (length-map lists (put_behind after at)) (get_or-map (put_behind after at) lists 0 [] ∙ ap (put_behind after at) h.unused) (omega (arith, inserted_itself after at lists, new.nowhere, h.once after, k)) (λ n ne. inserted_other n after at lists ne)
    (λ n ne low none. splices.ahead_else n (λ q. absurd (omega (arith, none, k, ap (λ m. times_listed m lists) q))) ne)
    (λ bin lt.
    let xs = list_at bin lists in
    let miss : eqb after bin ≡ false = ne_eqb after bin (λ q. absurd (omega (arith, lt, q, high))) in
    let path = path_spliced splices (amid_nodes h after k).behind.back xs (apart_from_new h new bin lt) (h.rings bin lt) in
    subst (λ ys. IsPath f' b' bin ys bin) (sym (get_or-map (put_behind after at) lists bin [])) (rw miss at path))

pub put_in_front : {f b f' b' : ℕ → ℕ} {e : Extent} {lists : List (List ℕ)} {bin at : ℕ} → Spells f b e lists → IsNew e lists at → at < 2 ^ 64 → 0 < bin → bin < bin_count → Splices f b f' b' bin at → Spells f' b' e (put_front bin at lists)
put_in_front {f} {b} {f'} {b'} {e} {lists} {bin} {at} h new fits used below splices =
    let inside : bin < length lists = omega (arith, below, h.width) in
    let long = length-set lists bin (at ∷ list_at bin lists) in
    spells_more h new fits long (get_or-set_other lists bin 0 (at ∷ list_at bin lists) [] (λ q. absurd (omega (arith, used, q))) ∙ h.unused) (omega (arith, fronted at bin at lists inside, new.nowhere, ap (λ v. cond {A = ℕ} v 1 0) (eq-eqb at at refl)))
    (λ n ne. omega (arith, fronted n bin at lists inside, ap (λ v. cond {A = ℕ} v 1 0) (ne_eqb n at ne)))
    (λ n ne high none. splices.ahead_else n (λ q. absurd (omega (arith, high, below, q))) ne)
    (λ k lt.
    let xs = list_at k lists in
    let path = path_spliced splices (first_step f b bin bin (list_at bin lists) (h.rings bin below)).back xs (apart_from_new h new k lt) (h.rings k lt) in
    let same : put_behind bin at xs ≡ xs = behind_none bin at xs (unlisted h k bin below) in
    elim (cases_eq bin k) [
      | inl q ↦
          let hit : eqb bin k ≡ true = eq-eqb bin k q in
          let now : list_at k (put_front bin at lists) ≡ at ∷ xs =
          subst (λ m. list_at m (put_front bin at lists) ≡ at ∷ list_at m lists) q (get_or-set_same lists bin (at ∷ list_at bin lists) [] inside) in
          subst (λ ys. IsPath f' b' k ys k) (sym now) (rw (hit, same) at path)
      | inr ne ↦
          let miss : eqb bin k ≡ false = ne_eqb bin k ne in
          subst (λ ys. IsPath f' b' k ys k) (sym (get_or-set_other lists bin k (at ∷ list_at bin lists) [] (λ q. ne (sym q)))) (rw (miss, same) at path)
    ])

-- no link leads to a new chunk yet
pub behind_not_new : {f b : ℕ → ℕ} {e : Extent} {lists : List (List ℕ)} {at : ℕ} → Spells f b e lists → IsNew e lists at → (after : ℕ) → 1 ≤ times_listed after lists → f after ≢ at
behind_not_new {lists = lists} {at} h new after k =
    (amid_listed h (λ n. n ≢ at) (λ n lt q. absurd (omega (arith, lt, q, new.high)))
    (λ n k q. absurd (omega (arith, k, new.nowhere, ap (λ m. times_listed m lists) q))) after k).ahead_is

pub first_not_new : {f b : ℕ → ℕ} {e : Extent} {lists : List (List ℕ)} {at : ℕ} → Spells f b e lists → IsNew e lists at → (bin : ℕ) → bin < bin_count → f bin ≢ at
first_not_new {f} {b} {lists = lists} h new bin lt = first_is f b (list_at bin lists) (h.rings bin lt) (apart_from_new h new bin lt)
