-- What a node's links tell of the lists.
use Rattle.std.proofs.Common.{◌≡◌, ℕ, ◌<◌, ◌≤◌, List, [], ◌∷◌, ◌++◌, cond, eqb, ltb, sym, ap, ◌∙◌, subst, arith, refl, length, Some, true, false}
use Rattle.std.proofs.lemmas.Bool.{eq-eqb, eqb-true, ne_eqb, lt-ltb, le-ltb}
use Rattle.std.proofs.lemmas.List.{get_or-replicate}
use Rattle.std.proofs.lemmas.List.Sums.{sum_by-append}
use Rattle.part_words.specs.Extents.{Extent}
use Rattle.ordinary_bins.specs.Lists.{bin_count, list_at, times_in, empty_lists, first_of, last_of}
use Rattle.ordinary_bins.specs.Rings.{IsPath, Spells, chunk_at_node}
use Rattle.ordinary_bins.proofs.ListLaws.{last_stands, in_here, in_more, within, none_listed, length-empty_lists}

-- no chunk of a list is a bin's own node
abbrev AreChunks : List ℕ → Type 0
AreChunks xs = (n : ℕ) → 1 ≤ times_in n xs → bin_count ≤ n

first_of_path : (f b : ℕ → ℕ) (s e : ℕ) (xs : List ℕ) → IsPath f b s xs e → e < bin_count → AreChunks xs → first_of xs ≡ chunk_at_node (f s)
first_of_path f b s e [] m lt high =
    let own : ltb (f s) bin_count ≡ true = ap (λ n. ltb n bin_count) m.ahead ∙ lt-ltb e bin_count lt in
    rw own refl
first_of_path f b s e (x ∷ xs) p lt high =
    let chunk : ltb x bin_count ≡ false = le-ltb x bin_count (high x (omega (arith, in_here x x xs refl))) in
    rw (p.0.ahead, chunk) refl

last_is_back : (f b : ℕ → ℕ) (s e x : ℕ) (xs : List ℕ) → IsPath f b s (x ∷ xs) e → last_of (x ∷ xs) ≡ Some (b e)
last_is_back f b s e x [] p = ap Some (sym p.1.back)
last_is_back f b s e x (y ∷ ys) p = last_is_back f b x e y ys p.1

last_of_path : (f b : ℕ → ℕ) (s e : ℕ) (xs : List ℕ) → IsPath f b s xs e → s < bin_count → AreChunks xs → last_of xs ≡ chunk_at_node (b e)
last_of_path f b s e [] m lt high =
    let own : ltb (b e) bin_count ≡ true = ap (λ n. ltb n bin_count) m.back ∙ lt-ltb s bin_count lt in
    rw own refl
last_of_path f b s e (x ∷ xs) p lt high =
    let last = last_is_back f b s e x xs p in
    let chunk : ltb (b e) bin_count ≡ false = le-ltb (b e) bin_count (high (b e) (last_stands (x ∷ xs) (b e) last)) in
    last ∙ rw chunk refl

-- a path over a node is two paths
parts : (f b : ℕ → ℕ) (s e n : ℕ) (xs ys : List ℕ) → IsPath f b s (xs ++ n ∷ ys) e → IsPath f b s xs n × IsPath f b n ys e
parts f b s e n [] ys p = p
parts f b s e n (x ∷ xs) ys p = let later = parts f b x e n xs ys p.1 in ((p.0, later.0), later.1)

-- Of a bin's ring.

chunks : {f b : ℕ → ℕ} {e : Extent} {lists : List (List ℕ)} → Spells f b e lists → (bin : ℕ) → AreChunks (list_at bin lists)
chunks {lists = lists} h bin n k = (h.places n (omega (arith, k, within n bin lists))).high

pub first_read : {f b : ℕ → ℕ} {e : Extent} {lists : List (List ℕ)} → Spells f b e lists → (bin : ℕ) → bin < bin_count → first_of (list_at bin lists) ≡ chunk_at_node (f bin)
first_read {f} {b} {lists = lists} h bin lt = first_of_path f b bin bin (list_at bin lists) (h.rings bin lt) lt (chunks h bin)

pub last_read : {f b : ℕ → ℕ} {e : Extent} {lists : List (List ℕ)} → Spells f b e lists → (bin : ℕ) → bin < bin_count → last_of (list_at bin lists) ≡ chunk_at_node (b bin)
last_read {f} {b} {lists = lists} h bin lt = last_of_path f b bin bin (list_at bin lists) (h.rings bin lt) lt (chunks h bin)

-- wherever a chunk stands, the chunks beside it
pub beside_read : {f b : ℕ → ℕ} {e : Extent} {lists : List (List ℕ)} → Spells f b e lists → (bin : ℕ) → bin < bin_count → (n : ℕ) (front back : List ℕ) → list_at bin lists ≡ front ++ n ∷ back → (first_of back ≡ chunk_at_node (f n)) × (last_of front ≡ chunk_at_node (b n))
beside_read {f} {b} {lists = lists} h bin lt n front back is =
    let paths = parts f b bin bin n front back (subst (λ xs. IsPath f b bin xs bin) is (h.rings bin lt)) in
    let high : AreChunks (front ++ n ∷ back) = subst AreChunks is (chunks h bin) in (
      first_of_path f b n bin back paths.1 lt (λ m k. high m (omega (arith, k, in_more m n back, sum_by-append (λ x. cond (eqb m x) 1 0) front (n ∷ back)))),
      last_of_path f b bin n front paths.0 lt (λ m k. high m (omega (arith, k, sum_by-append (λ x. cond (eqb m x) 1 0) front (n ∷ back)))),
    )

-- whether there are no chunks, and whether there is one chunk alone
pub none_read : {f b : ℕ → ℕ} {e : Extent} {lists : List (List ℕ)} → Spells f b e lists → (bin : ℕ) → bin < bin_count → ltb (f bin) bin_count ≡ eqb (length (list_at bin lists)) 0
none_read {f} {b} {lists = lists} h bin lt = none (list_at bin lists) (h.rings bin lt) (chunks h bin)
  where
    none : (xs : List ℕ) → IsPath f b bin xs bin → AreChunks xs → ltb (f bin) bin_count ≡ eqb (length xs) 0
    none [] m high = lt-ltb (f bin) bin_count (omega (arith, lt, m.ahead))
    none (x ∷ xs) p high =
        le-ltb (f bin) bin_count (omega (arith, p.0.ahead, high x (omega (arith, in_here x x xs refl)))) ∙ sym (ne_eqb (length (x ∷ xs)) 0 (omega arith))

pub only_read : {f b : ℕ → ℕ} {e : Extent} {lists : List (List ℕ)} → Spells f b e lists → (bin : ℕ) → bin < bin_count → bin_count ≤ f bin → eqb (f (f bin)) bin ≡ eqb (length (list_at bin lists)) 1
only_read {f} {b} {lists = lists} h bin lt le = lone (list_at bin lists) (h.rings bin lt) (chunks h bin)
  where
    lone : (xs : List ℕ) → IsPath f b bin xs bin → AreChunks xs → eqb (f (f bin)) bin ≡ eqb (length xs) 1
    lone [] m high = absurd (omega (arith, lt, le, m.ahead))
    lone (x ∷ []) p high = eq-eqb (f (f bin)) bin (ap f p.0.ahead ∙ p.1.ahead)
    lone (x ∷ y ∷ ys) p high =
        let below : bin_count ≤ y = high y (omega (arith, in_here y y ys refl, in_more y x (y ∷ ys))) in
        ne_eqb (f (f bin)) bin (λ q. absurd (omega (arith, lt, below, sym (ap f p.0.ahead ∙ p.1.0.ahead) ∙ q))) ∙ sym (ne_eqb (length (x ∷ y ∷ ys)) 1 (omega arith))

pub none_is_not_one : {f b : ℕ → ℕ} {e : Extent} {lists : List (List ℕ)} → Spells f b e lists → (bin : ℕ) → bin < bin_count → f bin < bin_count → false ≡ eqb (length (list_at bin lists)) 1
none_is_not_one {f} {lists = lists} h bin lt own =
    let zero_long = eqb-true (length (list_at bin lists)) 0 (sym (none_read h bin lt) ∙ lt-ltb (f bin) bin_count own) in
    sym (ne_eqb (length (list_at bin lists)) 1 (omega (arith, zero_long)))

-- No chunks.
pub spells_none : (f b : ℕ → ℕ) (e : Extent) → ((n : ℕ) → n < bin_count → (f n ≡ n) × (b n ≡ n)) → ((n : ℕ) → bin_count ≤ n → f n ≡ 0) → Spells f b e empty_lists
unfolding empty_lists
spells_none f b e own chunks = record {
  width = length-empty_lists;
  unused = get_or-replicate bin_count 0 [] [] (omega arith);
  rings = λ bin lt. subst (λ xs. IsPath f b bin xs bin) (sym (get_or-replicate bin_count bin [] [] lt)) (record { ahead = (own bin lt).0; back = (own bin lt).1 });
  once = λ n. omega (arith, none_listed n);
  places = λ n k. absurd (omega (arith, k, none_listed n));
  idle = λ n high none. chunks n high;
}
