-- The first chunks of each size of all bins, as lists change. Other crates may cite this file.
use Rattle.std.proofs.Common.{◌≡◌, ℕ, ◌<◌, ◌≤◌, ◌≢◌, List, [], ◌∷◌, ◌++◌, get_or, length, ltb, map, set, replicate, sym, ap, ◌∙◌, subst, inl, inr, arith, refl, true, false, Some, None}
use Rattle.std.proofs.lemmas.Bool.{cases_lt, lt-ltb, le-ltb}
use Rattle.std.proofs.lemmas.Bool.Decides.{eqb_tells}
use Rattle.std.proofs.Math.ListN.{get_or-map}
use Rattle.std.proofs.lemmas.List.{get_or-replicate, get_or-set_same, get_or-set_other, get_or_past, length-replicate, map-set}
use Rattle.chunk_tags.specs.BinOrder.{IsFalling}
use Rattle.chunk_tags.specs.declared.tiles.Chunk.{Chunk}
use Rattle.chunk_tags.specs.declared.tiles.Tile.{Tile}
use Rattle.ordinary_bins.specs.Lists.{bin_count, empty_lists, list_at, put_front, times_in, times_listed, without}
use Rattle.ordinary_bins.proofs.ListLaws.{times_in-cons, in_here, within, bin_of_listed, elsewhere, unlinked_at, without_none}
use Rattle.large_bins.specs.FirstChunks.{firsts_of, firsts_in, AreFalling, AreFirsts}
use Rattle.large_bins.specs.Places.{first_of_size, leads, leads_behind, AllAbove}
use Rattle.large_bins.specs.SeenChunks.{chunks_by, bins_by, HaveTiles}
use Rattle.large_bins.proofs.Ends.{next_listed, stands_at, times_append}
use Rattle.large_bins.proofs.FirstLaws.{FallsFrom, behind_within, leads_within, leads_append, leads_at, leads_kept, leads_left, behind_equal, has_equal}

bin_is : (f : ℕ → ℕ) (lists : List (List ℕ)) (bin : ℕ) → get_or (bins_by f lists) bin [] ≡ chunks_by f (list_at bin lists)
bin_is f lists bin = get_or-map (chunks_by f) lists bin []

low_in : (bin : ℕ) (cs : List Chunk) → bin < 64 → firsts_in bin cs ≡ []
low_in bin cs lt = let low : ltb bin 64 ≡ true = lt-ltb bin 64 lt in rw low refl

large_in : (bin : ℕ) (cs : List Chunk) → 64 ≤ bin → firsts_in bin cs ≡ firsts_of cs
large_in bin cs le = let large : ltb bin 64 ≡ false = le-ltb bin 64 le in rw large refl

pub low_firsts : {bins : List (List Chunk)} {firsts : List (List ℕ)} → AreFirsts bins firsts → (bin : ℕ) → bin < 64 → list_at bin firsts ≡ []
low_firsts {bins} g bin lt = g.each bin ∙ low_in bin (get_or bins bin []) lt

pub large_firsts : (f : ℕ → ℕ) (lists : List (List ℕ)) {firsts : List (List ℕ)} → AreFirsts (bins_by f lists) firsts → (bin : ℕ) → 64 ≤ bin → list_at bin firsts ≡ leads f (list_at bin lists)
large_firsts f lists g bin le = g.each bin ∙ (large_in bin (get_or (bins_by f lists) bin []) le ∙ ap firsts_of (bin_is f lists bin))

none_at : (bin : ℕ) → list_at bin empty_lists ≡ []
unfolding empty_lists
none_at bin = elim (cases_lt bin bin_count) [
  | inl lt ↦ get_or-replicate bin_count bin [] [] lt
  | inr ge ↦ get_or_past (replicate bin_count []) bin [] (omega (arith, ge, length-replicate {A = List ℕ} bin_count []))
]

-- where there are no chunks
pub no_firsts : (f : ℕ → ℕ) → AreFirsts (bins_by f empty_lists) empty_lists
no_firsts f = record {
  each = λ bin.
      let none : firsts_in bin [] ≡ [] = elim (cases_lt bin 64) [
        | inl lt ↦ low_in bin [] lt
        | inr le ↦ large_in bin [] (omega (arith, le))
      ] in
      none_at bin ∙ (sym none ∙ ap (firsts_in bin) (sym (bin_is f empty_lists bin ∙ ap (chunks_by f) (none_at bin))));
}

-- ---- which chunks are first of their size

-- such a chunk stands in a large bin
pub record StandsFirst (lists firsts : List (List ℕ)) (n : ℕ) : Type 0 where
  pub bin : ℕ
  pub large : 64 ≤ bin
  pub below : bin < length firsts
  pub first : 1 ≤ times_in n (list_at bin firsts)
  pub stands : 1 ≤ times_in n (list_at bin lists)

pub stands_first : (f : ℕ → ℕ) (lists : List (List ℕ)) {firsts : List (List ℕ)} → AreFirsts (bins_by f lists) firsts → (n : ℕ) → 1 ≤ times_listed n firsts → StandsFirst lists firsts n
stands_first f lists {firsts} g n some =
    let i = bin_of_listed n firsts some in
    elim (cases_lt i.bin 64) [
      | inl lt ↦ absurd (omega (arith, i.stands, ap (times_in n) (low_firsts g i.bin lt)))
      | inr le ↦ record {
        bin = i.bin;
        large = omega (arith, le);
        below = i.below;
        first = i.stands;
        stands = omega (arith, i.stands, ap (times_in n) (large_firsts f lists g i.bin (omega (arith, le))), leads_within f n (list_at i.bin lists));
      }
    ]

pub firsts_listed : (f : ℕ → ℕ) (lists : List (List ℕ)) {firsts : List (List ℕ)} → AreFirsts (bins_by f lists) firsts → (n : ℕ) → 1 ≤ times_listed n firsts → 1 ≤ times_listed n lists
firsts_listed f lists g n some = let s = stands_first f lists g n some in omega (arith, s.stands, within n s.bin lists)

pub unlisted_firsts : (f : ℕ → ℕ) (lists : List (List ℕ)) {firsts : List (List ℕ)} → AreFirsts (bins_by f lists) firsts → (n : ℕ) → times_listed n lists ≡ 0 → times_listed n firsts ≡ 0
unlisted_firsts f lists {firsts} g n none = elim (cases_lt 0 (times_listed n firsts)) [
  | inl some ↦ absurd (omega (arith, none, firsts_listed f lists g n (omega (arith, some))))
  | inr le ↦ omega (arith, le)
]

pub firsts_tiles : {tiles : List Tile} (f : ℕ → ℕ) (lists : List (List ℕ)) {firsts : List (List ℕ)} → AreFirsts (bins_by f lists) firsts → HaveTiles tiles lists → HaveTiles tiles firsts
firsts_tiles f lists g have = record { each = λ n some. have.each n (firsts_listed f lists g n some) }

-- an equal one behind another isn't
pub equal_unlisted : (f : ℕ → ℕ) (lists : List (List ℕ)) {firsts : List (List ℕ)} → AreFirsts (bins_by f lists) firsts → (bin at next : ℕ) (front rest : List ℕ) → 64 ≤ bin → bin < length lists → times_listed next lists ≤ 1 → list_at bin lists ≡ front ++ at ∷ next ∷ rest → list_at bin firsts ≡ leads f front ++ at ∷ leads_behind f (f at) (next ∷ rest) → f next ≡ f at → times_listed next firsts ≡ 0
equal_unlisted f lists {firsts} g bin at next front rest large below once is first size =
    let there : 1 ≤ times_in next (list_at bin lists) = omega (arith, ap (times_in next) is, times_append next front (at ∷ next ∷ rest), times_in-cons next at (next ∷ rest), in_here next next rest refl) in
    let none : times_in next (list_at bin firsts) ≡ 0 = omega (
      arith,
      once,
      within next bin lists,
      ap (times_in next) is,
      times_append next front (at ∷ next ∷ rest),
      times_in-cons next at (next ∷ rest),
      in_here next next rest refl,
      ap (times_in next) first,
      times_append next (leads f front) (at ∷ leads_behind f (f at) (next ∷ rest)),
      times_in-cons next at (leads_behind f (f at) (next ∷ rest)),
      ap (times_in next) (behind_equal f (f at) next rest size),
      leads_within f next front,
      behind_within f (f at) next rest,
    ) in
    elim (cases_lt 0 (times_listed next firsts)) [
      | inl some ↦
          let s = stands_first f lists g next (omega (arith, some)) in
          elim (eqb_tells s.bin bin) [
            | inl t ↦ absurd (omega (arith, none, s.first, ap (λ i. times_in next (list_at i firsts)) t.1))
            | inr t ↦ absurd (omega (arith, s.stands, elsewhere next bin s.bin lists below t.1 once there))
          ]
      | inr le ↦ omega (arith, le)
    ]

-- ---- after a change

-- of one large bin
pub firsts_changed : (f : ℕ → ℕ) (lists more : List (List ℕ)) {firsts news : List (List ℕ)} → AreFirsts (bins_by f lists) firsts → (bin : ℕ) → 64 ≤ bin → list_at bin news ≡ leads f (list_at bin more) → ((k : ℕ) → k ≢ bin → list_at k more ≡ list_at k lists) → ((k : ℕ) → k ≢ bin → list_at k news ≡ list_at k firsts) → AreFirsts (bins_by f more) news
firsts_changed f lists more {firsts} {news} g bin large here others rest = record {
  each = λ k. elim (eqb_tells k bin) [
    | inl t ↦ subst (λ m. list_at m news ≡ firsts_in m (get_or (bins_by f more) m [])) (sym t.1) (here ∙ sym (large_in bin (get_or (bins_by f more) bin []) large ∙ ap firsts_of (bin_is f more bin)))
    | inr t ↦ rest k t.1 ∙ (g.each k ∙ ap (firsts_in k) (bin_is f lists k ∙ (ap (chunks_by f) (sym (others k t.1)) ∙ sym (bin_is f more k))))
  ];
}

pub firsts_set : (f : ℕ → ℕ) (lists : List (List ℕ)) {firsts : List (List ℕ)} → AreFirsts (bins_by f lists) firsts → (bin : ℕ) (xs ys : List ℕ) → 64 ≤ bin → bin < length lists → bin < length firsts → ys ≡ leads f xs → AreFirsts (bins_by f (set lists bin xs)) (set firsts bin ys)
firsts_set f lists {firsts} g bin xs ys large lt lt2 is =
    firsts_changed f lists (set lists bin xs) g bin large (get_or-set_same firsts bin ys [] lt2 ∙ (is ∙ ap (leads f) (sym (get_or-set_same lists bin xs [] lt)))) (λ k ne. get_or-set_other lists bin k xs [] ne) (λ k ne. get_or-set_other firsts bin k ys [] ne)

-- and a chunk that isn't first is added
pub firsts_stay : (f : ℕ → ℕ) (lists : List (List ℕ)) {firsts : List (List ℕ)} → AreFirsts (bins_by f lists) firsts → (bin : ℕ) (xs : List ℕ) → 64 ≤ bin → bin < length lists → list_at bin firsts ≡ leads f xs → AreFirsts (bins_by f (set lists bin xs)) firsts
firsts_stay f lists g bin xs large lt is =
    firsts_changed f lists (set lists bin xs) g bin large (is ∙ ap (leads f) (sym (get_or-set_same lists bin xs [] lt))) (λ k ne. get_or-set_other lists bin k xs [] ne) (λ k ne. refl)

-- of each bin, to one with the same first chunks
firsts_along : (f : ℕ → ℕ) (lists more : List (List ℕ)) {firsts : List (List ℕ)} → AreFirsts (bins_by f lists) firsts → ((k : ℕ) → 64 ≤ k → leads f (list_at k more) ≡ leads f (list_at k lists)) → AreFirsts (bins_by f more) firsts
firsts_along f lists more {firsts} g same = record {
  each = λ k. elim (cases_lt k 64) [
    | inl lt ↦ low_firsts g k lt ∙ sym (low_in k (get_or (bins_by f more) k []) lt)
    | inr le ↦
        let large : 64 ≤ k = omega (arith, le) in
        large_firsts f lists g k large ∙ (sym (same k large) ∙ sym (large_in k (get_or (bins_by f more) k []) large ∙ ap firsts_of (bin_is f more k)))
  ];
}

-- a chunk leaves that isn't first
pub firsts_without : (f : ℕ → ℕ) (lists : List (List ℕ)) {firsts : List (List ℕ)} (at : ℕ) → AreFirsts (bins_by f lists) firsts → times_listed at firsts ≡ 0 → AreFirsts (bins_by f (map (without at) lists)) firsts
firsts_without f lists {firsts} at g none = firsts_along f lists (map (without at) lists) g (λ k large.
    let here : times_in at (leads f (list_at k lists)) ≡ 0 = omega (arith, none, within at k firsts, ap (times_in at) (large_firsts f lists g k large)) in
    ap (leads f) (get_or-map (without at) lists k []) ∙ leads_kept f at (list_at k lists) here)

-- an unsorted chunk leaves
pub firsts_unsorted : (f : ℕ → ℕ) (lists : List (List ℕ)) {firsts : List (List ℕ)} (at : ℕ) → AreFirsts (bins_by f lists) firsts → length lists ≡ bin_count → times_listed at lists ≤ 1 → 1 ≤ times_in at (list_at 1 lists) → AreFirsts (bins_by f (map (without at) lists)) firsts
firsts_unsorted f lists {firsts} at g width once stands = firsts_along f lists (map (without at) lists) g (λ k large.
    let none = elsewhere at 1 k lists (omega (arith, width)) (λ e. absurd (omega (arith, e, large))) once stands in
    ap (leads f) (get_or-map (without at) lists k [] ∙ without_none at (list_at k lists) none))

-- a bin that isn't large changes
pub firsts_below : {bins : List (List Chunk)} {firsts : List (List ℕ)} (bin : ℕ) (cs : List Chunk) → bin < 64 → AreFirsts bins firsts → AreFirsts (set bins bin cs) firsts
firsts_below {bins} {firsts} bin cs low g = record {
  each = λ k. elim (eqb_tells k bin) [
    | inl t ↦ low_firsts g k (omega (arith, low, t.1)) ∙ sym (low_in k (get_or (set bins bin cs) k []) (omega (arith, low, t.1)))
    | inr t ↦ g.each k ∙ ap (firsts_in k) (sym (get_or-set_other bins bin k cs [] t.1))
  ];
}

pub firsts_fronted : (f : ℕ → ℕ) (lists : List (List ℕ)) {firsts : List (List ℕ)} (bin at : ℕ) → AreFirsts (bins_by f lists) firsts → bin < 64 → AreFirsts (bins_by f (put_front bin at lists)) firsts
firsts_fronted f lists {firsts} bin at g low =
    subst (λ (bins : List (List Chunk)). AreFirsts bins firsts) (sym (map-set (chunks_by f) lists bin (at ∷ list_at bin lists))) (firsts_below bin (chunks_by f (at ∷ list_at bin lists)) low g)

pub firsts_are : (f : ℕ → ℕ) {lists more firsts news : List (List ℕ)} → more ≡ lists → news ≡ firsts → AreFirsts (bins_by f lists) firsts → AreFirsts (bins_by f more) news
firsts_are f {firsts = firsts} {news} e is g = subst (AreFirsts (bins_by f _)) (sym is) (subst (λ ls. AreFirsts (bins_by f ls) firsts) (sym e) g)

-- ---- the first of its size leaves

-- where it stands in both lists
pub record IsFirst (f : ℕ → ℕ) (lists firsts : List (List ℕ)) (at : ℕ) : Type 0 where
  pub bin : ℕ
  pub front : List ℕ
  pub back : List ℕ
  pub large : 64 ≤ bin
  pub below : bin < bin_count
  pub split : list_at bin lists ≡ front ++ at ∷ back
  pub first : list_at bin firsts ≡ leads f front ++ at ∷ leads_behind f (f at) back
  pub greater : AllAbove f (f at) front
  pub falls : FallsFrom f (f at) back

pub is_first : (f : ℕ → ℕ) (lists firsts : List (List ℕ)) (at : ℕ) → AreFirsts (bins_by f lists) firsts → AreFalling (bins_by f lists) → length firsts ≡ bin_count → 1 ≤ times_listed at firsts → IsFirst f lists firsts at
is_first f lists firsts at g falling width some =
    let s = stands_first f lists g at some in
    let t = stands_at at (list_at s.bin firsts) s.first in
    let xs = list_at s.bin lists in
    let falls : IsFalling (chunks_by f xs) = subst IsFalling (bin_is f lists s.bin) (falling s.bin s.large) in
    let l = leads_at f at xs t.front t.back falls (sym (large_firsts f lists g s.bin s.large) ∙ t.split) in
    record {
      bin = s.bin;
      front = l.front;
      back = l.back;
      large = s.large;
      below = omega (arith, s.below, width);
      split = l.split;
      first = t.split ∙ (ap (λ (ys : List ℕ). ys ++ at ∷ t.back) l.before_is ∙ ap (λ (ys : List ℕ). leads f l.front ++ at ∷ ys) l.behind_is);
      greater = l.greater;
      falls = l.falls;
    }

-- no equal stands behind it
pub firsts_left : {f : ℕ → ℕ} {lists firsts : List (List ℕ)} {at : ℕ} → AreFirsts (bins_by f lists) firsts → length lists ≡ bin_count → length firsts ≡ bin_count → times_listed at lists ≤ 1 → times_listed at firsts ≤ 1 → (i : IsFirst f lists firsts at) → first_of_size f (f at) i.back ≡ None → AreFirsts (bins_by f (map (without at) lists)) (map (without at) firsts)
firsts_left {f} {lists} {firsts} {at} g long long2 once once2 i none =
    let lt : i.bin < length lists = omega (arith, i.below, long) in
    let lt2 : i.bin < length firsts = omega (arith, i.below, long2) in
    firsts_are f (unlinked_at at i.bin lists i.front i.back lt once i.split) (unlinked_at at i.bin firsts (leads f i.front) (leads_behind f (f at) i.back) lt2 once2 i.first)
    (firsts_set f lists g i.bin (i.front ++ i.back) (leads f i.front ++ leads_behind f (f at) i.back) i.large lt lt2 (sym (leads_left f (f at) i.front i.back i.greater i.falls none)))

-- or one does, which comes in its place
pub firsts_next : {f : ℕ → ℕ} {lists firsts : List (List ℕ)} {at : ℕ} (next : ℕ) → AreFirsts (bins_by f lists) firsts → length lists ≡ bin_count → length firsts ≡ bin_count → times_listed at lists ≤ 1 → (i : IsFirst f lists firsts at) → first_of_size f (f at) i.back ≡ Some next → AreFirsts (bins_by f (map (without at) lists)) (set firsts i.bin (leads f i.front ++ next ∷ leads_behind f (f at) i.back))
firsts_next {f} {lists} {firsts} {at} next g long long2 once i some =
    let e = has_equal f (f at) i.back next some in
    let lt : i.bin < length lists = omega (arith, i.below, long) in
    let greater = subst (λ m. AllAbove f m i.front) (sym e.size) i.greater in
    let rest : leads_behind f (f at) i.back ≡ leads_behind f (f next) e.rest = ap (leads_behind f (f at)) e.is ∙ (behind_equal f (f at) next e.rest e.size ∙ ap (λ m. leads_behind f m e.rest) (sym e.size)) in
    let now : leads f (i.front ++ i.back) ≡ leads f i.front ++ next ∷ leads_behind f (f at) i.back = ap (λ (ys : List ℕ). leads f (i.front ++ ys)) e.is ∙ (leads_append f next i.front e.rest greater ∙ ap (λ (ys : List ℕ). leads f i.front ++ next ∷ ys) (sym rest)) in
    firsts_are f (unlinked_at at i.bin lists i.front i.back lt once i.split) refl
    (firsts_set f lists g i.bin (i.front ++ i.back) (leads f i.front ++ next ∷ leads_behind f (f at) i.back) i.large lt (omega (arith, i.below, long2)) (sym now))

-- which was no first one
pub next_unlisted : {f : ℕ → ℕ} {lists firsts : List (List ℕ)} {at : ℕ} (next : ℕ) → AreFirsts (bins_by f lists) firsts → length lists ≡ bin_count → times_listed next lists ≤ 1 → (i : IsFirst f lists firsts at) → first_of_size f (f at) i.back ≡ Some next → times_listed next firsts ≡ 0
next_unlisted {f} {lists} {firsts} {at} next g long once i some =
    let e = has_equal f (f at) i.back next some in
    equal_unlisted f lists g i.bin at next i.front e.rest i.large (omega (arith, i.below, long)) once (i.split ∙ ap (λ (ys : List ℕ). i.front ++ at ∷ ys) e.is) (i.first ∙ ap (λ (ys : List ℕ). leads f i.front ++ at ∷ leads_behind f (f at) ys) e.is) e.size

pub next_stands : {f : ℕ → ℕ} {lists firsts : List (List ℕ)} {at : ℕ} (next : ℕ) → (i : IsFirst f lists firsts at) → first_of_size f (f at) i.back ≡ Some next → 1 ≤ times_listed next lists
next_stands {f} {lists} {firsts} {at} next i some =
    let e = has_equal f (f at) i.back next some in
    next_listed next at i.bin lists i.front i.back e.rest i.split e.is
