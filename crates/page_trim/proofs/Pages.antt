-- The pages inside free tiles: how many there are at most, where they lie, and what they spare.
use Rattle.std.proofs.Common.{◌≡◌, ℕ, ◌+◌, ◌-◌, ◌*◌, ◌/◌, ◌<◌, ◌≤◌, ◌^◌, ◌&&◌, suc, Bool, true, false, cond, List, [], ◌∷◌, ◌++◌, Some, refl, sym, ap, ◌∙◌, subst, inl, inr, arith}
use Rattle.std.specs.Prelude.{nat_lt, sum_by, slice_get}
use Rattle.std.specs.List.{All, AllByRecursion}
use Rattle.std.proofs.lemmas.Bool.{and_parts, cases_lt, ltb-true}
use Rattle.std.proofs.lemmas.List.Elements.{All-from_recursion}
use Rattle.std.proofs.lemmas.List.Sums.{sum_by-append, sum_by-cons}
use Rattle.std.proofs.lemmas.List.Concat.{flat_map-cons}
use Rattle.chunk_tags.specs.Tiles.{Row, is_free, end_of}
use Rattle.chunk_tags.specs.declared.tiles.Tile.{Tile}
use Rattle.address_space.specs.Spaces.{main_start, piece_start}
use Rattle.arena_rules.specs.HeapPlaces.{IsHeapPlaced}
use Rattle.arena_rules.specs.MainPlaces.{IsMainPlaced, IsPlaced, break_bytes, piece_bytes, times_covered}
use Rattle.arena_rules.specs.PlainArena.{Plain, is_main, tiled_bytes}
use Rattle.arena_rules.proofs.Covered.{covers_one, covers_none, weight_byte}
use Rattle.arena_rules.proofs.HeapTiles.{all_bounded, all_le}
use Rattle.arena_rules.proofs.Rows.{Begins, begins_above, behind_begins}
use Rattle.page_trim.specs.declared.ranges.PageRange.{PageRange}
use Rattle.page_trim.specs.FreePages.{words_of_free, pages_start, pages_end, has_pages, range_of, pages_of, free_pages, pages_in, range_end, kept_end, Spares, IsIdle}

-- ---- one tile

start_from : (t : Tile) → t.addr + 48 ≤ pages_start t
start_from t = omega arith

end_below : (n m : ℕ) → n < m / 4096 * 4096 → n + (m / 4096 * 4096 - n) / 4096 * 4096 ≤ m
end_below n m lt = omega arith

-- what is known of a tile with pages
pub record HasRange (t : Tile) : Type 0 where
  pub free : is_free t ≡ true
  pub start : t.addr + 48 ≤ (range_of t).addr
  pub end : range_end (range_of t) ≤ end_of t

range_is : (t : Tile) → has_pages t ≡ true → HasRange t
range_is t has =
    let both = and_parts (is_free t) (nat_lt (pages_start t) (pages_end t)) has in
    record {
      free = both.0;
      start = start_from t;
      end = end_below (pages_start t) (end_of t) (ltb-true (pages_start t) (pages_end t) both.1);
    }

-- ---- all tiles

-- with pages a tile's range is in front, without it there is none
pub pages_cases : (P : List PageRange → Type 0) (t : Tile) (ts : List Tile) → (HasRange t → P (range_of t ∷ free_pages ts)) → P (free_pages ts) → P (free_pages (t ∷ ts))
unfolding free_pages
pages_cases P t ts some none =
    let cases : (b : Bool) → has_pages t ≡ b → P (cond b (range_of t ∷ []) [] ++ free_pages ts) = elim [
      | true ↦ λ has. some (range_is t has)
      | false ↦ λ has. none
    ] in
    subst P (sym (flat_map-cons pages_of t ts)) (cases (has_pages t) refl)

pages_in-cons : (r : PageRange) (rs : List PageRange) → pages_in (r ∷ rs) ≡ r.pages + pages_in rs
unfolding pages_in
pages_in-cons r rs = sum_by-cons (λ (x : PageRange). x.pages) r rs

pages_in-nil : pages_in [] ≡ 0
unfolding pages_in
pages_in-nil = refl

free_pages-nil : free_pages [] ≡ []
unfolding free_pages
free_pages-nil = refl

-- they have no more bytes than the tiles
pub pages_within : (ts : List Tile) → pages_in (free_pages ts) * 4096 ≤ sum_by (λ t. t.size) ts
pages_within [] = omega (arith, ap pages_in free_pages-nil, pages_in-nil)
pages_within (t ∷ ts) =
    let more = sum_by-cons (λ (x : Tile). x.size) t ts in
    pages_cases (λ rs. pages_in rs * 4096 ≤ sum_by (λ x. x.size) (t ∷ ts)) t ts
    (λ has. omega (arith, more, pages_within ts, pages_in-cons (range_of t) (free_pages ts), has.start, has.end))
    (omega (arith, more, pages_within ts))

-- ---- what they spare

range_above : (at : ℕ) (us : List Tile) → Begins at us → AllByRecursion (λ r. at + 48 ≤ r.addr) (free_pages us)
range_above at [] b = subst (AllByRecursion (λ (r : PageRange). at + 48 ≤ r.addr)) (sym free_pages-nil) tt
range_above at (u ∷ us) b =
    pages_cases (AllByRecursion (λ (r : PageRange). at + 48 ≤ r.addr)) u us
    (λ has. (omega (arith, has.start, b.0), range_above at us b.1))
    (range_above at us b.1)

spares_behind : (r : PageRange) (us : List Tile) → Begins (range_end r) us → AllByRecursion (Spares r) us
spares_behind r [] b = tt
spares_behind r (u ∷ us) b = (inl b.0, spares_behind r us b.1)

kept_of_free : (t : Tile) → is_free t ≡ true → kept_end t ≡ t.addr + 48
kept_of_free t free = ap (λ (b : Bool). cond b (t.addr + 48) (end_of t)) free

kept_most : (t : Tile) → kept_end t ≤ end_of t + 48
kept_most t = elim (is_free t) as (λ b. cond b (t.addr + 48) (end_of t) ≤ end_of t + 48) [ true ↦ omega arith | false ↦ omega arith ]

idle_first : (t : Tile) (us : List Tile) → Row (t ∷ us) → HasRange t → IsIdle (t ∷ us) (range_of t)
idle_first t us row has = record {
  spares = (inr (omega (arith, has.start, kept_of_free t has.free)), spares_behind (range_of t) us (begins_above (end_of t) (range_end (range_of t)) us has.end (behind_begins t us row)));
  place = 0;
  within = t;
  there = refl;
  free = has.free;
  start = has.start;
  end = has.end;
}

idle_behind : (t : Tile) (us : List Tile) (r : PageRange) → end_of t + 48 ≤ r.addr → IsIdle us r → IsIdle (t ∷ us) r
idle_behind t us r above i = record {
  spares = (inr (omega (arith, above, kept_most t)), i.spares);
  place = suc i.place;
  within = i.within;
  there = i.there;
  free = i.free;
  start = i.start;
  end = i.end;
}

all_behind : (t : Tile) (us : List Tile) (rs : List PageRange) → AllByRecursion (λ r. end_of t + 48 ≤ r.addr) rs → AllByRecursion (IsIdle us) rs → AllByRecursion (IsIdle (t ∷ us)) rs
all_behind t us [] above idle = tt
all_behind t us (r ∷ rs) above idle = (idle_behind t us r above.0 idle.0, all_behind t us rs above.1 idle.1)

pub all_idle : (ts : List Tile) → Row ts → AllByRecursion (IsIdle ts) (free_pages ts)
all_idle [] row = subst (AllByRecursion (IsIdle [])) (sym free_pages-nil) tt
all_idle (t ∷ us) row =
    let later = all_behind t us (free_pages us) (range_above (end_of t) us (behind_begins t us row)) (all_idle us row.2) in
    pages_cases (AllByRecursion (IsIdle (t ∷ us))) t us (λ has. (idle_first t us row has, later)) later

-- ---- how far tiles reach

-- they end where the bytes of tiles do
all_end : (at : ℕ) (ts : List Tile) → Row ts → ((n : ℕ) → at ≤ n → sum_by (weight_byte n) ts ≡ 0) → AllByRecursion (λ t. end_of t ≤ at) ts
all_end at [] row none = tt
all_end at (t ∷ ts) row none = (
  elim (cases_lt at (end_of t)) [
    | inl lt ↦
        let n : ℕ = end_of t - 1 in
        let some : 0 < t.size = omega (arith, row.0.size.0) in
        absurd (omega (arith, none n (omega (arith, lt)), sum_by-cons (weight_byte n) t ts, covers_one n t.addr t.size (omega (arith, some)) (omega (arith, some))))
    | inr le ↦ le
  ],
  all_end at ts row.2 (λ n ge. omega (arith, none n ge, sum_by-cons (weight_byte n) t ts)),
)

main_bare : (a : Plain) (n : ℕ) → IsMainPlaced a → 2 ^ 63 ≤ n → times_covered n a ≡ 0
main_bare a n p ge =
    omega (
      arith,
      p.filled n,
      covers_none n main_start (break_bytes a) (inr (omega (arith, p.start, p.limit, ge))),
      covers_none n piece_start (piece_bytes a) (inr (omega (arith, p.pieces, p.piece_limit, ge))),
    )

-- what follows for main and for another arena, follows
placed_cases : (P : Type 0) (a : Plain) → IsPlaced a → (is_main a ≡ false → (closed : List ℕ) × IsHeapPlaced a closed) → (IsMainPlaced a → P) → ((closed : List ℕ) → IsHeapPlaced a closed → P) → P
placed_cases P a main heaps one other =
    let cases : (b : Bool) → is_main a ≡ b → P = elim [
      | true ↦ λ is. one (main is)
      | false ↦ λ is. other (heaps is).0 (heaps is).1
    ] in
    cases (is_main a) refl

pub tiles_low : (a : Plain) → Row a.tiles → IsPlaced a → (is_main a ≡ false → (closed : List ℕ) × IsHeapPlaced a closed) → All (λ t. end_of t ≤ 2 ^ 63) a.tiles
tiles_low a row main heaps =
    All-from_recursion (λ (t : Tile). end_of t ≤ 2 ^ 63) a.tiles
    (placed_cases (AllByRecursion (λ (t : Tile). end_of t ≤ 2 ^ 63) a.tiles) a main heaps
    (λ p. all_end (2 ^ 63) a.tiles row (λ n ge. main_bare a n p ge))
    (λ closed p. all_le _ (2 ^ 63) a.tiles (omega arith) (all_bounded a closed row p)))

pub pages_few : (a : Plain) → IsPlaced a → (is_main a ≡ false → (closed : List ℕ) × IsHeapPlaced a closed) → pages_in (free_pages a.tiles) ≤ a.system
pages_few a main heaps =
    placed_cases (pages_in (free_pages a.tiles) ≤ a.system) a main heaps
    (λ p. omega (arith, pages_within a.tiles, p.tiled))
    (λ closed p. omega (arith, pages_within a.tiles, p.tiled))
