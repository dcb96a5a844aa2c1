-- Laws on tiles in a row. Other crates may cite this file.
use Rattle.std.proofs.Common.{◌≡◌, None, Bool, ℕ, ◌+◌, ◌<◌, ◌≤◌, true, false, List, [], ◌∷◌, Option, Some, sym, ap, ◌∙◌, refl, subst, inl, inr, arith}
use Rattle.std.proofs.lemmas.Bool.{cases_eq, cases_order, eq-eqb, ne_eqb, lt-ltb, le-ltb}
use Rattle.chunk_tags.specs.declared.tiles.Tile.{Tile}
use Rattle.chunk_tags.specs.declared.tiles.TileKind.{TileKind}
use Rattle.chunk_tags.specs.declared.tiles.TileKind.TheVariants.{Used, Free, Top, Fence}
use Rattle.chunk_image.specs.Rows.{where_free, free_before_of, tile_ending}
use Rattle.chunk_tags.specs.Tiles.{is_edge, is_free, end_of, IsTile, Row, swapped, fused, entered, tile_at, tile_before, tile_behind}

-- Look-ups by address.

-- a tile is found where it is the first, and among the others elsewhere
pub tile_at_cases : (P : Option Tile → Type 0) (at : ℕ) (t : Tile) (ts : List Tile) → (t.addr ≡ at → P (Some t)) → ((t.addr ≡ at → ⊥) → P (tile_at at ts)) → P (tile_at at (t ∷ ts))
tile_at_cases P at t ts here there =
    elim (cases_eq t.addr at) [
      | inl e ↦ rw (eq-eqb t.addr at e) (here e)
      | inr other ↦ rw (ne_eqb t.addr at other) (there other)
    ]

-- where a tile is found, it begins there
pub tile_at-addr : (at : ℕ) (ts : List Tile) (t : Tile) → tile_at at ts ≡ Some t → t.addr ≡ at
tile_at-addr at [] t found = cc
tile_at-addr at (u ∷ ts) t found =
    tile_at_cases (λ o. o ≡ Some t → t.addr ≡ at) at u ts (λ e found. let same : u ≡ t = cc in ap (λ (x : Tile). x.addr) (sym same) ∙ e) (λ _. tile_at-addr at ts t) found

-- Tiles one behind another, from an address on.
abbrev pub IsSpread : ℕ → List Tile → Type 0
IsSpread from [] = Unit {0}
IsSpread from (t ∷ ts) = (from ≤ t.addr) × (0 < t.size) × IsSpread (end_of t) ts

pub IsSpread-from : (a b : ℕ) (ts : List Tile) → a ≤ b → IsSpread b ts → IsSpread a ts
IsSpread-from a b [] le s = tt
IsSpread-from a b (t ∷ ts) le s = (omega (arith, le, s.0), s.1, s.2)

-- a row is spread
pub spread : (ts : List Tile) → Row ts → IsSpread 0 ts
spread [] r = tt
spread (t ∷ []) r = (omega arith, omega (arith, r.0.size.0), tt)
spread (t ∷ u ∷ us) r =
    let rest = spread (u ∷ us) r.2 in
    (omega arith, omega (arith, r.0.size.0), (r.1.order, rest.1, rest.2))

-- what is found is behind
pub spread_below : (from at : ℕ) (ts : List Tile) (t : Tile) → IsSpread from ts → tile_at at ts ≡ Some t → from ≤ at
spread_below from at [] t s found = cc
spread_below from at (u ∷ ts) t s found =
    tile_at_cases (λ o. o ≡ Some t → from ≤ at) at u ts (λ e _. omega (arith, e, s.0)) (λ _ rest. omega (arith, s.0, s.1, spread_below (end_of u) at ts t s.2 rest)) found

-- two tiles that are found don't overlap
pub spread_apart : (from a b : ℕ) (ts : List Tile) (t u : Tile) → IsSpread from ts → tile_at a ts ≡ Some t → tile_at b ts ≡ Some u → a < b → a + t.size ≤ b
spread_apart from a b [] t u s ft fu lt = cc
spread_apart from a b (x ∷ ts) t u s ft fu lt =
    tile_at_cases (λ o. o ≡ Some t → a + t.size ≤ b) a x ts
    (λ ea here. tile_at_cases (λ o. o ≡ Some u → a + t.size ≤ b) b x ts
    (λ eb _. absurd (omega (arith, ea, eb, lt)))
    (λ _ there. let same : x ≡ t = cc in omega (arith, ea, ap (λ (y : Tile). y.size) same, spread_below (end_of x) b ts u s.2 there)) fu)
    (λ _ there. tile_at_cases (λ o. o ≡ Some u → a + t.size ≤ b) b x ts
    (λ eb _. absurd (omega (arith, eb, lt, s.1, spread_below (end_of x) a ts t s.2 there)))
    (λ _ fu'. spread_apart (end_of x) a b ts t u s.2 there fu' lt) fu) ft

-- of a row
pub apart : (a b : ℕ) (ts : List Tile) (t u : Tile) → Row ts → tile_at a ts ≡ Some t → tile_at b ts ≡ Some u → a < b → a + t.size ≤ b
apart a b ts t u r = spread_apart 0 a b ts t u (spread ts r)

-- so no two of them end at one address
pub same_end : (a b : ℕ) (ts : List Tile) (t u : Tile) → Row ts → tile_at a ts ≡ Some t → tile_at b ts ≡ Some u → 0 < t.size → 0 < u.size → a + t.size ≡ b + u.size → a ≡ b
same_end a b ts t u r ft fu pt pu e =
    elim (cases_order a b) [
      | inl same ↦ same
      | inr (inl lt) ↦ absurd (omega (arith, apart a b ts t u r ft fu lt, pu, e))
      | inr (inr gt) ↦ absurd (omega (arith, apart b a ts u t r fu ft gt, pt, e))
    ]

-- what is found in a row is a tile
pub row_tile : (at : ℕ) (ts : List Tile) (t : Tile) → Row ts → tile_at at ts ≡ Some t → IsTile t
row_tile at [] t r found = cc
row_tile at (x ∷ []) t r found =
    tile_at_cases (λ o. o ≡ Some t → IsTile t) at x [] (λ _ here. let same : x ≡ t = cc in subst IsTile same r.0) (λ _ none. cc) found
row_tile at (x ∷ y ∷ ys) t r found =
    tile_at_cases (λ o. o ≡ Some t → IsTile t) at x (y ∷ ys) (λ _ here. let same : x ≡ t = cc in subst IsTile same r.0) (λ _ rest. row_tile at (y ∷ ys) t r.2 rest) found

-- The tile that ends at an address.

pub record IsEnding (end : ℕ) (ts : List Tile) (t : Tile) : Type 0 where
  pub found : tile_at t.addr ts ≡ Some t
  pub ends : end_of t ≡ end

spread_ending : (from end : ℕ) (ts : List Tile) (t : Tile) → IsSpread from ts → tile_ending end ts ≡ Some t → IsEnding end ts t
spread_ending from end [] t s e = cc
spread_ending from end (x ∷ ts) t s e =
    elim (cases_eq (end_of x) end) [
      | inl is ↦
          let here : Some x ≡ Some t = rw (eq-eqb (end_of x) end is) at e in
          let same : x ≡ t = cc in
          subst (IsEnding end (x ∷ ts)) same (record { found = rw (eq-eqb x.addr x.addr refl) refl; ends = is })
      | inr other ↦
          let there : tile_ending end ts ≡ Some t = rw (ne_eqb (end_of x) end other) at e in
          let rest : IsEnding end ts t = spread_ending (end_of x) end ts t s.2 there in
          let below : end_of x ≤ t.addr = spread_below (end_of x) t.addr ts t s.2 rest.found in
          record { found = rw (ne_eqb x.addr t.addr (λ e. omega (arith, e, below, s.1))) rest.found; ends = rest.ends }
    ]

-- one that is found ends there, and is the tile at its own address
pub ending_is : (end : ℕ) (ts : List Tile) (t : Tile) → Row ts → tile_ending end ts ≡ Some t → IsEnding end ts t
ending_is end ts t r e = spread_ending 0 end ts t (spread ts r) e

spread_found : (from : ℕ) (ts : List Tile) (t : Tile) → IsSpread from ts → 0 < t.size → tile_at t.addr ts ≡ Some t → tile_ending (end_of t) ts ≡ Some t
spread_found from [] t s some found = cc
spread_found from (x ∷ ts) t s some found =
    tile_at_cases (λ o. o ≡ Some t → tile_ending (end_of t) (x ∷ ts) ≡ Some t) t.addr x ts
    (λ _ here. let same : x ≡ t = cc in rw (eq-eqb (end_of x) (end_of t) (ap (λ (y : Tile). end_of y) same)) here)
    (λ _ there. rw (ne_eqb (end_of x) (end_of t) (λ e. omega (arith, e, some, spread_below (end_of x) t.addr ts t s.2 there))) (spread_found (end_of x) ts t s.2 some there)) found

-- a tile of the row is found by its end
pub ending_found : (ts : List Tile) (t : Tile) → Row ts → tile_at t.addr ts ≡ Some t → tile_ending (end_of t) ts ≡ Some t
ending_found ts t r found = spread_found 0 ts t (spread ts r) (omega (arith, (row_tile t.addr ts t r found).size.0)) found

-- Neighbours.

-- the tile behind a tile, side by side with it
pub record IsBehind (at : ℕ) (ts : List Tile) (t u : Tile) : Type 0 where
  pub behind : tile_behind at ts ≡ Some u
  pub joins : u.addr ≡ end_of t
  pub found : tile_at (end_of t) ts ≡ Some u

pub behind_cases : (P : Option Tile → Type 0) (at : ℕ) (x y : Tile) (ys : List Tile) → (x.addr ≡ at → P (Some y)) → ((x.addr ≡ at → ⊥) → P (tile_behind at (y ∷ ys))) → P (tile_behind at (x ∷ y ∷ ys))
behind_cases P at x y ys here there =
    elim (cases_eq x.addr at) [
      | inl e ↦ rw (eq-eqb x.addr at e) (here e)
      | inr other ↦ rw (ne_eqb x.addr at other) (there other)
    ]

before_cases : (P : Option Tile → Type 0) (at : ℕ) (x y : Tile) (ys : List Tile) → (y.addr ≡ at → P (Some x)) → ((y.addr ≡ at → ⊥) → P (tile_before at (y ∷ ys))) → P (tile_before at (x ∷ y ∷ ys))
before_cases P at x y ys here there =
    elim (cases_eq y.addr at) [
      | inl e ↦ rw (eq-eqb y.addr at e) (here e)
      | inr other ↦ rw (ne_eqb y.addr at other) (there other)
    ]

found_here : (t : Tile) (ts : List Tile) → tile_at t.addr (t ∷ ts) ≡ Some t
found_here t ts = rw (eq-eqb t.addr t.addr refl) refl

pub found_there : (at : ℕ) (x t : Tile) (ts : List Tile) → (x.addr ≡ at → ⊥) → tile_at at ts ≡ Some t → tile_at at (x ∷ ts) ≡ Some t
found_there at x t ts other found = rw (ne_eqb x.addr at other) found

behind_first : (at : ℕ) (x y : Tile) (ys : List Tile) (t : Tile) → Row (x ∷ y ∷ ys) → x.addr ≡ at → x ≡ t → is_edge t ≡ false → IsBehind at (x ∷ y ∷ ys) t y
behind_first at x y ys t r e same no_edge =
    let joins : end_of x ≡ y.addr = r.1.joins (ap is_edge same ∙ no_edge) in
    let end : end_of x ≡ end_of t = ap (λ (z : Tile). end_of z) same in
    record {
      behind = rw (eq-eqb x.addr at e) refl;
      joins = sym joins ∙ end;
      found = subst (λ n. tile_at n (x ∷ y ∷ ys) ≡ Some y) (sym joins ∙ end) (found_there y.addr x y (y ∷ ys) (λ no_size. omega (arith, joins, r.0.size.0, no_size)) (found_here y ys));
    }

behind_later : (at : ℕ) (x y : Tile) (ys : List Tile) (t : Tile) → Row (x ∷ y ∷ ys) → (x.addr ≡ at → ⊥) → tile_at at (y ∷ ys) ≡ Some t → (u : Tile) × IsBehind at (y ∷ ys) t u → (u : Tile) × IsBehind at (x ∷ y ∷ ys) t u
behind_later at x y ys t r other found rest =
    let s = spread (x ∷ y ∷ ys) r in
    let from : end_of x ≤ at = spread_below (end_of x) at (y ∷ ys) t s.2 found in
    let begin : t.addr ≡ at = tile_at-addr at (y ∷ ys) t found in (
      rest.0,
      record {
        behind = rw (ne_eqb x.addr at other) rest.1.behind;
        joins = rest.1.joins;
        found = found_there (end_of t) x rest.0 (y ∷ ys) (λ e. omega (arith, from, begin, s.1, e)) rest.1.found;
      },
    )

-- behind a tile that ends no region there is a tile
pub row_behind : (at : ℕ) (ts : List Tile) (t : Tile) → Row ts → tile_at at ts ≡ Some t → is_edge t ≡ false → (u : Tile) × IsBehind at ts t u
row_behind at [] t r found no_edge = cc
row_behind at (x ∷ []) t r found no_edge =
    tile_at_cases (λ o. o ≡ Some t → (u : Tile) × IsBehind at (x ∷ []) t u) at x []
    (λ _ here. let same : x ≡ t = cc in let ends : true ≡ false = sym r.1 ∙ (ap is_edge same ∙ no_edge) in cc) (λ _ none. cc) found
row_behind at (x ∷ y ∷ ys) t r found no_edge =
    tile_at_cases (λ o. o ≡ Some t → (u : Tile) × IsBehind at (x ∷ y ∷ ys) t u) at x (y ∷ ys)
    (λ e here. let same : x ≡ t = cc in (y, behind_first at x y ys t r e same no_edge))
    (λ other rest. behind_later at x y ys t r other rest (row_behind at (y ∷ ys) t r.2 rest no_edge)) found

-- the tile before an address, where it ends no region, ends there
pub row_before : (at : ℕ) (ts : List Tile) (t : Tile) → Row ts → tile_before at ts ≡ Some t → is_edge t ≡ false → (tile_at t.addr ts ≡ Some t) × (end_of t ≡ at)
row_before at [] t r before no_edge = cc
row_before at (x ∷ []) t r before no_edge = cc
row_before at (x ∷ y ∷ ys) t r before no_edge =
    before_cases (λ o. o ≡ Some t → (tile_at t.addr (x ∷ y ∷ ys) ≡ Some t) × (end_of t ≡ at)) at x y ys
    (λ e here. let same : x ≡ t = cc in
    let joins : end_of x ≡ y.addr = r.1.joins (ap is_edge same ∙ no_edge) in
    (subst (λ z. tile_at z.addr (x ∷ y ∷ ys) ≡ Some z) same (found_here x (y ∷ ys)), sym (ap (λ (z : Tile). end_of z) same) ∙ (joins ∙ e)))
    (λ _ rest. let found = row_before at (y ∷ ys) t r.2 rest no_edge in
    let s = spread (x ∷ y ∷ ys) r in
    (found_there t.addr x t (y ∷ ys) (λ e. omega (arith, s.1, e, spread_below (end_of x) t.addr (y ∷ ys) t s.2 found.0)) found.0, found.1)) before

-- a tile that ends where another begins is the one before it
spread_before : (from a b : ℕ) (ts : List Tile) (t u : Tile) → IsSpread from ts → tile_at a ts ≡ Some t → tile_at b ts ≡ Some u → a + t.size ≡ b → 0 < t.size → tile_before b ts ≡ Some t
spread_before from a b [] t u s ft fu e some = cc
spread_before from a b (x ∷ []) t u s ft fu e some =
    tile_at_cases (λ o. o ≡ Some t → tile_before b (x ∷ []) ≡ Some t) a x []
    (λ ea _. tile_at_cases (λ o. o ≡ Some u → tile_before b (x ∷ []) ≡ Some t) b x [] (λ eb _. absurd (omega (arith, ea, eb, e, some))) (λ _ none. cc) fu)
    (λ _ none. cc) ft
spread_before from a b (x ∷ y ∷ ys) t u s ft fu e some =
    tile_at_cases (λ o. o ≡ Some t → tile_before b (x ∷ y ∷ ys) ≡ Some t) a x (y ∷ ys)
    (λ ea here. let same : x ≡ t = cc in
    tile_at_cases (λ o. o ≡ Some u → tile_before b (x ∷ y ∷ ys) ≡ Some t) b x (y ∷ ys) (λ eb _. absurd (omega (arith, ea, eb, e, some)))
    (λ _ rest. tile_at_cases (λ o. o ≡ Some u → tile_before b (x ∷ y ∷ ys) ≡ Some t) b y ys
    (λ eb _. before_cases (λ o. o ≡ Some t) b x y ys (λ _. here) (λ other. absurd (other eb)))
    (λ _ past. absurd (omega (arith, ea, e, ap (λ (z : Tile). z.size) same, s.2.0, s.2.1, spread_below (end_of y) b ys u s.2.2 past))) rest) fu)
    (λ _ later. let from_a : end_of x ≤ a = spread_below (end_of x) a (y ∷ ys) t s.2 later in
    let begin : y.addr ≤ a = spread_below y.addr a (y ∷ ys) t (omega arith, s.2.1, s.2.2) later in
    tile_at_cases (λ o. o ≡ Some u → tile_before b (x ∷ y ∷ ys) ≡ Some t) b x (y ∷ ys) (λ eb _. absurd (omega (arith, eb, from_a, e, s.1)))
    (λ _ rest. before_cases (λ o. o ≡ Some t) b x y ys (λ eb. absurd (omega (arith, eb, begin, e, some)))
    (λ _. spread_before (end_of x) a b (y ∷ ys) t u s.2 later rest e some)) fu) ft

pub before_found : (a b : ℕ) (ts : List Tile) (t u : Tile) → Row ts → tile_at a ts ≡ Some t → tile_at b ts ≡ Some u → a + t.size ≡ b → 0 < t.size → tile_before b ts ≡ Some t
before_found a b ts t u r = spread_before 0 a b ts t u (spread ts r)

-- a free tile ends no region
pub free_edge : (t : Tile) → is_free t ≡ true → is_edge t ≡ false
free_edge t = go t.kind refl
  where
    go : (k : TileKind) → t.kind ≡ k → is_free t ≡ true → is_edge t ≡ false
    go Used e free = rw e refl
    go Free e free = rw e refl
    go Top e free = let clash : false ≡ true = rw e at free in cc
    go Fence e free = let clash : false ≡ true = rw e at free in cc

same_tile : (t u : Tile) → Some t ≡ Some u → t ≡ u
same_tile t u e = cc

-- what is behind a chunk begins at its end, and is found there
pub behind_found : (at : ℕ) (ts : List Tile) (t u : Tile) → Row ts → tile_at at ts ≡ Some t → is_edge t ≡ false → tile_behind at ts ≡ Some u → IsBehind at ts t u
behind_found at ts t u row found no_edge behind =
    let next = row_behind at ts t row found no_edge in
    subst (IsBehind at ts t) (same_tile next.0 u (sym next.1.behind ∙ behind)) next.1

-- and behind the tile before a tile is that tile
pub before_behind : (at : ℕ) (ts : List Tile) (t u : Tile) → Row ts → tile_before at ts ≡ Some t → is_edge t ≡ false → tile_at at ts ≡ Some u → IsBehind t.addr ts t u
before_behind at ts t u row before no_edge found =
    let b = row_before at ts t row before no_edge in
    let next = row_behind t.addr ts t row b.0 no_edge in
    let here : tile_at (end_of t) ts ≡ Some u = subst (λ n. tile_at n ts ≡ Some u) (sym b.1) found in
    subst (IsBehind t.addr ts t) (same_tile next.0 u (sym next.1.found ∙ here)) next.1

-- the free tile before an address
pub free_before_is : (at : ℕ) (ts : List Tile) (t : Tile) → free_before_of at ts ≡ Some t → (tile_before at ts ≡ Some t) × (is_free t ≡ true)
free_before_is at ts t = go (tile_before at ts) refl
  where
    kind : (u : Tile) (b : Bool) → is_free u ≡ b → where_free (Some u) ≡ Some t → (Some u ≡ Some t) × (is_free t ≡ true)
    kind u true e free =
        let same : Some u ≡ Some t = rw e at free in
        (same, ap is_free (sym (same_tile u t same)) ∙ e)
    kind u false e free = let clash : None ≡ Some t = rw e at free in cc

    go : (o : Option Tile) → tile_before at ts ≡ o → where_free o ≡ Some t → (o ≡ Some t) × (is_free t ≡ true)
    go None e free = cc
    go (Some u) e free = kind u (is_free u) refl free

-- Changes by several steps.

entered_next : (from : ℕ) (y : Tile) (ts : List Tile) → IsSpread from ts → y.addr < from → entered y ts ≡ y ∷ ts
entered_next from y [] s below = refl
entered_next from y (t ∷ ts) s below = rw (lt-ltb y.addr t.addr (omega (arith, below, s.0))) refl

-- a tile becomes shorter, and one enters behind it
pub swapped-entered : (from at : ℕ) (ts : List Tile) (t x y : Tile) → IsSpread from ts → tile_at at ts ≡ Some t → x.addr ≡ at → at < y.addr → y.addr < end_of t → entered y (swapped at (x ∷ []) ts) ≡ swapped at (x ∷ y ∷ []) ts
swapped-entered from at [] t x y s found ex lo hi = cc
swapped-entered from at (z ∷ ts) t x y s found ex lo hi =
    tile_at_cases (λ o. o ≡ Some t → entered y (swapped at (x ∷ []) (z ∷ ts)) ≡ swapped at (x ∷ y ∷ []) (z ∷ ts)) at z ts
    (λ ez here. let same : z ≡ t = cc in
    rw (eq-eqb z.addr at ez, le-ltb y.addr x.addr (omega (arith, ex, lo))) (ap (λ us. x ∷ us) (entered_next (end_of z) y ts s.2 (omega (arith, hi, ap (λ (w : Tile). end_of w) same)))))
    (λ other rest. rw (ne_eqb z.addr at other, le-ltb y.addr z.addr (omega (arith, lo, s.1, spread_below (end_of z) at ts t s.2 rest)))
    (ap (λ us. z ∷ us) (swapped-entered (end_of z) at ts t x y s.2 rest ex lo hi))) found

pub spread_behind : (from at : ℕ) (ts : List Tile) (u : Tile) → IsSpread from ts → tile_behind at ts ≡ Some u → from < u.addr
spread_behind from at [] u s b = cc
spread_behind from at (x ∷ []) u s b = cc
spread_behind from at (x ∷ y ∷ ys) u s b =
    behind_cases (λ o. o ≡ Some u → from < u.addr) at x y ys (λ _ here. let same : y ≡ u = cc in omega (arith, s.0, s.1, s.2.0, ap (λ (w : Tile). w.addr) same))
    (λ _ rest. omega (arith, s.0, s.1, spread_behind (end_of x) at (y ∷ ys) u s.2 rest)) b

-- a tile leaves, and the one before it becomes longer
pub swapped-fused : (from at : ℕ) (ts : List Tile) (u x : Tile) → IsSpread from ts → tile_behind at ts ≡ Some u → swapped at (x ∷ []) (swapped u.addr [] ts) ≡ fused at x ts
swapped-fused from at [] u x s b = cc
swapped-fused from at (z ∷ []) u x s b = cc
swapped-fused from at (z ∷ w ∷ ws) u x s b =
    behind_cases (λ o. o ≡ Some u → swapped at (x ∷ []) (swapped u.addr [] (z ∷ w ∷ ws)) ≡ fused at x (z ∷ w ∷ ws)) at z w ws
    (λ ez here. let same : w.addr ≡ u.addr = let e : w ≡ u = cc in ap (λ (v : Tile). v.addr) e in
    rw (ne_eqb z.addr u.addr (λ e. omega (arith, e, same, s.1, s.2.0)), eq-eqb w.addr u.addr same, eq-eqb z.addr at ez) refl)
    (λ other rest. rw (ne_eqb z.addr u.addr (λ e. omega (arith, e, s.1, spread_behind (end_of z) at (w ∷ ws) u s.2 rest)), ne_eqb z.addr at other)
    (ap (λ us. z ∷ us) (swapped-fused (end_of z) at (w ∷ ws) u x s.2 rest))) b

-- two tiles become a shorter one, and another enters behind it
pub fused-entered : (from at : ℕ) (ts : List Tile) (t u x y m : Tile) → IsSpread from ts → tile_at at ts ≡ Some t → tile_behind at ts ≡ Some u → x.addr ≡ at → m.addr ≡ at → at < y.addr → y.addr < end_of u → entered y (fused at x ts) ≡ swapped at (x ∷ y ∷ []) (fused at m ts)
fused-entered from at [] t u x y m s found b ex em lo hi = cc
fused-entered from at (z ∷ []) t u x y m s found b ex em lo hi = cc
fused-entered from at (z ∷ w ∷ ws) t u x y m s found b ex em lo hi =
    behind_cases (λ o. o ≡ Some u → entered y (fused at x (z ∷ w ∷ ws)) ≡ swapped at (x ∷ y ∷ []) (fused at m (z ∷ w ∷ ws))) at z w ws
    (λ ez here. let same : w ≡ u = cc in
    rw (eq-eqb z.addr at ez, le-ltb y.addr x.addr (omega (arith, ex, lo)), eq-eqb m.addr at em) (ap (λ us. x ∷ us) (entered_next (end_of w) y ws s.2.2 (omega (arith, hi, ap (λ (v : Tile). end_of v) same)))))
    (λ other rest. let later : tile_at at (w ∷ ws) ≡ Some t = rw (ne_eqb z.addr at other) at found in
    rw (ne_eqb z.addr at other, le-ltb y.addr z.addr (omega (arith, lo, s.1, spread_below (end_of z) at (w ∷ ws) t s.2 later)))
    (rw (ne_eqb z.addr at other) (ap (λ us. z ∷ us) (fused-entered (end_of z) at (w ∷ ws) t u x y m s.2 later rest ex em lo hi)))) b
