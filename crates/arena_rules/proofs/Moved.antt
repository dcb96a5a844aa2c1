-- What a move of an arena keeps and changes, for this crate and those above it: it is sound again, its used chunks are
-- those of before less what left, with what came, and so are the bytes of its tiles, by any measure of ranges.
use Rattle.std.proofs.Common.{◌≡◌, ℕ, ◌+◌, ◌<◌, ◌≤◌, Bool, true, false, cond, List, [], ◌∷◌, length, Some, refl, sym, ap, ◌∙◌, subst, arith}
use Rattle.std.specs.Prelude.{nat_lt, count_by, sum_by}
use Rattle.std.proofs.lemmas.Bool.{cond-true, lt-ltb}
use Rattle.chunk_tags.specs.declared.tiles.Chunk.{Chunk}
use Rattle.chunk_tags.specs.BinOrder.{same_chunk, once}
use Rattle.chunk_tags.specs.Tiles.{is_used, is_free, is_top, Row, tile_at}
use Rattle.chunk_tags.specs.declared.tiles.Tile.{Tile}
use Rattle.arena_rules.specs.PlainArena.{Plain, empty_bins, empty_main, bin_at, times_listed, IsBin, IsSound, times_used, tiled_bytes}
use Rattle.list_laws.proofs.Replaced.{get_or-empty}
use Rattle.arena_rules.proofs.Bins.{same_chunk_is}
use Rattle.arena_rules.proofs.Counts.{weight}
use Rattle.arena_rules.proofs.Changes.{IsChanged}

-- what a range of bytes counts for, by its address and size; and that a range counts for what its two parts do
abbrev pub Measure : Type 0
Measure = ℕ → ℕ → ℕ

pub record Adds (v : Measure) : Type 0 where
  pub adds : (at m n : ℕ) → v at (m + n) ≡ v at m + v (at + m) n

pub parts_of : (v : Measure) (at m n size : ℕ) → Adds v → m + n ≡ size → v at size ≡ v at m + v (at + m) n
parts_of v at m n size adds e = ap (v at) (sym e) ∙ adds.adds at m n

-- what the tiles of an arena count for
abbrev pub span : Measure → Plain → ℕ
span v a = sum_by (λ t. v t.addr t.size) a.tiles

pub record Moved (a new : Plain) (left came : Chunk → ℕ) (less more : Measure → ℕ) : Type 0 where
  pub sound : IsSound new
  pub used : (e : Chunk) → times_used e new + left e ≡ times_used e a + came e
  pub spans : (v : Measure) → Adds v → span v new + less v ≡ span v a + more v

-- no chunk, and no bytes
abbrev pub none : Chunk → ℕ
none e = 0

abbrev pub nothing : Measure → ℕ
nothing v = 0

-- ---- one move after another

pub moved_then : (a b c : Plain) (left came left' came' : Chunk → ℕ) (less more less' more' : Measure → ℕ) → Moved a b left came less more → Moved b c left' came' less' more' → Moved a c (λ e. left e + left' e) (λ e. came e + came' e) (λ v. less v + less' v) (λ v. more v + more' v)
moved_then a b c left came left' came' less more less' more' m n = record {
  sound = n.sound;
  used = λ e. omega (arith, m.used e, n.used e);
  spans = λ v adds. omega (arith, m.spans v adds, n.spans v adds);
}

-- the same move, said otherwise
pub moved_as : (a b : Plain) (left came left' came' : Chunk → ℕ) (less more less' more' : Measure → ℕ) → Moved a b left came less more → ((e : Chunk) → left e + came' e ≡ left' e + came e) → ((v : Measure) → Adds v → less v + more' v ≡ less' v + more v) → Moved a b left' came' less' more'
moved_as a b left came left' came' less more less' more' m same same' = record {
  sound = m.sound;
  used = λ e. omega (arith, m.used e, same e);
  spans = λ v adds. omega (arith, m.spans v adds, same' v adds);
}

-- the bytes of all tiles are a measure
pub adds_bytes : Adds (λ at size. size)
adds_bytes = record { adds = λ at m n. refl }

pub bytes_moved : (a new : Plain) (left came : Chunk → ℕ) (less more : Measure → ℕ) → Moved a new left came less more → tiled_bytes new + less (λ at size. size) ≡ tiled_bytes a + more (λ at size. size)
bytes_moved a new left came less more m = m.spans (λ at size. size) adds_bytes

-- ---- an arena without tiles, and an arena with other numbers

pub sound_empty : IsSound empty_main
unfolding empty_bins
sound_empty = record {
  row = tt;
  one_top = refl;
  listed = record {
    once = λ c. refl;
    width = refl;
    bins = λ i. subst (IsBin i) (sym (get_or-empty 127 i)) (record { belong = tt; falls = λ large. tt });
  };
}

pub sound_as : (a b : Plain) → a.tiles ≡ b.tiles → a.bins ≡ b.bins → IsSound a → IsSound b
sound_as a b tiles bins s = record {
  row = subst Row tiles s.row;
  one_top = subst (λ ts. count_by is_top ts ≡ cond (nat_lt 0 (length ts)) 1 0) tiles s.one_top;
  listed = record {
    once = λ e. sym (ap (sum_by (λ cs. sum_by (once e) cs)) bins) ∙ (s.listed.once e ∙ ap (sum_by (weight is_free e)) tiles);
    width = sym (ap length bins) ∙ s.listed.width;
    bins = λ i. subst (λ (ls : List (List Chunk)). IsBin i (bin_at (record a { bins = ls }) i)) bins (s.listed.bins i);
  };
}

pub moved_from : (a b c : Plain) (left came : Chunk → ℕ) (less more : Measure → ℕ) → a.tiles ≡ b.tiles → Moved b c left came less more → Moved a c left came less more
moved_from a b c left came less more tiles m = record {
  sound = m.sound;
  used = λ e. omega (arith, m.used e, ap (sum_by (weight is_used e)) tiles);
  spans = λ v adds. omega (arith, m.spans v adds, ap (sum_by (λ t. v t.addr t.size)) tiles);
}

pub moved_to : (a b c : Plain) (left came : Chunk → ℕ) (less more : Measure → ℕ) → b.tiles ≡ c.tiles → b.bins ≡ c.bins → Moved a b left came less more → Moved a c left came less more
moved_to a b c left came less more tiles bins m = record {
  sound = sound_as b c tiles bins m.sound;
  used = λ e. omega (arith, m.used e, ap (sum_by (weight is_used e)) tiles);
  spans = λ v adds. omega (arith, m.spans v adds, ap (sum_by (λ t. v t.addr t.size)) tiles);
}

-- ---- from what changed in the row and in the bins

pub record IsRelisted (a new : Plain) (gone came : List Tile) : Type 0 where
  pub times : (e : Chunk) → times_listed e new + sum_by (weight is_free e) gone ≡ times_listed e a + sum_by (weight is_free e) came
  pub width : length new.bins ≡ 127
  pub bins : (i : ℕ) → IsBin i (bin_at new i)

-- the lists stay, and so do the free tiles
pub listed_still : (a new : Plain) (gone came : List Tile) → IsSound a → new.bins ≡ a.bins → ((e : Chunk) → sum_by (weight is_free e) gone ≡ sum_by (weight is_free e) came) → IsRelisted a new gone came
listed_still a new gone came s same free = record {
  times = λ e. omega (arith, free e, ap (sum_by (λ cs. sum_by (once e) cs)) same);
  width = ap length same ∙ s.listed.width;
  bins = λ i. subst (λ (bins : List (List Chunk)). IsBin i (bin_at (record a { bins = bins }) i)) (sym same) (s.listed.bins i);
}

abbrev pub weight_top : Tile → ℕ
weight_top t = cond (is_top t) 1 0

pub some_counts : (t : Tile) (ts : List Tile) → cond {A = ℕ} (nat_lt 0 (length (t ∷ ts))) 1 0 ≡ 1
some_counts t ts = cond-true (nat_lt 0 (length (t ∷ ts))) 1 0 (lt-ltb 0 (length (t ∷ ts)) (omega arith))

-- an arena with one top has a tile
top_from : (ts : List Tile) → count_by is_top ts ≡ 1 → count_by is_top ts ≡ cond (nat_lt 0 (length ts)) 1 0
top_from [] e = absurd (omega arith)
top_from (t ∷ ts) e = e ∙ sym (some_counts t ts)

-- an arena with a tile has one top
pub top_to : (a : Plain) (at : ℕ) (t : Tile) → IsSound a → tile_at at a.tiles ≡ Some t → sum_by weight_top a.tiles ≡ 1
top_to a at t s e =
    let cases : (ts : List Tile) → tile_at at ts ≡ Some t → count_by is_top ts ≡ cond (nat_lt 0 (length ts)) 1 0 → sum_by weight_top ts ≡ 1 = elim [
      | [] ↦ λ e h. absurd cc
      | (t ∷ ts) ↦ λ e h. h ∙ some_counts t ts
    ] in
    cases a.tiles e s.one_top

pub sound_with : (a new : Plain) (gone came : List Tile) → IsSound a → IsChanged a.tiles new.tiles gone came → IsRelisted a new gone came → sum_by weight_top a.tiles + sum_by weight_top came ≡ sum_by weight_top gone + 1 → IsSound new
sound_with a new gone came s c l tops = record {
  row = c.row;
  one_top = top_from new.tiles (omega (arith, c.sums weight_top, tops));
  listed = record {
    once = λ e. omega (arith, l.times e, c.sums (weight is_free e), s.listed.once e);
    width = l.width;
    bins = l.bins;
  };
}

-- what the tiles of a change say of used chunks and of bytes
pub record Tells (gone news : List Tile) (left came : Chunk → ℕ) (less more : Measure → ℕ) : Type 0 where
  pub leaves : (e : Chunk) → sum_by (weight is_used e) gone ≡ left e
  pub comes : (e : Chunk) → sum_by (weight is_used e) news ≡ came e
  pub spans : (v : Measure) → Adds v → sum_by (λ t. v t.addr t.size) gone + more v ≡ sum_by (λ t. v t.addr t.size) news + less v

pub moved_with : (a new : Plain) (gone news : List Tile) (left came : Chunk → ℕ) (less more : Measure → ℕ) → IsSound a → IsChanged a.tiles new.tiles gone news → IsRelisted a new gone news → sum_by weight_top a.tiles + sum_by weight_top news ≡ sum_by weight_top gone + 1 → Tells gone news left came less more → Moved a new left came less more
moved_with a new gone news left came less more s c l tops tells = record {
  sound = sound_with a new gone news s c l tops;
  used = λ e. omega (arith, c.sums (weight is_used e), tells.leaves e, tells.comes e);
  spans = λ v adds. omega (arith, c.sums (λ t. v t.addr t.size), tells.spans v adds);
}

-- ---- used chunks after a move

-- a used chunk is counted
pub once_le : (e c : Chunk) (n : Chunk → ℕ) → 0 < n c → once e c ≤ n e
once_le e c n some =
    let cases : (b : Bool) → same_chunk e c ≡ b → cond b 1 0 ≤ n e = elim [
      | true ↦ λ is. subst (λ d. 1 ≤ n d) (sym (same_chunk_is e c is)) (omega arith)
      | false ↦ λ is. omega arith
    ] in
    cases (same_chunk e c) refl

-- what came is used, where what left was
pub came_used : (a new : Plain) (c : Chunk) (came : Chunk → ℕ) (less more : Measure → ℕ) (d : Chunk) → Moved a new (λ e. once e c) came less more → 0 < times_used c a → 0 < came d → 0 < times_used d new
came_used a new c came less more d m own came_d = omega (arith, m.used d, once_le d c (λ e. times_used e a) own)
