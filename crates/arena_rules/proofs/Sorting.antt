-- Laws of sorting, for this crate and those above it: a free chunk goes to its own bin, unsorted is gone through oldest
-- first, and the first bin above that isn't empty has chunks that fit.
use Rattle.std.proofs.Common.{◌≡◌, ℕ, ◌+◌, ◌<◌, ◌≤◌, Bool, true, false, cond, List, [], ◌∷◌, ◌++◌, length, get_or, drop, reverse, Some, refl, sym, ap, ◌∙◌, inl, inr, arith, suc}
use Rattle.std.specs.Prelude.{slice_get, not}
use Rattle.std.proofs.lemmas.Bool.{ltb-true, ltb-false, lt-ltb, le-ltb, cond-true, cond-false, cases_lt}
use Rattle.std.proofs.lemmas.Bool.Decides.{nat_tests}
use Rattle.std.proofs.lemmas.List.{length-map, length-set, reverse-append, reverse-reverse, append-nil, get_or-set_other, get_or-drop}
use Rattle.std.proofs.lemmas.List.Elements.{filter-append}
use Rattle.std.proofs.lemmas.List.Sums.{sum_by-cons, sum_by-append}
use Rattle.chunk_tags.specs.declared.tiles.Chunk.{Chunk}
use Rattle.chunk_tags.specs.BinOrder.{same_chunk, times_in, without, inserted, oldest_of, once}
use Rattle.chunk_tags.specs.Sizes.{IsChunkSize, is_small_size, small_index_of, large_index_of, bin_of}
use Rattle.arena_rules.specs.PlainArena.{Plain, bin_at, unsorted_of, with_bin, with_front, unlinked, times_listed, BelongsIn, IsBin, IsSound}
use Rattle.arena_rules.specs.Moves.{claimed}
use Rattle.arena_rules.specs.Search.{sorted_in, first_oldest}
use Rattle.arena_rules.proofs.Bins.{times_unlinked, bins_unlinked, times_with_bin, bins_with, bin_with_front, times_inserted, bin_inserted, get_or-without, times_in_bin, oldest_listed, once_self, same_chunk_self}
use Rattle.arena_rules.proofs.Changes.{tile_is}
use Rattle.arena_rules.proofs.Carving.{IsBestIn}
use Rattle.arena_rules.proofs.Lookups.{belongs_of}
use Rattle.arena_rules.proofs.Moved.{Moved, none, nothing}
use Rattle.arena_rules.proofs.ChunkMoves.{listed_once, listed_tile}

-- ---- indexes

pub large_index_le : (s : ℕ) → large_index_of s ≤ 126
large_index_le s = grind (arith, nat_tests)

pub large_index_ge : (s : ℕ) → 1024 ≤ s → 64 ≤ large_index_of s
large_index_ge s le = grind (arith, nat_tests)

pub large_index_grows : (r s : ℕ) → r ≤ s → large_index_of r ≤ large_index_of s
large_index_grows r s le = grind (arith, nat_tests)

pub bin_grows : (r s : ℕ) → r ≤ s → bin_of r ≤ bin_of s
bin_grows r s le = grind (arith, nat_tests)

-- ---- a free chunk goes to its own bin

pub record IsSorted (a : Plain) (c : Chunk) (new : Plain) : Type 0 where
  pub moved : Moved a new none none nothing nothing
  pub unsorted : unsorted_of new ≡ without c (unsorted_of a)

sorted_with : (a : Plain) (c : Chunk) (i : ℕ) (cs : List Chunk) → IsSound a → 0 < times_listed c a → 1 < i → i < 127 → IsBin i cs → ((e : Chunk) → times_in e cs ≡ once e c + times_in e (bin_at (unlinked a c) i)) → IsSorted a c (with_bin (unlinked a c) i cs)
sorted_with a c i cs s some ge lt bin times =
    let b : Plain = unlinked a c in
    let width : length b.bins ≡ 127 = length-map a.bins (without c) ∙ s.listed.width in
    let below : i < length b.bins = omega (arith, width) in
    record {
      moved = record {
        sound = record {
          row = s.row;
          one_top = s.one_top;
          listed = record {
            once = λ e. omega (arith, s.listed.once e, times_with_bin e b i cs below, times e, times_unlinked e c a (listed_once a c s some));
            width = length-set b.bins i cs ∙ width;
            bins = bins_with b i cs below bin (bins_unlinked c a s.listed.bins);
          };
        };
        used = λ e. refl;
        spans = λ v adds. refl;
      };
      unsorted = get_or-set_other b.bins i 1 cs [] (λ e. omega arith) ∙ get_or-without c a.bins 1;
    }

small_belongs : (c : Chunk) → c.size < 1024 → BelongsIn (small_index_of c.size) c
small_belongs c lt not_unsorted = cond-true (is_small_size c.size) (small_index_of c.size) (large_index_of c.size) (lt-ltb c.size 1024 lt)

large_belongs : (c : Chunk) → 1024 ≤ c.size → BelongsIn (large_index_of c.size) c
large_belongs c le not_unsorted = cond-false (is_small_size c.size) (small_index_of c.size) (large_index_of c.size) (le-ltb c.size 1024 le)

pub sorted_moved : (a : Plain) (c : Chunk) → IsSound a → 0 < times_listed c a → IsSorted a c (sorted_in a c)
sorted_moved a c s some =
    let size : IsChunkSize c.size = (tile_is _ a.tiles s.row (listed_tile a c s some)).size in
    let b : Plain = unlinked a c in
    let small : ℕ = small_index_of c.size in
    let large : ℕ = large_index_of c.size in
    let bins = bins_unlinked c a s.listed.bins in
    let cases : (b' : Bool) → is_small_size c.size ≡ b' → IsSorted a c (cond b' (with_front b small c) (with_bin b large (inserted c (bin_at b large)))) = elim [
      | true ↦ λ is.
          let lt : c.size < 1024 = ltb-true c.size 1024 is in
          sorted_with a c small (c ∷ bin_at b small) s some (omega (arith, size.0)) (omega (arith, lt))
          (bin_with_front c small (bin_at b small) (omega (arith, lt)) (small_belongs c lt) (bins small)) (λ e. sum_by-cons (once e) c (bin_at b small))
      | false ↦ λ is.
          let le : 1024 ≤ c.size = ltb-false c.size 1024 is in
          sorted_with a c large (inserted c (bin_at b large)) s some (omega (arith, large_index_ge c.size le)) (omega (arith, large_index_le c.size))
          (bin_inserted c large (bin_at b large) (large_belongs c le) (bins large)) (λ e. times_inserted e c (bin_at b large))
    ] in
    cases (is_small_size c.size) refl

-- ---- unsorted, oldest first

without_none : (c : Chunk) (cs : List Chunk) → times_in c cs ≡ 0 → without c cs ≡ cs
without_none c [] none_in = refl
without_none c (d ∷ ds) none_in =
    let one = sum_by-cons (once c) d ds in
    let cases : (b : Bool) → same_chunk c d ≡ b → cond (not b) (d ∷ without c ds) (without c ds) ≡ d ∷ ds = elim [
      | true ↦ λ is. absurd (omega (arith, one, none_in, ap {B = ℕ} (λ (b : Bool). cond b 1 0) is))
      | false ↦ λ is. ap (λ xs. d ∷ xs) (without_none c ds (omega (arith, one, none_in)))
    ] in
    cases (same_chunk c d) refl

without_last : (c : Chunk) (cs : List Chunk) → times_in c cs ≡ 0 → without c (cs ++ c ∷ []) ≡ cs
without_last c cs none_in =
    let last : without c (c ∷ []) ≡ [] = ap (λ (b : Bool). cond (not b) (c ∷ []) []) (same_chunk_self c) in
    filter-append (λ d. not (same_chunk c d)) cs (c ∷ []) ∙ (ap (λ xs. without c cs ++ xs) last ∙ (append-nil (without c cs) ∙ without_none c cs none_in))

last_of_reverse : (c : Chunk) (cs us : List Chunk) → reverse us ≡ c ∷ cs → us ≡ reverse cs ++ c ∷ []
last_of_reverse c cs us e = sym (reverse-reverse us) ∙ (ap (λ (xs : List Chunk). reverse xs) e ∙ reverse-append (c ∷ []) cs)

-- the oldest chunk of unsorted, and those that come after it
pub record IsNext (a : Plain) (c : Chunk) (cs : List Chunk) : Type 0 where
  pub listed : 0 < times_listed c a
  pub unsorted : 0 < times_in c (unsorted_of a)
  pub rest : reverse (without c (unsorted_of a)) ≡ cs

pub next_unsorted : (a : Plain) (c : Chunk) (cs : List Chunk) → IsSound a → reverse (unsorted_of a) ≡ c ∷ cs → IsNext a c cs
next_unsorted a c cs s e =
    let us : List Chunk = unsorted_of a in
    let is : us ≡ reverse cs ++ c ∷ [] = last_of_reverse c cs us e in
    let times : times_in c us ≡ times_in c (reverse cs) + 1 = ap (times_in c) is ∙ (sum_by-append (once c) (reverse cs) (c ∷ []) ∙ ap (λ n. times_in c (reverse cs) + n) (omega (arith, sum_by-cons (once c) c [], once_self c))) in
    let some : 0 < times_listed c a = omega (arith, times, times_in_bin c a 1) in
    let none_in : times_in c (reverse cs) ≡ 0 = omega (arith, times, times_in_bin c a 1, listed_once a c s some) in
    record {
      listed = some;
      unsorted = omega (arith, times);
      rest = ap (λ xs. reverse (without c xs)) is ∙ (ap (λ (xs : List Chunk). reverse xs) (without_last c (reverse cs) none_in) ∙ reverse-reverse cs);
    }

-- a claimed chunk leaves unsorted too
pub unsorted_claimed : (a : Plain) (c : Chunk) → unsorted_of (claimed a c) ≡ without c (unsorted_of a)
unsorted_claimed a c = get_or-without c a.bins 1

first_kept : (c d : Chunk) (cs : List Chunk) → slice_get cs 0 ≡ Some c → slice_get (cs ++ d ∷ []) 0 ≡ Some c
first_kept c d [] e = absurd cc
first_kept c d (x ∷ xs) e = e

-- the oldest of a list is the first of the list turned round
pub oldest_first : (c : Chunk) (cs : List Chunk) → oldest_of cs ≡ Some c → slice_get (reverse cs) 0 ≡ Some c
oldest_first c [] e = absurd cc
oldest_first c (x ∷ []) e = e
oldest_first c (x ∷ y ∷ ys) e = ap (λ (xs : List Chunk). slice_get xs 0) (reverse-append (x ∷ []) (y ∷ ys)) ∙ first_kept c x (reverse (y ∷ ys)) (oldest_first c (y ∷ ys) e)

-- ---- the first bin above that isn't empty

record IsFirstIn (c : Chunk) (lists : List (List Chunk)) : Type 0 where
  index : ℕ
  oldest : oldest_of (get_or lists index []) ≡ Some c

first_in : (c : Chunk) (lists : List (List Chunk)) → first_oldest lists ≡ Some c → IsFirstIn c lists
first_in c [] e = absurd cc
first_in c ([] ∷ lists) e = let f = first_in c lists e in record { index = suc f.index; oldest = f.oldest }
first_in c ((d ∷ ds) ∷ lists) e = record { index = 0; oldest = e }

pub larger_fits : (a : Plain) (nb : ℕ) (c : Chunk) → IsSound a → IsChunkSize nb → first_oldest (drop (bin_of nb + 1) a.bins) ≡ Some c → IsBestIn a nb c
larger_fits a nb c s chunk e =
    let f : IsFirstIn c (drop (bin_of nb + 1) a.bins) = first_in c (drop (bin_of nb + 1) a.bins) e in
    let i : ℕ = bin_of nb + 1 + f.index in
    let oldest : oldest_of (bin_at a i) ≡ Some c = ap oldest_of (sym (get_or-drop (bin_of nb + 1) a.bins f.index [])) ∙ f.oldest in
    let some : 0 < times_in c (bin_at a i) = oldest_listed c (bin_at a i) oldest in
    let above : 1 ≤ bin_of nb = omega (arith, bin_grows 32 nb chunk.0) in
    let belongs : bin_of c.size ≡ i = belongs_of i c (bin_at a i) (s.listed.bins i).belong some (λ e. omega arith) in
    record {
      listed = omega (arith, some, times_in_bin c a i);
      fits = elim (cases_lt c.size nb) [
        | inl lt ↦ absurd (omega (arith, bin_grows c.size nb (omega (arith, lt)), belongs))
        | inr le ↦ le
      ];
    }
