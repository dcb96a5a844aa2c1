-- A search maps once at most, and no other rules map (public for the crates above).
use Rattle.std.proofs.Common.{ℕ, ◌+◌, suc, zero, Bool, true, false, List, [], ◌∷◌, length, reverse, Option, Some, None, refl, sym, ap, subst}
use Rattle.std.specs.Prelude.{if◌then◌else◌, nat_lt, nat_le, nat_eq}
use Rattle.chunk_tags.specs.Pages.{mapping_length}
use Rattle.chunk_tags.specs.BinOrder.{oldest_of, fast_chunk}
use Rattle.chunk_tags.specs.Sizes.{is_small_size, small_index_of, fast_index_of}
use Rattle.chunk_tags.specs.declared.tiles.Chunk.{Chunk}
use Rattle.chunk_tags.specs.declared.tunables.Tunables.{Tunables}
use Rattle.arena_rules.specs.declared.said.Said.{Said}
use Rattle.arena_rules.specs.PlainArena.{Plain, unsorted_of, is_main, is_own, bin_at}
use Rattle.arena_rules.specs.Moves.{claimed, left_of_top, top_start, cut_from_top}
use Rattle.arena_rules.specs.Rules.{Rules, Stop, Misfit, Does, Needs, Maps, Counts, behind, flag_of, place_told, chunk_told, number_told}
use Rattle.arena_rules.specs.Trim.{trimmed, dropped_heaps, heap_cut, spare_bytes, main_spare, is_enough_end}
use Rattle.arena_rules.specs.Heaps.{end_before_heap, heap_added, without_heap}
use Rattle.arena_rules.specs.Release.{Merging, merged, merging_bin, merging_bins, consolidated, consolidated_if, trimmed_by_threshold, settled, given, released, settling_size}
use Rattle.arena_rules.specs.Growth.{InArena, InMapping, Nowhere, Took, closing, break_rest, break_taken, main_growth, main_grown, piece_grown, first_length, next_heap_grown, heaps_grown, opened, from_top, noted, has_top_for, cut_from_grown, grown_again, other_grown, maps_first, maps_else, grown, system_asked}
use Rattle.arena_rules.specs.Search.{Step, Taken, Onward, next_step, most_stashed, stashing_fast, fast_taken, stashing_small, small_taken, consolidated_first, splits_remainder, most_sorted, sorted_in, scan_end, scanned, scanned_all, best_taken, larger_taken, looked, rounds, searched}
use Rattle.arena_rules.specs.Mapped.{NeverMaps, MapsOnce}

-- ---- parts in a row, and branches

pub never_behind : {A B : Type 0} (r : Rules A) (f : A → Rules B) → NeverMaps r → ((x : A) → NeverMaps (f x)) → NeverMaps (behind r f)
never_behind (Stop x) f h k = k x
never_behind Misfit f h k = tt
never_behind (Does (Counts len) r) f h k = absurd h
never_behind (Does d r) f h k = never_behind r f h k
never_behind (Needs a (Maps len) g) f h k = absurd h
never_behind (Needs a n g) f h k = λ s. never_behind (g s) f (h s) k

pub maps_once_behind : {A : Type 0} (nb : ℕ) (r : Rules A) (f : A → Rules Took) → NeverMaps r → ((x : A) → MapsOnce nb (f x)) → MapsOnce nb (behind r f)
maps_once_behind nb (Stop x) f h k = k x
maps_once_behind nb Misfit f h k = tt
maps_once_behind nb (Does (Counts len) r) f h k = absurd h
maps_once_behind nb (Does d r) f h k = maps_once_behind nb r f h k
maps_once_behind nb (Needs a (Maps len) g) f h k = absurd h
maps_once_behind nb (Needs a n g) f h k = λ s. maps_once_behind nb (g s) f (h s) k

pub never_if : {A : Type 0} (b : Bool) (x y : Rules A) → NeverMaps x → NeverMaps y → NeverMaps (if b then x else y)
never_if true x y h k = h
never_if false x y h k = k

never_option : {A B : Type 0} (o : Option B) (x : Rules A) (f : B → Rules A) → NeverMaps x → ((y : B) → NeverMaps (f y)) → NeverMaps (elim o [ None ↦ x | Some y ↦ f y ])
never_option None x f h k = h
never_option (Some y) x f h k = k y

once_if : (nb : ℕ) (b : Bool) (x y : Rules Took) → MapsOnce nb x → MapsOnce nb y → MapsOnce nb (if b then x else y)
once_if nb true x y h k = h
once_if nb false x y h k = k

-- ---- trimming and release

heap_cut_never : (t : Tunables) (threshold : ℕ) (a : Plain) → NeverMaps (heap_cut t threshold a)
heap_cut_never t threshold a = never_if (nat_lt 0 (spare_bytes t a threshold)) _ _ tt tt

dropped_never : (n : ℕ) (t : Tunables) (a : Plain) (go : Plain → Rules Plain) → ((b : Plain) → NeverMaps (go b)) → NeverMaps (dropped_heaps n t a go)
dropped_never zero t a go h = h a
dropped_never (suc n) t a go h =
    never_option (end_before_heap a) _ _ (h a) (λ e. never_if (is_enough_end t e) _ _ (dropped_never n t (without_heap a e) go h) (h a))

trimmed_never : (t : Tunables) (a : Plain) (threshold : ℕ) → NeverMaps (trimmed t a threshold)
trimmed_never t a threshold =
    never_if (is_main a) _ _ (never_if (nat_lt 0 (main_spare t a threshold)) _ _ tt tt) (dropped_never (length a.tiles) t a (heap_cut t threshold) (heap_cut_never t threshold))

merging_bin_never : (n bin : ℕ) (a : Plain) → NeverMaps (merging_bin n bin a)
merging_bin_never zero bin a = tt
merging_bin_never (suc n) bin a = λ s.
    never_option (chunk_told s) _ _ tt (λ at. never_if (is_own a (fast_chunk bin at)) _ _ (merging_bin_never n bin (merged a (fast_chunk bin at)).arena) tt)

merging_bins_never : (n bin : ℕ) (a : Plain) → NeverMaps (merging_bins n bin a)
merging_bins_never zero bin a = tt
merging_bins_never (suc n) bin a =
    never_behind (merging_bin (suc (length a.tiles)) bin a) (λ b. merging_bins n (bin + 1) b) (merging_bin_never (suc (length a.tiles)) bin a) (merging_bins_never n (bin + 1))

pub consolidated_never_maps : (a : Plain) → NeverMaps (consolidated a)
unfolding consolidated
consolidated_never_maps a = merging_bins_never 10 0 a

consolidated_if_never : (flag : Bool) (a : Plain) → NeverMaps (consolidated_if flag a)
consolidated_if_never true a = consolidated_never_maps a
consolidated_if_never false a = tt

settled_never : (t : Tunables) (m : Merging) → NeverMaps (settled t m)
settled_never t m = never_if (nat_lt m.size settling_size) _ _ tt (λ s.
    never_behind (consolidated_if (flag_of s) m.arena) (trimmed_by_threshold t) (consolidated_if_never (flag_of s) m.arena) (λ a u. trimmed_never t a (number_told u)))

pub given_never_maps : (t : Tunables) (a : Plain) (c : Chunk) → NeverMaps (given t a c)
given_never_maps t a c = settled_never t (merged a c)

pub released_never_maps : (t : Tunables) (a : Plain) (c : Chunk) → NeverMaps (released t a c)
released_never_maps t a c = λ s. never_if (flag_of s) _ _ tt (never_if (nat_le c.size t.max_fast) _ _ tt (given_never_maps t a c))

-- ---- growth

closing_never : (t : Tunables) (rest : Option Chunk) (a : Plain) → NeverMaps (closing t rest a)
closing_never t None a = tt
closing_never t (Some c) a = released_never_maps t a c

piece_never : (t : Tunables) (nb : ℕ) (a : Plain) → NeverMaps (piece_grown t nb a)
piece_never t nb a = λ s. never_if (flag_of s) _ _ (closing_never t (left_of_top a) _) tt

main_never : (n : ℕ) (t : Tunables) (nb : ℕ) (a : Plain) → NeverMaps (main_grown n t nb a)
main_never zero t nb a = tt
main_never (suc n) t nb a = λ s.
    let taken : Plain = break_taken a (main_growth t a nb) in
    let after : Plain → Rules Plain = λ b. if has_top_for b nb then Stop b else main_grown n t nb b in
    never_if (flag_of s) _ _ (never_behind (closing t (break_rest a) taken) after (closing_never t (break_rest a) taken) (λ b. never_if (has_top_for b nb) _ _ tt (main_never n t nb b))) (piece_never t nb a)

next_heap_never : (t : Tunables) (nb : ℕ) (a : Plain) → NeverMaps (next_heap_grown t nb a)
next_heap_never t nb a = λ s.
    let added : Plain = heap_added a (first_length t (nb + 64)) in
    never_if (flag_of s) _ _ (never_behind (closing t (left_of_top a) added) (λ b. Stop (Some b)) (closing_never t (left_of_top a) added) (λ b. tt)) tt

heaps_never : (t : Tunables) (nb : ℕ) (a : Plain) → NeverMaps (heaps_grown t nb a)
heaps_never t nb a = λ s. never_if (flag_of s) _ _ tt (next_heap_never t nb a)

pub opened_never_maps : (t : Tunables) (bytes : ℕ) (a : Plain) → NeverMaps (opened t bytes a)
opened_never_maps t bytes a = λ s. never_if (flag_of s) _ _ tt (λ u. never_if (flag_of u) _ _ tt tt)

maps_first_never : (t : Tunables) (nb : ℕ) (a : Plain) → NeverMaps (maps_first t nb a)
maps_first_never t nb a = λ s. never_if (nat_le (number_told s) nb) _ _ (λ u. tt) tt

maps_else_once : (nb : ℕ) (a : Plain) (refused : Rules Took) → MapsOnce nb refused → MapsOnce nb (maps_else nb a refused)
maps_else_once nb a refused h =
    let len : ℕ = mapping_length nb in
    let after : Option Chunk → Rules Took = λ o. elim o [ Some c ↦ Stop (record { found = InMapping c; arena = a }) | None ↦ refused ] in
    let goes : Said → Bool → Rules Took = λ s b. behind (if b then Does (Counts len) (Stop (Some (record { at = place_told s; size = len }))) else Stop None) after in
    (refl, λ s. (λ is. record { arena = a; is = ap (goes s) is }, λ is. subst (λ b. MapsOnce nb (goes s b)) (sym is) h))

from_top_once : (nb : ℕ) (a : Plain) → MapsOnce nb (Stop (from_top nb a))
from_top_once nb a =
    let found : Took = record { found = InArena (record { at = top_start a; size = nb }); arena = cut_from_top a nb } in
    let nothing : Took = record { found = Nowhere; arena = a } in
    let cases : (b : Bool) → MapsOnce nb (Stop (if b then found else nothing)) = elim [
      | true ↦ λ c is. absurd cc
      | false ↦ λ c is. absurd cc
    ] in
    cases (has_top_for a nb)

again_once : (t : Tunables) (nb : ℕ) (a : Plain) → MapsOnce nb (grown_again t nb a)
again_once t nb a = maps_once_behind nb (heaps_grown t nb a) _ (heaps_never t nb a) (λ o. from_top_once nb (noted (elim o [ Some b ↦ b | None ↦ a ])))

other_once : (t : Tunables) (nb : ℕ) (tried : Bool) (a : Plain) → MapsOnce nb (other_grown t nb tried a)
other_once t nb tried a =
    let after : (o : Option Plain) → MapsOnce nb (elim o [ Some b ↦ cut_from_grown nb b | None ↦ if tried then cut_from_grown nb a else maps_else nb a (grown_again t nb a) ]) = elim [
      | None ↦ once_if nb tried _ _ (from_top_once nb (noted a)) (maps_else_once nb a (grown_again t nb a) (again_once t nb a))
      | Some b ↦ from_top_once nb (noted b)
    ] in
    maps_once_behind nb (heaps_grown t nb a) _ (heaps_never t nb a) after

grown_once : (t : Tunables) (nb : ℕ) (tried : Bool) (a : Plain) → MapsOnce nb (grown t nb tried a)
grown_once t nb tried a =
    once_if nb (is_main a) _ _ (maps_once_behind nb (main_grown 2 t nb a) (cut_from_grown nb) (main_never 2 t nb a) (λ b. from_top_once nb (noted b))) (other_once t nb tried a)

system_once : (t : Tunables) (nb : ℕ) (a : Plain) → MapsOnce nb (system_asked t nb a)
system_once t nb a =
    maps_once_behind nb (maps_first t nb a) _ (maps_first_never t nb a) (λ first. once_if nb first _ _ (maps_else_once nb a _ (grown_once t nb true a)) (grown_once t nb false a))

-- ---- the search

next_never : (r : Rules Step) (f : Plain → Rules Step) → NeverMaps r → ((a : Plain) → NeverMaps (f a)) → NeverMaps (next_step r f)
next_never r f h k = never_behind r _ h (λ step. elim step as (λ step. NeverMaps (elim step [ Taken c a ↦ Stop (Taken c a) | Onward a ↦ f a ])) [ Taken c a ↦ tt | Onward a ↦ k a ])

stashing_fast_never : (n bin nb : ℕ) (first : Chunk) (a : Plain) → NeverMaps (stashing_fast n bin nb first a)
stashing_fast_never zero bin nb first a = tt
stashing_fast_never (suc n) bin nb first a = λ s.
    never_if (flag_of s) _ _ (λ u. never_option (chunk_told u) _ _ tt (λ at. never_if (is_own a (fast_chunk bin at)) _ _ (stashing_fast_never n bin nb first a) tt)) tt

fast_never : (t : Tunables) (nb : ℕ) (a : Plain) → NeverMaps (fast_taken t nb a)
fast_never t nb a =
    let bin : ℕ = fast_index_of nb in
    never_if (nat_le nb t.max_fast) _ _ (λ s. never_option (chunk_told s) _ _ tt (λ at. never_if (is_own a (fast_chunk bin at)) _ _ (stashing_fast_never most_stashed bin nb (fast_chunk bin at) a) tt)) tt

stashing_small_never : (n nb : ℕ) (first : Chunk) (a : Plain) → NeverMaps (stashing_small n nb first a)
stashing_small_never zero nb first a = tt
stashing_small_never (suc n) nb first a = λ s.
    never_if (flag_of s) _ _ (never_option (oldest_of (bin_at a (small_index_of nb))) _ _ tt (λ c. stashing_small_never n nb first (claimed a c))) tt

small_never : (nb : ℕ) (a : Plain) → NeverMaps (small_taken nb a)
small_never nb a =
    never_if (is_small_size nb) _ _ (never_option (oldest_of (bin_at a (small_index_of nb))) _ _ tt (λ c. stashing_small_never most_stashed nb c (claimed a c))) tt

first_never : (nb : ℕ) (a : Plain) → NeverMaps (consolidated_first nb a)
first_never nb a = never_if (is_small_size nb) _ _ tt (λ s. never_behind (consolidated_if (flag_of s) a) _ (consolidated_if_never (flag_of s) a) (λ b. tt))

scan_end_never : (nb : ℕ) (stashed : Option Chunk) (a : Plain) → NeverMaps (scan_end nb stashed a)
scan_end_never nb None a = tt
scan_end_never nb (Some c) a = tt

scanned_never : (nb : ℕ) (cs : List Chunk) (sorted : ℕ) (stashed : Option Chunk) (a : Plain) → NeverMaps (scanned nb cs sorted stashed a)
scanned_never nb [] sorted stashed a = scan_end_never nb stashed a
scanned_never nb (c ∷ cs) sorted stashed a =
    never_if (splits_remainder nb a c cs) _ _ tt
    (never_if (nat_eq c.size nb) _ _ (λ s. never_if (flag_of s) _ _ (scanned_never nb cs sorted (Some c) (claimed a c)) tt)
    (never_if (nat_eq (sorted + 1) most_sorted) _ _ (scan_end_never nb stashed (sorted_in a c)) (scanned_never nb cs (sorted + 1) stashed (sorted_in a c))))

looked_never : (nb : ℕ) (a : Plain) → NeverMaps (looked nb a)
looked_never nb a =
    next_never (scanned_all nb a) _ (scanned_never nb (reverse (unsorted_of a)) 0 None a) (λ b. next_never (best_taken nb b) _ tt (λ c. next_never (larger_taken nb c) _ tt (λ d. tt)))

step_once : (nb : ℕ) (f : Plain → Rules Took) → ((a : Plain) → MapsOnce nb (f a)) → (step : Step) → MapsOnce nb (elim step [ Taken c b ↦ Stop (record { found = InArena c; arena = b }) | Onward b ↦ f b ])
step_once nb f k (Taken c b) = λ d is. absurd cc
step_once nb f k (Onward b) = k b

rounds_once : (n : ℕ) (t : Tunables) (nb : ℕ) (a : Plain) → MapsOnce nb (rounds n t nb a)
rounds_once zero t nb a = maps_once_behind nb (looked nb a) _ (looked_never nb a) (step_once nb _ (system_once t nb))
rounds_once (suc n) t nb a =
    maps_once_behind nb (looked nb a) _ (looked_never nb a) (step_once nb _ (λ b s. once_if nb (flag_of s) _ _ (maps_once_behind nb (consolidated b) _ (consolidated_never_maps b) (rounds_once n t nb)) (system_once t nb b)))

pub searched_maps_once : (t : Tunables) (nb : ℕ) (a : Plain) → MapsOnce nb (searched t nb a)
searched_maps_once t nb a =
    maps_once_behind nb (next_step (fast_taken t nb a) (λ b. next_step (small_taken nb b) (consolidated_first nb))) _
    (next_never (fast_taken t nb a) _ (fast_never t nb a) (λ b. next_never (small_taken nb b) _ (small_never nb b) (first_never nb)))
    (step_once nb _ (rounds_once 2 t nb))
