-- No rule takes main out of its windows: only a granted ask makes its break or its pieces longer, and none is granted that
-- would pass a window (public for the crates above).
use Rattle.std.proofs.Common.{◌≡◌, ℕ, ◌+◌, ◌-◌, suc, zero, Bool, true, false, ◌||◌, cond, List, [], ◌∷◌, length, reverse, Option, Some, None, IsTrue, refl, sym, ap, arith}
use Rattle.std.specs.Prelude.{if◌then◌else◌, not, nat_lt, nat_le, nat_eq, IfSome}
use Rattle.std.proofs.lemmas.Bool.{and_parts, ltb-false}
use Rattle.chunk_tags.specs.BinOrder.{oldest_of, best_of, fast_chunk}
use Rattle.chunk_tags.specs.Sizes.{is_small_size, small_index_of, large_index_of, fast_index_of}
use Rattle.chunk_tags.specs.declared.tiles.Chunk.{Chunk}
use Rattle.chunk_tags.specs.declared.tiles.Tile.{Tile}
use Rattle.chunk_tags.specs.declared.tunables.Tunables.{Tunables}
use Rattle.address_space.specs.Spaces.{main_start, piece_start}
use Rattle.address_space.specs.declared.asks.Ask.{Ask}
use Rattle.address_space.specs.declared.asks.Ask.TheVariants as asks
use Rattle.address_space.specs.declared.asks.Answer.TheVariants.{Granted, Refused}
use Rattle.arena_rules.specs.declared.said.Said.{Said}
use Rattle.arena_rules.specs.declared.said.Said.TheVariants as told
use Rattle.arena_rules.specs.declared.heap_end.HeapEnd.{HeapEnd}
use Rattle.arena_rules.specs.PlainArena.{Plain, unsorted_of, is_main, is_own, bin_at, beside}
use Rattle.arena_rules.specs.Moves.{Hand, hand, joined_behind, absorbed, claimed, parted, left_of_top, top_start, top_size, cut_from_top, with_top_size, with_moved_top}
use Rattle.arena_rules.specs.Rules.{Rules, Stop, Misfit, Does, Needs, Asks, behind, flag_of, chunk_told, number_told, fits, passes_window, windows_of, same_ask}
use Rattle.arena_rules.specs.Trim.{trimmed, dropped_heaps, heap_cut, spare_bytes, main_spare, main_cut, is_enough_end}
use Rattle.arena_rules.specs.Heaps.{end_before_heap, heap_start, last_heap, heap_added, heap_shortened, opened_arena, without_free_part, without_heap}
use Rattle.arena_rules.specs.Release.{Merging, merged, merging_bin, merging_bins, consolidated, consolidated_if, trimmed_by_threshold, settled, given, released, settling_size}
use Rattle.arena_rules.specs.Growth.{InArena, InMapping, Nowhere, Took, closing, with_break, with_piece, is_top_at_break, break_rest, break_taken, piece_taken, main_growth, main_grown, piece_grown, piece_length, first_length, next_heap_grown, extension_bytes, heaps_grown, opened, from_top, noted, has_top_for, cut_from_grown, grown_again, other_grown, maps_first, maps_else, mapping, grown, system_asked}
use Rattle.arena_rules.specs.Search.{Step, Taken, Onward, next_step, most_stashed, stashing_fast, fast_taken, stashing_small, small_taken, consolidated_first, splits_remainder, most_sorted, sorted_in, scan_end, scanned, scanned_all, carved, with_remainder, taken_from, best_taken, larger_taken, top_taken, looked, rounds, searched}
use Rattle.arena_rules.specs.Resize.{front_of, back_of, cut_behind, cut_to, fits_with_top, fits_with_free, grown_into_top, is_next_to, joined_with, moved_from_old, resize_with, resize_of}
use Rattle.arena_rules.specs.Align.{size_with_lead, lead_of, tail_cut, aligned_in, align_with, align_of}
use Rattle.arena_rules.specs.MainWindows.{IsInMainWindows, KeepsWindows}
use Rattle.arena_rules.proofs.Beside.{beside_joined_behind, beside_merged, beside_carved, beside_sorted, beside_cut, beside_sized, beside_moved_top}

-- ---- ends of each kind

abbrev pub StepIn : Tunables → Step → Type 0
StepIn t (Taken c a) = IsInMainWindows t a
StepIn t (Onward a) = IsInMainWindows t a

abbrev pub TookIn : Tunables → Took → Type 0
TookIn t x = IsInMainWindows t x.arena

abbrev pub MaybeIn : Tunables → Option Plain → Type 0
MaybeIn t o = IfSome o (IsInMainWindows t)

-- an end that has no arena
abbrev Any : {A : Type 0} → A → Type 0
Any x = Unit {0}

-- ---- parts in a row, and branches

pub windows_behind : {A B : Type 0} (t : Tunables) (P : A → Type 0) (Q : B → Type 0) (r : Rules A) (f : A → Rules B) → KeepsWindows t P r → ((x : A) → P x → KeepsWindows t Q (f x)) → KeepsWindows t Q (behind r f)
windows_behind t P Q (Stop x) f h k = k x h
windows_behind t P Q Misfit f h k = tt
windows_behind t P Q (Does d r) f h k = windows_behind t P Q r f h k
windows_behind t P Q (Needs a n g) f h k = (h.0, λ s fit. windows_behind t P Q (g s) f (h.1 s fit) k)

windows_if : {A : Type 0} (t : Tunables) (P : A → Type 0) (b : Bool) (x y : Rules A) → KeepsWindows t P x → KeepsWindows t P y → KeepsWindows t P (if b then x else y)
windows_if t P true x y h k = h
windows_if t P false x y h k = k

windows_option : {A B : Type 0} (t : Tunables) (P : A → Type 0) (o : Option B) (x : Rules A) (f : B → Rules A) → KeepsWindows t P x → ((y : B) → KeepsWindows t P (f y)) → KeepsWindows t P (elim o [ None ↦ x | Some y ↦ f y ])
windows_option t P None x f h k = h
windows_option t P (Some y) x f h k = k y

-- an ask that is granted doesn't pass its window
granted_within : (t : Tunables) (ask : Ask) (s : Said) → IsTrue (fits t (Asks ask) s) → flag_of s ≡ true → passes_window (windows_of t) ask ≡ false
granted_within t ask (told.Flag b) fit is = absurd cc
granted_within t ask (told.Popped o) fit is = absurd cc
granted_within t ask (told.Own o) fit is = absurd cc
granted_within t ask (told.Room b) fit is = absurd cc
granted_within t ask (told.Asked asked Granted) fit is =
    let cases : (passes : Bool) → (not passes || false) ≡ true → passes ≡ false = elim [ true ↦ λ h. sym h | false ↦ λ h. refl ] in
    cases (passes_window (windows_of t) ask) (and_parts (same_ask ask asked) (not (passes_window (windows_of t) ask) || false) fit).1
granted_within t ask (told.Asked asked Refused) fit is = absurd cc
granted_within t ask (told.Dial n) fit is = absurd cc

windows_asked : {A : Type 0} (t : Tunables) (P : A → Type 0) (ask : Ask) (s : Said) (x y : Rules A) → IsTrue (fits t (Asks ask) s) → (passes_window (windows_of t) ask ≡ false → KeepsWindows t P x) → KeepsWindows t P y → KeepsWindows t P (if flag_of s then x else y)
windows_asked t P ask s x y fit h k =
    let cases : (b : Bool) → flag_of s ≡ b → KeepsWindows t P (if b then x else y) = elim [
      | true ↦ λ is. h (granted_within t ask s fit is)
      | false ↦ λ is. k
    ] in
    cases (flag_of s) refl

-- ---- moves

stays : {t : Tunables} (a b : Plain) → b.break_at ≡ a.break_at → b.next_piece ≡ a.next_piece → IsInMainWindows t a → IsInMainWindows t b
stays a b break pieces w = record { break = omega (arith, w.break, break); pieces = omega (arith, w.pieces, pieces) }

pub stays_beside : {t : Tunables} (a b : Plain) → beside b ≡ beside a → IsInMainWindows t a → IsInMainWindows t b
stays_beside a b same w = stays a b (ap (λ (x : Plain). x.break_at) same) (ap (λ (x : Plain). x.next_piece) same) w

merged_in : {t : Tunables} (a : Plain) (c : Chunk) → IsInMainWindows t a → IsInMainWindows t (merged a c).arena
merged_in a c w = stays_beside a (merged a c).arena (beside_merged a c) w

pub break_in : (t : Tunables) (a : Plain) (growth : ℕ) → passes_window (windows_of t) (asks.Break a.break_at (a.break_at + growth)) ≡ false → IsInMainWindows t a → IsInMainWindows t (break_taken a growth)
break_in t a growth within w =
    let b : Plain = with_break a growth in
    let cases : (top : Bool) → IsInMainWindows t (cond top (with_top_size b (top_size a + growth)) (with_moved_top b a.break_at growth)) = elim [
      | true ↦ stays_beside b (with_top_size b (top_size a + growth)) (beside_sized b (top_size a + growth)) (record { break = ltb-false (main_start + t.main_max) (a.break_at + growth) within; pieces = w.pieces })
      | false ↦ stays_beside b (with_moved_top b a.break_at growth) (beside_moved_top b a.break_at growth) (record { break = ltb-false (main_start + t.main_max) (a.break_at + growth) within; pieces = w.pieces })
    ] in
    cases (is_top_at_break a)

pub piece_in : (t : Tunables) (a : Plain) (len : ℕ) → passes_window (windows_of t) (asks.Piece a.next_piece len) ≡ false → IsInMainWindows t a → IsInMainWindows t (piece_taken a len)
piece_in t a len within w =
    let b : Plain = with_piece a len in
    stays_beside b (piece_taken a len) (beside_moved_top b a.next_piece len) (record { break = w.break; pieces = ltb-false (piece_start + t.main_max) (a.next_piece + len) within })

main_cut_in : {t : Tunables} (a : Plain) (bytes : ℕ) → IsInMainWindows t a → IsInMainWindows t (main_cut a bytes)
main_cut_in a bytes w = record {
  break = omega (arith, w.break);
  pieces = omega (arith, w.pieces, ap (λ (x : Plain). x.next_piece) (beside_sized a (top_size a - bytes)));
}

sized_in : {t : Tunables} (a : Plain) (system size : ℕ) → IsInMainWindows t a → IsInMainWindows t (with_top_size (record a { system = system }) size)
sized_in a system size w =
    let b : Plain = record a { system = system } in
    stays_beside b (with_top_size b size) (beside_sized b size) (record { break = w.break; pieces = w.pieces })

shortened_in : {t : Tunables} (a : Plain) (bytes : ℕ) → IsInMainWindows t a → IsInMainWindows t (heap_shortened a bytes)
shortened_in a bytes w =
    let same : beside (with_top_size a (top_size a - bytes)) ≡ beside a = beside_sized a (top_size a - bytes) in
    stays a (heap_shortened a bytes) (ap (λ (x : Plain). x.break_at) same) (ap (λ (x : Plain). x.next_piece) same) w

added_in : {t : Tunables} (a : Plain) (len : ℕ) → IsInMainWindows t a → IsInMainWindows t (heap_added a len)
added_in a len w =
    let b : Plain = record a { system = a.system + len } in
    stays_beside b (heap_added a len) (beside_moved_top b (heap_start a (last_heap a + 1) + 32) (len - 32)) (record { break = w.break; pieces = w.pieces })

without_in : {t : Tunables} (a : Plain) (e : HeapEnd) → IsInMainWindows t a → IsInMainWindows t (without_heap a e)
without_in {t = t} a e w =
    let cases : (o : Option Tile) → beside (without_free_part a o) ≡ beside a = elim [ None ↦ refl | Some u ↦ refl ] in
    let same : beside (without_free_part a e.before) ≡ beside a = cases e.before in
    stays a (without_heap a e) (ap (λ (x : Plain). x.break_at) same) (ap (λ (x : Plain). x.next_piece) same) w

-- ---- trimming and release

heap_cut_in : (t : Tunables) (threshold : ℕ) (a : Plain) → IsInMainWindows t a → KeepsWindows t (IsInMainWindows t) (heap_cut t threshold a)
heap_cut_in t threshold a w =
    windows_if t (IsInMainWindows t) (nat_lt 0 (spare_bytes t a threshold)) _ _ (shortened_in a (spare_bytes t a threshold) w) w

dropped_in : (n : ℕ) (t : Tunables) (a : Plain) (go : Plain → Rules Plain) → ((b : Plain) → IsInMainWindows t b → KeepsWindows t (IsInMainWindows t) (go b)) → IsInMainWindows t a → KeepsWindows t (IsInMainWindows t) (dropped_heaps n t a go)
dropped_in zero t a go h w = h a w
dropped_in (suc n) t a go h w =
    windows_option t (IsInMainWindows t) (end_before_heap a) _ _ (h a w) (λ e. windows_if t (IsInMainWindows t) (is_enough_end t e) _ _ (dropped_in n t (without_heap a e) go h (without_in a e w)) (h a w))

trimmed_in : (t : Tunables) (a : Plain) (threshold : ℕ) → IsInMainWindows t a → KeepsWindows t (IsInMainWindows t) (trimmed t a threshold)
trimmed_in t a threshold w =
    windows_if t (IsInMainWindows t) (is_main a) _ _ (windows_if t (IsInMainWindows t) (nat_lt 0 (main_spare t a threshold)) _ _ (main_cut_in a (main_spare t a threshold) w) w)
    (dropped_in (length a.tiles) t a (heap_cut t threshold) (heap_cut_in t threshold) w)

merging_bin_in : (n bin : ℕ) (t : Tunables) (a : Plain) → IsInMainWindows t a → KeepsWindows t (IsInMainWindows t) (merging_bin n bin a)
merging_bin_in zero bin t a w = tt
merging_bin_in (suc n) bin t a w = (
  w,
  λ s fit.
      windows_option t (IsInMainWindows t) (chunk_told s) _ _ w (λ at. windows_if t (IsInMainWindows t) (is_own a (fast_chunk bin at)) _ _ (merging_bin_in n bin t (merged a (fast_chunk bin at)).arena (merged_in a (fast_chunk bin at) w)) tt),
)

merging_bins_in : (n bin : ℕ) (t : Tunables) (a : Plain) → IsInMainWindows t a → KeepsWindows t (IsInMainWindows t) (merging_bins n bin a)
merging_bins_in zero bin t a w = w
merging_bins_in (suc n) bin t a w =
    windows_behind t (IsInMainWindows t) (IsInMainWindows t) (merging_bin (suc (length a.tiles)) bin a) (λ b. merging_bins n (bin + 1) b) (merging_bin_in (suc (length a.tiles)) bin t a w) (λ b v. merging_bins_in n (bin + 1) t b v)

pub consolidated_in : (t : Tunables) (a : Plain) → IsInMainWindows t a → KeepsWindows t (IsInMainWindows t) (consolidated a)
unfolding consolidated
consolidated_in t a w = merging_bins_in 10 0 t a w

consolidated_if_in : (flag : Bool) (t : Tunables) (a : Plain) → IsInMainWindows t a → KeepsWindows t (IsInMainWindows t) (consolidated_if flag a)
consolidated_if_in true t a w = consolidated_in t a w
consolidated_if_in false t a w = w

settled_in : (t : Tunables) (m : Merging) → IsInMainWindows t m.arena → KeepsWindows t (IsInMainWindows t) (settled t m)
settled_in t m w = windows_if t (IsInMainWindows t) (nat_lt m.size settling_size) _ _ w (
  w,
  λ s fit.
      windows_behind t (IsInMainWindows t) (IsInMainWindows t) (consolidated_if (flag_of s) m.arena) (trimmed_by_threshold t) (consolidated_if_in (flag_of s) t m.arena w) (λ a v. (v, λ u fit. trimmed_in t a (number_told u) v)),
)

pub given_in : (t : Tunables) (a : Plain) (c : Chunk) → IsInMainWindows t a → KeepsWindows t (IsInMainWindows t) (given t a c)
given_in t a c w = settled_in t (merged a c) (merged_in a c w)

pub released_in : (t : Tunables) (a : Plain) (c : Chunk) → IsInMainWindows t a → KeepsWindows t (IsInMainWindows t) (released t a c)
released_in t a c w = (w, λ s fit. windows_if t (IsInMainWindows t) (flag_of s) _ _ w (windows_if t (IsInMainWindows t) (nat_le c.size t.max_fast) _ _ w (given_in t a c w)))

-- ---- growth

pub closing_in : (t : Tunables) (rest : Option Chunk) (a : Plain) → IsInMainWindows t a → KeepsWindows t (IsInMainWindows t) (closing t rest a)
closing_in t None a w = w
closing_in t (Some c) a w = released_in t a c w

pub piece_grown_in : (t : Tunables) (nb : ℕ) (a : Plain) → IsInMainWindows t a → KeepsWindows t (IsInMainWindows t) (piece_grown t nb a)
piece_grown_in t nb a w = (
  w,
  λ s fit.
      let len : ℕ = piece_length t a nb in
      windows_asked t (IsInMainWindows t) (asks.Piece a.next_piece len) s _ _ fit (λ within. closing_in t (left_of_top a) (piece_taken a len) (piece_in t a len within w)) w,
)

pub main_grown_in : (n : ℕ) (t : Tunables) (nb : ℕ) (a : Plain) → IsInMainWindows t a → KeepsWindows t (IsInMainWindows t) (main_grown n t nb a)
main_grown_in zero t nb a w = w
main_grown_in (suc n) t nb a w = (
  w,
  λ s fit.
      let growth : ℕ = main_growth t a nb in
      let taken : Plain = break_taken a growth in
      let after : Plain → Rules Plain = λ b. if has_top_for b nb then Stop b else main_grown n t nb b in
      windows_asked t (IsInMainWindows t) (asks.Break a.break_at (a.break_at + growth)) s _ _ fit (λ within.
      windows_behind t (IsInMainWindows t) (IsInMainWindows t) (closing t (break_rest a) taken) after (closing_in t (break_rest a) taken (break_in t a growth within w))
      (λ b v. windows_if t (IsInMainWindows t) (has_top_for b nb) _ _ v (main_grown_in n t nb b v)))
      (piece_grown_in t nb a w),
)

next_heap_in : (t : Tunables) (nb : ℕ) (a : Plain) → IsInMainWindows t a → KeepsWindows t (MaybeIn t) (next_heap_grown t nb a)
next_heap_in t nb a w = (
  w,
  λ s fit.
      let len : ℕ = first_length t (nb + 64) in
      let added : Plain = heap_added a len in
      windows_if t (MaybeIn t) (flag_of s) _ _ (windows_behind t (IsInMainWindows t) (MaybeIn t) (closing t (left_of_top a) added) (λ b. Stop (Some b)) (closing_in t (left_of_top a) added (added_in a len w)) (λ b v. v)) tt,
)

pub heaps_grown_in : (t : Tunables) (nb : ℕ) (a : Plain) → IsInMainWindows t a → KeepsWindows t (MaybeIn t) (heaps_grown t nb a)
heaps_grown_in t nb a w = (
  w,
  λ s fit.
      let growth : ℕ = extension_bytes a nb in
      windows_if t (MaybeIn t) (flag_of s) _ _ (sized_in a (a.system + growth) (top_size a + growth) w) (next_heap_in t nb a w),
)

pub opened_in : (t : Tunables) (bytes : ℕ) (a : Plain) → IsInMainWindows t a → KeepsWindows t (MaybeIn t) (opened t bytes a)
opened_in t bytes a w =
    let v : IsInMainWindows t a = w in
    let here : (len : ℕ) → IsInMainWindows t (opened_arena a len) = λ len. record { break = v.break; pieces = v.pieces } in
    (w, λ s fit. windows_if t (MaybeIn t) (flag_of s) _ _ (here _) (w, λ u fit. windows_if t (MaybeIn t) (flag_of u) _ _ (here _) tt))

maps_first_in : (t : Tunables) (nb : ℕ) (a : Plain) → IsInMainWindows t a → KeepsWindows t Any (maps_first t nb a)
maps_first_in t nb a w = (w, λ s fit. windows_if t Any (nat_le (number_told s) nb) _ _ (w, λ u fit. tt) tt)

mapping_in : (t : Tunables) (nb : ℕ) (a : Plain) → IsInMainWindows t a → KeepsWindows t Any (mapping nb a)
mapping_in t nb a w = (w, λ s fit. windows_if t Any (flag_of s) _ _ tt tt)

maps_else_in : (t : Tunables) (nb : ℕ) (a : Plain) (refused : Rules Took) → IsInMainWindows t a → KeepsWindows t (TookIn t) refused → KeepsWindows t (TookIn t) (maps_else nb a refused)
maps_else_in t nb a refused w h =
    let after : Option Chunk → Rules Took = λ o. elim o [ Some c ↦ Stop (record { found = InMapping c; arena = a }) | None ↦ refused ] in
    let ends : (o : Option Chunk) → KeepsWindows t (TookIn t) (after o) = elim [ None ↦ h | Some c ↦ w ] in
    windows_behind t Any (TookIn t) (mapping nb a) after (mapping_in t nb a w) (λ o u. ends o)

from_top_in : (t : Tunables) (nb : ℕ) (a : Plain) → IsInMainWindows t a → TookIn t (from_top nb a)
from_top_in t nb a w =
    let found : Took = record { found = InArena (record { at = top_start a; size = nb }); arena = cut_from_top a nb } in
    let nothing : Took = record { found = Nowhere; arena = a } in
    let cases : (b : Bool) → TookIn t (if b then found else nothing) = elim [
      | true ↦ stays_beside a (cut_from_top a nb) (beside_cut a nb) w
      | false ↦ w
    ] in
    cases (has_top_for a nb)

noted_in : {t : Tunables} (a : Plain) → IsInMainWindows t a → IsInMainWindows t (noted a)
noted_in a w = record { break = w.break; pieces = w.pieces }

again_in : (t : Tunables) (nb : ℕ) (a : Plain) → IsInMainWindows t a → KeepsWindows t (TookIn t) (grown_again t nb a)
again_in t nb a w =
    let after : (o : Option Plain) → MaybeIn t o → TookIn t (from_top nb (noted (elim o [ Some b ↦ b | None ↦ a ]))) = elim [
      | None ↦ λ u. from_top_in t nb (noted a) (noted_in a w)
      | Some b ↦ λ v. from_top_in t nb (noted b) (noted_in b v)
    ] in
    windows_behind t (MaybeIn t) (TookIn t) (heaps_grown t nb a) _ (heaps_grown_in t nb a w) after

other_in : (t : Tunables) (nb : ℕ) (tried : Bool) (a : Plain) → IsInMainWindows t a → KeepsWindows t (TookIn t) (other_grown t nb tried a)
other_in t nb tried a w =
    let after : (o : Option Plain) → MaybeIn t o → KeepsWindows t (TookIn t) (elim o [ Some b ↦ cut_from_grown nb b | None ↦ if tried then cut_from_grown nb a else maps_else nb a (grown_again t nb a) ]) = elim [
      | None ↦ λ u. windows_if t (TookIn t) tried _ _ (from_top_in t nb (noted a) (noted_in a w)) (maps_else_in t nb a (grown_again t nb a) w (again_in t nb a w))
      | Some b ↦ λ v. from_top_in t nb (noted b) (noted_in b v)
    ] in
    windows_behind t (MaybeIn t) (TookIn t) (heaps_grown t nb a) _ (heaps_grown_in t nb a w) after

pub grown_in : (t : Tunables) (nb : ℕ) (tried : Bool) (a : Plain) → IsInMainWindows t a → KeepsWindows t (TookIn t) (grown t nb tried a)
grown_in t nb tried a w =
    windows_if t (TookIn t) (is_main a) _ _ (windows_behind t (IsInMainWindows t) (TookIn t) (main_grown 2 t nb a) (cut_from_grown nb) (main_grown_in 2 t nb a w) (λ b v. from_top_in t nb (noted b) (noted_in b v))) (other_in t nb tried a w)

pub system_in : (t : Tunables) (nb : ℕ) (a : Plain) → IsInMainWindows t a → KeepsWindows t (TookIn t) (system_asked t nb a)
system_in t nb a w =
    windows_behind t Any (TookIn t) (maps_first t nb a) _ (maps_first_in t nb a w) (λ first u. windows_if t (TookIn t) first _ _ (maps_else_in t nb a _ w (grown_in t nb true a w)) (grown_in t nb false a w))

-- ---- the search

next_in : {t : Tunables} (r : Rules Step) (f : Plain → Rules Step) → KeepsWindows t (StepIn t) r → ((a : Plain) → IsInMainWindows t a → KeepsWindows t (StepIn t) (f a)) → KeepsWindows t (StepIn t) (next_step r f)
next_in {t = t} r f h k =
    windows_behind t (StepIn t) (StepIn t) r _ h (λ step. elim step as (λ step. StepIn t step → KeepsWindows t (StepIn t) (elim step [ Taken c a ↦ Stop (Taken c a) | Onward a ↦ f a ])) [ Taken c a ↦ λ v. v | Onward a ↦ λ v. k a v ])

stashing_fast_in : (n : ℕ) (t : Tunables) (bin nb : ℕ) (first : Chunk) (a : Plain) → IsInMainWindows t a → KeepsWindows t (StepIn t) (stashing_fast n bin nb first a)
stashing_fast_in zero t bin nb first a w = tt
stashing_fast_in (suc n) t bin nb first a w = (
  w,
  λ s fit.
      windows_if t (StepIn t) (flag_of s) _ _ (w, λ u fit. windows_option t (StepIn t) (chunk_told u) _ _ w (λ at. windows_if t (StepIn t) (is_own a (fast_chunk bin at)) _ _ (stashing_fast_in n t bin nb first a w) tt)) w,
)

fast_in : (t : Tunables) (nb : ℕ) (a : Plain) → IsInMainWindows t a → KeepsWindows t (StepIn t) (fast_taken t nb a)
fast_in t nb a w =
    let bin : ℕ = fast_index_of nb in
    windows_if t (StepIn t) (nat_le nb t.max_fast) _ _ (w, λ s fit. windows_option t (StepIn t) (chunk_told s) _ _ w (λ at. windows_if t (StepIn t) (is_own a (fast_chunk bin at)) _ _ (stashing_fast_in most_stashed t bin nb (fast_chunk bin at) a w) tt)) w

claimed_in : {t : Tunables} (a : Plain) (c : Chunk) → IsInMainWindows t a → IsInMainWindows t (claimed a c)
claimed_in a c w = record { break = w.break; pieces = w.pieces }

stashing_small_in : (n : ℕ) (t : Tunables) (nb : ℕ) (first : Chunk) (a : Plain) → IsInMainWindows t a → KeepsWindows t (StepIn t) (stashing_small n nb first a)
stashing_small_in zero t nb first a w = tt
stashing_small_in (suc n) t nb first a w = (
  w,
  λ s fit.
      windows_if t (StepIn t) (flag_of s) _ _ (windows_option t (StepIn t) (oldest_of (bin_at a (small_index_of nb))) _ _ w (λ c. stashing_small_in n t nb first (claimed a c) (claimed_in a c w))) w,
)

small_in : (t : Tunables) (nb : ℕ) (a : Plain) → IsInMainWindows t a → KeepsWindows t (StepIn t) (small_taken nb a)
small_in t nb a w =
    windows_if t (StepIn t) (is_small_size nb) _ _ (windows_option t (StepIn t) (oldest_of (bin_at a (small_index_of nb))) _ _ w (λ c. stashing_small_in most_stashed t nb c (claimed a c) (claimed_in a c w))) w

first_in : (t : Tunables) (nb : ℕ) (a : Plain) → IsInMainWindows t a → KeepsWindows t (StepIn t) (consolidated_first nb a)
first_in t nb a w =
    windows_if t (StepIn t) (is_small_size nb) _ _ w (w, λ s fit. windows_behind t (IsInMainWindows t) (StepIn t) (consolidated_if (flag_of s) a) _ (consolidated_if_in (flag_of s) t a w) (λ b v. v))

scan_end_in : (t : Tunables) (nb : ℕ) (stashed : Option Chunk) (a : Plain) → IsInMainWindows t a → KeepsWindows t (StepIn t) (scan_end nb stashed a)
scan_end_in t nb None a w = w
scan_end_in t nb (Some c) a w = w

remainder_in : {t : Tunables} (a : Plain) (c : Chunk) (nb : ℕ) → IsInMainWindows t a → IsInMainWindows t (with_remainder a c nb)
remainder_in {t = t} a c nb w =
    let noted : Plain = record a { last = Some (c.at + nb) } in
    let v : IsInMainWindows t noted = record { break = w.break; pieces = w.pieces } in
    let cases : (less small : Bool) → IsInMainWindows t (if less then a else (if small then noted else a)) = elim [
      | true ↦ λ small. w
      | false ↦ elim [ true ↦ v | false ↦ w ]
    ] in
    cases (nat_lt (c.size - nb) 32) (is_small_size nb)

carved_in : {t : Tunables} (a : Plain) (c : Chunk) (nb : ℕ) → IsInMainWindows t a → IsInMainWindows t (with_remainder (carved a c nb) c nb)
carved_in a c nb w = remainder_in (carved a c nb) c nb (stays_beside a (carved a c nb) (beside_carved a c nb) w)

sorted_stays : {t : Tunables} (a : Plain) (c : Chunk) → IsInMainWindows t a → IsInMainWindows t (sorted_in a c)
sorted_stays a c w = stays_beside a (sorted_in a c) (beside_sorted a c) w

scanned_stays : (t : Tunables) (nb : ℕ) (cs : List Chunk) (sorted : ℕ) (stashed : Option Chunk) (a : Plain) → IsInMainWindows t a → KeepsWindows t (StepIn t) (scanned nb cs sorted stashed a)
scanned_stays t nb [] sorted stashed a w = scan_end_in t nb stashed a w
scanned_stays t nb (c ∷ cs) sorted stashed a w =
    windows_if t (StepIn t) (splits_remainder nb a c cs) _ _ (carved_in a c nb w)
    (windows_if t (StepIn t) (nat_eq c.size nb) _ _ (w, λ s fit. windows_if t (StepIn t) (flag_of s) _ _ (scanned_stays t nb cs sorted (Some c) (claimed a c) (claimed_in a c w)) (claimed_in a c w))
    (windows_if t (StepIn t) (nat_eq (sorted + 1) most_sorted) _ _ (scan_end_in t nb stashed (sorted_in a c) (sorted_stays a c w)) (scanned_stays t nb cs (sorted + 1) stashed (sorted_in a c) (sorted_stays a c w))))

taken_in : (t : Tunables) (nb : ℕ) (a : Plain) (o : Option Chunk) → IsInMainWindows t a → StepIn t (taken_from nb a o)
taken_in t nb a None w = w
taken_in t nb a (Some c) w = carved_in a c nb w

best_in : (t : Tunables) (nb : ℕ) (a : Plain) → IsInMainWindows t a → KeepsWindows t (StepIn t) (best_taken nb a)
best_in t nb a w =
    let cases : (small : Bool) → StepIn t (if small then Onward a else taken_from nb a (best_of nb (bin_at a (large_index_of nb)))) = elim [
      | true ↦ w
      | false ↦ taken_in t nb a (best_of nb (bin_at a (large_index_of nb))) w
    ] in
    cases (is_small_size nb)

top_in : (t : Tunables) (nb : ℕ) (a : Plain) → IsInMainWindows t a → KeepsWindows t (StepIn t) (top_taken nb a)
top_in t nb a w =
    let cases : (b : Bool) → StepIn t (if b then Taken (record { at = top_start a; size = nb }) (cut_from_top a nb) else Onward a) = elim [
      | true ↦ stays_beside a (cut_from_top a nb) (beside_cut a nb) w
      | false ↦ w
    ] in
    cases (has_top_for a nb)

pub looked_in : (t : Tunables) (nb : ℕ) (a : Plain) → IsInMainWindows t a → KeepsWindows t (StepIn t) (looked nb a)
looked_in t nb a w =
    next_in (scanned_all nb a) _ (scanned_stays t nb (reverse (unsorted_of a)) 0 None a w) (λ b v. next_in (best_taken nb b) _ (best_in t nb b v) (λ c u. next_in (larger_taken nb c) _ (taken_in t nb c _ u) (top_in t nb)))

step_in : (t : Tunables) (f : Plain → Rules Took) → ((a : Plain) → IsInMainWindows t a → KeepsWindows t (TookIn t) (f a)) → (step : Step) → StepIn t step → KeepsWindows t (TookIn t) (elim step [ Taken c b ↦ Stop (record { found = InArena c; arena = b }) | Onward b ↦ f b ])
step_in t f k (Taken c b) v = v
step_in t f k (Onward b) v = k b v

rounds_in : (n : ℕ) (t : Tunables) (nb : ℕ) (a : Plain) → IsInMainWindows t a → KeepsWindows t (TookIn t) (rounds n t nb a)
rounds_in zero t nb a w = windows_behind t (StepIn t) (TookIn t) (looked nb a) _ (looked_in t nb a w) (step_in t _ (system_in t nb))
rounds_in (suc n) t nb a w =
    windows_behind t (StepIn t) (TookIn t) (looked nb a) _ (looked_in t nb a w) (step_in t _ (λ b v. (
      v,
      λ s fit.
          windows_if t (TookIn t) (flag_of s) _ _ (windows_behind t (IsInMainWindows t) (TookIn t) (consolidated b) _ (consolidated_in t b v) (rounds_in n t nb)) (system_in t nb b v),
    )))

pub searched_in : (t : Tunables) (nb : ℕ) (a : Plain) → IsInMainWindows t a → KeepsWindows t (TookIn t) (searched t nb a)
searched_in t nb a w =
    windows_behind t (StepIn t) (TookIn t) (next_step (fast_taken t nb a) (λ b. next_step (small_taken nb b) (consolidated_first nb))) _
    (next_in (fast_taken t nb a) _ (fast_in t nb a w) (λ b v. next_in (small_taken nb b) _ (small_in t nb b v) (first_in t nb)))
    (step_in t _ (rounds_in 2 t nb))

-- ---- a resize, and a search for an aligned chunk

pub cut_behind_in : (t : Tunables) (nb : ℕ) (h : Hand) → IsInMainWindows t h.arena → KeepsWindows t (TookIn t) (cut_behind t nb h)
cut_behind_in t nb h w =
    let off : Plain = parted h.arena h.chunk nb in
    windows_behind t (IsInMainWindows t) (TookIn t) (released t off (back_of h.chunk nb)) _ (released_in t off (back_of h.chunk nb) (record { break = w.break; pieces = w.pieces })) (λ b v. v)

pub cut_to_in : (t : Tunables) (nb : ℕ) (h : Hand) → IsInMainWindows t h.arena → KeepsWindows t (TookIn t) (cut_to t nb h)
cut_to_in t nb h w = windows_if t (TookIn t) (nat_lt (h.chunk.size - nb) 32) _ _ w (cut_behind_in t nb h w)

moved_in : (t : Tunables) (c : Chunk) (took : Took) → IsInMainWindows t took.arena → KeepsWindows t (TookIn t) (moved_from_old t c took)
moved_in t c took w = windows_behind t (IsInMainWindows t) (TookIn t) (released t took.arena c) _ (released_in t took.arena c w) (λ b v. v)

resize_with_in : (t : Tunables) (c : Chunk) (nb : ℕ) (took : Took) → TookIn t took → KeepsWindows t (TookIn t) (resize_with t c nb took)
resize_with_in t c nb took w = elim took.found as (λ found. KeepsWindows t (TookIn t) (elim found [
  | InArena d ↦ if is_next_to c d then cut_to t nb (joined_with (hand c took.arena) d) else moved_from_old t c took
  | InMapping d ↦ moved_from_old t c took
  | Nowhere ↦ Stop took
])) [
  | InArena d ↦ windows_if t (TookIn t) (is_next_to c d) _ _ (cut_to_in t nb (joined_with (hand c took.arena) d) (record { break = w.break; pieces = w.pieces })) (moved_in t c took w)
  | InMapping d ↦ moved_in t c took w
  | Nowhere ↦ w
]

pub resize_in : (t : Tunables) (a : Plain) (c : Chunk) (nb : ℕ) → IsInMainWindows t a → KeepsWindows t (TookIn t) (resize_of t a c nb)
resize_in t a c nb w =
    let absorbs : IsInMainWindows t (absorbed a c) = record { break = w.break; pieces = w.pieces } in
    windows_if t (TookIn t) (nat_le nb c.size) _ _ (cut_to_in t nb (hand c a) w)
    (windows_if t (TookIn t) (fits_with_top a c nb) _ _ (stays_beside (absorbed a c) (grown_into_top a c nb) (beside_cut (absorbed a c) nb) absorbs)
    (windows_if t (TookIn t) (fits_with_free a c nb) _ _ (cut_to_in t nb (joined_behind (hand c a)) (stays_beside a (joined_behind (hand c a)).arena (beside_joined_behind (hand c a)) w))
    (windows_behind t (TookIn t) (TookIn t) (searched t nb a) (resize_with t c nb) (searched_in t nb a w) (resize_with_in t c nb))))

pub tail_cut_in : (t : Tunables) (nb : ℕ) (h : Hand) → IsInMainWindows t h.arena → KeepsWindows t (TookIn t) (tail_cut t nb h)
tail_cut_in t nb h w = windows_if t (TookIn t) (nat_lt (nb + 32) h.chunk.size) _ _ (cut_behind_in t nb h w) w

pub aligned_in_windows : (t : Tunables) (align nb : ℕ) (h : Hand) → IsInMainWindows t h.arena → KeepsWindows t (TookIn t) (aligned_in t align nb h)
aligned_in_windows t align nb h w =
    let lead : ℕ = lead_of align h.chunk.at in
    let off : Plain = parted h.arena h.chunk lead in
    windows_if t (TookIn t) (nat_eq lead 0) _ _ (tail_cut_in t nb h w)
    (windows_behind t (IsInMainWindows t) (TookIn t) (released t off (front_of h.chunk lead)) _ (released_in t off (front_of h.chunk lead) (record { break = w.break; pieces = w.pieces })) (λ b v. tail_cut_in t nb (hand (back_of h.chunk lead) b) v))

align_with_in : (t : Tunables) (align nb : ℕ) (took : Took) → TookIn t took → KeepsWindows t (TookIn t) (align_with t align nb took)
align_with_in t align nb took w = elim took.found as (λ found. KeepsWindows t (TookIn t) (elim found [
  | InArena c ↦ aligned_in t align nb (hand c took.arena)
  | InMapping c ↦ Stop took
  | Nowhere ↦ Stop took
])) [
  | InArena c ↦ aligned_in_windows t align nb (hand c took.arena) w
  | InMapping c ↦ w
  | Nowhere ↦ w
]

pub align_in : (t : Tunables) (align nb : ℕ) (a : Plain) → IsInMainWindows t a → KeepsWindows t (TookIn t) (align_of t align nb a)
align_in t align nb a w =
    windows_behind t (TookIn t) (TookIn t) (searched t (size_with_lead align nb) a) (align_with t align nb) (searched_in t (size_with_lead align nb) a w) (align_with_in t align nb)
