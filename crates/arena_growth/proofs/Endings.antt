-- Laws of where main's top ends, for this crate: what is granted by the break ends there, and so does what is left after
-- chunks are released.
use Rattle.std.proofs.Common.{◌≡◌, ℕ, ◌+◌, ◌-◌, ◌<◌, ◌≤◌, suc, zero, Bool, true, false, cond, List, [], ◌∷◌, ◌++◌, length, Option, Some, None, IsTrue, refl, sym, ap, ◌∙◌, subst, arith}
use Rattle.std.specs.Prelude.{nat_eq, nat_lt, nat_le, sum_by, drop, if◌then◌else◌}
use Rattle.std.proofs.lemmas.Bool.{cond-true, cond-false, ltb-true, le-leb, eqb-true, eq-eqb}
use Rattle.std.proofs.lemmas.List.Sums.{sum_by-cons, sum_by-append}
use Rattle.chunk_tags.specs.BinOrder.{once, fast_chunk}
use Rattle.chunk_tags.specs.Sizes.{fast_index_of}
use Rattle.chunk_tags.specs.Tiles.{is_free, is_top, end_of, swapped, fused, entered, tile_at, tile_before, tile_behind, top_of}
use Rattle.chunk_tags.specs.declared.tiles.Chunk.{Chunk}
use Rattle.chunk_tags.specs.declared.tiles.Tile.{Tile}
use Rattle.chunk_tags.specs.declared.tiles.TileKind.TheVariants.{Used, Free, Top, Fence}
use Rattle.chunk_tags.specs.declared.tunables.Tunables.{Tunables}
use Rattle.address_space.specs.declared.asks.Back.TheVariants as backs
use Rattle.arena_rules.specs.PlainArena.{Plain, IsSound, is_main, is_own, times_used, beside}
use Rattle.arena_rules.specs.MainPlaces.{IsMainPlaced}
use Rattle.arena_rules.specs.Moves.{tile_of, with_tiles, Hand, joined, joined_before, joined_behind, is_before_top, absorbed, shelved, top_size, top_end, with_top_size, with_new_top, with_moved_top, closed_top}
use Rattle.arena_rules.specs.Release.{Merging, merged, merging_bin, merging_bins, consolidated, consolidated_if, trimmed_by_threshold, settled, settling_size, given, released}
use Rattle.arena_rules.specs.Trim.{main_spare, main_cut, CanCutMain, trimmed, trimmed_main, trimmed_heaps}
use Rattle.arena_rules.specs.Growth.{closing, main_growth, has_top_for, with_break, is_top_at_break, break_taken}
use Rattle.arena_rules.specs.Rules.{Rules, Stop, Misfit, Does, Needs, Gives, Stashes, Pushes, behind, chunk_told, flag_of, number_told, asks_flag}
use Rattle.arena_rules.specs.declared.said.Said.{Said}
use Rattle.arena_rules.proofs.Beside.{beside_merged, beside_sized, beside_moved_top}
use Rattle.arena_rules.proofs.Changes.{AreNeighbours, neighbours_before, neighbours_behind}
use Rattle.arena_rules.proofs.ChunkMoves.{own_count, free_is, IsJoinedBefore, joined_before_moved, IsJoinedBehind, joined_behind_moved}
use Rattle.arena_rules.proofs.Counts.{used_tile}
use Rattle.arena_rules.proofs.MainPlaces.{placed_still}
use Rattle.arena_rules.proofs.Merging.{HasTopBehind, has_top_behind, merged_moved}
use Rattle.arena_rules.proofs.Moved.{weight_top, none, sound_as}
use Rattle.arena_rules.proofs.Tops.{IsTopOf, top_found, top_at}
use Rattle.consolidate_trim.proofs.Trims.{spare_can, IsCutKept, cut_kept}

-- ---- sums over a row that changed

sum_swapped : (w : Tile → ℕ) (at : ℕ) (t : Tile) (news ts : List Tile) → tile_at at ts ≡ Some t → sum_by w (swapped at news ts) + w t ≡ sum_by w ts + sum_by w news
sum_swapped w at t news [] e = absurd cc
sum_swapped w at t news (u ∷ us) e =
    let cases : (b : Bool) → cond b (Some u) (tile_at at us) ≡ Some t → sum_by w (cond b (news ++ us) (u ∷ swapped at news us)) + w t ≡ sum_by w (u ∷ us) + sum_by w news = elim [
      | true ↦ λ h. let same : u ≡ t = cc in omega (arith, sum_by-append w news us, sum_by-cons w u us, ap w same)
      | false ↦ λ h. omega (arith, sum_by-cons w u (swapped at news us), sum_by-cons w u us, sum_swapped w at t news us h)
    ] in
    cases (nat_eq u.addr at) e

sum_fused : (w : Tile → ℕ) (at : ℕ) (t u x : Tile) (ts : List Tile) → tile_at at ts ≡ Some t → tile_behind at ts ≡ Some u → sum_by w (fused at x ts) + (w t + w u) ≡ sum_by w ts + w x
sum_fused w at t u x [] e next = absurd cc
sum_fused w at t u x (v ∷ []) e next = absurd cc
sum_fused w at t u x (v ∷ y ∷ ys) e next =
    let cases : (b : Bool) → cond b (Some v) (tile_at at (y ∷ ys)) ≡ Some t → cond b (Some y) (tile_behind at (y ∷ ys)) ≡ Some u →
    sum_by w (cond b (x ∷ drop 1 (y ∷ ys)) (v ∷ fused at x (y ∷ ys))) + (w t + w u) ≡ sum_by w (v ∷ y ∷ ys) + w x = elim [
      | true ↦ λ h k.
          let first : v ≡ t = cc in
          let second : y ≡ u = cc in
          omega (arith, sum_by-cons w x ys, sum_by-cons w v (y ∷ ys), sum_by-cons w y ys, ap w first, ap w second)
      | false ↦ λ h k. omega (arith, sum_by-cons w v (fused at x (y ∷ ys)), sum_by-cons w v (y ∷ ys), sum_fused w at t u x (y ∷ ys) h k)
    ] in
    cases (nat_eq v.addr at) e next

sum_entered : (w : Tile → ℕ) (x : Tile) (ts : List Tile) → sum_by w (entered x ts) ≡ sum_by w ts + w x
sum_entered w x [] = omega (arith, sum_by-cons w x [])
sum_entered w x (t ∷ ts) =
    let cases : (b : Bool) → sum_by w (cond b (x ∷ t ∷ ts) (t ∷ entered x ts)) ≡ sum_by w (t ∷ ts) + w x = elim [
      | true ↦ omega (arith, sum_by-cons w x (t ∷ ts))
      | false ↦ omega (arith, sum_by-cons w t (entered x ts), sum_by-cons w t ts, sum_entered w x ts)
    ] in
    cases (nat_lt x.addr t.addr)

-- ---- where top ends, as a sum

abbrev end_weight : Tile → ℕ
end_weight t = cond (is_top t) (end_of t) 0

abbrev tops_end : Plain → ℕ
tops_end a = sum_by end_weight a.tiles

no_end : (ts : List Tile) → sum_by weight_top ts ≡ 0 → sum_by end_weight ts ≡ 0
no_end [] e = refl
no_end (t ∷ ts) e =
    let one = sum_by-cons weight_top t ts in
    let cases : (b : Bool) → is_top t ≡ b → sum_by end_weight (t ∷ ts) ≡ 0 = elim [
      | true ↦ λ is. absurd (omega (arith, one, e, ap {B = ℕ} (λ (b : Bool). cond b 1 0) is))
      | false ↦ λ is. omega (arith, sum_by-cons end_weight t ts, no_end ts (omega (arith, one, e)), ap {B = ℕ} (λ (b : Bool). cond b (end_of t) 0) is)
    ] in
    cases (is_top t) refl

end_in : (ts : List Tile) → sum_by weight_top ts ≤ 1 → sum_by end_weight ts ≡ elim (top_of ts) [ None ↦ 0 | Some t ↦ end_of t ]
end_in [] le = refl
end_in (t ∷ ts) le =
    let one = sum_by-cons weight_top t ts in
    let cases : (b : Bool) → is_top t ≡ b → sum_by end_weight (t ∷ ts) ≡ elim (cond b (Some t) (top_of ts)) [ None ↦ 0 | Some t ↦ end_of t ] = elim [
      | true ↦ λ is.
          let rest : sum_by weight_top ts ≡ 0 = omega (arith, one, le, ap {B = ℕ} (λ (b : Bool). cond b 1 0) is) in
          omega (arith, sum_by-cons end_weight t ts, no_end ts rest, ap {B = ℕ} (λ (b : Bool). cond b (end_of t) 0) is)
      | false ↦ λ is. omega (arith, sum_by-cons end_weight t ts, end_in ts (omega (arith, one, le)), ap {B = ℕ} (λ (b : Bool). cond b (end_of t) 0) is)
    ] in
    cases (is_top t) refl

top_ends : (a : Plain) → IsSound a → tops_end a ≡ top_end a
top_ends a s =
    let le : (b : Bool) → cond {A = ℕ} b 1 0 ≤ 1 = elim [ true ↦ omega arith | false ↦ omega arith ] in
    end_in a.tiles (omega (arith, s.one_top, le (nat_lt 0 (length a.tiles))))

-- ---- merging leaves top's end

joined_end : (h : Hand) (at : ℕ) (t u x : Tile) → AreNeighbours t u h.arena.tiles → t.addr ≡ at → end_weight t ≡ 0 → end_weight u ≡ 0 → end_weight x ≡ 0 → sum_by end_weight (fused at x h.arena.tiles) ≡ tops_end h.arena
joined_end h at t u x next here t0 u0 x0 =
    omega (arith, t0, u0, x0, sum_fused end_weight at t u x h.arena.tiles (subst (λ (n : ℕ). tile_at n h.arena.tiles ≡ Some t) here next.first) (subst (λ (n : ℕ). tile_behind n h.arena.tiles ≡ Some u) here next.behind))

end_joined_before : (h : Hand) → IsSound h.arena → 0 < times_used h.chunk h.arena → tops_end (joined_before h).arena ≡ tops_end h.arena
end_joined_before h s own =
    let u : Tile = tile_of Used h.chunk.at h.chunk.size in
    let cases : (o : Option Tile) → tile_before h.chunk.at h.arena.tiles ≡ o → let r : Hand = elim o [ None ↦ h | Some t ↦ cond (is_free t) (joined h t t.addr) h ] in tops_end r.arena ≡ tops_end h.arena = elim [
      | None ↦ λ e. refl
      | Some t ↦ λ e.
          let kinds : (b : Bool) → is_free t ≡ b → tops_end (cond b (joined h t t.addr) h).arena ≡ tops_end h.arena = elim [
            | true ↦ λ free. joined_end h t.addr t u (tile_of Used t.addr (h.chunk.size + t.size)) (neighbours_before t u h.arena.tiles s.row (used_tile h.chunk h.arena s.row own) e) refl (ap end_weight (free_is t free)) refl refl
            | false ↦ λ is. refl
          ] in
          kinds (is_free t) refl
    ] in
    cases (tile_before h.chunk.at h.arena.tiles) refl

end_joined_behind : (h : Hand) → IsSound h.arena → 0 < times_used h.chunk h.arena → tops_end (joined_behind h).arena ≡ tops_end h.arena
end_joined_behind h s own =
    let t : Tile = tile_of Used h.chunk.at h.chunk.size in
    let cases : (o : Option Tile) → tile_behind h.chunk.at h.arena.tiles ≡ o → let r : Hand = elim o [ None ↦ h | Some u ↦ cond (is_free u) (joined h u h.chunk.at) h ] in tops_end r.arena ≡ tops_end h.arena = elim [
      | None ↦ λ e. refl
      | Some u ↦ λ e.
          let kinds : (b : Bool) → is_free u ≡ b → tops_end (cond b (joined h u h.chunk.at) h).arena ≡ tops_end h.arena = elim [
            | true ↦ λ free. joined_end h h.chunk.at t u (tile_of Used h.chunk.at (h.chunk.size + u.size)) (neighbours_behind t u h.arena.tiles s.row (used_tile h.chunk h.arena s.row own) e) refl refl (ap end_weight (free_is u free)) refl
            | false ↦ λ is. refl
          ] in
          kinds (is_free u) refl
    ] in
    cases (tile_behind h.chunk.at h.arena.tiles) refl

end_absorbed : (a : Plain) (c : Chunk) → IsSound a → 0 < times_used c a → is_before_top a c ≡ true → tops_end (absorbed a c) ≡ tops_end a
end_absorbed a c s own is =
    let t : Tile = tile_of Used c.at c.size in
    let h : HasTopBehind a c = has_top_behind a c is in
    let next : AreNeighbours t h.tile a.tiles = neighbours_behind t h.tile a.tiles s.row (used_tile c a s.row own) h.behind in
    let size : top_size a ≡ h.tile.size = ap (λ (o : Option Tile). elim o [ None ↦ 0 | Some t ↦ t.size ]) (top_at a h.tile s next.second h.top) in
    let joins : c.at + c.size ≡ h.tile.addr = next.meets.joins refl in
    omega (
      arith,
      size,
      joins,
      ap {B = ℕ} (λ (b : Bool). cond b (end_of h.tile) 0) h.top,
      sum_fused end_weight c.at t h.tile (tile_of Top c.at (c.size + top_size a)) a.tiles next.first next.behind,
    )

end_shelved : (a : Plain) (c : Chunk) → IsSound a → 0 < times_used c a → tops_end (shelved a c) ≡ tops_end a
end_shelved a c s own =
    let x : Tile = tile_of Free c.at c.size in
    omega (arith, sum_swapped end_weight c.at (tile_of Used c.at c.size) (x ∷ []) a.tiles (used_tile c a s.row own), sum_by-cons end_weight x [])

end_merged : (a : Plain) (c : Chunk) → IsSound a → IsTrue (is_own a c) → tops_end (merged a c).arena ≡ tops_end a
end_merged a c s own =
    let h0 : Hand = record { chunk = c; arena = a } in
    let h1 : Hand = joined_before h0 in
    let h2 : Hand = joined_behind h1 in
    let m1 : IsJoinedBefore h0 h1 = joined_before_moved h0 s (own_count a c own) in
    let m2 : IsJoinedBehind h1 h2 = joined_behind_moved h1 m1.joined.moved.sound m1.joined.own in
    let same : tops_end h2.arena ≡ tops_end a = end_joined_behind h1 m1.joined.moved.sound m1.joined.own ∙ end_joined_before h0 s (own_count a c own) in
    let cases : (b : Bool) → is_before_top h2.arena h2.chunk ≡ b → tops_end (cond {A = Merging} b (record { arena = absorbed h2.arena h2.chunk; size = h2.chunk.size + top_size h2.arena; in_top = true }) (record { arena = shelved h2.arena h2.chunk; size = h2.chunk.size; in_top = false })).arena ≡ tops_end a = elim [
      | true ↦ λ is. end_absorbed h2.arena h2.chunk m2.joined.moved.sound m2.joined.own is ∙ same
      | false ↦ λ is. end_shelved h2.arena h2.chunk m2.joined.moved.sound m2.joined.own ∙ same
    ] in
    cases (is_before_top h2.arena h2.chunk) refl

-- ---- top at the break

pub record EndsAtBreak (a : Plain) : Type 0 where
  pub sound : IsSound a
  pub main : IsTrue (is_main a)
  pub placed : IsMainPlaced a
  pub end : top_end a ≡ a.break_at

merged_ends : (a : Plain) (c : Chunk) → EndsAtBreak a → IsTrue (is_own a c) → EndsAtBreak (merged a c).arena
merged_ends a c e own =
    let sound : IsSound (merged a c).arena = (merged_moved a c e.sound own).sound in
    record {
      sound = sound;
      main = ap (λ (x : Plain). is_main x) (beside_merged a c) ∙ e.main;
      placed = placed_still a (merged a c).arena (λ x. once x c) none (merged_moved a c e.sound own) (beside_merged a c) (λ _. e.placed) (ap (λ (x : Plain). is_main x) (beside_merged a c) ∙ e.main);
      end = sym (top_ends (merged a c).arena sound) ∙ (end_merged a c e.sound own ∙ (top_ends a e.sound ∙ (e.end ∙ sym (ap (λ (x : Plain). x.break_at) (beside_merged a c)))));
    }

end_sized : (a : Plain) (t : Tile) (now : ℕ) → IsSound a → top_of a.tiles ≡ Some t → tops_end (with_top_size a now) + end_of t ≡ tops_end a + (t.addr + now)
end_sized a t now s e =
    let f : IsTopOf t a.tiles = top_found t a.tiles s.row e in
    let x : Tile = tile_of Top t.addr now in
    let there : (o : Option Tile) → o ≡ Some t → tops_end (elim o [ None ↦ a | Some t ↦ with_tiles a t.addr (tile_of Top t.addr now ∷ []) ]) ≡ sum_by end_weight (swapped t.addr (x ∷ []) a.tiles) = λ o is.
    ap (λ (o : Option Tile). tops_end (elim o [ None ↦ a | Some t ↦ with_tiles a t.addr (tile_of Top t.addr now ∷ []) ])) is in
    omega (arith, there (top_of a.tiles) e, sum_swapped end_weight t.addr t (x ∷ []) a.tiles f.found, sum_by-cons end_weight x [], ap {B = ℕ} (λ (b : Bool). cond b (end_of t) 0) f.top)

cut_ends : (a : Plain) (bytes : ℕ) → EndsAtBreak a → CanCutMain a bytes → EndsAtBreak (main_cut a bytes)
cut_ends a bytes e can =
    let k : IsCutKept a bytes = cut_kept a bytes e.sound can in
    let tops : (o : Option Tile) → top_of a.tiles ≡ o → tops_end (main_cut a bytes) + bytes ≡ tops_end a = elim [
      | None ↦ λ is. let size : top_size a ≡ 0 = ap (λ (o : Option Tile). elim o [ None ↦ 0 | Some t ↦ t.size ]) is in absurd (omega (arith, can.left, size))
      | Some t ↦ λ is.
          let size : top_size a ≡ t.size = ap (λ (o : Option Tile). elim o [ None ↦ 0 | Some t ↦ t.size ]) is in
          omega (arith, end_sized a t (top_size a - bytes) e.sound is, size, can.left)
    ] in
    record {
      sound = k.sound;
      main = ap (λ (n : ℕ). nat_eq n 0) k.number ∙ e.main;
      placed = k.placed (λ _. e.placed) (ap (λ (n : ℕ). nat_eq n 0) k.number ∙ e.main);
      end = omega (arith, top_ends (main_cut a bytes) k.sound, top_ends a e.sound, tops (top_of a.tiles) refl, e.end);
    }

-- ---- what all ends of rules have

abbrev pub AllEnd : {A : Type 0} → (A → Type 0) → Rules A → Type 0
AllEnd Q (Stop x) = Q x
AllEnd Q Misfit = Unit {0}
AllEnd Q (Does d r) = AllEnd Q r
AllEnd Q (Needs a n f) = (s : Said) → AllEnd Q (f s)

pub all_behind : {A B : Type 0} (P : A → Type 0) (Q : B → Type 0) (r : Rules A) (f : A → Rules B) → AllEnd P r → ((x : A) → P x → AllEnd Q (f x)) → AllEnd Q (behind r f)
all_behind P Q (Stop x) f h k = k x h
all_behind P Q Misfit f h k = tt
all_behind P Q (Does d r) f h k = all_behind P Q r f h k
all_behind P Q (Needs a n g) f h k = λ s. all_behind P Q (g s) f (h s) k

merging_bin_ends : (n bin : ℕ) (a : Plain) → EndsAtBreak a → AllEnd EndsAtBreak (merging_bin n bin a)
merging_bin_ends zero bin a e = tt
merging_bin_ends (suc n) bin a e = λ s.
    let owns : (at : ℕ) (b : Bool) → is_own a (fast_chunk bin at) ≡ b → AllEnd EndsAtBreak (if b then merging_bin n bin (merged a (fast_chunk bin at)).arena else Misfit) = λ at. elim [
      | true ↦ λ is. merging_bin_ends n bin (merged a (fast_chunk bin at)).arena (merged_ends a (fast_chunk bin at) e is)
      | false ↦ λ is. tt
    ] in
    let cases : (o : Option ℕ) → AllEnd EndsAtBreak (elim o [ None ↦ Stop a | Some at ↦ if is_own a (fast_chunk bin at) then merging_bin n bin (merged a (fast_chunk bin at)).arena else Misfit ]) = elim [
      | None ↦ e
      | Some at ↦ owns at (is_own a (fast_chunk bin at)) refl
    ] in
    cases (chunk_told s)

merging_bins_ends : (n bin : ℕ) (a : Plain) → EndsAtBreak a → AllEnd EndsAtBreak (merging_bins n bin a)
merging_bins_ends zero bin a e = e
merging_bins_ends (suc n) bin a e =
    all_behind EndsAtBreak EndsAtBreak (merging_bin (suc (length a.tiles)) bin a) (λ b. merging_bins n (bin + 1) b) (merging_bin_ends (suc (length a.tiles)) bin a e) (λ b. merging_bins_ends n (bin + 1) b)

consolidated_ends : (a : Plain) → EndsAtBreak a → AllEnd EndsAtBreak (consolidated a)
unfolding consolidated
consolidated_ends a e = merging_bins_ends 10 0 a e

consolidated_if_ends : (flag : Bool) (a : Plain) → EndsAtBreak a → AllEnd EndsAtBreak (consolidated_if flag a)
consolidated_if_ends true a e = consolidated_ends a e
consolidated_if_ends false a e = e

trimmed_ends : (t : Tunables) (a : Plain) (threshold : ℕ) → EndsAtBreak a → AllEnd EndsAtBreak (trimmed t a threshold)
trimmed_ends t a threshold e =
    let bytes : ℕ = main_spare t a threshold in
    let cases : (b : Bool) → nat_lt 0 bytes ≡ b → AllEnd EndsAtBreak (if b then Does (Gives (backs.Break a.break_at (a.break_at - bytes))) (Stop (main_cut a bytes)) else Stop a) = elim [
      | true ↦ λ is. cut_ends a bytes e (spare_can t a threshold (ltb-true 0 bytes is))
      | false ↦ λ is. e
    ] in
    subst (λ (r : Rules Plain). AllEnd EndsAtBreak r) (sym (cond-true {A = Rules Plain} (is_main a) (trimmed_main t a threshold) (trimmed_heaps t a threshold) e.main)) (cases (nat_lt 0 bytes) refl)

settled_ends : (t : Tunables) (m : Merging) → EndsAtBreak m.arena → AllEnd EndsAtBreak (settled t m)
settled_ends t m e =
    let after : (flag : Bool) → AllEnd EndsAtBreak (behind (consolidated_if flag m.arena) (λ a. trimmed_by_threshold t a)) = λ flag.
    all_behind EndsAtBreak EndsAtBreak (consolidated_if flag m.arena) (λ a. trimmed_by_threshold t a) (consolidated_if_ends flag m.arena e) (λ b f s. trimmed_ends t b (number_told s) f) in
    let cases : (b : Bool) → AllEnd EndsAtBreak (if b then Stop m.arena else asks_flag m.arena (λ flag. behind (consolidated_if flag m.arena) (λ a. trimmed_by_threshold t a))) = elim [
      | true ↦ e
      | false ↦ λ s. after (flag_of s)
    ] in
    cases (nat_lt m.size settling_size)

released_ends : (t : Tunables) (a : Plain) (c : Chunk) → EndsAtBreak a → IsTrue (is_own a c) → AllEnd EndsAtBreak (released t a c)
released_ends t a c e own = λ s.
    let fast : (b : Bool) → AllEnd EndsAtBreak (if b then Does (Pushes (fast_index_of c.size) c.at) (Stop a) else given t a c) = elim [
      | true ↦ e
      | false ↦ settled_ends t (merged a c) (merged_ends a c e own)
    ] in
    let cases : (b : Bool) → AllEnd EndsAtBreak (if b then Does (Stashes c) (Stop a) else (if nat_le c.size t.max_fast then Does (Pushes (fast_index_of c.size) c.at) (Stop a) else given t a c)) = elim [
      | true ↦ e
      | false ↦ fast (nat_le c.size t.max_fast)
    ] in
    cases (flag_of s)

-- ---- what the break grew by ends there

closed_end : (t : Tile) → sum_by end_weight (closed_top t) ≡ 0
closed_end t =
    let cases : (b : Bool) → sum_by end_weight (cond b (tile_of Fence t.addr t.size ∷ []) (tile_of Used t.addr (t.size - 32) ∷ tile_of Fence (t.addr + (t.size - 32)) 32 ∷ [])) ≡ 0 = elim [ true ↦ refl | false ↦ refl ] in
    cases (nat_lt t.size 64)

end_moved : (a : Plain) (at size : ℕ) → IsSound a → tops_end (with_moved_top a at size) ≡ at + size
end_moved a at size s =
    let x : Tile = tile_of Top at size in
    let cases : (o : Option Tile) → top_of a.tiles ≡ o → tops_end (elim o [ None ↦ with_new_top a at size | Some t ↦ with_new_top (with_tiles a t.addr (closed_top t)) at size ]) ≡ at + size = elim [
      | None ↦ λ e.
          let none : top_end a ≡ 0 = ap (λ (o : Option Tile). elim o [ None ↦ 0 | Some t ↦ end_of t ]) e in
          omega (arith, sum_entered end_weight x a.tiles, top_ends a s, none)
      | Some t ↦ λ e.
          let f : IsTopOf t a.tiles = top_found t a.tiles s.row e in
          let end : top_end a ≡ end_of t = ap (λ (o : Option Tile). elim o [ None ↦ 0 | Some t ↦ end_of t ]) e in
          omega (arith, sum_entered end_weight x (swapped t.addr (closed_top t) a.tiles), sum_swapped end_weight t.addr t (closed_top t) a.tiles f.found, closed_end t, top_ends a s, end, ap {B = ℕ} (λ (b : Bool). cond b (end_of t) 0) f.top)
    ] in
    cases (top_of a.tiles) refl

-- top is at the break
record HasTopAtBreak (a : Plain) : Type 0 where
  tile : Tile
  top : top_of a.tiles ≡ Some tile
  end : end_of tile ≡ a.break_at

has_top_at_break : (a : Plain) → 0 < a.break_at → top_end a ≡ a.break_at → HasTopAtBreak a
has_top_at_break a some is =
    let cases : (o : Option Tile) → top_of a.tiles ≡ o → elim o [ None ↦ 0 | Some t ↦ end_of t ] ≡ a.break_at → HasTopAtBreak a = elim [
      | None ↦ λ e h. absurd (omega (arith, h, some))
      | Some t ↦ λ e h. record { tile = t; top = e; end = h }
    ] in
    cases (top_of a.tiles) refl is

pub break_taken_ends : (a : Plain) (growth : ℕ) → IsSound a → IsTrue (is_main a) → 0 < a.break_at → IsSound (break_taken a growth) → IsMainPlaced (break_taken a growth) → EndsAtBreak (break_taken a growth)
break_taken_ends a growth s main some sound placed =
    let b : Plain = with_break a growth in
    let sound_b : IsSound b = sound_as a b refl refl s in
    let kept : (new : Plain) → beside new ≡ beside b → tops_end new ≡ a.break_at + growth → IsSound new → IsMainPlaced new → EndsAtBreak new = λ new same end sound placed. record {
      sound = sound;
      main = ap (λ (x : Plain). is_main x) same ∙ main;
      placed = placed;
      end = omega (arith, top_ends new sound, end, ap (λ (x : Plain). x.break_at) same);
    } in
    let cases : (top : Bool) → is_top_at_break a ≡ top → IsSound (cond top (with_top_size b (top_size a + growth)) (with_moved_top b a.break_at growth)) → IsMainPlaced (cond top (with_top_size b (top_size a + growth)) (with_moved_top b a.break_at growth)) → EndsAtBreak (cond top (with_top_size b (top_size a + growth)) (with_moved_top b a.break_at growth)) = elim [
      | true ↦ λ is sound placed.
          let t : HasTopAtBreak a = has_top_at_break a some (eqb-true (top_end a) a.break_at is) in
          let size : top_size a ≡ t.tile.size = ap (λ (o : Option Tile). elim o [ None ↦ 0 | Some t ↦ t.size ]) t.top in
          let end : top_end a ≡ end_of t.tile = ap (λ (o : Option Tile). elim o [ None ↦ 0 | Some t ↦ end_of t ]) t.top in
          kept (with_top_size b (top_size a + growth)) (beside_sized b (top_size a + growth))
          (omega (arith, end_sized b t.tile (top_size a + growth) sound_b t.top, size, t.end, end, top_ends a s)) sound placed
      | false ↦ λ is sound placed. kept (with_moved_top b a.break_at growth) (beside_moved_top b a.break_at growth) (end_moved b a.break_at growth sound_b) sound placed
    ] in
    cases (is_top_at_break a) refl sound placed

swapped_at : (at : ℕ) (t x : Tile) (ts : List Tile) → tile_at at ts ≡ Some t → x.addr ≡ at → tile_at at (swapped at (x ∷ []) ts) ≡ Some x
swapped_at at t x [] e here = absurd cc
swapped_at at t x (u ∷ us) e here =
    let cases : (b : Bool) → nat_eq u.addr at ≡ b → cond b (Some u) (tile_at at us) ≡ Some t → tile_at at (cond b (x ∷ us) (u ∷ swapped at (x ∷ []) us)) ≡ Some x = elim [
      | true ↦ λ is h. cond-true (nat_eq x.addr at) (Some x) (tile_at at us) (eq-eqb x.addr at here)
      | false ↦ λ is h. cond-false (nat_eq u.addr at) (Some u) (tile_at at (swapped at (x ∷ []) us)) is ∙ swapped_at at t x us h here
    ] in
    cases (nat_eq u.addr at) refl e

-- top at the break suffices once the break has grown
pub at_break_suffices : (t : Tunables) (nb : ℕ) (a : Plain) → IsSound a → 0 < a.break_at → top_end a ≡ a.break_at → IsSound (break_taken a (main_growth t a nb)) → has_top_for (break_taken a (main_growth t a nb)) nb ≡ true
at_break_suffices t nb a s some end sound =
    let growth : ℕ = main_growth t a nb in
    let b : Plain = with_break a growth in
    let now : ℕ = top_size a + growth in
    let taken : Plain = with_top_size b now in
    let is : break_taken a growth ≡ taken = cond-true {A = Plain} (is_top_at_break a) taken (with_moved_top b a.break_at growth) (eq-eqb (top_end a) a.break_at end) in
    let top : HasTopAtBreak a = has_top_at_break a some end in
    let x : Tile = tile_of Top top.tile.addr now in
    let tiles : taken.tiles ≡ swapped top.tile.addr (x ∷ []) a.tiles = (let sized : Option Tile → Plain = λ o. elim o [ None ↦ b | Some t ↦ with_tiles b t.addr (tile_of Top t.addr now ∷ []) ] in ap (λ (o : Option Tile). (sized o).tiles) top.top) in
    let sound_taken : IsSound taken = subst IsSound is sound in
    let found : tile_at top.tile.addr taken.tiles ≡ Some x = ap (tile_at top.tile.addr) tiles ∙ swapped_at top.tile.addr top.tile x a.tiles (top_found top.tile a.tiles s.row top.top).found refl in
    let size : top_size taken ≡ now = ap (λ (o : Option Tile). elim o [ None ↦ 0 | Some t ↦ t.size ]) (top_at taken x sound_taken found refl) in
    let part : (b : Bool) → cond b (top_size a) 0 ≤ top_size a = elim [ true ↦ omega arith | false ↦ omega arith ] in
    let enough : nb + 32 ≤ now = omega (arith, part a.contiguous) in
    ap (λ (y : Plain). has_top_for y nb) is ∙ le-leb (nb + 32) (top_size taken) (omega (arith, size, enough))

pub closing_ends : (t : Tunables) (rest : Option Chunk) (a : Plain) → EndsAtBreak a → ((c : Chunk) → rest ≡ Some c → IsTrue (is_own a c)) → AllEnd EndsAtBreak (closing t rest a)
closing_ends t None a e own = e
closing_ends t (Some c) a e own = released_ends t a c e (own c refl)
