-- Laws of trimming main, for this crate and those above it.
use Rattle.std.proofs.Common.{◌≡◌, ℕ, ◌-◌, ◌<◌, Bool, true, false, cond, Option, Some, None, IsTrue, refl, sym, ap, ◌∙◌, subst, inl, inr, arith}
use Rattle.std.specs.Prelude.{nat_eq, nat_lt, nat_le}
use Rattle.std.proofs.lemmas.Bool.{cond-true, cond-false, lt-ltb, eqb-true, cases_lt}
use Rattle.chunk_tags.specs.declared.tiles.Chunk.{Chunk}
use Rattle.chunk_tags.specs.declared.tiles.Tile.{Tile}
use Rattle.chunk_tags.specs.declared.tunables.Tunables.{Tunables}
use Rattle.chunk_tags.specs.Pages.{page_down_of}
use Rattle.chunk_tags.specs.Sizes.{IsChunkSize}
use Rattle.chunk_tags.specs.Tiles.{IsTile, top_of}
use Rattle.address_space.specs.Spaces.{GivesWithin}
use Rattle.address_space.specs.declared.asks.Back.TheVariants as backs
use Rattle.address_space.specs.declared.space.Space.{Space}
use Rattle.arena_rules.specs.MainPlaces.{IsPlaced}
use Rattle.arena_rules.specs.Moves.{top_size, top_end, with_top_size}
use Rattle.arena_rules.specs.PlainArena.{Plain, IsSound, is_main, times_used}
use Rattle.arena_rules.specs.Rules.{Rules, Stop, Does, Gives}
use Rattle.arena_rules.specs.Trim.{main_spare, main_cut, CanCutMain, trimmed, trimmed_main, trimmed_heaps}
use Rattle.arena_rules.specs.Walks.{Reaches}
use Rattle.arena_rules.proofs.Beside.{beside_sized}
use Rattle.arena_rules.proofs.Changes.{tile_is}
use Rattle.arena_rules.proofs.MainPlaces.{main_cut_moved}
use Rattle.arena_rules.proofs.Moved.{Moved, none, sound_as}
use Rattle.arena_rules.proofs.Tops.{top_found}
use Rattle.arena_rules.proofs.TopMoves.{sized_moved, shrunk_fits}
use Rattle.arena_rules.proofs.Walks.{reaches_done}
use Rattle.consolidate_trim.specs.Outside.{Means, ways}
use Rattle.consolidate_trim.specs.Holds.{Hold, hold, outside, no_chunk}
use Rattle.consolidate_trim.specs.Trims.{TrimsMain}
use Rattle.consolidate_trim.proofs.Carried.{Passes, passes_here}

-- ---- main without its end

-- what is spare can be cut
pub spare_can : (t : Tunables) (a : Plain) (threshold : ℕ) → 0 < main_spare t a threshold → CanCutMain a (main_spare t a threshold)
spare_can t a threshold some =
    let bytes : ℕ = page_down_of (top_size a - 33 - t.top_pad) in
    let reached : (b : Bool) → top_end a ≡ a.break_at → 0 < cond b bytes 0 → CanCutMain a (cond b bytes 0) = elim [
      | true ↦ λ end h. record { at_break = end; left = omega arith; whole = omega arith }
      | false ↦ λ end h. absurd (omega arith)
    ] in
    let cases : (b : Bool) → nat_eq (top_end a) a.break_at ≡ b → 0 < cond b (cond (nat_le threshold (top_size a)) bytes 0) 0 → CanCutMain a (cond b (cond (nat_le threshold (top_size a)) bytes 0) 0) = elim [
      | true ↦ λ e h. reached (nat_le threshold (top_size a)) (eqb-true (top_end a) a.break_at e) h
      | false ↦ λ e h. absurd (omega arith)
    ] in
    cases (nat_eq (top_end a) a.break_at) refl some

-- a cut keeps an arena sound, its used chunks, and main in its place
pub record IsCutKept (a : Plain) (bytes : ℕ) : Type 0 where
  pub sound : IsSound (main_cut a bytes)
  pub used : (e : Chunk) → times_used e (main_cut a bytes) ≡ times_used e a
  pub number : (main_cut a bytes).number ≡ a.number
  pub windows : (main_cut a bytes).windows ≡ a.windows
  pub placed : IsPlaced a → IsPlaced (main_cut a bytes)

cut_at : (a : Plain) (t : Tile) (bytes : ℕ) → IsSound a → CanCutMain a bytes → top_of a.tiles ≡ Some t → IsCutKept a bytes
cut_at a t bytes s can e =
    let size : top_size a ≡ t.size = ap (λ (o : Option Tile). elim o [ None ↦ 0 | Some t ↦ t.size ]) e in
    let tile : IsTile t = tile_is t a.tiles s.row (top_found t a.tiles s.row e).found in
    let now : ℕ = t.size - bytes in
    let chunk : IsChunkSize now = (omega (arith, can.left, size), omega (arith, can.left, size, tile.size.1, can.whole)) in
    let m : Moved a (with_top_size a now) none none (λ v. v t.addr t.size) (λ v. v t.addr now) = sized_moved a t now s e chunk (shrunk_fits a t now s e (omega (arith, can.left, size))) in
    let same : (x : ℕ) → Plain = λ x. with_top_size a (x - bytes) in
    let number : (main_cut a bytes).number ≡ a.number = ap (λ (x : Plain). x.number) (beside_sized a (top_size a - bytes)) in
    record {
      sound = sound_as (with_top_size a now) (main_cut a bytes) (ap (λ (x : ℕ). (with_top_size a (x - bytes)).tiles) (sym size)) (ap (λ (x : ℕ). (with_top_size a (x - bytes)).bins) (sym size)) m.sound;
      used = λ c. omega (arith, m.used c, ap (λ (x : ℕ). times_used c (with_top_size a (x - bytes))) size);
      number = number;
      windows = ap (λ (x : Plain). x.windows) (beside_sized a (top_size a - bytes));
      placed = λ p main. (main_cut_moved a bytes s (p (ap (λ (n : ℕ). nat_eq n 0) (sym number) ∙ main)) can).placed;
    }

pub cut_kept : (a : Plain) (bytes : ℕ) → IsSound a → CanCutMain a bytes → IsCutKept a bytes
cut_kept a bytes s can =
    let cases : (o : Option Tile) → top_of a.tiles ≡ o → IsCutKept a bytes = elim [
      | None ↦ λ e.
          let size : top_size a ≡ 0 = ap (λ (o : Option Tile). elim o [ None ↦ 0 | Some t ↦ t.size ]) e in
          absurd (omega (arith, can.left, size))
      | Some t ↦ λ e. cut_at a t bytes s can e
    ] in
    cases (top_of a.tiles) refl

-- ---- the rules of trimming main

trimmed_some : (t : Tunables) (a : Plain) (threshold : ℕ) → IsTrue (is_main a) → 0 < main_spare t a threshold →
    trimmed t a threshold ≡ Does (Gives (backs.Break a.break_at (a.break_at - main_spare t a threshold))) (Stop (main_cut a (main_spare t a threshold)))
trimmed_some t a threshold main some =
    cond-true {A = Rules Plain} (is_main a) (trimmed_main t a threshold) (trimmed_heaps t a threshold) main
    ∙ cond-true {A = Rules Plain} (nat_lt 0 (main_spare t a threshold)) (Does (Gives (backs.Break a.break_at (a.break_at - main_spare t a threshold))) (Stop (main_cut a (main_spare t a threshold)))) (Stop a) (lt-ltb 0 (main_spare t a threshold) some)

trimmed_none : (t : Tunables) (a : Plain) (threshold : ℕ) → IsTrue (is_main a) → main_spare t a threshold ≡ 0 → trimmed t a threshold ≡ Stop a
trimmed_none t a threshold main none =
    cond-true {A = Rules Plain} (is_main a) (trimmed_main t a threshold) (trimmed_heaps t a threshold) main
    ∙ cond-false {A = Rules Plain} (nat_lt 0 (main_spare t a threshold)) (Does (Gives (backs.Break a.break_at (a.break_at - main_spare t a threshold))) (Stop (main_cut a (main_spare t a threshold)))) (Stop a) (ap (nat_lt 0) none)

trims_some : {P K : Type 0} {m : Means P K} {t : Tunables} {bytes : ℕ} {h : Hold P K} {space : Space K} (threshold : ℕ) → IsSound h.arena → IsTrue (is_main h.arena) → 0 < bytes → bytes ≡ main_spare t h.arena threshold →
    GivesWithin m.kernel h.space (backs.Break h.arena.break_at (h.arena.break_at - bytes)) space → Passes m t (trimmed t h.arena threshold) no_chunk h (Stop (main_cut h.arena bytes)) no_chunk (hold (main_cut h.arena bytes) h.port h.cache space h.said)
trims_some {m = m} {t = t} {bytes = bytes} {h = h} {space = space} threshold s main some is gives =
    let a : Plain = h.arena in
    let k : IsCutKept a bytes = cut_kept a bytes s (subst (λ n. 0 < n → CanCutMain a n) (sym is) (spare_can t a threshold) some) in
    let rules : Does (Gives (backs.Break a.break_at (a.break_at - bytes))) (Stop (main_cut a bytes)) ≡ trimmed t a threshold =
    subst (λ n. 0 < n → Does (Gives (backs.Break a.break_at (a.break_at - n))) (Stop (main_cut a n)) ≡ trimmed t a threshold) (sym is) (λ some. sym (trimmed_some t a threshold main some)) some in
    record {
      reaches = subst (λ (r : Rules Plain). Reaches t (ways m a.number) r (outside h) h.said (Stop (main_cut a bytes)) h.said (record (outside h) { space = space })) rules
          (reaches_done (record { gives = gives; others = refl }));
      keeps = record { sound = k.sound; number = k.number; windows = k.windows; placed = k.placed; cached = λ e. omega arith; others = λ n other e. refl; kept = λ e. omega (arith, k.used e) };
    }

pub trims_main : {P K : Type 0} {m : Means P K} {t : Tunables} {threshold bytes : ℕ} {h : Hold P K} {b : Plain} {space : Space K} → IsSound h.arena → IsTrue (is_main h.arena) →
    TrimsMain m.kernel t threshold h.arena h.space bytes b space → Passes m t (trimmed t h.arena threshold) no_chunk h (Stop b) no_chunk (hold b h.port h.cache space h.said)
trims_main {K = K} {m = m} {t = t} {threshold = threshold} {bytes = bytes} {h = h} {b = b} {space = space} s main trims =
    elim (cases_lt 0 bytes) [
      | inl some ↦
          let p = trims.some some in
          subst (λ (x : Plain). Passes m t (trimmed t h.arena threshold) no_chunk h (Stop x) no_chunk (hold x h.port h.cache space h.said)) (sym p.0)
          (trims_some threshold s main some trims.bytes_are p.1)
      | inr none ↦
          let zero : bytes ≡ 0 = omega arith in
          let p = trims.none zero in
          let rules : Stop h.arena ≡ trimmed t h.arena threshold = sym (trimmed_none t h.arena threshold main (sym trims.bytes_are ∙ zero)) in
          subst (λ (r : Rules Plain). Passes m t r no_chunk h (Stop b) no_chunk (hold b h.port h.cache space h.said)) rules
          (subst (λ (x : Plain). Passes m t (Stop h.arena) no_chunk h (Stop x) no_chunk (hold x h.port h.cache space h.said)) (sym p.0)
          (subst (λ (x : Space K). Passes m t (Stop h.arena) no_chunk h (Stop h.arena) no_chunk (hold h.arena h.port h.cache x h.said)) (sym p.1) (passes_here s)))
    ]
