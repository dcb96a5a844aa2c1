-- Laws of a used chunk that is cut, and of one that is joined or left for the one that was found.
use Rattle.std.proofs.Common.{◌≡◌, ℕ, ◌+◌, ◌-◌, ◌<◌, ◌≤◌, Bool, true, false, cond, Some, None, IsTrue, refl, sym, subst, arith}
use Rattle.std.specs.Prelude.{nat_lt}
use Rattle.std.proofs.lemmas.Bool.{ltb-false}
use Rattle.chunk_tags.specs.BinOrder.{once}
use Rattle.chunk_tags.specs.Sizes.{IsChunkSize}
use Rattle.chunk_tags.specs.declared.tiles.Chunk.{Chunk}
use Rattle.chunk_tags.specs.declared.tunables.Tunables.{Tunables}
use Rattle.arena_rules.specs.PlainArena.{Plain, IsSound, times_used, is_own}
use Rattle.arena_rules.specs.Moves.{parted, Hand, hand, joined_behind}
use Rattle.arena_rules.specs.Rules.{Rules, Stop}
use Rattle.arena_rules.specs.Growth.{Took}
use Rattle.arena_rules.specs.Resize.{cut_to, cut_behind, took_in, front_of, back_of, fits_with_free, is_next_to, joined_with, moved_from_old, resize_with}
use Rattle.arena_rules.proofs.ChunkMoves.{own_count, own_from, joined_behind_moved}
use Rattle.arena_rules.proofs.Own.{own_tile}
use Rattle.arena_rules.proofs.Resizes.{cut_at, IsCutAt, joined_with_moved, joined_with_own, free_behind_fits}
use Rattle.consolidate_trim.specs.Holds.{one_chunk}
use Rattle.arena_growth.specs.Ledgers.{Ledger, Stage, stage, Balances}
use Rattle.arena_growth.specs.Steps.{IsEnough}
use Rattle.arena_growth.proofs.Balance.{balances_then, balances_as}
use Rattle.arena_growth.specs.declared.found.Found.TheVariants.{InArena}
use Rattle.arena_growth.specs.Asking.{took, FitsFound}
use Rattle.realloc_align.specs.declared.cutting.Reshaped.{Reshaped}
use Rattle.realloc_align.specs.Resizes.{cut_of, arena_cut, whole_of, placed_of, arena_placed, rest_released, chunks_reshaped}
use Rattle.realloc_align.proofs.Accounts.{balances_move, balances_still}

-- ---- a cut

-- the two ways of a cut, by what is left
abbrev cut_by : Chunk → ℕ → Bool → Reshaped
cut_by c nb b = cond b (record { found = InArena c; rest = None }) (record { found = InArena (front_of c nb); rest = Some (back_of c nb) })

pub cut_rules : (t : Tunables) (a : Plain) (c : Chunk) (nb : ℕ) → cut_to t nb (hand c a) ≡ rest_released t (cut_of c nb) (arena_cut a c nb)
cut_rules t a c nb =
    let cases : (b : Bool) → cond {A = Rules Took} b (Stop (took_in c a)) (cut_behind t nb (hand c a)) ≡ rest_released t (cut_by c nb b) (cond b a (parted a c nb)) = elim [ true ↦ refl | false ↦ refl ] in
    cases (nat_lt (c.size - nb) 32)

pub cut_balances : {O : Type 0} (l : Ledger O) (x : Stage O) (c : Chunk) (nb : ℕ) → IsSound x.arena → 0 < times_used c x.arena → IsChunkSize nb → nb ≤ c.size → Balances l x (one_chunk c) (chunks_reshaped c (cut_of c nb)) (stage (arena_cut x.arena c nb) x.outside x.said)
cut_balances l x c nb s own chunk le =
    let cases : (b : Bool) → nat_lt (c.size - nb) 32 ≡ b → Balances l x (one_chunk c) (chunks_reshaped c (cut_by c nb b)) (stage (cond b x.arena (parted x.arena c nb)) x.outside x.said) = elim [
      | true ↦ λ is. balances_as (balances_still l x (one_chunk c) s) (λ e. omega arith)
      | false ↦ λ is.
          let cut : IsCutAt x.arena c nb = cut_at x.arena c nb s own chunk (omega (arith, le, ltb-false (c.size - nb) 32 is)) in
          balances_move l x (parted x.arena c nb) (one_chunk c) (λ e. once e (front_of c nb) + once e (back_of c nb)) cut.moved refl
    ] in
    cases (nat_lt (c.size - nb) 32) refl

-- what is in hand behind a cut, whatever chunk the block had before
pub cut_kept : (c d : Chunk) (nb : ℕ) (e : Chunk) → chunks_reshaped c (cut_of d nb) e ≡ chunks_reshaped d (cut_of d nb) e
cut_kept c d nb e =
    let cases : (b : Bool) → chunks_reshaped c (cut_by d nb b) e ≡ chunks_reshaped d (cut_by d nb b) e = elim [ true ↦ refl | false ↦ refl ] in
    cases (nat_lt (d.size - nb) 32)

-- ---- a used chunk in its arena

pub record IsUsed (h : Hand) : Type 0 where
  pub sound : IsSound h.arena
  pub used : 0 < times_used h.chunk h.arena
  pub own : IsTrue (is_own h.arena h.chunk)

pub used_in : (a : Plain) (c : Chunk) → IsSound a → 0 < times_used c a → IsUsed (hand c a)
used_in a c s used = record { sound = s; used = used; own = own_from a c used }

pub own_in : (a : Plain) (c : Chunk) → IsSound a → IsTrue (is_own a c) → IsUsed (hand c a)
own_in a c s own = record { sound = s; used = own_count a c own; own = own }

-- two used chunks side by side, made one
pub joined_used : (a : Plain) (c d : Chunk) (h : Hand) → h ≡ joined_with (hand c a) d → IsUsed (hand c a) → IsUsed (hand d a) → is_next_to c d ≡ true → IsUsed h
joined_used a c d h is u v next =
    subst IsUsed (sym is) (used_in _ _ (joined_with_moved (hand c a) d u.sound u.used v.used next).sound (joined_with_own (hand c a) d u.sound u.used v.used next))

-- a used chunk, joined with a free one behind it
pub joined_free : (a : Plain) (c : Chunk) (h : Hand) → h ≡ joined_behind (hand c a) → IsUsed (hand c a) → IsUsed h
joined_free a c h is u =
    let j = (joined_behind_moved (hand c a) u.sound u.used).joined in
    subst IsUsed (sym is) (used_in _ _ j.moved.sound j.own)

pub cut_fits : (h : Hand) (nb : ℕ) → IsUsed h → IsChunkSize nb → nb ≤ h.chunk.size → FitsFound nb (cut_of h.chunk nb).found
cut_fits h nb u chunk le =
    let cases : (b : Bool) → FitsFound nb (cut_by h.chunk nb b).found = elim [
      | true ↦ record { chunk = (own_tile h.arena h.chunk u.sound u.used).size; room = le }
      | false ↦ record { chunk = chunk; room = omega arith }
    ] in
    cases (nat_lt (h.chunk.size - nb) 32)

pub free_fits : (a : Plain) (c : Chunk) (nb : ℕ) (h : Hand) → h ≡ joined_behind (hand c a) → fits_with_free a c nb ≡ true → nb ≤ h.chunk.size
free_fits a c nb h is free = subst (λ (k : Hand). nb ≤ k.chunk.size) (sym is) (free_behind_fits a c nb free)

-- ---- what was found becomes the block's

pub placed_rules : (t : Tunables) (a : Plain) (c d : Chunk) (nb : ℕ) → resize_with t c nb (took a (InArena d)) ≡ rest_released t (placed_of c d nb) (arena_placed a c d nb)
placed_rules t a c d nb =
    let whole : Plain = (joined_with (hand c a) d).arena in
    let cases : (b : Bool) → cond b (cut_to t nb (joined_with (hand c a) d)) (moved_from_old t c (took a (InArena d))) ≡ rest_released t (cond b (cut_of (whole_of c d) nb) (record { found = InArena d; rest = Some c })) (cond b (arena_cut whole (whole_of c d) nb) a) = elim [
      | true ↦ cut_rules t whole (whole_of c d) nb
      | false ↦ refl
    ] in
    cases (is_next_to c d)

-- the chunks of a reshaped block, whatever chunk it had, where it is one of the arena
pub placed_balances : {O : Type 0} (l : Ledger O) (x : Stage O) (c d : Chunk) (nb : ℕ) → IsSound x.arena → 0 < times_used c x.arena → 0 < times_used d x.arena → IsChunkSize nb → nb ≤ d.size →
    Balances l x (λ e. once e d + once e c) (chunks_reshaped c (placed_of c d nb)) (stage (arena_placed x.arena c d nb) x.outside x.said)
placed_balances l x c d nb s own own_d chunk le =
    let whole : Plain = (joined_with (hand c x.arena) d).arena in
    let cases : (b : Bool) → is_next_to c d ≡ b → Balances l x (λ e. once e d + once e c) (chunks_reshaped c (cond b (cut_of (whole_of c d) nb) (record { found = InArena d; rest = Some c }))) (stage (cond b (arena_cut whole (whole_of c d) nb) x.arena) x.outside x.said) = elim [
      | true ↦ λ is.
          let joined : Balances l x (λ e. once e c + once e d) (one_chunk (whole_of c d)) (stage whole x.outside x.said) =
          balances_move l x whole (λ e. once e c + once e d) (one_chunk (whole_of c d)) (joined_with_moved (hand c x.arena) d s own own_d is) refl in
          let own_whole : 0 < times_used (whole_of c d) whole = joined_with_own (hand c x.arena) d s own own_d is in
          let cut = cut_balances l (stage whole x.outside x.said) (whole_of c d) nb joined.sound own_whole chunk (omega (arith, le)) in
          balances_as (balances_then joined cut) (λ e. omega (arith, cut_kept c (whole_of c d) nb e))
      | false ↦ λ is. balances_still l x (λ e. once e d + once e c) s
    ] in
    cases (is_next_to c d) refl

pub placed_fits : (a : Plain) (c d : Chunk) (nb : ℕ) → IsUsed (hand c a) → IsUsed (hand d a) → IsChunkSize nb → IsEnough nb d.size → FitsFound nb (placed_of c d nb).found
placed_fits a c d nb u v chunk enough =
    let cases : (b : Bool) → is_next_to c d ≡ b → FitsFound nb (cond b (cut_of (whole_of c d) nb) (record { found = InArena d; rest = Some c })).found = elim [
      | true ↦ λ is.
          cut_fits (joined_with (hand c a) d) nb (joined_used a c d (joined_with (hand c a) d) refl u v is) chunk (omega (arith, enough.room))
      | false ↦ λ is. enough
    ] in
    cases (is_next_to c d) refl
