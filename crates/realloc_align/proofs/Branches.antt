-- How a chunk is reshaped, branch by branch.
use Rattle.std.proofs.Common.{◌≡◌, ℕ, ◌+◌, ◌-◌, ◌<◌, ◌≤◌, Bool, true, false, Option, Some, None, IsTrue, Result, Ok, Err, refl, sym, ap, ◌∙◌, subst, arith}
use Rattle.std.specs.Prelude.{cond, nat_le, nat_lt}
use Rattle.std.specs.Result.{IsErr}
use Rattle.std.proofs.lemmas.Bool.{cond-true, cond-false, le-leb, lt-leb}
use Rattle.chunk_tags.specs.BinOrder.{once}
use Rattle.chunk_tags.specs.Sizes.{IsChunkSize}
use Rattle.chunk_tags.specs.declared.refusals.NoMemory.{NoMemory}
use Rattle.chunk_tags.specs.declared.tiles.Chunk.{Chunk}
use Rattle.chunk_tags.specs.declared.tunables.Tunables.{Tunables}
use Rattle.arena_rules.specs.PlainArena.{Plain, IsSound, is_own, beside}
use Rattle.arena_rules.specs.Moves.{Hand, hand, joined_behind}
use Rattle.arena_rules.specs.Rules.{Rules, Stop}
use Rattle.arena_rules.specs.Growth.{Took}
use Rattle.arena_rules.specs.Search.{searched}
use Rattle.arena_rules.specs.Resize.{cut_to, took_in, front_of, back_of, is_next_to, fits_with_top, fits_with_free, grown_into_top, resize_with, resize_by_search, resize_of}
use Rattle.arena_rules.proofs.Beside.{beside_joined_behind}
use Rattle.arena_rules.proofs.ChunkMoves.{own_count, joined_behind_moved, IsJoinedBehind}
use Rattle.arena_rules.proofs.Resizes.{grown_into_top_moved, beside_grown_into_top, free_behind_fits}
use Rattle.arena_rules.specs.Walks.{Reaches, StopsShort}
use Rattle.arena_rules.proofs.Bins.{once_self}
use Rattle.arena_rules.proofs.Walks.{short_behind}
use Rattle.consolidate_trim.specs.Holds.{no_chunk, one_chunk, IsBacked}
use Rattle.consolidate_trim.specs.Outside.{Means, Outside}
use Rattle.arena_growth.specs.Ledgers.{Stage, stage, Balances, full}
use Rattle.arena_growth.proofs.Balance.{balances_then, balances_as}
use Rattle.arena_growth.specs.declared.found.Found.{Found}
use Rattle.arena_growth.specs.declared.found.Found.TheVariants.{InArena, InMapping, Nowhere}
use Rattle.arena_growth.specs.Asking.{Finds, took, chunks_found}
use Rattle.realloc_align.specs.declared.cutting.Reshaped.{Reshaped}
use Rattle.realloc_align.specs.Resizes.{Comes, Reshapes, whole_of, cut_of, arena_cut, placed_of, arena_placed, rest_released, chunks_reshaped}
use Rattle.realloc_align.proofs.Accounts.{balances_move, balances_still, backed_with, backed_less, spares_then, comes_as, comes_then, comes_behind}
use Rattle.realloc_align.proofs.Cuts.{IsUsed, used_in, cut_rules, cut_balances, cut_kept, placed_rules, placed_balances}

-- ---- the rules of each branch

pub kept_rules : (t : Tunables) (a : Plain) (c : Chunk) (nb : ℕ) → nb ≤ c.size → resize_of t a c nb ≡ cut_to t nb (hand c a)
kept_rules t a c nb le = cond-true {A = Rules Took} (nat_le nb c.size) _ _ (le-leb nb c.size le)

pub top_rules : (t : Tunables) (a : Plain) (c : Chunk) (nb : ℕ) → c.size < nb → fits_with_top a c nb ≡ true → resize_of t a c nb ≡ Stop (took_in (front_of c nb) (grown_into_top a c nb))
top_rules t a c nb lt is = cond-false {A = Rules Took} (nat_le nb c.size) _ _ (lt-leb nb c.size lt) ∙ cond-true {A = Rules Took} (fits_with_top a c nb) _ _ is

pub free_rules : (t : Tunables) (a : Plain) (c : Chunk) (nb : ℕ) → c.size < nb → fits_with_top a c nb ≡ false → fits_with_free a c nb ≡ true → resize_of t a c nb ≡ cut_to t nb (joined_behind (hand c a))
free_rules t a c nb lt short is =
    cond-false {A = Rules Took} (nat_le nb c.size) _ _ (lt-leb nb c.size lt) ∙ (cond-false {A = Rules Took} (fits_with_top a c nb) _ _ short ∙ cond-true {A = Rules Took} (fits_with_free a c nb) _ _ is)

pub search_rules : (t : Tunables) (a : Plain) (c : Chunk) (nb : ℕ) → c.size < nb → fits_with_top a c nb ≡ false → fits_with_free a c nb ≡ false → resize_of t a c nb ≡ resize_by_search t a c nb
search_rules t a c nb lt short none =
    cond-false {A = Rules Took} (nat_le nb c.size) _ _ (lt-leb nb c.size lt) ∙ (cond-false {A = Rules Took} (fits_with_top a c nb) _ _ short ∙ cond-false {A = Rules Took} (fits_with_free a c nb) _ _ none)

-- ---- without a search

-- whether a chunk of the arena was found
abbrev IsInArena : Found → Type 0
IsInArena (InArena c) = Unit {0}
IsInArena found = ⊥

-- then it was no mapping, nor nothing
not_mapped : {found : Found} (d : Chunk) → IsInArena found → found ≡ InMapping d → ⊥
not_mapped d within is = subst IsInArena is within

not_nowhere : {found : Found} → IsInArena found → found ≡ Nowhere → ⊥
not_nowhere within is = subst IsInArena is within

-- what comes of a reshaping that was made at once
made_at_once : {P K : Type 0} {m : Means P K} {t : Tunables} {c : Chunk} {nb : ℕ} {x : Stage (Outside P K)} {r : Reshaped} {b : Plain} → IsInArena r.found → resize_of t x.arena c nb ≡ rest_released t r b → Balances (full m) x (one_chunk c) (chunks_reshaped c r) (stage b x.outside x.said) →
    Reshapes m t c nb x (Ok r) (stage b x.outside x.said)
made_at_once within e balances = record {
  comes = comes_as e balances;
  mapped = λ d is. absurd (not_mapped d within is);
  nowhere = λ is. absurd (not_nowhere within is);
  short = tt;
  early = tt;
  spares = tt;
}

-- a chunk that is cut is in the arena
in_arena_either : (x : Bool) (c d : Chunk) (r q : Option Chunk) → let cut : Reshaped = cond x (record { found = InArena c; rest = r }) (record { found = InArena d; rest = q }) in IsInArena cut.found
in_arena_either true c d r q = tt
in_arena_either false c d r q = tt

cut_in_arena : (c : Chunk) (nb : ℕ) → IsInArena (cut_of c nb).found
cut_in_arena c nb = in_arena_either (nat_lt (c.size - nb) 32) c (front_of c nb) None (Some (back_of c nb))

placed_either : (x : Bool) (cut : Reshaped) (d : Chunk) (q : Option Chunk) → IsInArena cut.found → let placed : Reshaped = cond x cut (record { found = InArena d; rest = q }) in IsInArena placed.found
placed_either true cut d q within = within
placed_either false cut d q within = tt

placed_in_arena : (c d : Chunk) (nb : ℕ) → IsInArena (placed_of c d nb).found
placed_in_arena c d nb = placed_either (is_next_to c d) (cut_of (whole_of c d) nb) d (Some c) (cut_in_arena (whole_of c d) nb)

pub reshapes_cut : {P K : Type 0} (m : Means P K) (t : Tunables) (c : Chunk) (nb : ℕ) (x : Stage (Outside P K)) → IsSound x.arena → IsTrue (is_own x.arena c) → IsChunkSize nb → nb ≤ c.size → Reshapes m t c nb x (Ok (cut_of c nb)) (stage (arena_cut x.arena c nb) x.outside x.said)
reshapes_cut m t c nb x s own chunk le =
    made_at_once (cut_in_arena c nb) (kept_rules t x.arena c nb le ∙ cut_rules t x.arena c nb) (cut_balances (full m) x c nb s (own_count x.arena c own) chunk le)

abbrev whole_block : Chunk → Reshaped
whole_block c = record { found = InArena c; rest = None }

pub reshapes_top : {P K : Type 0} (m : Means P K) (t : Tunables) (c : Chunk) (nb : ℕ) (x : Stage (Outside P K)) → IsSound x.arena → IsTrue (is_own x.arena c) → IsChunkSize nb → c.size < nb → fits_with_top x.arena c nb ≡ true →
    Reshapes m t c nb x (Ok (whole_block (front_of c nb))) (stage (grown_into_top x.arena c nb) x.outside x.said)
reshapes_top m t c nb x s own chunk lt is =
    let moved = balances_move (full m) x (grown_into_top x.arena c nb) (one_chunk c) (one_chunk (front_of c nb)) (grown_into_top_moved x.arena c nb s own is chunk) (beside_grown_into_top x.arena c nb) in
    made_at_once tt (top_rules t x.arena c nb lt is) (balances_as moved (λ e. omega arith))

pub reshapes_free : {P K : Type 0} (m : Means P K) (t : Tunables) (c : Chunk) (nb : ℕ) (x : Stage (Outside P K)) (h : Hand) → h ≡ joined_behind (hand c x.arena) → IsSound x.arena → IsTrue (is_own x.arena c) → IsChunkSize nb → c.size < nb → fits_with_top x.arena c nb ≡ false → fits_with_free x.arena c nb ≡ true →
    Reshapes m t c nb x (Ok (cut_of h.chunk nb)) (stage (arena_cut h.arena h.chunk nb) x.outside x.said)
reshapes_free m t c nb x h is s own chunk lt short free =
    let j : IsJoinedBehind (hand c x.arena) h = subst (IsJoinedBehind (hand c x.arena)) (sym is) (joined_behind_moved (hand c x.arena) s (own_count x.arena c own)) in
    let fits : nb ≤ h.chunk.size = subst (λ (k : Hand). nb ≤ k.chunk.size) (sym is) (free_behind_fits x.arena c nb free) in
    let beside = ap (λ (k : Hand). beside k.arena) is ∙ beside_joined_behind (hand c x.arena) in
    let moved = balances_move (full m) x h.arena (one_chunk c) (one_chunk h.chunk) j.joined.moved beside in
    let cut = cut_balances (full m) (stage h.arena x.outside x.said) h.chunk nb j.joined.moved.sound j.joined.own chunk fits in
    made_at_once (cut_in_arena h.chunk nb) (free_rules t x.arena c nb lt short free ∙ (ap (cut_to t nb) (sym is) ∙ cut_rules t h.arena h.chunk nb))
    (balances_as (balances_then moved cut) (λ e. omega (arith, cut_kept c h.chunk nb e)))

-- ---- with a search

-- the arena still backs the port, the chunk that was found and the old one
found_backed : {P K : Type 0} (m : Means P K) (t : Tunables) (c : Chunk) (nb : ℕ) (x y : Stage (Outside P K)) (found : Found) → let ok : Result Found NoMemory = Ok found in
    IsBacked m.fast x.arena x.outside.port (one_chunk c) → Finds m t (searched t nb x.arena) x ok y → IsBacked m.fast y.arena y.outside.port (λ e. chunks_found found e + once e c)
found_backed m t c nb x y found backed w =
    backed_with m.fast (full m) x y x.outside.port y.outside.port no_chunk (chunks_found found) (one_chunk c) (λ e. refl) (λ e. refl) (backed_less backed (λ e. omega arith)) w.keeps

-- so both are used
pub found_used : {P K : Type 0} (m : Means P K) (t : Tunables) (c d : Chunk) (nb : ℕ) (x y : Stage (Outside P K)) → let ok : Result Found NoMemory = Ok (InArena d) in
    IsBacked m.fast x.arena x.outside.port (one_chunk c) → Finds m t (searched t nb x.arena) x ok y → IsUsed (hand c y.arena) × IsUsed (hand d y.arena)
found_used m t c d nb x y backed w =
    let both = found_backed m t c nb x y (InArena d) backed w in
    (used_in y.arena c both.sound (omega (arith, both.used c, once_self c)), used_in y.arena d both.sound (omega (arith, both.used d, once_self d)))

-- from the rules of the resize to those of what was found, with the old chunk in hand
found_comes : {P K : Type 0} (m : Means P K) (t : Tunables) (c : Chunk) (nb : ℕ) (x y : Stage (Outside P K)) (found : Found) → let ok : Result Found NoMemory = Ok found in
    resize_of t x.arena c nb ≡ resize_by_search t x.arena c nb → Finds m t (searched t nb x.arena) x ok y → Comes (full m) t (resize_of t x.arena c nb) x (one_chunk c) (λ e. chunks_found found e + once e c) (resize_with t c nb (took y.arena found)) y
found_comes m t c nb x y found rules w =
    let p = comes_behind (resize_with t c nb) found (one_chunk c) w in
    record { reaches = subst (λ r. Reaches t ((full m).ways x.arena.number) r x.outside x.said (resize_with t c nb (took y.arena found)) y.said y.outside) (sym rules) p.reaches; balances = balances_as p.balances (λ e. omega arith) }

pub reshapes_found : {P K : Type 0} (m : Means P K) (t : Tunables) (c d : Chunk) (nb : ℕ) (x y : Stage (Outside P K)) → let ok : Result Found NoMemory = Ok (InArena d) in
    resize_of t x.arena c nb ≡ resize_by_search t x.arena c nb → IsBacked m.fast x.arena x.outside.port (one_chunk c) → IsChunkSize nb → nb ≤ d.size → Finds m t (searched t nb x.arena) x ok y →
    Reshapes m t c nb x (Ok (placed_of c d nb)) (stage (arena_placed y.arena c d nb) y.outside y.said)
reshapes_found m t c d nb x y rules backed chunk le w =
    let both = found_used m t c d nb x y backed w in
    let comes = found_comes m t c nb x y (InArena d) rules w in
    let next = comes_as (placed_rules t y.arena c d nb) (placed_balances (full m) y c d nb both.0.sound both.0.used both.1.used chunk le) in
    let within = placed_in_arena c d nb in
    record {
      comes = comes_then comes next;
      mapped = λ e is. absurd (not_mapped e within is);
      nowhere = λ is. absurd (not_nowhere within is);
      short = tt;
      early = tt;
      spares = tt;
    }

pub reshapes_mapped : {P K : Type 0} (m : Means P K) (t : Tunables) (c d : Chunk) (nb : ℕ) (x y : Stage (Outside P K)) → let ok : Result Found NoMemory = Ok (InMapping d) in
    resize_of t x.arena c nb ≡ resize_by_search t x.arena c nb → Finds m t (searched t nb x.arena) x ok y → Reshapes m t c nb x (Ok (record { found = InMapping d; rest = Some c })) y
reshapes_mapped m t c d nb x y rules w = record {
  comes = found_comes m t c nb x y (InMapping d) rules w;
  mapped = λ e is. (refl, subst (λ f. Reaches t ((full m).ways x.arena.number) (searched t nb x.arena) x.outside x.said (Stop (took y.arena f)) y.said y.outside) is w.walk.done);
  nowhere = λ is. absurd cc;
  short = tt;
  early = tt;
  spares = tt;
}

pub reshapes_nowhere : {P K : Type 0} (m : Means P K) (t : Tunables) (c : Chunk) (nb : ℕ) (x y : Stage (Outside P K)) → let ok : Result Found NoMemory = Ok Nowhere in
    resize_of t x.arena c nb ≡ resize_by_search t x.arena c nb → Finds m t (searched t nb x.arena) x ok y → Reshapes m t c nb x (Ok (record { found = Nowhere; rest = None })) y
reshapes_nowhere m t c nb x y rules w =
    let p = found_comes m t c nb x y Nowhere rules w in
    record {
      comes = record { reaches = p.reaches; balances = balances_as p.balances (λ e. omega arith) };
      mapped = λ e is. absurd cc;
      nowhere = λ is. refl;
      short = tt;
      early = tt;
      spares = tt;
    }

pub reshapes_short : {P K : Type 0} (m : Means P K) (t : Tunables) (c : Chunk) (nb : ℕ) (x y : Stage (Outside P K)) (d : NoMemory) (r : Result Reshaped NoMemory) → let err : Result Found NoMemory = Err d in
    IsErr r → IsSound x.arena → resize_of t x.arena c nb ≡ resize_by_search t x.arena c nb → Finds m t (searched t nb x.arena) x err y → Reshapes m t c nb x r y
reshapes_short m t c nb x y d (Ok v) is s rules w = absurd cc
reshapes_short m t c nb x y d (Err v) is s rules w = record {
  comes = tt;
  mapped = tt;
  nowhere = tt;
  short = subst (λ r. StopsShort t ((full m).ways x.arena.number) r x.outside x.said y.arena y.said y.outside) (sym rules) (short_behind (resize_with t c nb) w.walk.short);
  early = w.walk.short;
  spares = spares_then (balances_still (full m) x (one_chunk c) s) w.spares (λ e. omega arith);
}
