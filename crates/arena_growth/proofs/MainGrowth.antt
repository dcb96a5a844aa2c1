-- Main grows by its break or by a piece, and what its old top leaves is released, for this crate and those above it.
use Rattle.std.proofs.Common.{◌≡◌, ℕ, ◌+◌, ◌≤◌, Bool, true, false, ◌&&◌, cond, List, Option, Some, None, IsTrue, Result, Ok, Err, refl, sym, ap, ◌∙◌, arith}
use Rattle.std.specs.Prelude.{nat_eq, if◌then◌else◌}
use Rattle.std.specs.Result.{IsErr}
use Rattle.std.proofs.lemmas.Bool.{eq-eqb}
use Rattle.std.proofs.lemmas.Bool.Decides.{nat_tests}
use Rattle.chunk_tags.specs.Sizes.{IsRequestSize}
use Rattle.chunk_tags.specs.Tunables.{main_limit}
use Rattle.chunk_tags.specs.declared.refusals.NoMemory.{NoMemory}
use Rattle.chunk_tags.specs.declared.tiles.Chunk.{Chunk}
use Rattle.chunk_tags.specs.declared.tunables.Tunables.{Tunables}
use Rattle.address_space.specs.Spaces.{break_passes, piece_passes, main_start, piece_start}
use Rattle.address_space.specs.declared.asks.Ask.{Ask}
use Rattle.address_space.specs.declared.asks.Ask.TheVariants as asks
use Rattle.address_space.specs.declared.asks.Answer.TheVariants.{Granted, Refused}
use Rattle.address_space.specs.declared.space.Space.{Space}
use Rattle.thread_cache.specs.Caches.{CacheValue}
use Rattle.arena_rules.specs.declared.said.Said.{Said}
use Rattle.arena_rules.specs.PlainArena.{Plain, IsSound, is_main, once_of, beside}
use Rattle.arena_rules.specs.Moves.{top_size, left_of_top, with_top_size, with_moved_top}
use Rattle.arena_rules.specs.Growth.{piece_length, has_top_for, closing, break_rest, break_taken, piece_taken, piece_grown, with_break, with_piece, is_top_at_break}
use Rattle.arena_rules.specs.Release.{released}
use Rattle.arena_rules.specs.Rules.{Rules, Stop, windows_of, passes_window}
use Rattle.arena_rules.proofs.Beside.{beside_sized, beside_moved_top}
use Rattle.arena_rules.proofs.MainPlaces.{IsGrowth, break_grown, piece_grown as piece_grown_by}
use Rattle.arena_rules.proofs.Walks.{reaches_here}
use Rattle.consolidate_trim.specs.Holds.{no_chunk, one_chunk, IsBacked, GivesUp, hold}
use Rattle.consolidate_trim.specs.Outside.{Means, Outside}
use Rattle.arena_growth.specs.Ledgers.{Stage, stage, Balances, full}
use Rattle.arena_growth.proofs.Balance.{balances_here, works_ok}
use Rattle.arena_growth.proofs.Lifting.{works_carries}
use Rattle.arena_growth.proofs.Parts.{Passes, passes_then, passes_as, works_after, backed_balances}
use Rattle.arena_growth.specs.Asking.{IsReady, IsMainReady, IsSearchable, AsksFor, Closes, Grows, beside_arena, chunks_in}
use Rattle.arena_growth.proofs.Growing.{walks_windows, asked_passes, asked_short, IsGrowing, piece_is}

-- ---- a hold stays ready

pub main_ready_after : {P K A : Type 0} {m : Means P K} {t : Tunables} {r q : Rules A} {x y : Stage (Outside P K)} (u : Tunables) → IsMainReady m t x → Passes (full m) u r x no_chunk q y → IsMainReady m t y
main_ready_after {m = m} {t = t} {x = x} {y = y} u ready p = record {
  backed = backed_balances m.fast (full m) x y x.outside.port y.outside.port no_chunk (λ e. refl) (λ e. refl) ready.backed p.balances;
  main = ap (λ n. nat_eq n 0) p.balances.number ∙ ready.main;
  placed = p.balances.placed ready.placed;
  windows = walks_windows p.reaches.walks ∙ ready.windows;
}

pub ready_after : {P K A : Type 0} {m : Means P K} {t : Tunables} {r q : Rules A} {x y : Stage (Outside P K)} (u : Tunables) → IsReady m t x → Passes (full m) u r x no_chunk q y → IsReady m t y
ready_after {m = m} {t = t} {x = x} {y = y} u ready p = record {
  backed = backed_balances m.fast (full m) x y x.outside.port y.outside.port no_chunk (λ e. refl) (λ e. refl) ready.backed p.balances;
  placed = p.balances.placed ready.placed;
  heaps = λ other. p.balances.windows ∙ ready.heaps (ap (λ n. nat_eq n 0) (sym p.balances.number) ∙ other);
  windows = walks_windows p.reaches.walks ∙ ready.windows;
}

-- a hold that is main's
pub main_ready : {P K : Type 0} {m : Means P K} {t : Tunables} {x : Stage (Outside P K)} → IsReady m t x → IsTrue (is_main x.arena) → IsMainReady m t x
main_ready ready main = record { backed = ready.backed; main = main; placed = ready.placed; windows = ready.windows }

-- ---- closing

pub closes_none : {P K : Type 0} (m : Means P K) (t : Tunables) (x : Stage (Outside P K)) → IsSound x.arena → Closes m t None x (Ok tt) x
closes_none m t x s = works_ok reaches_here (balances_here (full m) x x.said s)

pub closes_some : {P K : Type 0} (m : Means P K) (t : Tunables) (c : Chunk) (a b : Plain) (p q : P) (cache cache' : CacheValue) (space space' : Space K) (said said' : List Said) (r : Result (Unit {0}) NoMemory) →
    GivesUp m t (released t a c) (one_chunk c) (hold a p cache space said) r (hold b q cache' space' said') →
    Closes m t (Some c) (stage a (beside_arena p cache space) said) r (stage b (beside_arena q cache' space') said')
closes_some m t c a b p q cache cache' space space' said said' r g = works_carries g

-- ---- a range becomes top

-- main, with a range from the system
pub record IsTaken {P K : Type 0} (m : Means P K) (rest : Option Chunk) (x : Stage (Outside P K)) (b : Plain) : Type 0 where
  pub balances : Balances (full m) x no_chunk (λ e. once_of e rest) (stage b x.outside x.said)
  pub backed : IsBacked m.fast b x.outside.port (chunks_in rest)

range_taken : {P K : Type 0} (m : Means P K) (t : Tunables) (rest : Option Chunk) (x : Stage (Outside P K)) (b : Plain) (at size : ℕ) → IsMainReady m t x → IsGrowth x.arena b (λ e. once_of e rest) at size → b.number ≡ x.arena.number → b.windows ≡ x.arena.windows → IsTaken m rest x b
range_taken m t rest x b at size ready g number windows =
    let balances : Balances (full m) x no_chunk (λ e. once_of e rest) (stage b x.outside x.said) = record { sound = g.moved.sound; number = number; windows = windows; placed = λ p main. g.placed; cached = λ e. omega arith; others = λ n other e. refl; kept = λ e. omega (arith, g.moved.used e) } in
    record {
      balances = balances;
      backed = backed_balances m.fast (full m) x (stage b x.outside x.said) x.outside.port x.outside.port (λ e. once_of e rest) (λ e. refl) (λ e. refl) ready.backed balances;
    }

-- what isn't changed by a range that is taken
break_beside : {B : Type 0} (f : Plain → B) (a : Plain) (growth : ℕ) → f (beside (with_break a growth)) ≡ f a → ((b : Plain) → f (beside b) ≡ f b) → f (break_taken a growth) ≡ f a
break_beside f a growth here apart =
    let b : Plain = with_break a growth in
    let cases : (at : Bool) → f (cond at (with_top_size b (top_size a + growth)) (with_moved_top b a.break_at growth)) ≡ f a = elim [
      | true ↦ sym (apart (with_top_size b (top_size a + growth))) ∙ (ap f (beside_sized b (top_size a + growth)) ∙ here)
      | false ↦ sym (apart (with_moved_top b a.break_at growth)) ∙ (ap f (beside_moved_top b a.break_at growth) ∙ here)
    ] in
    cases (is_top_at_break a)

pub granted_break : {P K : Type 0} (m : Means P K) (t : Tunables) (x : Stage (Outside P K)) (growth : ℕ) → IsMainReady m t x → IsSearchable t → IsGrowing growth → break_passes (windows_of t) (x.arena.break_at + growth) ≡ false → IsTaken m (break_rest x.arena) x (break_taken x.arena growth)
granted_break m t x growth ready tuned g within =
    let fits : x.arena.break_at + growth ≤ main_start + main_limit = grind (arith, nat_tests, tuned.main) in
    range_taken m t (break_rest x.arena) x (break_taken x.arena growth) x.arena.break_at growth ready
    (break_grown x.arena growth ready.backed.sound (ready.placed ready.main) g.some g.pages fits) (break_beside (λ p. p.number) x.arena growth refl (λ b. refl)) (break_beside (λ p. p.windows) x.arena growth refl (λ b. refl))

granted_piece : {P K : Type 0} (m : Means P K) (t : Tunables) (x : Stage (Outside P K)) (len : ℕ) → IsMainReady m t x → IsSearchable t → IsGrowing len → piece_passes (windows_of t) x.arena.next_piece len ≡ false → IsTaken m (left_of_top x.arena) x (piece_taken x.arena len)
granted_piece m t x len ready tuned g within =
    let fits : x.arena.next_piece + len ≤ piece_start + main_limit = grind (arith, nat_tests, tuned.main) in
    range_taken m t (left_of_top x.arena) x (piece_taken x.arena len) x.arena.next_piece len ready
    (piece_grown_by x.arena len ready.backed.sound (ready.placed ready.main) g.some g.pages fits) (ap (λ (p : Plain). p.number) (beside_moved_top (with_piece x.arena len) x.arena.next_piece len)) (ap (λ (p : Plain). p.windows) (beside_moved_top (with_piece x.arena len) x.arena.next_piece len))

-- an ask that was granted doesn't pass its window
pub within : {P K : Type 0} (m : Means P K) (t : Tunables) (ask : Ask) (space space' : Space K) (said said' : List Said) → let ok : Result Bool NoMemory = Ok true in
    space.windows ≡ windows_of t → AsksFor m.kernel ask space said ok space' said' → passes_window (windows_of t) ask ≡ false
within m t ask space space' said said' windows asked =
    let cases : (b : Bool) → passes_window space.windows ask ≡ b → passes_window space.windows ask ≡ false = elim [
      | true ↦ λ is. let no_grant : Granted ≡ Refused = (asked.asks.passed is).0 in absurd (cc no_grant)
      | false ↦ λ is. is
    ] in
    ap (λ w. passes_window w ask) (sym windows) ∙ cases (passes_window space.windows ask) refl

pub same_break : (old new : ℕ) → nat_eq old old && nat_eq new new ≡ true
same_break old new = rw (eq-eqb old old refl, eq-eqb new new refl) refl

-- ---- the piece

abbrev at_piece : Tunables → ℕ → Plain → Bool → Rules Plain
at_piece t nb a granted = let len = piece_length t a nb in if granted then closing t (left_of_top a) (piece_taken a len) else Stop a

pub piece_short : {P K : Type 0} (m : Means P K) (t : Tunables) (nb : ℕ) (a : Plain) (p : P) (cache : CacheValue) (space space' : Space K) (said said' : List Said) (d : NoMemory) (r : Result (Unit {0}) NoMemory) → let err : Result Bool NoMemory = Err d in
    IsErr r → IsSound a → AsksFor m.kernel (asks.Piece a.next_piece (piece_length t a nb)) space said err space' said' → Grows m t (piece_grown t nb a) (stage a (beside_arena p cache space) said) r (stage a (beside_arena p cache space') said')
piece_short m t nb a p cache space space' said said' d r is s asked =
    asked_short m t a (asks.Piece a.next_piece (piece_length t a nb)) d p cache space space' said said' (at_piece t nb a) (λ _. a) (λ _. no_chunk) r is s asked

piece_asked : {P K : Type 0} (m : Means P K) (t : Tunables) (nb : ℕ) (a : Plain) (p : P) (cache : CacheValue) (space space' : Space K) (said said' : List Said) (granted : Bool) → let ok : Result Bool NoMemory = Ok granted in
    IsMainReady m t (stage a (beside_arena p cache space) said) → AsksFor m.kernel (asks.Piece a.next_piece (piece_length t a nb)) space said ok space' said' →
    Passes (full m) t (piece_grown t nb a) (stage a (beside_arena p cache space) said) no_chunk (at_piece t nb a granted) (stage a (beside_arena p cache space') said')
piece_asked m t nb a p cache space space' said said' granted ready asked =
    asked_passes m t a (asks.Piece a.next_piece (piece_length t a nb)) granted p cache space space' said said' (at_piece t nb a) ready.backed.sound (same_break a.next_piece (piece_length t a nb)) ready.windows asked

pub piece_refused : {P K : Type 0} (m : Means P K) (t : Tunables) (nb : ℕ) (a : Plain) (p : P) (cache : CacheValue) (space space' : Space K) (said said' : List Said) → let ok : Result Bool NoMemory = Ok false in
    IsMainReady m t (stage a (beside_arena p cache space) said) → AsksFor m.kernel (asks.Piece a.next_piece (piece_length t a nb)) space said ok space' said' →
    Grows m t (piece_grown t nb a) (stage a (beside_arena p cache space) said) (Ok tt) (stage a (beside_arena p cache space') said')
piece_refused m t nb a p cache space space' said said' ready asked =
    let f = piece_asked m t nb a p cache space space' said said' false ready asked in
    works_ok f.reaches f.balances

-- main is taken a range into, before its old top is closed
pub piece_ready : {P K : Type 0} (m : Means P K) (t : Tunables) (nb : ℕ) (a : Plain) (p : P) (cache : CacheValue) (space space' : Space K) (said said' : List Said) → let ok : Result Bool NoMemory = Ok true in
    IsMainReady m t (stage a (beside_arena p cache space) said) → IsSearchable t → IsRequestSize nb → has_top_for a nb ≡ false → AsksFor m.kernel (asks.Piece a.next_piece (piece_length t a nb)) space said ok space' said' →
    IsTaken m (left_of_top a) (stage a (beside_arena p cache space') said') (piece_taken a (piece_length t a nb))
piece_ready m t nb a p cache space space' said said' ready tuned size short asked =
    let f = piece_asked m t nb a p cache space space' said said' true ready asked in
    granted_piece m t (stage a (beside_arena p cache space') said') (piece_length t a nb) (main_ready_after t ready f) tuned (piece_is t a nb size tuned short)
    (within m t (asks.Piece a.next_piece (piece_length t a nb)) space space' said said' ready.windows asked)

pub piece_closed : {P K : Type 0} (m : Means P K) (t : Tunables) (nb : ℕ) (a b : Plain) (p q : P) (cache cache' : CacheValue) (space space' end : Space K) (said said' last : List Said) (r : Result (Unit {0}) NoMemory) → let ok : Result Bool NoMemory = Ok true in
    IsMainReady m t (stage a (beside_arena p cache space) said) → IsSearchable t → IsRequestSize nb → has_top_for a nb ≡ false → AsksFor m.kernel (asks.Piece a.next_piece (piece_length t a nb)) space said ok space' said' →
    Closes m t (left_of_top a) (stage (piece_taken a (piece_length t a nb)) (beside_arena p cache space') said') r (stage b (beside_arena q cache' end) last) →
    Grows m t (piece_grown t nb a) (stage a (beside_arena p cache space) said) r (stage b (beside_arena q cache' end) last)
piece_closed m t nb a b p q cache cache' space space' end said said' last r ready tuned size short asked closes =
    let f = piece_asked m t nb a p cache space space' said said' true ready asked in
    let g = piece_ready m t nb a p cache space space' said said' ready tuned size short asked in
    let x : Stage (Outside _ _) = stage a (beside_arena p cache space') said' in
    let y : Stage (Outside _ _) = stage (piece_taken a (piece_length t a nb)) (beside_arena p cache space') said' in
    let rules : Rules Plain = closing t (left_of_top a) (piece_taken a (piece_length t a nb)) in
    let both : Passes (full m) t (piece_grown t nb a) (stage a (beside_arena p cache space) said) (λ e. once_of e (left_of_top a)) rules y =
    passes_as (passes_then f (record { reaches = reaches_here; balances = g.balances })) (λ e. omega arith) in
    works_after r both (λ e. refl) closes
