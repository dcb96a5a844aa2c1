-- Laws of recorded holds, for this crate and those above it: the arena is still what its journal gives.
use Rattle.std.proofs.Common.{◌≡◌, ℕ, ◌-◌, ◌≤◌, ◌^◌, Bool, true, false, nat_le, List, [], ◌∷◌, ◌++◌, Result, Ok, Err, refl, sym, subst, inl, inr, arith}
use Rattle.std.specs.Prelude.{IsSome, length, nat_lt}
use Rattle.std.proofs.lemmas.Bool.{and_from, lt-ltb, or_left, or_right}
use Rattle.std.proofs.lemmas.Bool.Decides.{nat_tests}
use Rattle.std.proofs.lemmas.List.Sums.{sum_by-cons}
use Rattle.chunk_tags.specs.BinOrder.{once}
use Rattle.chunk_tags.specs.Sizes.{IsRequestSize}
use Rattle.chunk_tags.specs.Tiles.{top_of}
use Rattle.chunk_tags.specs.declared.tiles.Chunk.{Chunk}
use Rattle.chunk_tags.specs.declared.tiles.Tile.{Tile}
use Rattle.chunk_tags.specs.declared.refusals.NoMemory.{NoMemory}
use Rattle.chunk_tags.specs.declared.tunables.Tunables.{Tunables}
use Rattle.address_space.specs.declared.space.Space.{Space}
use Rattle.thread_cache.specs.Caches.{CacheValue}
use Rattle.fast_bins.specs.FastPorts.{Fast}
use Rattle.arena_rules.specs.declared.said.Said.{Said}
use Rattle.arena_rules.specs.PlainArena.{Plain, is_main}
use Rattle.arena_rules.specs.Rules.{Rules, Stop}
use Rattle.arena_rules.specs.Growth.{Took}
use Rattle.arena_rules.specs.Align.{IsAlignment, request_with_lead}
use Rattle.arena_rules.specs.Release.{given}
use Rattle.arena_rules.specs.Search.{searched}
use Rattle.arena_rules.specs.Walks.{Ways, Walks, Reaches}
use Rattle.arena_rules.proofs.Walks.{ends_as_walked, left_as_walked, reaches_behind, short_behind}
use Rattle.consolidate_trim.specs.Holds.{Chunks, no_chunk, one_chunk, IsBacked, GivesUp, hold}
use Rattle.consolidate_trim.proofs.HoldSteps.{hand_own}
use Rattle.consolidate_trim.specs.Outside.{Means, Outside, AreApart, ways}
use Rattle.arena_growth.specs.Ledgers.{stage}
use Rattle.arena_growth.proofs.Lifting.{works_carries}
use Rattle.arena_growth.specs.declared.found.Found.{Found}
use Rattle.arena_growth.specs.declared.found.Found.TheVariants as finds
use Rattle.arena_growth.specs.Asking.{Finds, FitsFound, found_of, beside_arena}
use Rattle.arena_core.specs.declared.journal.Act.{Act}
use Rattle.arena_core.specs.declared.journal.Act.TheVariants as acts
use Rattle.arena_core.specs.declared.journal.Ended.{Ended}
use Rattle.arena_core.specs.declared.journal.Ended.TheVariants.{Done, Short}
use Rattle.arena_core.specs.declared.journal.Who.{Who}
use Rattle.arena_core.specs.declared.take.Take.{Take}
use Rattle.arena_core.specs.Arenas.{Held, Records, RecordsShort, Takes, FailsShort, FitsRequest, recorded, take_of}
use Rattle.arena_core.specs.Journal.{Recorded}
use Rattle.arena_core.specs.Replay.{IsReplay, rules_of, may_act, may_end, is_possible, hand_of, ended_of, is_opened, is_request_size, is_alignment, chunk_at, found_nothing}
use Rattle.arena_core.specs.Tellings.{dealings_with, tells_others}
use Rattle.arena_core.proofs.Tellings.{IsApart, tells_walked, apart_backed}
use Rattle.arena_core.proofs.Replays.{replay_more, next_done, next_short}

-- what was found is enough for the request
pub enough_taken : (nb number : ℕ) (found : Found) → FitsFound nb found → FitsRequest nb (take_of number found)
enough_taken nb number (finds.InArena c) fits = fits
enough_taken nb number (finds.InMapping c) fits = fits.enough
enough_taken nb number finds.Nowhere fits = tt

-- answers put behind none are all the answers
only_said : {O A : Type 0} {t : Tunables} {w : Ways O} {r q : Rules A} {o z : O} {said : List Said} → Reaches t w r o [] q said z → Walks t w r o said q z
only_said {t = t} {w = w} {r = r} {q = q} {o = o} {z = z} a = subst (λ ss. Walks t w r o ss q z) (sym a.added) a.walks

-- what an act of a hold meets, other than an opening
pub record CanAct {P K : Type 0} (m : Means P K) (act : Act) (x : Held P K) : Type 0 where
  pub may : may_act act x.arena ≡ true
  pub short : may_end act Short ≡ true
  pub words : AreApart m.fast m.dials
  pub apart : IsApart x.arena (m.fast.stock x.outside.port) (dealings_with (hand_of act))

-- what is found ends an act as it may end
may_end_found : (act : Act) (found : Found) → may_end act (ended_of act (found_of found)) ≡ true
may_end_found (acts.Open bytes) found = refl
may_end_found act found = refl

-- and then its entry is a possible one
possible : {P K : Type 0} {m : Means P K} {number : ℕ} {q : Rules Took} {z : Outside P K} {said : List Said} (t : Tunables) (who : Who) (act : Act) (ended : Ended) (x : Held P K) → CanAct m act x → may_end act ended ≡ true →
    Walks t (ways m number) (rules_of t act x.arena) x.outside said q z → is_possible t (recorded who act said ended) x.arena ≡ true
possible {said = said} t who act ended x can ends walks =
    let tells : tells_others x.arena (dealings_with (hand_of act)) (rules_of t act x.arena) said ≡ true = tells_walked x.arena (dealings_with (hand_of act)) can.words can.apart walks in
    and_from (may_end act ended) _ ends (and_from (may_act act x.arena) _ can.may tells)

pub records_replay : {P K : Type 0} {m : Means P K} {t : Tunables} {who : Who} {act : Act} {x y : Held P K} {given : Chunks} {found : Found} (start : Plain) → CanAct m act x → Records m t who act x given found y → IsReplay t start x.journal x.arena → IsReplay t start y.journal y.arena
records_replay {t = t} {who = who} {act = act} {x = x} {y = y} {found = found} start can r old =
    let walks = only_said r.walks in
    subst (λ es. IsReplay t start es y.arena) (sym r.added)
    (replay_more t start x.journal x.arena y.arena (recorded who act r.said (ended_of act (found_of found))) old (next_done t who act r.said (found_of found) x.arena y.arena (possible t who act (ended_of act (found_of found)) x can (may_end_found act found) walks) (ends_as_walked walks)))

pub short_replay : {P K : Type 0} {m : Means P K} {t : Tunables} {who : Who} {act : Act} {x y : Held P K} {given : Chunks} (start : Plain) → CanAct m act x → FailsShort m t who act x given y → IsReplay t start x.journal x.arena → IsReplay t start y.journal y.arena
short_replay {t = t} {x = x} {y = y} start can (inl same) old = subst (λ (h : Held _ _). IsReplay t start h.journal h.arena) (sym same) old
short_replay {t = t} {who = who} {act = act} {x = x} {y = y} start can (inr r) old =
    let walks = only_said r.stops.reaches in
    subst (λ es. IsReplay t start es y.arena) (sym r.added)
    (replay_more t start x.journal x.arena y.arena (recorded who act r.said Short) old (next_short t who act r.said x.arena y.arena (possible t who act Short x can can.short walks) (left_as_walked walks)))

request_size : (nb : ℕ) → IsRequestSize nb → is_request_size nb ≡ true
request_size nb size = grind (arith, nat_tests, size.chunk.0, size.chunk.1, size.largest)

-- where there is a top there is a tile
some_tile : (ts : List Tile) → IsSome (top_of ts) → nat_lt 0 (length ts) ≡ true
some_tile [] none = absurd cc
some_tile (t ∷ ts) some = lt-ltb 0 (length (t ∷ ts)) (omega arith)

-- another arena that has a top is there
opened_with_top : (a : Plain) → (is_main a ≡ false → IsSome (top_of a.tiles)) → is_opened a ≡ true
opened_with_top a top =
    let cases : (b : Bool) → is_main a ≡ b → is_opened a ≡ true = elim [
      | true ↦ λ main. or_left (is_main a) (nat_lt 0 (length a.tiles)) main
      | false ↦ λ other. or_right (is_main a) (nat_lt 0 (length a.tiles)) (some_tile a.tiles (top other))
    ] in
    cases (is_main a) refl

-- one chunk in hand
apart_hand : {P : Type 0} {fast : Fast P} {a : Plain} {port : P} (c : Chunk) → IsBacked fast a port (one_chunk c) → IsApart a (fast.stock port) (dealings_with (c ∷ []))
apart_hand c backed = apart_backed (c ∷ []) backed (λ e. omega (arith, sum_by-cons (once e) c []))

pub can_take : {P K : Type 0} (m : Means P K) (nb : ℕ) (x : Held P K) → (is_main x.arena ≡ false → IsSome (top_of x.arena.tiles)) → IsRequestSize nb → AreApart m.fast m.dials → IsBacked m.fast x.arena x.outside.port no_chunk → CanAct m (acts.Take nb) x
can_take m nb x top size words backed = record { may = and_from (is_opened x.arena) _ (opened_with_top x.arena top) (request_size nb size); short = refl; words = words; apart = apart_backed [] backed (λ e. omega arith) }

pub can_resize : {P K : Type 0} (m : Means P K) (at size nb : ℕ) (x : Held P K) → IsRequestSize nb → AreApart m.fast m.dials → IsBacked m.fast x.arena x.outside.port (one_chunk (chunk_at at size)) → CanAct m (acts.Resize at size nb) x
can_resize m at size nb x request words backed =
    let c : Chunk = chunk_at at size in
    record { may = and_from (is_request_size nb) _ (request_size nb request) (hand_own c backed); short = refl; words = words; apart = apart_hand c backed }

pub can_align : {P K : Type 0} (m : Means P K) (align nb : ℕ) (x : Held P K) → (is_main x.arena ≡ false → IsSome (top_of x.arena.tiles)) → IsRequestSize nb → IsAlignment align → request_with_lead align nb ≤ 2 ^ 63 - 1 → AreApart m.fast m.dials → IsBacked m.fast x.arena x.outside.port no_chunk → CanAct m (acts.Align align nb) x
can_align m align nb x top request alignment range words backed = record {
  may = and_from (is_opened x.arena) _ (opened_with_top x.arena top)
      (and_from (is_request_size nb) _ (request_size nb request) (and_from (is_alignment align) _ (and_from (nat_le 32 align) _ (grind (arith, nat_tests, alignment.least)) alignment.power) (grind (arith, nat_tests, range))));
  short = refl;
  words = words;
  apart = apart_backed [] backed (λ e. omega arith);
}

pub can_give : {P K : Type 0} (m : Means P K) (at size : ℕ) (x : Held P K) → AreApart m.fast m.dials → IsBacked m.fast x.arena x.outside.port (one_chunk (chunk_at at size)) → CanAct m (acts.Give at size) x
can_give m at size x words backed =
    let c : Chunk = chunk_at at size in
    record { may = hand_own c backed; short = refl; words = words; apart = apart_hand c backed }

-- ---- what a search gives, recorded

pub takes : {P K : Type 0} (m : Means P K) (t : Tunables) (who : Who) (nb : ℕ) (a b : Plain) (p q : P) (cache cache' : CacheValue) (space space' : Space K) (said : List Said) (old new : List Recorded) (found : Found) (take : Take) →
    Finds m t (searched t nb a) (stage a (beside_arena p cache space) []) (Ok found) (stage b (beside_arena q cache' space') said) → new ≡ old ++ recorded who (acts.Take nb) said (ended_of (acts.Take nb) (found_of found)) ∷ [] → take ≡ take_of b.number found →
    Takes m t who (acts.Take nb) (record { arena = a; outside = beside_arena p cache space; journal = old }) take (record { arena = b; outside = beside_arena q cache' space'; journal = new })
takes m t who nb a b p q cache cache' space space' said old new found take w added is = record {
  found = found;
  taken = subst (λ n. take ≡ take_of n found) w.keeps.number is;
  records = record { said = said; added = added; walks = w.walk.done; balances = w.keeps };
}

pub takes_short : {P K : Type 0} (m : Means P K) (t : Tunables) (who : Who) (nb : ℕ) (a b : Plain) (p q : P) (cache cache' : CacheValue) (space space' : Space K) (said : List Said) (old new : List Recorded) (d : NoMemory) →
    Finds m t (searched t nb a) (stage a (beside_arena p cache space) []) (Err d) (stage b (beside_arena q cache' space') said) → new ≡ old ++ recorded who (acts.Take nb) said Short ∷ [] →
    RecordsShort m t who (acts.Take nb) (record { arena = a; outside = beside_arena p cache space; journal = old }) no_chunk (record { arena = b; outside = beside_arena q cache' space'; journal = new })
takes_short m t who nb a b p q cache cache' space space' said old new d w added = record { said = said; added = added; stops = w.walk.short; loses = w.spares }

-- ---- what giving back does, recorded

abbrev give_ends : Plain → Rules Took
give_ends b = Stop (found_nothing b)

pub gives : {P K : Type 0} (m : Means P K) (t : Tunables) (who : Who) (at size : ℕ) (a b : Plain) (p q : P) (cache : CacheValue) (space space' : Space K) (said : List Said) (old new : List Recorded) → let ok : Result (Unit {0}) NoMemory = Ok tt in
    GivesUp m t (given t a (chunk_at at size)) (one_chunk (chunk_at at size)) (hold a p cache space []) ok (hold b q cache space' said) → new ≡ old ++ recorded who (acts.Give at size) said Done ∷ [] →
    Records m t who (acts.Give at size) (record { arena = a; outside = beside_arena p cache space; journal = old }) (one_chunk (chunk_at at size)) finds.Nowhere (record { arena = b; outside = beside_arena q cache space'; journal = new })
gives m t who at size a b p q cache space space' said old new w added =
    let c = works_carries w in
    record { said = said; added = added; walks = reaches_behind give_ends c.walk.done; balances = c.keeps }

pub gives_short : {P K : Type 0} (m : Means P K) (t : Tunables) (who : Who) (at size : ℕ) (a b : Plain) (p q : P) (cache : CacheValue) (space space' : Space K) (said : List Said) (old new : List Recorded) (d : NoMemory) → let err : Result (Unit {0}) NoMemory = Err d in
    GivesUp m t (given t a (chunk_at at size)) (one_chunk (chunk_at at size)) (hold a p cache space []) err (hold b q cache space' said) → new ≡ old ++ recorded who (acts.Give at size) said Short ∷ [] →
    RecordsShort m t who (acts.Give at size) (record { arena = a; outside = beside_arena p cache space; journal = old }) (one_chunk (chunk_at at size)) (record { arena = b; outside = beside_arena q cache space'; journal = new })
gives_short m t who at size a b p q cache space space' said old new d w added =
    let c = works_carries w in
    record { said = said; added = added; stops = short_behind give_ends c.walk.short; loses = c.spares }
