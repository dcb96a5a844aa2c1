-- The turns of a growth by main's break.
use Rattle.std.proofs.Common.{◌≡◌, ℕ, ◌+◌, suc, Bool, true, false, cond, List, IsTrue, Result, Ok, Err, refl, sym, ap, ◌∙◌, subst, arith}
use Rattle.std.specs.Prelude.{if◌then◌else◌}
use Rattle.std.specs.Result.{IsErr}
use Rattle.chunk_tags.specs.Sizes.{IsRequestSize}
use Rattle.chunk_tags.specs.declared.refusals.NoMemory.{NoMemory}
use Rattle.chunk_tags.specs.declared.tiles.Chunk.{Chunk}
use Rattle.chunk_tags.specs.declared.tunables.Tunables.{Tunables}
use Rattle.address_space.specs.declared.asks.Ask.{Ask}
use Rattle.address_space.specs.declared.asks.Ask.TheVariants as asks
use Rattle.address_space.specs.declared.space.Space.{Space}
use Rattle.thread_cache.specs.Caches.{CacheValue}
use Rattle.arena_rules.specs.declared.said.Said.{Said}
use Rattle.arena_rules.specs.PlainArena.{Plain, IsSound, is_main, once_of}
use Rattle.arena_rules.proofs.MainPlaces.{placed_beside}
use Rattle.arena_rules.specs.Moves.{top_start, cut_from_top}
use Rattle.arena_rules.specs.Growth as growth
use Rattle.arena_rules.specs.Growth.{main_growth, has_top_for, closing, break_rest, break_taken, piece_grown, main_grown, noted, from_top, grown, heaps_grown, maps_else}
use Rattle.arena_rules.specs.Rules.{Rules, Stop, behind}
use Rattle.arena_rules.specs.Search as search
use Rattle.arena_rules.specs.Walks.{Reaches}
use Rattle.arena_rules.proofs.Walks.{reaches_here}
use Rattle.consolidate_trim.specs.Holds.{no_chunk}
use Rattle.consolidate_trim.specs.Outside.{Means, Outside}
use Rattle.arena_growth.specs.declared.step.Step.{Step}
use Rattle.arena_growth.specs.declared.step.Step.TheVariants as steps
use Rattle.arena_growth.proofs.BinnedLaws.{topped_balances}
use Rattle.arena_growth.specs.Ledgers.{Ledger, Stage, stage, Balances, full}
use Rattle.arena_growth.specs.Steps.{step_of, chunks_taken, topped}
use Rattle.arena_growth.proofs.Balance.{balances_here, balances_then, balances_as, works_ok}
use Rattle.arena_growth.proofs.Parts.{Passes, passes_then, passes_as, passes_behind, works_after, short_behind_works, passes_closed}
use Rattle.arena_growth.specs.declared.found.Found.{Found}
use Rattle.arena_growth.specs.declared.found.Found.TheVariants as finds
use Rattle.arena_growth.specs.Asking.{IsMainReady, IsSearchable, AsksFor, Closes, Grows, Finds, took, chunks_found, beside_arena}
use Rattle.arena_growth.proofs.Growing.{asked_passes, asked_short, growth_is}
use Rattle.arena_growth.proofs.MainGrowth.{main_ready_after, IsTaken, granted_break, within, same_break}

abbrev after_close : ℕ → Tunables → ℕ → Plain → Rules Plain
after_close turns t nb b = if has_top_for b nb then Stop b else main_grown turns t nb b

abbrev at_break : ℕ → Tunables → ℕ → Plain → Bool → Rules Plain
at_break turns t nb a granted =
    let growth = main_growth t a nb in
    if granted then behind (closing t (break_rest a) (break_taken a growth)) (after_close turns t nb) else piece_grown t nb a

abbrev break_of : Tunables → ℕ → Plain → Ask
break_of t nb a = asks.Break a.break_at (a.break_at + main_growth t a nb)

pub turns_out : {P K : Type 0} (m : Means P K) (t : Tunables) (nb turns : ℕ) (x : Stage (Outside P K)) → turns ≡ 0 → IsSound x.arena → Grows m t (main_grown turns t nb x.arena) x (Ok tt) x
turns_out m t nb turns x is s = subst (λ n. Grows m t (main_grown n t nb x.arena) x (Ok tt) x) (sym is) (works_ok reaches_here (balances_here (full m) x x.said s))

pub break_short : {P K : Type 0} (m : Means P K) (t : Tunables) (nb turns : ℕ) (a : Plain) (p : P) (cache : CacheValue) (space space' : Space K) (said said' : List Said) (d : NoMemory) (r : Result (Unit {0}) NoMemory) → let err : Result Bool NoMemory = Err d in
    IsErr r → IsSound a → AsksFor m.kernel (break_of t nb a) space said err space' said' → Grows m t (main_grown (suc turns) t nb a) (stage a (beside_arena p cache space) said) r (stage a (beside_arena p cache space') said')
break_short m t nb turns a p cache space space' said said' d r is s asked =
    asked_short m t a (break_of t nb a) d p cache space space' said said' (at_break turns t nb a) (λ _. a) (λ _. no_chunk) r is s asked

break_asked : {P K : Type 0} (m : Means P K) (t : Tunables) (nb turns : ℕ) (a : Plain) (p : P) (cache : CacheValue) (space space' : Space K) (said said' : List Said) (granted : Bool) → let ok : Result Bool NoMemory = Ok granted in
    IsMainReady m t (stage a (beside_arena p cache space) said) → AsksFor m.kernel (break_of t nb a) space said ok space' said' →
    Passes (full m) t (main_grown (suc turns) t nb a) (stage a (beside_arena p cache space) said) no_chunk (at_break turns t nb a granted) (stage a (beside_arena p cache space') said')
break_asked m t nb turns a p cache space space' said said' granted ready asked =
    asked_passes m t a (break_of t nb a) granted p cache space space' said said' (at_break turns t nb a) ready.backed.sound (same_break a.break_at (a.break_at + main_growth t a nb)) ready.windows asked

-- refused: a piece is asked for
pub refused_ready : {P K : Type 0} (m : Means P K) (t : Tunables) (nb : ℕ) (a : Plain) (p : P) (cache : CacheValue) (space space' : Space K) (said said' : List Said) → let ok : Result Bool NoMemory = Ok false in
    IsMainReady m t (stage a (beside_arena p cache space) said) → AsksFor m.kernel (break_of t nb a) space said ok space' said' → IsMainReady m t (stage a (beside_arena p cache space') said')
refused_ready m t nb a p cache space space' said said' ready asked = main_ready_after t ready (break_asked m t nb 0 a p cache space space' said said' false ready asked)

pub break_refused : {P K : Type 0} (m : Means P K) (t : Tunables) (nb turns : ℕ) (a : Plain) (p : P) (cache : CacheValue) (space space' : Space K) (said said' : List Said) (z : Stage (Outside P K)) (r : Result (Unit {0}) NoMemory) → let ok : Result Bool NoMemory = Ok false in
    IsMainReady m t (stage a (beside_arena p cache space) said) → AsksFor m.kernel (break_of t nb a) space said ok space' said' → Grows m t (piece_grown t nb a) (stage a (beside_arena p cache space') said') r z →
    Grows m t (main_grown (suc turns) t nb a) (stage a (beside_arena p cache space) said) r z
break_refused m t nb turns a p cache space space' said said' z r ready asked piece = works_after r (break_asked m t nb turns a p cache space space' said said' false ready asked) (λ e. refl) piece

-- granted: main is taken a range into
pub break_ready : {P K : Type 0} (m : Means P K) (t : Tunables) (nb : ℕ) (a : Plain) (p : P) (cache : CacheValue) (space space' : Space K) (said said' : List Said) → let ok : Result Bool NoMemory = Ok true in
    IsMainReady m t (stage a (beside_arena p cache space) said) → IsSearchable t → IsRequestSize nb → has_top_for a nb ≡ false → AsksFor m.kernel (break_of t nb a) space said ok space' said' →
    IsTaken m (break_rest a) (stage a (beside_arena p cache space') said') (break_taken a (main_growth t a nb))
break_ready m t nb a p cache space space' said said' ready tuned size short asked =
    granted_break m t (stage a (beside_arena p cache space') said') (main_growth t a nb) (main_ready_after t ready (break_asked m t nb 0 a p cache space space' said said' true ready asked)) tuned (growth_is t a nb size tuned short)
    (within m t (break_of t nb a) space space' said said' ready.windows asked)

-- up to the closing of the old top
break_passed : {P K : Type 0} (m : Means P K) (t : Tunables) (nb turns : ℕ) (a : Plain) (p : P) (cache : CacheValue) (space space' : Space K) (said said' : List Said) → let ok : Result Bool NoMemory = Ok true in
    IsMainReady m t (stage a (beside_arena p cache space) said) → IsSearchable t → IsRequestSize nb → has_top_for a nb ≡ false → AsksFor m.kernel (break_of t nb a) space said ok space' said' →
    Passes (full m) t (main_grown (suc turns) t nb a) (stage a (beside_arena p cache space) said) (λ e. once_of e (break_rest a)) (behind (closing t (break_rest a) (break_taken a (main_growth t a nb))) (after_close turns t nb)) (stage (break_taken a (main_growth t a nb)) (beside_arena p cache space') said')
break_passed m t nb turns a p cache space space' said said' ready tuned size short asked =
    let g = break_ready m t nb a p cache space space' said said' ready tuned size short asked in
    passes_as (passes_then (break_asked m t nb turns a p cache space space' said said' true ready asked) (record { reaches = reaches_here; balances = g.balances })) (λ e. omega arith)

pub close_short : {P K : Type 0} (m : Means P K) (t : Tunables) (nb turns : ℕ) (a b : Plain) (p q : P) (cache cache' : CacheValue) (space space' end : Space K) (said said' last : List Said) (d : NoMemory) (r : Result (Unit {0}) NoMemory) → let ok : Result Bool NoMemory = Ok true in
    IsErr r → IsMainReady m t (stage a (beside_arena p cache space) said) → IsSearchable t → IsRequestSize nb → has_top_for a nb ≡ false → AsksFor m.kernel (break_of t nb a) space said ok space' said' →
    Closes m t (break_rest a) (stage (break_taken a (main_growth t a nb)) (beside_arena p cache space') said') (Err d) (stage b (beside_arena q cache' end) last) →
    Grows m t (main_grown (suc turns) t nb a) (stage a (beside_arena p cache space) said) r (stage b (beside_arena q cache' end) last)
close_short m t nb turns a b p q cache cache' space space' end said said' last d r is ready tuned size short asked closes =
    works_after r (break_passed m t nb turns a p cache space space' said said' ready tuned size short asked) (λ e. refl) (short_behind_works (after_close turns t nb) d r is closes)

closed_passes : {P K : Type 0} (m : Means P K) (t : Tunables) (nb turns : ℕ) (a b : Plain) (p q : P) (cache cache' : CacheValue) (space space' end : Space K) (said said' last : List Said) → let ok : Result Bool NoMemory = Ok true in
    IsMainReady m t (stage a (beside_arena p cache space) said) → IsSearchable t → IsRequestSize nb → has_top_for a nb ≡ false → AsksFor m.kernel (break_of t nb a) space said ok space' said' →
    Closes m t (break_rest a) (stage (break_taken a (main_growth t a nb)) (beside_arena p cache space') said') (Ok tt) (stage b (beside_arena q cache' end) last) →
    Passes (full m) t (main_grown (suc turns) t nb a) (stage a (beside_arena p cache space) said) no_chunk (after_close turns t nb b) (stage b (beside_arena q cache' end) last)
closed_passes m t nb turns a b p q cache cache' space space' end said said' last ready tuned size short asked closes =
    let f = break_passed m t nb turns a p cache space space' said said' ready tuned size short asked in
    passes_closed (after_close turns t nb) f closes

pub closed_enough : {P K : Type 0} (m : Means P K) (t : Tunables) (nb turns : ℕ) (a b : Plain) (p q : P) (cache cache' : CacheValue) (space space' end : Space K) (said said' last : List Said) → let ok : Result Bool NoMemory = Ok true in
    IsMainReady m t (stage a (beside_arena p cache space) said) → IsSearchable t → IsRequestSize nb → has_top_for a nb ≡ false → AsksFor m.kernel (break_of t nb a) space said ok space' said' →
    Closes m t (break_rest a) (stage (break_taken a (main_growth t a nb)) (beside_arena p cache space') said') (Ok tt) (stage b (beside_arena q cache' end) last) → has_top_for b nb ≡ true →
    Grows m t (main_grown (suc turns) t nb a) (stage a (beside_arena p cache space) said) (Ok tt) (stage b (beside_arena q cache' end) last)
closed_enough m t nb turns a b p q cache cache' space space' end said said' last ready tuned size short asked closes enough =
    let f = closed_passes m t nb turns a b p q cache cache' space space' end said said' last ready tuned size short asked closes in
    let ends : after_close turns t nb b ≡ Stop b = ap (λ (c : Bool). cond c (Stop b) (main_grown turns t nb b)) enough in
    works_ok (subst (λ q'. Reaches t ((full m).ways a.number) (main_grown (suc turns) t nb a) (beside_arena p cache space) said q' last (beside_arena q cache' end)) ends f.reaches) f.balances

pub closed_again : {P K : Type 0} (m : Means P K) (t : Tunables) (nb turns : ℕ) (a b : Plain) (p q : P) (cache cache' : CacheValue) (space space' end : Space K) (said said' last : List Said) (z : Stage (Outside P K)) (r : Result (Unit {0}) NoMemory) → let ok : Result Bool NoMemory = Ok true in
    IsMainReady m t (stage a (beside_arena p cache space) said) → IsSearchable t → IsRequestSize nb → has_top_for a nb ≡ false → AsksFor m.kernel (break_of t nb a) space said ok space' said' →
    Closes m t (break_rest a) (stage (break_taken a (main_growth t a nb)) (beside_arena p cache space') said') (Ok tt) (stage b (beside_arena q cache' end) last) → has_top_for b nb ≡ false →
    Grows m t (main_grown turns t nb b) (stage b (beside_arena q cache' end) last) r z → Grows m t (main_grown (suc turns) t nb a) (stage a (beside_arena p cache space) said) r z
closed_again m t nb turns a b p q cache cache' space space' end said said' last z r ready tuned size short asked closes less w =
    let f = closed_passes m t nb turns a b p q cache cache' space space' end said said' last ready tuned size short asked closes in
    let goes : after_close turns t nb b ≡ main_grown turns t nb b = ap (λ (c : Bool). cond c (Stop b) (main_grown turns t nb b)) less in
    let g : Passes (full m) t (main_grown (suc turns) t nb a) (stage a (beside_arena p cache space) said) no_chunk (main_grown turns t nb b) (stage b (beside_arena q cache' end) last) =
    record { reaches = subst (λ q'. Reaches t ((full m).ways a.number) (main_grown (suc turns) t nb a) (beside_arena p cache space) said q' last (beside_arena q cache' end)) goes f.reaches; balances = f.balances } in
    works_after r g (λ e. refl) w

pub again_ready : {P K : Type 0} (m : Means P K) (t : Tunables) (nb turns : ℕ) (a b : Plain) (p q : P) (cache cache' : CacheValue) (space space' end : Space K) (said said' last : List Said) → let ok : Result Bool NoMemory = Ok true in
    IsMainReady m t (stage a (beside_arena p cache space) said) → IsSearchable t → IsRequestSize nb → has_top_for a nb ≡ false → AsksFor m.kernel (break_of t nb a) space said ok space' said' →
    Closes m t (break_rest a) (stage (break_taken a (main_growth t a nb)) (beside_arena p cache space') said') (Ok tt) (stage b (beside_arena q cache' end) last) → IsMainReady m t (stage b (beside_arena q cache' end) last)
again_ready m t nb turns a b p q cache cache' space space' end said said' last ready tuned size short asked closes =
    main_ready_after t ready (closed_passes m t nb turns a b p q cache cache' space space' end said said' last ready tuned size short asked closes)

-- so many turns are one and the rest
pub at_turns : {P K : Type 0} (m : Means P K) (t : Tunables) (nb turns rest : ℕ) (a : Plain) (x z : Stage (Outside P K)) (r : Result (Unit {0}) NoMemory) → turns ≡ suc rest → Grows m t (main_grown (suc rest) t nb a) x r z → Grows m t (main_grown turns t nb a) x r z
at_turns m t nb turns rest a x z r is w = subst (λ n. Grows m t (main_grown n t nb a) x r z) (sym is) w
