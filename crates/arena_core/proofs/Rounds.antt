-- The rounds of a search.
use Rattle.std.proofs.Common.{◌≡◌, ℕ, suc, zero, Bool, true, false, List, [], ◌∷◌, ◌++◌, Result, Ok, Err, refl, sym, subst, arith}
use Rattle.std.specs.Prelude.{if◌then◌else◌}
use Rattle.std.specs.Result.{IsErr}
use Rattle.chunk_tags.specs.declared.refusals.NoMemory.{NoMemory}
use Rattle.chunk_tags.specs.declared.tiles.Chunk.{Chunk}
use Rattle.chunk_tags.specs.declared.tunables.Tunables.{Tunables}
use Rattle.address_space.specs.declared.space.Space.{Space}
use Rattle.thread_cache.specs.Caches.{CacheValue}
use Rattle.fast_bins.specs.FastPorts as fasts
use Rattle.fast_bins.specs.FastPorts.{Fast, Did}
use Rattle.mapped_chunks.specs.DialPorts as dial_steps
use Rattle.mapped_chunks.specs.DialPorts.{Dialled}
use Rattle.arena_rules.specs.declared.said.Said.{Said}
use Rattle.arena_rules.specs.declared.said.Said.TheVariants as told
use Rattle.arena_rules.specs.PlainArena.{Plain}
use Rattle.arena_rules.specs.Growth as growth
use Rattle.arena_rules.specs.Growth.{system_asked}
use Rattle.arena_rules.specs.Release.{consolidated}
use Rattle.arena_rules.specs.Rules.{Rules, Stop, Need, Flagged, Pops, Owns, Rooms, Deed, Clears, Gathers, Stashes, Draws, behind, asks_flag}
use Rattle.arena_rules.specs.Search as search
use Rattle.arena_rules.specs.Search.{first_steps, looked, rounds, searched}
use Rattle.arena_rules.specs.Walks.{Walks, here, idled, done, told as walked}
use Rattle.arena_rules.proofs.Walks.{short_here}
use Rattle.consolidate_trim.specs.FastHolds.{fast_hold, fast_ways, Empties, FastAnswers, FastDoes}
use Rattle.consolidate_trim.specs.Holds.{no_chunk}
use Rattle.consolidate_trim.specs.Outside.{Means, Outside, AreApart}
use Rattle.arena_growth.specs.declared.step.Step.{Step}
use Rattle.arena_growth.specs.declared.step.Step.TheVariants as steps
use Rattle.arena_growth.specs.Ledgers.{Stage, stage, Works, shelf, Near, near_ledger, fast_ledger, full, NearGoes, NearDoes}
use Rattle.arena_growth.specs.Steps.{Steps, step_of, chunks_taken}
use Rattle.arena_growth.proofs.Balance.{works_ok, works_short, loses_from, balances_here}
use Rattle.arena_growth.proofs.Lifting.{works_put, works_empties, shelf_part, fast_part, near_part}
use Rattle.arena_growth.proofs.Looks.{flag_reaches, flag_balances}
use Rattle.arena_growth.proofs.Parts.{Passes, passes_then, passes_as, passes_behind, works_after, short_behind_works}
use Rattle.arena_growth.specs.declared.found.Found.{Found}
use Rattle.arena_growth.specs.declared.found.Found.TheVariants as finds
use Rattle.arena_growth.specs.Asking.{IsReady, AllowsMaps, Finds, beside_arena}
use Rattle.arena_growth.proofs.MainGrowth.{ready_after}

-- ---- what may be counted stays so

fast_goes_allow : {P : Type 0} {fast : Fast P} {dials : Dialled P} (apart : AreApart fast dials) (o p : P) (n : Need) (s : Said) (d : dial_steps.DialStep) → FastAnswers fast o n s p → dials.allows o d → dials.allows p d
fast_goes_allow apart o p Flagged (told.Flag b) d h a = apart.steps o p (fasts.Flags b) d h.step a
fast_goes_allow apart o p (Pops bin) (told.Popped at) d h a = apart.steps o p (fasts.Pops bin at) d h.step a
fast_goes_allow apart o p (Owns bin) (told.Own at) d h a = apart.steps o p (fasts.Owns bin at) d h.step a
fast_goes_allow apart o p n s d h a = absurd h

fast_does_allow : {P : Type 0} {fast : Fast P} {dials : Dialled P} (apart : AreApart fast dials) (o p : P) (deed : Deed) (d : dial_steps.DialStep) → FastDoes fast o deed p → dials.allows o d → dials.allows p d
fast_does_allow apart o p Clears d h a = apart.steps o p fasts.Clears d h.step a
fast_does_allow apart o p (Gathers bin) d h a = apart.steps o p (fasts.Gathers bin) d h.step a
fast_does_allow apart o p deed d h a = absurd h

fast_walks_allow : {P A : Type 0} {fast : Fast P} {dials : Dialled P} (apart : AreApart fast dials) {t : Tunables} {r q : Rules A} {o z : P} {ss : List Said} (d : dial_steps.DialStep) → Walks t (fast_ways fast) r o ss q z → dials.allows o d → dials.allows z d
fast_walks_allow apart d here a = a
fast_walks_allow apart d (idled {o = o} {p = p} i w) a = fast_walks_allow apart d w (apart.idles o p d i.idle a)
fast_walks_allow apart d (done {d = deed} h w) a = fast_walks_allow apart d w (fast_does_allow apart _ _ deed d h a)
fast_walks_allow apart d (walked {n = n} {s = s} f h w) a = fast_walks_allow apart d w (fast_goes_allow apart _ _ n s d h a)

near_goes_allow : {P : Type 0} {fast : Fast P} {dials : Dialled P} (apart : AreApart fast dials) (o p : Near P) (n : Need) (s : Said) (d : dial_steps.DialStep) → NearGoes fast o n s p → dials.allows o.port d → dials.allows p.port d
near_goes_allow apart o p Flagged (told.Flag b) d h a = apart.steps o.port p.port (fasts.Flags b) d h.did.step a
near_goes_allow apart o p (Pops bin) (told.Popped at) d h a = apart.steps o.port p.port (fasts.Pops bin at) d h.did.step a
near_goes_allow apart o p (Owns bin) (told.Own at) d h a = apart.steps o.port p.port (fasts.Owns bin at) d h.did.step a
near_goes_allow {dials = dials} apart o p (Rooms size) (told.Room b) d h a = subst (λ q. dials.allows q d) (sym h.port) a
near_goes_allow apart o p n s d h a = absurd h

near_does_allow : {P : Type 0} {fast : Fast P} {dials : Dialled P} (apart : AreApart fast dials) (k : ℕ) (o p : Near P) (deed : Deed) (d : dial_steps.DialStep) → NearDoes fast k o deed p → dials.allows o.port d → dials.allows p.port d
near_does_allow apart k o p Clears d h a = apart.steps o.port p.port fasts.Clears d h.did.step a
near_does_allow apart k o p (Gathers bin) d h a = apart.steps o.port p.port (fasts.Gathers bin) d h.did.step a
near_does_allow {dials = dials} apart k o p (Stashes c) d h a = subst (λ q. dials.allows q d) (sym h.port) a
near_does_allow {dials = dials} apart k o p (Draws size) d h a = subst (λ q. dials.allows q d) (sym h.port) a
near_does_allow apart k o p deed d h a = absurd h

near_walks_allow : {P A : Type 0} {fast : Fast P} {dials : Dialled P} (apart : AreApart fast dials) (k : ℕ) {t : Tunables} {r q : Rules A} {o z : Near P} {ss : List Said} (d : dial_steps.DialStep) → Walks t ((near_ledger fast).ways k) r o ss q z → dials.allows o.port d → dials.allows z.port d
near_walks_allow apart k d here a = a
near_walks_allow apart k d (idled {o = o} {p = p} i w) a = near_walks_allow apart k d w (apart.idles o.port p.port d i.idles.idle a)
near_walks_allow apart k d (done {d = deed} h w) a = near_walks_allow apart k d w (near_does_allow apart k _ _ deed d h a)
near_walks_allow apart k d (walked {n = n} {s = s} f h w) a = near_walks_allow apart k d w (near_goes_allow apart _ _ n s d h a)

pub flag_allows : {P K : Type 0} {fast : Fast P} {dials : Dialled P} (apart : AreApart fast dials) (p q : P) (space : Space K) (b : Bool) → Did fast p (fasts.Flags b) q → AllowsMaps dials p space → AllowsMaps dials q space
flag_allows apart p q space b did allows = record { allowed = λ len h. apart.steps p q (fasts.Flags b) _ did.step (allows.allowed len h) }

pub empties_allow : {P K : Type 0} {fast : Fast P} {dials : Dialled P} (t : Tunables) (apart : AreApart fast dials) (a b : Plain) (p q : P) (space : Space K) (old new : List Said) → let ok : Result (Unit {0}) NoMemory = Ok tt in
    Empties fast (consolidated a) (fast_hold a p old) ok (fast_hold b q new) → AllowsMaps dials p space → AllowsMaps dials q space
empties_allow t apart a b p q space old new e allows = record { allowed = λ len h. fast_walks_allow apart _ (e.walk t).done.walks (allows.allowed len h) }

pub begin_allows : {P K : Type 0} {fast : Fast P} {dials : Dialled P} {rules : Rules search.Step} (t : Tunables) (apart : AreApart fast dials) (x y : Stage (Near P)) (space : Space K) → Steps (near_ledger fast) rules x (Ok steps.Onward) y → AllowsMaps dials x.outside.port space → AllowsMaps dials y.outside.port space
begin_allows t apart x y space s allows = record { allowed = λ len h. near_walks_allow apart x.arena.number _ (s.works t).walk.done.walks (allows.allowed len h) }

-- ---- steps in the whole hold

shelf_full : {P K : Type 0} {rules : Rules search.Step} {x y : Stage CacheValue} (m : Means P K) (t : Tunables) (port : P) (space : Space K) (r : Result Step NoMemory) → Steps shelf rules x r y →
    Works (full m) t rules no_chunk (stage x.arena (beside_arena port x.outside space) x.said) (λ s. step_of s y.arena) chunks_taken r (stage y.arena (beside_arena port y.outside space) y.said)
shelf_full m t port space r s = works_put r (near_part m space) (works_put r (shelf_part m.fast port) (s.works t))

near_full : {P K : Type 0} {rules : Rules search.Step} {x y : Stage (Near P)} (m : Means P K) (t : Tunables) (space : Space K) (r : Result Step NoMemory) → Steps (near_ledger m.fast) rules x r y →
    Works (full m) t rules no_chunk (stage x.arena (beside_arena x.outside.port x.outside.cache space) x.said) (λ s. step_of s y.arena) chunks_taken r (stage y.arena (beside_arena y.outside.port y.outside.cache space) y.said)
near_full m t space r s = works_put r (near_part m space) (s.works t)

abbrev all_done : Result (Unit {0}) NoMemory
all_done = Ok tt

abbrev all_short : NoMemory → Result (Unit {0}) NoMemory
all_short d = Err d

-- ---- a round

abbrev after_round : ℕ → Tunables → ℕ → Plain → Bool → Rules growth.Took
after_round again t nb b flag = if flag then behind (consolidated b) (rounds again t nb) else system_asked t nb b

abbrev after_last : Tunables → ℕ → search.Step → Rules growth.Took
after_last t nb step = elim step [
  | search.Taken c b ↦ Stop (record { found = growth.InArena c; arena = b })
  | search.Onward b ↦ system_asked t nb b
]

abbrev after_look : ℕ → Tunables → ℕ → search.Step → Rules growth.Took
after_look again t nb step = elim step [
  | search.Taken c b ↦ Stop (record { found = growth.InArena c; arena = b })
  | search.Onward b ↦ asks_flag b (after_round again t nb b)
]

pub round_short : {P K : Type 0} (m : Means P K) (t : Tunables) (nb again : ℕ) (x y : Stage CacheValue) (port : P) (space : Space K) (d : NoMemory) (r : Result Found NoMemory) → IsErr r → Steps shelf (looked nb x.arena) x (Err d) y →
    Finds m t (rounds again t nb x.arena) (stage x.arena (beside_arena port x.outside space) x.said) r (stage y.arena (beside_arena port y.outside space) y.said)
round_short m t nb zero x y port space d r is s = short_behind_works (after_last t nb) d r is (shelf_full m t port space (Err d) s)
round_short m t nb (suc again) x y port space d r is s = short_behind_works (after_look again t nb) d r is (shelf_full m t port space (Err d) s)

pub round_found : {P K : Type 0} (m : Means P K) (t : Tunables) (nb again : ℕ) (x y : Stage CacheValue) (port : P) (space : Space K) (c : Chunk) → Steps shelf (looked nb x.arena) x (Ok (steps.Taken c)) y →
    Finds m t (rounds again t nb x.arena) (stage x.arena (beside_arena port x.outside space) x.said) (Ok (finds.InArena c)) (stage y.arena (beside_arena port y.outside space) y.said)
round_found m t nb zero x y port space c s =
    let f = passes_behind (after_last t nb) (steps.Taken c) (shelf_full m t port space (Ok (steps.Taken c)) s) in
    works_ok f.reaches f.balances
round_found m t nb (suc again) x y port space c s =
    let f = passes_behind (after_look again t nb) (steps.Taken c) (shelf_full m t port space (Ok (steps.Taken c)) s) in
    works_ok f.reaches f.balances

-- a look that goes on leaves the hold ready
pub look_ready : {P K : Type 0} (m : Means P K) (t : Tunables) (nb : ℕ) (x y : Stage CacheValue) (port : P) (space : Space K) → IsReady m t (stage x.arena (beside_arena port x.outside space) x.said) → Steps shelf (looked nb x.arena) x (Ok steps.Onward) y → IsReady m t (stage y.arena (beside_arena port y.outside space) y.said)
look_ready m t nb x y port space ready s = ready_after t ready (passes_behind (after_last t nb) steps.Onward (shelf_full m t port space (Ok steps.Onward) s))

pub round_last : {P K : Type 0} (m : Means P K) (t : Tunables) (nb again : ℕ) (x y : Stage CacheValue) (port : P) (space : Space K) (z : Stage (Outside P K)) (r : Result Found NoMemory) → again ≡ 0 → Steps shelf (looked nb x.arena) x (Ok steps.Onward) y →
    Finds m t (system_asked t nb y.arena) (stage y.arena (beside_arena port y.outside space) y.said) r z → Finds m t (rounds again t nb x.arena) (stage x.arena (beside_arena port x.outside space) x.said) r z
round_last m t nb again x y port space z r is s w =
    let last : Finds m t (rounds 0 t nb x.arena) (stage x.arena (beside_arena port x.outside space) x.said) r z =
    works_after r (passes_behind (after_last t nb) steps.Onward (shelf_full m t port space (Ok steps.Onward) s)) (λ e. refl) w in
    subst (λ n. Finds m t (rounds n t nb x.arena) (stage x.arena (beside_arena port x.outside space) x.said) r z) (sym is) last

round_on : {P K : Type 0} (m : Means P K) (t : Tunables) (nb again : ℕ) (x y : Stage CacheValue) (port : P) (space : Space K) → Steps shelf (looked nb x.arena) x (Ok steps.Onward) y →
    Passes (full m) t (rounds (suc again) t nb x.arena) (stage x.arena (beside_arena port x.outside space) x.said) no_chunk (asks_flag y.arena (after_round again t nb y.arena)) (stage y.arena (beside_arena port y.outside space) y.said)
round_on m t nb again x y port space s = passes_behind (after_look again t nb) steps.Onward (shelf_full m t port space (Ok steps.Onward) s)

pub again_as : {P K : Type 0} (m : Means P K) (t : Tunables) (nb again rest : ℕ) (a : Plain) (x z : Stage (Outside P K)) (r : Result Found NoMemory) → again ≡ suc rest → Finds m t (rounds (suc rest) t nb a) x r z → Finds m t (rounds again t nb a) x r z
again_as m t nb again rest a x z r is w = subst (λ n. Finds m t (rounds n t nb a) x r z) (sym is) w

pub flag_short : {P K : Type 0} (m : Means P K) (t : Tunables) (nb again : ℕ) (x y : Stage CacheValue) (port : P) (space : Space K) (r : Result Found NoMemory) → IsErr r → Steps shelf (looked nb x.arena) x (Ok steps.Onward) y →
    Finds m t (rounds (suc again) t nb x.arena) (stage x.arena (beside_arena port x.outside space) x.said) r (stage y.arena (beside_arena port y.outside space) y.said)
flag_short m t nb again x y port space r is s =
    let f = round_on m t nb again x y port space s in
    works_after r f (λ e. refl) (works_short r is short_here (loses_from (balances_here (full m) (stage y.arena (beside_arena port y.outside space) y.said) y.said f.balances.sound)))

flag_on : {P K : Type 0} (m : Means P K) (t : Tunables) (nb again : ℕ) (x y : Stage CacheValue) (p q : P) (space : Space K) (b : Bool) → Steps shelf (looked nb x.arena) x (Ok steps.Onward) y → Did m.fast p (fasts.Flags b) q →
    Passes (full m) t (rounds (suc again) t nb x.arena) (stage x.arena (beside_arena p x.outside space) x.said) no_chunk (after_round again t nb y.arena b) (stage y.arena (beside_arena q y.outside space) (y.said ++ told.Flag b ∷ []))
flag_on m t nb again x y p q space b s did =
    let f = round_on m t nb again x y p space s in
    let asked : Works (fast_ledger m.fast) t (asks_flag y.arena (λ flag. Stop flag)) no_chunk (stage y.arena p y.said) (λ _. b) (λ _. no_chunk) all_done (stage y.arena q (y.said ++ told.Flag b ∷ [])) =
    works_ok (flag_reaches m.fast y.arena.number p q y.arena (λ flag. Stop flag) b did) (flag_balances m.fast y.arena p q y.said (y.said ++ told.Flag b ∷ []) b f.balances.sound did) in
    let lifted = works_put all_done (near_part m space) (works_put all_done (fast_part m.fast y.outside) asked) in
    passes_as (passes_then f (passes_behind (after_round again t nb y.arena) tt lifted)) (λ e. omega arith)

pub flag_ready : {P K : Type 0} (m : Means P K) (t : Tunables) (nb again : ℕ) (x y : Stage CacheValue) (p q : P) (space : Space K) (b : Bool) → IsReady m t (stage x.arena (beside_arena p x.outside space) x.said) → Steps shelf (looked nb x.arena) x (Ok steps.Onward) y → Did m.fast p (fasts.Flags b) q →
    IsReady m t (stage y.arena (beside_arena q y.outside space) (y.said ++ told.Flag b ∷ []))
flag_ready m t nb again x y p q space b ready s did = ready_after t ready (flag_on m t nb again x y p q space b s did)

pub round_unflagged : {P K : Type 0} (m : Means P K) (t : Tunables) (nb again : ℕ) (x y : Stage CacheValue) (p q : P) (space : Space K) (z : Stage (Outside P K)) (r : Result Found NoMemory) → Steps shelf (looked nb x.arena) x (Ok steps.Onward) y → Did m.fast p (fasts.Flags false) q →
    Finds m t (system_asked t nb y.arena) (stage y.arena (beside_arena q y.outside space) (y.said ++ told.Flag false ∷ [])) r z → Finds m t (rounds (suc again) t nb x.arena) (stage x.arena (beside_arena p x.outside space) x.said) r z
round_unflagged m t nb again x y p q space z r s did w = works_after r (flag_on m t nb again x y p q space false s did) (λ e. refl) w

empties_full : {P K : Type 0} (m : Means P K) (t : Tunables) (cache : CacheValue) (space : Space K) (a b : Plain) (p q : P) (old new : List Said) (r : Result (Unit {0}) NoMemory) → Empties m.fast (consolidated a) (fast_hold a p old) r (fast_hold b q new) →
    Works (full m) t (consolidated a) no_chunk (stage a (beside_arena p cache space) old) (λ _. b) (λ _. no_chunk) r (stage b (beside_arena q cache space) new)
empties_full m t cache space a b p q old new r e = works_put r (near_part m space) (works_put r (fast_part m.fast cache) (works_empties t e))

pub consolidate_short : {P K : Type 0} (m : Means P K) (t : Tunables) (nb again : ℕ) (x y : Stage CacheValue) (b : Plain) (p q z : P) (space : Space K) (new : List Said) (d : NoMemory) (r : Result Found NoMemory) → IsErr r → Steps shelf (looked nb x.arena) x (Ok steps.Onward) y → Did m.fast p (fasts.Flags true) q →
    Empties m.fast (consolidated y.arena) (fast_hold y.arena q (y.said ++ told.Flag true ∷ [])) (all_short d) (fast_hold b z new) → Finds m t (rounds (suc again) t nb x.arena) (stage x.arena (beside_arena p x.outside space) x.said) r (stage b (beside_arena z y.outside space) new)
consolidate_short m t nb again x y b p q z space new d r is s did e =
    works_after r (flag_on m t nb again x y p q space true s did) (λ e. refl) (short_behind_works (rounds again t nb) d r is (empties_full m t y.outside space y.arena b q z (y.said ++ told.Flag true ∷ []) new (all_short d) e))

consolidate_on : {P K : Type 0} (m : Means P K) (t : Tunables) (nb again : ℕ) (x y : Stage CacheValue) (b : Plain) (p q z : P) (space : Space K) (new : List Said) → Steps shelf (looked nb x.arena) x (Ok steps.Onward) y → Did m.fast p (fasts.Flags true) q →
    Empties m.fast (consolidated y.arena) (fast_hold y.arena q (y.said ++ told.Flag true ∷ [])) all_done (fast_hold b z new) →
    Passes (full m) t (rounds (suc again) t nb x.arena) (stage x.arena (beside_arena p x.outside space) x.said) no_chunk (rounds again t nb b) (stage b (beside_arena z y.outside space) new)
consolidate_on m t nb again x y b p q z space new s did e =
    passes_as (passes_then (flag_on m t nb again x y p q space true s did) (passes_behind (rounds again t nb) tt (empties_full m t y.outside space y.arena b q z (y.said ++ told.Flag true ∷ []) new all_done e))) (λ e. omega arith)

pub consolidate_ready : {P K : Type 0} (m : Means P K) (t : Tunables) (nb again : ℕ) (x y : Stage CacheValue) (b : Plain) (p q z : P) (space : Space K) (new : List Said) → IsReady m t (stage x.arena (beside_arena p x.outside space) x.said) → Steps shelf (looked nb x.arena) x (Ok steps.Onward) y → Did m.fast p (fasts.Flags true) q →
    Empties m.fast (consolidated y.arena) (fast_hold y.arena q (y.said ++ told.Flag true ∷ [])) all_done (fast_hold b z new) → IsReady m t (stage b (beside_arena z y.outside space) new)
consolidate_ready m t nb again x y b p q z space new ready s did e = ready_after t ready (consolidate_on m t nb again x y b p q z space new s did e)

pub round_again : {P K : Type 0} (m : Means P K) (t : Tunables) (nb again : ℕ) (x y : Stage CacheValue) (b : Plain) (p q z : P) (space : Space K) (new : List Said) (end : Stage (Outside P K)) (r : Result Found NoMemory) → Steps shelf (looked nb x.arena) x (Ok steps.Onward) y → Did m.fast p (fasts.Flags true) q →
    Empties m.fast (consolidated y.arena) (fast_hold y.arena q (y.said ++ told.Flag true ∷ [])) all_done (fast_hold b z new) → Finds m t (rounds again t nb b) (stage b (beside_arena z y.outside space) new) r end →
    Finds m t (rounds (suc again) t nb x.arena) (stage x.arena (beside_arena p x.outside space) x.said) r end
round_again m t nb again x y b p q z space new end r s did e w = works_after r (consolidate_on m t nb again x y b p q z space new s did e) (λ e. refl) w

-- ---- the search

abbrev after_begin : Tunables → ℕ → search.Step → Rules growth.Took
after_begin t nb step = elim step [
  | search.Taken c b ↦ Stop (record { found = growth.InArena c; arena = b })
  | search.Onward b ↦ rounds 2 t nb b
]

pub search_short : {P K : Type 0} (m : Means P K) (t : Tunables) (nb : ℕ) (x y : Stage (Near P)) (space : Space K) (d : NoMemory) (r : Result Found NoMemory) → IsErr r → Steps (near_ledger m.fast) (first_steps t nb x.arena) x (Err d) y →
    Finds m t (searched t nb x.arena) (stage x.arena (beside_arena x.outside.port x.outside.cache space) x.said) r (stage y.arena (beside_arena y.outside.port y.outside.cache space) y.said)
search_short m t nb x y space d r is s = short_behind_works (after_begin t nb) d r is (near_full m t space (Err d) s)

pub search_found : {P K : Type 0} (m : Means P K) (t : Tunables) (nb : ℕ) (x y : Stage (Near P)) (space : Space K) (c : Chunk) → Steps (near_ledger m.fast) (first_steps t nb x.arena) x (Ok (steps.Taken c)) y →
    Finds m t (searched t nb x.arena) (stage x.arena (beside_arena x.outside.port x.outside.cache space) x.said) (Ok (finds.InArena c)) (stage y.arena (beside_arena y.outside.port y.outside.cache space) y.said)
search_found m t nb x y space c s =
    let f = passes_behind (after_begin t nb) (steps.Taken c) (near_full m t space (Ok (steps.Taken c)) s) in
    works_ok f.reaches f.balances

search_on : {P K : Type 0} (m : Means P K) (t : Tunables) (nb : ℕ) (x y : Stage (Near P)) (space : Space K) → Steps (near_ledger m.fast) (first_steps t nb x.arena) x (Ok steps.Onward) y →
    Passes (full m) t (searched t nb x.arena) (stage x.arena (beside_arena x.outside.port x.outside.cache space) x.said) no_chunk (rounds 2 t nb y.arena) (stage y.arena (beside_arena y.outside.port y.outside.cache space) y.said)
search_on m t nb x y space s = passes_behind (after_begin t nb) steps.Onward (near_full m t space (Ok steps.Onward) s)

pub begin_ready : {P K : Type 0} (m : Means P K) (t : Tunables) (nb : ℕ) (x y : Stage (Near P)) (space : Space K) → IsReady m t (stage x.arena (beside_arena x.outside.port x.outside.cache space) x.said) → Steps (near_ledger m.fast) (first_steps t nb x.arena) x (Ok steps.Onward) y → IsReady m t (stage y.arena (beside_arena y.outside.port y.outside.cache space) y.said)
begin_ready m t nb x y space ready s = ready_after t ready (search_on m t nb x y space s)

pub search_goes : {P K : Type 0} (m : Means P K) (t : Tunables) (nb : ℕ) (x y : Stage (Near P)) (space : Space K) (z : Stage (Outside P K)) (r : Result Found NoMemory) → Steps (near_ledger m.fast) (first_steps t nb x.arena) x (Ok steps.Onward) y →
    Finds m t (rounds 2 t nb y.arena) (stage y.arena (beside_arena y.outside.port y.outside.cache space) y.said) r z → Finds m t (searched t nb x.arena) (stage x.arena (beside_arena x.outside.port x.outside.cache space) x.said) r z
search_goes m t nb x y space z r s w = works_after r (search_on m t nb x y space s) (λ e. refl) w
