-- The scan with what follows it, and the first steps of a search, for this crate and those above it.
use Rattle.std.proofs.Common.{◌≡◌, ℕ, Bool, true, false, cond, List, [], ◌∷◌, ◌++◌, Result, Ok, Err, refl, sym, ap, ◌∙◌, subst, arith}
use Rattle.std.specs.Result.{IsErr}
use Rattle.chunk_tags.specs.declared.refusals.NoMemory.{NoMemory}
use Rattle.chunk_tags.specs.declared.tiles.Chunk.{Chunk}
use Rattle.chunk_tags.specs.declared.tunables.Tunables.{Tunables}
use Rattle.chunk_tags.specs.Sizes.{IsChunkSize, is_small_size}
use Rattle.thread_cache.specs.Caches.{CacheValue}
use Rattle.fast_bins.specs.FastPorts as fasts
use Rattle.fast_bins.specs.FastPorts.{Fast, Did}
use Rattle.arena_rules.specs.declared.said.Said.{Said}
use Rattle.arena_rules.specs.declared.said.Said.TheVariants as told
use Rattle.arena_rules.specs.PlainArena.{Plain, IsSound}
use Rattle.arena_rules.specs.Release.{consolidated, consolidated_if}
use Rattle.arena_rules.specs.Rules.{Rules, Stop, Flagged, asks_flag, behind, flag_of}
use Rattle.arena_rules.specs.Walks.{Ways, Reaches, StopsShort}
use Rattle.arena_rules.specs.Search as search
use Rattle.arena_rules.specs.Search.{next_step, scanned_all, looked, best_taken, larger_taken, top_taken, small_taken, fast_taken, consolidated_first, small_or_consolidated, first_steps}
use Rattle.arena_rules.proofs.Walks.{reaches_here, reaches_told, short_here}
use Rattle.consolidate_trim.specs.FastHolds.{fast_hold, Empties}
use Rattle.consolidate_trim.specs.Holds.{no_chunk, IsBacked}
use Rattle.arena_growth.specs.declared.step.Step as step_type
use Rattle.arena_growth.specs.declared.step.Step.TheVariants as steps
use Rattle.arena_growth.specs.Ledgers.{Ledger, Stage, stage, Works, Balances, shelf, Near, near, near_ledger, fast_ledger}
use Rattle.arena_growth.specs.Steps.{Steps, Sweeps, step_of, chunks_taken, taken_behind_scan}
use Rattle.arena_growth.proofs.Balance.{balances_here, balances_then, balances_as, loses_from, works_ok, works_short}
use Rattle.arena_growth.proofs.BinnedLaws.{binned_is, binned_balances}
use Rattle.arena_growth.proofs.Lifting.{works_put, works_empties, shelf_part, fast_part}
use Rattle.arena_growth.proofs.Parts.{Passes, passes_then, passes_behind, works_after, short_behind_works, step_ends, step_goes, backed_balances}

-- ---- a look

abbrev after_scan : ℕ → Plain → Rules search.Step
after_scan nb b = next_step (best_taken nb b) (λ c. next_step (larger_taken nb c) (top_taken nb))

pub look_ends : (nb : ℕ) (x y : Stage CacheValue) (c : Chunk) → Steps shelf (scanned_all nb x.arena) x (Ok (steps.Taken c)) y → Steps shelf (looked nb x.arena) x (Ok (steps.Taken c)) y
look_ends nb x y c s = record { works = λ t. step_ends (after_scan nb) c (s.works t) }

pub look_short : (nb : ℕ) (x y : Stage CacheValue) (e : NoMemory) (r : Result step_type.Step NoMemory) → IsErr r → Steps shelf (scanned_all nb x.arena) x (Err e) y → Steps shelf (looked nb x.arena) x r y
look_short nb x y e r is s = record { works = λ t. short_behind_works (λ (step : search.Step). elim step [ search.Taken c a ↦ Stop (search.Taken c a) | search.Onward a ↦ after_scan nb a ]) e r is (s.works t) }

pub look_binned : (nb : ℕ) (x y : Stage CacheValue) (s : step_type.Step) (b : Plain) → IsChunkSize nb → Steps shelf (scanned_all nb x.arena) x (Ok steps.Onward) y → step_of s b ≡ taken_behind_scan nb y.arena →
    Steps shelf (looked nb x.arena) x (Ok s) (stage b y.outside y.said)
look_binned nb x y s b chunk st is = record {
  works = λ t.
      let p : Passes shelf t (looked nb x.arena) x no_chunk (after_scan nb y.arena) y = step_goes (after_scan nb) (st.works t) in
      let ends : after_scan nb y.arena ≡ Stop (step_of s b) = binned_is nb y.arena ∙ ap (λ (q : search.Step). Stop q) (sym is) in
      works_ok (subst (λ q. Reaches t (shelf.ways x.arena.number) (looked nb x.arena) x.outside x.said q y.said y.outside) ends p.reaches)
      (balances_as (balances_then p.balances (binned_balances shelf y nb y.said s b p.balances.sound chunk is)) (λ e. omega arith));
}

-- the arena is sound behind a scan
pub sound_after : {O : Type 0} {l : Ledger O} {rules : Rules search.Step} {x y : Stage O} {s : step_type.Step} (t : Tunables) → Steps l rules x (Ok s) y → IsSound y.arena
sound_after t s = (s.works t).keeps.sound

-- ---- the flag

abbrev fast_ways : {P : Type 0} → Fast P → ℕ → Ways P
fast_ways fast n = (fast_ledger fast).ways n

pub flag_reaches : {P A : Type 0} (fast : Fast P) {t : Tunables} (n : ℕ) {old : List Said} (p q : P) (a : Plain) (f : Bool → Rules A) (b : Bool) → Did fast p (fasts.Flags b) q →
    Reaches t (fast_ways fast n) (asks_flag a f) p old (f b) (old ++ told.Flag b ∷ []) q
flag_reaches fast {t = t} n p q a f b did =
    reaches_told {t = t} {w = fast_ways fast n} {a = a} {n = Flagged} {f = λ s. f (flag_of s)} {o = p} {z = q} (told.Flag b) refl did

pub flag_balances : {P : Type 0} (fast : Fast P) (a : Plain) (p q : P) (old new : List Said) (b : Bool) → IsSound a → Did fast p (fasts.Flags b) q → Balances (fast_ledger fast) (stage a p old) no_chunk no_chunk (stage a q new)
flag_balances fast a p q old new b s did = record { sound = s; number = refl; windows = refl; placed = λ p. p; cached = λ e. omega arith; others = λ n other e. refl; kept = λ e. omega (arith, did.stock e) }

-- ---- consolidation first

abbrev after_flag : Plain → Bool → Rules search.Step
after_flag a flag = behind (consolidated_if flag a) (λ b. Stop (search.Onward b))

sweep_large : (nb : ℕ) (a : Plain) → is_small_size nb ≡ false → consolidated_first nb a ≡ asks_flag a (after_flag a)
sweep_large nb a is = ap (λ (b : Bool). cond b (Stop (search.Onward a)) (asks_flag a (after_flag a))) is

pub sweep_small : {P : Type 0} (fast : Fast P) (nb : ℕ) (x : Stage P) → IsSound x.arena → is_small_size nb ≡ true → Sweeps fast (consolidated_first nb x.arena) x (Ok tt) x
sweep_small fast nb x s is = record {
  works = λ t.
      let ends : consolidated_first nb x.arena ≡ Stop (search.Onward x.arena) = ap (λ (b : Bool). cond b (Stop (search.Onward x.arena)) (asks_flag x.arena (after_flag x.arena))) is in
      works_ok (subst (λ q. Reaches t (fast_ways fast x.arena.number) q x.outside x.said (Stop (search.Onward x.arena)) x.said x.outside) (sym ends) reaches_here) (balances_here (fast_ledger fast) x x.said s);
}

pub sweep_short : {P : Type 0} (fast : Fast P) (nb : ℕ) (x : Stage P) (r : Result (Unit {0}) NoMemory) → IsErr r → IsSound x.arena → is_small_size nb ≡ false → Sweeps fast (consolidated_first nb x.arena) x r x
sweep_short fast nb x r err s is = record {
  works = λ t. works_short r err (subst (λ q. StopsShort t (fast_ways fast x.arena.number) q x.outside x.said x.arena x.said x.outside) (sym (sweep_large nb x.arena is)) short_here) (loses_from (balances_here (fast_ledger fast) x x.said s));
}

flag_passes : {P : Type 0} (fast : Fast P) (t : Tunables) (nb : ℕ) (a : Plain) (p q : P) (old : List Said) (b : Bool) → IsSound a → is_small_size nb ≡ false → Did fast p (fasts.Flags b) q →
    Passes (fast_ledger fast) t (consolidated_first nb a) (stage a p old) no_chunk (after_flag a b) (stage a q (old ++ told.Flag b ∷ []))
flag_passes fast t nb a p q old b s is did = record {
  reaches = subst (λ r. Reaches t (fast_ways fast a.number) r p old (after_flag a b) (old ++ told.Flag b ∷ []) q) (sym (sweep_large nb a is)) (flag_reaches fast a.number p q a (after_flag a) b did);
  balances = flag_balances fast a p q old (old ++ told.Flag b ∷ []) b s did;
}

-- no chunks may be in the fast bins
pub sweep_none : {P : Type 0} (fast : Fast P) (nb : ℕ) (a : Plain) (p q : P) (old : List Said) → IsSound a → is_small_size nb ≡ false → Did fast p (fasts.Flags false) q →
    Sweeps fast (consolidated_first nb a) (stage a p old) (Ok tt) (stage a q (old ++ told.Flag false ∷ []))
sweep_none fast nb a p q old s is did = record {
  works = λ t.
      let f = flag_passes fast t nb a p q old false s is did in
      works_ok f.reaches f.balances;
}

-- the fast bins are consolidated
pub sweep_all : {P : Type 0} (fast : Fast P) (nb : ℕ) (a b : Plain) (p q z : P) (old new : List Said) (r : Result (Unit {0}) NoMemory) → IsSound a → is_small_size nb ≡ false → Did fast p (fasts.Flags true) q →
    Empties fast (consolidated a) (fast_hold a q (old ++ told.Flag true ∷ [])) r (fast_hold b z new) → Sweeps fast (consolidated_first nb a) (stage a p old) r (stage b z new)
sweep_all fast nb a b p q z old new (Ok v) s is did e = record {
  works = λ t.
      let f = flag_passes fast t nb a p q old true s is did in
      let w = passes_behind (λ b. Stop (search.Onward b)) v (works_empties t e) in
      let both = passes_then f w in
      works_ok both.reaches (balances_as both.balances (λ e. omega arith));
}
sweep_all fast nb a b p q z old new (Err d) s is did e = record {
  works = λ t.
      let f = flag_passes fast t nb a p q old true s is did in
      let err : Result (Unit {0}) NoMemory = Err d in
      works_after err f (λ e. refl) (short_behind_works (λ b. Stop (search.Onward b)) d err refl (works_empties t e));
}

-- ---- the beginning

abbrev after_small : ℕ → search.Step → Rules search.Step
after_small nb step = elim step [ search.Taken c a ↦ Stop (search.Taken c a) | search.Onward a ↦ consolidated_first nb a ]

lifted_step : {P : Type 0} {rules : Rules search.Step} {x y : Stage CacheValue} (fast : Fast P) (port : P) (t : Tunables) (r : Result step_type.Step NoMemory) → Steps shelf rules x r y →
    Works (near_ledger fast) t rules no_chunk (stage x.arena (near port x.outside) x.said) (λ s. step_of s y.arena) chunks_taken r (stage y.arena (near port y.outside) y.said)
lifted_step fast port t r s = works_put r (shelf_part fast port) (s.works t)

pub small_ends : {P : Type 0} (fast : Fast P) (port : P) (nb : ℕ) (x y : Stage CacheValue) (c : Chunk) → Steps shelf (small_taken nb x.arena) x (Ok (steps.Taken c)) y →
    Steps (near_ledger fast) (small_or_consolidated nb x.arena) (stage x.arena (near port x.outside) x.said) (Ok (steps.Taken c)) (stage y.arena (near port y.outside) y.said)
small_ends fast port nb x y c s = record { works = λ t. step_ends (consolidated_first nb) c (lifted_step fast port t (Ok (steps.Taken c)) s) }

pub small_fails : {P : Type 0} (fast : Fast P) (port : P) (nb : ℕ) (x y : Stage CacheValue) (e : NoMemory) (r : Result step_type.Step NoMemory) → IsErr r → Steps shelf (small_taken nb x.arena) x (Err e) y →
    Steps (near_ledger fast) (small_or_consolidated nb x.arena) (stage x.arena (near port x.outside) x.said) r (stage y.arena (near port y.outside) y.said)
small_fails fast port nb x y e r is s = record { works = λ t. short_behind_works (after_small nb) e r is (lifted_step fast port t (Err e) s) }

pub small_sweeps : {P : Type 0} (fast : Fast P) (nb : ℕ) (x y : Stage CacheValue) (b : Plain) (p q : P) (said : List Said) → Steps shelf (small_taken nb x.arena) x (Ok steps.Onward) y → Sweeps fast (consolidated_first nb y.arena) (stage y.arena p y.said) (Ok tt) (stage b q said) →
    Steps (near_ledger fast) (small_or_consolidated nb x.arena) (stage x.arena (near p x.outside) x.said) (Ok steps.Onward) (stage b (near q y.outside) said)
small_sweeps fast nb x y b p q said s w = record {
  works = λ t.
      let first = step_goes (consolidated_first nb) (lifted_step fast p t (Ok steps.Onward) s) in
      let swept = works_put (Ok tt) (fast_part fast y.outside) (w.works t) in
      let second : Passes (near_ledger fast) t (consolidated_first nb y.arena) (stage y.arena (near p y.outside) y.said) no_chunk (Stop (search.Onward b)) (stage b (near q y.outside) said) = record { reaches = swept.walk.done; balances = swept.keeps } in
      let both = passes_then first second in
      works_ok both.reaches (balances_as both.balances (λ e. omega arith));
}

pub small_sweep_fails : {P : Type 0} (fast : Fast P) (nb : ℕ) (x y : Stage CacheValue) (b : Plain) (p q : P) (said : List Said) (d : NoMemory) (r : Result step_type.Step NoMemory) → IsErr r → Steps shelf (small_taken nb x.arena) x (Ok steps.Onward) y → Sweeps fast (consolidated_first nb y.arena) (stage y.arena p y.said) (Err d) (stage b q said) →
    Steps (near_ledger fast) (small_or_consolidated nb x.arena) (stage x.arena (near p x.outside) x.said) r (stage b (near q y.outside) said)
small_sweep_fails fast nb x y b p q said d r is s w = record {
  works = λ t.
      let first = step_goes (consolidated_first nb) (lifted_step fast p t (Ok steps.Onward) s) in
      let swept = works_put (Err d) (fast_part fast y.outside) (w.works t) in
      works_after r first (λ e. refl) (works_short r is swept.walk.short swept.spares);
}

pub begin_ends : {P : Type 0} (fast : Fast P) (t : Tunables) (nb : ℕ) (x y : Stage (Near P)) (c : Chunk) → Steps (near_ledger fast) (fast_taken t nb x.arena) x (Ok (steps.Taken c)) y → Steps (near_ledger fast) (first_steps t nb x.arena) x (Ok (steps.Taken c)) y
begin_ends fast t nb x y c s = record { works = λ u. step_ends (small_or_consolidated nb) c (s.works u) }

pub begin_fails : {P : Type 0} (fast : Fast P) (t : Tunables) (nb : ℕ) (x y : Stage (Near P)) (e : NoMemory) (r : Result step_type.Step NoMemory) → IsErr r → Steps (near_ledger fast) (fast_taken t nb x.arena) x (Err e) y → Steps (near_ledger fast) (first_steps t nb x.arena) x r y
begin_fails fast t nb x y e r is s = record { works = λ u. short_behind_works (λ (step : search.Step). elim step [ search.Taken c a ↦ Stop (search.Taken c a) | search.Onward a ↦ small_or_consolidated nb a ]) e r is (s.works u) }

pub begin_goes : {P : Type 0} (fast : Fast P) (t : Tunables) (nb : ℕ) (x y z : Stage (Near P)) (r : Result step_type.Step NoMemory) → Steps (near_ledger fast) (fast_taken t nb x.arena) x (Ok steps.Onward) y → Steps (near_ledger fast) (small_or_consolidated nb y.arena) y r z → Steps (near_ledger fast) (first_steps t nb x.arena) x r z
begin_goes fast t nb x y z r s w = record { works = λ u. works_after r (step_goes (small_or_consolidated nb) (s.works u)) (λ e. refl) (w.works u) }

-- the chunks of the port are backed behind such a step
pub backed_step : {P : Type 0} {fast : Fast P} {rules : Rules search.Step} {x y : Stage (Near P)} (t : Tunables) → IsBacked fast x.arena x.outside.port no_chunk → Steps (near_ledger fast) rules x (Ok steps.Onward) y → IsBacked fast y.arena y.outside.port no_chunk
backed_step {fast = fast} {x = x} {y = y} t b s = backed_balances fast (near_ledger fast) x y x.outside.port y.outside.port no_chunk (λ e. refl) (λ e. refl) b (s.works t).keeps

pub backed_small : {P : Type 0} {fast : Fast P} {rules : Rules search.Step} {x y : Stage CacheValue} (t : Tunables) (port : P) → IsBacked fast x.arena port no_chunk → Steps shelf rules x (Ok steps.Onward) y → IsBacked fast y.arena port no_chunk
backed_small {fast = fast} {x = x} {y = y} t port b s =
    backed_balances fast (near_ledger fast) (stage x.arena (near port x.outside) x.said) (stage y.arena (near port y.outside) y.said) port port no_chunk (λ e. refl) (λ e. refl) b (lifted_step fast port t (Ok steps.Onward) s).keeps
