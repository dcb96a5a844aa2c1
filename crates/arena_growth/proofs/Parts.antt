-- Laws of the parts of a body, one behind the other, for this crate and those above it.
use Rattle.std.proofs.Common.{◌≡◌, ℕ, ◌+◌, List, Result, Ok, Err, subst, arith}
use Rattle.std.specs.Result.{IsErr}
use Rattle.chunk_tags.specs.declared.tiles.Chunk.{Chunk}
use Rattle.chunk_tags.specs.declared.tunables.Tunables.{Tunables}
use Rattle.fast_bins.specs.FastPorts.{Fast}
use Rattle.arena_rules.specs.declared.said.Said.{Said}
use Rattle.arena_rules.specs.PlainArena.{Plain, IsSound}
use Rattle.arena_rules.specs.Rules.{Rules, Stop, behind}
use Rattle.arena_rules.specs.Walks.{Reaches, StopsShort}
use Rattle.arena_rules.specs.Search as search
use Rattle.arena_rules.specs.Search.{next_step}
use Rattle.arena_rules.proofs.Walks.{reaches_here, reaches_then, reaches_behind, short_then, short_behind}
use Rattle.consolidate_trim.specs.Holds.{Chunks, no_chunk, IsBacked}
use Rattle.arena_growth.specs.declared.step.Step as step_type
use Rattle.arena_growth.specs.declared.step.Step.TheVariants.{Taken, Onward}
use Rattle.arena_growth.specs.Ledgers.{Ledger, Stage, Balances, Works}
use Rattle.arena_growth.specs.Steps.{step_of, chunks_taken}
use Rattle.arena_growth.proofs.Balance.{balances_here, balances_then, balances_as, loses_then}

-- From these rules to what is left of them: so far.
pub record Passes {O A : Type 0} (l : Ledger O) (t : Tunables) (r : Rules A) (x : Stage O) (got : Chunks) (q : Rules A) (y : Stage O) : Type 0 where
  pub reaches : Reaches t (l.ways x.arena.number) r x.outside x.said q y.said y.outside
  pub balances : Balances l x no_chunk got y

pub passes_here : {O A : Type 0} {l : Ledger O} {t : Tunables} {r : Rules A} {x : Stage O} → IsSound x.arena → Passes l t r x no_chunk r x
passes_here {l = l} {x = x} s = record { reaches = reaches_here; balances = balances_here l x x.said s }

-- a walk in an arena whose number is known by another name
pub renumbered : {O A : Type 0} (l : Ledger O) (t : Tunables) (r q : Rules A) (o z : O) (old new : List Said) (n k : ℕ) → n ≡ k → Reaches t (l.ways n) r o old q new z → Reaches t (l.ways k) r o old q new z
renumbered l t r q o z old new n k same = subst (λ k. Reaches t (l.ways k) r o old q new z) same

pub renumbered_short : {O A : Type 0} (l : Ledger O) (t : Tunables) (r : Rules A) (left : Plain) (o z : O) (old new : List Said) (n k : ℕ) → n ≡ k → StopsShort t (l.ways n) r o old left new z → StopsShort t (l.ways k) r o old left new z
renumbered_short l t r left o z old new n k same = subst (λ k. StopsShort t (l.ways k) r o old left new z) same

pub passes_then : {O A : Type 0} {l : Ledger O} {t : Tunables} {r q u : Rules A} {x y z : Stage O} {got got' : Chunks} → Passes l t r x got q y → Passes l t q y got' u z → Passes l t r x (λ e. got e + got' e) u z
passes_then {l = l} {t = t} {q = q} {u = u} {x = x} {y = y} {z = z} p n = record {
  reaches = reaches_then p.reaches (renumbered l t q u y.outside z.outside y.said z.said y.arena.number x.arena.number p.balances.number n.reaches);
  balances = balances_as (balances_then p.balances n.balances) (λ e. omega arith);
}

pub passes_as : {O A : Type 0} {l : Ledger O} {t : Tunables} {r q : Rules A} {x y : Stage O} {got got' : Chunks} → Passes l t r x got q y → ((e : Chunk) → got e ≡ got' e) → Passes l t r x got' q y
passes_as p same = record { reaches = p.reaches; balances = balances_as p.balances (λ e. omega (arith, same e)) }

-- what is promised of what is left is promised of the whole; all that came so far is given to it
pub works_after : {O A X E : Type 0} {l : Ledger O} {t : Tunables} {r q : Rules A} {x y z : Stage O} {given got : Chunks} {made : X → A} {out : X → Chunks} (result : Result X E) → Passes l t r x got q y → ((e : Chunk) → given e ≡ got e) →
    Works l t q given y made out result z → Works l t r no_chunk x made out result z
works_after {l = l} {t = t} {q = q} {x = x} {y = y} {z = z} {made = made} (Ok v) p same w = record {
  walk = record { done = reaches_then p.reaches (renumbered l t q (Stop (made v)) y.outside z.outside y.said z.said y.arena.number x.arena.number p.balances.number w.walk.done); short = tt };
  keeps = balances_as (balances_then p.balances w.keeps) (λ e. omega (arith, same e));
  spares = tt;
}
works_after {l = l} {t = t} {q = q} {x = x} {y = y} {z = z} (Err d) p same w = record {
  walk = record { done = tt; short = short_then p.reaches (renumbered_short l t q z.arena y.outside z.outside y.said z.said y.arena.number x.arena.number p.balances.number w.walk.short) };
  keeps = tt;
  spares = loses_then p.balances w.spares (λ e. omega (arith, same e));
}

-- ---- with more rules behind

pub passes_behind : {O A B X E : Type 0} {l : Ledger O} {t : Tunables} {r : Rules A} {x y : Stage O} {made : X → A} {out : X → Chunks} (f : A → Rules B) (v : X) → let ok : Result X E = Ok v in
    Works l t r no_chunk x made out ok y → Passes l t (behind r f) x (out v) (f (made v)) y
passes_behind f v w = record { reaches = reaches_behind f w.walk.done; balances = w.keeps }

pub short_behind_works : {O A B X Y E F : Type 0} {l : Ledger O} {t : Tunables} {r : Rules A} {given : Chunks} {x y : Stage O} {made : X → A} {out : X → Chunks} {made' : Y → B} {out' : Y → Chunks} (f : A → Rules B) (e : E) (q : Result Y F) → IsErr q → let err : Result X E = Err e in
    Works l t r given x made out err y → Works l t (behind r f) given x made' out' q y
short_behind_works f e (Ok v) is w = absurd cc
short_behind_works f e (Err d) is w = record { walk = record { done = tt; short = short_behind f w.walk.short }; keeps = tt; spares = w.spares }

-- ---- steps of the search

abbrev step_made : Plain → step_type.Step → search.Step
step_made a s = step_of s a

pub step_ends : {O E : Type 0} {l : Ledger O} {t : Tunables} {r : Rules search.Step} {x y : Stage O} (f : Plain → Rules search.Step) (c : Chunk) → let ok : Result step_type.Step E = Ok (Taken c) in
    Works l t r no_chunk x (step_made y.arena) chunks_taken ok y → Works l t (next_step r f) no_chunk x (step_made y.arena) chunks_taken ok y
step_ends f c w = record {
  walk = record { done = reaches_behind (λ (step : search.Step). elim step [ search.Taken c a ↦ Stop (search.Taken c a) | search.Onward a ↦ f a ]) w.walk.done; short = tt };
  keeps = w.keeps;
  spares = tt;
}

pub step_goes : {O E : Type 0} {l : Ledger O} {t : Tunables} {r : Rules search.Step} {x y : Stage O} (f : Plain → Rules search.Step) → let ok : Result step_type.Step E = Ok Onward in
    Works l t r no_chunk x (step_made y.arena) chunks_taken ok y → Passes l t (next_step r f) x no_chunk (f y.arena) y
step_goes f w = record {
  reaches = reaches_behind (λ (step : search.Step). elim step [ search.Taken c a ↦ Stop (search.Taken c a) | search.Onward a ↦ f a ]) w.walk.done;
  balances = w.keeps;
}

-- ---- the chunks of the port stay backed

pub backed_balances : {O P : Type 0} (fast : Fast P) (l : Ledger O) (x y : Stage O) (p q : P) (got : Chunks) → ((e : Chunk) → fast.stock p e ≡ l.stock x.outside e) → ((e : Chunk) → fast.stock q e ≡ l.stock y.outside e) →
    IsBacked fast x.arena p no_chunk → Balances l x no_chunk got y → IsBacked fast y.arena q got
backed_balances fast l x y p q got old new b m = record {
  sound = m.sound;
  used = λ e. omega (arith, old e, new e, b.used e, m.kept e, m.cached e);
}

-- a part to which all that came so far is given, and more rules behind it
pub passes_closed : {O A B X E : Type 0} {l : Ledger O} {t : Tunables} {r : Rules B} {q : Rules A} {x y z : Stage O} {given : Chunks} {made : X → A} {v : X} → let ok : Result X E = Ok v in
    (f : A → Rules B) → Passes l t r x given (behind q f) y → Works l t q given y made (λ _. no_chunk) ok z → Passes l t r x no_chunk (f (made v)) z
passes_closed {l = l} {t = t} {q = q} {x = x} {y = y} {z = z} {made = made} {v = v} f p w = record {
  reaches = reaches_then p.reaches (renumbered l t (behind q f) (f (made v)) y.outside z.outside y.said z.said y.arena.number x.arena.number p.balances.number (reaches_behind f w.walk.done));
  balances = balances_as (balances_then p.balances w.keeps) (λ e. omega arith);
}
