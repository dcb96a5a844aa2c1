-- Laws of what a body does in a hold, for this crate and those above it: steps and bodies in a row, and where memory is
-- short.
use Rattle.std.proofs.Common.{◌≡◌, ℕ, ◌+◌, ◌≤◌, List, refl, sym, ap, ◌∙◌, subst, arith}
use Rattle.std.specs.Prelude.{Result, Ok, Err}
use Rattle.chunk_tags.specs.declared.tiles.Chunk.{Chunk}
use Rattle.chunk_tags.specs.declared.tunables.Tunables.{Tunables}
use Rattle.fast_bins.specs.FastPorts.{Fast}
use Rattle.arena_rules.specs.declared.said.Said.{Said}
use Rattle.arena_rules.specs.PlainArena.{Plain, IsSound}
use Rattle.arena_rules.specs.Rules.{Rules, Stop, Needs, Need, behind}
use Rattle.arena_rules.specs.Walks.{Reaches}
use Rattle.arena_rules.proofs.Walks.{reaches_here, reaches_then, reaches_behind, short_here, short_then, short_behind}
use Rattle.consolidate_trim.specs.Outside.{Means, Outside, ways}
use Rattle.consolidate_trim.specs.Holds.{Hold, outside, Chunks, times_cached, IsBacked, Keeps, Spares, Carries}

-- ---- the accounts

pub keeps_then : {P K : Type 0} {fast : Fast P} {h m n : Hold P K} {given got got' : Chunks} → Keeps fast h given got m → Keeps fast m got got' n → Keeps fast h given got' n
keeps_then {h = h} {m = m} {n = n} k l =
    let mid : (e : Chunk) → times_cached m.arena.number m.cache e ≡ times_cached h.arena.number m.cache e = λ e. ap (λ (x : ℕ). times_cached x m.cache e) k.number in
    let end : (e : Chunk) → times_cached m.arena.number n.cache e ≡ times_cached h.arena.number n.cache e = λ e. ap (λ (x : ℕ). times_cached x n.cache e) k.number in
    record {
      sound = l.sound;
      number = l.number ∙ k.number;
      windows = l.windows ∙ k.windows;
      placed = λ p. l.placed (k.placed p);
      cached = λ e. omega (arith, k.cached e, l.cached e, mid e, end e);
      others = λ n other e. k.others n other e ∙ l.others n (λ same. other (same ∙ k.number)) e;
      kept = λ e. omega (arith, k.kept e, l.kept e, mid e, end e);
    }

pub spares_then : {P K : Type 0} {fast : Fast P} {h m n : Hold P K} {given got : Chunks} → Keeps fast h given got m → Spares fast m got n → Spares fast h given n
spares_then {h = h} {m = m} {n = n} k l =
    let mid : (e : Chunk) → times_cached m.arena.number m.cache e ≡ times_cached h.arena.number m.cache e = λ e. ap (λ (x : ℕ). times_cached x m.cache e) k.number in
    let end : (e : Chunk) → times_cached m.arena.number n.cache e ≡ times_cached h.arena.number n.cache e = λ e. ap (λ (x : ℕ). times_cached x n.cache e) k.number in
    record {
      sound = l.sound;
      number = l.number ∙ k.number;
      windows = l.windows ∙ k.windows;
      placed = λ p. l.placed (k.placed p);
      cached = λ e. omega (arith, k.cached e, l.cached e, mid e, end e);
      others = λ n other e. k.others n other e ∙ l.others n (λ same. other (same ∙ k.number)) e;
      kept = λ e. omega (arith, k.kept e, l.kept e, mid e, end e);
    }

pub spares_here : {P K : Type 0} {fast : Fast P} (h : Hold P K) (given : Chunks) → IsSound h.arena → Spares fast h given h
spares_here h given sound = record { sound = sound; number = refl; windows = refl; placed = λ p. p; cached = λ e. omega arith; others = λ n other e. refl; kept = λ e. omega arith }

-- ---- the stock stays backed, with what is in other hands

pub backed_part : {P : Type 0} {fast : Fast P} {a : Plain} {port : P} {all : Chunks} (part : Chunks) → ((e : Chunk) → part e ≤ all e) → IsBacked fast a port all → IsBacked fast a port part
backed_part part le b = record { sound = b.sound; used = λ e. omega (arith, b.used e, le e) }

pub backed_after : {P K : Type 0} {fast : Fast P} {h i : Hold P K} {given got : Chunks} (others : Chunks) → IsBacked fast h.arena h.port (λ e. given e + others e) → Keeps fast h given got i →
    IsBacked fast i.arena i.port (λ e. got e + others e)
backed_after others b k = record { sound = k.sound; used = λ e. omega (arith, b.used e, k.cached e, k.kept e) }

pub backed_short : {P K : Type 0} {fast : Fast P} {h i : Hold P K} {given : Chunks} (others : Chunks) → IsBacked fast h.arena h.port (λ e. given e + others e) → Spares fast h given i →
    IsBacked fast i.arena i.port others
backed_short others b k = record { sound = k.sound; used = λ e. omega (arith, b.used e, k.cached e, k.kept e) }

-- ---- steps

-- From a hold with these chunks in hand, and these rules before it, to another: all that a body did up to there.
pub record Passes {P K A : Type 0} (m : Means P K) (t : Tunables) (rules : Rules A) (given : Chunks) (before : Hold P K)
    (rest : Rules A) (got : Chunks) (after : Hold P K) : Type 0 where
  pub reaches : Reaches t (ways m before.arena.number) rules (outside before) before.said rest after.said (outside after)
  pub keeps : Keeps m.fast before given got after

pub passes_here : {P K A : Type 0} {m : Means P K} {t : Tunables} {r : Rules A} {given : Chunks} {h : Hold P K} → IsSound h.arena → Passes m t r given h r given h
passes_here sound = record {
  reaches = reaches_here;
  keeps = record { sound = sound; number = refl; windows = refl; placed = λ p. p; cached = λ e. omega arith; others = λ n other e. refl; kept = λ e. refl };
}

-- the ways of one hold are those of the next
reaches_there : {P K A : Type 0} {m : Means P K} {t : Tunables} {r q : Rules A} {o z : Outside P K} {old new : List Said} (n k : ℕ) → n ≡ k →
    Reaches t (ways m n) r o old q new z → Reaches t (ways m k) r o old q new z
reaches_there {m = m} {t = t} {r = r} {q = q} {o = o} {z = z} {old = old} {new = new} n k same a = subst (λ (x : ℕ). Reaches t (ways m x) r o old q new z) same a

pub passes_then : {P K A : Type 0} {m : Means P K} {t : Tunables} {r q u : Rules A} {given got got' : Chunks} {h i j : Hold P K} →
    Passes m t r given h q got i → Passes m t q got i u got' j → Passes m t r given h u got' j
passes_then {h = h} {i = i} a b = record {
  reaches = reaches_then a.reaches (reaches_there i.arena.number h.arena.number a.keeps.number b.reaches);
  keeps = keeps_then a.keeps b.keeps;
}

-- ---- bodies

-- steps, and then a body
pub carries_then : {P K A X E : Type 0} {m : Means P K} {t : Tunables} {r q : Rules A} {given got : Chunks} {h i j : Hold P K} {made : X → A} {out : X → Chunks} {result : Result X E} →
    Passes m t r given h q got i → Carries m t q got i made out result j → Carries m t r given h made out result j
carries_then {h = h} {i = i} {result = Ok x} a c = record {
  walk = record { done = reaches_then a.reaches (reaches_there i.arena.number h.arena.number a.keeps.number c.walk.done); short = tt };
  keeps = keeps_then a.keeps c.keeps;
  spares = tt;
}
carries_then {h = h} {i = i} {result = Err y} a c =
    let s = c.walk.short in
    record {
      walk = record {
        done = tt;
        short = short_then a.reaches (record { need = s.need; next = s.next; reaches = reaches_there i.arena.number h.arena.number a.keeps.number s.reaches });
      };
      keeps = tt;
      spares = spares_then a.keeps c.spares;
    }

-- a body that came to its end, and rules behind it
pub passes_behind : {P K A B X E : Type 0} {m : Means P K} {t : Tunables} {r : Rules A} {given : Chunks} {h i : Hold P K} {made : X → A} {out : X → Chunks} (f : A → Rules B) (x : X) →
    (let result : Result X E = Ok x in Carries m t r given h made out result i) → Passes m t (behind r f) given h (f (made x)) (out x) i
passes_behind f x c = record { reaches = reaches_behind f c.walk.done; keeps = c.keeps }

-- a body that was short of memory, and rules behind it
pub carries_behind : {P K A B X Y E F : Type 0} {m : Means P K} {t : Tunables} {r : Rules A} {given : Chunks} {h i : Hold P K} {made : X → A} {out : X → Chunks}
    {made' : Y → B} {out' : Y → Chunks} {result : Result Y F} {y : F} (f : A → Rules B) (z : E) → result ≡ Err y →
    (let short : Result X E = Err z in Carries m t r given h made out short i) → Carries m t (behind r f) given h made' out' result i
carries_behind {m = m} {t = t} {r = r} {given = given} {h = h} {i = i} {made' = made'} {out' = out'} f z is c =
    subst (λ result. Carries m t (behind r f) given h made' out' result i) (sym is)
    (record { walk = record { done = tt; short = short_behind f c.walk.short }; keeps = tt; spares = c.spares })

-- memory is short before an answer
pub carries_short : {P K A X E : Type 0} {m : Means P K} {t : Tunables} {n : Need} {f : Said → Rules A} {given : Chunks} {h : Hold P K} {made : X → A} {out : X → Chunks} {result : Result X E} {y : E} →
    result ≡ Err y → IsSound h.arena → Carries m t (Needs h.arena n f) given h made out result h
carries_short {m = m} {t = t} {n = n} {f = f} {given = given} {h = h} {made = made} {out = out} is sound =
    subst (λ result. Carries m t (Needs h.arena n f) given h made out result h) (sym is)
    (record { walk = record { done = tt; short = short_here }; keeps = tt; spares = spares_here h given sound })

-- the rules are at their end
pub carries_ends : {P K A X E : Type 0} {m : Means P K} {t : Tunables} {r : Rules A} {given : Chunks} {h i : Hold P K} {made : X → A} {out : X → Chunks} (x : X) →
    Passes m t r given h (Stop (made x)) (out x) i → let result : Result X E = Ok x in Carries m t r given h made out result i
carries_ends x p = record { walk = record { done = p.reaches; short = tt }; keeps = p.keeps; spares = tt }
