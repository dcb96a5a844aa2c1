-- Laws of accounts, for this crate and those above it: one after another, and from what a move keeps.
use Rattle.std.proofs.Common.{◌≡◌, ℕ, ◌+◌, ◌≤◌, List, Result, Ok, Err, refl, ap, ◌∙◌, subst, arith}
use Rattle.std.specs.Result.{IsErr}
use Rattle.chunk_tags.specs.declared.tiles.Chunk.{Chunk}
use Rattle.chunk_tags.specs.declared.tunables.Tunables.{Tunables}
use Rattle.arena_rules.specs.declared.said.Said.{Said}
use Rattle.arena_rules.specs.PlainArena.{Plain, IsSound, times_used, beside}
use Rattle.arena_rules.specs.Rules.{Rules, Stop}
use Rattle.arena_rules.specs.Walks.{Reaches, StopsShort}
use Rattle.arena_rules.proofs.Moved.{Moved, none, nothing}
use Rattle.arena_rules.proofs.MainPlaces.{placed_still}
use Rattle.consolidate_trim.specs.Holds.{Chunks, no_chunk, times_cached}
use Rattle.arena_growth.specs.Ledgers.{Ledger, Stage, stage, elsewhere, Balances, Loses, Works}

-- nothing happened
pub balances_here : {O : Type 0} (l : Ledger O) (x : Stage O) (said : List Said) → IsSound x.arena → Balances l x no_chunk no_chunk (stage x.arena x.outside said)
balances_here l x said s = record { sound = s; number = refl; windows = refl; placed = λ p. p; cached = λ e. omega arith; others = λ n other e. refl; kept = λ e. refl }

-- a move of the arena alone
pub balances_moved : {O : Type 0} (l : Ledger O) (x : Stage O) (b : Plain) (came : Chunks) (said : List Said) →
    Moved x.arena b none came nothing nothing → beside b ≡ beside x.arena → Balances l x no_chunk came (stage b x.outside said)
balances_moved l x b came said m same = record {
  sound = m.sound;
  number = ap (λ (p : Plain). p.number) same;
  windows = ap (λ (p : Plain). p.windows) same;
  placed = placed_still x.arena b none came m same;
  cached = λ e. omega arith;
  others = λ n other e. refl;
  kept = λ e. omega (arith, m.used e);
}

-- accounts one after another
pub balances_then : {O : Type 0} {l : Ledger O} {x y z : Stage O} {given got given' got' : Chunks} →
    Balances l x given got y → Balances l y given' got' z → Balances l x (λ e. given e + given' e) (λ e. got e + got' e) z
balances_then {l = l} {x = x} {y = y} {z = z} {given = given} {got = got} {given' = given'} {got' = got'} m n = record {
  sound = n.sound;
  number = n.number ∙ m.number;
  windows = n.windows ∙ m.windows;
  placed = λ p. n.placed (m.placed p);
  cached = λ e.
      let f : (k : ℕ) → y.arena.number ≡ k → times_cached k (l.cache y.outside) e ≤ times_cached k (l.cache z.outside) e = λ k same. subst (λ k. times_cached k (l.cache y.outside) e ≤ times_cached k (l.cache z.outside) e) same (n.cached e) in
      omega (arith, m.cached e, f x.arena.number m.number);
  others = λ k other e. m.others k other e ∙ n.others k (λ same. other (same ∙ m.number)) e;
  kept = λ e.
      let f : (k : ℕ) → y.arena.number ≡ k → times_used e z.arena + (elsewhere l k y.outside e + given' e) ≡ times_used e y.arena + (elsewhere l k z.outside e + got' e) = λ k same. subst (λ k. times_used e z.arena + (elsewhere l k y.outside e + given' e) ≡ times_used e y.arena + (elsewhere l k z.outside e + got' e)) same (n.kept e) in
      omega (arith, m.kept e, f x.arena.number m.number);
}

-- the same accounts, with what is in hand all the time
pub balances_as : {O : Type 0} {l : Ledger O} {x y : Stage O} {given got given' got' : Chunks} →
    Balances l x given got y → ((e : Chunk) → given e + got' e ≡ given' e + got e) → Balances l x given' got' y
balances_as m same = record { sound = m.sound; number = m.number; windows = m.windows; placed = m.placed; cached = m.cached; others = m.others; kept = λ e. omega (arith, m.kept e, same e) }

-- the same accounts, with other answers
pub restage : {O : Type 0} {l : Ledger O} {x : Stage O} {a : Plain} {o : O} {said said' : List Said} {given got : Chunks} → Balances l x given got (stage a o said) → Balances l x given got (stage a o said')
restage m = record { sound = m.sound; number = m.number; windows = m.windows; placed = m.placed; cached = m.cached; others = m.others; kept = m.kept }

-- what was got is lost
pub loses_from : {O : Type 0} {l : Ledger O} {x y : Stage O} {given got : Chunks} → Balances l x given got y → Loses l x given y
loses_from m = record { sound = m.sound; number = m.number; windows = m.windows; placed = m.placed; cached = m.cached; others = m.others; kept = λ e. omega (arith, m.kept e) }

-- accounts, and then a loss
pub loses_then : {O : Type 0} {l : Ledger O} {x y z : Stage O} {given got given' : Chunks} →
    Balances l x given got y → Loses l y given' z → ((e : Chunk) → given' e ≤ got e) → Loses l x given z
loses_then {l = l} {x = x} {y = y} {z = z} {given = given} {got = got} {given' = given'} m n le = record {
  sound = n.sound;
  number = n.number ∙ m.number;
  windows = n.windows ∙ m.windows;
  placed = λ p. n.placed (m.placed p);
  cached = λ e.
      let f : (k : ℕ) → y.arena.number ≡ k → times_cached k (l.cache y.outside) e ≤ times_cached k (l.cache z.outside) e = λ k same. subst (λ k. times_cached k (l.cache y.outside) e ≤ times_cached k (l.cache z.outside) e) same (n.cached e) in
      omega (arith, m.cached e, f x.arena.number m.number);
  others = λ k other e. m.others k other e ∙ n.others k (λ same. other (same ∙ m.number)) e;
  kept = λ e.
      let f : (k : ℕ) → y.arena.number ≡ k → times_used e y.arena + elsewhere l k z.outside e ≤ times_used e z.arena + (elsewhere l k y.outside e + given' e) = λ k same. subst (λ k. times_used e y.arena + elsewhere l k z.outside e ≤ times_used e z.arena + (elsewhere l k y.outside e + given' e)) same (n.kept e) in
      omega (arith, m.kept e, f x.arena.number m.number, le e);
}

-- ---- what a body promises, where it ends and where memory is short

pub works_ok : {O A X E : Type 0} {l : Ledger O} {t : Tunables} {rules : Rules A} {given : Chunks} {before after : Stage O} {made : X → A} {got : X → Chunks} {x : X} →
    Reaches t (l.ways before.arena.number) rules before.outside before.said (Stop (made x)) after.said after.outside →
    Balances l before given (got x) after → Works {E = E} l t rules given before made got (Ok x) after
works_ok r b = record { walk = record { done = r; short = tt }; keeps = b; spares = tt }

pub works_short : {O A X E : Type 0} {l : Ledger O} {t : Tunables} {rules : Rules A} {given : Chunks} {before after : Stage O} {made : X → A} {got : X → Chunks} (r : Result X E) → IsErr r →
    StopsShort t (l.ways before.arena.number) rules before.outside before.said after.arena after.said after.outside →
    Loses l before given after → Works l t rules given before made got r after
works_short (Ok x) e s n = absurd cc
works_short (Err e) is s n = record { walk = record { done = tt; short = s }; keeps = tt; spares = n }
