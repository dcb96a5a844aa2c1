-- Laws of accounts with a chunk in hand, for this crate and those above it.
use Rattle.std.proofs.Common.{◌≡◌, ℕ, ◌+◌, ◌≤◌, Result, Ok, Err, refl, sym, ap, ◌∙◌, subst, arith}
use Rattle.std.specs.Prelude.{Some}
use Rattle.std.specs.Result.{IsErr}
use Rattle.chunk_tags.specs.BinOrder.{once}
use Rattle.chunk_tags.specs.declared.refusals.NoMemory.{NoMemory}
use Rattle.chunk_tags.specs.declared.tiles.Chunk.{Chunk}
use Rattle.chunk_tags.specs.declared.tunables.Tunables.{Tunables}
use Rattle.fast_bins.specs.FastPorts.{Fast}
use Rattle.arena_rules.specs.PlainArena.{Plain, IsSound, times_used, beside}
use Rattle.arena_rules.specs.Rules.{Rules, Stop, behind}
use Rattle.arena_rules.specs.Release.{released}
use Rattle.arena_rules.specs.Walks.{Reaches, StopsShort}
use Rattle.arena_rules.proofs.MainPlaces.{placed_still}
use Rattle.arena_rules.proofs.Moved.{Moved, nothing}
use Rattle.arena_rules.proofs.Walks.{reaches_here, reaches_then, reaches_behind, short_then, short_behind}
use Rattle.consolidate_trim.specs.Holds.{Chunks, IsBacked, times_cached}
use Rattle.consolidate_trim.specs.Outside.{Means, Outside}
use Rattle.arena_growth.specs.Ledgers.{Ledger, Stage, stage, Balances, Loses, Works, elsewhere, full}
use Rattle.arena_growth.proofs.Balance.{balances_then, balances_as, loses_then, works_short}
use Rattle.arena_growth.proofs.Parts.{renumbered, renumbered_short}
use Rattle.arena_growth.specs.Asking.{Closes}
use Rattle.realloc_align.specs.Resizes.{Comes, Spares}

-- a move of the arena alone
pub balances_move : {O : Type 0} (l : Ledger O) (x : Stage O) (b : Plain) (left came : Chunks) →
    Moved x.arena b left came nothing nothing → beside b ≡ beside x.arena → Balances l x left came (stage b x.outside x.said)
balances_move l x b left came m same = record {
  sound = m.sound;
  number = ap (λ (p : Plain). p.number) same;
  windows = ap (λ (p : Plain). p.windows) same;
  placed = placed_still x.arena b left came m same;
  cached = λ e. omega arith;
  others = λ n other e. refl;
  kept = λ e. omega (arith, m.used e);
}

-- nothing moved, with a chunk in hand
pub balances_still : {O : Type 0} (l : Ledger O) (x : Stage O) (hand : Chunks) → IsSound x.arena → Balances l x hand hand x
balances_still l x hand s = record { sound = s; number = refl; windows = refl; placed = λ p. p; cached = λ e. omega arith; others = λ n other e. refl; kept = λ e. omega arith }

-- the chunks of the port stay backed, with what else is in hand
pub backed_with : {O P : Type 0} (fast : Fast P) (l : Ledger O) (x y : Stage O) (p q : P) (given got more : Chunks) → ((e : Chunk) → fast.stock p e ≡ l.stock x.outside e) → ((e : Chunk) → fast.stock q e ≡ l.stock y.outside e) →
    IsBacked fast x.arena p (λ e. given e + more e) → Balances l x given got y → IsBacked fast y.arena q (λ e. got e + more e)
backed_with fast l x y p q given got more old new b m = record {
  sound = m.sound;
  used = λ e. omega (arith, old e, new e, b.used e, m.kept e, m.cached e);
}

pub backed_less : {P : Type 0} {fast : Fast P} {a : Plain} {port : P} {hand less : Chunks} → IsBacked fast a port hand → ((e : Chunk) → less e ≤ hand e) → IsBacked fast a port less
backed_less b le = record { sound = b.sound; used = λ e. omega (arith, b.used e, le e) }

-- accounts, and then a loss that spares what is in hand
pub spares_then : {O : Type 0} {l : Ledger O} {x y z : Stage O} {given got lost kept : Chunks} →
    Balances l x given got y → Loses l y lost z → ((e : Chunk) → lost e + kept e ≤ got e) → Spares l x given kept z
spares_then {l = l} {x = x} {y = y} {z = z} {given = given} {got = got} {lost = lost} {kept = kept} m n le = record {
  sound = n.sound;
  number = n.number ∙ m.number;
  windows = n.windows ∙ m.windows;
  placed = λ p. n.placed (m.placed p);
  cached = λ e.
      let f : (k : ℕ) → y.arena.number ≡ k → times_cached k (l.cache y.outside) e ≤ times_cached k (l.cache z.outside) e = λ k same. subst (λ k. times_cached k (l.cache y.outside) e ≤ times_cached k (l.cache z.outside) e) same (n.cached e) in
      omega (arith, m.cached e, f x.arena.number m.number);
  others = λ k other e. m.others k other e ∙ n.others k (λ same. other (same ∙ m.number)) e;
  kept = λ e.
      let f : (k : ℕ) → y.arena.number ≡ k → times_used e y.arena + elsewhere l k z.outside e ≤ times_used e z.arena + (elsewhere l k y.outside e + lost e) = λ k same. subst (λ k. times_used e y.arena + elsewhere l k z.outside e ≤ times_used e z.arena + (elsewhere l k y.outside e + lost e)) same (n.kept e) in
      omega (arith, m.kept e, f x.arena.number m.number, le e);
}

-- ---- from rules to what is left of them

-- the rules are the same, read otherwise, and a move was made
pub comes_as : {O A : Type 0} {l : Ledger O} {t : Tunables} {r q : Rules A} {x : Stage O} {b : Plain} {given got : Chunks} → r ≡ q → Balances l x given got (stage b x.outside x.said) → Comes l t r x given got q (stage b x.outside x.said)
comes_as {l = l} {t = t} {q = q} {x = x} e m = record {
  reaches = subst (λ r. Reaches t (l.ways x.arena.number) r x.outside x.said q x.said x.outside) (sym e) reaches_here;
  balances = m;
}

pub comes_then : {O A : Type 0} {l : Ledger O} {t : Tunables} {r q u : Rules A} {x y z : Stage O} {given got got' : Chunks} → Comes l t r x given got q y → Comes l t q y got got' u z → Comes l t r x given got' u z
comes_then {l = l} {t = t} {q = q} {u = u} {x = x} {y = y} {z = z} p n = record {
  reaches = reaches_then p.reaches (renumbered l t q u y.outside z.outside y.said z.said y.arena.number x.arena.number p.balances.number n.reaches);
  balances = balances_as (balances_then p.balances n.balances) (λ e. omega arith);
}

-- a part, with more rules behind it and chunks in hand all the time
pub comes_behind : {O A B X E : Type 0} {l : Ledger O} {t : Tunables} {r : Rules A} {x y : Stage O} {given : Chunks} {made : X → A} {out : X → Chunks} (f : A → Rules B) (v : X) (hand : Chunks) → let ok : Result X E = Ok v in
    Works l t r given x made out ok y → Comes l t (behind r f) x (λ e. given e + hand e) (λ e. out v e + hand e) (f (made v)) y
comes_behind f v hand w = record { reaches = reaches_behind f w.walk.done; balances = balances_as w.keeps (λ e. omega arith) }

-- what is promised of what is left is promised of the whole
pub works_comes : {O A X E : Type 0} {l : Ledger O} {t : Tunables} {r q : Rules A} {x y z : Stage O} {given mid : Chunks} {made : X → A} {out : X → Chunks} (result : Result X E) → Comes l t r x given mid q y →
    Works l t q mid y made out result z → Works l t r given x made out result z
works_comes {l = l} {t = t} {q = q} {x = x} {y = y} {z = z} {made = made} (Ok v) p w = record {
  walk = record { done = reaches_then p.reaches (renumbered l t q (Stop (made v)) y.outside z.outside y.said z.said y.arena.number x.arena.number p.balances.number w.walk.done); short = tt };
  keeps = balances_as (balances_then p.balances w.keeps) (λ e. omega arith);
  spares = tt;
}
works_comes {l = l} {t = t} {q = q} {x = x} {y = y} {z = z} (Err d) p w = record {
  walk = record { done = tt; short = short_then p.reaches (renumbered_short l t q z.arena y.outside z.outside y.said z.said y.arena.number x.arena.number p.balances.number w.walk.short) };
  keeps = tt;
  spares = loses_then p.balances w.spares (λ e. omega arith);
}

-- a chunk is released behind a move of the arena, with more rules behind it and chunks in hand all the time
pub comes_released : {P K A : Type 0} {m : Means P K} {t : Tunables} {r : Rules A} (f : Plain → Rules A) (d : Chunk) (x z : Stage (Outside P K)) (b : Plain) (given more : Chunks) → r ≡ behind (released t b d) f →
    Balances (full m) x given (λ e. once e d + more e) (stage b x.outside x.said) → Closes m t (Some d) (stage b x.outside x.said) (Ok tt) z → Comes (full m) t r x given more (f z.arena) z
comes_released f d x z b given more e moved v =
    let c = comes_then (comes_as e moved) (comes_behind f tt more v) in
    record { reaches = c.reaches; balances = balances_as c.balances (λ e. omega arith) }

pub short_released : {P K A X E : Type 0} {m : Means P K} {t : Tunables} {r : Rules A} {made : X → A} {out : X → Chunks} (f : Plain → Rules A) (d : Chunk) (x z : Stage (Outside P K)) (b : Plain) (given more : Chunks) (refusal : NoMemory) (result : Result X E) → IsErr result → r ≡ behind (released t b d) f →
    Balances (full m) x given (λ e. once e d + more e) (stage b x.outside x.said) → Closes m t (Some d) (stage b x.outside x.said) (Err refusal) z → Works (full m) t r given x made out result z
short_released {m = m} {t = t} f d x z b given more refusal result is e moved v =
    works_short result is (subst (λ r. StopsShort t ((full m).ways x.arena.number) r x.outside x.said z.arena z.said z.outside) (sym e) (renumbered_short (full m) t (behind (released t b d) f) z.arena x.outside z.outside x.said z.said b.number x.arena.number moved.number (short_behind f v.walk.short)))
    (loses_then moved v.spares (λ e. omega arith))
