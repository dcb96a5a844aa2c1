-- Laws of one merge and of emptying the fast bins, for this crate and those above it: how the loop over a bin and that
-- over the bins go through the rules.
use Rattle.std.proofs.Common.{◌≡◌, ℕ, ◌+◌, ◌-◌, ◌<◌, ◌≤◌, suc, Bool, false, List, [], ◌∷◌, ◌++◌, length, Some, None, IsTrue, refl, sym, ap, ◌∙◌, subst, arith}
use Rattle.std.specs.Prelude.{Result, Ok, Err}
use Rattle.std.proofs.lemmas.Bool.{cond-true}
use Rattle.chunk_tags.specs.BinOrder.{fast_chunk, once}
use Rattle.chunk_tags.specs.declared.tiles.Chunk.{Chunk}
use Rattle.chunk_tags.specs.declared.tunables.Tunables.{Tunables}
use Rattle.fast_bins.specs.FastPorts as fasts
use Rattle.fast_bins.specs.FastPorts.{Fast, Did}
use Rattle.arena_rules.specs.declared.said.Said.TheVariants as told
use Rattle.arena_rules.specs.PlainArena.{Plain, IsSound, times_used, is_own}
use Rattle.arena_rules.specs.MainPlaces.{IsPlaced}
use Rattle.arena_rules.specs.Release.{Merging, merged, merging_bin, merging_bins, consolidated, consolidated_if}
use Rattle.arena_rules.specs.declared.said.Said.{Said}
use Rattle.arena_rules.specs.Rules.{Rules, Stop, Misfit, behind}
use Rattle.arena_rules.proofs.Bins.{once_self}
use Rattle.arena_rules.specs.Walks.{Ways, Reaches, StopsShort, Performs}
use Rattle.arena_rules.proofs.ChunkMoves.{own_from, own_count}
use Rattle.arena_rules.proofs.Beside.{beside_merged}
use Rattle.arena_rules.proofs.MainPlaces.{placed_still}
use Rattle.arena_rules.proofs.Merging.{merged_moved}
use Rattle.arena_rules.proofs.Moved.{none}
use Rattle.arena_rules.proofs.Walks.{reaches_here, reaches_then, reaches_told, reaches_done, reaches_behind, short_here, short_then, short_behind}
use Rattle.consolidate_trim.specs.declared.merging.Merged.{Merged}
use Rattle.consolidate_trim.specs.declared.merging.Merged.TheVariants as ends
use Rattle.consolidate_trim.specs.Merges.{merging_of}
use Rattle.consolidate_trim.specs.Holds.{IsBacked, no_chunk}
use Rattle.consolidate_trim.specs.FastHolds.{FastHold, fast_hold, fast_ways, KeepsStock, Empties}
use Rattle.consolidate_trim.proofs.Fewer.{used_of, fewer_used, some_used, used_within}

-- ---- one merge

-- what a body's merge left
pub record IsMerged (a : Plain) (c : Chunk) (b : Plain) : Type 0 where
  pub is : b ≡ (merged a c).arena
  pub sound : IsSound b
  pub number : b.number ≡ a.number
  pub windows : b.windows ≡ a.windows
  pub placed : IsPlaced a → IsPlaced b
  pub used : (e : Chunk) → times_used e b + once e c ≡ times_used e a

arena_of : (m : Merged) (b : Plain) → (merging_of m b).arena ≡ b
arena_of (ends.Unsorted size) b = refl
arena_of (ends.Top size) b = refl

pub merge_left : (a b : Plain) (c : Chunk) (m : Merged) → IsSound a → IsTrue (is_own a c) → merging_of m b ≡ merged a c → IsMerged a c b
merge_left a b c m sound own e =
    let is : b ≡ (merged a c).arena = sym (arena_of m b) ∙ ap (λ (x : Merging). x.arena) e in
    let moved = merged_moved a c sound own in
    record {
      is = is;
      sound = subst IsSound (sym is) moved.sound;
      number = ap (λ (x : Plain). x.number) is ∙ ap (λ (x : Plain). x.number) (beside_merged a c);
      windows = ap (λ (x : Plain). x.windows) is ∙ ap (λ (x : Plain). x.windows) (beside_merged a c);
      placed = λ p. subst IsPlaced (sym is) (placed_still a (merged a c).arena (λ e. once e c) none moved (beside_merged a c) p);
      used = λ e. omega (arith, ap (times_used e) is, moved.used e);
    }

-- ---- an end for want of memory

pub at_err : {O A X E : Type 0} {t : Tunables} {w : Ways O} {rules : Rules A} {o z : O} {old new : List Said} {made : X → A} {left : Plain} {r : Result X E} {e : E} → r ≡ Err e →
    StopsShort t w rules o old left new z → Performs t w rules o old made left r new z
at_err {t = t} {w = w} {rules = rules} {o = o} {z = z} {old = old} {new = new} {made = made} {left = left} is short =
    subst (λ r. Performs t w rules o old made left r new z) (sym is) (record { done = tt; short = short })

-- ---- the stock stays backed

pub keeps_here : {P : Type 0} {fast : Fast P} (h : FastHold P) → IsSound h.arena → KeepsStock fast h h
keeps_here h sound = record { sound = sound; number = refl; windows = refl; placed = λ p. p; kept = λ e. refl }

pub keeps_stock_then : {P : Type 0} {fast : Fast P} {h m n : FastHold P} → KeepsStock fast h m → KeepsStock fast m n → KeepsStock fast h n
keeps_stock_then k l = record { sound = l.sound; number = l.number ∙ k.number; windows = l.windows ∙ k.windows; placed = λ p. l.placed (k.placed p); kept = λ e. omega (arith, k.kept e, l.kept e) }

pub backed_still : {P : Type 0} {fast : Fast P} {h m : FastHold P} → IsBacked fast h.arena h.port no_chunk → KeepsStock fast h m → IsBacked fast m.arena m.port no_chunk
backed_still b k = record { sound = k.sound; used = λ e. omega (arith, b.used e, k.kept e) }

-- ---- the loop over one bin

pub record IsMerging {P : Type 0} (fast : Fast P) (bin : ℕ) (h m : FastHold P) : Type 0 where
  pub fuel : ℕ
  pub enough : length (used_of m.arena) ≤ fuel
  pub reaches : (t : Tunables) → Reaches t (fast_ways fast) (merging_bin (suc (length h.arena.tiles)) bin h.arena) h.port h.said (merging_bin (suc fuel) bin m.arena) m.said m.port
  pub keeps : KeepsStock fast h m

pub merging_begins : {P : Type 0} {fast : Fast P} (bin : ℕ) (h : FastHold P) → IsBacked fast h.arena h.port no_chunk → IsMerging fast bin h h
merging_begins bin h backed = record {
  fuel = length h.arena.tiles;
  enough = used_within h.arena;
  reaches = λ t. reaches_here;
  keeps = keeps_here h backed.sound;
}

-- room was made for the answer
pub merging_said : {P : Type 0} {fast : Fast P} {bin : ℕ} {h m : FastHold P} (said : List Said) → said ≡ m.said → IsMerging fast bin h m → IsMerging fast bin h (fast_hold m.arena m.port said)
merging_said {fast = fast} {bin = bin} {h = h} {m = m} said same i = subst (λ (s : List Said). IsMerging fast bin h (fast_hold m.arena m.port s)) (sym same) i

-- memory is short
pub merging_short : {P X E : Type 0} {fast : Fast P} {bin : ℕ} {h m : FastHold P} {r : Result X E} {e : E} → r ≡ Err e → IsMerging fast bin h m →
    Empties fast (merging_bin (suc (length h.arena.tiles)) bin h.arena) h r m
merging_short {h = h} {m = m} {r = r} is i = record {
  walk = λ t. at_err is (short_then (i.reaches t) short_here);
  keeps = i.keeps;
}

-- the list is empty
pub merging_ends : {P X E : Type 0} {fast : Fast P} {bin : ℕ} {h m : FastHold P} {q : P} {said : List Said} (x : X) → IsMerging fast bin h m → Did fast m.port (fasts.Owns bin None) q → said ≡ m.said ++ told.Own None ∷ [] →
    let r : Result X E = Ok x in Empties fast (merging_bin (suc (length h.arena.tiles)) bin h.arena) h r (fast_hold m.arena q said)
merging_ends {fast = fast} {bin = bin} {h = h} {m = m} {q = q} x i did told_so = record {
  walk = λ t. record {
    done = subst (λ (s : List Said). Reaches t (fast_ways fast) (merging_bin (suc (length h.arena.tiles)) bin h.arena) h.port h.said (Stop m.arena) s q) (sym told_so)
        (reaches_then (i.reaches t) (reaches_told (told.Own None) refl did));
    short = tt;
  };
  keeps = record { sound = i.keeps.sound; number = i.keeps.number; windows = i.keeps.windows; placed = i.keeps.placed; kept = λ e. omega (arith, i.keeps.kept e, did.stock e) };
}

-- a chunk that the port gave is the arena's own
pub given_own : {P : Type 0} {fast : Fast P} {bin at : ℕ} {h m : FastHold P} {q : P} → IsBacked fast h.arena h.port no_chunk → IsMerging fast bin h m → Did fast m.port (fasts.Owns bin (Some at)) q → IsTrue (is_own m.arena (fast_chunk bin at))
given_own {bin = bin} {at = at} {m = m} backed i did =
    let c : Chunk = fast_chunk bin at in
    own_from m.arena c (omega (arith, (backed_still backed i.keeps).used c, did.stock c, once_self c))

-- it is merged, and the loop goes on with one used chunk fewer
pub record IsFurther {P : Type 0} (fast : Fast P) (bin : ℕ) (h m n : FastHold P) : Type 0 where
  pub next : IsMerging fast bin h n
  pub fewer : length (used_of n.arena) < length (used_of m.arena)

merged_reaches : {P : Type 0} (fast : Fast P) (bin at fuel : ℕ) (a b : Plain) (p q : P) (said new : List Said) (t : Tunables) → IsTrue (is_own a (fast_chunk bin at)) → Did fast p (fasts.Owns bin (Some at)) q →
    b ≡ (merged a (fast_chunk bin at)).arena → new ≡ said ++ told.Own (Some at) ∷ [] → Reaches t (fast_ways fast) (merging_bin (suc fuel) bin a) p said (merging_bin fuel bin b) new q
merged_reaches fast bin at fuel a b p q said new t own did left told_so =
    let c : Chunk = fast_chunk bin at in
    let step : Rules Plain → List Said → Type 0 = λ r said'. Reaches t (fast_ways fast) (merging_bin (suc fuel) bin a) p said r said' q in
    subst (step (merging_bin fuel bin b)) (sym told_so)
    (subst (λ (x : Plain). step (merging_bin fuel bin x) (said ++ told.Own (Some at) ∷ [])) (sym left)
    (subst (λ (r : Rules Plain). step r (said ++ told.Own (Some at) ∷ [])) (cond-true {A = Rules Plain} (is_own a c) (merging_bin fuel bin (merged a c).arena) Misfit own)
    (reaches_told (told.Own (Some at)) refl did)))

merging_on : {P : Type 0} {fast : Fast P} {bin at : ℕ} {h m n : FastHold P} (fuel : ℕ) (i : IsMerging fast bin h m) → IsTrue (is_own m.arena (fast_chunk bin at)) → Did fast m.port (fasts.Owns bin (Some at)) n.port →
    IsMerged m.arena (fast_chunk bin at) n.arena → n.said ≡ m.said ++ told.Own (Some at) ∷ [] → i.fuel ≡ suc fuel → IsMerging fast bin h n
merging_on {fast = fast} {bin = bin} {at = at} {h = h} {m = m} {n = n} fuel i own did left said same =
    record {
      fuel = fuel;
      enough = omega (arith, i.enough, same, fewer_used m.arena n.arena (fast_chunk bin at) left.used);
      reaches = λ t.
          let here : Reaches t (fast_ways fast) (merging_bin (suc (length h.arena.tiles)) bin h.arena) h.port h.said (merging_bin (suc (suc fuel)) bin m.arena) m.said m.port =
          subst (λ (k : ℕ). Reaches t (fast_ways fast) (merging_bin (suc (length h.arena.tiles)) bin h.arena) h.port h.said (merging_bin (suc k) bin m.arena) m.said m.port) same (i.reaches t) in
          let there : Reaches t (fast_ways fast) (merging_bin (suc (suc fuel)) bin m.arena) m.port m.said (merging_bin (suc fuel) bin n.arena) n.said n.port =
          merged_reaches fast bin at (suc fuel) m.arena n.arena m.port n.port m.said n.said t own did left.is said in
          reaches_then here there;
      keeps = record { sound = left.sound; number = left.number ∙ i.keeps.number; windows = left.windows ∙ i.keeps.windows; placed = λ p. left.placed (i.keeps.placed p); kept = λ e. omega (arith, i.keeps.kept e, did.stock e, left.used e) };
    }

pub merging_further : {P : Type 0} {fast : Fast P} {bin at : ℕ} {h m : FastHold P} {q : P} {said : List Said} {x : Chunk} (b : Plain) (r : Merged) →
    IsBacked fast h.arena h.port no_chunk → IsMerging fast bin h m → Did fast m.port (fasts.Owns bin (Some at)) q → x ≡ fast_chunk bin at → merging_of r b ≡ merged m.arena x →
    said ≡ m.said ++ told.Own (Some at) ∷ [] → IsFurther fast bin h m (fast_hold b q said)
merging_further {bin = bin} {at = at} {m = m} b r backed i did is e told_so =
    let c : Chunk = fast_chunk bin at in
    let own : IsTrue (is_own m.arena c) = given_own backed i did in
    let left : IsMerged m.arena c b = merge_left m.arena b c r i.keeps.sound own (e ∙ ap (merged m.arena) is) in
    let some : 0 < i.fuel = omega (arith, i.enough, some_used m.arena c (own_count m.arena c own)) in
    record { next = merging_on (i.fuel - 1) i own did left told_so (omega arith); fewer = fewer_used m.arena b c left.used }

-- ---- the loop over the bins

pub record IsConsolidating {P : Type 0} (fast : Fast P) (bin : ℕ) (h m : FastHold P) : Type 0 where
  pub reaches : (t : Tunables) → Reaches t (fast_ways fast) (consolidated h.arena) h.port h.said (merging_bins (10 - bin) bin m.arena) m.said m.port
  pub keeps : KeepsStock fast h m

pub consolidating_begins : {P : Type 0} {fast : Fast P} {h : FastHold P} {q : P} → IsBacked fast h.arena h.port no_chunk → Did fast h.port fasts.Clears q → IsConsolidating fast 0 h (fast_hold h.arena q h.said)
unfolding consolidated
consolidating_begins {h = h} backed did = record {
  reaches = λ t. reaches_done did;
  keeps = record { sound = backed.sound; number = refl; windows = refl; placed = λ p. p; kept = λ e. omega (arith, did.stock e) };
}

pub consolidating_backed : {P : Type 0} {fast : Fast P} {bin : ℕ} {h m : FastHold P} {q : P} → IsBacked fast h.arena h.port no_chunk → IsConsolidating fast bin h m → Did fast m.port (fasts.Gathers bin) q → IsBacked fast m.arena q no_chunk
consolidating_backed {h = h} {m = m} {q = q} backed i did = record { sound = i.keeps.sound; used = λ e. omega (arith, backed.used e, i.keeps.kept e, did.stock e) }

-- a bin's chain is taken
pub gathered : {P : Type 0} {fast : Fast P} {bin : ℕ} {m : FastHold P} {q : P} → IsSound m.arena → Did fast m.port (fasts.Gathers bin) q → KeepsStock fast m (fast_hold m.arena q m.said)
gathered sound did = record { sound = sound; number = refl; windows = refl; placed = λ p. p; kept = λ e. omega (arith, did.stock e) }

gathering : {P : Type 0} {fast : Fast P} {bin : ℕ} {h m : FastHold P} {q : P} (t : Tunables) → bin < 10 → IsConsolidating fast bin h m → Did fast m.port (fasts.Gathers bin) q →
    Reaches t (fast_ways fast) (consolidated h.arena) h.port h.said (behind (merging_bin (suc (length m.arena.tiles)) bin m.arena) (λ b. merging_bins (10 - (bin + 1)) (bin + 1) b)) m.said q
gathering {fast = fast} {bin = bin} {h = h} {m = m} t lt i did =
    let same : 10 - bin ≡ suc (10 - (bin + 1)) = omega arith in
    reaches_then (subst (λ (n : ℕ). Reaches t (fast_ways fast) (consolidated h.arena) h.port h.said (merging_bins n bin m.arena) m.said m.port) same (i.reaches t))
    (reaches_done did)

pub consolidating_further : {P X E : Type 0} {fast : Fast P} {bin : ℕ} {h m n : FastHold P} {q : P} (x : X) → bin < 10 → IsConsolidating fast bin h m → Did fast m.port (fasts.Gathers bin) q →
    (let r : Result X E = Ok x in Empties fast (merging_bin (suc (length m.arena.tiles)) bin m.arena) (fast_hold m.arena q m.said) r n) → IsConsolidating fast (bin + 1) h n
consolidating_further {bin = bin} x lt i did e = record {
  reaches = λ t. reaches_then (gathering t lt i did) (reaches_behind (λ b. merging_bins (10 - (bin + 1)) (bin + 1) b) (e.walk t).done);
  keeps = keeps_stock_then (keeps_stock_then i.keeps (gathered i.keeps.sound did)) e.keeps;
}

pub consolidating_short : {P X Y E : Type 0} {fast : Fast P} {bin : ℕ} {h m n : FastHold P} {q : P} {r : Result Y E} {y : E} (z : E) → r ≡ Err y → bin < 10 → IsConsolidating fast bin h m → Did fast m.port (fasts.Gathers bin) q →
    (let r : Result X E = Err z in Empties fast (merging_bin (suc (length m.arena.tiles)) bin m.arena) (fast_hold m.arena q m.said) r n) → Empties fast (consolidated h.arena) h r n
consolidating_short {bin = bin} z is lt i did e = record {
  walk = λ t. at_err is (short_then (gathering t lt i did) (short_behind (λ b. merging_bins (10 - (bin + 1)) (bin + 1) b) (e.walk t).short));
  keeps = keeps_stock_then (keeps_stock_then i.keeps (gathered i.keeps.sound did)) e.keeps;
}

pub consolidating_ends : {P X E : Type 0} {fast : Fast P} {bin : ℕ} {h m : FastHold P} (x : X) → bin ≡ 10 → IsConsolidating fast bin h m → let r : Result X E = Ok x in Empties fast (consolidated h.arena) h r m
consolidating_ends {fast = fast} {h = h} {m = m} x is i = record {
  walk = λ t. record {
    done = subst (λ (n : ℕ). Reaches t (fast_ways fast) (consolidated h.arena) h.port h.said (merging_bins (10 - n) n m.arena) m.said m.port) is (i.reaches t);
    short = tt;
  };
  keeps = i.keeps;
}

-- ---- where the flag isn't set

pub empties_nothing : {P X E : Type 0} {fast : Fast P} {h : FastHold P} (flag : Bool) (x : X) → flag ≡ false → IsSound h.arena → let r : Result X E = Ok x in Empties fast (consolidated_if flag h.arena) h r h
empties_nothing {X = X} {E = E} {fast = fast} {h = h} flag x is sound =
    let r : Result X E = Ok x in
    subst (λ (b : Bool). Empties fast (consolidated_if b h.arena) h r h) (sym is)
    (record { walk = λ t. record { done = reaches_here; short = tt }; keeps = keeps_here h sound })
