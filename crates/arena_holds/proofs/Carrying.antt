-- Laws of what a step keeps: steps in a row, beside other blocks, and said of the same hands.
use Rattle.std.proofs.Common.{◌≡◌, ℕ, ◌≤◌, Bool, true, false, refl, ap, ◌∙◌, arith}
use Rattle.std.specs.Prelude.{Result, Ok, Err, IsErr, is_ok}
use Rattle.chunk_tags.specs.declared.block.Block.{Block}
use Rattle.chunk_tags.specs.declared.tunables.Tunables.{Tunables}
use Rattle.address_space.specs.declared.space.Space.{Space}
use Rattle.arena_holds.specs.Places.{PlaceWays, Standing, Hands, both_of, as_mapped_byte, given_byte, Carries, IsServed}
use Rattle.arena_holds.specs.Returning.{IsUnseen}

-- as often the same blocks are given out
abbrev pub SameLaw : {P H D : Type 0} → PlaceWays P H D → Type 0
SameLaw {P = P} ways = (exact : Bool) (p : P) (hands others : Hands) → ((weigh : Block → ℕ) → others weigh ≡ hands weigh) →
    ways.serves exact p hands → ways.serves exact p others

-- fewer are given out where more are
abbrev pub FewerLaw : {P H D : Type 0} → PlaceWays P H D → Type 0
FewerLaw {P = P} ways = (p : P) (hands some : Hands) → ((weigh : Block → ℕ) → some weigh ≤ hands weigh) →
    ways.serves false p hands → ways.serves false p some

pub carries_here : {P H D K : Type 0} (ways : PlaceWays P H D) (well : Bool) (hands : Hands) (o : Standing P K) → Carries ways well hands o hands o
carries_here ways well hands o = record { serves = λ exact known others s. s; notes = λ others n. n; mapped = λ n. omega arith; tunables = refl; windows = refl; whole = λ w. w; writes = λ who w. w }

pub carries_then : {P H D K : Type 0} {ways : PlaceWays P H D} {well : Bool} {given between got : Hands} {o p z : Standing P K} →
    Carries ways true given o between p → Carries ways well between p got z → Carries ways well given o got z
carries_then a b = record {
  serves = λ exact known others s. b.serves exact known others (a.serves exact (λ _. refl) others s);
  notes = λ others n. b.notes others (a.notes others n);
  mapped = λ n. omega (arith, a.mapped n, b.mapped n);
  tunables = b.tunables ∙ a.tunables;
  windows = b.windows ∙ a.windows;
  whole = λ w. b.whole (a.whole w);
  writes = λ who w. b.writes who (a.writes who w);
}

pub carries_as : {P H D K : Type 0} {ways : PlaceWays P H D} {well : Bool} {given got : Hands} {o z : Standing P K} → SameLaw ways → (given' got' : Hands) →
    ((weigh : Block → ℕ) → given' weigh ≡ given weigh) → ((weigh : Block → ℕ) → got' weigh ≡ got weigh) →
    Carries ways well given o got z → Carries ways well given' o got' z
carries_as {given = given} {got = got} {o = o} {z = z} same given' got' e f c = record {
  serves = λ exact known others s.
      same exact z.places (both_of got others) (both_of got' others) (λ w. omega (arith, f w))
      (c.serves exact known others (same exact o.places (both_of given' others) (both_of given others) (λ w. omega (arith, e w)) s));
  notes = c.notes;
  mapped = λ n. omega (arith, e (as_mapped_byte n), f (as_mapped_byte n), c.mapped n);
  tunables = c.tunables;
  windows = c.windows;
  whole = c.whole;
  writes = c.writes;
}

pub carries_beside : {P H D K : Type 0} {ways : PlaceWays P H D} {well : Bool} {given got : Hands} {o z : Standing P K} → SameLaw ways → (others : Hands) →
    Carries ways well given o got z → Carries ways well (both_of given others) o (both_of got others) z
carries_beside {given = given} {got = got} {o = o} {z = z} same others c = record {
  serves = λ exact known more s.
      same exact z.places (both_of got (both_of others more)) (both_of (both_of got others) more) (λ w. omega arith)
      (c.serves exact known (both_of others more)
      (same exact o.places (both_of (both_of given others) more) (both_of given (both_of others more)) (λ w. omega arith) s));
  notes = c.notes;
  mapped = λ n. omega (arith, c.mapped n);
  tunables = c.tunables;
  windows = c.windows;
  whole = c.whole;
  writes = c.writes;
}

-- where memory was short, fewer are known
pub carries_fewer : {P H D K : Type 0} {ways : PlaceWays P H D} {given got : Hands} {o z : Standing P K} → FewerLaw ways → (some : Hands) →
    ((weigh : Block → ℕ) → some weigh ≤ got weigh) → Carries ways false given o got z → Carries ways false given o some z
carries_fewer {ways = ways} {given = given} {got = got} {o = o} {z = z} fewer some e c =
    let serves : (exact : Bool) → (exact ≡ true → false ≡ true) → (others : Hands) → ways.serves exact o.places (both_of given others) → ways.serves exact z.places (both_of some others) = elim [
      | true ↦ λ known others s. let e : false ≡ true = known refl in absurd cc
      | false ↦ λ known others s. fewer z.places (both_of got others) (both_of some others) (λ w. omega (arith, e w)) (c.serves false known others s)
    ] in
    record { serves = serves; notes = c.notes; mapped = λ n. omega (arith, e (as_mapped_byte n), c.mapped n); tunables = c.tunables; windows = c.windows; whole = c.whole; writes = c.writes }

pub carries_short : {P H D K : Type 0} {ways : PlaceWays P H D} {given got : Hands} {o z : Standing P K} → Carries ways true given o got z → Carries ways false given o got z
carries_short c = record {
  serves = λ exact known others s. c.serves exact (λ _. refl) others s;
  notes = c.notes;
  mapped = c.mapped;
  tunables = c.tunables;
  windows = c.windows;
  whole = c.whole;
  writes = c.writes;
}

-- what is unseen in the places is kept, where the space stays
pub carries_unseen : {P H D K : Type 0} {ways : PlaceWays P H D} {given got : Hands} {o z : Standing P K} (well : Bool) → z.space ≡ o.space → ((weigh : Block → ℕ) → got weigh ≤ given weigh) →
    IsUnseen ways o.places given got z.places → Carries ways well given o got z
carries_unseen {K = K} {ways = ways} {z = z} well same fewer u = record {
  serves = λ exact known others s. u.serves exact others s;
  notes = λ others n. rw same (u.notes _ others n);
  mapped = λ n. omega (arith, fewer (as_mapped_byte n), ap (λ (s : Space K). given_byte n s) same);
  tunables = u.tunables;
  windows = rw same refl;
  whole = u.whole;
  writes = u.writes;
}

-- ---- what a call needs

pub served_after : {P H D K : Type 0} {ways : PlaceWays P H D} {well : Bool} {t : Tunables} {given got : Hands} {o z : Standing P K} → SameLaw ways →
    IsServed ways t given o → Carries ways well given o got z → IsServed ways t got z
served_after {ways = ways} {given = given} {got = got} {o = o} {z = z} same s c = record {
  served = same false z.places (both_of got (λ _. 0)) got (λ w. omega arith)
      (c.serves false (λ e. absurd cc) (λ _. 0) (same false o.places given (both_of given (λ _. 0)) (λ w. omega arith) s.served));
  others = s.others;
  notes = c.notes s.others s.notes;
  tunables = c.tunables ∙ s.tunables;
  windows = c.windows ∙ s.windows;
  whole = c.whole s.whole;
}

pub served_fewer : {P H D K : Type 0} {ways : PlaceWays P H D} {t : Tunables} {hands : Hands} {o : Standing P K} → FewerLaw ways → (some : Hands) →
    ((weigh : Block → ℕ) → some weigh ≤ hands weigh) → IsServed ways t hands o → IsServed ways t some o
served_fewer {hands = hands} {o = o} fewer some e s = record {
  served = fewer o.places hands some e s.served;
  others = s.others;
  notes = s.notes;
  tunables = s.tunables;
  windows = s.windows;
  whole = s.whole;
}

-- a result that is an error
pub carries_err : {P H D K A E : Type 0} {ways : PlaceWays P H D} {given got : Hands} {o z : Standing P K} (r : Result A E) → IsErr r →
    Carries ways false given o got z → Carries ways (is_ok r) given o got z
carries_err (Ok x) e c = absurd cc
carries_err (Err x) e c = c

-- ---- room is made, and a block is pushed

-- what is given out stays so while room is made
pub unseen_keeps : {P H D : Type 0} {ways : PlaceWays P H D} {old new : P} {exact : Bool} {hands : Hands} → SameLaw ways → IsUnseen ways old (λ _. 0) (λ _. 0) new →
    ways.serves exact old hands → ways.serves exact new hands
unseen_keeps {old = old} {new = new} {exact = exact} {hands = hands} same u s =
    same exact new (both_of (λ _. 0) hands) hands (λ w. omega arith) (u.serves exact hands (same exact old hands (both_of (λ _. 0) hands) (λ w. omega arith) s))

pub unseen_then : {P H D : Type 0} {ways : PlaceWays P H D} {old mid new : P} {given : Hands} → SameLaw ways → IsUnseen ways old (λ _. 0) (λ _. 0) mid → IsUnseen ways mid given (λ _. 0) new →
    IsUnseen ways old given (λ _. 0) new
unseen_then {given = given} same a b = record {
  serves = λ exact others s. b.serves exact others (unseen_keeps same a s);
  notes = λ own others n. b.notes own others (a.notes own others n);
  tunables = b.tunables ∙ a.tunables;
  whole = λ w. b.whole (a.whole w);
  writes = λ who w. b.writes who (a.writes who w);
}
