-- A hold never lowers the count of refusals of its address space, for this crate and those above it.
use Rattle.std.proofs.Common.{◌≡◌, ℕ, ◌≤◌, List, ap, arith}
use Rattle.chunk_tags.specs.declared.tunables.Tunables.{Tunables}
use Rattle.address_space.specs.Ports.{Rose}
use Rattle.address_space.specs.Spaces.{space_refusals}
use Rattle.address_space.specs.declared.space.Space.{Space}
use Rattle.arena_rules.specs.Rules.{Rules, Need, Flagged, Pops, Owns, Rooms, Asks, Maps, Reads, Deed, Clears, Gathers, Pushes, Stashes, Draws, Gives, Counts}
use Rattle.arena_rules.specs.Walks as walks
use Rattle.arena_rules.specs.Walks.{Walks, Reaches, Performs}
use Rattle.arena_rules.specs.declared.said.Said.{Said}
use Rattle.arena_rules.specs.declared.said.Said.TheVariants as told
use Rattle.consolidate_trim.specs.Outside.{Means, Outside, AnswerGoes, DeedGoes, ways}

-- the count of an outside
abbrev pub refusals_of : {P K : Type 0} → Means P K → Outside P K → ℕ
refusals_of m o = space_refusals m.kernel o.space

pub same_refusals : {P K : Type 0} (m : Means P K) (o p : Outside P K) → p.space ≡ o.space → refusals_of m o ≤ refusals_of m p
same_refusals {K = K} m o p same = omega (arith, ap (λ (s : Space K). space_refusals m.kernel s) same)

pub goes_refusals : {P K : Type 0} (m : Means P K) (o p : Outside P K) (n : Need) (s : Said) → AnswerGoes m o n s p → refusals_of m o ≤ refusals_of m p
goes_refusals {P = P} {K = K} m o p Flagged (told.Flag b) h = same_refusals m o p (ap (λ (x : Outside P K). x.space) h.others)
goes_refusals {P = P} {K = K} m o p (Pops bin) (told.Popped at) h = same_refusals m o p (ap (λ (x : Outside P K). x.space) h.others)
goes_refusals {P = P} {K = K} m o p (Owns bin) (told.Own at) h = same_refusals m o p (ap (λ (x : Outside P K). x.space) h.others)
goes_refusals {P = P} {K = K} m o p (Rooms size) (told.Room b) h = same_refusals m o p (ap (λ (x : Outside P K). x.space) h.others)
goes_refusals m o p (Asks ask) (told.Asked asked answer) h = h.asks.later
goes_refusals m o p (Maps len) (told.Asked asked answer) h = h.maps.later
goes_refusals {P = P} {K = K} m o p (Reads which) (told.Dial n) h = same_refusals m o p (ap (λ (x : Outside P K). x.space) h.others)
goes_refusals m o p n s h = absurd h

pub does_refusals : {P K : Type 0} (m : Means P K) (number : ℕ) (o p : Outside P K) (d : Deed) → DeedGoes m number o d p → refusals_of m o ≤ refusals_of m p
does_refusals {P = P} {K = K} m number o p Clears h = same_refusals m o p (ap (λ (x : Outside P K). x.space) h.others)
does_refusals {P = P} {K = K} m number o p (Gathers bin) h = same_refusals m o p (ap (λ (x : Outside P K). x.space) h.others)
does_refusals {P = P} {K = K} m number o p (Pushes bin at) h = same_refusals m o p (ap (λ (x : Outside P K). x.space) h.others)
does_refusals {P = P} {K = K} m number o p (Stashes c) h = same_refusals m o p (ap (λ (x : Outside P K). x.space) h)
does_refusals {P = P} {K = K} m number o p (Draws size) h = same_refusals m o p (ap (λ (x : Outside P K). x.space) h)
does_refusals {K = K} m number o p (Gives back) h = omega (arith, h.gives.kernel.refusals, ap (λ (s : Space K). s.passed) h.gives.others)
does_refusals {P = P} {K = K} m number o p (Counts len) h = same_refusals m o p (ap (λ (x : Outside P K). x.space) h.others)

pub walked_refusals : {P K A : Type 0} {m : Means P K} {number : ℕ} {t : Tunables} {r q : Rules A} {o z : Outside P K} {ss : List Said} →
    Walks t (ways m number) r o ss q z → refusals_of m o ≤ refusals_of m z
walked_refusals walks.here = omega arith
walked_refusals {P = P} {K = K} {m = m} (walks.idled {o = o} {p = p} i a) = omega (arith, walked_refusals {m = m} a, same_refusals m o p (ap (λ (x : Outside P K). x.space) i.others))
walked_refusals {m = m} {number = number} (walks.done {d = d} {o = o} {p = p} h a) = omega (arith, walked_refusals {m = m} a, does_refusals m number o p d h)
walked_refusals {m = m} (walks.told {n = n} {s = s} {o = o} {p = p} f h a) = omega (arith, walked_refusals {m = m} a, goes_refusals m o p n s h)

pub reached_refusals : {P K A : Type 0} {m : Means P K} {number : ℕ} {t : Tunables} {r q : Rules A} {o z : Outside P K} {old new : List Said} →
    Reaches t (ways m number) r o old q new z → refusals_of m o ≤ refusals_of m z
reached_refusals a = walked_refusals a.walks

-- a count that rose stands so through what comes after, and from what came before
pub rose_on : (a b c : ℕ) → Rose a b → b ≤ c → Rose a c
rose_on a b c rose le = omega (arith, rose, le)

pub rose_from : (a b c : ℕ) → a ≤ b → Rose b c → Rose a c
rose_from a b c le rose = omega (arith, rose, le)

pub rose_twice : (a b c : ℕ) → Rose a b → Rose b c → Rose a c
rose_twice a b c one two = omega (arith, one, two)
