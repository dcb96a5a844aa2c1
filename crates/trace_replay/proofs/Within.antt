-- What a call leaves of its thread's address space: it is the same thread's, and inside its window for mappings.
use Rattle.std.proofs.Common.{◌≡◌, ℕ, ◌≤◌, Bool, true, false, cond, List, Option, Some, None, refl, ap, ◌∙◌, subst, arith}
use Rattle.std.specs.Prelude.{IfSome}
use Rattle.chunk_tags.specs.declared.tunables.Tunables.{Tunables}
use Rattle.address_space.specs.Ports.{Port}
use Rattle.address_space.specs.Spaces.{map_length, IsNextPlace, map_passes, remap_passes, used_up, place_answer, AsksWithin, MapsWithin, RemapsWithin, GivesWithin, LengthChange}
use Rattle.address_space.specs.declared.asks.Ask.{Ask}
use Rattle.address_space.specs.declared.asks.Answer.{Answer}
use Rattle.address_space.specs.declared.asks.Back.{Back}
use Rattle.address_space.specs.declared.space.Space.{Space}
use Rattle.arena_rules.specs.Rules.{Rules, Need, Flagged, Pops, Owns, Rooms, Asks, Maps, Reads, Deed, Clears, Gathers, Pushes, Stashes, Draws, Gives, Counts}
use Rattle.arena_rules.specs.Walks as walks
use Rattle.arena_rules.specs.Walks.{Walks}
use Rattle.arena_rules.specs.declared.said.Said.{Said}
use Rattle.arena_rules.specs.declared.said.Said.TheVariants as told
use Rattle.arena_growth.specs.FirstHeap.{asked_ways}
use Rattle.consolidate_trim.specs.Outside as outside
use Rattle.consolidate_trim.specs.Outside.{Means, Outside, AnswerGoes, ways}

pub record StaysWithin {K : Type 0} (before now : Space K) : Type 0 where
  pub thread : now.thread ≡ before.thread
  pub inside : before.mapped ≤ map_length → now.mapped ≤ map_length

pub within_same : {K : Type 0} (before now : Space K) → now ≡ before → StaysWithin before now
within_same {K = K} before now same = record {
  thread = ap (λ (s : Space K). s.thread) same;
  inside = λ le. omega (arith, le, ap (λ (s : Space K). s.mapped) same);
}

pub within_then : {K : Type 0} (before between now : Space K) → StaysWithin before between → StaysWithin between now → StaysWithin before now
within_then before between now a b = record { thread = b.thread ∙ a.thread; inside = λ le. b.inside (a.inside le) }

within_asked : {K : Type 0} (port : Port K) (before now : Space K) (passes : Bool) (ask : Ask) (answer : Answer) → AsksWithin port before passes ask answer now → StaysWithin before now
within_asked {K = K} port before now true ask answer h =
    let is = (h.passed refl).1 in
    record { thread = ap (λ (s : Space K). s.thread) is; inside = λ le. omega (arith, le, ap (λ (s : Space K). s.mapped) is) }
within_asked {K = K} port before now false ask answer h =
    let is = (h.put refl).1 in
    record { thread = ap (λ (s : Space K). s.thread) is; inside = λ le. omega (arith, le, ap (λ (s : Space K). s.mapped) is) }

pub within_mapped : {K : Type 0} (port : Port K) (before now : Space K) (len : ℕ) (place : Option ℕ) → MapsWithin port before len place now → StaysWithin before now
within_mapped {K = K} port before now len None h =
    let cases : (passes : Bool) → map_passes before len ≡ passes → StaysWithin before now = elim [
      | true ↦ λ e.
          let is = (h.passed e).1 in
          record { thread = ap (λ (s : Space K). s.thread) is; inside = λ le. omega (arith, le, ap (λ (s : Space K). s.mapped) is) }
      | false ↦ λ e.
          let is = (h.put e).1 in
          record { thread = ap (λ (s : Space K). s.thread) is; inside = λ le. omega (arith, le, ap (λ (s : Space K). s.mapped) is) }
    ] in
    cases (map_passes before len) refl
within_mapped {K = K} port before now len (Some at) h =
    let cases : (passes : Bool) → map_passes before len ≡ passes → StaysWithin before now = elim [
      | true ↦ λ e. let none : Some at ≡ None = (h.passed e).0 in absurd (cc none)
      | false ↦ λ e. record { thread = ap (λ (s : Space K). s.thread) (h.put e).1; inside = λ le. h.fresh.inside }
    ] in
    cases (map_passes before len) refl

used_thread : {K : Type 0} (s : Space K) (len : ℕ) (grows : Bool) (place : Option ℕ) → (cond grows (used_up (place_answer place) len s) s).thread ≡ s.thread
used_thread s len true None = refl
used_thread s len true (Some at) = refl
used_thread s len false place = refl

-- a place that isn't granted, or that no longer one asked for, uses nothing up
used_none : {K : Type 0} (s : Space K) (len : ℕ) (grows : Bool) (place : Option ℕ) → grows ≡ false → (cond grows (used_up (place_answer place) len s) s).mapped ≡ s.mapped
used_none s len true place e = absurd cc
used_none s len false place e = refl

pub within_remapped : {K : Type 0} (port : Port K) (before now : Space K) (change : LengthChange) (place : Option ℕ) → RemapsWithin port before change place now → StaysWithin before now
within_remapped {K = K} port before now change place h =
    let put : remap_passes before change ≡ false → StaysWithin before now = λ e.
    let is = (h.put e).1 in
    let old : Space K = record before { kernel = now.kernel } in
    let thread : now.thread ≡ before.thread = ap (λ (s : Space K). s.thread) is ∙ used_thread old change.new_len change.grows place in
    let grown : (o : Option ℕ) → place ≡ o → change.grows ≡ true → before.mapped ≤ map_length → now.mapped ≤ map_length = elim [
      | None ↦ λ none grows le.
          let same : now.mapped ≡ before.mapped =
          ap (λ (s : Space K). s.mapped) is
          ∙ ap (λ (g : Bool). (cond g (used_up (place_answer place) change.new_len old) old).mapped) grows
          ∙ ap (λ (p : Option ℕ). (used_up (place_answer p) change.new_len old).mapped) none in
          omega (arith, le, same)
      | Some at ↦ λ some grows le.
          (subst (λ (p : Option ℕ). IfSome p (IsNextPlace before change.new_len now)) some (h.fresh grows)).inside
    ] in
    let cases : (grows : Bool) → change.grows ≡ grows → before.mapped ≤ map_length → now.mapped ≤ map_length = elim [
      | true ↦ λ grows le. grown place refl grows le
      | false ↦ λ grows le. omega (arith, le, ap (λ (s : Space K). s.mapped) is, used_none old change.new_len change.grows place grows)
    ] in
    record { thread = thread; inside = cases change.grows refl } in
    let cases : (passes : Bool) → remap_passes before change ≡ passes → StaysWithin before now = elim [
      | true ↦ λ e.
          let is = (h.passed e).1 in
          record { thread = ap (λ (s : Space K). s.thread) is; inside = λ le. omega (arith, le, ap (λ (s : Space K). s.mapped) is) }
      | false ↦ put
    ] in
    cases (remap_passes before change) refl

pub within_given : {K : Type 0} (port : Port K) (before now : Space K) (back : Back) → GivesWithin port before back now → StaysWithin before now
within_given {K = K} port before now back h = record {
  thread = ap (λ (s : Space K). s.thread) h.others;
  inside = λ le. omega (arith, le, ap (λ (s : Space K). s.mapped) h.others);
}

-- ---- a hold

same_space : {P K : Type 0} (o p : Outside P K) → p.space ≡ o.space → StaysWithin o.space p.space
same_space o p same = within_same o.space p.space same

goes_within : {P K : Type 0} (m : Means P K) (o p : Outside P K) (n : Need) (s : Said) → AnswerGoes m o n s p → StaysWithin o.space p.space
goes_within {P = P} {K = K} m o p Flagged (told.Flag b) h = same_space o p (ap (λ (x : Outside P K). x.space) h.others)
goes_within {P = P} {K = K} m o p (Pops bin) (told.Popped at) h = same_space o p (ap (λ (x : Outside P K). x.space) h.others)
goes_within {P = P} {K = K} m o p (Owns bin) (told.Own at) h = same_space o p (ap (λ (x : Outside P K). x.space) h.others)
goes_within {P = P} {K = K} m o p (Rooms size) (told.Room b) h = same_space o p (ap (λ (x : Outside P K). x.space) h.others)
goes_within m o p (Asks ask) (told.Asked asked answer) h = within_asked m.kernel o.space p.space _ asked answer h.asks
goes_within m o p (Maps len) (told.Asked asked answer) h = within_mapped m.kernel o.space p.space len _ h.maps
goes_within {P = P} {K = K} m o p (Reads which) (told.Dial n) h = same_space o p (ap (λ (x : Outside P K). x.space) h.others)
goes_within m o p n s h = absurd h

does_within : {P K : Type 0} (m : Means P K) (number : ℕ) (o p : Outside P K) (d : Deed) → outside.DeedGoes m number o d p → StaysWithin o.space p.space
does_within {P = P} {K = K} m number o p Clears h = same_space o p (ap (λ (x : Outside P K). x.space) h.others)
does_within {P = P} {K = K} m number o p (Gathers bin) h = same_space o p (ap (λ (x : Outside P K). x.space) h.others)
does_within {P = P} {K = K} m number o p (Pushes bin at) h = same_space o p (ap (λ (x : Outside P K). x.space) h.others)
does_within {P = P} {K = K} m number o p (Stashes c) h = same_space o p (ap (λ (x : Outside P K). x.space) h)
does_within {P = P} {K = K} m number o p (Draws size) h = same_space o p (ap (λ (x : Outside P K). x.space) h)
does_within m number o p (Gives back) h = within_given m.kernel o.space p.space back h.gives
does_within {P = P} {K = K} m number o p (Counts len) h = same_space o p (ap (λ (x : Outside P K). x.space) h.others)

pub walked_within : {P K A : Type 0} {m : Means P K} {number : ℕ} {t : Tunables} {r q : Rules A} {o z : Outside P K} {ss : List Said} →
    Walks t (ways m number) r o ss q z → StaysWithin o.space z.space
walked_within {z = z} walks.here = within_same z.space z.space refl
walked_within {P = P} {K = K} {z = z} (walks.idled {o = o} {p = p} i a) =
    within_then o.space p.space z.space (same_space o p (ap (λ (x : Outside P K). x.space) i.others)) (walked_within a)
walked_within {m = m} {number = number} {z = z} (walks.done {d = d} {o = o} {p = p} h a) = within_then o.space p.space z.space (does_within m number o p d h) (walked_within a)
walked_within {m = m} {z = z} (walks.told {n = n} {s = s} {o = o} {p = p} f h a) = within_then o.space p.space z.space (goes_within m o p n s h) (walked_within a)

-- ---- the asks for a new arena

answered_within : {K : Type 0} (port : Port K) (o p : Space K) (n : Need) (s : Said) → (asked_ways port).goes o n s p → StaysWithin o p
answered_within port o p (Asks ask) (told.Asked asked answer) h = within_asked port o p _ asked answer h
answered_within port o p n s h = absurd h

pub asked_within : {K A : Type 0} {port : Port K} {t : Tunables} {r q : Rules A} {o z : Space K} {ss : List Said} →
    Walks t (asked_ways port) r o ss q z → StaysWithin o z
asked_within {z = z} walks.here = within_same z z refl
asked_within (walks.idled i a) = absurd i
asked_within (walks.done h a) = absurd h
asked_within {port = port} {z = z} (walks.told {n = n} {s = s} {o = o} {p = p} f h a) = within_then o p z (answered_within port o p n s h) (asked_within a)
