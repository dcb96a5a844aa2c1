-- A mapping that the kernel granted, as a mapping of the space.
use Rattle.std.proofs.Common.{◌≡◌, ℕ, ◌+◌, ◌%◌, ◌<◌, ◌≤◌, Bool, true, false, sym, ap, ◌∙◌, arith, refl}
use Rattle.std.specs.Prelude.{Some}
use Rattle.std.proofs.lemmas.Bool.Decides.{nat_tests}
use Rattle.address_space.specs.declared.asks.Answer.TheVariants.{Granted}
use Rattle.address_space.specs.declared.space.Space.{Space}
use Rattle.address_space.specs.Ports.{Port}
use Rattle.address_space.specs.Spaces.{AsksWithin, MapsWithin, IsNextPlace, granted_place, used_up, map_place, map_passes, map_ask, space_answer, space_asked}

-- a thread of one byte, a place of whole pages, and a window that the mapping doesn't pass
record Fits {K : Type 0} (before : Space K) (len : ℕ) : Type 0 where
  thread : before.thread < 256
  page : map_place before % 4096 ≡ 0
  window : map_passes before len ≡ false

next_place : {K : Type 0} (before asked : Space K) (len : ℕ) → Fits before len → asked ≡ record before { kernel = asked.kernel } → IsNextPlace before len (used_up Granted len asked) (map_place before)
next_place before asked len fits e =
    let thread : asked.thread ≡ before.thread = ap (λ s. s.thread) e in
    let mapped : asked.mapped ≡ before.mapped = ap (λ s. s.mapped) e in
    let room : before.mapped + len ≤ 0x1000000000 = grind (arith, nat_tests, fits.window) in
    record { told = refl; page = fits.page; behind = omega arith; inside = omega arith; limit = omega arith }

granted_inside : {K : Type 0} (port : Port K) (before asked : Space K) (len : ℕ) → Fits before len → AsksWithin port before false (map_ask before len) Granted asked → MapsWithin port before len (Some (map_place before)) (used_up Granted len asked)
granted_inside port before asked len fits step =
    let ask = map_ask before len in
    record {
      later = step.later;
      cause = λ no. absurd cc;
      fresh = next_place before asked len fits (step.put refl).1;
      passed = λ yes. absurd (cc fits.window);
      put = λ no. ((step.put refl).0, ap (used_up Granted len) (step.put refl).1);
      tells = step.tells;
      answered = λ t. ap (granted_place (map_place before)) (step.answered t)
          ∙ ap (λ p. granted_place (map_place before) (space_answer port before p ask)) (sym fits.window);
      left = λ t. ap (λ a. used_up a len asked) (step.answered t)
          ∙ (ap (used_up (space_answer port before false ask) len) (step.left t)
          ∙ ap (λ p. used_up (space_answer port before p ask) len (space_asked port before p ask)) (sym fits.window));
    }

pub granted_mapping : {K : Type 0} (port : Port K) (before asked : Space K) (len : ℕ) → before.thread < 256 → map_place before % 4096 ≡ 0 → (passes : Bool) → map_passes before len ≡ passes → AsksWithin port before passes (map_ask before len) Granted asked → MapsWithin port before len (Some (map_place before)) (used_up Granted len asked)
granted_mapping port before asked len thread page true passes step = let no = (step.passed refl).0 in absurd cc
granted_mapping port before asked len thread page false passes step =
    granted_inside port before asked len (record { thread = thread; page = page; window = passes }) step
