-- A chunk is cut from what grew, where that suffices.
use Rattle.std.proofs.Common.{◌≡◌, ℕ, ◌+◌, Bool, true, false, ◌||◌, cond, List, [], Option, Some, None, IsTrue, Result, Ok, Err, refl, sym, ap, ◌∙◌, subst, arith}
use Rattle.std.specs.Prelude.{if◌then◌else◌}
use Rattle.std.specs.Result.{IsErr}
use Rattle.std.proofs.lemmas.Bool.{cond-true, cond-false}
use Rattle.chunk_tags.specs.Sizes.{IsChunkSize}
use Rattle.chunk_tags.specs.declared.refusals.NoMemory.{NoMemory}
use Rattle.chunk_tags.specs.declared.tiles.Chunk.{Chunk}
use Rattle.chunk_tags.specs.declared.tunables.Tunables.{Tunables}
use Rattle.arena_rules.specs.declared.said.Said.{Said}
use Rattle.arena_rules.specs.PlainArena.{Plain, IsSound, is_main}
use Rattle.arena_rules.specs.Moves.{top_start, cut_from_top}
use Rattle.arena_rules.specs.Growth as growth
use Rattle.arena_rules.specs.Growth.{has_top_for, main_grown, noted, from_top, cut_from_grown, heaps_grown, grown_again, other_grown, maps_else, grown}
use Rattle.arena_rules.specs.Rules.{Rules, Stop, behind}
use Rattle.arena_rules.specs.Search as search
use Rattle.arena_rules.specs.Walks.{Reaches}
use Rattle.arena_rules.proofs.MainPlaces.{placed_beside}
use Rattle.arena_rules.proofs.Walks.{reaches_here}
use Rattle.consolidate_trim.specs.Holds.{no_chunk}
use Rattle.consolidate_trim.specs.Outside.{Means, Outside}
use Rattle.thread_cache.specs.Caches.{CacheValue}
use Rattle.arena_growth.specs.declared.step.Step.{Step}
use Rattle.arena_growth.specs.declared.step.Step.TheVariants as steps
use Rattle.arena_growth.specs.Ledgers.{Stage, stage, Balances, full, shelf}
use Rattle.arena_growth.specs.Steps.{step_of, chunks_taken, topped}
use Rattle.arena_growth.proofs.Balance.{works_ok}
use Rattle.arena_growth.proofs.BinnedLaws.{topped_balances}
use Rattle.arena_growth.proofs.Parts.{Passes, passes_behind, works_after, short_behind_works}
use Rattle.arena_growth.specs.declared.found.Found.{Found}
use Rattle.arena_growth.specs.declared.found.Found.TheVariants as finds
use Rattle.arena_growth.specs.Asking.{IsReady, Grows, GrowsHeaps, CutsFromGrown, Finds, took, chunks_found, grown_of}
use Rattle.arena_growth.proofs.MainGrowth.{ready_after}

-- what a step took is what was found
abbrev pub found_step : Step → Found
found_step (steps.Taken c) = finds.InArena c
found_step steps.Onward = finds.Nowhere

abbrev took_step : search.Step → growth.Took
took_step (search.Taken c a) = record { found = growth.InArena c; arena = a }
took_step (search.Onward a) = record { found = growth.Nowhere; arena = a }

from_topped : (nb : ℕ) (b c : Plain) (s : Step) → step_of s c ≡ topped nb b → from_top nb b ≡ took c (found_step s)
from_topped nb b c s e =
    let top : (h : Bool) → cond h (record { found = growth.InArena (record { at = top_start b; size = nb }); arena = cut_from_top b nb }) (record { found = growth.Nowhere; arena = b }) ≡ took_step (cond h (search.Taken (record { at = top_start b; size = nb }) (cut_from_top b nb)) (search.Onward b)) = elim [
      | true ↦ refl
      | false ↦ refl
    ] in
    let same : (s : Step) → took_step (step_of s c) ≡ took c (found_step s) = elim [ steps.Taken k ↦ refl | steps.Onward ↦ refl ] in
    top (has_top_for b nb) ∙ (ap took_step (sym e) ∙ same s)

chunks_same : (s : Step) (e : Chunk) → chunks_taken s e ≡ chunks_found (found_step s) e
chunks_same (steps.Taken c) e = refl
chunks_same steps.Onward e = refl

noted_sound : (a : Plain) → IsSound a → IsSound (noted a)
noted_sound a s = record { row = s.row; one_top = s.one_top; listed = record { once = s.listed.once; width = s.listed.width; bins = s.listed.bins } }

pub cuts : (nb : ℕ) (a c : Plain) (s : Step) → IsSound a → IsChunkSize nb → step_of s c ≡ topped nb (noted a) → CutsFromGrown nb a (found_step s) c
cuts nb a c s sound chunk e =
    let none : CacheValue = None in
    let x : Stage CacheValue = stage (noted a) none [] in
    let b : Balances shelf x no_chunk (chunks_taken s) (stage c none []) = topped_balances shelf x nb [] s c (noted_sound a sound) chunk e in
    record {
      ends = from_topped nb (noted a) c s e;
      sound = b.sound;
      number = b.number;
      windows = b.windows;
      placed = λ p. b.placed (λ main. placed_beside a a.bins a.last (noted a).most (p main));
      used = λ k. omega (arith, b.kept k, chunks_same s k);
    }

-- the chunk is what was found
cut_finds : {P K : Type 0} (m : Means P K) (t : Tunables) (nb : ℕ) (x : Stage (Outside P K)) (b : Plain) (f : Found) → CutsFromGrown nb x.arena f b → Finds m t (cut_from_grown nb x.arena) x (Ok f) (stage b x.outside x.said)
cut_finds m t nb x b f cut =
    works_ok (subst (λ (k : growth.Took). Reaches t ((full m).ways x.arena.number) (cut_from_grown nb x.arena) x.outside x.said (Stop k) x.said x.outside) cut.ends reaches_here)
    (record { sound = cut.sound; number = cut.number; windows = cut.windows; placed = cut.placed; cached = λ e. omega arith; others = λ n other e. refl; kept = λ e. omega (arith, cut.used e) })

-- ---- main

grown_main : (t : Tunables) (nb : ℕ) (tried : Bool) (a : Plain) → IsTrue (is_main a) → grown t nb tried a ≡ behind (main_grown 2 t nb a) (cut_from_grown nb)
grown_main t nb tried a main = cond-true {A = Rules growth.Took} (is_main a) (behind (main_grown 2 t nb a) (cut_from_grown nb)) (other_grown t nb tried a) main

pub main_ends : {P K : Type 0} (m : Means P K) (t : Tunables) (nb : ℕ) (tried : Bool) (x y : Stage (Outside P K)) (c : Plain) (f : Found) → IsTrue (is_main x.arena) → Grows m t (main_grown 2 t nb x.arena) x (Ok tt) y → CutsFromGrown nb y.arena f c →
    Finds m t (grown t nb tried x.arena) x (Ok f) (stage c y.outside y.said)
main_ends m t nb tried x y c f main w cut =
    subst (λ rules. Finds m t rules x (Ok f) (stage c y.outside y.said)) (sym (grown_main t nb tried x.arena main))
    (works_after (Ok f) (passes_behind (cut_from_grown nb) tt w) (λ e. refl) (cut_finds m t nb y c f cut))

pub main_short : {P K : Type 0} (m : Means P K) (t : Tunables) (nb : ℕ) (tried : Bool) (x y : Stage (Outside P K)) (d : NoMemory) (r : Result Found NoMemory) → IsErr r → IsTrue (is_main x.arena) → Grows m t (main_grown 2 t nb x.arena) x (Err d) y → Finds m t (grown t nb tried x.arena) x r y
main_short m t nb tried x y d r is main w =
    subst (λ rules. Finds m t rules x r y) (sym (grown_main t nb tried x.arena main)) (short_behind_works (cut_from_grown nb) d r is w)

-- ---- another arena

pub grown_other : {P K : Type 0} (m : Means P K) (t : Tunables) (nb : ℕ) (tried : Bool) (x y : Stage (Outside P K)) (r : Result Found NoMemory) → is_main x.arena ≡ false → Finds m t (other_grown t nb tried x.arena) x r y → Finds m t (grown t nb tried x.arena) x r y
grown_other m t nb tried x y r other w =
    subst (λ rules. Finds m t rules x r y) (sym (cond-false {A = Rules growth.Took} (is_main x.arena) (behind (main_grown 2 t nb x.arena) (cut_from_grown nb)) (other_grown t nb tried x.arena) other)) w

abbrev after_again : ℕ → Plain → Option Plain → Rules growth.Took
after_again nb a grown = cut_from_grown nb (elim grown [ Some b ↦ b | None ↦ a ])

pub again_short : {P K : Type 0} (m : Means P K) (t : Tunables) (nb : ℕ) (x y : Stage (Outside P K)) (d : NoMemory) (r : Result Found NoMemory) → IsErr r → GrowsHeaps m t nb x (Err d) y → Finds m t (grown_again t nb x.arena) x r y
again_short m t nb x y d r is w = short_behind_works (after_again nb x.arena) d r is w.works

again_cut : (nb : ℕ) (a b : Plain) (v : Bool) → (v ≡ false → b ≡ a) → after_again nb a (grown_of b v) ≡ cut_from_grown nb b
again_cut nb a b true same = refl
again_cut nb a b false same = ap (λ (p : Plain). cut_from_grown nb p) (sym (same refl))

pub again_ends : {P K : Type 0} (m : Means P K) (t : Tunables) (nb : ℕ) (x y : Stage (Outside P K)) (v : Bool) (c : Plain) (f : Found) → GrowsHeaps m t nb x (Ok v) y → CutsFromGrown nb y.arena f c → Finds m t (grown_again t nb x.arena) x (Ok f) (stage c y.outside y.said)
again_ends m t nb x y v c f w cut =
    let p = passes_behind (after_again nb x.arena) v w.works in
    let goes : Passes (full m) t (grown_again t nb x.arena) x no_chunk (cut_from_grown nb y.arena) y = subst (λ q. Passes (full m) t (grown_again t nb x.arena) x no_chunk q y) (again_cut nb x.arena y.arena v w.same) p in
    works_after (Ok f) goes (λ e. refl) (cut_finds m t nb y c f cut)

abbrev after_heaps : Tunables → ℕ → Bool → Plain → Option Plain → Rules growth.Took
after_heaps t nb tried a grown = elim grown [
  | Some b ↦ cut_from_grown nb b
  | None ↦ if tried then cut_from_grown nb a else maps_else nb a (grown_again t nb a)
]

pub other_short : {P K : Type 0} (m : Means P K) (t : Tunables) (nb : ℕ) (tried : Bool) (x y : Stage (Outside P K)) (d : NoMemory) (r : Result Found NoMemory) → IsErr r → GrowsHeaps m t nb x (Err d) y → Finds m t (other_grown t nb tried x.arena) x r y
other_short m t nb tried x y d r is w = short_behind_works (after_heaps t nb tried x.arena) d r is w.works

other_cut : (t : Tunables) (nb : ℕ) (tried : Bool) (a b : Plain) (v : Bool) → (v ≡ false → b ≡ a) → (v || tried) ≡ true → after_heaps t nb tried a (grown_of b v) ≡ cut_from_grown nb b
other_cut t nb tried a b true same is = refl
other_cut t nb true a b false same is = ap (λ (p : Plain). cut_from_grown nb p) (sym (same refl))
other_cut t nb false a b false same is = absurd cc

pub other_ends : {P K : Type 0} (m : Means P K) (t : Tunables) (nb : ℕ) (tried : Bool) (x y : Stage (Outside P K)) (v : Bool) (c : Plain) (f : Found) → (v || tried) ≡ true → GrowsHeaps m t nb x (Ok v) y → CutsFromGrown nb y.arena f c → Finds m t (other_grown t nb tried x.arena) x (Ok f) (stage c y.outside y.said)
other_ends m t nb tried x y v c f is w cut =
    let p = passes_behind (after_heaps t nb tried x.arena) v w.works in
    let goes : Passes (full m) t (other_grown t nb tried x.arena) x no_chunk (cut_from_grown nb y.arena) y = subst (λ q. Passes (full m) t (other_grown t nb tried x.arena) x no_chunk q y) (other_cut t nb tried x.arena y.arena v w.same is) p in
    works_after (Ok f) goes (λ e. refl) (cut_finds m t nb y c f cut)

-- both were refused, and no mapping was asked for
pub refused_passes : {P K : Type 0} (m : Means P K) (t : Tunables) (nb : ℕ) (tried v : Bool) (x y : Stage (Outside P K)) → tried ≡ false → v ≡ false → GrowsHeaps m t nb x (Ok v) y → Passes (full m) t (other_grown t nb tried x.arena) x no_chunk (maps_else nb y.arena (grown_again t nb y.arena)) y
refused_passes m t nb true v x y untried refused w = absurd cc
refused_passes m t nb false true x y untried refused w = absurd cc
refused_passes m t nb false false x y untried refused w =
    subst (λ (a : Plain). Passes (full m) t (other_grown t nb false x.arena) x no_chunk (maps_else nb a (grown_again t nb a)) y) (sym (w.same refl)) (passes_behind (after_heaps t nb false x.arena) false w.works)

pub refused_ends : {P K : Type 0} (m : Means P K) (t : Tunables) (nb : ℕ) (tried v : Bool) (x y z : Stage (Outside P K)) (r : Result Found NoMemory) → tried ≡ false → v ≡ false → GrowsHeaps m t nb x (Ok v) y → Finds m t (maps_else nb y.arena (grown_again t nb y.arena)) y r z → Finds m t (other_grown t nb tried x.arena) x r z
refused_ends m t nb tried v x y z r untried refused w found = works_after r (refused_passes m t nb tried v x y untried refused w) (λ e. refl) found

pub heaps_ready : {P K : Type 0} {m : Means P K} {t : Tunables} {nb : ℕ} {v : Bool} {x y : Stage (Outside P K)} → IsReady m t x → v ≡ false → GrowsHeaps m t nb x (Ok v) y → IsReady m t y
heaps_ready {m = m} {t = t} {nb = nb} {v = v} {x = x} {y = y} ready refused w = ready_after t ready (refused_passes m t nb false v x y refl refused w)
