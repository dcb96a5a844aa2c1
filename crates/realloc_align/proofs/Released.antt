-- What is left of a reshaped chunk is released.
use Rattle.std.proofs.Common.{◌≡◌, ℕ, List, Option, Some, None, Ok, Err, refl, sym, subst, ap, ◌∙◌, arith}
use Rattle.chunk_tags.specs.declared.refusals.NoMemory.{NoMemory}
use Rattle.chunk_tags.specs.declared.tiles.Chunk.{Chunk}
use Rattle.chunk_tags.specs.declared.tunables.Tunables.{Tunables}
use Rattle.address_space.specs.Ports.{Rose}
use Rattle.arena_rules.specs.declared.said.Said.{Said}
use Rattle.arena_rules.specs.PlainArena.{Plain}
use Rattle.arena_rules.specs.Growth.{Took, closing}
use Rattle.arena_rules.specs.Walks.{StopsShort}
use Rattle.arena_rules.specs.Rules.{Rules, Stop}
use Rattle.arena_rules.proofs.Walks.{left_as_walked, reaches_then, reaches_behind, short_then, short_behind}
use Rattle.consolidate_trim.specs.Holds.{no_chunk, one_chunk, IsBacked}
use Rattle.consolidate_trim.specs.Outside.{Means, Outside, ways}
use Rattle.arena_growth.specs.Ledgers.{Stage, full}
use Rattle.arena_growth.proofs.Balance.{balances_then, balances_as}
use Rattle.arena_growth.proofs.Parts.{renumbered, renumbered_short}
use Rattle.arena_growth.specs.declared.found.Found.{Found}
use Rattle.arena_growth.specs.declared.found.Found.TheVariants.{InArena, InMapping, Nowhere}
use Rattle.arena_growth.specs.Asking.{Closes, took, chunks_in}
use Rattle.arena_growth.proofs.Refusals.{refusals_of, reached_refusals, rose_on}
use Rattle.realloc_align.specs.declared.cutting.Reshaped.{Reshaped}
use Rattle.realloc_align.specs.declared.resizing.Stranded.{Stranded}
use Rattle.realloc_align.specs.Resizes.{Reshapes, Resizes, Spares, StopsInMapping, StopsReleasing, Strands, rest_released, chunks_kept, chunks_reshaped}
use Rattle.realloc_align.proofs.Accounts.{backed_with, backed_less, spares_then}

-- what stays to be done behind the release
abbrev block_at : Found → Plain → Rules Took
block_at found b = Stop (took b found)

-- the rest is the arena's, and nobody else's
pub rest_backed : {P K : Type 0} (m : Means P K) (t : Tunables) (c : Chunk) (nb : ℕ) (x y : Stage (Outside P K)) (r : Reshaped) → IsBacked m.fast x.arena x.outside.port (one_chunk c) → Reshapes m t c nb x (Ok r) y → IsBacked m.fast y.arena y.outside.port (chunks_in r.rest)
rest_backed m t c nb x y r backed w =
    let all = backed_with m.fast (full m) x y x.outside.port y.outside.port (one_chunk c) (chunks_reshaped c r) no_chunk (λ e. refl) (λ e. refl) (backed_less backed (λ e. omega arith)) w.comes.balances in
    backed_less all (λ e. omega arith)

pub resizes_released : {P K : Type 0} (m : Means P K) (t : Tunables) (c : Chunk) (nb : ℕ) (x y z : Stage (Outside P K)) (r : Reshaped) → Reshapes m t c nb x (Ok r) y → Closes m t r.rest y (Ok tt) z → Resizes m t c nb x (Ok r.found) z
resizes_released m t c nb x y z r w v =
    let comes = w.comes in
    record {
      walk = record {
        done = reaches_then comes.reaches (renumbered (full m) t (rest_released t r y.arena) (Stop (took z.arena r.found)) y.outside z.outside y.said z.said y.arena.number x.arena.number comes.balances.number (reaches_behind (block_at r.found) v.walk.done));
        short = tt;
      };
      keeps = balances_as (balances_then comes.balances v.keeps) (λ e. omega arith);
      spares = tt;
      strands = tt;
      mapped = tt;
    }

-- where the block is in a mapping
stops_in_mapping : {P K : Type 0} (m : Means P K) (t : Tunables) (c : Chunk) (nb : ℕ) (x y z : Stage (Outside P K)) (r : Reshaped) (d : NoMemory) (e : Chunk) → r.found ≡ InMapping e → Reshapes m t c nb x (Ok r) y → Closes m t r.rest y (Err d) z → StopsInMapping m t c nb x e z
stops_in_mapping m t c nb x y z r d e is w v =
    let finds = w.mapped e is in
    let short = renumbered_short (full m) t (closing t r.rest y.arena) z.arena y.outside z.outside y.said z.said y.arena.number x.arena.number w.comes.balances.number v.walk.short in
    record {
      between = y;
      finds = finds.1;
      release = subst (λ o. StopsShort t ((full m).ways x.arena.number) (closing t o y.arena) y.outside y.said z.arena z.said z.outside) finds.0 short;
    }

-- where the rules have stopped no answer is needed
stopped_short : {P K A : Type 0} {m : Means P K} {t : Tunables} {number : ℕ} {x : A} {o z : Outside P K} {said new : List Said} {left : Plain} → StopsShort t (ways m number) (Stop x) o said left new z → ⊥
stopped_short {left = left} s = let none : None ≡ Some left = left_as_walked s.reaches.walks in absurd cc

-- so something was found
strands : {P K : Type 0} (m : Means P K) (t : Tunables) (c : Chunk) (nb : ℕ) (x y z : Stage (Outside P K)) (r : Reshaped) (d : NoMemory) → Reshapes m t c nb x (Ok r) y → Closes m t r.rest y (Err d) z → Strands m t c nb x r.found z
strands m t c nb x y z r d w v =
    let short = renumbered_short (full m) t (closing t r.rest y.arena) z.arena y.outside z.outside y.said z.said y.arena.number x.arena.number w.comes.balances.number v.walk.short in
    let released : StopsReleasing m t c nb x r.found z = record { rest = r.rest; between = y; comes = w.comes.reaches; release = short } in
    let cases : (found : Found) → r.found ≡ found → StopsReleasing m t c nb x found z → Strands m t c nb x found z = elim [
      | InArena e ↦ λ is released. released
      | InMapping e ↦ λ is released. released
      | Nowhere ↦ λ is released. absurd (stopped_short (subst (λ o. StopsShort t ((full m).ways x.arena.number) (closing t o y.arena) y.outside y.said z.arena z.said z.outside) (w.nowhere is) short))
    ] in
    cases r.found refl released

pub resizes_stranded : {P K : Type 0} (m : Means P K) (t : Tunables) (c : Chunk) (nb : ℕ) (x y z : Stage (Outside P K)) (r : Reshaped) (d : NoMemory) (s : Stranded) → s.found ≡ r.found → Reshapes m t c nb x (Ok r) y → Closes m t r.rest y (Err d) z → Resizes m t c nb x (Err s) z
resizes_stranded m t c nb x y z r d s is w v =
    let comes = w.comes in
    record {
      walk = record {
        done = tt;
        short = short_then comes.reaches (renumbered_short (full m) t (rest_released t r y.arena) z.arena y.outside z.outside y.said z.said y.arena.number x.arena.number comes.balances.number (short_behind (block_at r.found) v.walk.short));
      };
      keeps = tt;
      spares = spares_then comes.balances v.spares (λ e. omega (arith, ap (λ f. chunks_kept c f e) is));
      strands = subst (λ f. Strands m t c nb x f z) (sym is) (strands m t c nb x y z r d w v);
      mapped = λ e mapping. stops_in_mapping m t c nb x y z r d e (sym is ∙ mapping) w v;
    }

-- memory was short in the search
pub resizes_short : {P K : Type 0} (m : Means P K) (t : Tunables) (c : Chunk) (nb : ℕ) (x y : Stage (Outside P K)) (d : NoMemory) (s : Stranded) → s.found ≡ Nowhere → Reshapes m t c nb x (Err d) y → Resizes m t c nb x (Err s) y
resizes_short m t c nb x y d s is w = record {
  walk = record { done = tt; short = w.short };
  keeps = tt;
  spares = subst (λ f. Spares (full m) x (one_chunk c) (chunks_kept c f) y) (sym is) w.spares;
  strands = subst (λ f. Strands m t c nb x f y) (sym is) w.early;
  mapped = λ e mapping. absurd (cc (sym is ∙ mapping));
}

-- the count of refusals stands through the release
pub rose_released : {P K : Type 0} (m : Means P K) (t : Tunables) (y z : Stage (Outside P K)) (before : ℕ) (rest : Option Chunk) → Closes m t rest y (Ok tt) z → Rose before (refusals_of m y.outside) → Rose before (refusals_of m z.outside)
rose_released m t y z before rest v rose = rose_on before (refusals_of m y.outside) (refusals_of m z.outside) rose (reached_refusals v.walk.done)
