-- What is taken from the bins or from top, and what an arena is then, for this crate and those above it.
use Rattle.std.proofs.Common.{◌≡◌, ℕ, ◌+◌, ◌≤◌, Bool, true, false, cond, List, drop, Option, Some, None, refl, sym, ap, ◌∙◌, subst, arith}
use Rattle.std.proofs.lemmas.Bool.Decides.{nat_tests}
use Rattle.chunk_tags.specs.declared.tiles.Chunk.{Chunk}
use Rattle.chunk_tags.specs.declared.tiles.Tile.{Tile}
use Rattle.chunk_tags.specs.BinOrder.{best_of, once}
use Rattle.chunk_tags.specs.Sizes.{IsChunkSize, is_small_size, large_index_of, bin_of}
use Rattle.chunk_tags.specs.Tiles.{top_of}
use Rattle.arena_rules.specs.declared.said.Said.{Said}
use Rattle.arena_rules.specs.PlainArena.{Plain, IsSound, bin_at}
use Rattle.arena_rules.specs.Moves.{top_size, top_start, cut_from_top}
use Rattle.arena_rules.specs.Rules.{Rules, Stop}
use Rattle.arena_rules.specs.Growth.{has_top_for}
use Rattle.arena_rules.specs.Search as search
use Rattle.arena_rules.specs.Search.{Step, next_step, best_taken, larger_taken, top_taken, first_oldest, taken_from, carved_chunk}
use Rattle.arena_rules.proofs.Beside.{beside_cut}
use Rattle.arena_rules.proofs.Carving.{IsBestIn}
use Rattle.arena_rules.proofs.Moved.{Moved, none, nothing}
use Rattle.arena_rules.proofs.TopMoves.{cut_moved}
use Rattle.consolidate_trim.specs.Holds.{no_chunk}
use Rattle.arena_growth.specs.declared.step.Step as step_type
use Rattle.arena_growth.specs.declared.step.Step.TheVariants as steps
use Rattle.arena_growth.specs.Ledgers.{Ledger, Stage, stage, Balances}
use Rattle.arena_growth.specs.Steps.{step_of, chunks_taken, chosen, topped, taken_behind_scan}
use Rattle.arena_growth.proofs.Balance.{balances_here, balances_moved}
use Rattle.arena_growth.proofs.Chosen.{is_chosen}
use Rattle.arena_growth.proofs.Remainders.{carve_balances}

-- ---- the steps behind the scan, as one

from_larger : (nb : ℕ) (a : Plain) (o : Option Chunk) → next_step (Stop (taken_from nb a o)) (top_taken nb) ≡ Stop (elim o [ None ↦ topped nb a | Some c ↦ taken_from nb a (Some c) ])
from_larger nb a None = refl
from_larger nb a (Some c) = refl

pub binned_is : (nb : ℕ) (a : Plain) → next_step (best_taken nb a) (λ b. next_step (larger_taken nb b) (top_taken nb)) ≡ Stop (taken_behind_scan nb a)
binned_is nb a =
    let larger : Option Chunk = first_oldest (drop (bin_of nb + 1) a.bins) in
    let tail : Plain → Rules Step = λ b. next_step (larger_taken nb b) (top_taken nb) in
    let ends : Option Chunk → Rules Step = λ o. Stop (elim o [ None ↦ topped nb a | Some c ↦ taken_from nb a (Some c) ]) in
    let best : (o : Option Chunk) → next_step (Stop (taken_from nb a o)) tail ≡ ends (elim o [ None ↦ larger | Some c ↦ Some c ]) = elim [
      | None ↦ from_larger nb a larger
      | Some c ↦ refl
    ] in
    let cases : (b : Bool) → next_step (Stop (cond b (search.Onward a) (taken_from nb a (best_of nb (bin_at a (large_index_of nb)))))) tail ≡ ends (cond b larger (elim (best_of nb (bin_at a (large_index_of nb))) [ None ↦ larger | Some c ↦ Some c ])) = elim [
      | true ↦ from_larger nb a larger
      | false ↦ best (best_of nb (bin_at a (large_index_of nb)))
    ] in
    cases (is_small_size nb)

-- ---- what is taken

abbrev Steps_balance : {O : Type 0} → Ledger O → Stage O → List Said → Step → Type 0
Steps_balance l x said (search.Taken c b) = Balances l x no_chunk (λ e. once e c) (stage b x.outside said)
Steps_balance l x said (search.Onward b) = Balances l x no_chunk no_chunk (stage b x.outside said)

top_balances : {O : Type 0} (l : Ledger O) (x : Stage O) (nb : ℕ) (said : List Said) → IsSound x.arena → IsChunkSize nb → has_top_for x.arena nb ≡ true →
    Balances l x no_chunk (λ e. once e (record { at = top_start x.arena; size = nb })) (stage (cut_from_top x.arena nb) x.outside said)
top_balances l x nb said s chunk room =
    let fits : nb + 32 ≤ top_size x.arena = grind (arith, nat_tests) in
    let moved : (o : Option Tile) → top_of x.arena.tiles ≡ o → nb + 32 ≤ (elim o [ None ↦ 0 | Some t ↦ t.size ]) → Moved x.arena (cut_from_top x.arena nb) none (λ e. once e (record { at = elim o [ None ↦ 0 | Some t ↦ t.addr ]; size = nb })) nothing nothing = elim [
      | None ↦ λ e le. absurd (omega arith)
      | Some t ↦ λ e le. cut_moved x.arena t nb s e chunk le
    ] in
    balances_moved l x (cut_from_top x.arena nb) (λ e. once e (record { at = top_start x.arena; size = nb })) said (moved (top_of x.arena.tiles) refl fits) (beside_cut x.arena nb)

top_steps : {O : Type 0} (l : Ledger O) (x : Stage O) (nb : ℕ) (said : List Said) → IsSound x.arena → IsChunkSize nb → Steps_balance l x said (topped nb x.arena)
top_steps l x nb said s chunk =
    let top : (b : Bool) → has_top_for x.arena nb ≡ b → Steps_balance l x said (cond b (search.Taken (record { at = top_start x.arena; size = nb }) (cut_from_top x.arena nb)) (search.Onward x.arena)) = elim [
      | true ↦ λ is. top_balances l x nb said s chunk is
      | false ↦ λ is. balances_here l x said s
    ] in
    top (has_top_for x.arena nb) refl

step_balances : {O : Type 0} (l : Ledger O) (x : Stage O) (nb : ℕ) (said : List Said) → IsSound x.arena → IsChunkSize nb → Steps_balance l x said (taken_behind_scan nb x.arena)
step_balances l x nb said s chunk =
    let cases : (o : Option Chunk) → chosen nb x.arena ≡ o → Steps_balance l x said (elim o [ None ↦ topped nb x.arena | Some c ↦ taken_from nb x.arena (Some c) ]) = elim [
      | None ↦ λ e. top_steps l x nb said s chunk
      | Some c ↦ λ e.
          let f : IsBestIn x.arena nb c = is_chosen nb x.arena c s chunk e in
          carve_balances l x c nb said s f.listed chunk f.fits
    ] in
    cases (chosen nb x.arena) refl

pub binned_balances : {O : Type 0} (l : Ledger O) (x : Stage O) (nb : ℕ) (said : List Said) (r : step_type.Step) (b : Plain) → IsSound x.arena → IsChunkSize nb → step_of r b ≡ taken_behind_scan nb x.arena → Balances l x no_chunk (chunks_taken r) (stage b x.outside said)
binned_balances l x nb said (steps.Taken c) b s chunk e = subst (Steps_balance l x said) (sym e) (step_balances l x nb said s chunk)
binned_balances l x nb said steps.Onward b s chunk e = subst (Steps_balance l x said) (sym e) (step_balances l x nb said s chunk)

-- the same of top alone
pub topped_balances : {O : Type 0} (l : Ledger O) (x : Stage O) (nb : ℕ) (said : List Said) (r : step_type.Step) (b : Plain) → IsSound x.arena → IsChunkSize nb → step_of r b ≡ topped nb x.arena → Balances l x no_chunk (chunks_taken r) (stage b x.outside said)
topped_balances l x nb said (steps.Taken c) b s chunk e = subst (Steps_balance l x said) (sym e) (top_steps l x nb said s chunk)
topped_balances l x nb said steps.Onward b s chunk e = subst (Steps_balance l x said) (sym e) (top_steps l x nb said s chunk)

-- where nothing was taken, top can't give so much
top_short : (nb : ℕ) (a b : Plain) → search.Onward b ≡ topped nb a → has_top_for b nb ≡ false
top_short nb a b e =
    let top : (h : Bool) → has_top_for a nb ≡ h → search.Onward b ≡ cond h (search.Taken (record { at = top_start a; size = nb }) (cut_from_top a nb)) (search.Onward a) → has_top_for b nb ≡ false = elim [
      | true ↦ λ is same. absurd (cc same)
      | false ↦ λ is same. let arena : b ≡ a = cc in ap (λ (p : Plain). has_top_for p nb) arena ∙ is
    ] in
    top (has_top_for a nb) refl e

pub onward_short : (nb : ℕ) (a b : Plain) → search.Onward b ≡ taken_behind_scan nb a → has_top_for b nb ≡ false
onward_short nb a b e =
    let cases : (o : Option Chunk) → search.Onward b ≡ (elim o [ None ↦ topped nb a | Some c ↦ taken_from nb a (Some c) ]) → has_top_for b nb ≡ false = elim [
      | None ↦ λ same. top_short nb a b same
      | Some c ↦ λ same. absurd (cc same)
    ] in
    cases (chosen nb a) e
