-- What is chosen from the bins is listed and fits.
use Rattle.std.proofs.Common.{◌≡◌, ℕ, ◌+◌, Bool, true, false, cond, List, [], ◌∷◌, drop, Option, Some, None, refl, ◌∙◌, subst}
use Rattle.std.specs.List.{AllByRecursion}
use Rattle.chunk_tags.specs.declared.tiles.Chunk.{Chunk}
use Rattle.chunk_tags.specs.Sizes.{IsChunkSize, is_small_size, large_index_of, bin_of}
use Rattle.chunk_tags.specs.BinOrder.{oldest_of, best_of}
use Rattle.arena_rules.specs.PlainArena.{Plain, IsSound, bin_at}
use Rattle.arena_rules.specs.Search.{first_oldest}
use Rattle.arena_rules.proofs.Carving.{IsBestIn, best_in_bin}
use Rattle.arena_rules.proofs.Sorting.{larger_fits}
use Rattle.arena_growth.specs.Steps.{chosen}

-- what holds of all chunks of a list holds of the last one
pub all_oldest : (P : Chunk → Type 0) (c : Chunk) (cs : List Chunk) → AllByRecursion P cs → oldest_of cs ≡ Some c → P c
all_oldest P c [] all e = absurd cc
all_oldest P c (d ∷ []) all e = let same : d ≡ c = cc in subst P same all.0
all_oldest P c (d ∷ f ∷ fs) all e = all_oldest P c (f ∷ fs) all.1 e

pub is_chosen : (nb : ℕ) (a : Plain) (c : Chunk) → IsSound a → IsChunkSize nb → chosen nb a ≡ Some c → IsBestIn a nb c
is_chosen nb a c s chunk e =
    let larger : Option Chunk = first_oldest (drop (bin_of nb + 1) a.bins) in
    let best : (o : Option Chunk) → best_of nb (bin_at a (large_index_of nb)) ≡ o → (elim o [ None ↦ larger | Some d ↦ Some d ]) ≡ Some c → IsBestIn a nb c = elim [
      | None ↦ λ is h. larger_fits a nb c s chunk h
      | Some d ↦ λ is h. best_in_bin a (large_index_of nb) nb c (is ∙ h)
    ] in
    let cases : (b : Bool) → cond b larger (elim (best_of nb (bin_at a (large_index_of nb))) [ None ↦ larger | Some d ↦ Some d ]) ≡ Some c → IsBestIn a nb c = elim [
      | true ↦ λ h. larger_fits a nb c s chunk h
      | false ↦ λ h. best (best_of nb (bin_at a (large_index_of nb))) refl h
    ] in
    cases (is_small_size nb) e
