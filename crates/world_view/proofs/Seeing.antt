-- What is seen of chunks, one after another, is where each is found and the mapped ones by address.
use Rattle.std.proofs.Common.{◌≡◌, ℕ, Bool, true, false, cond, List, [], ◌∷◌, map, filter, fold, refl, sym, ap, ◌∙◌}
use Rattle.std.specs.Map.{values_of}
use Rattle.std.proofs.lemmas.List.Sums.{fold-append}
use Rattle.chunk_tags.specs.declared.block.Block.{Block}
use Rattle.own_blocks.specs.declared.own.Own.{Own}
use Rattle.world_view.specs.declared.finds.Find.{Find}
use Rattle.world_view.specs.Places.{threads_finds, tray_find, finds_of, put_found, put_tile, finds_found, found_by_address, mapped_finds, by_address}
use Rattle.world_view.specs.Sights.{Seen, nothing_seen, put_seen}

found_behind_seen : (s : Seen) (fs : List Find) → (fold put_seen s fs).found ≡ fold put_found s.found (finds_found fs)
found_behind_seen s [] = refl
found_behind_seen s (f ∷ fs) = found_behind_seen (put_seen s f) fs

mapped_behind_seen : (s : Seen) (fs : List Find) → (fold put_seen s fs).mapped ≡ fold put_tile s.mapped (mapped_finds fs)
mapped_behind_seen s [] = refl
mapped_behind_seen s (f ∷ fs) =
    let later : List Find = filter (λ g. g.mapped) fs in
    let cases : (mapped : Bool) → fold put_tile (cond mapped (put_tile s.mapped f.tile) s.mapped) (map (λ g. g.tile) later) ≡ fold put_tile s.mapped (map (λ g. g.tile) (cond mapped (f ∷ later) later)) = elim [
      | true ↦ refl
      | false ↦ refl
    ] in
    mapped_behind_seen (put_seen s f) fs ∙ cases f.mapped

-- the blocks of threads, and then those in trays
all_seen : (s t : Seen) (owns : List Own) (trays : List (ℕ × Block)) → s ≡ fold put_seen nothing_seen (threads_finds 0 owns) → t ≡ fold put_seen s (map tray_find trays) →
    t ≡ fold put_seen nothing_seen (finds_of owns trays)
unfolding finds_of
all_seen s t owns trays threads rest =
    rest ∙ ap (λ x. fold put_seen x (map tray_find trays)) threads ∙ sym (fold-append put_seen nothing_seen (threads_finds 0 owns) (map tray_find trays))

pub places_seen : (s t : Seen) (owns : List Own) (trays : List (ℕ × Block)) → s ≡ fold put_seen nothing_seen (threads_finds 0 owns) → t ≡ fold put_seen s (map tray_find trays) →
    t.found ≡ found_by_address (finds_found (finds_of owns trays))
unfolding found_by_address
places_seen s t owns trays threads rest = ap (λ x. x.found) (all_seen s t owns trays threads rest) ∙ found_behind_seen nothing_seen (finds_of owns trays)

pub mapped_seen : (s t : Seen) (owns : List Own) (trays : List (ℕ × Block)) → s ≡ fold put_seen nothing_seen (threads_finds 0 owns) → t ≡ fold put_seen s (map tray_find trays) →
    values_of t.mapped ≡ by_address (mapped_finds (finds_of owns trays))
unfolding by_address
mapped_seen s t owns trays threads rest = ap (λ x. values_of x.mapped) (all_seen s t owns trays threads rest) ∙ ap values_of (mapped_behind_seen nothing_seen (finds_of owns trays))
