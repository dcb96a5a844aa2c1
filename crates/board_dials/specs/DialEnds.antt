-- The dials once one pass speaks for all (this project's own): what `close` leaves, and what the report reads.
use Rattle.std.specs.Prelude.{◌≡◌, ℕ, ◌+◌, ◌*◌, ◌≤◌, ◌⊎◌, None, List, [], ◌∷◌, slice_index}
use Rattle.chunk_tags.specs.declared.tunables.Tunables.{Tunables}
use Rattle.board_types.specs.Views.{DialsView, no_dials}
use Rattle.board_types.specs.Weights.{each}
use Rattle.board_types.specs.Trays.{Tray}
use Rattle.board_types.specs.Dials.{Counting, AreRead, AreRaises, IsIn, IsSetTo, as_mapped, as_mapped_bytes, full}

-- what dials see of a view that another took in
abbrev pub spent_counting : Counting
spent_counting = (record no_dials { windows = 0 }, None)

-- The counts are what the pass has mapped, with what lies in trays; the maxima stand between them and all that was ever mapped; a
-- threshold is at its start, or at a value that the pass lists; and what it lists as read is so too.
pub record AreFinal (t : Tunables) (trays : List Tray) (words : List ℕ) (v : DialsView) : Type 0 where
  pub mapped : slice_index words 2 ≡ v.mapped + each (full as_mapped) 0 trays
  pub bytes : slice_index words 3 ≡ v.bytes + each (full as_mapped_bytes) 0 trays
  pub most_mapped : (slice_index words 2 ≤ slice_index words 4) × (slice_index words 4 ≤ v.all_mapped)
  pub most_bytes : (slice_index words 3 ≤ slice_index words 5) × (slice_index words 5 ≤ v.all_bytes)
  pub mmap : (slice_index words 0 ≡ t.mmap_threshold) ⊎ (IsSetTo 0 (slice_index words 0) v.set ⊎ IsIn (slice_index words 0) v.raises)
  pub trim : (slice_index words 1 ≡ t.trim_threshold)
      ⊎ (IsSetTo 1 (slice_index words 1) v.set ⊎ ((m : ℕ) × (slice_index words 1 ≡ 2 * m) × IsIn m v.raises))
  pub raises : AreRaises t v.raises
  pub read : AreRead t ((v, None) ∷ []) v.read
