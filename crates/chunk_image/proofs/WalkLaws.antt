-- The tiles, read one after another.
use Rattle.std.proofs.Common.{◌≡◌, ℕ, ◌+◌, ◌^◌, ◌<◌, ◌≤◌, max, ◌++◌, sym, ap, ◌∙◌, inl, inr, arith}
use Rattle.std.proofs.lemmas.Bool.{cases_lt}
use Rattle.chunk_tags.specs.Tiles.{Row}
use Rattle.part_words.specs.Extents.{IsOpen}
use Rattle.part_words.specs.Parts.{Parts, extent_of}
use Rattle.chunk_image.specs.declared.heads.Head.{Head}
use Rattle.chunk_image.specs.Heads.{head_at, tiles_with, tiles_of, IsKept}
use Rattle.chunk_image.proofs.Rows.{apart}
use Rattle.chunk_image.proofs.ScanLaws.{tiles_below, tiles_below-gap, tiles_below-more, tiles_below-end}
use Rattle.chunk_image.proofs.TileLaws.{begins_with, IsOpen-begin}

-- no tile begins where there is no word
closed : (heads : Parts Head) (feet : Parts ℕ) (b : ℕ) → IsKept heads feet → (IsOpen (extent_of heads) b → ⊥) → (head_at heads b).size ≡ 0
closed heads feet b kept no_word =
    elim (cases_lt 0 (head_at heads b).size) [
      | inl some ↦ absurd (no_word (IsOpen-begin heads _ (begins_with heads feet b kept some)))
      | inr none ↦ omega (arith, none)
    ]

-- nor within a tile
within : (heads : Parts Head) (feet : Parts ℕ) (a b : ℕ) → IsKept heads feet → Row (tiles_of heads) → 0 < (head_at heads a).size → a < b → b < a + (head_at heads a).size → (head_at heads b).size ≡ 0
within heads feet a b kept row tile past before =
    elim (cases_lt 0 (head_at heads b).size) [
      | inl some ↦ absurd (omega (arith, before, apart a b (tiles_of heads) _ _ row (begins_with heads feet a kept tile).found (begins_with heads feet b kept some).found past))
      | inr none ↦ omega (arith, none)
    ]

-- the next word that is open is read
pub walked_on : (heads : Parts Head) (feet : Parts ℕ) (from at : ℕ) → IsKept heads feet → Row (tiles_of heads) → from ≤ at → ((b : ℕ) → from ≤ b → b < at → IsOpen (extent_of heads) b → ⊥) → tiles_below heads (at + max (head_at heads at).size 1) ≡ tiles_below heads from ++ tiles_with at (head_at heads at)
walked_on heads feet from at kept row le none =
    let size = (head_at heads at).size in
    tiles_below-gap heads (at + 1) (at + max size 1) (omega arith) (λ c past before. within heads feet at c kept row (omega (arith, past, before)) (omega (arith, past)) (omega (arith, past, before)))
    ∙ (tiles_below-more heads at ∙ ap (λ ts. ts ++ tiles_with at (head_at heads at)) (tiles_below-gap heads from at le (λ c past before. closed heads feet c kept (none c past before))))

-- no word is left
pub walked_off : (heads : Parts Head) (feet : Parts ℕ) (from : ℕ) → IsKept heads feet → from ≤ 2 ^ 64 → ((b : ℕ) → from ≤ b → b < 2 ^ 64 → IsOpen (extent_of heads) b → ⊥) → tiles_below heads from ≡ tiles_of heads
walked_off heads feet from kept le none =
    sym (tiles_below-gap heads from (2 ^ 64) le (λ c past before. closed heads feet c kept (none c past before))) ∙ tiles_below-end heads

-- no address is left
pub walked_out : (heads : Parts Head) (feet : Parts ℕ) (n : ℕ) → IsKept heads feet → 2 ^ 64 ≤ n → tiles_below heads n ≡ tiles_of heads
walked_out heads feet n kept le =
    tiles_below-gap heads (2 ^ 64) n le (λ c past _. elim (cases_lt 0 (head_at heads c).size) [
      | inl some ↦ absurd (omega (arith, past, (kept.room c some).end))
      | inr none ↦ omega (arith, none)
    ]) ∙ tiles_below-end heads
