-- What the main arena's ranges, its break and its pieces, grow by (this project's own).
use Rattle.std.specs.Prelude.{◌≡◌, ℕ, ◌+◌, ◌%◌, ◌<◌, ◌≤◌}
use Rattle.part_words.specs.Extents.{Extent, AreOpen}

-- a new range of whole pages that has words, and ends at a limit at most
pub record IsNewRange (e : Extent) (at size limit : ℕ) : Type 0 where
  pub words : AreOpen e at size
  pub some : 0 < size
  pub pages : size % 4096 ≡ 0
  pub window : at + size ≤ limit
