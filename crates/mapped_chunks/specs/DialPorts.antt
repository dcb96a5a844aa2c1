-- Ports to the words beside the arenas, as contracts see them (this project's own form). The words are mp_.mmap_threshold,
-- mp_.trim_threshold, and the count of mappings, their bytes and the maxima of both, of glibc 2.31 malloc/malloc.c.
use Rattle.std.specs.Prelude.{ℕ}
use Rattle.chunk_tags.specs.Dials.{Dial}

-- What is done at a port, with its answer: a word is read; the thresholds are raised to a size and to twice that; a mapping
-- of so many bytes is counted, is counted no more, or has another length.
pub data DialStep : Type 0 where
  Reads : Dial → ℕ → DialStep
  Raises : ℕ → DialStep
  Maps : ℕ → DialStep
  Unmaps : ℕ → DialStep
  Remaps : ℕ → ℕ → DialStep

-- What a port is: what each step makes of it, and which steps it allows.
pub record Dialled (P : Type 0) : Type 1 where
  pub step : P → DialStep → P → Type 0
  pub allows : P → DialStep → Type 0
