-- Readers and writers of std as sources and sinks (this project's own). A call says what it took of, or gave to, the
-- bytes that std's reader or writer tells; a reader or a writer that tells none leaves these clauses empty.
use Rattle.std.specs.Prelude.{ℕ, List, [], take, Option}
use Rattle.std.specs.Io.KnownBytes.{Keeps, Appends, Consumes, IsAtEnd}
use Rattle.byte_edge.specs.declared.streams.Fetch.{Fetch}
use Rattle.byte_edge.specs.declared.streams.Fetch.TheVariants as fetches
use Rattle.byte_edge.specs.declared.streams.Put.{Put}
use Rattle.byte_edge.specs.declared.streams.Put.TheVariants as puts

-- a reader or a writer of std, and the faults that were counted
pub record Wrapped (X : Type 0) : Type 0 where
  pub inner : X
  pub faults : ℕ

-- what one read took of the bytes that are left: those that it gave; at the end none is left
abbrev pub ReadsFrom : Option (List ℕ) → List ℕ → Fetch → Option (List ℕ) → Type 0
ReadsFrom before room (fetches.Got n) now = Consumes before now (take n room)
ReadsFrom before room fetches.End now = Keeps before now × IsAtEnd now
ReadsFrom before room fetches.Failed now = Keeps before now

-- what one write gave to the bytes that are there: those that it took
abbrev pub WritesTo : Option (List ℕ) → List ℕ → Put → Option (List ℕ) → Type 0
WritesTo before from (puts.Took n) now = Appends before now (take n from)
WritesTo before from puts.Failed now = Keeps before now
