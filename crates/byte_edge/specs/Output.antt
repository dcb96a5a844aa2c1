-- What writing a whole text answers (this project's own).
use Rattle.std.specs.Prelude.{◌≡◌, ℕ, List, ◌++◌, length, take, Some}
use Rattle.address_space.specs.Ports.{Rose}
use Rattle.byte_edge.specs.declared.writing.Writing.{Writing}
use Rattle.byte_edge.specs.declared.writing.Writing.TheVariants.{Whole, CutShort}
use Rattle.byte_edge.specs.Streams.{Written, Store, EndsInFailedCall}

-- the text stands behind what was written before, and all of it is flushed, where the sink tells what it has
abbrev pub HasText : {S : Type 0} → Store S → S → List ℕ → S → Type 0
HasText store before text now = (w : Written) → store.written before ≡ Some w → store.written now ≡ Some (record { bytes = w.bytes ++ text; flushed = length (w.bytes ++ text) })

-- a prefix of the text stands behind what was written before
abbrev pub HasPrefix : {S : Type 0} → Store S → S → List ℕ → S → Type 0
HasPrefix store before text now = (w : Written) → store.written before ≡ Some w → (n : ℕ) × (store.written now ≡ Some (record w { bytes = w.bytes ++ take n text }))

-- the whole text was written; no fault was counted
pub record IsWritten {S : Type 0} (store : Store S) (before : S) (text : List ℕ) (now : S) : Type 0 where
  pub unfaulted : store.faults now ≡ store.faults before
  pub told : HasText store before text now

-- a fault was counted, nothing was asked behind it, and a prefix of the text was written
pub record IsCutShort {S : Type 0} (store : Store S) (before : S) (text : List ℕ) (now : S) : Type 0 where
  pub rose : Rose (store.faults before) (store.faults now)
  pub last : EndsInFailedCall store before now
  pub told : HasPrefix store before text now

-- what writing a text leaves
abbrev pub WritesText : {S : Type 0} → Store S → S → List ℕ → Writing → S → Type 0
WritesText store before text Whole now = IsWritten store before text now
WritesText store before text CutShort now = IsCutShort store before text now
