-- Sources and sinks, as contracts see them (this project's own).
use Rattle.std.specs.Prelude.{◌≡◌, ℕ, ◌<◌, ◌≤◌, List, [], ◌++◌, length, take, drop, Option, Some}
use Rattle.address_space.specs.Ports.{Rose}
use Rattle.byte_edge.specs.declared.streams.Fetch.{Fetch}
use Rattle.byte_edge.specs.declared.streams.Fetch.TheVariants as fetches
use Rattle.byte_edge.specs.declared.streams.Put.{Put}
use Rattle.byte_edge.specs.declared.streams.Put.TheVariants as puts
use Rattle.byte_edge.specs.declared.streams.Flush.{Flush}
use Rattle.byte_edge.specs.declared.streams.Flush.TheVariants as flushes

-- ---- sources

-- what is seen of a source: the bytes that are left, where it tells them, and its count of faults
pub record Supply (S : Type 0) : Type 0 where
  pub left : S → Option (List ℕ)
  pub faults : S → ℕ

-- n bytes came from the front of those that were left, and no fault was counted
pub record Takes {S : Type 0} (supply : Supply S) (before : S) (room : List ℕ) (n : ℕ) (now : S) : Type 0 where
  pub some : 0 < n
  pub fits : n ≤ length room
  pub unfaulted : supply.faults now ≡ supply.faults before
  pub told : (bytes : List ℕ) → supply.left before ≡ Some bytes → (n ≤ length bytes) × (take n room ≡ take n bytes) × (supply.left now ≡ Some (drop n bytes))

-- no byte was left, and no fault was counted
pub record IsAtEnd {S : Type 0} (supply : Supply S) (before now : S) : Type 0 where
  pub unfaulted : supply.faults now ≡ supply.faults before
  pub told : (bytes : List ℕ) → supply.left before ≡ Some bytes → (bytes ≡ []) × (supply.left now ≡ Some [])

-- a fault was counted, and nothing was read
pub record FailsToRead {S : Type 0} (supply : Supply S) (before now : S) : Type 0 where
  pub later : supply.faults before ≤ supply.faults now
  pub rose : Rose (supply.faults before) (supply.faults now)
  pub told : (bytes : List ℕ) → supply.left before ≡ Some bytes → supply.left now ≡ Some bytes

-- the last read failed, and none before it
pub record EndsInFailedRead {S : Type 0} (supply : Supply S) (before now : S) : Type 0 where
  pub failing : S
  pub unfaulted : supply.faults failing ≡ supply.faults before
  pub fails : FailsToRead supply failing now

-- one read
abbrev pub Fetches : {S : Type 0} → Supply S → S → List ℕ → Fetch → S → Type 0
Fetches supply before room (fetches.Got n) now = Takes supply before room n now
Fetches supply before room fetches.End now = IsAtEnd supply before now
Fetches supply before room fetches.Failed now = FailsToRead supply before now

-- ---- sinks

-- the bytes written, and how many of them stood before the last flush that was done
pub record Written : Type 0 where
  pub bytes : List ℕ
  pub flushed : ℕ

-- what is seen of a sink: what was written, where it tells that, and its count of faults
pub record Store (S : Type 0) : Type 0 where
  pub written : S → Option Written
  pub faults : S → ℕ

-- n bytes went behind those that were written, and no fault was counted
pub record Adds {S : Type 0} (store : Store S) (before : S) (from : List ℕ) (n : ℕ) (now : S) : Type 0 where
  pub some : 0 < n
  pub fits : n ≤ length from
  pub unfaulted : store.faults now ≡ store.faults before
  pub told : (w : Written) → store.written before ≡ Some w → store.written now ≡ Some (record w { bytes = w.bytes ++ take n from })

-- a fault was counted, and nothing was written
pub record FailsAlone {S : Type 0} (store : Store S) (before now : S) : Type 0 where
  pub later : store.faults before ≤ store.faults now
  pub rose : Rose (store.faults before) (store.faults now)
  pub told : (w : Written) → store.written before ≡ Some w → store.written now ≡ Some w

-- the last call failed, and none before it
pub record EndsInFailedCall {S : Type 0} (store : Store S) (before now : S) : Type 0 where
  pub failing : S
  pub unfaulted : store.faults failing ≡ store.faults before
  pub fails : FailsAlone store failing now

-- one write
abbrev pub Writes : {S : Type 0} → Store S → S → List ℕ → Put → S → Type 0
Writes store before from (puts.Took n) now = Adds store before from n now
Writes store before from puts.Failed now = FailsAlone store before now

-- all that was written is flushed, and no fault was counted
pub record IsFlushed {S : Type 0} (store : Store S) (before now : S) : Type 0 where
  pub unfaulted : store.faults now ≡ store.faults before
  pub told : (w : Written) → store.written before ≡ Some w → store.written now ≡ Some (record w { flushed = length w.bytes })

-- one flush
abbrev pub Flushes : {S : Type 0} → Store S → S → Flush → S → Type 0
Flushes store before flushes.Done now = IsFlushed store before now
Flushes store before flushes.Failed now = FailsAlone store before now
