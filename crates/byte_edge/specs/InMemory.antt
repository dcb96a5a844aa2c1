-- Sources and sinks in memory, and when their calls fail (this project's own).
use Rattle.std.specs.Prelude.{ℕ, min, ◌-◌, ◌==◌, Bool, ◌||◌, nat_eq, List, length, if◌then◌else◌}
use Rattle.std.specs.List.{list_any}
use Rattle.address_space.specs.Ports.{counted}
use Rattle.byte_edge.specs.declared.streams.Fetch.{Fetch}
use Rattle.byte_edge.specs.declared.streams.Fetch.TheVariants as fetches
use Rattle.byte_edge.specs.declared.streams.Put.{Put}
use Rattle.byte_edge.specs.declared.streams.Put.TheVariants.{Took, Failed}
use Rattle.byte_edge.specs.declared.streams.Flush.{Flush}
use Rattle.byte_edge.specs.declared.streams.Flush.TheVariants as flushes

-- the calls of an object, counted from 1: the numbers of those that are to fail, the calls so far, and the faults
pub record Plan : Type 0 where
  pub fail_at : List ℕ
  pub calls : ℕ
  pub faults : ℕ

-- before the first call
abbrev pub new_plan : List ℕ → Plan
new_plan fail_at = record { fail_at = fail_at; calls = 0; faults = 0 }

-- whether the next call is to fail
abbrev pub is_due : Plan → Bool
is_due plan = list_any (nat_eq (counted plan.calls)) plan.fail_at

-- behind one call more, which failed or didn't
abbrev pub called : Bool → Plan → Plan
called fails plan = record plan { calls = counted plan.calls; faults = if fails then counted plan.faults else plan.faults }

-- ---- sources

-- a source in memory: the bytes that are left, and its calls
pub record Reader : Type 0 where
  pub left : List ℕ
  pub plan : Plan

-- what a read gives of so many bytes that are left, where the room is so long: as many as it holds
abbrev pub fetched_of : ℕ → ℕ → Fetch
fetched_of room left = if min room left == 0 then fetches.End else fetches.Got (min room left)

-- what a read of a source in memory answers
abbrev pub fetched : Reader → ℕ → Fetch
fetched reader room = if is_due reader.plan then fetches.Failed else fetched_of room (length reader.left)

-- ---- sinks

-- a sink in memory: the bytes written, how many of them stood before the last flush, how many it keeps at most, and
-- its calls
pub record Keeper : Type 0 where
  pub bytes : List ℕ
  pub flushed : ℕ
  pub room : ℕ
  pub plan : Plan

-- how many of some bytes a write has room for
abbrev pub taken_count : Keeper → List ℕ → ℕ
taken_count keeper from = min (length from) (keeper.room - length keeper.bytes)

-- whether a write fails: its call is to fail, or the room is used up
abbrev pub is_refused : Keeper → List ℕ → Bool
is_refused keeper from = is_due keeper.plan || taken_count keeper from == 0

-- what a write of some bytes answers
abbrev pub put_of : Keeper → List ℕ → Put
put_of keeper from = if is_refused keeper from then Failed else Took (taken_count keeper from)

-- what a flush answers
abbrev pub flush_of : Keeper → Flush
flush_of keeper = if is_due keeper.plan then flushes.Failed else flushes.Done
