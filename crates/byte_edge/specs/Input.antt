-- What reading the input to its end answers (this project's own).
use Rattle.std.specs.Prelude.{◌≡◌, ℕ, ◌<◌, ◌≤◌, ◌+◌, List, [], length, drop, Some}
use Rattle.address_space.specs.Ports.{Rose}
use Rattle.byte_edge.specs.declared.reading.Unread.{Unread}
use Rattle.byte_edge.specs.declared.reading.Unread.TheVariants.{CutOff, TooLong, NoMemory}
use Rattle.byte_edge.specs.Streams.{Supply, EndsInFailedRead}

-- the most bytes that an input may have
abbrev pub max_input : ℕ
max_input = 67108864

-- the bytes that a read asks for
abbrev pub read_room : ℕ
read_room = 65536

-- the bytes are all that were left, not too many, and the end was seen; no fault was counted
pub record IsWhole {S : Type 0} (supply : Supply S) (before now : S) (read : List ℕ) : Type 0 where
  pub unfaulted : supply.faults now ≡ supply.faults before
  pub told : (bytes : List ℕ) → supply.left before ≡ Some bytes → (read ≡ bytes) × (length bytes ≤ max_input) × (supply.left now ≡ Some [])

-- more bytes came than an input may have, by one read at most; no fault was counted
pub record IsTooMuch {S : Type 0} (supply : Supply S) (before now : S) : Type 0 where
  pub unfaulted : supply.faults now ≡ supply.faults before
  pub told : (bytes : List ℕ) → supply.left before ≡ Some bytes → (n : ℕ) × (max_input < n) × (n ≤ max_input + read_room) × (n ≤ length bytes) × (supply.left now ≡ Some (drop n bytes))

-- a fault was counted, before a byte too many came, and nothing was read behind it
pub record IsCutOff {S : Type 0} (supply : Supply S) (before now : S) : Type 0 where
  pub rose : Rose (supply.faults before) (supply.faults now)
  pub last : EndsInFailedRead supply before now
  pub told : (bytes : List ℕ) → supply.left before ≡ Some bytes → (n : ℕ) × (n ≤ max_input) × (n ≤ length bytes) × (supply.left now ≡ Some (drop n bytes))

-- why an input wasn't read whole; for want of memory no fault was counted
abbrev pub ReadFails : {S : Type 0} → Supply S → S → S → Unread → Type 0
ReadFails supply before now CutOff = IsCutOff supply before now
ReadFails supply before now TooLong = IsTooMuch supply before now
ReadFails supply before now NoMemory = supply.faults now ≡ supply.faults before
