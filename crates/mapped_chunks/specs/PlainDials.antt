-- The words beside the arenas for one order of calls: mp_ of glibc 2.31 malloc/malloc.c.
use Rattle.std.specs.Prelude.{◌≡◌, ℕ, ◌+◌, ◌-◌, ◌*◌, ◌^◌, ◌<◌, ◌≤◌, max}
use Rattle.chunk_tags.specs.Dials.{MmapThreshold, TrimThreshold, MappedCount}
use Rattle.mapped_chunks.specs.declared.plain.DialState.{DialState}
use Rattle.mapped_chunks.specs.declared.plain.PlainDials.{PlainDials}
use Rattle.mapped_chunks.specs.DialPorts.{DialStep, Reads, Raises, Maps, Unmaps, Remaps, Dialled}
use Rattle.mapped_chunks.specs.Mappings.{MayRaise}

-- the answer of a step is the word that is read
abbrev pub DialTells : DialState → DialStep → Type 0
DialTells d (Reads MmapThreshold n) = n ≡ d.mmap_threshold
DialTells d (Reads TrimThreshold n) = n ≡ d.trim_threshold
DialTells d (Reads MappedCount n) = n ≡ d.mapped
DialTells d (Raises size) = Unit {0}
DialTells d (Maps len) = Unit {0}
DialTells d (Unmaps len) = Unit {0}
DialTells d (Remaps old_len new_len) = Unit {0}

-- the words with other bytes, whose maximum may rise
abbrev pub with_bytes : ℕ → DialState → DialState
with_bytes bytes d = record d { bytes = bytes; max_bytes = max d.max_bytes bytes }

-- the words after a step
abbrev pub after_dial_step : DialStep → DialState → DialState
after_dial_step (Reads which n) d = d
after_dial_step (Raises size) d = record d { mmap_threshold = size; trim_threshold = 2 * size }
after_dial_step (Maps len) d = record (with_bytes (d.bytes + len) d) { mapped = d.mapped + 1; max_mapped = max d.max_mapped (d.mapped + 1) }
after_dial_step (Unmaps len) d = record d { mapped = d.mapped - 1; bytes = d.bytes - len }
after_dial_step (Remaps old_len new_len) d = with_bytes (d.bytes - old_len + new_len) d

-- a mapping may be counted, no count passing 64 bits
pub record MayMap (d : DialState) (len : ℕ) : Type 0 where
  pub count : d.mapped + 1 < 2 ^ 64
  pub bytes : d.bytes + len < 2 ^ 64

-- a mapping of so many bytes was counted
pub record MayUnmap (d : DialState) (len : ℕ) : Type 0 where
  pub count : 0 < d.mapped
  pub bytes : len ≤ d.bytes

pub record MayRemap (d : DialState) (old_len new_len : ℕ) : Type 0 where
  pub counted : old_len ≤ d.bytes
  pub bytes : d.bytes - old_len + new_len < 2 ^ 64

-- the steps that the words allow
abbrev pub Allows : DialState → DialStep → Type 0
Allows d (Reads which n) = Unit {0}
Allows d (Raises size) = MayRaise d.mmap_threshold size
Allows d (Maps len) = MayMap d len
Allows d (Unmaps len) = MayUnmap d len
Allows d (Remaps old_len new_len) = MayRemap d old_len new_len

-- what these words are as a port: they tell each answer, and what they are after each step
abbrev pub plain_dials : Dialled PlainDials
plain_dials = record {
  step = λ p s q. DialTells p.state s × (q ≡ record { state = after_dial_step s p.state });
  allows = λ p s. Allows p.state s;
}
