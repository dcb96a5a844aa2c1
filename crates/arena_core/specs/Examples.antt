-- Words for worked examples (this project's own).
use Rattle.std.specs.Prelude.{ℕ, true, false, List, Option, Some, None}
use Rattle.chunk_tags.specs.Tunables.{serial_values}
use Rattle.chunk_tags.specs.declared.tunables.Tunables.{Tunables}
use Rattle.arena_rules.specs.PlainArena.{Plain, empty_main}
use Rattle.arena_rules.specs.Moves.{top_size}
use Rattle.arena_rules.specs.declared.said.Said.{Said}
use Rattle.arena_growth.specs.FirstHeap.{closed_arena}
use Rattle.arena_core.specs.declared.journal.Act.{Act}
use Rattle.arena_core.specs.declared.journal.Act.TheVariants.{Open, Take, Give, Resize, Align}
use Rattle.arena_core.specs.declared.journal.Ended.{Ended}
use Rattle.arena_core.specs.declared.journal.Ended.TheVariants.{Got, Done, Refused, Short}
use Rattle.arena_core.specs.Journal.{Recorded}
use Rattle.arena_core.specs.Replay.{replayed}

-- a hold of thread 0, in any line
abbrev pub holds : Act → List Said → Ended → Recorded
holds act said ended = record { who = record { thread = 0; line = 0 }; act = act; said = said; ended = ended }

-- one that took a chunk of the very size, at an address
abbrev pub takes_at : ℕ → List Said → ℕ → Recorded
takes_at nb said at = holds (Take nb) said (Got at nb false)

-- one that found a mapping of so many bytes, at an address
abbrev pub maps_at : ℕ → List Said → ℕ → ℕ → Recorded
maps_at nb said at size = holds (Take nb) said (Got at size true)

-- one that found nothing
abbrev pub finds_none : ℕ → List Said → Recorded
finds_none nb said = holds (Take nb) said Refused

-- one that opened another arena, for so many bytes
abbrev pub opens_for : ℕ → List Said → Recorded
opens_for bytes said = holds (Open bytes) said Done

-- one that was short of memory as it opened another arena
abbrev pub opens_short : ℕ → List Said → Recorded
opens_short bytes said = holds (Open bytes) said Short

-- one that gave a chunk back
abbrev pub gives_at : ℕ → ℕ → List Said → Recorded
gives_at at size said = holds (Give at size) said Done

-- one that resized a chunk to the very size, where it stood
abbrev pub resizes_at : ℕ → ℕ → ℕ → List Said → Recorded
resizes_at at size nb said = holds (Resize at size nb) said (Got at nb false)

-- one that took an aligned chunk of the very size, at an address
abbrev pub aligns_at : ℕ → ℕ → List Said → ℕ → Recorded
aligns_at align nb said at = holds (Align align nb) said (Got at nb false)

-- one that found a mapping for an aligned chunk, and has this block in it
abbrev pub aligns_mapped : ℕ → ℕ → List Said → ℕ → ℕ → Recorded
aligns_mapped align nb said at size = holds (Align align nb) said (Got at size true)

-- main behind these holds
abbrev pub main_after : List Recorded → Option Plain
main_after es = replayed serial_values (Some empty_main) es

-- the last remainder then
abbrev pub last_after : List Recorded → Option (Option ℕ)
last_after es = elim (main_after es) [ None ↦ None | Some a ↦ Some a.last ]

-- the bytes from the system, the most that there were, and those of top
abbrev pub bytes_of : Option Plain → Option (ℕ × ℕ × ℕ)
bytes_of o = elim o [ None ↦ None | Some a ↦ Some (a.system, a.most, top_size a) ]

abbrev pub bytes_after : List Recorded → Option (ℕ × ℕ × ℕ)
bytes_after es = bytes_of (main_after es)

-- no pad, and so many windows of this length for heaps
abbrev pub with_windows : ℕ → ℕ → Tunables
with_windows heap_max heaps = record serial_values { top_pad = 0; heap_max = heap_max; heaps = heaps }

-- the same of arena 1, which the first hold opens
abbrev pub bytes_of_other : Tunables → List Recorded → Option (ℕ × ℕ × ℕ)
bytes_of_other t es = bytes_of (replayed t (Some (closed_arena t 1)) es)
