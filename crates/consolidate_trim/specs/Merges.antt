-- What merging a chunk gives: glibc 2.31 malloc/malloc.c, _int_free.
use Rattle.std.specs.Prelude.{ℕ, true, false}
use Rattle.arena_rules.specs.PlainArena.{Plain}
use Rattle.arena_rules.specs.Release.{Merging}
use Rattle.consolidate_trim.specs.declared.merging.Merged.{Merged}
use Rattle.consolidate_trim.specs.declared.merging.Merged.TheVariants.{Unsorted, Top}

abbrev pub size_merged : Merged → ℕ
size_merged (Unsorted size) = size
size_merged (Top size) = size

-- the merging that ended with this, and with this arena
abbrev pub merging_of : Merged → Plain → Merging
merging_of (Unsorted size) a = record { arena = a; size = size; in_top = false }
merging_of (Top size) a = record { arena = a; size = size; in_top = true }
