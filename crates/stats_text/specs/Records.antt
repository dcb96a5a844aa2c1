-- The record lines: a line of the trace, ` -> `, the answer, and a newline (this project's own).
use Rattle.std.specs.Prelude.{ℕ, zero, suc, Bool, true, false, Option, Some, None, List, [], ◌++◌, codes, decimal, if◌then◌else◌}
use Rattle.stats_text.specs.declared.records.Outcome.{Outcome}
use Rattle.stats_text.specs.declared.records.Outcome.TheVariants.{Got, Kept, Moved, Null, Freed, Posted, Taken, Missed, Skip, Ended}
use Rattle.stats_text.specs.declared.records.Source3.{Source3}
use Rattle.stats_text.specs.declared.records.Source3.TheVariants as sources
use Rattle.stats_text.specs.declared.records.Sink3.{Sink3}
use Rattle.stats_text.specs.declared.records.Sink3.TheVariants as sinks
use Rattle.stats_text.specs.Words.{block_text}

-- where the hold stands in its arena's journal; only a report of threads shows it
unfoldable pub hold_text : Bool → ℕ → List ℕ
hold_text threads hold = if threads then codes " hold " ++ decimal hold else []

-- where a block came from
unfoldable pub source_text : Source3 → Bool → List ℕ
source_text sources.Cached threads = codes "cached"
source_text (sources.Arena a hold) threads = codes "arena " ++ decimal a ++ hold_text threads hold
source_text sources.Mapped threads = codes "mapped"

-- where a freed block went
unfoldable pub sink_text : Sink3 → Bool → List ℕ
sink_text sinks.Cached threads = codes "cached"
sink_text (sinks.Fast a bin) threads = codes "fast " ++ decimal a ++ codes " " ++ decimal bin
sink_text (sinks.Binned a hold) threads = codes "binned " ++ decimal a ++ hold_text threads hold
sink_text sinks.Unmapped threads = codes "unmapped"

-- a block that was freed, by free or by realloc to size 0
unfoldable pub freed_text : Sink3 → Bool → Bool → List ℕ
freed_text to false threads = sink_text to threads
freed_text to true threads = codes "freed " ++ sink_text to threads

-- the hold of a block that was kept; there is none in a mapping
unfoldable pub kept_hold : Option ℕ → Bool → List ℕ
kept_hold None threads = []
kept_hold (Some hold) threads = hold_text threads hold

-- why there is no block: 0 a size that is too big, 1 no alignment, else the system refused
unfoldable pub null_word_of : ℕ → List ℕ
null_word_of zero = codes "big"
null_word_of (suc zero) = codes "align"
null_word_of (suc (suc why)) = codes "refused"

-- what the tray showed: 0 nothing posted, else a post that was begun
unfoldable pub missed_word_of : ℕ → List ℕ
missed_word_of zero = codes "empty"
missed_word_of (suc seen) = codes "claimed"

-- the answer of a line
unfoldable pub answer_text : Outcome → Bool → List ℕ
answer_text (Got addr size from) threads = block_text addr size ++ codes " " ++ source_text from threads
answer_text (Kept addr size hold) threads = block_text addr size ++ codes " kept" ++ kept_hold hold threads
answer_text (Moved addr size from) threads = block_text addr size ++ codes " moved " ++ source_text from threads
answer_text (Null why) threads = codes "null " ++ null_word_of why
answer_text (Freed to by_realloc) threads = freed_text to by_realloc threads
answer_text Posted threads = codes "posted"
answer_text (Taken addr size) threads = codes "taken " ++ block_text addr size
answer_text (Missed seen) threads = codes "missed " ++ missed_word_of seen
answer_text Skip threads = codes "skip"
answer_text Ended threads = codes "ended"

-- a record: the line and its answer
unfoldable pub record_text : List ℕ → Outcome → Bool → List ℕ
record_text line said threads = line ++ codes " -> " ++ answer_text said threads ++ codes "\n"
