-- What a reply is in a report (this project's own).
use Rattle.std.specs.Prelude.{ℕ, Bool, true, false, List, map, Option, Some, None, if◌then◌else◌}
use Rattle.std.specs.List.{flat_map}
use Rattle.own_blocks.specs.declared.reply.Reply.{Reply}
use Rattle.own_blocks.specs.declared.reply.Reply.TheVariants.{Got, Kept, Null, Freed, NotYours, Posted, Taken, Missed, Ended}
use Rattle.own_blocks.specs.declared.reply.Origin.{Origin}
use Rattle.own_blocks.specs.declared.reply.Origin.TheVariants as origins
use Rattle.own_blocks.specs.declared.reply.To.{To}
use Rattle.own_blocks.specs.declared.reply.To.TheVariants as tos
use Rattle.own_blocks.specs.declared.reply.Why.{Why}
use Rattle.own_blocks.specs.declared.reply.Why.TheVariants as whys
use Rattle.stats_text.specs.declared.records.Outcome.{Outcome}
use Rattle.stats_text.specs.declared.records.Outcome.TheVariants as outcomes
use Rattle.stats_text.specs.declared.records.Source3.{Source3}
use Rattle.stats_text.specs.declared.records.Source3.TheVariants as sources
use Rattle.stats_text.specs.declared.records.Sink3.{Sink3}
use Rattle.stats_text.specs.declared.records.Sink3.TheVariants as sinks
use Rattle.stats_text.specs.Records.{record_text}
use Rattle.trace_text.specs.declared.trace.Call.{Call}
use Rattle.trace_text.specs.declared.trace.Call.TheVariants as calls
use Rattle.trace_text.specs.declared.trace.Line.{Line}
use Rattle.trace_text.specs.Spelling.{spelling_of}

-- where a block came from
abbrev pub source_of : Origin → Source3
source_of origins.Cached = sources.Cached
source_of (origins.Arena a hold) = sources.Arena a hold
source_of origins.Mapped = sources.Mapped

-- where a freed block went
abbrev pub sink_of : To → Sink3
sink_of tos.Cached = sinks.Cached
sink_of (tos.Fast a bin) = sinks.Fast a bin
sink_of (tos.Binned a hold) = sinks.Binned a hold
sink_of tos.Unmapped = sinks.Unmapped

-- the number of a cause in a report
abbrev pub null_of : Why → ℕ
null_of whys.Big = 0
null_of whys.Align = 1
null_of whys.Refused = 2

-- the hold that left a block where it was; there is none for a mapping
abbrev pub hold_shown : Origin → Option ℕ
hold_shown origins.Cached = None
hold_shown (origins.Arena a hold) = Some hold
hold_shown origins.Mapped = None

-- whether a call is realloc
abbrev pub is_realloc : Call → Bool
is_realloc (calls.Realloc name size) = true
is_realloc _ = false

-- a block that is got by realloc has moved
abbrev pub got_outcome : Bool → ℕ → ℕ → Source3 → Outcome
got_outcome realloc addr size from = if realloc then outcomes.Moved addr size from else outcomes.Got addr size from

-- the answer of a reply to a call; a name that holds nothing was skipped
abbrev pub outcome_of : Call → Reply → Outcome
outcome_of call (Got addr size from) = got_outcome (is_realloc call) addr size (source_of from)
outcome_of call (Kept addr size from) = outcomes.Kept addr size (hold_shown from)
outcome_of call (Null why) = outcomes.Null (null_of why)
outcome_of call (Freed to) = outcomes.Freed (sink_of to) (is_realloc call)
outcome_of call NotYours = outcomes.Skip
outcome_of call Posted = outcomes.Posted
outcome_of call (Taken addr size) = outcomes.Taken addr size
outcome_of call (Missed seen) = outcomes.Missed seen
outcome_of call Ended = outcomes.Ended

-- the answers to lines
abbrev pub outcomes_of : List (Line × Reply) → List Outcome
outcomes_of replies = map (λ r. outcome_of r.0.call r.1) replies

-- the record of a line, and those of many
abbrev pub record_of : Line × Reply → List ℕ
record_of r = record_text (spelling_of r.0) (outcome_of r.0.call r.1) false

unfoldable pub records_of : List (Line × Reply) → List ℕ
records_of replies = flat_map record_of replies
