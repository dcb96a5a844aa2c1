-- The text that a serial run writes for the words, the bytes of its source and the ports; or how it refuses them
-- (this project's own).
use Rattle.std.specs.Prelude.{ℕ, Bool, nat_lt, List, [], ◌++◌, length, map, flat_map, codes, Option, Some, None, Result, Ok, Err, if◌then◌else◌}
use Rattle.chunk_tags.specs.declared.tunables.Tunables.{Tunables}
use Rattle.address_space.specs.Ports.{Port}
use Rattle.arena_rules.specs.PlainArena.{Plain}
use Rattle.page_trim.specs.Trimming.{trims_of}
use Rattle.page_trim.specs.TrimText.{trim_text}
use Rattle.stats_text.specs.Views.{Shown}
use Rattle.stats_text.specs.Report.{places_of}
use Rattle.stats_text.specs.AnswerCounts.{counts_of}
use Rattle.stats_text.specs.Summary.{summary_of}
use Rattle.stats_text.specs.Totals.{statistics_of}
use Rattle.trace_text.specs.declared.trace.Line.{Line}
use Rattle.trace_text.specs.Grammar.{Reading, reading_of}
use Rattle.trace_maker.specs.Generator.{lines_made}
use Rattle.command_words.specs.declared.asked.Asked.{Asked}
use Rattle.command_words.specs.declared.asked.Generated.{Generated}
use Rattle.trace_replay.specs.declared.exit.Exit.{Exit}
use Rattle.trace_replay.specs.declared.exit.Exit.TheVariants.{BadTrace, TooLong}
use Rattle.world_view.specs.Places.{fast_lists}
use Rattle.world_view.specs.Scenes.{Scene, shown_of}
use Rattle.trace_replay.specs.Records.{outcomes_of, records_of}
use Rattle.byte_edge.specs.Input.{max_input}
use Rattle.trace_replay.specs.Runs.{Run, run_of}
use Rattle.trace_replay.specs.Views.{threads_in, scene_of}
use Rattle.trace_replay.specs.World.{opening_world}

-- ---- the whole text

-- the sections behind the records: the places and the text of malloc_stats
abbrev pub sections : Shown → List ℕ
sections s = places_of s ++ statistics_of s

-- a report: its first line, the record lines, and the sections behind them
abbrev pub whole_report : List ℕ → Shown → List ℕ
whole_report records s = codes "ptmreport 1 serial\n" ++ records ++ sections s

-- what is shown of the world at the end of a run; these threads have lines
abbrev pub shown_behind : {K : Type 0} → List ℕ → Run K → Shown
shown_behind threads run = shown_of (scene_of threads run.world)

-- the report on what a run gave
abbrev pub run_report : {K : Type 0} → List ℕ → Run K → List ℕ
run_report threads run = whole_report (records_of run.replies) (shown_behind threads run)

-- the summary of what a run gave: counts of its answers, and the totals of the world at its end
abbrev pub run_summary : {K : Type 0} → List ℕ → Run K → List ℕ
run_summary threads run = summary_of (counts_of (outcomes_of run.replies)) (shown_behind threads run)

-- the text on what a run gave: a summary where that is asked for, and else a report
abbrev pub run_text : {K : Type 0} → Bool → List ℕ → Run K → List ℕ
run_text summary threads run = if summary then run_summary threads run else run_report threads run

-- what follows a report where all arenas are trimmed at the end: what was given up of these, which have these lists of fast
-- chunks, ten an arena, in the order of the list of arenas
abbrev pub trim_lines : Option ℕ → List ℕ → List (List ℕ) → List Plain → List ℕ
trim_lines None list fast arenas = []
trim_lines (Some pad) list fast arenas = trim_text pad list (trims_of pad fast arenas)

-- the same of a scene
abbrev pub trim_section : Option ℕ → Scene → List ℕ
trim_section trim s = trim_lines trim s.book.list (flat_map (λ a. fast_lists a.fast) s.arenas) (map (λ a. a.arena) s.arenas)

-- the text on a run that ended so
abbrev pub text_on : {K : Type 0} → Bool → Option ℕ → List ℕ → Result (Run K) Exit → Result (List ℕ) Exit
text_on summary trim threads (Ok run) = Ok (run_text summary threads run ++ trim_section trim (scene_of threads run.world))
text_on summary trim threads (Err exit) = Err exit

-- the text on a run of lines, a summary or a report, over the port of each thread; with the pad of a trim at the end
abbrev pub text_over : {K : Type 0} → Port K → Bool → Option ℕ → Tunables → List Line → List K → Result (List ℕ) Exit
text_over port summary trim t lines kernels = text_on summary trim (threads_in lines) (run_of port t lines (opening_world t kernels))

-- ---- a run's job

-- what a run has to do: what is asked for, and the lines of the trace
pub record Job : Type 0 where
  pub asked : Asked
  pub lines : List Line

-- the lines of a text, or its first fault
abbrev pub lines_of : Reading → Result (List Line) Exit
lines_of (Ok content) = Ok content.lines
lines_of (Err fault) = Err (BadTrace fault.line fault.why)

abbrev pub job_with : Asked → Result (List Line) Exit → Result Job Exit
job_with asked (Ok lines) = Ok (record { asked = asked; lines = lines })
job_with asked (Err exit) = Err exit

-- the job for what is asked and these bytes, which aren't too many
abbrev pub job_by : Asked → List ℕ → Result Job Exit
job_by asked bytes = job_with asked (lines_of (reading_of bytes))

-- the same for any bytes
abbrev pub read_job : Asked → List ℕ → Result Job Exit
read_job asked bytes = if nat_lt max_input (length bytes) then Err TooLong else job_by asked bytes

-- the job for a trace that is made
abbrev pub made_job : Asked → Generated → Result Job Exit
made_job asked made = Ok (record { asked = asked; lines = lines_made made.seed made.lines })

-- a trace is made where that is asked for, whatever the bytes are, and else read
abbrev pub job_for : Option Generated → Asked → List ℕ → Result Job Exit
job_for None asked bytes = read_job asked bytes
job_for (Some made) asked bytes = made_job asked made

-- The job that the words and the bytes give, or how these refuse it: the first that applies. Words that are refused
-- come first, whatever the bytes are.
abbrev pub job_of : Result Asked Exit → List ℕ → Result Job Exit
job_of (Ok asked) bytes = job_for asked.generated asked bytes
job_of (Err exit) bytes = Err exit

-- the text for a job, over the ports
abbrev pub text_of : {K : Type 0} → Port K → List K → Result Job Exit → Result (List ℕ) Exit
text_of port kernels (Ok job) = text_over port job.asked.summary job.asked.trim job.asked.tunables job.lines kernels
text_of port kernels (Err exit) = Err exit

-- what a run writes for these, over the ports, or how it refuses them
unfoldable pub verdict : {K : Type 0} → Port K → List K → Result Asked Exit → List ℕ → Result (List ℕ) Exit
verdict port kernels asked bytes = text_of port kernels (job_of asked bytes)
