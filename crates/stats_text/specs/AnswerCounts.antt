-- The counts of answers, and their lines (this project's own).
use Rattle.std.specs.Prelude.{ℕ, ◌+◌, ◌-◌, ◌^◌, ◌<◌, Bool, true, false, List, ◌++◌, length, count_by, codes, decimal, if◌then◌else◌}
use Rattle.stats_text.specs.declared.records.Outcome.{Outcome}
use Rattle.stats_text.specs.declared.records.Outcome.TheVariants.{Got, Kept, Moved, Null, Freed, Posted, Taken, Missed, Skip, Ended}
use Rattle.stats_text.specs.declared.answer_counts.Counts.{Counts}

-- whether malloc, calloc, realloc or posix_memalign was answered by a block, wherever it is
abbrev pub gives_block : Outcome → Bool
gives_block (Got addr size from) = true
gives_block (Kept addr size hold) = true
gives_block (Moved addr size from) = true
gives_block (Null why) = false
gives_block (Freed to by_realloc) = false
gives_block Posted = false
gives_block (Taken addr size) = false
gives_block (Missed seen) = false
gives_block Skip = false
gives_block Ended = false

-- whether there was no block
abbrev pub is_null : Outcome → Bool
is_null (Null why) = true
is_null _ = false

-- whether a tray had no block
abbrev pub is_missed : Outcome → Bool
is_missed (Missed seen) = true
is_missed _ = false

-- whether the name had no block
abbrev pub is_skip : Outcome → Bool
is_skip Skip = true
is_skip _ = false

-- what is counted of answers; freed, posted, taken and ended lines are among the lines alone
unfoldable pub counts_of : List Outcome → Counts
counts_of outcomes = record {
  lines = length outcomes;
  got = count_by gives_block outcomes;
  null = count_by is_null outcomes;
  missed = count_by is_missed outcomes;
  skip = count_by is_skip outcomes;
}

-- a count behind one answer more
abbrev pub count_with : ℕ → Bool → ℕ
count_with count counts = if counts then count + 1 else count

-- the counts behind one answer more
unfoldable pub counts_with : Counts → Outcome → Counts
counts_with c said = record {
  lines = c.lines + 1;
  got = count_with c.got (gives_block said);
  null = count_with c.null (is_null said);
  missed = count_with c.missed (is_missed said);
  skip = count_with c.skip (is_skip said);
}

-- one answer more can be counted
pub record HasRoom (c : Counts) : Type 0 where
  pub lines : c.lines < 2 ^ 64 - 1
  pub got : c.got < 2 ^ 64 - 1
  pub null : c.null < 2 ^ 64 - 1
  pub missed : c.missed < 2 ^ 64 - 1
  pub skip : c.skip < 2 ^ 64 - 1

-- a line with a count
unfoldable pub count_line : List ℕ → ℕ → List ℕ
count_line word n = word ++ decimal n ++ codes "\n"

-- the lines with the counts
unfoldable pub count_lines : Counts → List ℕ
count_lines c = count_line (codes "lines ") c.lines
    ++ count_line (codes "got ") c.got
    ++ count_line (codes "null ") c.null
    ++ count_line (codes "missed ") c.missed
    ++ count_line (codes "skip ") c.skip
