-- The table of kernel calls (this project's own).
use Rattle.std.specs.Prelude.{ℕ, ◌+◌, nat_eq, Bool, List, [], ◌∷◌, ◌++◌, codes, decimal, if◌then◌else◌}
use Rattle.kernel_calls.specs.declared.counts.Counts.{Counts}
use Rattle.kernel_calls.specs.declared.table.Form.{Form}
use Rattle.kernel_calls.specs.declared.table.Form.TheVariants.{Line, Cell}
use Rattle.kernel_calls.specs.Counting.{total_of, sums_of}

-- a count: in a line of its own behind its name, or in a row
unfoldable pub count_text : Form → List ℕ → ℕ → List ℕ
count_text Line name n = name ++ codes " " ++ decimal n ++ codes "\n"
count_text Cell name n = codes " " ++ decimal n

-- what is asked for main, and given back of it
unfoldable pub main_text : Form → Counts → List ℕ
main_text form c = count_text form (codes "break up") c.breaks_up
    ++ count_text form (codes "break down") c.breaks_down
    ++ count_text form (codes "pieces") c.pieces

-- the same for the heaps of other arenas
unfoldable pub heaps_text : Form → Counts → List ℕ
heaps_text form c = count_text form (codes "heaps made") c.heaps_made
    ++ count_text form (codes "heaps grown") c.heaps_grown
    ++ count_text form (codes "heaps shrunk") c.heaps_shrunk
    ++ count_text form (codes "heaps dropped") c.heaps_dropped

-- the same for mappings of one chunk
unfoldable pub mappings_text : Form → Counts → List ℕ
mappings_text form c = count_text form (codes "mappings") c.mappings
    ++ count_text form (codes "unmappings") c.unmappings
    ++ count_text form (codes "remaps grown") c.remaps_grown
    ++ count_text form (codes "remaps shrunk") c.remaps_shrunk

-- all kinds, and what they are together
unfoldable pub counts_text : Form → Counts → List ℕ
counts_text form c = main_text form c ++ heaps_text form c ++ mappings_text form c
    ++ count_text form (codes "total") (total_of c)

-- the row of a thread, where it made a call
unfoldable pub row_of : ℕ → Counts → List ℕ
row_of thread c =
    if nat_eq (total_of c) 0 then [] else decimal thread ++ counts_text Cell c ++ codes "\n"

-- the rows of threads, of which the first has this number
abbrev pub rows_from : ℕ → List Counts → List ℕ
rows_from thread [] = []
rows_from thread (c ∷ rest) = row_of thread c ++ rows_from (thread + 1) rest

-- what stands above the rows
unfoldable pub heading : List ℕ
heading = codes "thread break-up break-down pieces heaps-made heaps-grown heaps-shrunk heaps-dropped mappings unmappings remaps-grown remaps-shrunk total\n"

-- the rows of all threads below their heading
unfoldable pub rows_of : List Counts → List ℕ
rows_of all = heading ++ rows_from 0 all

-- the table: its head, the counts of all threads together, and where that is asked for the rows
unfoldable pub table_of : Bool → List Counts → List ℕ
table_of by_thread all = codes "ptmcalls 1\n" ++ counts_text Line (sums_of all)
    ++ (if by_thread then rows_of all else [])
