-- What a report shows of malloc_trim(3) (this project's own form).
use Rattle.std.specs.Prelude.{ℕ, ◌+◌, Bool, false, ◌||◌, ◌==◌, nat_lt, List, [], ◌∷◌, ◌++◌, length, codes, decimal, if◌then◌else◌}
use Rattle.std.specs.List.{flat_map, list_any}
use Rattle.std.specs.Fmt.{digits}
use Rattle.page_trim.specs.declared.ranges.PageRange.{PageRange}
use Rattle.page_trim.specs.FreePages.{pages_in}
use Rattle.page_trim.specs.Trimming.{Trim}

-- a word and a number
abbrev pub numbered : List ℕ → ℕ → List ℕ
numbered word n = word ++ decimal n

-- a range of pages that was given up
unfoldable pub discard_line : PageRange → List ℕ
discard_line r = codes "discard 0x" ++ digits 16 false r.addr ++ codes " " ++ decimal r.pages ++ codes "\n"

-- the arena with a number: how many pages were given up, the bytes that went back, and how many pages stay
abbrev pub pages_text : ℕ → ℕ → List ℕ
pages_text number pages = numbered (codes "trim arena ") number ++ numbered (codes " pages ") pages

abbrev pub bytes_text : ℕ → ℕ → List ℕ
bytes_text back kept = numbered (codes " back ") back ++ numbered (codes " kept ") kept ++ codes "\n"

unfoldable pub trim_head : ℕ → Trim → List ℕ
trim_head number t = pages_text number (pages_in t.ranges) ++ bytes_text t.back t.kept

abbrev pub trim_lines : ℕ × Trim → List ℕ
trim_lines a = trim_head a.0 a.1 ++ flat_map discard_line a.1.ranges

-- those of the arenas with a number
abbrev pub lines_numbered : ℕ → ℕ × Trim → List ℕ
lines_numbered number a = if a.0 == number then trim_lines (number, a.1) else []

-- whether anything was given up
abbrev pub gave_up : Trim → Bool
gave_up t = nat_lt 0 (length t.ranges) || nat_lt 0 t.back

abbrev pub trim_result : List (ℕ × Trim) → ℕ
trim_result all = if list_any (λ a. gave_up a.1) all then 1 else 0

-- the whole: the pad, the arenas in the order of their list, and the answer of malloc_trim
unfoldable pub trim_text : ℕ → List ℕ → List (ℕ × Trim) → List ℕ
trim_text pad list all = numbered (codes "trim ") pad ++ codes "\n"
    ++ flat_map (λ number. flat_map (lines_numbered number) all) list
    ++ numbered (codes "trim result ") (trim_result all) ++ codes "\n"
