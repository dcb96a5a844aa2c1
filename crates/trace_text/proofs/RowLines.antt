-- Rows, and the lines that they are.
use Rattle.std.proofs.Common.{◌≡◌, ℕ, zero, suc, ◌+◌, ◌<◌, ◌≤◌, List, [], ◌∷◌, ◌++◌, Some, slice_get, length, get_or, refl, sym, ap, ◌∙◌, subst, arith, length-append}
use Rattle.std.specs.List.{All}
use Rattle.std.proofs.lemmas.List.Elements.{All-append}
use Rattle.std.proofs.Math.ListN.{get_or-append}
use Rattle.trace_text.specs.declared.command.Command.{Command}
use Rattle.trace_text.specs.declared.command.Command.TheVariants as command
use Rattle.trace_text.specs.declared.lines.Row.{Row}
use Rattle.trace_text.specs.declared.trace.Call.{Call}
use Rattle.trace_text.specs.declared.trace.Call.TheVariants.{Calloc, Align}
use Rattle.trace_text.specs.declared.trace.Line.{Line}
use Rattle.trace_text.specs.Rows.{call_of, IsNumber, IsRow, line_at, lines_from}

pub length-lines_from : (place : ℕ) (pairs : List (ℕ × ℕ)) (rows : List Row) → length (lines_from place pairs rows) ≡ length rows
length-lines_from place pairs [] = refl
length-lines_from place pairs (row ∷ rows) = ap suc (length-lines_from (place + 1) pairs rows)

pub slice_get-lines_from : (place : ℕ) (pairs : List (ℕ × ℕ)) (rows : List Row) (i : ℕ) (d : Row) → i < length rows → slice_get (lines_from place pairs rows) i ≡ Some (line_at (place + i) pairs (get_or rows i d))
slice_get-lines_from place pairs [] i d within = let no : ⊥ = omega arith in absurd no
slice_get-lines_from place pairs (row ∷ rows) zero d within = let here : place ≡ place + 0 = omega arith in ap (λ n. Some (line_at n pairs row)) here
slice_get-lines_from place pairs (row ∷ rows) (suc i) d within =
    let here : place + 1 + i ≡ place + suc i = omega arith in
    slice_get-lines_from (place + 1) pairs rows i d (omega arith) ∙ ap (λ n. Some (line_at n pairs (get_or rows i d))) here

pub lines_from-append : (place : ℕ) (pairs : List (ℕ × ℕ)) (rows : List Row) (row : Row) → lines_from place pairs (rows ++ row ∷ []) ≡ lines_from place pairs rows ++ line_at (place + length rows) pairs row ∷ []
lines_from-append place pairs [] row = let here : place ≡ place + 0 = omega arith in ap (λ n. line_at n pairs row ∷ []) here
lines_from-append place pairs (other ∷ rows) row =
    let here : place + 1 + length rows ≡ place + suc (length rows) = omega arith in
    ap (λ (ls : List Line). line_at place pairs other ∷ ls) (lines_from-append (place + 1) pairs rows row ∙ ap (λ n. lines_from (place + 1) pairs rows ++ line_at n pairs row ∷ []) here)

-- ---- more pairs, and one more row

abbrev pub AreRows : List (ℕ × ℕ) → List Row → Type 0
AreRows pairs rows = All (IsRow (length pairs)) rows

-- the first of rows, and the others
first_is : (pairs : List (ℕ × ℕ)) (row : Row) (rows : List Row) → AreRows pairs (row ∷ rows) → IsRow (length pairs) row
first_is pairs row rows are = are 0 row (omega arith)

others_are : (pairs : List (ℕ × ℕ)) (row : Row) (rows : List Row) → AreRows pairs (row ∷ rows) → AreRows pairs rows
others_are pairs row rows are = λ k d within. are (suc k) d (omega arith)

-- a row's call stays
call_with-append : (pairs more : List (ℕ × ℕ)) (k : Command) (name number : ℕ) → IsNumber k (length pairs) number → call_of (pairs ++ more) k name number ≡ call_of pairs k name number
call_with-append pairs more command.Calloc name number is = ap (λ (p : ℕ × ℕ). Calloc name p.0 p.1) (get_or-append pairs more (0, 0) number is)
call_with-append pairs more command.Align name number is = ap (λ (p : ℕ × ℕ). Align name p.0 p.1) (get_or-append pairs more (0, 0) number is)
call_with-append pairs more command.Malloc name number is = refl
call_with-append pairs more command.Realloc name number is = refl
call_with-append pairs more command.Free name number is = refl
call_with-append pairs more command.Post name number is = refl
call_with-append pairs more command.Take name number is = refl
call_with-append pairs more command.Exit name number is = refl

line_at-append : (place : ℕ) (pairs more : List (ℕ × ℕ)) (row : Row) → IsRow (length pairs) row → line_at place (pairs ++ more) row ≡ line_at place pairs row
line_at-append place pairs more row is = ap (λ (c : Call). record { thread = row.thread; number = place; call = c }) (call_with-append pairs more row.command row.name row.number is)

-- so does each line
more_pairs : (place : ℕ) (pairs more : List (ℕ × ℕ)) (rows : List Row) → AreRows pairs rows → lines_from place (pairs ++ more) rows ≡ lines_from place pairs rows
more_pairs place pairs more [] are = refl
more_pairs place pairs more (row ∷ rows) are =
    let first = line_at-append place pairs more row (first_is pairs row rows are) in
    let others = more_pairs (place + 1) pairs more rows (others_are pairs row rows are) in
    cc (first, others)

-- and is a row
still_number : (k : Command) (few many number : ℕ) → few ≤ many → IsNumber k few number → IsNumber k many number
still_number command.Calloc few many number le is = omega (arith, is)
still_number command.Align few many number le is = omega (arith, is)
still_number command.Malloc few many number le is = tt
still_number command.Realloc few many number le is = tt
still_number command.Free few many number le is = tt
still_number command.Post few many number le is = is
still_number command.Take few many number le is = is
still_number command.Exit few many number le is = tt

one_row : (pairs : ℕ) (row : Row) → IsRow pairs row → All (IsRow pairs) (row ∷ [])
one_row pairs row is zero d within = is
one_row pairs row is (suc k) d within = let no : ⊥ = omega arith in absurd no

pub are_rows : (pairs more after : List (ℕ × ℕ)) (place : ℕ) (rows now : List Row) (row : Row) → after ≡ pairs ++ more → now ≡ rows ++ row ∷ [] → place ≡ length pairs → IsRow (place + length more) row → AreRows pairs rows → AreRows after now
are_rows pairs more after place rows now row after_is now_is place_is is are =
    let all : ℕ = place + length more in
    let count : length after ≡ all = ap length after_is ∙ length-append pairs more ∙ ap (λ n. n + length more) (sym place_is) in
    let before : All (IsRow all) rows =
    λ k d within. still_number (get_or rows k d).command (length pairs) all (get_or rows k d).number (omega (arith, place_is)) (are k d within) in
    rw (count, now_is) (All-append (IsRow all) rows (row ∷ []) before (one_row all row is))

-- the lines then, where a row came and where none did
pub lines_same : (pairs more after : List (ℕ × ℕ)) (rows now : List Row) (lines : List Line) → after ≡ pairs ++ more → now ≡ rows → lines_from 2 pairs rows ≡ lines → AreRows pairs rows → lines_from 2 after now ≡ lines
lines_same pairs more after rows now lines after_is now_is is are = rw (after_is, now_is) (more_pairs 2 pairs more rows are ∙ is)

pub lines_push : (pairs more after : List (ℕ × ℕ)) (rows now : List Row) (row : Row) (lines : List Line) (line : Line) → after ≡ pairs ++ more → now ≡ rows ++ row ∷ [] → lines_from 2 pairs rows ≡ lines → AreRows pairs rows →
    line.thread ≡ row.thread → line.number ≡ length lines + 2 → call_of (pairs ++ more) row.command row.name row.number ≡ line.call → lines_from 2 after now ≡ lines ++ line ∷ []
lines_push pairs more after rows now row lines line after_is now_is is are thread number call =
    let place : 2 + length rows ≡ line.number = omega (arith, number, ap length is, length-lines_from 2 pairs rows) in
    let last : line_at (2 + length rows) (pairs ++ more) row ≡ line = rw (place, call, ← thread) refl in
    rw (after_is, now_is, lines_from-append 2 (pairs ++ more) rows row, more_pairs 2 pairs more rows are, is, last) refl

-- ---- the line of an index

pub line_got : (pairs : List (ℕ × ℕ)) (rows : List Row) (lines : List Line) (i : ℕ) (row : Row) (call : Call) → lines_from 2 pairs rows ≡ lines → i < length rows → row ≡ get_or rows i row → call ≡ call_of pairs row.command row.name row.number →
    slice_get lines i ≡ Some (record { thread = row.thread; number = i + 2; call = call })
line_got pairs rows lines i row call is within row_is call_is =
    let place : 2 + i ≡ i + 2 = omega arith in
    ap (λ (ls : List Line). slice_get ls i) (sym is) ∙ slice_get-lines_from 2 pairs rows i row within
    ∙ ap (λ (r : Row). Some (line_at (2 + i) pairs r)) (sym row_is) ∙ ap (λ n. Some (line_at n pairs row)) place
    ∙ ap (λ (c : Call). Some (record { thread = row.thread; number = i + 2; call = c })) (sym call_is)

pub number_in : (pairs : List (ℕ × ℕ)) (rows : List Row) (i : ℕ) (row : Row) → i < length rows → row ≡ get_or rows i row → AreRows pairs rows → IsRow (length pairs) row
number_in pairs rows i row within row_is are = subst (IsRow (length pairs)) (sym row_is) (are i row within)

-- the index of a line is that of its row
pub index_of_row : (pairs : List (ℕ × ℕ)) (rows : List Row) (lines : List Line) (i : ℕ) → lines_from 2 pairs rows ≡ lines → i < length lines → i < length rows
index_of_row pairs rows lines i is within = omega (arith, ap length is, length-lines_from 2 pairs rows)
