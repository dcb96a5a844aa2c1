-- Which threads have lines.
use Rattle.std.proofs.Common.{◌≡◌, ℕ, zero, suc, ◌+◌, ◌<◌, ◌==◌, ◌||◌, Bool, true, false, cond, List, [], ◌∷◌, ◌++◌, Some, slice_get, filter, get_or, set, length, take, replicate, inl, inr, refl, sym, ap, ◌∙◌, arith, append-nil}
use Rattle.std.specs.List.{All, AllByRecursion, range_with_len}
use Rattle.std.proofs.lemmas.Bool.Decides.{eqb_tells}
use Rattle.std.proofs.lemmas.List.{get_or-set_same, get_or-set_other}
use Rattle.std.proofs.lemmas.List.Elements.{All-from_recursion, filter-append}
use Rattle.trace_text.specs.declared.trace.Line.{Line}
use Rattle.trace_text.specs.Spelling.{AllFit}
use Rattle.trace_text.proofs.NextLines.{take_next}
use Rattle.trace_replay.specs.Sheets.{AreLines}
use Rattle.trace_replay.specs.Views.{IsThread, has_line}

-- ---- each line has a thread

all_threads : (version : ℕ) (before lines : List Line) → AllFit version before lines → AllByRecursion IsThread lines
unfolding AllFit
all_threads version before [] fit = tt
all_threads version before (line ∷ lines) fit = (fit.0.thread, all_threads version (before ++ line ∷ []) lines fit.1)

pub allowed_threads : (lines : List Line) → AreLines lines → All IsThread lines
allowed_threads lines are = All-from_recursion IsThread lines (all_threads are.version [] lines are.allowed.1)

-- ---- marks

or_nothing : (x : Bool) → (x || false) ≡ x
or_nothing true = refl
or_nothing false = refl

or_assoc : (x y z : Bool) → (x || (y || z)) ≡ ((x || y) || z)
or_assoc true y z = refl
or_assoc false y z = refl

has_line-push : (lines : List Line) (line : Line) (thread : ℕ) → has_line (lines ++ line ∷ []) thread ≡ (has_line lines thread || line.thread == thread)
has_line-push [] line thread = or_nothing (line.thread == thread)
has_line-push (l ∷ ls) line thread = ap (λ v. l.thread == thread || v) (has_line-push ls line thread) ∙ or_assoc (l.thread == thread) (has_line ls thread) (line.thread == thread)

abbrev pub AreMarks : List Bool → List Line → Type 0
AreMarks marks lines = (thread : ℕ) → get_or marks thread false ≡ has_line lines thread

pub no_marks : (n : ℕ) → AreMarks (replicate n false) []
no_marks zero thread = refl
no_marks (suc n) zero = refl
no_marks (suc n) (suc thread) = no_marks n thread

true_or : (x : Bool) → (x || true) ≡ true
true_or true = refl
true_or false = refl

pub marks_next : (marks : List Bool) (lines : List Line) (i : ℕ) (line : Line) (k : ℕ) → k ≡ line.thread → k < length marks → slice_get lines i ≡ Some line → AreMarks marks (take i lines) → AreMarks (set marks k true) (take (i + 1) lines)
marks_next marks lines i line k is room at have = λ thread.
    let was : Bool = has_line (take i lines) thread in
    let pushed : has_line (take (i + 1) lines) thread ≡ (was || line.thread == thread) =
    ap (λ (ls : List Line). has_line ls thread) (take_next lines i line at) ∙ has_line-push (take i lines) line thread in
    elim (eqb_tells line.thread thread) [
      | inl same ↦
          let here : thread ≡ k = sym same.1 ∙ sym is in
          ap (λ j. get_or (set marks k true) j false) here ∙ get_or-set_same marks k true false room
          ∙ sym (pushed ∙ ap (λ v. was || v) same.0 ∙ true_or was)
      | inr other ↦
          let apart : thread ≡ k → ⊥ = λ e. other.1 (sym (e ∙ is)) in
          get_or-set_other marks k thread true false apart ∙ have thread
          ∙ sym (pushed ∙ ap (λ v. was || v) other.0 ∙ or_nothing was)
    ]

-- ---- in order

range-push : (a n j : ℕ) → a + n ≡ j → range_with_len a (suc n) ≡ range_with_len a n ++ j ∷ []
range-push a zero j e = let same : a ≡ j = omega arith in ap (λ k. k ∷ []) same
range-push a (suc n) j e = ap (λ more. a ∷ more) (range-push (a + 1) n j (omega arith))

threads_next : (lines : List Line) (n : ℕ) → filter (has_line lines) (range_with_len 0 (suc n)) ≡ filter (has_line lines) (range_with_len 0 n) ++ filter (has_line lines) (n ∷ [])
threads_next lines n =
    ap (filter (has_line lines)) (range-push 0 n n (omega arith)) ∙ filter-append (has_line lines) (range_with_len 0 n) (n ∷ [])

-- the next number stands behind the others where its thread has a line
pub thread_taken : (lines : List Line) (marks : List Bool) (n k : ℕ) (numbers more : List ℕ) → k ≡ n → AreMarks marks lines → get_or marks k false ≡ true →
    numbers ≡ filter (has_line lines) (range_with_len 0 n) → more ≡ numbers ++ n ∷ [] → more ≡ filter (has_line lines) (range_with_len 0 (n + 1))
thread_taken lines marks n k numbers more at have marked so_far pushed =
    let has : has_line lines n ≡ true = sym (have n) ∙ ap (λ j. get_or marks j false) (sym at) ∙ marked in
    let next : suc n ≡ n + 1 = omega arith in
    pushed ∙ ap (λ (ns : List ℕ). ns ++ n ∷ []) so_far
    ∙ ap (λ (b : Bool). filter (has_line lines) (range_with_len 0 n) ++ cond b (n ∷ []) []) (sym has)
    ∙ sym (threads_next lines n) ∙ ap (λ j. filter (has_line lines) (range_with_len 0 j)) next

pub thread_passed : (lines : List Line) (marks : List Bool) (n k : ℕ) (numbers : List ℕ) → k ≡ n → AreMarks marks lines → get_or marks k false ≡ false →
    numbers ≡ filter (has_line lines) (range_with_len 0 n) → numbers ≡ filter (has_line lines) (range_with_len 0 (n + 1))
thread_passed lines marks n k numbers at have marked so_far =
    let has : has_line lines n ≡ false = sym (have n) ∙ ap (λ j. get_or marks j false) (sym at) ∙ marked in
    let next : suc n ≡ n + 1 = omega arith in
    so_far ∙ sym (append-nil (filter (has_line lines) (range_with_len 0 n)))
    ∙ ap (λ (b : Bool). filter (has_line lines) (range_with_len 0 n) ++ cond b (n ∷ []) []) (sym has)
    ∙ sym (threads_next lines n) ∙ ap (λ j. filter (has_line lines) (range_with_len 0 j)) next
