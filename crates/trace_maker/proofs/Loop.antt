-- One line more, as the code makes it.
use Rattle.std.proofs.Common.{◌≡◌, ◌+◌, ◌%◌, ℕ, Bool, true, false, cond, List, [], ◌∷◌, ◌++◌, set, length, refl, sym, ap, ◌∙◌, add-one}
use Rattle.trace_text.specs.declared.trace.Call.{Call}
use Rattle.trace_text.specs.declared.trace.Call.TheVariants.{Free}
use Rattle.trace_text.specs.declared.trace.Line.{Line}
use Rattle.trace_text.specs.Before.{held_after, is_held}
use Rattle.trace_text.specs.Grammar.{place_after}
use Rattle.trace_maker.specs.Generator.{State, draw, behind_draw, queue_of, malloc_made, unheld_made, post_made, realloc_made, held_made, call_made, line_made, more_lines}
use Rattle.trace_maker.specs.HeldMarks.{place_of, name_or_zero, IsDrawn, Knows}
use Rattle.trace_maker.proofs.HeldLaws.{Knows-push}
use Rattle.trace_maker.proofs.TraceLaws.{line_with}

-- ---- a call is made under the name that was drawn

name_taking : (queue : List ℕ) (thread name : ℕ) (s : State) → name_or_zero (unheld_made queue thread name s).0 ≡ name
unfolding unheld_made malloc_made
name_taking [] thread name s = refl
name_taking (tray ∷ others) thread name s = refl

name_using : (resizes posts : Bool) (thread name : ℕ) (s : State) → name_or_zero (cond resizes (realloc_made name s) (cond posts (post_made thread name s) (Free name, s))).0 ≡ name
unfolding realloc_made post_made
name_using true posts thread name s = refl
name_using false true thread name s = refl
name_using false false thread name s = refl

name_made : (held : Bool) (thread name : ℕ) (s : State) → name_or_zero (call_made held thread name s).0 ≡ name
unfolding call_made held_made
name_made true thread name s = name_using _ _ thread name (behind_draw s)
name_made false thread name s = name_taking (queue_of s.queues thread) thread name s

pub name_is : (held : Bool) (thread name : ℕ) (s left : State) (call : Call) → (call, left) ≡ call_made held thread name s → name_or_zero call ≡ name
name_is held thread name s left call e = ap (λ (made : Call × State). name_or_zero made.0) e ∙ name_made held thread name s

-- ---- the line is that of the definition

abbrev line_from : ℕ → ℕ → Call × State → Line × State
line_from thread number made = (line_with thread number made.0, made.1)

pub line_is : (before : List Line) (s first second left : State) (thread number drawn : ℕ) (was : Bool) (call : Call) → thread ≡ draw s.seed % 4 → first ≡ behind_draw s → drawn ≡ draw first.seed % 1024 → second ≡ behind_draw first → was ≡ is_held thread (drawn + 1) before → (call, left) ≡ call_made was thread (drawn + 1) second → number ≡ place_after before → (line_with thread number call, left) ≡ line_made before s
unfolding line_made
line_is before s first second left thread number drawn was call t f d g w e n = ap (line_from thread number) e ∙ rw (n, w, g, d, f, t) refl

-- ---- the marks know it

pub noted_is : (marks now : List Bool) (before : List Line) (thread number name : ℕ) (call : Call) (was held : Bool) → length marks ≡ 4100 → IsDrawn thread name → name_or_zero call ≡ name → was ≡ is_held thread name before → held ≡ held_after (name_or_zero call) was call → now ≡ set marks (place_of thread name) held → Knows marks before → Knows now (before ++ line_with thread number call ∷ [])
noted_is marks now before thread number name call was held width drawn named is after noted known =
    let own : IsDrawn thread (name_or_zero call) = rw named drawn in
    let was_is : was ≡ is_held thread (name_or_zero call) before = rw named is in
    rw (noted, ← named)
    (Knows-push marks before (line_with thread number call) held width own (after ∙ ap (λ (w : Bool). held_after (name_or_zero call) w call) was_is) known)

-- ---- line by line

pub one_line_more : (before : List Line) (s left : State) (line : Line) (count rest : ℕ) → count ≡ rest + 1 → (line, left) ≡ line_made before s → more_lines before s count ≡ more_lines (before ++ line ∷ []) left rest
unfolding more_lines
one_line_more before s left line count rest e made = rw (e, add-one) (ap (λ (m : Line × State). more_lines (before ++ m.0 ∷ []) m.1 rest) (sym made))

pub no_line_more : (before : List Line) (s : State) (count : ℕ) → count ≡ 0 → more_lines before s count ≡ before
unfolding more_lines
no_line_more before s count e = rw e refl
