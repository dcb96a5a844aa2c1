-- What one line more says of the names that are held, and what one mark more says of the marks.
use Rattle.std.proofs.Common.{◌≡◌, ◌≢◌, ◌≤◌, ℕ, zero, suc, Bool, true, false, not, ◌&&◌, cond, eqb, List, [], ◌∷◌, ◌++◌, get_or, set, length, replicate, refl, arith, sym, ◌∙◌, get_or-set_other, get_or-set_same}
use Rattle.std.proofs.lemmas.Bool.{eqb-true, eqb-false}
use Rattle.std.proofs.lemmas.List.Sums.{fold-append}
use Rattle.trace_text.specs.declared.trace.Call.{Call}
use Rattle.trace_text.specs.declared.trace.Call.TheVariants.{Malloc, Calloc, Realloc, Align, Free, Post, Take, Exit}
use Rattle.trace_text.specs.declared.trace.Line.{Line}
use Rattle.trace_text.specs.Before.{held_after, is_held}
use Rattle.trace_maker.specs.HeldMarks.{place_of, is_marked, name_or_zero, IsDrawn, Knows}

-- whether a name is held behind one line more
pub is_held_push : (thread name : ℕ) (before : List Line) (line : Line) → is_held thread name (before ++ line ∷ []) ≡ cond (eqb line.thread thread) (held_after name (is_held thread name before) line.call) (is_held thread name before)
unfolding is_held
is_held_push thread name before line = fold-append (λ (was : Bool) (l : Line). cond (eqb l.thread thread) (held_after name was l.call) was) false before (line ∷ [])

-- a call changes its own name alone
pub other_name : (name : ℕ) (was : Bool) (call : Call) → eqb (name_or_zero call) name ≡ false → held_after name was call ≡ was
other_name name was (Malloc made size) e = rw e refl
other_name name was (Calloc made n size) e = rw e refl
other_name name was (Align made align size) e = rw e refl
other_name name was (Take made tray) e = rw e refl
other_name name was (Free gone) e = rw e refl
other_name name was (Post gone tray) e = rw e refl
other_name name was (Realloc kept size) e = elim (eqb size 0) as (λ empty. (not (empty && eqb kept name) && was) ≡ was) [ true ↦ rw e refl | false ↦ refl ]
other_name name was Exit e = refl

unmarked_at : (count k : ℕ) → get_or (replicate count false) k false ≡ false
unmarked_at zero k = refl
unmarked_at (suc count) zero = refl
unmarked_at (suc count) (suc k) = unmarked_at count k

-- before any line, no name is held
pub Knows-none : (count : ℕ) → Knows (replicate count false) []
unfolding is_held
Knows-none count = record { held = λ thread name drawn. unmarked_at count (place_of thread name) }

-- the places of two names are one only where the names and their threads are
same_place : (thread name other_thread other_name : ℕ) → name ≤ 1024 → other_name ≤ 1024 → place_of thread name ≡ place_of other_thread other_name → (thread ≡ other_thread) × (name ≡ other_name)
same_place thread name other_thread other_name h k e = (omega arith, omega arith)

-- the noted mark
marked : (marks : List Bool) (thread name : ℕ) (held : Bool) → length marks ≡ 4100 → IsDrawn thread name → is_marked (set marks (place_of thread name) held) thread name ≡ held
marked marks thread name held width drawn = get_or-set_same marks (place_of thread name) held false (omega (arith, width, drawn.known_thread, drawn.known_name))

-- the mark of a name, behind a line that may be of its thread and may be under that name
noted : (marks : List Bool) (before : List Line) (line : Line) (held : Bool) (thread name : ℕ) → length marks ≡ 4100 → IsDrawn line.thread (name_or_zero line.call) → IsDrawn thread name → Knows marks before → held ≡ held_after (name_or_zero line.call) (is_held line.thread (name_or_zero line.call) before) line.call → (same_thread same_name : Bool) → eqb line.thread thread ≡ same_thread → eqb (name_or_zero line.call) name ≡ same_name → is_marked (set marks (place_of line.thread (name_or_zero line.call)) held) thread name ≡ cond same_thread (held_after name (is_held thread name before) line.call) (is_held thread name before)
noted marks before line held thread name width own drawn known after true true e f =
    let t : line.thread ≡ thread = eqb-true line.thread thread e in
    let n : name_or_zero line.call ≡ name = eqb-true (name_or_zero line.call) name f in
    rw (sym t, sym n) (marked marks line.thread (name_or_zero line.call) held width own ∙ after)
noted marks before line held thread name width own drawn known after true false e f =
    let ne : place_of thread name ≢ place_of line.thread (name_or_zero line.call) = λ p. eqb-false (name_or_zero line.call) name f (sym (same_place thread name line.thread (name_or_zero line.call) drawn.known_name own.known_name p).1) in
    get_or-set_other marks (place_of line.thread (name_or_zero line.call)) (place_of thread name) held false ne ∙ known.held thread name drawn
    ∙ sym (other_name name (is_held thread name before) line.call f)
noted marks before line held thread name width own drawn known after false same_name e f =
    let ne : place_of thread name ≢ place_of line.thread (name_or_zero line.call) = λ p. eqb-false line.thread thread e (sym (same_place thread name line.thread (name_or_zero line.call) drawn.known_name own.known_name p).0) in
    get_or-set_other marks (place_of line.thread (name_or_zero line.call)) (place_of thread name) held false ne ∙ known.held thread name drawn

-- marks in which a line's name is noted say what the lines with it say
pub Knows-push : (marks : List Bool) (before : List Line) (line : Line) (held : Bool) → length marks ≡ 4100 → IsDrawn line.thread (name_or_zero line.call) → held ≡ held_after (name_or_zero line.call) (is_held line.thread (name_or_zero line.call) before) line.call → Knows marks before → Knows (set marks (place_of line.thread (name_or_zero line.call)) held) (before ++ line ∷ [])
Knows-push marks before line held width own after known = record {
  held = λ thread name drawn.
      noted marks before line held thread name width own drawn known after (eqb line.thread thread) (eqb (name_or_zero line.call) name) refl refl
      ∙ sym (is_held_push thread name before line);
}
