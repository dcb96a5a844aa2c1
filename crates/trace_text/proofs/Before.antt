-- What one line more says.
use Rattle.std.proofs.Common.{◌≡◌, ℕ, Bool, true, false, ◌&&◌, ◌||◌, cond, eqb, List, [], ◌∷◌, ◌++◌, refl}
use Rattle.std.specs.List.{list_any}
use Rattle.std.proofs.lemmas.List.Sums.{fold-append}
use Rattle.trace_text.specs.declared.seen.Seen.{Seen}
use Rattle.trace_text.specs.declared.trace.Line.{Line}
use Rattle.trace_text.specs.Before.{held_after, is_held, is_exit, has_ended, is_post, was_posted, is_take, was_taken}
use Rattle.trace_text.specs.Seen.{Knows, Adds}

swapped : (a b c : Bool) → (a || (b || c)) ≡ (b || (a || c))
swapped true true c = refl
swapped true false c = refl
swapped false b c = refl

any_push : {X : Type 0} (p : X → Bool) (xs : List X) (x : X) → list_any p (xs ++ x ∷ []) ≡ (p x || list_any p xs)
any_push p [] x = refl
any_push p (y ∷ ys) x = rw (any_push p ys x) (swapped (p y) (p x) (list_any p ys))

pub is_held_push : (thread name : ℕ) (before : List Line) (line : Line) → is_held thread name (before ++ line ∷ []) ≡ cond (eqb line.thread thread) (held_after name (is_held thread name before) line.call) (is_held thread name before)
unfolding is_held
is_held_push thread name before line = fold-append (λ (was : Bool) (l : Line). cond (eqb l.thread thread) (held_after name was l.call) was) false before (line ∷ [])

-- tables that took a line in say what the lines with it say
pub Knows-push : (old new : Seen) (before : List Line) (line : Line) → Adds old new line → Knows old before → Knows new (before ++ line ∷ [])
unfolding has_ended was_posted was_taken
Knows-push old new before line step known = record {
  held = λ thread name. rw (is_held_push thread name before line, ← known.held thread name) (step.held thread name);
  ended = λ thread. rw (any_push (λ (l : Line). is_exit l.call && eqb l.thread thread) before line, ← known.ended thread) (step.ended thread);
  posted = λ tray. rw (any_push (λ (l : Line). is_post tray l.call) before line, ← known.posted tray) (step.posted tray);
  taken = λ tray. rw (any_push (λ (l : Line). is_take tray l.call) before line, ← known.taken tray) (step.taken tray);
}
