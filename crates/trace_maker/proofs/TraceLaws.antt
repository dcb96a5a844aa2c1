-- The lines of a seed are allowed in a trace, and their takes stand behind posts.
use Rattle.std.proofs.Common.{◌≡◌, ◌==◌, ◌+◌, ◌%◌, ◌^◌, ◌<◌, ◌≤◌, ℕ, zero, suc, Bool, true, false, ◌&&◌, cond, ltb, leb, List, [], ◌∷◌, ◌++◌, Ok, refl, arith, append_assoc}
use Rattle.std.proofs.Math.Nat.{mod-lt}
use Rattle.std.proofs.lemmas.Bool.{and_parts, leb-true}
use Rattle.std.proofs.lemmas.List.{append-nil}
use Rattle.trace_text.specs.declared.trace.Call.{Call}
use Rattle.trace_text.specs.declared.trace.Call.TheVariants.{Free, Post, Take}
use Rattle.trace_text.specs.declared.trace.Line.{Line}
use Rattle.trace_text.specs.Before.{is_held}
use Rattle.trace_text.specs.Grammar.{fitting, place_after}
use Rattle.trace_text.specs.Spelling.{IsName, IsCall, Fits, AllFit, Allows}
use Rattle.trace_maker.specs.Generator.{State, draw, behind_draw, queue_of, sizes_of, malloc_made, unheld_made, receiver_of, post_made, realloc_made, held_made, call_made, line_made, more_lines, first_state, lines_made, IsPosted, AllPosted, TakesPosted}
use Rattle.trace_maker.proofs.TrayLaws.{Follows, Follows-none, Follows-plain, Follows-take, Follows-post}

-- ---- what is drawn is in its range

sizes_within : (few some : Bool) (n : ℕ) → n % cond few 1025 (cond some 20001 300001) < 2 ^ 64
sizes_within true some n = omega (arith, mod-lt n {m = 1025} (omega arith))
sizes_within false true n = omega (arith, mod-lt n {m = 20001} (omega arith))
sizes_within false false n = omega (arith, mod-lt n {m = 300001} (omega arith))

size_within : (n kind : ℕ) → n % sizes_of kind < 2 ^ 64
size_within n kind = sizes_within (ltb kind 12) (ltb kind 15) n

pub name_within : (n : ℕ) → IsName 1 (n % 1024 + 1)
name_within n = let below = mod-lt n {m = 1024} (omega arith) in (omega arith, omega (arith, below))

pub thread_within : (n : ℕ) → n % 4 < 4
thread_within n = mod-lt n {m = 4} (omega arith)

-- ---- a call that is made fits, and the state behind it goes with the lines

-- a line by its parts
abbrev pub line_with : ℕ → ℕ → Call → Line
line_with thread number call = record { thread = thread; number = number; call = call }

record IsGood (before : List Line) (thread : ℕ) (made : Call × State) : Type 0 where
  call : IsCall 1 thread made.0
  suits : fitting before thread made.0 ≡ Ok tt
  posted : IsPosted before made.0
  follows : (number : ℕ) → Follows (before ++ line_with thread number made.0 ∷ []) made.1.queues made.1.next_tray

good_block : (before : List Line) (thread name : ℕ) (s : State) → IsName 1 name → is_held thread name before ≡ false → Follows before s.queues s.next_tray → IsGood before thread (malloc_made name s)
unfolding malloc_made fitting
good_block before thread name s named free now = record {
  call = (named, size_within (draw (behind_draw s).seed) (draw s.seed % 16));
  suits = rw free refl;
  posted = tt;
  follows = λ number. Follows-plain before (line_with thread number (malloc_made name s).0) s.queues s.next_tray (record { goes_on = refl; posts_none = λ tray. refl; takes_none = λ tray. refl }) now;
}

good_taking : (queue : List ℕ) (before : List Line) (thread name : ℕ) (s : State) → queue_of s.queues thread ≡ queue → thread < 4 → IsName 1 name → is_held thread name before ≡ false → Follows before s.queues s.next_tray → IsGood before thread (unheld_made queue thread name s)
unfolding unheld_made fitting
good_taking [] before thread name s e lt named free now = good_block before thread name s named free now
good_taking (tray ∷ others) before thread name s e lt named free now =
    let taken = λ (number : ℕ). Follows-take before (line_with thread number (Take name tray)) s.queues s.next_tray thread name tray others refl lt e now in
    record {
      call = (named, (taken 0).few);
      suits = rw (free, (taken 0).fresh) refl;
      posted = (taken 0).posted;
      follows = λ number. (taken number).follows;
    }

good_post : (before : List Line) (thread name : ℕ) (s : State) → s.next_tray ≤ 65535 → IsName 1 name → is_held thread name before ≡ true → Follows before s.queues s.next_tray → IsGood before thread (post_made thread name s)
unfolding post_made fitting
good_post before thread name s few named held now =
    let posted = λ (number : ℕ). Follows-post before (line_with thread number (Post name s.next_tray)) s.queues s.next_tray (receiver_of thread) name refl few (thread_within (thread + 1)) now in
    record {
      call = (named, few);
      suits = rw (held, (posted 0).fresh) refl;
      posted = tt;
      follows = λ number. (posted number).follows;
    }

good_resize : (before : List Line) (thread name : ℕ) (s : State) → IsName 1 name → is_held thread name before ≡ true → Follows before s.queues s.next_tray → IsGood before thread (realloc_made name s)
unfolding realloc_made fitting
good_resize before thread name s named held now = record {
  call = (named, omega (arith, mod-lt (draw s.seed) {m = 4096} (omega arith)));
  suits = rw held refl;
  posted = tt;
  follows = λ number. Follows-plain before (line_with thread number (realloc_made name s).0) s.queues s.next_tray (record { goes_on = refl; posts_none = λ tray. refl; takes_none = λ tray. refl }) now;
}

good_free : (before : List Line) (thread name : ℕ) (s : State) → IsName 1 name → is_held thread name before ≡ true → Follows before s.queues s.next_tray → IsGood before thread (Free name, s)
unfolding fitting
good_free before thread name s named held now = record {
  call = named;
  suits = rw held refl;
  posted = tt;
  follows = λ number. Follows-plain before (line_with thread number (Free name)) s.queues s.next_tray (record { goes_on = refl; posts_none = λ tray. refl; takes_none = λ tray. refl }) now;
}

good_using : (resizes posts : Bool) (before : List Line) (thread name : ℕ) (s : State) → (posts ≡ true → s.next_tray ≤ 65535) → IsName 1 name → is_held thread name before ≡ true → Follows before s.queues s.next_tray → IsGood before thread (cond resizes (realloc_made name s) (cond posts (post_made thread name s) (Free name, s)))
good_using true posts before thread name s few named held now = good_resize before thread name s named held now
good_using false true before thread name s few named held now = good_post before thread name s (few refl) named held now
good_using false false before thread name s few named held now = good_free before thread name s named held now

good_call : (held : Bool) (before : List Line) (thread name : ℕ) (s : State) → is_held thread name before ≡ held → thread < 4 → IsName 1 name → Follows before s.queues s.next_tray → IsGood before thread (call_made held thread name s)
unfolding call_made held_made
good_call true before thread name s is lt named now =
    let kind = draw s.seed % 8 in
    good_using (kind == 0) (kind == 1 && leb s.next_tray 65535) before thread name (behind_draw s) (λ e. leb-true s.next_tray 65535 (and_parts (kind == 1) (leb s.next_tray 65535) e).1) named is now
good_call false before thread name s is lt named now = good_taking (queue_of s.queues thread) before thread name s refl lt named is now

-- ---- and so does the line

record IsGoodLine (before : List Line) (made : Line × State) : Type 0 where
  fits : Fits 1 before made.0
  posted : IsPosted before made.0.call
  follows : Follows (before ++ made.0 ∷ []) made.1.queues made.1.next_tray

good_line : (before : List Line) (s : State) → Follows before s.queues s.next_tray → IsGoodLine before (line_made before s)
unfolding line_made
good_line before s now =
    let thread = draw s.seed % 4 in
    let name = draw (behind_draw s).seed % 1024 + 1 in
    let lt = thread_within (draw s.seed) in
    let made = good_call (is_held thread name before) before thread name (behind_draw (behind_draw s)) refl lt (name_within (draw (behind_draw s).seed)) now in
    record {
      fits = record { number = refl; thread = omega (arith, lt); goes_on = now.ended thread; call = made.call; suits = made.suits };
      posted = made.posted;
      follows = made.follows (place_after before);
    }

-- ---- all lines

AllFit-push : (before lines : List Line) (line : Line) → AllFit 1 before lines → Fits 1 (before ++ lines) line → AllFit 1 before (lines ++ line ∷ [])
unfolding AllFit
AllFit-push before [] line fit more = (rw append-nil at more, tt)
AllFit-push before (first ∷ lines) line fit more = (fit.0, AllFit-push (before ++ first ∷ []) lines line fit.1 (rw append_assoc more))

AllPosted-push : (before lines : List Line) (line : Line) → AllPosted before lines → IsPosted (before ++ lines) line.call → AllPosted before (lines ++ line ∷ [])
unfolding AllPosted
AllPosted-push before [] line fit more = (rw append-nil at more, tt)
AllPosted-push before (first ∷ lines) line fit more = (fit.0, AllPosted-push (before ++ first ∷ []) lines line fit.1 (rw append_assoc more))

more_good : (count : ℕ) (before : List Line) (s : State) → AllFit 1 [] before → TakesPosted before → Follows before s.queues s.next_tray → AllFit 1 [] (more_lines before s count) × TakesPosted (more_lines before s count)
unfolding more_lines
more_good zero before s fit posted now = (fit, posted)
more_good (suc count) before s fit posted now =
    let made = line_made before s in
    let good = good_line before s now in
    more_good count (before ++ made.0 ∷ []) made.1 (AllFit-push [] before made.0 fit good.fits) (AllPosted-push [] before made.0 posted good.posted) good.follows

pub lines_made_allowed : (seed count : ℕ) → Allows 1 (lines_made seed count)
unfolding lines_made AllFit AllPosted
lines_made_allowed seed count = ((omega arith, omega arith), (more_good count [] (first_state seed) tt tt Follows-none).0)

pub lines_made_posted : (seed count : ℕ) → TakesPosted (lines_made seed count)
unfolding lines_made AllFit AllPosted
lines_made_posted seed count = (more_good count [] (first_state seed) tt tt Follows-none).1
