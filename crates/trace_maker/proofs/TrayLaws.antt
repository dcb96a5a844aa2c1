-- Trays that wait: each was posted, none was taken yet, and none waits twice.
use Rattle.std.proofs.Common.{◌≡◌, ◌==◌, ◌+◌, ◌<◌, ◌≤◌, ℕ, Bool, true, false, ◌&&◌, ◌||◌, cond, eqb, ltb, List, [], ◌∷◌, ◌++◌, set, length, refl, arith, ap, ◌∙◌}
use Rattle.std.specs.List.{list_any, sum_by}
use Rattle.std.proofs.lemmas.Bool.Decides.{nat_tests}
use Rattle.std.proofs.lemmas.Bool.{ltb-true}
use Rattle.std.proofs.lemmas.List.{length-set}
use Rattle.std.proofs.lemmas.List.Sums.{sum_by-set, sum_by-cons, sum_by-append}
use Rattle.trace_text.specs.declared.trace.Call.{Call}
use Rattle.trace_text.specs.declared.trace.Call.TheVariants.{Post, Take}
use Rattle.trace_text.specs.declared.trace.Line.{Line}
use Rattle.trace_text.specs.Before.{is_exit, has_ended, is_post, was_posted, is_take, was_taken}
use Rattle.trace_maker.specs.Generator.{queue_of}

abbrev pub bit : Bool → ℕ
bit b = cond b 1 0

-- how often a tray waits in a queue, and in all of them
abbrev times : ℕ → List ℕ → ℕ
times tray queue = sum_by (λ t. bit (t == tray)) queue

abbrev pub waits : ℕ → List (List ℕ) → ℕ
waits tray queues = sum_by (times tray) queues

-- what queues and the next tray have to do with the lines made so far
pub record Follows (before : List Line) (queues : List (List ℕ)) (next : ℕ) : Type 0 where
  pub width : length queues ≡ 4
  pub few : next ≤ 65536
  pub ended : (thread : ℕ) → has_ended thread before ≡ false
  pub posted : (tray : ℕ) → was_posted tray before ≡ ltb tray next
  pub waiting : (tray : ℕ) → waits tray queues + bit (was_taken tray before) ≤ bit (ltb tray next)

any_push : {X : Type 0} (p : X → Bool) (xs : List X) (x : X) → list_any p (xs ++ x ∷ []) ≡ (list_any p xs || p x)
any_push p [] x = elim (p x) as (λ b. (b || false) ≡ b) [ true ↦ refl | false ↦ refl ]
any_push p (y ∷ ys) x = elim (p y) as (λ b. (b || list_any p (ys ++ x ∷ [])) ≡ ((b || list_any p ys) || p x)) [ true ↦ refl | false ↦ any_push p ys x ]

has_ended_push : (thread : ℕ) (before : List Line) (line : Line) → has_ended thread (before ++ line ∷ []) ≡ (has_ended thread before || (is_exit line.call && line.thread == thread))
unfolding has_ended
has_ended_push thread before line = any_push (λ (l : Line). is_exit l.call && l.thread == thread) before line

was_posted_push : (tray : ℕ) (before : List Line) (line : Line) → was_posted tray (before ++ line ∷ []) ≡ (was_posted tray before || is_post tray line.call)
unfolding was_posted
was_posted_push tray before line = any_push (λ (l : Line). is_post tray l.call) before line

was_taken_push : (tray : ℕ) (before : List Line) (line : Line) → was_taken tray (before ++ line ∷ []) ≡ (was_taken tray before || is_take tray line.call)
unfolding was_taken
was_taken_push tray before line = any_push (λ (l : Line). is_take tray l.call) before line

or_false : (a : Bool) → (a || false) ≡ a
or_false true = refl
or_false false = refl

pub Follows-none : Follows [] ([] ∷ [] ∷ [] ∷ [] ∷ []) 0
unfolding has_ended was_posted was_taken
Follows-none = record {
  width = refl;
  few = omega arith;
  ended = λ thread. refl;
  posted = λ tray. grind (arith, nat_tests);
  waiting = λ tray. grind (arith, nat_tests);
}

-- a call that has nothing to do with trays, and ends nothing
pub record IsPlain (call : Call) : Type 0 where
  pub goes_on : is_exit call ≡ false
  pub posts_none : (tray : ℕ) → is_post tray call ≡ false
  pub takes_none : (tray : ℕ) → is_take tray call ≡ false

goes_on : (before : List Line) (line : Line) (thread : ℕ) → is_exit line.call ≡ false → has_ended thread before ≡ false → has_ended thread (before ++ line ∷ []) ≡ false
goes_on before line thread plain none = has_ended_push thread before line ∙ rw (plain, none) refl

posts_none : (before : List Line) (line : Line) (tray : ℕ) → is_post tray line.call ≡ false → was_posted tray (before ++ line ∷ []) ≡ was_posted tray before
posts_none before line tray plain = was_posted_push tray before line ∙ rw plain (or_false (was_posted tray before))

takes_none : (before : List Line) (line : Line) (tray : ℕ) → is_take tray line.call ≡ false → was_taken tray (before ++ line ∷ []) ≡ was_taken tray before
takes_none before line tray plain = was_taken_push tray before line ∙ rw plain (or_false (was_taken tray before))

pub Follows-plain : (before : List Line) (line : Line) (queues : List (List ℕ)) (next : ℕ) → IsPlain line.call → Follows before queues next → Follows (before ++ line ∷ []) queues next
Follows-plain before line queues next plain now = record {
  width = now.width;
  few = now.few;
  ended = λ thread. goes_on before line thread plain.goes_on (now.ended thread);
  posted = λ tray. posts_none before line tray (plain.posts_none tray) ∙ now.posted tray;
  waiting = λ tray. rw (takes_none before line tray (plain.takes_none tray)) (now.waiting tray);
}

-- ---- the oldest tray of a queue is taken

pub record IsTaken (before : List Line) (line : Line) (queues : List (List ℕ)) (next tray : ℕ) : Type 0 where
  pub few : tray ≤ 65535
  pub fresh : was_taken tray before ≡ false
  pub posted : was_posted tray before ≡ true
  pub follows : Follows (before ++ line ∷ []) queues next

-- a tray less in a queue, and in all of them
less_one : (tray : ℕ) (queues : List (List ℕ)) (thread oldest : ℕ) (others : List ℕ) → thread < length queues → queue_of queues thread ≡ oldest ∷ others → waits tray (set queues thread others) + bit (oldest == tray) ≡ waits tray queues
less_one tray queues thread oldest others lt e =
    let replaced = sum_by-set (times tray) queues thread others [] lt in
    let front = sum_by-cons (λ t. bit (t == tray)) oldest others in
    let all : waits tray (set queues thread others) + times tray (oldest ∷ others) ≡ waits tray queues + times tray others = rw e at replaced in
    omega (arith, all, front)

-- one may wait less where one more is taken
still_within : (taken now : Bool) (all fewer limit : ℕ) → fewer + bit now ≡ all → all + bit taken ≤ limit → fewer + bit (taken || now) ≤ limit
still_within true true all fewer limit e h = omega arith
still_within true false all fewer limit e h = omega arith
still_within false true all fewer limit e h = omega arith
still_within false false all fewer limit e h = omega arith

-- a tray that waits was posted and wasn't taken
waiting_one : (taken : Bool) (all fewer tray next : ℕ) → fewer + 1 ≡ all → all + bit taken ≤ bit (ltb tray next) → (taken ≡ false) × (ltb tray next ≡ true)
waiting_one true all fewer tray next e h = absurd (grind (arith, nat_tests))
waiting_one false all fewer tray next e h = (refl, grind (arith, nat_tests))

same_number : (n : ℕ) → eqb n n ≡ true
same_number n = grind (arith, nat_tests)

pub Follows-take : (before : List Line) (line : Line) (queues : List (List ℕ)) (next thread name oldest : ℕ) (others : List ℕ) → line.call ≡ Take name oldest → thread < 4 → queue_of queues thread ≡ oldest ∷ others → Follows before queues next → IsTaken before line (set queues thread others) next oldest
Follows-take before line queues next thread name oldest others is lt e now =
    let within : thread < length queues = omega (arith, now.width, lt) in
    let less = λ (tray : ℕ). less_one tray queues thread oldest others within e in
    let own : waits oldest (set queues thread others) + 1 ≡ waits oldest queues = rw (same_number oldest) at (less oldest) in
    let waited = waiting_one (was_taken oldest before) (waits oldest queues) (waits oldest (set queues thread others)) oldest next own (now.waiting oldest) in
    record {
      few = omega (arith, ltb-true oldest next waited.1, now.few);
      fresh = waited.0;
      posted = now.posted oldest ∙ waited.1;
      follows = record {
        width = length-set queues thread others ∙ now.width;
        few = now.few;
        ended = λ any. goes_on before line any (ap is_exit is) (now.ended any);
        posted = λ tray. posts_none before line tray (ap (is_post tray) is) ∙ now.posted tray;
        waiting = λ tray.
            rw (was_taken_push tray before line, ap (is_take tray) is)
            (still_within (was_taken tray before) (oldest == tray) (waits tray queues) (waits tray (set queues thread others)) (bit (ltb tray next)) (less tray) (now.waiting tray));
      };
    }

-- ---- a tray is posted

pub record IsPostedNow (before : List Line) (line : Line) (queues : List (List ℕ)) (next : ℕ) : Type 0 where
  pub fresh : was_posted next before ≡ false
  pub follows : Follows (before ++ line ∷ []) queues (next + 1)

-- a tray more in a queue, and in all of them
one_more : (tray : ℕ) (queues : List (List ℕ)) (thread next : ℕ) → thread < length queues → waits tray (set queues thread (queue_of queues thread ++ next ∷ [])) ≡ waits tray queues + bit (next == tray)
one_more tray queues thread next lt =
    let queue = queue_of queues thread in
    let replaced = sum_by-set (times tray) queues thread (queue ++ next ∷ []) [] lt in
    let longer = sum_by-append (λ t. bit (t == tray)) queue (next ∷ []) in
    let last = sum_by-cons (λ t. bit (t == tray)) next [] in
    omega (arith, replaced, longer, last)

next_posted : (tray next : ℕ) → (ltb tray next || eqb next tray) ≡ ltb tray (next + 1)
next_posted tray next = grind (arith, nat_tests)

next_waits : (taken : Bool) (all tray next : ℕ) → all + bit taken ≤ bit (ltb tray next) → all + bit (eqb next tray) + bit taken ≤ bit (ltb tray (next + 1))
next_waits true all tray next h = grind (arith, nat_tests)
next_waits false all tray next h = grind (arith, nat_tests)

not_below : (n : ℕ) → ltb n n ≡ false
not_below n = grind (arith, nat_tests)

pub Follows-post : (before : List Line) (line : Line) (queues : List (List ℕ)) (next thread name : ℕ) → line.call ≡ Post name next → next ≤ 65535 → thread < 4 → Follows before queues next → IsPostedNow before line (set queues thread (queue_of queues thread ++ next ∷ [])) next
Follows-post before line queues next thread name is few lt now =
    let within : thread < length queues = omega (arith, now.width, lt) in
    let queue = queue_of queues thread ++ next ∷ [] in
    record {
      fresh = now.posted next ∙ not_below next;
      follows = record {
        width = length-set queues thread queue ∙ now.width;
        few = omega (arith, few);
        ended = λ any. goes_on before line any (ap is_exit is) (now.ended any);
        posted = λ tray. was_posted_push tray before line ∙ rw (now.posted tray, ap (is_post tray) is) (next_posted tray next);
        waiting = λ tray.
            rw (takes_none before line tray (ap (is_take tray) is), one_more tray queues thread next within)
            (next_waits (was_taken tray before) (waits tray queues) tray next (now.waiting tray));
      };
    }
