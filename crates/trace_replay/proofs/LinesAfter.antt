-- Line by line: what names and trays hold, and that blocks fit.
use Rattle.std.proofs.Common.{◌≡◌, ℕ, zero, suc, ◌+◌, ◌<◌, inl, inr, Bool, true, false, ◌||◌, cond, eqb, List, [], ◌∷◌, ◌++◌, Option, Some, Ok, length, get_or, take, refl, sym, ap, ◌∙◌, subst, arith, append-nil, append_assoc, eq-eqb}
use Rattle.std.specs.Prelude.{slice_get, slice_set}
use Rattle.std.specs.List.{list_any}
use Rattle.std.proofs.lemmas.Bool.Decides.{nat_tests}
use Rattle.std.proofs.lemmas.List.Sums.{fold-append}
use Rattle.std.proofs.lemmas.Option.{slice_get_within, get_or_from_slice_get}
use Rattle.block_names.specs.Names.{block_at}
use Rattle.own_blocks.specs.declared.reply.Reply.{Reply}
use Rattle.trace_text.specs.declared.trace.Call.{Call}
use Rattle.trace_text.specs.declared.trace.Call.TheVariants.{Malloc, Calloc, Align, Post, Take}
use Rattle.trace_text.specs.declared.trace.Line.{Line}
use Rattle.trace_text.specs.Before.{held_after, is_held, is_post, was_posted}
use Rattle.trace_text.specs.Grammar.{fitting, fault_if, ◌>>=◌}
use Rattle.trace_text.specs.declared.fault.BadWhy.{BadWhy}
use Rattle.trace_text.specs.declared.fault.BadWhy.TheVariants.{Held, NotHeld, TrayTwice}
use Rattle.trace_text.specs.Spelling.{Fits, AllFit, Allows}
use Rattle.trace_text.proofs.Before.{is_held_push}
use Rattle.trace_text.proofs.NextLines.{take_next}
use Rattle.trace_replay.specs.Naming.{HoldsWithin, IsFree, MayRun, FitsThread, LeavesLine}
use Rattle.trace_replay.specs.Tiling.{Wanted, Wishes, wished_after, no_wishes, wishes_of, named_next, IsFit, FitsWithin}
use Rattle.trace_replay.specs.World.{World, ThreadWorld}
use Rattle.trace_replay.proofs.Sums.{either_at}

-- ---- one line more

or_nothing : (x : Bool) → (x || false) ≡ x
or_nothing true = refl
or_nothing false = refl

or_assoc : (x y z : Bool) → (x || (y || z)) ≡ ((x || y) || z)
or_assoc true y z = refl
or_assoc false y z = refl

other_thread : (a b : ℕ) → (b ≡ a → ⊥) → eqb a b ≡ false
other_thread a b other = grind (arith, nat_tests)

any_push : {X : Type 0} (p : X → Bool) (xs : List X) (x : X) → list_any p (xs ++ x ∷ []) ≡ (list_any p xs || p x)
any_push p [] x = or_nothing (p x)
any_push p (y ∷ ys) x = ap (λ v. p y || v) (any_push p ys x) ∙ or_assoc (p y) (list_any p ys) (p x)

was_posted_push : (tray : ℕ) (before : List Line) (line : Line) → was_posted tray (before ++ line ∷ []) ≡ (was_posted tray before || is_post tray line.call)
unfolding was_posted
was_posted_push tray before line = any_push (λ (l : Line). is_post tray l.call) before line

neither : (x y : Bool) → (x || y) ≡ false → (x ≡ false) × (y ≡ false)
neither true y h = absurd cc
neither false y h = (refl, h)

pub wishes_push : (replies : List (Line × Reply)) (x : Line × Reply) → wishes_of (replies ++ x ∷ []) ≡ wished_after (wishes_of replies) x
unfolding wishes_of
wishes_push replies x = fold-append wished_after no_wishes replies (x ∷ [])

pub no_replies : wishes_of [] ≡ no_wishes
unfolding wishes_of
no_replies = refl

-- a name of another thread
other_wish : (w : Wishes) (line : Line) (reply : Reply) (thread n : ℕ) → (thread ≡ line.thread → ⊥) → (wished_after w (line, reply)).named thread n ≡ w.named thread n
other_wish w line reply thread n other =
    let e : eqb line.thread thread ≡ false = grind (arith, nat_tests) in
    ap (λ v. cond v (named_next w n line.call reply (w.named thread n)) (w.named thread n)) e

pub holds_after : {K : Type 0} (before : List Line) (line : Line) (reply : Reply) (w now : World K) → HoldsWithin before w → LeavesLine line reply w now → HoldsWithin (before ++ line ∷ []) now
holds_after {K = K} before line reply w now holds leaves = record {
  named = λ thread name th at not_held.
      let was : Bool = is_held thread name before in
      let h : cond (eqb line.thread thread) (held_after name was line.call) was ≡ false = sym (is_held_push thread name before line) ∙ not_held in
      let at_set : slice_get (slice_set w.threads line.thread leaves.new) thread ≡ Some th = ap (λ (ts : List (ThreadWorld K)). slice_get ts thread) (sym leaves.threads) ∙ at in
      elim (either_at w.threads line.thread thread leaves.new th (slice_get_within w.threads line.thread leaves.old leaves.thread) at_set) [
        | inl here ↦
            let e : eqb line.thread thread ≡ true = eq-eqb line.thread thread (sym here.0) in
            let own_held : held_after name was line.call ≡ false = sym (ap (λ v. cond v (held_after name was line.call) was) e) ∙ h in
            ap (λ (x : ThreadWorld K). block_at x.own.names name) here.1
            ∙ leaves.blocks.held name was (λ free. holds.named thread name leaves.old (ap (slice_get w.threads) here.0 ∙ leaves.thread) free) own_held
        | inr other ↦
            let e : eqb line.thread thread ≡ false = other_thread line.thread thread other.0 in
            holds.named thread name th other.1 (sym (ap (λ v. cond v (held_after name was line.call) was) e) ∙ h)
      ];
  posted = λ tray not_posted.
      let parts = neither (was_posted tray before) (is_post tray line.call) (sym (was_posted_push tray before line) ∙ not_posted) in
      leaves.blocks.empty tray parts.1 (holds.posted tray parts.0);
}

pub fits_after : {K : Type 0} (wishes : Wishes) (line : Line) (reply : Reply) (w now : World K) → FitsWithin wishes w → LeavesLine line reply w now → FitsWithin (wished_after wishes (line, reply)) now
fits_after {K = K} wishes line reply w now fit leaves =
    let own : FitsThread wishes line.thread leaves.old.own.names w.trays = record {
      named = λ name b is. fit.named line.thread name b (record { owner = leaves.old; owns = leaves.thread; names = is });
      posted = fit.posted;
    } in
    let after : FitsThread (wished_after wishes (line, reply)) line.thread leaves.new.own.names now.trays = leaves.blocks.fit wishes own in
    record {
      named = λ thread name b has.
          let at_set : slice_get (slice_set w.threads line.thread leaves.new) thread ≡ Some has.owner = ap (λ (ts : List (ThreadWorld K)). slice_get ts thread) (sym leaves.threads) ∙ has.owns in
          elim (either_at w.threads line.thread thread leaves.new has.owner (slice_get_within w.threads line.thread leaves.old leaves.thread) at_set) [
            | inl here ↦
                subst (λ n. IsFit ((wished_after wishes (line, reply)).named n name) b) (sym here.0)
                (after.named name b (ap (λ (x : ThreadWorld K). block_at x.own.names name) (sym here.1) ∙ has.names))
            | inr other ↦
                subst (λ (o : Option Wanted). IsFit o b) (sym (other_wish wishes line reply thread name other.0))
                (fit.named thread name b (record { owner = has.owner; owns = other.1; names = has.names }))
          ];
      posted = after.posted;
    }

-- ---- a line that may be run

not_faulty : (faulty : Bool) (why : BadWhy) → fault_if faulty why ≡ Ok tt → faulty ≡ false
not_faulty true why h = absurd cc
not_faulty false why h = refl

-- the second of two tests
second_ok : (first second : Bool) (a b : BadWhy) → (fault_if first a >>= (λ u. fault_if second b)) ≡ Ok tt → second ≡ false
second_ok true second a b h = absurd cc
second_ok false second a b h = not_faulty second b h

first_ok : (first second : Bool) (a b : BadWhy) → (fault_if first a >>= (λ u. fault_if second b)) ≡ Ok tt → first ≡ false
first_ok true second a b h = absurd cc
first_ok false second a b h = refl

free_of : {K : Type 0} (before : List Line) (thread : ℕ) (call : Call) (w : World K) (th : ThreadWorld K) → fitting before thread call ≡ Ok tt → HoldsWithin before w → slice_get w.threads thread ≡ Some th →
    IsFree call th.own.names w.trays
unfolding fitting
free_of before thread (Malloc name size) w th fit holds at = holds.named thread name th at (not_faulty (is_held thread name before) Held fit)
free_of before thread (Calloc name n size) w th fit holds at = holds.named thread name th at (not_faulty (is_held thread name before) Held fit)
free_of before thread (Align name align size) w th fit holds at = holds.named thread name th at (not_faulty (is_held thread name before) Held fit)
free_of before thread (Post name tray) w th fit holds at = holds.posted tray (second_ok _ (was_posted tray before) NotHeld TrayTwice fit)
free_of before thread (Take name tray) w th fit holds at = holds.named thread name th at (first_ok (is_held thread name before) _ Held TrayTwice fit)
free_of before thread call w th fit holds at = tt

-- one that fits the lines before it may be run
pub may_run : {K : Type 0} (version : ℕ) (before : List Line) (line : Line) (w : World K) → Fits version before line → HoldsWithin before w → MayRun line w
may_run version before line w fit holds = record {
  thread = fit.thread;
  may = λ th at. record { version = version; call = fit.call; free = free_of before line.thread line.call w th fit.suits holds at };
}

-- the line at a place fits those before it
fits_from : (version : ℕ) (before lines : List Line) (i : ℕ) (d : Line) → AllFit version before lines → i < length lines → Fits version (before ++ take i lines) (get_or lines i d)
unfolding AllFit
fits_from version before [] i d fit lt = absurd (omega arith)
fits_from version before (line ∷ lines) zero d fit lt = subst (λ b. Fits version b line) (sym (append-nil before)) fit.0
fits_from version before (line ∷ lines) (suc i) d fit lt =
    subst (λ b. Fits version b (get_or lines i d)) (append_assoc before (line ∷ []) (take i lines)) (fits_from version (before ++ line ∷ []) lines i d fit.1 (omega arith))

pub fits_at : (version : ℕ) (lines : List Line) (i : ℕ) (line : Line) → Allows version lines → slice_get lines i ≡ Some line → Fits version (take i lines) line
fits_at version lines i line fit at =
    subst (Fits version (take i lines)) (get_or_from_slice_get lines i line line at) (fits_from version [] lines i line fit.1 (slice_get_within lines i line at))

-- one line more
pub holds_next : {K : Type 0} (lines : List Line) (i : ℕ) (line : Line) (reply : Reply) (w now : World K) → slice_get lines i ≡ Some line → HoldsWithin (take i lines) w →
    LeavesLine line reply w now → HoldsWithin (take (i + 1) lines) now
holds_next lines i line reply w now at holds leaves =
    subst (λ b. HoldsWithin b now) (sym (take_next lines i line at)) (holds_after (take i lines) line reply w now holds leaves)
