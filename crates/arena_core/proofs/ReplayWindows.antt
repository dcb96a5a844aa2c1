-- A main arena that is the replay of its journal lies in its windows (public for the crates above).
use Rattle.std.proofs.Common.{◌≡◌, Bool, true, false, List, [], ◌∷◌, Option, Some, None, refl, subst, arith}
use Rattle.std.specs.Prelude.{if◌then◌else◌, IfSome}
use Rattle.chunk_tags.specs.declared.tunables.Tunables.{Tunables}
use Rattle.arena_rules.specs.declared.said.Said.{Said}
use Rattle.arena_rules.specs.PlainArena.{Plain, empty_main}
use Rattle.arena_rules.specs.Rules.{Rules, Stop, Misfit, Does, Needs, fits, end_of_rules, left_by_rules}
use Rattle.arena_rules.specs.Release.{given}
use Rattle.arena_rules.specs.Growth.{Took, opened}
use Rattle.arena_rules.specs.MainWindows.{IsInMainWindows, KeepsWindows}
use Rattle.arena_rules.proofs.MainWindows.{TookIn, MaybeIn, windows_behind, given_in, opened_in, searched_in, resize_in, align_in}
use Rattle.arena_core.specs.declared.journal.Act.{Act}
use Rattle.arena_core.specs.declared.journal.Act.TheVariants.{Open, Take, Give, Resize, Align}
use Rattle.arena_core.specs.declared.journal.Ended.{Ended}
use Rattle.arena_core.specs.declared.journal.Ended.TheVariants.{Got, Done, Refused, Short}
use Rattle.arena_core.specs.Journal.{Recorded}
use Rattle.arena_core.specs.Replay.{chunk_at, found_nothing, rules_of, is_possible, ended_of, same_end, arena_ended, arena_after, next_arena, replayed, IsReplay}

-- ---- the rules of an act

rules_in : (t : Tunables) (act : Act) (a : Plain) → IsInMainWindows t a → KeepsWindows t (TookIn t) (rules_of t act a)
rules_in t (Open bytes) a w =
    let after : Option Plain → Rules Took = λ o. elim o [ Some b ↦ Stop (found_nothing b) | None ↦ Misfit ] in
    let ends : (o : Option Plain) → MaybeIn t o → KeepsWindows t (TookIn t) (after o) = elim [ None ↦ λ u. tt | Some b ↦ λ v. v ] in
    windows_behind t (MaybeIn t) (TookIn t) (opened t bytes a) after (opened_in t bytes a w) ends
rules_in t (Take nb) a w = searched_in t nb a w
rules_in t (Give at size) a w =
    windows_behind t (IsInMainWindows t) (TookIn t) (given t a (chunk_at at size)) (λ b. Stop (found_nothing b)) (given_in t a (chunk_at at size) w) (λ b v. v)
rules_in t (Resize at size nb) a w = resize_in t a (chunk_at at size) nb w
rules_in t (Align align nb) a w = align_in t align nb a w

-- ---- what they come to

ends_in : {A : Type 0} (t : Tunables) (P : A → Type 0) (r : Rules A) (ss : List Said) → KeepsWindows t P r → IfSome (end_of_rules t r ss) P
ends_in t P (Stop x) [] h = h
ends_in t P (Stop x) (s ∷ ss) h = tt
ends_in t P Misfit ss h = tt
ends_in t P (Does d r) ss h = ends_in t P r ss h
ends_in t P (Needs a n f) [] h = tt
ends_in t P (Needs a n f) (s ∷ ss) h =
    let cases : (b : Bool) → fits t n s ≡ b → IfSome (if b then end_of_rules t (f s) ss else None) P = elim [
      | true ↦ λ is. ends_in t P (f s) ss (h.1 s is)
      | false ↦ λ is. tt
    ] in
    cases (fits t n s) refl

left_in : {A : Type 0} (t : Tunables) (P : A → Type 0) (r : Rules A) (ss : List Said) → KeepsWindows t P r → IfSome (left_by_rules t r ss) (IsInMainWindows t)
left_in t P (Stop x) ss h = tt
left_in t P Misfit ss h = tt
left_in t P (Does d r) ss h = left_in t P r ss h
left_in t P (Needs a n f) [] h = h.0
left_in t P (Needs a n f) (s ∷ ss) h =
    let cases : (b : Bool) → fits t n s ≡ b → IfSome (if b then left_by_rules t (f s) ss else None) (IsInMainWindows t) = elim [
      | true ↦ λ is. left_in t P (f s) ss (h.1 s is)
      | false ↦ λ is. tt
    ] in
    cases (fits t n s) refl

ended_in : (t : Tunables) (act : Act) (ended : Ended) (o : Option Took) → IfSome o (TookIn t) → IfSome (arena_ended act ended o) (IsInMainWindows t)
ended_in t act ended None h = tt
ended_in t act ended (Some took) h =
    let cases : (b : Bool) → IfSome (if b then Some took.arena else None) (IsInMainWindows t) = elim [ true ↦ h | false ↦ tt ] in
    cases (same_end (ended_of act took.found) ended)

after_in : (t : Tunables) (act : Act) (ended : Ended) (r : Rules Took) (said : List Said) → KeepsWindows t (TookIn t) r → IfSome (arena_after t act ended r said) (IsInMainWindows t)
after_in t act (Got at size mapped) r said h = ended_in t act (Got at size mapped) (end_of_rules t r said) (ends_in t (TookIn t) r said h)
after_in t act Done r said h = ended_in t act Done (end_of_rules t r said) (ends_in t (TookIn t) r said h)
after_in t act Refused r said h = ended_in t act Refused (end_of_rules t r said) (ends_in t (TookIn t) r said h)
after_in t act Short r said h = left_in t (TookIn t) r said h

-- ---- a journal

next_in : (t : Tunables) (e : Recorded) (a : Plain) → IsInMainWindows t a → IfSome (next_arena t e a) (IsInMainWindows t)
next_in t e a w =
    let cases : (b : Bool) → IfSome (if b then arena_after t e.act e.ended (rules_of t e.act a) e.said else None) (IsInMainWindows t) = elim [
      | true ↦ after_in t e.act e.ended (rules_of t e.act a) e.said (rules_in t e.act a w)
      | false ↦ tt
    ] in
    cases (is_possible t e a)

replayed_in : (t : Tunables) (es : List Recorded) (o : Option Plain) → IfSome o (IsInMainWindows t) → IfSome (replayed t o es) (IsInMainWindows t)
replayed_in t [] o h = h
replayed_in t (e ∷ es) None h = tt
replayed_in t (e ∷ es) (Some a) h = replayed_in t es (next_arena t e a) (next_in t e a h)

-- An arena that was in its windows when its journal began is there still.
pub replay_in_windows : (t : Tunables) (start : Plain) (journal : List Recorded) (a : Plain) → IsInMainWindows t start → IsReplay t start journal a → IsInMainWindows t a
replay_in_windows t start journal a w is =
    subst (λ (o : Option Plain). IfSome o (IsInMainWindows t)) is.gives (replayed_in t journal (Some start) w)

-- Main, from its first growth on.
pub main_in_windows : (t : Tunables) (journal : List Recorded) (a : Plain) → IsReplay t empty_main journal a → IsInMainWindows t a
main_in_windows t journal a is = replay_in_windows t empty_main journal a (record { break = omega arith; pieces = omega arith }) is
