-- Laws of replays, for this crate and those above it: a journal with one entry more.
use Rattle.std.proofs.Common.{◌≡◌, ℕ, Bool, true, false, cond, List, [], ◌∷◌, ◌++◌, Option, Some, None, refl, ap, ◌∙◌}
use Rattle.std.specs.Prelude.{option_and_then, nat_eq}
use Rattle.std.proofs.lemmas.Bool.{eq-eqb}
use Rattle.chunk_tags.specs.declared.tunables.Tunables.{Tunables}
use Rattle.arena_rules.specs.declared.said.Said.{Said}
use Rattle.arena_rules.specs.PlainArena.{Plain}
use Rattle.arena_rules.specs.Rules.{Rules, end_of_rules, left_by_rules}
use Rattle.arena_rules.specs.Growth.{Found, InArena, InMapping, Nowhere, Took}
use Rattle.arena_core.specs.declared.journal.Who.{Who}
use Rattle.arena_core.specs.declared.journal.Act.{Act}
use Rattle.arena_core.specs.declared.journal.Act.TheVariants.{Give}
use Rattle.arena_core.specs.declared.journal.Ended.{Ended}
use Rattle.arena_core.specs.declared.journal.Ended.TheVariants.{Got, Done, Refused, Short}
use Rattle.arena_core.specs.Journal.{Recorded}
use Rattle.arena_core.specs.Replay.{rules_of, is_possible, ended_of, same_end, arena_ended, arena_after, next_arena, replayed, IsReplay}

replayed_more : (t : Tunables) (a : Option Plain) (es : List Recorded) (e : Recorded) → replayed t a (es ++ e ∷ []) ≡ option_and_then (next_arena t e) (replayed t a es)
replayed_more t None [] e = refl
replayed_more t (Some a) [] e = refl
replayed_more t None (x ∷ xs) e = refl
replayed_more t (Some a) (x ∷ xs) e = replayed_more t (next_arena t x a) xs e

pub replay_more : (t : Tunables) (start : Plain) (es : List Recorded) (a b : Plain) (e : Recorded) → IsReplay t start es a → next_arena t e a ≡ Some b → IsReplay t start (es ++ e ∷ []) b
replay_more t start es a b e r next = record { gives = replayed_more t (Some start) es e ∙ (ap (option_and_then (next_arena t e)) r.gives ∙ next) }

abbrev same_number : (n : ℕ) → nat_eq n n ≡ true
same_number n = eq-eqb n n refl

-- an end is the same as itself
end_itself : (e : Ended) → same_end e e ≡ true
end_itself (Got at size true) = rw (same_number at, same_number size) refl
end_itself (Got at size false) = rw (same_number at, same_number size) refl
end_itself Done = refl
end_itself Refused = refl
end_itself Short = refl

-- an act ended as it did
took_after : (act : Act) (found : Found) (a : Plain) (r : Option Took) → r ≡ Some (record { found = found; arena = a }) → arena_ended act (ended_of act found) r ≡ Some a
took_after act found a r e =
    let took : Took = record { found = found; arena = a } in
    ap (arena_ended act (ended_of act found)) e ∙ ap (λ (b : Bool). cond b (Some took.arena) None) (end_itself (ended_of act found))

-- it didn't end short of memory
after_ended : (t : Tunables) (act : Act) (found : Found) (r : Rules Took) (said : List Said) → arena_after t act (ended_of act found) r said ≡ arena_ended act (ended_of act found) (end_of_rules t r said)
after_ended t (Give at size) found r said = refl
after_ended t act (InArena c) r said = refl
after_ended t act (InMapping c) r said = refl
after_ended t act Nowhere r said = refl

-- a hold that its rules ended
pub next_done : (t : Tunables) (who : Who) (act : Act) (said : List Said) (found : Found) (a b : Plain) → is_possible t (record { who = who; act = act; said = said; ended = ended_of act found }) a ≡ true → end_of_rules t (rules_of t act a) said ≡ Some (record { found = found; arena = b }) →
    next_arena t (record { who = who; act = act; said = said; ended = ended_of act found }) a ≡ Some b
next_done t who act said found a b may end =
    ap (λ (q : Bool). cond q (arena_after t act (ended_of act found) (rules_of t act a) said) None) may ∙ (after_ended t act found (rules_of t act a) said ∙ took_after act found b (end_of_rules t (rules_of t act a) said) end)

-- a hold that was left for want of memory
pub next_short : (t : Tunables) (who : Who) (act : Act) (said : List Said) (a b : Plain) → is_possible t (record { who = who; act = act; said = said; ended = Short }) a ≡ true → left_by_rules t (rules_of t act a) said ≡ Some b →
    next_arena t (record { who = who; act = act; said = said; ended = Short }) a ≡ Some b
next_short t who act said a b may left = ap (λ (q : Bool). cond q (left_by_rules t (rules_of t act a) said) None) may ∙ left
