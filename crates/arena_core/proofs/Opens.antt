-- Laws of opening another arena, for this crate and those above it.
use Rattle.std.proofs.Common.{◌≡◌, ℕ, ◌^◌, ◌<◌, ◌≤◌, Bool, true, not, ◌&&◌, cond, List, [], ◌∷◌, ◌++◌, Option, Some, None, Result, Ok, Err, refl, sym, ap, ◌∙◌, subst, append-nil, arith}
use Rattle.std.specs.Prelude.{nat_le, OnErr}
use Rattle.std.proofs.lemmas.Bool.{ne_eqb, le-leb}
use Rattle.chunk_tags.specs.declared.refusals.NoMemory.{NoMemory}
use Rattle.chunk_tags.specs.declared.tunables.Tunables.{Tunables}
use Rattle.address_space.specs.Ports.{Port}
use Rattle.address_space.specs.declared.space.Space.{Space}
use Rattle.arena_rules.specs.declared.said.Said.{Said}
use Rattle.arena_rules.specs.PlainArena.{Plain, IsSound}
use Rattle.arena_rules.specs.Growth.{Took, opened}
use Rattle.arena_rules.specs.Rules.{Rules, Stop, Misfit, Asks, end_of_rules}
use Rattle.arena_rules.specs.Walks as walks
use Rattle.arena_rules.specs.Walks.{Walks, Reaches}
use Rattle.arena_rules.proofs.Walks.{short_here, walks_behind, walks_end}
use Rattle.arena_growth.specs.FirstHeap.{asked_ways, closed_arena, Opens, HasFirstHeap}
use Rattle.arena_core.specs.declared.journal.Act.TheVariants.{Open}
use Rattle.arena_core.specs.declared.journal.Ended.TheVariants.{Done}
use Rattle.arena_core.specs.declared.journal.Who.{Who}
use Rattle.arena_core.specs.Arenas.{recorded}
use Rattle.arena_core.specs.Journal.{Recorded}
use Rattle.arena_core.specs.Opening.{OpensAs, OpensShort, RefusesOpening}
use Rattle.arena_core.specs.Replay.{rules_of, found_nothing, is_possible, may_act, arena_ended, IsReplay}
use Rattle.arena_core.specs.Tellings.{Dealings, dealings_with, tells_others}

-- no chunk is told of where only asks are put
tells_none : {K A : Type 0} {port : Port K} {t : Tunables} {r q : Rules A} {s z : Space K} {ss : List Said} (start : Plain) (d : Dealings) → Walks t (asked_ways port) r s ss q z → tells_others start d q [] ≡ true → tells_others start d r ss ≡ true
tells_none start d walks.here h = h
tells_none start d (walks.idled i a) h = absurd i
tells_none start d (walks.done did a) h = absurd did
tells_none start d (walks.told {n = Asks ask} f g a) h = tells_none start d a h
tells_none start d (walks.told f g a) h = absurd g

abbrev opens_or_not : Option Plain → Rules Took
opens_or_not o = elim o [ Some b ↦ Stop (found_nothing b) | None ↦ Misfit ]

pub opened_replay : {K : Type 0} (port : Port K) (t : Tunables) (who : Who) (number bytes : ℕ) (b : Plain) (s z : Space K) (said : List Said) → 0 < number → bytes ≤ 2 ^ 63 → Reaches t (asked_ways port) (opened t bytes (closed_arena t number)) s [] (Stop (Some b)) said z →
    IsReplay t (closed_arena t number) (recorded who (Open bytes) said Done ∷ []) b
opened_replay port t who number bytes b s z said other most reaches =
    let a : Plain = closed_arena t number in
    let begins : Dealings = dealings_with [] in
    let goes = walks_behind opens_or_not reaches.walks in
    let whole : reaches.said ++ [] ≡ said = append-nil reaches.said ∙ sym reaches.added in
    let ends : end_of_rules t (rules_of t (Open bytes) a) said ≡ Some (found_nothing b) = subst (λ ss. end_of_rules t (rules_of t (Open bytes) a) ss ≡ Some (found_nothing b)) whole (walks_end [] goes) in
    let tells : tells_others a begins (rules_of t (Open bytes) a) said ≡ true = subst (λ ss. tells_others a begins (rules_of t (Open bytes) a) ss ≡ true) (sym reaches.added) (tells_none a begins goes refl) in
    let may : may_act (Open bytes) a ≡ true = ap (λ (x : Bool). not x && nat_le bytes (2 ^ 63)) (ne_eqb number 0 (λ e. absurd (omega (arith, other, e)))) ∙ le-leb bytes (2 ^ 63) most in
    let possible : is_possible t (recorded who (Open bytes) said Done) a ≡ true = ap (λ (x : Bool). x && tells_others a begins (rules_of t (Open bytes) a) said) may ∙ tells in
    record { gives = ap (λ (x : Bool). cond x (arena_ended (Open bytes) Done (end_of_rules t (rules_of t (Open bytes) a) said)) None) possible ∙ ap (arena_ended (Open bytes) Done) ends }

-- by what the arena is, however it is kept
pub opens_as : {M N K : Type 0} (plain : M → Plain) (kept : N → Plain) (port : Port K) (t : Tunables) (who : Who) (number bytes : ℕ) (g : M) (n : N) (journal : List Recorded) (s z : Space K) (said : List Said) → kept n ≡ plain g →
    Opens kept port t number bytes s [] (Ok (Some n)) z said → journal ≡ recorded who (Open bytes) said Done ∷ [] → OpensAs plain port t who number bytes s g journal z
opens_as plain kept port t who number bytes g n journal s z said same o is = record {
  said = said;
  walks = subst (λ (a : Plain). Reaches t (asked_ways port) (opened t bytes (closed_arena t number)) s [] (Stop (Some a)) said z) same o.walks;
  sound = subst IsSound same o.sound;
  first = subst (HasFirstHeap t number) same o.first;
  windows = o.windows;
  journal_is = is;
}

pub opens_none : {M K : Type 0} (plain : M → Plain) (port : Port K) (t : Tunables) (number bytes : ℕ) (s z : Space K) (said : List Said) → let none : Option M = None in
    Opens plain port t number bytes s [] (Ok none) z said → RefusesOpening port t number bytes s z
opens_none plain port t number bytes s z said o = record { said = said; walks = o.walks; rose = o.rose refl; windows = o.windows }

pub opens_err : {M K : Type 0} (plain : M → Plain) (port : Port K) (t : Tunables) (number bytes : ℕ) (s z : Space K) (said : List Said) (d : NoMemory) → let err : Result (Option M) NoMemory = Err d in
    Opens plain port t number bytes s [] err z said → OpensShort port t number bytes s z
opens_err plain port t number bytes s z said d o = record { said = said; stops = o.short; windows = o.windows }

pub on_err : {X E : Type 0} {P : Type 0} (r : Result X E) → P → OnErr r P
on_err (Ok x) p = tt
on_err (Err e) p = p

pub opens_not : {K : Type 0} (port : Port K) (t : Tunables) (number bytes : ℕ) (s : Space K) → OpensShort port t number bytes s s
opens_not port t number bytes s = record { said = []; stops = short_here; windows = refl }

pub replay_of : {M K : Type 0} (plain : M → Plain) (port : Port K) (t : Tunables) (who : Who) (number bytes : ℕ) (g : M) (journal : List Recorded) (s z : Space K) → 0 < number → bytes ≤ 2 ^ 63 → OpensAs plain port t who number bytes s g journal z →
    IsReplay t (closed_arena t number) journal (plain g)
replay_of plain port t who number bytes g journal s z other most o =
    subst (λ es. IsReplay t (closed_arena t number) es (plain g)) (sym o.journal_is) (opened_replay port t who number bytes (plain g) s z o.said other most o.walks)
