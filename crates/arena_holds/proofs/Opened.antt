-- A new arena that was opened: what it is, and what its opening keeps.
use Rattle.std.proofs.Common.{◌≡◌, ℕ, ◌+◌, ◌<◌, ◌≤◌, Bool, true, false, cond, List, [], ◌∷◌, Option, Some, None, ◌⊎◌, inl, inr, refl, sym, ap, ◌∙◌, subst, arith}
use Rattle.std.specs.Prelude.{IsTrue, nat_eq}
use Rattle.std.proofs.lemmas.Bool.{ne_eqb}
use Rattle.chunk_tags.specs.declared.tiles.Chunk.{Chunk}
use Rattle.chunk_tags.specs.declared.tunables.Tunables.{Tunables}
use Rattle.address_space.specs.declared.asks.Ask.{Ask}
use Rattle.address_space.specs.declared.asks.Ask.TheVariants as asks
use Rattle.address_space.specs.declared.asks.Answer.{Answer}
use Rattle.address_space.specs.declared.space.Space.{Space}
use Rattle.address_space.specs.Ports.{Port}
use Rattle.address_space.specs.Spaces.{AsksWithin, map_start, space_refusals}
use Rattle.arena_rules.specs.declared.said.Said.{Said}
use Rattle.arena_rules.specs.declared.said.Said.TheVariants as told
use Rattle.arena_rules.specs.PlainArena.{Plain, empty_main, times_used}
use Rattle.arena_rules.specs.MainPlaces.{covers}
use Rattle.arena_rules.specs.Heaps.{opened_arena}
use Rattle.arena_rules.specs.Growth.{first_heap, first_length, opened}
use Rattle.arena_rules.specs.Rules.{Rules, Stop, Need, Asks, end_of_rules, fits, flag_of, heap_windows_of, passes_window}
use Rattle.arena_rules.specs.Walks as walks
use Rattle.arena_rules.specs.Walks.{Walks}
use Rattle.arena_rules.proofs.Walks.{ends_as_walked}
use Rattle.arena_growth.specs.FirstHeap.{SpaceAnswers, asked_ways, closed_arena}
use Rattle.arena_core.specs.declared.journal.Act.TheVariants.{Open}
use Rattle.arena_core.specs.declared.journal.Ended.TheVariants.{Done as Ended_done}
use Rattle.arena_core.specs.declared.journal.Who.{Who}
use Rattle.arena_core.specs.Arenas.{recorded}
use Rattle.arena_core.specs.Journal.{Recorded}
use Rattle.arena_core.specs.Opening.{OpensAs, RefusesOpening, OpensShort}
use Rattle.arena_core.specs.Replay.{IsReplay}
use Rattle.arena_holds.specs.Going as going
use Rattle.arena_holds.specs.Going.{Opened, here}
use Rattle.arena_holds.specs.Holding.{OpensArena}
use Rattle.arena_holds.specs.Places.{with_journal, PlaceWays, Setting, Standing, standing, Carries, IsServed, IsReached, both_of, Hands, new_arena}
use Rattle.arena_holds.specs.Returning.{AreOf, IsAside, IsUndone, IsUnseen, IsNew, IsAdded}
use Rattle.arena_holds.proofs.Carrying.{SameLaw, unseen_keeps}

-- ---- the thread's space

-- nothing of the window for mappings is given
pub record IsKept {K : Type 0} (old new : Space K) : Type 0 where
  pub thread : new.thread ≡ old.thread
  pub windows : new.windows ≡ old.windows
  pub mapped : new.mapped ≡ old.mapped

-- where heaps are asked for alone
pub record HasAsked {K : Type 0} (port : Port K) (old new : Space K) : Type 0 where
  pub kept : IsKept old new
  pub later : space_refusals port old ≤ space_refusals port new

asked_one : {K : Type 0} (port : Port K) (s z : Space K) (passes : Bool) (ask : Ask) (answer : Answer) → AsksWithin port s passes ask answer z → HasAsked port s z
asked_one {K = K} port s z passes ask answer h =
    let cases : (b : Bool) → passes ≡ b → IsKept s z = elim [
      | true ↦ λ e.
          let is = (h.passed e).1 in
          record { thread = ap (λ (x : Space K). x.thread) is; windows = ap (λ (x : Space K). x.windows) is; mapped = ap (λ (x : Space K). x.mapped) is }
      | false ↦ λ e.
          let is = (h.put e).1 in
          record { thread = ap (λ (x : Space K). x.thread) is; windows = ap (λ (x : Space K). x.windows) is; mapped = ap (λ (x : Space K). x.mapped) is }
    ] in
    record { kept = cases passes refl; later = h.later }

asked_answer : {K : Type 0} (port : Port K) (s z : Space K) (n : Need) (a : Said) → SpaceAnswers port s n a z → HasAsked port s z
asked_answer port s z (Asks ask) (told.Asked asked answer) h = asked_one port s z (passes_window s.windows asked) asked answer h
asked_answer port s z n a h = absurd h

pub has_asked : {K A : Type 0} {port : Port K} {t : Tunables} {r q : Rules A} {s z : Space K} {ss : List Said} → Walks t (asked_ways port) r s ss q z → HasAsked port s z
has_asked walks.here = record { kept = record { thread = refl; windows = refl; mapped = refl }; later = omega arith }
has_asked (walks.idled i a) = absurd i
has_asked (walks.done d a) = absurd d
has_asked {port = port} (walks.told {n = n} {s = s} {o = o} {p = p} f g a) =
    let one = asked_answer port o p n s g in
    let more = has_asked a in
    record {
      kept = record { thread = more.kept.thread ∙ one.kept.thread; windows = more.kept.windows ∙ one.kept.windows; mapped = more.kept.mapped ∙ one.kept.mapped };
      later = omega (arith, one.later, more.later);
    }

-- what is aside at the places is kept by whoever has blocks
pub carries_kept : {P H D K : Type 0} {ways : PlaceWays P H D} {o z : Standing P K} → IsKept o.space z.space → IsAside ways o.places z.places → ways.whole z.places →
    (hands : Hands) → Carries ways true hands o hands z
carries_kept {ways = ways} {o = o} {z = z} kept u whole hands = record {
  serves = λ exact known others s. u.serves exact (both_of hands others) s;
  notes = λ others n. subst (λ (own : ℕ). ways.notes z.places own others) (sym kept.mapped) (u.notes o.space.mapped others n);
  mapped = λ n. omega (arith, ap (λ (t : ℕ). covers n (map_start t) z.space.mapped) kept.thread, ap (λ (m : ℕ). covers n (map_start o.space.thread) m) kept.mapped);
  tunables = u.tunables;
  windows = kept.windows;
  whole = λ w. whole;
  writes = u.writes;
}

pub carries_hidden : {P H D K : Type 0} {ways : PlaceWays P H D} {p q : P} → SameLaw ways → IsUnseen ways p (λ _. 0) (λ _. 0) q → (space : Space K) (hands : Hands) →
    Carries ways true hands (standing p space) hands (standing q space)
carries_hidden same u space hands = record {
  serves = λ exact known others s. unseen_keeps same u s;
  notes = λ others n. u.notes space.mapped others n;
  mapped = λ n. omega arith;
  tunables = u.tunables;
  windows = refl;
  whole = u.whole;
  writes = u.writes;
}

-- a step aside, and what comes behind it, where in the end the book keeps no number
pub carries_aside : {P H D K : Type 0} {ways : PlaceWays P H D} {well : Bool} {given got : Hands} {p q : P} {space : Space K} {z : Standing P K} → IsAside ways p q → ways.whole z.places →
    Carries ways well given (standing q space) got z → Carries ways well given (standing p space) got z
carries_aside {given = given} {space = space} a whole c = record {
  serves = λ exact known others s. c.serves exact known others (a.serves exact (both_of given others) s);
  notes = λ others n. c.notes others (a.notes space.mapped others n);
  mapped = c.mapped;
  tunables = c.tunables ∙ a.tunables;
  windows = c.windows;
  whole = λ w. whole;
  writes = λ who w. c.writes who (a.writes who w);
}

pub reached_aside : {P H D K : Type 0} {ways : PlaceWays P H D} {t : Tunables} {hands : Hands} {p q : P} {space : Space K} → IsAside ways p q → IsServed ways t hands (standing p space) → IsReached ways t hands (standing q space)
reached_aside {hands = hands} {space = space} a s = record {
  served = a.serves false hands s.served;
  others = s.others;
  notes = a.notes space.mapped s.others s.notes;
  tunables = a.tunables ∙ s.tunables;
  windows = s.windows;
}

pub served_whole : {P H D K : Type 0} {ways : PlaceWays P H D} {t : Tunables} {hands : Hands} {o : Standing P K} → IsReached ways t hands o → ways.whole o.places → IsServed ways t hands o
served_whole r w = record { served = r.served; others = r.others; notes = r.notes; tunables = r.tunables; windows = r.windows; whole = w }

pub served_opened : {P H D K : Type 0} {ways : PlaceWays P H D} {t : Tunables} {hands : Hands} {o z : Standing P K} → SameLaw ways → IsReached ways t hands o → Carries ways true hands o hands z → ways.whole z.places → IsServed ways t hands z
served_opened {hands = hands} {o = o} {z = z} same r c w = record {
  served = same false z.places (both_of hands (λ _. 0)) hands (λ x. omega arith)
      (c.serves false (λ e. absurd cc) (λ _. 0) (same false o.places hands (both_of hands (λ _. 0)) (λ x. omega arith) r.served));
  others = r.others;
  notes = c.notes r.others r.notes;
  tunables = c.tunables ∙ r.tunables;
  windows = c.windows ∙ r.windows;
  whole = w;
}

-- ---- the arena

stop_ends : (t : Tunables) (o : Option Plain) (b : Plain) (ss : List Said) → end_of_rules t (Stop o) ss ≡ Some (Some b) → o ≡ Some b
stop_ends t o b [] e = cc
stop_ends t o b (s ∷ ss) e = absurd cc

-- an ask for heap 0 gives an arena of it alone, or goes on
first_ends : (t : Tunables) (need : ℕ) (a b : Plain) (refused : Rules (Option Plain)) (ss : List Said) → end_of_rules t (first_heap t need a refused) ss ≡ Some (Some b) →
    ((len : ℕ) × (b ≡ opened_arena a len)) ⊎ ((rest : List Said) × (end_of_rules t refused rest ≡ Some (Some b)))
first_ends t need a b refused [] e = absurd cc
first_ends t need a b refused (s ∷ ss) e =
    let len : ℕ = first_length t need in
    let Goal : Type 0 = ((len : ℕ) × (b ≡ opened_arena a len)) ⊎ ((rest : List Said) × (end_of_rules t refused rest ≡ Some (Some b))) in
    let cases : (fit granted : Bool) → cond fit (end_of_rules t (cond granted (Stop (Some (opened_arena a len))) refused) ss) None ≡ Some (Some b) → Goal = elim [
      | true ↦ elim [
        | true ↦ λ e. let is = stop_ends t (Some (opened_arena a len)) b ss e in inl (len, cc)
        | false ↦ λ e. inr (ss, e)
      ]
      | false ↦ λ granted e. absurd cc
    ] in
    cases (fits t (Asks (asks.NewHeap a.number 0 len)) s) (flag_of s) e

pub opened_is : (t : Tunables) (bytes : ℕ) (a b : Plain) (ss : List Said) → end_of_rules t (opened t bytes a) ss ≡ Some (Some b) → (len : ℕ) × (b ≡ opened_arena a len)
opened_is t bytes a b ss e = elim (first_ends t (bytes + 2248) a b (first_heap t 2248 a (Stop None)) ss e) [
  | inl is ↦ is
  | inr again ↦ elim (first_ends t 2248 a b (Stop None) again.0 again.1) [
    | inl is ↦ is
    | inr none ↦ let no = stop_ends t None b none.0 none.1 in absurd cc
  ]
]

unused : (e : Chunk) (a : Plain) (len : ℕ) → times_used e (opened_arena a len) ≡ 0
unused e a len = refl

-- it may be put into its place
pub is_new : {P H D K M : Type 0} (ways : PlaceWays P H D) (plain : M → Plain) (port : Port K) (t : Tunables) (who : Who) (p : P) (a bytes : ℕ) (ground : M) (journal : List Recorded) (s z : Space K) →
    ways.owed p a → ways.writes p who → 0 < a → ways.tunables p ≡ t → OpensAs plain port t who a bytes s ground journal z → IsReplay t (closed_arena t a) journal (plain ground) → IsNew ways (with_journal (plain ground) journal) p
is_new ways plain port t who p a bytes ground journal s z owed writes other tuned opens replays =
    let b : Plain = plain ground in
    let is = opened_is t bytes (closed_arena t a) b opens.walks.said (ends_as_walked opens.walks.walks) in
    let number : b.number ≡ a = ap (λ (x : Plain). x.number) is.1 in
    let not_main : nat_eq a 0 ≡ false = ne_eqb a 0 (λ e. absurd (omega (arith, other, e))) in
    let start : new_arena t a ≡ closed_arena t a = ap (λ (x : Bool). cond x empty_main (closed_arena t a)) not_main in
    record {
      owed = subst (λ (n : ℕ). ways.owed p n) (sym number) owed;
      sound = opens.sound;
      placed = λ main. let e : nat_eq a 0 ≡ true = subst (λ (n : ℕ). nat_eq n 0 ≡ true) number main in absurd cc;
      heaps = ap (λ (x : Plain). x.windows) is.1 ∙ ap heap_windows_of (sym tuned);
      replays = subst (λ (n : ℕ). IsReplay (ways.tunables p) (new_arena (ways.tunables p) n) journal b) (sym number)
          (subst (λ (x : Tunables). IsReplay x (new_arena x a) journal b) (sym tuned) (subst (λ (x : Plain). IsReplay t x journal b) (sym start) replays));
      who = who;
      writes = writes;
      whose = subst (λ (js : List Recorded). AreOf who js) (sym opens.journal_is) (refl, tt);
      unused = λ e. ap (times_used e) is.1 ∙ unused e (closed_arena t a) is.0;
    }

-- ---- as a step of a call

pub opens_arena : {P H D K M : Type 0} (s : Setting P H D K) (plain : M → Plain) {t : Tunables} {who : Who} {a bytes : ℕ} {o : Standing P K} {r : P} {ground : M} {journal : List Recorded} {later : Space K} →
    SameLaw s.ways → OpensAs plain s.means.kernel t who a bytes o.space ground journal later → IsAdded s.ways who.thread o.places (with_journal (plain ground) journal) r → OpensArena s t who a bytes o true (standing r later)
opens_arena s plain {t = t} {who = who} {a = a} {bytes = bytes} {o = o} {r = r} {ground = ground} {journal = journal} {later = later} same opens added =
    let b : Plain = plain ground in
    let entry : Recorded = recorded who (Open bytes) opens.said Ended_done in
    let is = opened_is t bytes (closed_arena t a) b opens.walks.said (ends_as_walked opens.walks.walks) in
    let asked : HasAsked s.means.kernel o.space later = has_asked opens.walks.walks in
    record {
      does = record {
        told = Opened a (Some entry) ∷ [];
        goes = going.opened {p = standing r later} (record {
          arena = b;
          walk = subst (λ (ss : List Said). Walks t (asked_ways s.means.kernel) (opened t bytes (closed_arena t a)) o.space ss (Stop (Some b)) later) (sym opens.walks.added) opens.walks.walks;
          entry_is = refl;
          added = subst (λ (js : List Recorded). s.ways.added o.places who.thread (with_journal b js) r) opens.journal_is added.added;
        }) here;
      };
      there = λ _. subst (λ (n : ℕ). IsTrue (s.ways.there r n)) (ap (λ (x : Plain). x.number) is.1) added.there;
      later = asked.later;
      carries = carries_kept asked.kept added.aside added.whole;
      whole = added.whole;
    }

pub refuses_arena : {P H D K : Type 0} (s : Setting P H D K) {t : Tunables} {who : Who} {a bytes : ℕ} {o : Standing P K} {r : P} {later : Space K} →
    SameLaw s.ways → RefusesOpening s.means.kernel t a bytes o.space later → IsUndone s.ways a o.places r → OpensArena s t who a bytes o false (standing r later)
refuses_arena s {t = t} {a = a} {bytes = bytes} {o = o} {r = r} {later = later} same refused undone =
    let asked : HasAsked s.means.kernel o.space later = has_asked refused.walks.walks in
    record {
      does = record {
        told = Opened a None ∷ [];
        goes = going.refused {p = standing r later} (record { said = refused.walks.said; walk = refused.walks.walks; book = undone.book; undone = undone.booked }) here;
      };
      there = λ opened. absurd cc;
      later = asked.later;
      carries = carries_kept asked.kept undone.aside undone.whole;
      whole = undone.whole;
    }

pub short_arena : {P H D K : Type 0} {ways : PlaceWays P H D} {port : Port K} {t : Tunables} {a bytes : ℕ} {o : Standing P K} {r : P} {later : Space K} →
    SameLaw ways → OpensShort port t a bytes o.space later → IsUndone ways a o.places r → (hands : Hands) → Carries ways true hands o hands (standing r later)
short_arena same short undone hands = carries_kept (has_asked short.stops.reaches.walks).kept undone.aside undone.whole hands
