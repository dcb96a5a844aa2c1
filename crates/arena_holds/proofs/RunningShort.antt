-- Laws of calls that are left for want of memory: parts in a row, holds, and the parts of a search.
use Rattle.std.proofs.Common.{◌≡◌, ℕ, ◌≤◌, ◌++◌, ◌∷◌, Bool, true, false, cond, List, [], Option, Some, None, inl, inr, refl, sym, ap, subst}
use Rattle.std.specs.Prelude.{nat_eq, is_some}
use Rattle.chunk_tags.specs.declared.block.Block.{Block}
use Rattle.chunk_tags.specs.declared.tunables.Tunables.{Tunables}
use Rattle.address_space.specs.declared.space.Space.{Space}
use Rattle.thread_cache.specs.Caches.{CacheValue}
use Rattle.arena_rules.specs.declared.said.Said.{Said}
use Rattle.arena_rules.specs.Walks.{StopsShort}
use Rattle.consolidate_trim.specs.Holds.{Chunks}
use Rattle.consolidate_trim.specs.Outside.{ways}
use Rattle.arena_core.specs.Arenas.{Held, held, FailsShort, recorded}
use Rattle.arena_growth.specs.Asking.{beside_arena}
use Rattle.arena_core.specs.Journal.{Recorded}
use Rattle.arena_core.specs.Opening.{OpensShort}
use Rattle.arena_core.specs.Replay.{rules_of}
use Rattle.arena_core.specs.declared.journal.Act.{Act}
use Rattle.arena_core.specs.declared.journal.Act.TheVariants as acts
use Rattle.arena_core.specs.declared.journal.Ended.TheVariants.{Short}
use Rattle.arena_core.specs.declared.journal.Who.{Who}
use Rattle.arena_choice.specs.Books.{BookValue}
use Rattle.arena_choice.specs.Choices.{choice_of}
use Rattle.arena_choice.specs.declared.choice.Choice.{Choice}
use Rattle.realloc_align.specs.Calls.{FailsResize}
use Rattle.arena_holds.specs.declared.searching.Tried.{Tried}
use Rattle.arena_holds.specs.Calls.{Call, Done, Holds, HoldsFree, Opens, Pushes, then_call, hold_of}
use Rattle.arena_holds.specs.Going as going
use Rattle.arena_holds.specs.Going.{Told, Goes, Does, here}
use Rattle.arena_holds.specs.Holding.{FindsChosen, GivesShort, OpensArena, SearchesShort, new_arena_of}
use Rattle.arena_holds.specs.Places.{KeptArena, with_journal, Setting, Standing, standing}
use Rattle.arena_holds.specs.Returning.{IsUndone, IsChosen}
use Rattle.arena_holds.specs.RunningShort.{KeepsHold, EntersShort, ShortHold, ShortStep, RunsShort}
use Rattle.arena_holds.specs.Searching as trees
use Rattle.arena_holds.specs.Searching.{Chosen, avoided, tried_again, or_in_mapping}
use Rattle.arena_holds.proofs.Going.{goes_then, goes_behind}

-- ---- parts in a row

-- memory is short for the first step
pub short_here : {P H D K A : Type 0} {s : Setting P H D K} {t : Tunables} {who : Who} (c : Call A) {o z : Standing P K} → ShortStep s t who c o z → RunsShort s t who c o z
short_here c {o = o} h = record { told = []; next = c; at = o; goes = here; short = h }

-- it is short for the same step where another call comes behind
step_behind : {P H D K A B : Type 0} (s : Setting P H D K) (t : Tunables) (who : Who) (o z : Standing P K) (c : Call A) (f : A → Call B) → ShortStep s t who c o z → ShortStep s t who (then_call c f) o z
step_behind s t who o z (Holds a act cache next) f h = h
step_behind s t who o z (HoldsFree start avoid act cache next) f h = h
step_behind s t who o z (Opens a bytes next) f h = h
step_behind s t who o z (Pushes b next) f h = h
step_behind s t who o z c f h = absurd h

-- a part that is left, and another that was to come behind it
pub short_behind : {P H D K A B : Type 0} {s : Setting P H D K} {t : Tunables} {who : Who} {c : Call A} {o z : Standing P K} (f : A → Call B) → RunsShort s t who c o z → RunsShort s t who (then_call c f) o z
short_behind {s = s} {t = t} {who = who} {z = z} f r =
    record { told = r.told; next = then_call r.next f; at = r.at; goes = goes_behind f r.goes; short = step_behind s t who r.at z r.next f r.short }

-- some steps, and a part that is left
pub short_after : {P H D K A : Type 0} {s : Setting P H D K} {t : Tunables} {who : Who} {c q : Call A} {o p z : Standing P K} {told : List Told} → Goes s t who c o told q p → RunsShort s t who q p z →
    RunsShort s t who c o z
short_after {told = told} g r = record { told = told ++ r.told; next = r.next; at = r.at; goes = goes_then g r.goes; short = r.short }

-- a part that ends, and one behind it that is left
pub short_then : {P H D K A B : Type 0} {s : Setting P H D K} {t : Tunables} {who : Who} {c : Call A} {o p z : Standing P K} {x : A} (f : A → Call B) → Does s t who c o x p → RunsShort s t who (f x) p z →
    RunsShort s t who (then_call c f) o z
short_then f d r = short_after (goes_behind f d.goes) r

-- ---- holds

-- nothing changed in a hold
pub kept_hold : {P H D K : Type 0} (s : Setting P H D K) {a : ℕ} {cache now : CacheValue} {o : Standing P K} {q r : P} {port left : H} {later : Space K}
    (k k' : KeptArena) → s.ways.lent o.places a port (Some k) q → s.ways.gave q left k' r → held k'.arena left now later k'.journal ≡ held k.arena port cache o.space k.journal →
    KeepsHold s a o (standing r later)
kept_hold {H = H} {K = K} s {q = q} {r = r} {port = port} {left = left} k k' lent gave same =
    let port_same : left ≡ port = ap (λ (x : Held H K). x.outside.port) same in
    let kept_same : k' ≡ k = ap (λ (x : Held H K). with_journal x.arena x.journal) same in
    record {
      lending = q;
      hold = port;
      kept = k;
      lent = lent;
      gave = subst (λ (x : H). s.ways.gave q x k r) port_same (subst (λ (x : KeptArena). s.ways.gave q left x r) kept_same gave);
      space = ap (λ (x : Held H K). x.outside.space) same;
    }

-- the entry says that memory was short
pub entered_short : {P H D K : Type 0} (s : Setting P H D K) {t : Tunables} {who : Who} {a : ℕ} {act : Act} {cache now : CacheValue} {o : Standing P K} {q r : P} {port left : H} {later : Space K}
    (k k' : KeptArena) (said : List Said) → s.ways.lent o.places a port (Some k) q → s.ways.gave q left k' r → k'.journal ≡ k.journal ++ recorded who act said Short ∷ [] →
    StopsShort t (ways s.means k.arena.number) (rules_of t act k.arena) (beside_arena port cache o.space) [] k'.arena said (beside_arena left now later) →
    EntersShort s t who a act cache o (standing r later)
entered_short s {now = now} {q = q} {r = r} {port = port} {left = left} k k' said lent gave added stops = record {
  lending = q;
  hold = port;
  last_hold = left;
  journal = k.journal;
  before = k.arena;
  after = k'.arena;
  said = said;
  left = now;
  lent = lent;
  stops = stops;
  gave = subst (λ (js : List Recorded). s.ways.gave q left (with_journal k'.arena js) r) added gave;
}

-- a search that was left: the arena is as it was only where its journal had no room
pub short_search : {P H D K : Type 0} (s : Setting P H D K) {t : Tunables} {who : Who} {a : ℕ} {act : Act} {cache now : CacheValue} {o : Standing P K} {q r : P} {port left : H} {later : Space K} {given : Chunks}
    (k k' : KeptArena) (entries room : ℕ) → s.ways.lent o.places a port (Some k) q → s.ways.gave q left k' r →
    FailsShort s.means t who act (held k.arena port cache o.space k.journal) given (held k'.arena left now later k'.journal) → (k'.journal ≡ k.journal → room ≤ entries) →
    SearchesShort s t who a act cache o entries room (standing r later)
short_search {H = H} {K = K} s k k' entries room lent gave fails full = elim fails [
  | inl same ↦ inl (full (ap (λ (x : Held H K). x.journal) same), kept_hold s k k' lent gave same)
  | inr rs ↦ inr (entered_short s k k' rs.said lent gave rs.added rs.stops)
]

-- one in which a block was to get another size
pub short_resize : {P H D K : Type 0} (s : Setting P H D K) {t : Tunables} {who : Who} {a : ℕ} (b : Block) (nb : ℕ) {cache : CacheValue} (now : CacheValue) {o : Standing P K} {q r : P} {port left : H} {later : Space K}
    (k k' : KeptArena) (back : Option Block) → s.ways.lent o.places a port (Some k) q → s.ways.gave q left k' r →
    FailsResize s.means t who b nb (held k.arena port cache o.space k.journal) back (held k'.arena left now later k'.journal) →
    RunsShort s t who (hold_of a (acts.Resize b.addr b.size nb) cache) o (standing r later)
short_resize s b nb now k k' None lent gave fails = absurd fails
short_resize s {a = a} b nb {cache = cache} now k k' (Some back) lent gave fails =
    short_here (hold_of a (acts.Resize b.addr b.size nb) cache)
    (elim fails [ inl same ↦ inl (kept_hold s k k' lent gave same.1) | inr rs ↦ inr (entered_short s k k' rs.said lent gave rs.added rs.stops) ])

-- one in which a block was to be given
pub short_give : {P H D K : Type 0} (s : Setting P H D K) {t : Tunables} {who : Who} {a : ℕ} (b : Block) (cache : CacheValue) (back : Option Block) {o z : Standing P K} → GivesShort s t who a b o back z →
    RunsShort s t who (hold_of a (acts.Give b.addr b.size) cache) o z
short_give s {a = a} b cache (Some back) short = short_here (hold_of a (acts.Give b.addr b.size) cache) (inl (short.kept refl))
short_give s {a = a} b cache None short =
    let up = short.gone refl in
    let rs = up.short cache in
    short_here (hold_of a (acts.Give b.addr b.size) cache) (inr (entered_short s up.before up.after rs.said up.lent up.gave rs.added rs.stops))

-- ---- a new arena

pub short_opening : {P H D K : Type 0} (s : Setting P H D K) {t : Tunables} {who : Who} {a bytes : ℕ} {o : Standing P K} {r : P} {later : Space K} → OpensShort s.means.kernel t a bytes o.space later →
    IsUndone s.ways a o.places r → RunsShort s t who (new_arena_of a bytes) o (standing r later)
short_opening s {a = a} {bytes = bytes} short undone =
    short_here (new_arena_of a bytes) (record { said = short.said; stops = short.stops; book = undone.book; undone = undone.booked })

-- ---- a search

-- whatever room there was
short_searched : {P H D K : Type 0} {s : Setting P H D K} {t : Tunables} {who : Who} {a : ℕ} {act : Act} {cache : CacheValue} {o z : Standing P K} {entries room : ℕ} → SearchesShort s t who a act cache o entries room z →
    ShortHold s t who a act cache o z
short_searched h = elim h [ inl kept ↦ inl kept.1 | inr entered ↦ inr entered ]

pub short_in : {P H D K : Type 0} {s : Setting P H D K} {t : Tunables} {who : Who} {a : ℕ} {act : Act} {cache : CacheValue} {o z : Standing P K} {entries room : ℕ} → SearchesShort s t who a act cache o entries room z →
    RunsShort s t who (trees.search_in a act cache) o z
short_in {a = a} {act = act} {cache = cache} h = short_here (trees.search_in a act cache) (short_searched h)

-- in an arena that was chosen
pub short_chosen : {P H D K : Type 0} {s : Setting P H D K} {t : Tunables} {who : Who} (a : ℕ) {act : Act} {cache : CacheValue} {o z : Standing P K} → RunsShort s t who (trees.search_in a act cache) o z →
    RunsShort s t who (trees.search_chosen a act cache) o z
short_chosen a r = short_behind (λ x. Done (Some (a, x))) r

-- before a new one was opened, and behind that
pub short_unopened : {P H D K : Type 0} {s : Setting P H D K} {t : Tunables} {who : Who} {a bytes : ℕ} (act : Act) (cache : CacheValue) {o z : Standing P K} → RunsShort s t who (new_arena_of a bytes) o z →
    RunsShort s t who (trees.search_new a bytes act cache) o z
short_unopened {a = a} act cache r = short_behind (λ opened. cond opened (trees.search_chosen a act cache) (Done None)) r

pub short_new : {P H D K : Type 0} {s : Setting P H D K} {t : Tunables} {who : Who} (a : ℕ) {bytes : ℕ} {act : Act} {cache : CacheValue} {o p z : Standing P K} → OpensArena s t who a bytes o true p →
    RunsShort s t who (trees.search_in a act cache) p z → RunsShort s t who (trees.search_new a bytes act cache) o z
short_new a {act = act} {cache = cache} opens r = short_then (λ opened. cond opened (trees.search_chosen a act cache) (Done None)) opens.does (short_chosen a r)

-- in one that others use too
pub short_reused : {P H D K : Type 0} {s : Setting P H D K} {t : Tunables} {who : Who} {start a : ℕ} (fresh : Bool) {act : Act} {cache : CacheValue} {o z : Standing P K} {entries room : ℕ} →
    s.ways.free o.places start (avoided fresh) a → SearchesShort s t who a act cache o entries room z → RunsShort s t who (trees.search_reused who.thread fresh start act cache) o z
short_reused {who = who} {start = start} {a = a} fresh {act = act} {cache = cache} free h =
    short_here (trees.search_reused who.thread fresh start act cache) (record { a = a; free = free; short = short_searched h })

-- behind the choice
pub short_by_book : {P H D K : Type 0} {s : Setting P H D K} {t : Tunables} {who : Who} (bytes : ℕ) (fresh : Bool) (act : Act) (cache : CacheValue) {p q : P} {space : Space K} {z : Standing P K} (choice : Choice) →
    IsChosen s.ways who.thread fresh t p choice q → RunsShort s t who (trees.search_by_choice who.thread fresh bytes act cache choice) (standing q space) z →
    RunsShort s t who (trees.choose_and_search t who.thread fresh bytes act cache) (standing p space) z
short_by_book {s = s} {t = t} {who = who} bytes fresh act cache {p = p} {q = q} {space = space} {z = z} choice chosen r =
    let next : BookValue → Call Chosen = λ book. trees.search_by_choice who.thread fresh bytes act cache (choice_of book who.thread fresh t) in
    short_after (going.booked {next = next} {p = standing q space} (record { booked = chosen.booked; space = refl }) here)
    (subst (λ (c : Choice). RunsShort s t who (trees.search_by_choice who.thread fresh bytes act cache c) (standing q space) z) chosen.choice_is r)

-- at the second try, in main or in an arena that is chosen afresh
pub short_in_main : {P H D K : Type 0} {s : Setting P H D K} {t : Tunables} {who : Who} (bytes : ℕ) {act : Act} {cache : CacheValue} {o z : Standing P K} (a : ℕ) → nat_eq a 0 ≡ false →
    RunsShort s t who (trees.search_in 0 act cache) o z → RunsShort s t who (trees.search_again t who.thread bytes a act cache) o z
short_in_main {s = s} {t = t} {who = who} bytes {act = act} {cache = cache} {o = o} {z = z} a other r =
    subst (λ (b : Bool). RunsShort s t who (cond b (then_call (trees.choose_and_search t who.thread true bytes act cache) (or_in_mapping act cache)) (trees.search_in 0 act cache)) o z) (sym other) r

pub short_afresh : {P H D K : Type 0} {s : Setting P H D K} {t : Tunables} {who : Who} (bytes : ℕ) {act : Act} {cache : CacheValue} {o z : Standing P K} (a : ℕ) → nat_eq a 0 ≡ true →
    RunsShort s t who (trees.choose_and_search t who.thread true bytes act cache) o z → RunsShort s t who (trees.search_again t who.thread bytes a act cache) o z
short_afresh {s = s} {t = t} {who = who} bytes {act = act} {cache = cache} {o = o} {z = z} a main r =
    subst (λ (b : Bool). RunsShort s t who (cond b (then_call (trees.choose_and_search t who.thread true bytes act cache) (or_in_mapping act cache)) (trees.search_in 0 act cache)) o z) (sym main)
    (short_behind (or_in_mapping act cache) r)

-- a thread's search at its first try, and at its second
pub short_at_first : {P H D K : Type 0} {s : Setting P H D K} {t : Tunables} {who : Who} {bytes : ℕ} (again : ℕ) {act : Act} {cache : CacheValue} {o z : Standing P K} →
    RunsShort s t who (trees.choose_and_search t who.thread false bytes act cache) o z → RunsShort s t who (trees.search t who.thread bytes again act cache) o z
short_at_first {t = t} {who = who} again {act = act} {cache = cache} r = short_behind (tried_again t who.thread again act cache) r

pub short_again : {P H D K : Type 0} {s : Setting P H D K} {t : Tunables} {who : Who} {bytes : ℕ} (again : ℕ) {act : Act} {cache mid : CacheValue} {o p z : Standing P K} (r : Tried) → r.search.block ≡ None →
    FindsChosen s t who (trees.choose_and_search t who.thread false bytes act cache) act cache o (Some r) mid p → RunsShort s t who (trees.search_again t who.thread again r.arena act mid) p z →
    RunsShort s t who (trees.search t who.thread bytes again act cache) o z
short_again {s = s} {t = t} {who = who} again {act = act} {cache = cache} {mid = mid} {p = p} {z = z} r none f short =
    short_then (tried_again t who.thread again act cache) f.does
    (subst (λ (b : Bool). RunsShort s t who (cond b (Done (trees.search_end r.search.hold r.search.block mid)) (trees.search_again t who.thread again r.arena act mid)) p z) (sym (ap (λ (o : Option Block). is_some o) none)) short)
