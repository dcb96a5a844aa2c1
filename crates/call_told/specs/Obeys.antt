-- A whole call, read against what it was told alone (this project's own form): no places and no ports. It is what the lines of
-- a report of threads can be held against.
use Rattle.std.specs.Prelude.{◌≡◌, ℕ, Bool, true, false, not, List, [], ◌∷◌, Option, Some, None, if◌then◌else◌}
use Rattle.chunk_tags.specs.declared.tunables.Tunables.{Tunables}
use Rattle.thread_cache.specs.Caches.{CacheValue, has_room}
use Rattle.arena_rules.specs.PlainArena.{Plain}
use Rattle.arena_rules.specs.Growth.{Took, opened as opened_by}
use Rattle.arena_rules.specs.Rules.{Rules, Stop, Misfit, Does, Needs, Need, Rooms, end_of_rules, cache_after_deed}
use Rattle.arena_rules.specs.declared.said.Said.{Said}
use Rattle.arena_rules.specs.declared.said.Said.TheVariants as said
use Rattle.arena_growth.specs.FirstHeap.{closed_arena}
use Rattle.arena_core.specs.declared.journal.Act.{Act}
use Rattle.arena_core.specs.declared.journal.Act.TheVariants.{Open}
use Rattle.arena_core.specs.declared.journal.Ended.TheVariants as endings
use Rattle.arena_core.specs.declared.journal.Who.{Who}
use Rattle.arena_core.specs.Arenas.{recorded}
use Rattle.arena_core.specs.Journal.{Recorded}
use Rattle.arena_core.specs.Replay.{rules_of, ended_of}
use Rattle.arena_choice.specs.Books.{BookValue}
use Rattle.arena_choice.specs.Books as books
use Rattle.arena_holds.specs.Calls.{Call, Done, Holds, HoldsFree, Opens, Books, Maps as MapsFor, Pushes, Frees, Unmaps, Remaps, Posts, Takes}
use Rattle.arena_holds.specs.Going.{Told, Held, Opened, Booked, Mapped, Pushed, Freed, Unmapped, Remapped, Posted, Taken}

-- whether two answers are the same
abbrev pub same_bool : Bool → Bool → Bool
same_bool true b = b
same_bool false b = not b

-- Whether what was told of the cache's room is so; of other needs nothing is asked here.
abbrev pub room_is : Need → Said → CacheValue → Bool
room_is (Rooms size) (said.Room b) cache = same_bool b (has_room cache size)
room_is need s cache = true

-- The caller's cache behind a hold's rules with these answers; `None` where a room that was told isn't the cache's
abbrev pub cache_through : {A : Type 0} → ℕ → Rules A → List Said → CacheValue → Option CacheValue
cache_through n (Stop x) ss cache = Some cache
cache_through n Misfit ss cache = None
cache_through n (Does d r) ss cache = cache_through n r ss (cache_after_deed n d cache)
cache_through n (Needs a need f) [] cache = None
cache_through n (Needs a need f) (s ∷ ss) cache = if room_is need s cache then cache_through n (f s) ss cache else None

-- A hold: its entry is of this thread, line and act, ends as the rules do with its answers, and leaves this cache.
pub record PlainHold (t : Tunables) (who : Who) (a : ℕ) (act : Act) (cache : CacheValue) (before : Plain) (entry : Recorded) (Rest : CacheValue → Type 0) : Type 0 where
  pub number : before.number ≡ a
  pub whose : entry.who ≡ who
  pub acts : entry.act ≡ act
  pub took : Took
  pub ends : end_of_rules t (rules_of t act before) entry.said ≡ Some took
  pub ended : entry.ended ≡ ended_of act took.found
  pub left : CacheValue
  pub through : cache_through a (rules_of t act before) entry.said cache ≡ Some left
  pub rest : Rest left

-- A new arena was opened under a number, with this entry.
pub record PlainOpen (t : Tunables) (who : Who) (a bytes : ℕ) (entry : Recorded) : Type 0 where
  pub arena : Plain
  pub said : List Said
  pub ends : end_of_rules t (opened_by t bytes (closed_arena t a)) said ≡ Some (Some arena)
  pub is : entry ≡ recorded who (Open bytes) said endings.Done

-- All that a new arena asked for was refused.
pub record PlainRefusal (t : Tunables) (a bytes : ℕ) : Type 0 where
  pub said : List Said
  pub ends : end_of_rules t (opened_by t bytes (closed_arena t a)) said ≡ Some None

-- A call goes to its end with this result, by what it was told: each part is told what it asked, each hold and each new arena
-- is what the rules give with its answers, and a book that was found is sound.
abbrev pub Obeys : {A : Type 0} → Tunables → Who → Call A → List Told → A → Type 0
Obeys t who (Done x) [] y = y ≡ x
Obeys t who (Holds a act cache next) (Held b place before entry ∷ told) y =
    (b ≡ a) × PlainHold t who a act cache before entry (λ left. Obeys t who (next place entry.ended left) told y)
Obeys t who (HoldsFree start avoid act cache next) (Held b place before entry ∷ told) y =
    PlainHold t who b act cache before entry (λ left. Obeys t who (next b place entry.ended left) told y)
Obeys t who (Opens a bytes next) (Opened b (Some entry) ∷ told) y = (b ≡ a) × (PlainOpen t who a bytes entry × Obeys t who (next true) told y)
Obeys t who (Opens a bytes next) (Opened b None ∷ told) y = (b ≡ a) × (PlainRefusal t a bytes × Obeys t who (next false) told y)
Obeys t who (Books change next) (Booked what book ∷ told) y = (what ≡ change) × (books.IsSound book × Obeys t who (next book) told y)
Obeys t who (MapsFor len next) (Mapped asked start ∷ told) y = (asked ≡ len) × Obeys t who (next start) told y
Obeys t who (Pushes b c) (Pushed d ∷ told) y = (d ≡ b) × Obeys t who c told y
Obeys t who (Frees b c) (Freed d threshold ∷ told) y = (d ≡ b) × Obeys t who c told y
Obeys t who (Unmaps b c) (Unmapped d ∷ told) y = (d ≡ b) × Obeys t who c told y
Obeys t who (Remaps b len next) (Remapped d asked start ∷ told) y = (d ≡ b) × ((asked ≡ len) × Obeys t who (next start) told y)
Obeys t who (Posts tray b next) (Posted other d full ∷ told) y = (other ≡ tray) × ((d ≡ b) × Obeys t who (next full) told y)
Obeys t who (Takes tray next) (Taken other found ∷ told) y = (other ≡ tray) × Obeys t who (next found) told y
Obeys t who c told y = ⊥
