-- Where a call is left for want of memory (this project's own).
use Rattle.std.specs.Prelude.{◌≡◌, ℕ, List, [], ◌∷◌, ◌++◌, Option, Some, ◌⊎◌}
use Rattle.chunk_tags.specs.declared.block.Block.{Block}
use Rattle.chunk_tags.specs.declared.tunables.Tunables.{Tunables}
use Rattle.thread_cache.specs.Caches.{CacheValue}
use Rattle.arena_rules.specs.PlainArena.{Plain}
use Rattle.arena_rules.specs.declared.said.Said.{Said}
use Rattle.arena_rules.specs.Growth.{opened as opened_by}
use Rattle.arena_rules.specs.Walks.{StopsShort}
use Rattle.arena_core.specs.declared.journal.Act.{Act}
use Rattle.arena_core.specs.declared.journal.Ended.TheVariants.{Short}
use Rattle.arena_core.specs.declared.journal.Who.{Who}
use Rattle.arena_core.specs.Arenas.{recorded}
use Rattle.arena_core.specs.Journal.{Recorded}
use Rattle.arena_growth.specs.FirstHeap.{asked_ways, closed_arena}
use Rattle.arena_core.specs.Replay.{rules_of}
use Rattle.arena_choice.specs.Books.{BookValue}
use Rattle.consolidate_trim.specs.Outside.{ways}
use Rattle.arena_holds.specs.BookChanges.{Undoes}
use Rattle.arena_holds.specs.Calls.{Call, Holds, HoldsFree, Opens, Pushes}
use Rattle.arena_holds.specs.Going.{Told, Goes, IdleStep, beside}
use Rattle.arena_holds.specs.Places.{KeptArena, with_journal, Setting, Standing}

-- ---- a step for which memory was short

-- Memory was short for the entry of a hold: the arena was lent, and is given back as it was.
pub record KeepsHold {P H D K : Type 0} (s : Setting P H D K) (a : ℕ) (old new : Standing P K) : Type 0 where
  pub lending : P
  pub hold : H
  pub kept : KeptArena
  pub lent : s.ways.lent old.places a hold (Some kept) lending
  pub gave : s.ways.gave lending hold kept new.places
  pub space : new.space ≡ old.space

-- It was short behind the entry: the arena was lent, and its act is left where its rules need an answer; the arena that is given
-- back is what they have there, with an entry more that says so.
pub record EntersShort {P H D K : Type 0} (s : Setting P H D K) (t : Tunables) (who : Who) (a : ℕ) (act : Act) (cache : CacheValue)
    (old new : Standing P K) : Type 0 where
  pub lending : P
  pub hold : H
  pub last_hold : H
  pub journal : List Recorded
  pub before : Plain
  pub after : Plain
  pub said : List Said
  pub left : CacheValue
  pub lent : s.ways.lent old.places a hold (Some (with_journal before journal)) lending
  pub stops : StopsShort t (ways s.means before.number) (rules_of t act before) (beside hold cache old.space) [] after said
      (beside last_hold left new.space)
  pub gave : s.ways.gave lending last_hold (with_journal after (journal ++ recorded who act said Short ∷ [])) new.places

-- one or the other
abbrev pub ShortHold : {P H D K : Type 0} → Setting P H D K → Tunables → Who → ℕ → Act → CacheValue → Standing P K → Standing P K → Type 0
ShortHold s t who a act cache old new = KeepsHold s a old new ⊎ EntersShort s t who a act cache old new

-- Memory was short in a hold of the first arena from one on whose lock is free.
pub record ShortFreeHold {P H D K : Type 0} (s : Setting P H D K) (t : Tunables) (who : Who) (start : ℕ) (avoid : Option ℕ) (act : Act) (cache : CacheValue)
    (old new : Standing P K) : Type 0 where
  pub a : ℕ
  pub free : s.ways.free old.places start avoid a
  pub short : ShortHold s t who a act cache old new

-- It was short while an arena was opened: the asks before it were put, and the number is given back.
pub record ShortOpening {P H D K : Type 0} (s : Setting P H D K) (t : Tunables) (a bytes : ℕ) (old new : Standing P K) : Type 0 where
  pub said : List Said
  pub stops : StopsShort t (asked_ways s.means.kernel) (opened_by t bytes (closed_arena t a)) old.space [] (closed_arena t a) said new.space
  pub book : BookValue
  pub undone : s.ways.booked old.places (Undoes a) book new.places

-- There was no room for the push of a block, and none could be made.
pub record ShortPush {P H D K : Type 0} (s : Setting P H D K) (b : Block) (old new : Standing P K) : Type 0 where
  pub a : ℕ
  pub arena : b.arena ≡ Some a
  pub full : s.ways.room old.places a → ⊥
  pub idle : IdleStep s old new

-- ---- a call

-- Memory was short for the step that is next in a call: a hold, an opening, or a push. No other step asks for memory.
abbrev pub ShortStep : {P H D K A : Type 0} → Setting P H D K → Tunables → Who → Call A → Standing P K → Standing P K → Type 0
ShortStep s t who (Holds a act cache next) old new = ShortHold s t who a act cache old new
ShortStep s t who (HoldsFree start avoid act cache next) old new = ShortFreeHold s t who start avoid act cache old new
ShortStep s t who (Opens a bytes next) old new = ShortOpening s t a bytes old new
ShortStep s t who (Pushes b next) old new = ShortPush s b old new
ShortStep s t who _ old new = ⊥

-- A call is left for want of memory: it goes its way up to a step for which memory was short.
pub record RunsShort {P H D K A : Type 0} (s : Setting P H D K) (t : Tunables) (who : Who) (c : Call A) (old new : Standing P K) : Type 0 where
  pub told : List Told
  pub next : Call A
  pub at : Standing P K
  pub goes : Goes s t who c old told next at
  pub short : ShortStep s t who next at new
