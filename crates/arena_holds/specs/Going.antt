-- How a call goes: what is done at the places and the thread's address space, in order, and what the call is told
-- (this project's own).
use Rattle.std.specs.Prelude.{◌≡◌, ℕ, Bool, true, false, List, [], ◌∷◌, ◌++◌, length, Option, Some, None, Result, option_map}
use Rattle.chunk_tags.specs.declared.block.Block.{Block}
use Rattle.chunk_tags.specs.declared.tunables.Tunables.{Tunables}
use Rattle.address_space.specs.declared.space.Space.{Space}
use Rattle.mapped_chunks.specs.Mappings.{MapsChunk, FreesChunk, UnmapsChunk, ChangesLength, granted_start}
use Rattle.thread_cache.specs.Caches.{CacheValue}
use Rattle.arena_rules.specs.PlainArena.{Plain}
use Rattle.arena_rules.specs.Rules.{Stop}
use Rattle.arena_rules.specs.declared.said.Said.{Said}
use Rattle.arena_rules.specs.Growth.{Took, opened as opened_by}
use Rattle.arena_rules.specs.Walks.{Walks}
use Rattle.arena_growth.specs.FirstHeap.{asked_ways, closed_arena}
use Rattle.arena_core.specs.declared.journal.Act.{Act}
use Rattle.arena_core.specs.declared.journal.Act.TheVariants.{Open}
use Rattle.arena_core.specs.declared.journal.Ended.TheVariants as ends
use Rattle.arena_core.specs.Arenas.{recorded}
use Rattle.arena_core.specs.declared.journal.Who.{Who}
use Rattle.arena_core.specs.declared.journal.Ended.{Ended}
use Rattle.arena_core.specs.Journal.{Recorded}
use Rattle.arena_core.specs.Replay.{rules_of, ended_of}
use Rattle.consolidate_trim.specs.Outside.{Outside, ways}
use Rattle.arena_holds.specs.Places.{with_journal, Setting, Standing}
use Rattle.arena_choice.specs.Books.{BookValue}
use Rattle.arena_holds.specs.BookChanges.{BookChange, Undoes}
use Rattle.arena_holds.specs.Calls.{Call, Done, Holds, HoldsFree, Opens, Books, Maps, Pushes, Frees, Unmaps, Remaps, Posts, Takes}

-- What a call is told, with what it asked: of a hold the arena's number, the place of its entry, the arena before it, and the
-- entry; of a new arena its number and its entry, or `None` where it was refused; a change of the book, and the book as it was;
-- the length of a mapping and where it begins, or `None` where it was refused; a push; a mapped chunk that was freed, with the
-- threshold that was read; one whose mapping went back; one whose mapping was to have another length, that length, and where it
-- begins, or `None` where it was refused; and a tray, the block for it, and what was found there.
pub data Told : Type 0 where
  Held : ℕ → ℕ → Plain → Recorded → Told
  Opened : ℕ → Option Recorded → Told
  Booked : BookChange → BookValue → Told
  Mapped : ℕ → Option ℕ → Told
  Pushed : Block → Told
  Freed : Block → ℕ → Told
  Unmapped : Block → Told
  Remapped : Block → ℕ → Option ℕ → Told
  Posted : ℕ → Block → Option ℕ → Told
  Taken : ℕ → Result Block ℕ → Told

abbrev pub beside : {H K : Type 0} → H → CacheValue → Space K → Outside H K
beside port cache space = record { port = port; cache = cache; space = space }

-- One hold: the arena is lent, its act goes through its rules to their end, with the cache and the thread's
-- address space, and it is given back with an entry more.
pub record HoldStep {P H D K : Type 0} (s : Setting P H D K) (t : Tunables) (who : Who) (a : ℕ) (act : Act) (cache : CacheValue)
    (old : Standing P K) (place : ℕ) (before : Plain) (entry : Recorded) (left : CacheValue) (new : Standing P K) : Type 0 where
  pub lending : P
  pub hold : H
  pub last_hold : H
  pub journal : List Recorded
  pub took : Took
  pub lent : s.ways.lent old.places a hold (Some (with_journal before journal)) lending
  pub at : length journal ≡ place
  pub whose : entry.who ≡ who
  pub acts : entry.act ≡ act
  pub walk : Walks t (ways s.means before.number) (rules_of t act before) (beside hold cache old.space) entry.said
      (Stop took) (beside last_hold left new.space)
  pub ended : entry.ended ≡ ended_of act took.found
  pub gave : s.ways.gave lending last_hold (with_journal took.arena (journal ++ entry ∷ [])) new.places

-- A new arena is opened under a number, for a thread that asks for so many bytes; it is put into its place, and the thread
-- attached to it.
pub record OpenStep {P H D K : Type 0} (s : Setting P H D K) (t : Tunables) (who : Who) (a bytes : ℕ) (old : Standing P K) (entry : Recorded) (new : Standing P K) : Type 0 where
  pub arena : Plain
  pub walk : Walks t (asked_ways s.means.kernel) (opened_by t bytes (closed_arena t a)) old.space entry.said (Stop (Some arena)) new.space
  pub entry_is : entry ≡ recorded who (Open bytes) entry.said ends.Done
  pub added : s.ways.added old.places who.thread (with_journal arena (entry ∷ [])) new.places

-- or all that was asked for is refused, and the number is given back
pub record RefusedStep {P H D K : Type 0} (s : Setting P H D K) (t : Tunables) (a bytes : ℕ) (old new : Standing P K) : Type 0 where
  pub said : List Said
  pub walk : Walks t (asked_ways s.means.kernel) (opened_by t bytes (closed_arena t a)) old.space said (Stop None) new.space
  pub book : BookValue
  pub undone : s.ways.booked old.places (Undoes a) book new.places

-- something is done at the book
pub record BookStep {P H D K : Type 0} (s : Setting P H D K) (change : BookChange) (old : Standing P K) (book : BookValue) (new : Standing P K) : Type 0 where
  pub booked : s.ways.booked old.places change book new.places
  pub space : new.space ≡ old.space

-- a mapping is asked for outside all holds, and counted
pub record MapStep {P H D K : Type 0} (s : Setting P H D K) (len : ℕ) (old : Standing P K) (start : Option ℕ) (new : Standing P K) : Type 0 where
  pub lending : P
  pub dial : D
  pub last_dial : D
  pub block : Option Block
  pub lent : s.ways.dials_lent old.places dial lending
  pub maps : MapsChunk s.means.kernel s.dials (old.space, dial) len block (new.space, last_dial)
  pub told : option_map (λ b. b.addr) block ≡ start
  pub gave : s.ways.dials_gave lending last_dial new.places

-- a block goes to a tray, or not
pub record PostStep {P H D K : Type 0} (s : Setting P H D K) (tray : ℕ) (b : Block) (old : Standing P K) (full : Option ℕ) (new : Standing P K) : Type 0 where
  pub posted : s.ways.posted old.places tray b full new.places
  pub space : new.space ≡ old.space

-- a tray's block is taken, or there is none
pub record TakeStep {P H D K : Type 0} (s : Setting P H D K) (tray : ℕ) (old : Standing P K) (found : Result Block ℕ) (new : Standing P K) : Type 0 where
  pub took : s.ways.took old.places tray found new.places
  pub space : new.space ≡ old.space

-- a block is pushed into a fast bin of its arena
pub record PushStep {P H D K : Type 0} (s : Setting P H D K) (b : Block) (old new : Standing P K) : Type 0 where
  pub pushed : s.ways.pushed old.places b new.places
  pub space : new.space ≡ old.space

-- room is made, and nothing else is seen
pub record IdleStep {P H D K : Type 0} (s : Setting P H D K) (old new : Standing P K) : Type 0 where
  pub idle : s.ways.idle old.places new.places
  pub space : new.space ≡ old.space

-- a mapped chunk is freed outside all holds
pub record FreeStep {P H D K : Type 0} (s : Setting P H D K) (t : Tunables) (b : Block) (old : Standing P K) (threshold : ℕ) (new : Standing P K) : Type 0 where
  pub lending : P
  pub dial : D
  pub last_dial : D
  pub lent : s.ways.dials_lent old.places dial lending
  pub frees : FreesChunk s.means.kernel s.dials (old.space, dial) t.dynamic b (new.space, last_dial)
  pub read : frees.threshold ≡ threshold
  pub gave : s.ways.dials_gave lending last_dial new.places

-- a mapping goes back outside all holds
pub record UnmapStep {P H D K : Type 0} (s : Setting P H D K) (b : Block) (old new : Standing P K) : Type 0 where
  pub lending : P
  pub dial : D
  pub last_dial : D
  pub lent : s.ways.dials_lent old.places dial lending
  pub unmaps : UnmapsChunk s.means.kernel s.dials (old.space, dial) b (new.space, last_dial)
  pub gave : s.ways.dials_gave lending last_dial new.places

-- another length of a mapping is asked for outside all holds
pub record RemapStep {P H D K : Type 0} (s : Setting P H D K) (b : Block) (len : ℕ) (old : Standing P K) (start : Option ℕ) (new : Standing P K) : Type 0 where
  pub lending : P
  pub dial : D
  pub last_dial : D
  pub answer : Result Block Block
  pub lent : s.ways.dials_lent old.places dial lending
  pub changes : ChangesLength s.means.kernel s.dials (old.space, dial) b len answer (new.space, last_dial)
  pub told : granted_start answer ≡ start
  pub gave : s.ways.dials_gave lending last_dial new.places

-- From a call and where it stands, by what it is told, to what is left of the call and where it stands then.
pub data Goes {P H D K A : Type 0} (s : Setting P H D K) (t : Tunables) (who : Who) :
    Call A → Standing P K → List Told → Call A → Standing P K → Type 0 where
  here : {c : Call A} {o : Standing P K} → Goes s t who c o [] c o
  idled : {c q : Call A} {o p z : Standing P K} {told : List Told} →
      IdleStep s o p → Goes s t who c p told q z → Goes s t who c o told q z
  held : {a : ℕ} {act : Act} {cache left : CacheValue} {next : ℕ → Ended → CacheValue → Call A} {q : Call A} {o p z : Standing P K}
      {told : List Told} {place : ℕ} {before : Plain} {entry : Recorded} →
      HoldStep s t who a act cache o place before entry left p → Goes s t who (next place entry.ended left) p told q z →
      Goes s t who (Holds a act cache next) o (Held a place before entry ∷ told) q z
  held_free : {start : ℕ} {avoid : Option ℕ} {a : ℕ} {act : Act} {cache left : CacheValue} {next : ℕ → ℕ → Ended → CacheValue → Call A} {q : Call A} {o p z : Standing P K}
      {told : List Told} {place : ℕ} {before : Plain} {entry : Recorded} → s.ways.free o.places start avoid a →
      HoldStep s t who a act cache o place before entry left p → Goes s t who (next a place entry.ended left) p told q z →
      Goes s t who (HoldsFree start avoid act cache next) o (Held a place before entry ∷ told) q z
  opened : {a bytes : ℕ} {next : Bool → Call A} {q : Call A} {o p z : Standing P K} {told : List Told} {entry : Recorded} →
      OpenStep s t who a bytes o entry p → Goes s t who (next true) p told q z → Goes s t who (Opens a bytes next) o (Opened a (Some entry) ∷ told) q z
  refused : {a bytes : ℕ} {next : Bool → Call A} {q : Call A} {o p z : Standing P K} {told : List Told} →
      RefusedStep s t a bytes o p → Goes s t who (next false) p told q z → Goes s t who (Opens a bytes next) o (Opened a None ∷ told) q z
  booked : {change : BookChange} {next : BookValue → Call A} {q : Call A} {o p z : Standing P K} {told : List Told} {book : BookValue} →
      BookStep s change o book p → Goes s t who (next book) p told q z → Goes s t who (Books change next) o (Booked change book ∷ told) q z
  mapped : {len : ℕ} {next : Option ℕ → Call A} {q : Call A} {o p z : Standing P K} {told : List Told} {start : Option ℕ} →
      MapStep s len o start p → Goes s t who (next start) p told q z → Goes s t who (Maps len next) o (Mapped len start ∷ told) q z
  pushed : {b : Block} {c q : Call A} {o p z : Standing P K} {told : List Told} →
      PushStep s b o p → Goes s t who c p told q z → Goes s t who (Pushes b c) o (Pushed b ∷ told) q z
  freed : {b : Block} {c q : Call A} {o p z : Standing P K} {told : List Told} {threshold : ℕ} →
      FreeStep s t b o threshold p → Goes s t who c p told q z → Goes s t who (Frees b c) o (Freed b threshold ∷ told) q z
  unmapped : {b : Block} {c q : Call A} {o p z : Standing P K} {told : List Told} →
      UnmapStep s b o p → Goes s t who c p told q z → Goes s t who (Unmaps b c) o (Unmapped b ∷ told) q z
  remapped : {b : Block} {len : ℕ} {next : Option ℕ → Call A} {q : Call A} {o p z : Standing P K} {told : List Told} {start : Option ℕ} →
      RemapStep s b len o start p → Goes s t who (next start) p told q z → Goes s t who (Remaps b len next) o (Remapped b len start ∷ told) q z
  posted : {tray : ℕ} {b : Block} {next : Option ℕ → Call A} {q : Call A} {o p z : Standing P K} {told : List Told} {full : Option ℕ} →
      PostStep s tray b o full p → Goes s t who (next full) p told q z → Goes s t who (Posts tray b next) o (Posted tray b full ∷ told) q z
  taken : {tray : ℕ} {next : Result Block ℕ → Call A} {q : Call A} {o p z : Standing P K} {told : List Told} {found : Result Block ℕ} →
      TakeStep s tray o found p → Goes s t who (next found) p told q z → Goes s t who (Takes tray next) o (Taken tray found ∷ told) q z

-- A call goes to its end with a result.
pub record Does {P H D K A : Type 0} (s : Setting P H D K) (t : Tunables) (who : Who) (c : Call A) (o : Standing P K)
    (result : A) (z : Standing P K) : Type 0 where
  pub told : List Told
  pub goes : Goes s t who c o told (Done result) z
