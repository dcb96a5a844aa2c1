-- What a hold of an arena has beside the arena, and how that goes on with its answers and deeds (this project's own).
use Rattle.std.specs.Prelude.{◌≡◌, ℕ, Bool, IsTrue}
use Rattle.chunk_tags.specs.BinOrder.{fast_chunk}
use Rattle.chunk_tags.specs.Dials.{Dial}
use Rattle.chunk_tags.specs.declared.tiles.Chunk.{Chunk}
use Rattle.address_space.specs.Ports.{Port}
use Rattle.address_space.specs.Spaces.{AsksWithin, MapsWithin, GivesWithin, map_place, map_ask, granted_place}
use Rattle.address_space.specs.declared.asks.Ask.{Ask}
use Rattle.address_space.specs.declared.asks.Back.{Back}
use Rattle.address_space.specs.declared.asks.Answer.{Answer}
use Rattle.address_space.specs.declared.space.Space.{Space}
use Rattle.thread_cache.specs.Caches.{CacheValue, has_room}
use Rattle.fast_bins.specs.FastPorts as fasts
use Rattle.fast_bins.specs.FastPorts.{Fast, Did, Idles}
use Rattle.mapped_chunks.specs.DialPorts as dial_steps
use Rattle.mapped_chunks.specs.DialPorts.{Dialled}
use Rattle.arena_rules.specs.Rules.{Need, Flagged, Pops, Owns, Rooms, Asks, Maps, Reads, Deed, Clears, Gathers, Pushes, Stashes, Draws, Gives, Counts, cache_after_deed, passes_window}
use Rattle.arena_rules.specs.Walks.{Ways}
use Rattle.arena_rules.specs.declared.said.Said.{Said}
use Rattle.arena_rules.specs.declared.said.Said.TheVariants as told

-- what the ports of a hold mean: the fast bins, the words beside the arenas, the kernel
pub record Means (P K : Type 0) : Type 1 where
  pub fast : Fast P
  pub dials : Dialled P
  pub kernel : Port K

abbrev pub means : {P K : Type 0} → Fast P → Dialled P → Port K → Means P K
means fast dials kernel = record { fast = fast; dials = dials; kernel = kernel }

-- the outside of a hold: the port, the caller's cache, and its address space
pub record Outside (P K : Type 0) : Type 0 where
  pub port : P
  pub cache : CacheValue
  pub space : Space K

-- one step of the fast bins, and nothing else
pub record FastGoes {P K : Type 0} (m : Means P K) (o : Outside P K) (s : fasts.FastStep) (p : Outside P K) : Type 0 where
  pub did : Did m.fast o.port s p.port
  pub others : p ≡ record o { port = p.port }

-- a chunk is pushed that the fast bins don't have
pub record PushGoes {P K : Type 0} (m : Means P K) (o : Outside P K) (bin at : ℕ) (p : Outside P K) : Type 0 where
  pub did : Did m.fast o.port (fasts.Pushes bin at) p.port
  pub others : p ≡ record o { port = p.port }
  pub new : m.fast.stock o.port (fast_chunk bin at) ≡ 0

-- one step of the words, and nothing else
pub record DialGoes {P K : Type 0} (m : Means P K) (o : Outside P K) (s : dial_steps.DialStep) (p : Outside P K) : Type 0 where
  pub step : m.dials.step o.port s p.port
  pub others : p ≡ record o { port = p.port }

-- the cache tells whether it has room for a size
pub record RoomGoes {P K : Type 0} (o : Outside P K) (size : ℕ) (answer : Bool) (p : Outside P K) : Type 0 where
  pub told : answer ≡ has_room o.cache size
  pub others : p ≡ o

-- an ask that isn't for a mapping
pub record AskGoes {P K : Type 0} (m : Means P K) (o : Outside P K) (ask : Ask) (answer : Answer) (p : Outside P K) : Type 0 where
  pub asks : AsksWithin m.kernel o.space (passes_window o.space.windows ask) ask answer p.space
  pub others : p ≡ record o { space = p.space }

-- an ask for a mapping: its place is the next one
pub record MapGoes {P K : Type 0} (m : Means P K) (o : Outside P K) (len : ℕ) (ask : Ask) (answer : Answer) (p : Outside P K) : Type 0 where
  pub place : ask ≡ map_ask o.space len
  pub maps : MapsWithin m.kernel o.space len (granted_place (map_place o.space) answer) p.space
  pub others : p ≡ record o { space = p.space }

-- how the outside goes on with an answer to what is needed
abbrev pub AnswerGoes : {P K : Type 0} → Means P K → Outside P K → Need → Said → Outside P K → Type 0
AnswerGoes m o Flagged (told.Flag b) p = FastGoes m o (fasts.Flags b) p
AnswerGoes m o (Pops bin) (told.Popped at) p = FastGoes m o (fasts.Pops bin at) p
AnswerGoes m o (Owns bin) (told.Own at) p = FastGoes m o (fasts.Owns bin at) p
AnswerGoes m o (Rooms size) (told.Room b) p = RoomGoes o size b p
AnswerGoes m o (Asks ask) (told.Asked asked answer) p = AskGoes m o asked answer p
AnswerGoes m o (Maps len) (told.Asked asked answer) p = MapGoes m o len asked answer p
AnswerGoes m o (Reads which) (told.Dial n) p = DialGoes m o (dial_steps.Reads which n) p
AnswerGoes m o need said p = ⊥

-- address space goes back
pub record GiveGoes {P K : Type 0} (m : Means P K) (o : Outside P K) (back : Back) (p : Outside P K) : Type 0 where
  pub gives : GivesWithin m.kernel o.space back p.space
  pub others : p ≡ record o { space = p.space }

-- what a deed makes of the outside of a hold of the arena with this number
abbrev pub DeedGoes : {P K : Type 0} → Means P K → ℕ → Outside P K → Deed → Outside P K → Type 0
DeedGoes m number o Clears p = FastGoes m o fasts.Clears p
DeedGoes m number o (Gathers bin) p = FastGoes m o (fasts.Gathers bin) p
DeedGoes m number o (Pushes bin at) p = PushGoes m o bin at p
DeedGoes m number o (Stashes c) p = p ≡ record o { cache = cache_after_deed number (Stashes c) o.cache }
DeedGoes m number o (Draws size) p = p ≡ record o { cache = cache_after_deed number (Draws size) o.cache }
DeedGoes m number o (Gives back) p = GiveGoes m o back p
DeedGoes m number o (Counts len) p = DialGoes m o (dial_steps.Maps len) p

-- room is made in the fast bins, and nothing else is seen
pub record IdleGoes {P K : Type 0} (m : Means P K) (o : Outside P K) (p : Outside P K) : Type 0 where
  pub idles : Idles m.fast o.port p.port
  pub others : p ≡ record o { port = p.port }

-- the ways of a hold
abbrev pub ways : {P K : Type 0} → Means P K → ℕ → Ways (Outside P K)
ways m number = record { goes = AnswerGoes m; does = DeedGoes m number; idles = IdleGoes m }

-- The words and the fast bins of one port are apart: a step of the words leaves the stock and the room, and no step but
-- a count changes what may be counted.
pub record AreApart {P : Type 0} (fast : Fast P) (dials : Dialled P) : Type 0 where
  pub stock : (p q : P) (s : dial_steps.DialStep) → dials.step p s q → (e : Chunk) → fast.stock q e ≡ fast.stock p e
  pub room : (p q : P) (s : dial_steps.DialStep) → dials.step p s q → (k : ℕ) → IsTrue (fast.room p k) → IsTrue (fast.room q k)
  pub steps : (p q : P) (s : fasts.FastStep) (d : dial_steps.DialStep) → fast.step p s q → dials.allows p d → dials.allows q d
  pub idles : (p q : P) (d : dial_steps.DialStep) → fast.idle p q → dials.allows p d → dials.allows q d
  pub reads : (p q : P) (w : Dial) (n : ℕ) (d : dial_steps.DialStep) → dials.step p (dial_steps.Reads w n) q → dials.allows p d → dials.allows q d
