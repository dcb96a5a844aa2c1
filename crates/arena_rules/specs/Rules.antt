-- The rules of a hold of an arena, as a tree over the answers that it is told (this project's own form). It is
-- written once, and read in several ways: replayed against a list of answers, left where memory is short, and walked
-- by what the outside answers and is given.
use Rattle.std.specs.Prelude.{ℕ, Bool, true, false, ◌&&◌, ◌||◌, not, nat_eq, List, [], ◌∷◌, Option, Some, None, if◌then◌else◌}
use Rattle.chunk_tags.specs.declared.tiles.Chunk.{Chunk}
use Rattle.chunk_tags.specs.Dials.{Dial}
use Rattle.chunk_tags.specs.declared.tunables.Tunables.{Tunables}
use Rattle.chunk_tags.specs.declared.block.Block.{Block}
use Rattle.address_space.specs.declared.asks.Ask.{Ask}
use Rattle.address_space.specs.declared.asks.Ask.TheVariants as asks
use Rattle.address_space.specs.declared.asks.Back.{Back}
use Rattle.address_space.specs.declared.asks.Answer.{Answer}
use Rattle.address_space.specs.declared.asks.Answer.TheVariants.{Granted, Refused}
use Rattle.address_space.specs.declared.space.Windows.{Windows}
use Rattle.address_space.specs.Spaces.{break_passes, piece_passes, new_heap_passes, heap_growth_passes}
use Rattle.arena_rules.specs.declared.said.Said.{Said}
use Rattle.arena_rules.specs.declared.said.Said.TheVariants as told
use Rattle.arena_rules.specs.PlainArena.{Plain, HeapWindows}
use Rattle.thread_cache.specs.Caches.{CacheValue, with_newest, without_newest}
use Rattle.chunk_tags.specs.Sizes.{cache_index_of}

-- What the rules need to be told: the flag; a chunk popped from a fast bin; the next chunk of its private list; whether
-- the cache has room for a size; an answer to an ask; a mapping of so many bytes; a word.
pub data Need : Type 0 where
  Flagged : Need
  Pops : ℕ → Need
  Owns : ℕ → Need
  Rooms : ℕ → Need
  Asks : Ask → Need
  Maps : ℕ → Need
  Reads : Dial → Need

-- What the rules do outside the arena, which nothing answers: the flag is cleared; a chain goes before its private list;
-- a chunk is pushed into a fast bin, is put into the caller's cache, or the newest of a size is taken out of it again;
-- address space goes back; a mapping of so many bytes is counted.
pub data Deed : Type 0 where
  Clears : Deed
  Gathers : ℕ → Deed
  Pushes : ℕ → ℕ → Deed
  Stashes : Chunk → Deed
  Draws : ℕ → Deed
  Gives : Back → Deed
  Counts : ℕ → Deed

-- The tree. It ends with a result, or where what was told can't be; else something is done, or an answer is needed, which
-- says how it goes on. The arena beside a need is what it is while the answer isn't there: where memory is short, it is
-- left so.
pub data Rules (A : Type 0) : Type 0 where
  Stop : A → Rules A
  Misfit : Rules A
  Does : Deed → Rules A → Rules A
  Needs : Plain → Need → (Said → Rules A) → Rules A

-- one tree, and another behind it
abbrev pub behind : {A B : Type 0} → Rules A → (A → Rules B) → Rules B
behind (Stop x) f = f x
behind Misfit f = Misfit
behind (Does d r) f = Does d (behind r f)
behind (Needs a n g) f = Needs a n (λ s. behind (g s) f)

-- What an answer says; an answer of another kind doesn't count, since it doesn't fit.

abbrev pub flag_of : Said → Bool
flag_of (told.Flag b) = b
flag_of (told.Popped o) = false
flag_of (told.Own o) = false
flag_of (told.Room b) = b
flag_of (told.Asked ask answer) = elim answer [ Granted ↦ true | Refused ↦ false ]
flag_of (told.Dial n) = false

abbrev pub chunk_told : Said → Option ℕ
chunk_told (told.Flag b) = None
chunk_told (told.Popped o) = o
chunk_told (told.Own o) = o
chunk_told (told.Room b) = None
chunk_told (told.Asked ask answer) = None
chunk_told (told.Dial n) = None

abbrev pub number_told : Said → ℕ
number_told (told.Flag b) = 0
number_told (told.Popped o) = 0
number_told (told.Own o) = 0
number_told (told.Room b) = 0
number_told (told.Asked ask answer) = 0
number_told (told.Dial n) = n

-- the place of a mapping that was asked for
abbrev pub mapping_place_in : Ask → ℕ
mapping_place_in (asks.Break old new) = 0
mapping_place_in (asks.Piece addr len) = 0
mapping_place_in (asks.NewHeap arena heap len) = 0
mapping_place_in (asks.GrowHeap arena heap old_len new_len) = 0
mapping_place_in (asks.Map addr len) = addr
mapping_place_in (asks.Remap old_addr old_len new_addr new_len) = 0

abbrev pub place_told : Said → ℕ
place_told (told.Flag b) = 0
place_told (told.Popped o) = 0
place_told (told.Own o) = 0
place_told (told.Room b) = 0
place_told (told.Asked ask answer) = mapping_place_in ask
place_told (told.Dial n) = 0

-- One need with its answer taken apart.

abbrev pub asks_flag : {A : Type 0} → Plain → (Bool → Rules A) → Rules A
asks_flag a f = Needs a Flagged (λ s. f (flag_of s))

abbrev pub asks_room : {A : Type 0} → Plain → ℕ → (Bool → Rules A) → Rules A
asks_room a size f = Needs a (Rooms size) (λ s. f (flag_of s))

abbrev pub pops : {A : Type 0} → Plain → ℕ → (Option ℕ → Rules A) → Rules A
pops a bin f = Needs a (Pops bin) (λ s. f (chunk_told s))

abbrev pub pops_own : {A : Type 0} → Plain → ℕ → (Option ℕ → Rules A) → Rules A
pops_own a bin f = Needs a (Owns bin) (λ s. f (chunk_told s))

abbrev pub asks_for : {A : Type 0} → Plain → Ask → (Bool → Rules A) → Rules A
asks_for a ask f = Needs a (Asks ask) (λ s. f (flag_of s))

abbrev pub reads : {A : Type 0} → Plain → Dial → (ℕ → Rules A) → Rules A
reads a which f = Needs a (Reads which) (λ s. f (number_told s))

-- Whether an answer is one to what is needed.

abbrev pub same_ask : Ask → Ask → Bool
same_ask (asks.Break old new) (asks.Break old' new') = nat_eq old old' && nat_eq new new'
same_ask (asks.Piece addr len) (asks.Piece addr' len') = nat_eq addr addr' && nat_eq len len'
same_ask (asks.NewHeap arena heap len) (asks.NewHeap arena' heap' len') =
    nat_eq arena arena' && nat_eq heap heap' && nat_eq len len'
same_ask (asks.GrowHeap arena heap old new) (asks.GrowHeap arena' heap' old' new') =
    nat_eq arena arena' && nat_eq heap heap' && nat_eq old old' && nat_eq new new'
same_ask x y = false

-- an ask for a mapping of so many bytes, wherever
abbrev pub is_mapping : ℕ → Ask → Bool
is_mapping len (asks.Break old new) = false
is_mapping len (asks.Piece addr len') = false
is_mapping len (asks.NewHeap arena heap len') = false
is_mapping len (asks.GrowHeap arena heap old new) = false
is_mapping len (asks.Map addr len') = nat_eq len len'
is_mapping len (asks.Remap old_addr old_len new_addr new_len) = false

-- the windows that tunables give
abbrev pub windows_of : Tunables → Windows
windows_of t = record { main_max = t.main_max; heap_max = t.heap_max; heaps = t.heaps }

-- the windows of the heaps of another arena
abbrev pub heap_windows_of : Tunables → HeapWindows
heap_windows_of t = record { heap_max = t.heap_max; heaps = t.heaps }

-- an ask that would pass its window; the place of a mapping is the port's
abbrev pub passes_window : Windows → Ask → Bool
passes_window w (asks.Break old new) = break_passes w new
passes_window w (asks.Piece addr len) = piece_passes w addr len
passes_window w (asks.NewHeap arena heap len) = new_heap_passes w heap len
passes_window w (asks.GrowHeap arena heap old new) = heap_growth_passes w new
passes_window w (asks.Map addr len) = false
passes_window w (asks.Remap old_addr old_len new_addr new_len) = false

abbrev pub is_refused : Answer → Bool
is_refused Granted = false
is_refused Refused = true

-- an answer fits a need: it is of that kind; an ask is the one that is put, and refused where it would pass its window
abbrev pub fits : Tunables → Need → Said → Bool
fits t Flagged (told.Flag b) = true
fits t (Pops bin) (told.Popped o) = true
fits t (Owns bin) (told.Own o) = true
fits t (Rooms size) (told.Room b) = true
fits t (Asks ask) (told.Asked asked answer) = same_ask ask asked && (not (passes_window (windows_of t) ask) || is_refused answer)
fits t (Maps len) (told.Asked asked answer) = is_mapping len asked
fits t (Reads which) (told.Dial n) = true
fits t need said = false

-- The tree read against a list of answers: its result, where each fits and none is left over.
abbrev pub end_of_rules : {A : Type 0} → Tunables → Rules A → List Said → Option A
end_of_rules t (Stop x) [] = Some x
end_of_rules t (Stop x) (s ∷ ss) = None
end_of_rules t Misfit ss = None
end_of_rules t (Does d r) ss = end_of_rules t r ss
end_of_rules t (Needs a n f) [] = None
end_of_rules t (Needs a n f) (s ∷ ss) = if fits t n s then end_of_rules t (f s) ss else None

-- The arena that is left where the answers end before the rules do: what it is while the next answer is needed.
abbrev pub left_by_rules : {A : Type 0} → Tunables → Rules A → List Said → Option Plain
left_by_rules t (Stop x) ss = None
left_by_rules t Misfit ss = None
left_by_rules t (Does d r) ss = left_by_rules t r ss
left_by_rules t (Needs a n f) [] = Some a
left_by_rules t (Needs a n f) (s ∷ ss) = if fits t n s then left_by_rules t (f s) ss else None

-- a chunk of an arena in the caller's hand
abbrev pub block_of : ℕ → Chunk → Block
block_of number c = record { addr = c.at; size = c.size; lead = 0; arena = Some number }

-- what a deed makes of the caller's cache
abbrev pub cache_after_deed : ℕ → Deed → CacheValue → CacheValue
cache_after_deed number Clears cache = cache
cache_after_deed number (Gathers bin) cache = cache
cache_after_deed number (Pushes bin at) cache = cache
cache_after_deed number (Stashes c) cache = with_newest cache (block_of number c)
cache_after_deed number (Draws size) cache = without_newest cache (cache_index_of size)
cache_after_deed number (Gives back) cache = cache
cache_after_deed number (Counts len) cache = cache

-- the deeds of a hold, in order
abbrev pub deeds_of : {A : Type 0} → Rules A → List Said → List Deed
deeds_of (Stop x) ss = []
deeds_of Misfit ss = []
deeds_of (Does d r) ss = d ∷ deeds_of r ss
deeds_of (Needs a n f) [] = []
deeds_of (Needs a n f) (s ∷ ss) = deeds_of (f s) ss
