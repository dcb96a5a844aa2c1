-- The places for one order of calls (this project's own): the arenas with their fast bins stand in slots by their numbers, but
-- while one is lent to a hold; and the words, the book of arenas and the trays beside them. Nothing waits.
pub use Rattle.arena_core.specs.KeptArenas.{IsKept}
use Rattle.std.specs.Prelude.{◌≡◌, ℕ, ◌+◌, ◌*◌, ◌<◌, ◌≤◌, Bool, true, false, List, [], ◌∷◌, ◌++◌, length, map, replicate, flat_map, Option, Some, None, is_some, IfSome, IsTrue, option_map, Result, slice_index_or, slice_set}
use Rattle.std.specs.Option.{option_and_then}
use Rattle.chunk_tags.specs.Sizes.{fast_index_of}
use Rattle.chunk_tags.specs.declared.block.Block.{Block}
use Rattle.chunk_tags.specs.declared.tiles.Chunk.{Chunk}
use Rattle.chunk_tags.specs.declared.tunables.Tunables.{Tunables}
use Rattle.address_space.specs.declared.space.Space.{Space}
use Rattle.address_space.specs.Ports.{Port}
use Rattle.address_space.specs.Spaces.{map_length, space_place, space_mapped, space_remap_place, space_remapped}
use Rattle.fast_bins.specs.FastPorts as fasts
use Rattle.fast_bins.specs.FastPorts.{HasRoom}
use Rattle.fast_bins.specs.PlainBins as bins
use Rattle.fast_bins.specs.PlainBins.{FastState, PlainBins, state_of, empty_state, plain_fast}
use Rattle.mapped_chunks.specs.DialPorts as dials
use Rattle.mapped_chunks.specs.Mappings.{unmapping, freeing_steps, mapping_bytes, mapping_change}
use Rattle.mapped_chunks.specs.PlainDials as words
use Rattle.mapped_chunks.specs.PlainDials.{plain_dials}
use Rattle.mapped_chunks.specs.declared.plain.DialState.{DialState}
use Rattle.mapped_chunks.specs.declared.plain.PlainDials.{PlainDials}
use Rattle.arena_rules.specs.PlainArena.{Plain, IsSound, is_main, empty_main, times_used}
use Rattle.arena_rules.specs.MainPlaces.{IsPlaced}
use Rattle.arena_rules.specs.Growth.{Took, opened}
use Rattle.arena_rules.specs.Rules.{heap_windows_of}
use Rattle.arena_rules.specs.declared.said.Said.{Said}
use Rattle.arena_ground.specs.Grounds.{GroundView}
use Rattle.arena_growth.specs.FirstHeap.{closed_arena}
use Rattle.arena_core.specs.Arenas.{recorded}
use Rattle.arena_core.specs.declared.arena.Arena.{Arena}
use Rattle.arena_core.specs.declared.journal.Act.{Act}
use Rattle.arena_core.specs.declared.journal.Act.TheVariants.{Open}
use Rattle.arena_core.specs.declared.journal.Ended.TheVariants as ends
use Rattle.arena_core.specs.declared.journal.Who.{Who}
use Rattle.arena_core.specs.Journal.{Recorded}
use Rattle.arena_core.specs.Replay.{rules_of, ended_of, IsReplay}
use Rattle.arena_core.specs.Shown.{MappedShown}
use Rattle.arena_choice.specs.Numbers.{has}
use Rattle.arena_choice.specs.Books.{BookValue, first_book}
use Rattle.arena_choice.specs.Books as books
use Rattle.arena_choice.specs.Choices.{CanAttach, attached_book, undone_book}
use Rattle.thread_cache.specs.Caches.{CacheValue}
use Rattle.arena_holds.specs.BookChanges.{BookChange, book_after}
use Rattle.arena_holds.specs.Calls.{Call, Done, Holds, HoldsFree, Opens, Books, Maps, Pushes, Frees, Unmaps, Remaps, Posts, Takes, HoldEnd, hold_end}
use Rattle.arena_holds.specs.Places.{KeptArena, with_journal, kept_of, new_arena, tray_count, Hands, as_chunk_of, as_mapped, as_mapped_bytes, Covers, PlaceWays, Setting, setting}
use Rattle.serial_places.specs.Playing.{HoldWorld, PlainPort, plain_means, PlayedHold, played_hold}
use Rattle.serial_places.specs.Trays.{in_trays, tray_at, trays_posted, trays_taken, seen_by_post, found_by_take, empty_trays, IsHeldTray, full_trays}
use Rattle.serial_places.specs.declared.slot.Slot.{Slot}
use Rattle.serial_places.specs.declared.tray.Tray.{Tray}

-- ---- slots

-- the arena in the slot with a number, where one is there
abbrev pub slot_in : {S : Type 0} → List (Option S) → ℕ → Option S
slot_in slots n = slice_index_or slots n None

-- the slots with another one in that place, and with none
abbrev pub put_in : {S : Type 0} → List (Option S) → ℕ → S → List (Option S)
put_in slots n s = slice_set slots n (Some s)

abbrev pub taken_out : {S : Type 0} → List (Option S) → ℕ → List (Option S)
taken_out slots n = slice_set slots n None

-- those that are there, in order
abbrev pub those_in : {S : Type 0} → List (Option S) → List S
those_in slots = flat_map (λ o. elim o [ None ↦ [] | Some s ↦ s ∷ [] ]) slots

-- an arena between two holds, and its fast bins
pub record KeptSlot : Type 0 where
  pub kept : KeptArena
  pub bins : PlainBins

abbrev pub slot_with : KeptArena → PlainBins → KeptSlot
slot_with kept bins = record { kept = kept; bins = bins }

-- an arena in its words, as it is kept
abbrev pub kept_ground : Arena GroundView → KeptArena
kept_ground arena = kept_of (λ g. g.arena) arena

abbrev pub kept_slot : Slot → KeptSlot
kept_slot s = slot_with (kept_ground s.arena) s.bins

-- ---- the places

-- The slots of the arenas; the words; the book of arenas; the trays; the number of the arena that is lent; the tunables.
pub record SerialState : Type 0 where
  pub slots : List (Option KeptSlot)
  pub dials : PlainDials
  pub book : BookValue
  pub trays : List Tray
  pub lent : Option ℕ
  pub tunables : Tunables

-- the state of places, of its parts
abbrev pub state_at : List (Option Slot) → PlainDials → BookValue → List Tray → Option ℕ → Tunables → SerialState
state_at slots dials book trays lent t = record {
  slots = map (option_map kept_slot) slots;
  dials = dials;
  book = book;
  trays = trays;
  lent = lent;
  tunables = t;
}

-- what stands in a slot is such, and is in the book's list of arenas
pub record IsKeptIn (t : Tunables) (list : List ℕ) (n : ℕ) (s : KeptSlot) : Type 0 where
  pub kept : IsKept t n s.kept
  pub listed : has n list ≡ true

-- What is always so: there are 64 slots, one for each number, and 65,536 trays, whose blocks a thread may hold; and the book is
-- sound, for as many arenas as the tunables say.
pub record IsSerial (st : SerialState) : Type 0 where
  pub slots : length st.slots ≡ 64
  pub kept : (n : ℕ) → IfSome (slot_in st.slots n) (IsKeptIn st.tunables st.book.list n)
  pub sound : books.IsSound st.book
  pub records : st.book.records ≡ st.tunables.records
  pub trays : length st.trays ≡ tray_count
  pub held : (n : ℕ) → IsHeldTray (tray_at st.trays n)

-- ---- the beginning and the end

-- the words as they start; no chunk is mapped
abbrev pub first_words : Tunables → DialState
first_words t = record {
  mmap_threshold = t.mmap_threshold;
  trim_threshold = t.trim_threshold;
  mapped = 0;
  bytes = 0;
  max_mapped = 0;
  max_bytes = 0;
}

-- an arena with what its fast bins have
pub record WorldSlot : Type 0 where
  pub kept : KeptArena
  pub bins : FastState

abbrev pub world_slot : KeptArena → FastState → WorldSlot
world_slot kept bins = record { kept = kept; bins = bins }

abbrev pub seen_slot : KeptSlot → WorldSlot
seen_slot s = world_slot s.kept (state_of s.bins)

abbrev pub seen_slots : List (Option KeptSlot) → List (Option WorldSlot)
seen_slots slots = map (option_map seen_slot) slots

-- the slots behind main's, before another arena is opened
unfoldable pub no_slots : List (Option WorldSlot)
no_slots = replicate 63 None

-- main without a byte stands in the first slot
abbrev pub first_slots : List (Option WorldSlot)
first_slots = Some (world_slot (with_journal empty_main []) empty_state) ∷ no_slots

-- the places before the first call
pub record IsFirst (t : Tunables) (st : SerialState) : Type 0 where
  pub slots : seen_slots st.slots ≡ first_slots
  pub dials : st.dials.state ≡ first_words t
  pub book : st.book ≡ first_book t.records
  pub trays : st.trays ≡ empty_trays
  pub tunables : st.tunables ≡ t

-- the addresses in the ten fast bins of an arena, front first
abbrev pub fast_lists : KeptSlot → List (List ℕ)
fast_lists s = map bins.listed (state_of s.bins).bins

-- what places have, in parts: the arenas by number, the addresses in the ten fast bins of each, front first, the book, the blocks
-- in trays by number, and the words
pub record EndsAs (st : SerialState) (arenas : List (Arena GroundView)) (fast : List (List ℕ)) (book : BookValue) (trays : List (ℕ × Block)) (words : DialState) : Type 0 where
  pub arenas_are : map kept_ground arenas ≡ map (λ s. s.kept) (those_in st.slots)
  pub fast_are : fast ≡ flat_map fast_lists (those_in st.slots)
  pub book_is : book ≡ st.book
  pub trays_are : trays ≡ full_trays 0 st.trays
  pub words_are : words ≡ st.dials.state

-- ---- what is given out

-- how often a chunk is in the fast bins of a slot, and among the used chunks of its arena
abbrev pub stock_in : Option KeptSlot → Chunk → ℕ
stock_in None e = 0
stock_in (Some s) e = plain_fast.stock s.bins e

abbrev pub used_in : Option KeptSlot → Chunk → ℕ
used_in None e = 0
used_in (Some s) e = times_used e s.kept.arena

-- Blocks are given out: those of an arena are, with the chunks of its fast bins and those in trays, its used chunks, as often;
-- there are none of an arena that isn't there; and the mapped ones, with those in trays, are those that are counted.
pub record Serves (exact : Bool) (st : SerialState) (hands : Hands) : Type 0 where
  pub chunks : (n : ℕ) (e : Chunk) → Covers exact
      (stock_in (slot_in st.slots n) e + (in_trays st.trays (as_chunk_of n e) + hands (as_chunk_of n e))) (used_in (slot_in st.slots n) e)
  pub count : Covers exact (in_trays st.trays as_mapped + hands as_mapped) st.dials.state.mapped
  pub bytes : Covers exact (in_trays st.trays as_mapped_bytes + hands as_mapped_bytes) st.dials.state.bytes

-- the counted mappings are together at most the bytes that all threads were given
pub record Notes (st : SerialState) (own others : ℕ) : Type 0 where
  pub windows : others ≤ 63 * map_length
  pub count : st.dials.state.mapped ≤ own + others
  pub bytes : st.dials.state.bytes ≤ own + others

-- whether an arena is there
abbrev pub is_there : SerialState → ℕ → Bool
is_there st n = is_some (slot_in st.slots n)

-- each arena of the book is there, and main is
pub record IsWhole (st : SerialState) : Type 0 where
  pub main : IsTrue (is_there st 0)
  pub listed : (n : ℕ) → has n st.book.list ≡ true → IsTrue (is_there st n)

-- the book keeps a number for a new arena, which isn't main's
pub record IsOwed (st : SerialState) (n : ℕ) : Type 0 where
  pub kept : has n st.book.kept ≡ true
  pub may : CanAttach st.book n
  pub other : 0 < n
  pub below : n < 64
  pub whole : IsWhole st

-- each fast bin of an arena has room for one more
abbrev pub HasSlotRoom : SerialState → ℕ → Type 0
HasSlotRoom st n = IfSome (slot_in st.slots n) (λ s. HasRoom plain_fast s.bins)

-- the mapped chunks that the words count
abbrev pub mapped_in_words : PlainPort → MappedShown
mapped_in_words port = record { count = port.dials.state.mapped; bytes = port.dials.state.bytes }

-- ---- steps

-- an arena was lent, with its fast bins and the words as they are
pub record LentSlot (old : SerialState) (n : ℕ) (port : PlainPort) (arena : Option KeptArena) (new : SerialState) : Type 0 where
  pub slot : slot_in old.slots n ≡ option_map (λ k. slot_with k port.bins) arena
  pub words : port.dials ≡ old.dials
  pub kept : IfSome arena (λ k. IsKeptIn old.tunables old.book.list n (slot_with k port.bins))
  pub left : new ≡ record old { slots = taken_out old.slots n; lent = Some n }

-- what was lent came back, with the words
pub record GaveSlot (old : SerialState) (port : PlainPort) (k : KeptArena) (new : SerialState) : Type 0 where
  pub number : ℕ
  pub lent : old.lent ≡ Some number
  pub left : new ≡ record old { slots = put_in old.slots number (slot_with k port.bins); dials = port.dials; lent = None }

-- the fast bins of one slot changed
pub record ChangedBins (old : SerialState) (n : ℕ) (Step : PlainBins → PlainBins → Type 0) (new : SerialState) : Type 0 where
  pub slot : KeptSlot
  pub next : PlainBins
  pub there : slot_in old.slots n ≡ Some slot
  pub step : Step slot.bins next
  pub left : new ≡ record old { slots = put_in old.slots n (slot_with slot.kept next) }

-- room was made in one slot
pub record IdleSlot (old new : SerialState) : Type 0 where
  pub number : ℕ
  pub changed : ChangedBins old number plain_fast.idle new

-- a block was pushed into a fast bin of its arena
pub record PushedSlot (old : SerialState) (b : Block) (new : SerialState) : Type 0 where
  pub number : ℕ
  pub arena : b.arena ≡ Some number
  pub changed : ChangedBins old number (λ p q. plain_fast.step p (fasts.Pushes (fast_index_of b.size) b.addr) q) new

-- the words were told
pub record DialsOut (old : SerialState) (d : PlainDials) (new : SerialState) : Type 0 where
  pub told : d ≡ old.dials
  pub left : new ≡ old

-- something was done at the book, which was sound
pub record BookedState (old : SerialState) (change : BookChange) (book : BookValue) (new : SerialState) : Type 0 where
  pub was : book ≡ old.book
  pub sound : books.IsSound book
  pub left : new ≡ record old { book = book_after old.tunables change old.book }

-- a new arena was put into its slot, with empty fast bins, and a thread attached to it
pub record AddedArena (old : SerialState) (thread : ℕ) (k : KeptArena) (new : SerialState) : Type 0 where
  pub bins : PlainBins
  pub empty : state_of bins ≡ empty_state
  pub left : new ≡ record old {
    slots = put_in old.slots k.arena.number (slot_with k bins);
    book = attached_book old.book thread k.arena.number;
  }

-- a block was posted, or not; one was taken, or there was none
pub record PostedTray (old : SerialState) (tray : ℕ) (b : Block) (full : Option ℕ) (new : SerialState) : Type 0 where
  pub told : full ≡ seen_by_post (tray_at old.trays tray)
  pub left : new ≡ record old { trays = trays_posted tray b old.trays }

pub record TookTray (old : SerialState) (tray : ℕ) (found : Result Block ℕ) (new : SerialState) : Type 0 where
  pub told : found ≡ found_by_take (tray_at old.trays tray)
  pub left : new ≡ record old { trays = trays_taken tray old.trays }

-- what places are that are seen so; no lock is ever taken
abbrev pub serial_ways : {P : Type 0} → (P → SerialState) → PlaceWays P PlainPort PlainDials
serial_ways view = record {
  lent = λ p n port arena q. LentSlot (view p) n port arena (view q);
  gave = λ p port arena q. GaveSlot (view p) port arena (view q);
  free = λ p start avoid n. n ≡ start;
  idle = λ p q. IdleSlot (view p) (view q);
  pushed = λ p b q. PushedSlot (view p) b (view q);
  dials_lent = λ p d q. DialsOut (view p) d (view q);
  dials_gave = λ p d q. view q ≡ record (view p) { dials = d };
  booked = λ p change book q. BookedState (view p) change book (view q);
  added = λ p thread arena q. AddedArena (view p) thread arena (view q);
  posted = λ p tray b full q. PostedTray (view p) tray b full (view q);
  took = λ p tray found q. TookTray (view p) tray found (view q);
  serves = λ exact p hands. Serves exact (view p) hands;
  notes = λ p own others. Notes (view p) own others;
  room = λ p n. HasSlotRoom (view p) n;
  tunables = λ p. (view p).tunables;
  there = λ p n. is_there (view p) n;
  listed = λ p n. is_there (view p) n;
  whole = λ p. IsWhole (view p);
  owed = λ p n. IsOwed (view p) n;
  writes = λ p who. Unit {0};
  shown = mapped_in_words;
}

-- those of the state itself
abbrev pub state_ways : PlaceWays SerialState PlainPort PlainDials
state_ways = serial_ways (λ s. s)

abbrev pub serial_setting : {P K : Type 0} → (P → SerialState) → Port K → Setting P PlainPort PlainDials K
serial_setting view port = setting (serial_ways view) (plain_means port) plain_dials

-- ---- the plain world that a call goes over

pub record SerialWorld (K : Type 0) : Type 0 where
  pub slots : List (Option WorldSlot)
  pub dials : DialState
  pub book : BookValue
  pub trays : List Tray
  pub space : Space K

-- places, with the address space of a thread
abbrev pub world_at : {K : Type 0} → SerialState → Space K → SerialWorld K
world_at st space = record { slots = seen_slots st.slots; dials = st.dials.state; book = st.book; trays = st.trays; space = space }

-- the world before the first call
abbrev pub first_world : {K : Type 0} → Tunables → Space K → SerialWorld K
first_world t space = record { slots = first_slots; dials = first_words t; book = first_book t.records; trays = empty_trays; space = space }

-- the world of a hold, with these fast bins and the caller's cache
abbrev pub hold_world : {K : Type 0} → SerialWorld K → FastState → CacheValue → HoldWorld K
hold_world w bins cache = record { bins = bins; dials = w.dials; cache = cache; space = w.space }

-- ---- a hold

-- the entry of a hold
abbrev pub entry_of : {K : Type 0} → Who → Act → PlayedHold K Took → Recorded
entry_of who act p = recorded who act p.said (ended_of act p.result.found)

-- the arena of a slot behind it, and the world
abbrev pub slot_held : {K : Type 0} → Who → Act → WorldSlot → PlayedHold K Took → WorldSlot
slot_held who act s p = world_slot (with_journal p.result.arena (s.kept.journal ++ entry_of who act p ∷ [])) p.world.bins

abbrev pub world_held : {K : Type 0} → Who → ℕ → Act → WorldSlot → SerialWorld K → PlayedHold K Took → SerialWorld K
world_held who n act s w p = record w {
  slots = put_in w.slots n (slot_held who act s p);
  dials = p.world.dials;
  space = p.world.space;
}

-- what a hold tells, and the world behind it
abbrev pub hold_told : {K : Type 0} → Act → WorldSlot → PlayedHold K Took → HoldEnd
hold_told act s p = hold_end (length s.kept.journal) (ended_of act p.result.found) p.world.cache

abbrev pub played_in : {K : Type 0} → Port K → Tunables → Who → ℕ → Act → CacheValue → SerialWorld K → WorldSlot → Option (HoldEnd × SerialWorld K)
played_in port t who n act cache w s =
    option_map (λ p. (hold_told act s p, world_held who n act s w p))
    (played_hold port s.kept.arena.number (rules_of t act s.kept.arena) (hold_world w s.bins cache))

-- a hold of the arena with a number, where that is there
abbrev pub hold_played : {K : Type 0} → Port K → Tunables → Who → ℕ → Act → CacheValue → SerialWorld K → Option (HoldEnd × SerialWorld K)
hold_played port t who n act cache w = option_and_then (played_in port t who n act cache w) (slot_in w.slots n)

-- ---- a new arena

-- the asks for its first heap, over the address space alone
abbrev pub asks_played : {K : Type 0} → Port K → Tunables → ℕ → ℕ → SerialWorld K → Option (PlayedHold K (Option Plain))
asks_played port t n bytes w = played_hold port n (opened t bytes (closed_arena t n)) (hold_world w empty_state None)

-- the world with the arena in its slot, and the thread attached to it
abbrev pub world_opened : {K : Type 0} → Who → ℕ → List Said → Plain → SerialWorld K → SerialWorld K
world_opened who bytes said arena w = record w {
  slots = put_in w.slots arena.number (world_slot (with_journal arena (recorded who (Open bytes) said ends.Done ∷ [])) empty_state);
  book = attached_book w.book who.thread arena.number;
}

-- where all was refused the number is given back
abbrev pub opening_left : {K : Type 0} → Who → ℕ → ℕ → SerialWorld K → PlayedHold K (Option Plain) → SerialWorld K
opening_left who n bytes w p =
    let asked = record w { space = p.world.space } in
    elim p.result [ None ↦ record asked { book = undone_book w.book n } | Some arena ↦ world_opened who bytes p.said arena asked ]

-- whether an arena was opened, and the world then
abbrev pub opening_played : {K : Type 0} → Port K → Tunables → Who → ℕ → ℕ → SerialWorld K → Option (Bool × SerialWorld K)
opening_played port t who n bytes w = option_map (λ p. (is_some p.result, opening_left who n bytes w p)) (asks_played port t n bytes w)

-- ---- what is done outside all holds

-- the words after some steps
abbrev pub after_steps : List dials.DialStep → DialState → DialState
after_steps [] d = d
after_steps (s ∷ ss) d = after_steps ss (words.after_dial_step s d)

-- the words when a mapping was granted, or refused
abbrev pub map_words : ℕ → Option ℕ → DialState → DialState
map_words len None d = d
map_words len (Some start) d = words.after_dial_step (dials.Maps len) d

-- the world when a mapping was asked for
abbrev pub world_mapped : {K : Type 0} → Port K → ℕ → SerialWorld K → SerialWorld K
world_mapped port len w = record w { dials = map_words len (space_place port w.space len) w.dials; space = space_mapped port w.space len }

-- the world when a mapping went back, with these steps at the words
abbrev pub world_unmapped : {K : Type 0} → Port K → Block → List dials.DialStep → SerialWorld K → SerialWorld K
world_unmapped port b steps w = record w {
  dials = after_steps steps w.dials;
  space = record w.space { kernel = port.given w.space.kernel (unmapping b) };
}

-- when a mapped chunk was freed
abbrev pub world_freed : {K : Type 0} → Port K → Tunables → Block → SerialWorld K → SerialWorld K
world_freed port t b w = world_unmapped port b (freeing_steps t.dynamic b w.dials.mmap_threshold) w

-- where a mapping begins when another length was asked for, or `None` where that is refused
abbrev pub remap_start : {K : Type 0} → Port K → Block → ℕ → SerialWorld K → Option ℕ
remap_start port b len w = space_remap_place port w.space (mapping_change b len)

-- the words when another length was granted, or refused
abbrev pub remap_words : Block → ℕ → Option ℕ → DialState → DialState
remap_words b len None d = d
remap_words b len (Some start) d = words.after_dial_step (dials.Remaps (mapping_bytes b) len) d

-- the world then
abbrev pub world_remapped : {K : Type 0} → Port K → Block → ℕ → SerialWorld K → SerialWorld K
world_remapped port b len w = record w {
  dials = remap_words b len (remap_start port b len w) w.dials;
  space = space_remapped port w.space (mapping_change b len);
}

-- the world when a block was pushed into a fast bin of its arena, where that is there
abbrev pub slot_pushed : Block → WorldSlot → WorldSlot
slot_pushed b s = record s { bins = bins.after_fast_step (fasts.Pushes (fast_index_of b.size) b.addr) s.bins }

abbrev pub world_pushed : {K : Type 0} → Block → SerialWorld K → Option (SerialWorld K)
world_pushed b w =
    option_and_then (λ n. option_map (λ s. record w { slots = put_in w.slots n (slot_pushed b s) }) (slot_in w.slots n)) b.arena

-- ---- a call

-- A call from a world on: its result, and the world. `None` where an arena isn't there, or the rules of a hold go nowhere.
abbrev pub played_call : {K A : Type 0} → Port K → Tunables → Who → Call A → SerialWorld K → Option (A × SerialWorld K)
played_call port t who (Done x) w = Some (x, w)
played_call port t who (Holds n act cache next) w =
    option_and_then (λ r. played_call port t who (next r.0.place r.0.ended r.0.cache) r.1) (hold_played port t who n act cache w)
played_call port t who (HoldsFree start avoid act cache next) w =
    option_and_then (λ r. played_call port t who (next start r.0.place r.0.ended r.0.cache) r.1) (hold_played port t who start act cache w)
played_call port t who (Opens n bytes next) w =
    option_and_then (λ r. played_call port t who (next r.0) r.1) (opening_played port t who n bytes w)
played_call port t who (Books change next) w = played_call port t who (next w.book) (record w { book = book_after t change w.book })
played_call port t who (Maps len next) w = played_call port t who (next (space_place port w.space len)) (world_mapped port len w)
played_call port t who (Pushes b c) w = option_and_then (λ v. played_call port t who c v) (world_pushed b w)
played_call port t who (Frees b c) w = played_call port t who c (world_freed port t b w)
played_call port t who (Unmaps b c) w = played_call port t who c (world_unmapped port b (dials.Unmaps (mapping_bytes b) ∷ []) w)
played_call port t who (Remaps b len next) w =
    played_call port t who (next (remap_start port b len w)) (world_remapped port b len w)
played_call port t who (Posts tray b next) w =
    played_call port t who (next (seen_by_post (tray_at w.trays tray))) (record w { trays = trays_posted tray b w.trays })
played_call port t who (Takes tray next) w =
    played_call port t who (next (found_by_take (tray_at w.trays tray))) (record w { trays = trays_taken tray w.trays })
