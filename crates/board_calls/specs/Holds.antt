-- A hold of an arena of a board, its book, and blocks that change hands (this project's own).
use Rattle.std.specs.Prelude.{◌≡◌, ℕ, ◌+◌, ◌≤◌, not, true, false, List, [], ◌∷◌, ◌++◌, map, is_some, Option, Some, None, IsSome, IsTrue, if◌then◌else◌}
use Rattle.std.specs.List.{filter}
use Rattle.chunk_tags.specs.BinOrder.{fast_chunk}
use Rattle.chunk_tags.specs.declared.block.Block.{Block}
use Rattle.chunk_tags.specs.declared.tiles.Chunk.{Chunk}
use Rattle.chunk_tags.specs.declared.tunables.Tunables.{Tunables}
use Rattle.fast_bins.specs.FastPorts.{FastStep, Flags, Clears, Pushes, Pops, Gathers, Owns}
use Rattle.mapped_chunks.specs.DialPorts.{DialStep}
use Rattle.arena_rules.specs.PlainArena.{IsSound, is_main, times_used}
use Rattle.arena_rules.specs.MainPlaces.{IsPlaced}
use Rattle.arena_rules.specs.Rules.{heap_windows_of}
use Rattle.arena_core.specs.Journal.{Recorded}
use Rattle.arena_core.specs.Replay.{IsReplay}
use Rattle.arena_core.specs.declared.journal.Who.{Who}
use Rattle.arena_choice.specs.Numbers.{has}
use Rattle.arena_choice.specs.Books.{BookValue}
use Rattle.arena_choice.specs.Books as books
use Rattle.arena_holds.specs.Places.{KeptArena, as_chunk_of, as_mapped, as_mapped_bytes, new_arena}
use Rattle.arena_holds.specs.Returning.{AreOf}
use Rattle.board_types.specs.Views.{Own, OwnChunk}
use Rattle.board_types.specs.Flat.{FlatView}
use Rattle.board_calls.specs.Passes.{in_mine, is_known, in_lists, owns_number, added_to, after_word, HeldWord, LineFits}

-- an arena as it is at home
pub record IsHome (t : Tunables) (a : ℕ) (k : KeptArena) : Type 0 where
  pub number : k.arena.number ≡ a
  pub sound : IsSound k.arena
  pub placed : IsPlaced k.arena
  pub heaps : is_main k.arena ≡ false → k.arena.windows ≡ heap_windows_of t
  pub replays : IsReplay t (new_arena t a) k.journal k.arena

-- A hold: the view, which arena, and what that was when its lock was taken, where its record had one.
pub record HoldView : Type 0 where
  pub view : FlatView
  pub arena : ℕ
  pub kept : Option KeptArena

-- its journal then, and how often a chunk was used
abbrev pub journal_in : Option KeptArena → List Recorded
journal_in None = []
journal_in (Some k) = k.journal

abbrev pub used_in : Chunk → Option KeptArena → ℕ
used_in e None = 0
used_in e (Some k) = times_used e k.arena

-- A lock was taken: what was known to be there is, and what is kept for a new arena isn't; the arena is as it is at home; and
-- each of its used chunks is in the stock of the hold or the pass's or another's.
pub record Locks (v : FlatView) (a : ℕ) (h : HoldView) (stock : Chunk → ℕ) : Type 0 where
  pub arena : h.arena ≡ a
  pub view : h.view ≡ v
  pub some : IsTrue (is_known v a) → IsSome h.kept
  pub new : v.own ≡ record { number = a; stored = false } ∷ [] → h.kept ≡ None
  pub home : (k : KeptArena) → h.kept ≡ Some k → IsHome v.tunables a k
  pub backed : (e : Chunk) → stock e + in_mine v (as_chunk_of a e) ≡ used_in e h.kept

-- ---- steps in a hold

-- a chunk of an arena behind those pushed, and those popped, newest first
abbrev pub pushed_by : ℕ → FastStep → List OwnChunk → List OwnChunk
pushed_by a (Flags f) ps = ps
pushed_by a Clears ps = ps
pushed_by a (Pushes bin at) ps = record { arena = a; chunk = fast_chunk bin at } ∷ ps
pushed_by a (Pops bin at) ps = ps
pushed_by a (Gathers bin) ps = ps
pushed_by a (Owns bin at) ps = ps

abbrev pub popped_by : ℕ → FastStep → List OwnChunk → List OwnChunk
popped_by a (Flags f) ps = ps
popped_by a Clears ps = ps
popped_by a (Pushes bin at) ps = ps
popped_by a (Pops bin None) ps = ps
popped_by a (Pops bin (Some at)) ps = record { arena = a; chunk = fast_chunk bin at } ∷ ps
popped_by a (Gathers bin) ps = ps
popped_by a (Owns bin None) ps = ps
popped_by a (Owns bin (Some at)) ps = record { arena = a; chunk = fast_chunk bin at } ∷ ps

-- A step at the fast bins of a hold: a chunk of its arena comes to the pass or leaves it, and nothing else changes.
pub record AfterFast (s : FastStep) (h i : HoldView) : Type 0 where
  pub others : (n : ℕ) (e : Chunk) → (n ≡ h.arena → ⊥) → in_mine i.view (as_chunk_of n e) ≡ in_mine h.view (as_chunk_of n e)
  pub pushes : i.view.pushes ≡ pushed_by h.arena s h.view.pushes
  pub pops : i.view.pops ≡ popped_by h.arena s h.view.pops
  pub rest : i ≡ record h { view = record h.view { mine = i.view.mine; pushes = i.view.pushes; pops = i.view.pops } }

-- a step at the words in a hold
pub record AfterHeldWord (s : DialStep) (h i : HoldView) : Type 0 where
  pub may : HeldWord s
  pub is : i ≡ record h { view = after_word s h.view }

-- ---- it comes back

-- What is given back: an arena as it is at home, whose journal has these entries more, of one line that may come; each chunk in the stock of the
-- hold is used still; and where there was none before, its number was kept for it.
pub record Returns (who : Who) (h : HoldView) (stock : Chunk → ℕ) (entries : List Recorded) (k : KeptArena) : Type 0 where
  pub home : IsHome h.view.tunables h.arena k
  pub grew : k.journal ≡ journal_in h.kept ++ entries
  pub fits : LineFits who h.view
  pub whose : AreOf who entries
  pub covered : (e : Chunk) → stock e ≤ times_used e k.arena
  pub new : h.kept ≡ None → h.view.own ≡ record { number = h.arena; stored = false } ∷ []

-- the own numbers, when a new arena came into its record
abbrev pub own_stored : ℕ → Option KeptArena → List Own → List Own
own_stored a kept own = if is_some kept then own else record { number = a; stored = true } ∷ []

-- Its lock was given back: of its used chunks those are the pass's that aren't in the stock.
pub record Unlocked (h : HoldView) (stock : Chunk → ℕ) (entries : List Recorded) (k : KeptArena) (w : FlatView) : Type 0 where
  pub mine : (e : Chunk) → in_mine w (as_chunk_of h.arena e) + stock e ≡ times_used e k.arena
  pub others : (n : ℕ) (e : Chunk) → (n ≡ h.arena → ⊥) → in_mine w (as_chunk_of n e) ≡ in_mine h.view (as_chunk_of n e)
  pub rest : w ≡ record h.view { mine = w.mine; own = own_stored h.arena h.kept h.view.own; added = h.view.added ++ added_to h.arena (journal_in h.kept) entries }

-- ---- the book

-- the book that a pass was given: sound, with the arenas of each list that the pass gave back, and its own numbers
pub record IsBookOf (v : FlatView) (b : BookValue) : Type 0 where
  pub sound : books.IsSound b
  pub records : b.records ≡ v.tunables.records
  pub listed : (n : ℕ) → IsTrue (in_lists n v) → has n b.list ≡ true
  pub own : (n : ℕ) → IsTrue (owns_number n v.own) → has n b.kept ≡ true

-- the own numbers of a pass behind a hold of the book that kept these before, and keeps those now
abbrev pub own_after : List ℕ → List ℕ → List Own → List Own
own_after was now own = filter (λ (o : Own). has o.number now) own ++ map (λ n. let o : Own = record { number = n; stored = false } in o) (filter (λ n. not (has n was)) now)

-- the view behind giving a book back, with these own numbers
abbrev pub after_book : BookValue → List Own → FlatView → FlatView
after_book b own v = record v { lists = b.list ∷ v.lists; own = own }

-- ---- blocks that change hands

-- a block is among those of a pass
pub record HasBlock (b : Block) (v : FlatView) : Type 0 where
  pub chunks : (n : ℕ) (e : Chunk) → as_chunk_of n e b ≤ in_mine v (as_chunk_of n e)
  pub count : as_mapped b ≤ v.mapped
  pub bytes : as_mapped_bytes b ≤ v.bytes

-- it is so no more
pub record GaveBlock (b : Block) (v w : FlatView) : Type 0 where
  pub chunks : (n : ℕ) (e : Chunk) → in_mine w (as_chunk_of n e) + as_chunk_of n e b ≡ in_mine v (as_chunk_of n e)
  pub count : w.mapped + as_mapped b ≡ v.mapped
  pub bytes : w.bytes + as_mapped_bytes b ≡ v.bytes

-- it is so now
pub record GotBlock (b : Block) (v w : FlatView) : Type 0 where
  pub chunks : (n : ℕ) (e : Chunk) → in_mine w (as_chunk_of n e) ≡ in_mine v (as_chunk_of n e) + as_chunk_of n e b
  pub count : w.mapped ≡ v.mapped + as_mapped b
  pub bytes : w.bytes ≡ v.bytes + as_mapped_bytes b
