-- What a hold is to the layers above (this project's own), in terms of the flat view alone.
use Rattle.std.specs.List.{AllByRecursion}
use Rattle.std.specs.Prelude.{◌≡◌, ◌≢◌, ℕ, ◌+◌, ◌-◌, ◌<◌, ◌≤◌, ◌⊎◌, true, false, Option as Maybe, Some, List, [], ◌∷◌, ◌++◌, is_some}
use Rattle.chunk_tags.specs.declared.tunables.Tunables.{Tunables}
use Rattle.chunk_tags.specs.declared.tiles.Chunk.{Chunk}
use Rattle.arena_rules.specs.PlainArena.{times_used}
use Rattle.arena_core.specs.Journal.{Recorded}
use Rattle.arena_core.specs.declared.journal.Who.{Who}
use Rattle.arena_core.specs.KeptArenas.{KeptArena, IsKept}
use Rattle.arena_choice.specs.Books as books
use Rattle.arena_choice.specs.Books.{BookValue}
use Rattle.arena_choice.specs.Numbers.{has}
use Rattle.board_types.specs.Views.{ViewValue, Added, Own}
use Rattle.board_types.specs.Homes.{owns, stores, HasAll, AreBelow}
use Rattle.board_types.specs.Flat.{FlatView, flat}
use Rattle.board_types.specs.Chains.{times_own}
use Rattle.board_types.specs.Places.{times_in, used_in}
use Rattle.board_types.specs.Plays.{known_by, was}

-- A hold as the layers above see it: what they see of its pass, the number of the arena, and the arena as it was when it was taken.
pub record HoldView : Type 0 where
  pub view : FlatView
  pub arena : ℕ
  pub kept : Maybe KeptArena

-- what a hold of the arena a shows
abbrev pub seen : ViewValue → ℕ → HoldView
seen v a = record { view = flat v; arena = a; kept = (was v).arena }

-- What others have of the held arena: how often a chunk is a used or pending one, less how often the pass has it. No step of another
-- pass changes it.
abbrev pub stock_of : ViewValue → ℕ → Chunk → ℕ
stock_of v a c = (used_in (was v) c + times_own a c v.places.pending) - times_in a c v.places.mine

-- What a pass learns where it takes the lock of the arena a: an arena that it knows is there, it is what its journal replays to, and
-- each of its used chunks is the pass's or in the stock.
pub record Locks (t : Tunables) (v : FlatView) (a : ℕ) (h : HoldView) (stock : Chunk → ℕ) : Type 0 where
  pub view : h.view ≡ v
  pub arena : h.arena ≡ a
  pub some : known_by v.lists v.mine v.added a ≡ true → is_some h.kept ≡ true
  pub home : (k : KeptArena) → h.kept ≡ Some k → IsKept t a k
  pub backed : (k : KeptArena) (c : Chunk) → h.kept ≡ Some k → stock c + times_in a c v.mine ≡ times_used c k.arena

-- all entries are of this thread and line
abbrev pub AreOf : Who → List Recorded → Type 0
AreOf who [] = Unit {0}
AreOf who (e ∷ es) = (e.who ≡ who) × AreOf who es

-- Entries of a line may be added: it is of the pass's thread, and no entry that the pass added is of a later line.
pub record LineFits (who : Who) (v : FlatView) : Type 0 where
  pub thread : who.thread ≡ v.number
  pub lines : AllByRecursion (λ (x : Added). x.entry.who.line ≤ who.line) v.added

-- An arena that was lent may come back: it is what its journal replays to, the journal has grown by entries of one line of the pass's
-- thread, and what others have of it is still used.
pub record Returns (t : Tunables) (who : Who) (h : HoldView) (stock : Chunk → ℕ) (before : KeptArena) (entries : List Recorded)
    (k : KeptArena) : Type 0 where
  pub kept : h.kept ≡ Some before
  pub home : IsKept t h.arena k
  pub grew : k.journal ≡ before.journal ++ entries
  pub whose : AreOf who entries
  pub fits : LineFits who h.view
  pub covered : (c : Chunk) → stock c ≤ times_used c k.arena

-- these entries as a view lists them, behind what stood before in the journal
abbrev pub items_of : ℕ → List Recorded → List Recorded → List Added
items_of a before [] = []
items_of a before (e ∷ es) = record { arena = a; before = before; entry = e } ∷ items_of a (before ++ e ∷ []) es

-- What the pass has once that arena is back: of its used chunks those that aren't in the stock, of other arenas what it had, and the
-- entries listed as added; all else is the same.
pub record Unlocked (h : HoldView) (stock : Chunk → ℕ) (before : KeptArena) (entries : List Recorded) (k : KeptArena) (w : FlatView)
    : Type 0 where
  pub mine : (c : Chunk) → times_in h.arena c w.mine + stock c ≡ times_used c k.arena
  pub others : (n : ℕ) (c : Chunk) → n ≢ h.arena → times_in n c w.mine ≡ times_in n c h.view.mine
  pub added : w.added ≡ h.view.added ++ items_of h.arena before.journal entries
  pub rest : w ≡ record h.view { mine = w.mine; added = w.added }

-- A book comes back: it is sound and has the layout's records; its list lost no arena, each that it gained is the pass's own and in
-- its record; and each other kept number that it lost is the pass's own, and its record was never opened.
pub record LeavesBook (t : Tunables) (own : List Own) (old b : BookValue) : Type 0 where
  pub sound : books.IsSound b
  pub records : b.records ≡ t.records
  pub below : AreBelow t.records b.list × AreBelow t.records b.kept
  pub list : HasAll old.list b.list
  pub gained : (n : ℕ) → has n b.list ≡ true → has n old.list ≡ false → 0 < stores n own
  pub lost : (n : ℕ) → has n old.kept ≡ true → has n b.kept ≡ false →
      (0 < owns n own) × ((has n b.list ≡ true) ⊎ (stores n own ≡ 0))
