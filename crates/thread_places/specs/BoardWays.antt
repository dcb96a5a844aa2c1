-- The places over a pass of a board (this project's own): what they are to a thread's calls. While an arena or the words are
-- lent, the pass is with what was lent.
use Rattle.std.specs.Prelude.{◌≡◌, ℕ, ◌+◌, ◌≤◌, ◌++◌, Bool, false, List, [], ◌∷◌, Option, Some, None, Result, Ok, Err, IfErr, IsTrue}
use Rattle.chunk_tags.specs.declared.block.Block.{Block}
use Rattle.chunk_tags.specs.declared.tiles.Chunk.{Chunk}
use Rattle.chunk_tags.specs.declared.tunables.Tunables.{Tunables}
use Rattle.chunk_tags.specs.Tunables.{serial_values}
use Rattle.fast_bins.specs.FastPorts.{Fast}
use Rattle.arena_core.specs.Journal.{Recorded}
use Rattle.arena_core.specs.declared.journal.Who.{Who}
use Rattle.arena_core.specs.Shown.{MappedShown}
use Rattle.arena_choice.specs.Books.{BookValue}
use Rattle.arena_holds.specs.BookChanges.{BookChange, book_after}
use Rattle.arena_holds.specs.Places.{KeptArena, PlaceWays, Hands, as_chunk_of, as_mapped, as_mapped_bytes, Covers}
use Rattle.board_types.specs.Views.{Own}
use Rattle.board_types.specs.Flat.{FlatView}
use Rattle.board_calls.specs.Passes.{in_mine, is_known, in_lists, added_to, LineFits}
use Rattle.board_calls.specs.Holds.{HoldView, Locks, Returns, Unlocked, IsBookOf, GaveBlock, after_book}

-- the view of the pass, where that is here; how often a take asks; and the line whose entries are added
pub record BoardState : Type 0 where
  pub here : Option FlatView
  pub polls : ℕ
  pub who : Who

abbrev pub state_at : Option FlatView → ℕ → Who → BoardState
state_at here polls who = record { here = here; polls = polls; who = who }

-- the pass is here, and its view is such
pub record Here (st : BoardState) (Is : FlatView → Type 0) : Type 0 where
  pub view : FlatView
  pub at : st.here ≡ Some view
  pub is : Is view

-- the pass's blocks are these, exactly or at least
pub record Owns (exact : Bool) (hands : Hands) (v : FlatView) : Type 0 where
  pub chunks : (n : ℕ) (e : Chunk) → Covers exact (hands (as_chunk_of n e)) (in_mine v (as_chunk_of n e))
  pub count : Covers exact (hands as_mapped) v.mapped
  pub bytes : Covers exact (hands as_mapped_bytes) v.bytes

-- no more mappings were made, and no more bytes of the window given
pub record Notes (own : ℕ) (v : FlatView) : Type 0 where
  pub given : v.given ≤ own
  pub count : v.all_mapped ≤ own

abbrev pub there_in : Option FlatView → ℕ → Bool
there_in None n = false
there_in (Some v) n = is_known v n

abbrev pub listed_in : Option FlatView → ℕ → Bool
listed_in None n = false
listed_in (Some v) n = in_lists n v

abbrev pub tunables_in : Option FlatView → Tunables
tunables_in None = serial_values
tunables_in (Some v) = v.tunables

-- a number that is kept for a new arena
abbrev pub kept_number : ℕ → List Own
kept_number n = record { number = n; stored = false } ∷ []

-- an arena was lent, with the pass
pub record LentOf (old : BoardState) (a : ℕ) (h : HoldView) (stock : Chunk → ℕ) (kept : Option KeptArena) (new : BoardState) : Type 0 where
  pub view : FlatView
  pub at : old.here ≡ Some view
  pub locks : Locks view a h stock
  pub was : h.kept ≡ kept
  pub left : new ≡ record old { here = None }

-- it came back, with the pass
pub record GaveOf (old : BoardState) (h : HoldView) (stock : Chunk → ℕ) (k : KeptArena) (new : BoardState) : Type 0 where
  pub entries : List Recorded
  pub view : FlatView
  pub returns : Returns old.who h stock entries k
  pub unlocked : Unlocked h stock entries k view
  pub left : new ≡ record old { here = Some view }

-- the words were lent, with the pass
pub record WordsOut (old : BoardState) (d : FlatView) (new : BoardState) : Type 0 where
  pub told : old.here ≡ Some d
  pub left : new ≡ record old { here = None }

-- something was done at the book as it was found
pub record BookedOf (old : BoardState) (change : BookChange) (book : BookValue) (new : BoardState) : Type 0 where
  pub view : FlatView
  pub own : List Own
  pub at : old.here ≡ Some view
  pub found : IsBookOf view book
  pub left : new ≡ record old { here = Some (after_book (book_after view.tunables change book) own view) }

-- a block was pushed: it is the pass's no more
pub record PushedOf (old : BoardState) (b : Block) (new : BoardState) : Type 0 where
  pub view : FlatView
  pub now : FlatView
  pub at : old.here ≡ Some view
  pub gave : GaveBlock b view now
  pub arena : ℕ
  pub of : b.arena ≡ Some arena
  pub rest : now ≡ record view { mine = now.mine; pushes = record { arena = arena; chunk = record { at = b.addr; size = b.size } } ∷ view.pushes }
  pub left : new ≡ record old { here = Some now }

-- a new arena was put into its record, with its first entry, and a thread attached to it
pub record AddedOf (old : BoardState) (k : KeptArena) (new : BoardState) : Type 0 where
  pub view : FlatView
  pub now : FlatView
  pub at : old.here ≡ Some view
  pub added : now.added ≡ view.added ++ added_to k.arena.number [] k.journal
  pub rest : now ≡ record view { mine = now.mine; own = []; lists = now.lists; added = now.added }
  pub left : new ≡ record old { here = Some now }

-- the book attached a thread to a new arena that is in its record: it is in the list, and no number is the pass's own
pub record StoredOf (w : FlatView) (a : ℕ) (x : FlatView) : Type 0 where
  pub own : x.own ≡ []
  pub there : IsTrue (in_lists a x)
  pub rest : x ≡ record w { own = x.own; lists = x.lists }

-- what is listed behind a post, and behind a take
abbrev pub with_post : ℕ → Block → Option ℕ → FlatView → FlatView
with_post tray b None v = record v { posts = record { tray = tray; block = b } ∷ v.posts }
with_post tray b (Some seen) v = record v { found = (tray, seen) ∷ v.found }

abbrev pub with_take : ℕ → Result Block ℕ → List (ℕ × ℕ) → FlatView → FlatView
with_take tray (Ok b) more v = record v { takes = record { tray = tray; block = b } ∷ v.takes; found = more ++ v.found }
with_take tray (Err seen) more v = record v { found = (tray, seen) ∷ more ++ v.found }

-- a block was posted, or not; one was taken, or there was none, and then so many asks more found none
pub record PostedOf (old : BoardState) (tray : ℕ) (b : Block) (full : Option ℕ) (new : BoardState) : Type 0 where
  pub view : FlatView
  pub now : FlatView
  pub at : old.here ≡ Some view
  pub rest : now ≡ with_post tray b full (record view { mine = now.mine; mapped = now.mapped; bytes = now.bytes })
  pub left : new ≡ record old { here = Some now }

pub record TookOf (old : BoardState) (tray polls : ℕ) (found : Result Block ℕ) (new : BoardState) : Type 0 where
  pub view : FlatView
  pub now : FlatView
  pub more : List (ℕ × ℕ)
  pub at : old.here ≡ Some view
  pub rest : now ≡ with_take tray found more (record view { mine = now.mine; mapped = now.mapped; bytes = now.bytes; asks = now.asks })
  pub asked : IfErr found (λ seen. now.asks ≡ view.asks + polls)
  pub left : new ≡ record old { here = Some now }

abbrev pub shown_of : HoldView → MappedShown
shown_of h = record { count = h.view.mapped; bytes = h.view.bytes }

-- what places are that are seen so, whose holds and words are seen so
abbrev pub board_ways : {P H D : Type 0} → (P → BoardState) → (H → HoldView) → Fast H → (D → FlatView) → PlaceWays P H D
board_ways state seen fast words = record {
  lent = λ p a h kept q. LentOf (state p) a (seen h) (fast.stock h) kept (state q);
  gave = λ q h k r. GaveOf (state q) (seen h) (fast.stock h) k (state r);
  free = λ p start avoid a. IsTrue (there_in (state p).here a);
  idle = λ p q. state q ≡ state p;
  pushed = λ p b q. PushedOf (state p) b (state q);
  dials_lent = λ p d q. WordsOut (state p) (words d) (state q);
  dials_gave = λ p d q. state q ≡ record (state p) { here = Some (words d) };
  booked = λ p change book q. BookedOf (state p) change book (state q);
  added = λ p thread k q. AddedOf (state p) k (state q);
  posted = λ p tray b full q. PostedOf (state p) tray b full (state q);
  took = λ p tray found q. TookOf (state p) tray (state p).polls found (state q);
  serves = λ exact p hands. Here (state p) (Owns exact hands);
  notes = λ p own others. Here (state p) (Notes own);
  room = λ p a. Unit {0};
  tunables = λ p. tunables_in (state p).here;
  there = λ p n. there_in (state p).here n;
  listed = λ p n. listed_in (state p).here n;
  whole = λ p. Here (state p) (λ v. v.own ≡ []);
  owed = λ p n. Here (state p) (λ v. v.own ≡ kept_number n);
  writes = λ p who. ((state p).who ≡ who) × Here (state p) (LineFits who);
  shown = λ h. shown_of (seen h);
}
