-- A pass, and a pass that holds an arena.
use Rattle.board_types.specs.Chains.{front}
use Rattle.std.specs.Prelude.{map, length, ◌≡◌, ℕ, ◌<◌, true, false, Some, None, List, [], ◌∷◌}
use Rattle.chunk_tags.specs.declared.block.Block.{Block}
use Rattle.atomic_table.specs.declared.shared.Seat.{Seat}
use Rattle.board_types.specs.declared.slot.Slot.{Slot}
use Rattle.board_types.specs.Views.{ViewValue}
use Rattle.std.specs.Prelude.{Bool, if◌then◌else◌}
use Rattle.arena_core.specs.declared.arena.Arena.{Arena}
use Rattle.arena_ground.specs.declared.ground.Ground.{Ground}
use Rattle.board_types.specs.declared.layout.Fixed.{Fixed}
use Rattle.arena_core.specs.KeptArenas.{KeptArena, kept_of}
use Rattle.board_types.specs.Layouts.{IsLaid}
use Rattle.board_types.specs.Views.{HomeValue, Own, Added}
use mathlib.Core.Option.{some}
use lib.ListN.{get_elem?}
use Rattle.arena_choice.specs.Numbers.{has}
use Rattle.arena_choice.specs.Books.{BookValue}
use Rattle.atomic_table.specs.Seated.{TableId}
use Rattle.board_types.specs.Law.{table_words, table_slots}
use Rattle.board_types.specs.Plays.{was}

abbrev pub view : Seat Slot ViewValue → ViewValue
view s = s.me.0

pub record IsIdle (s : Seat Slot ViewValue) (n : ℕ) : Type 0 where
  pub slots : s.me.1 ≡ []
  pub live : s.me.0.homes.live ≡ true
  pub going : s.me.0.homes.retired ≡ false
  pub number : s.me.0.homes.number ≡ n
  pub speaks : s.me.0.homes.speaks ≡ n ∷ []
  pub free : s.me.0.homes.holds ≡ None
  pub hand : s.me.0.trays.hand ≡ None
  pub pending : s.me.0.places.pending ≡ []
  pub joined : s.me.0.chains.gathered ≡ []
  pub window : s.me.0.dials.windows ≡ 1
  pub due : (s.me.0.dials.due_mapped ≡ []) × (s.me.0.dials.due_bytes ≡ [])

-- the home a is held, and its slot is the one s; what it took over is joined
pub record IsHeld (s : Seat Slot ViewValue) (n a : ℕ) (slot : Slot) : Type 0 where
  pub slots : s.me.1 ≡ (a, slot) ∷ []
  pub live : s.me.0.homes.live ≡ true
  pub going : s.me.0.homes.retired ≡ false
  pub number : s.me.0.homes.number ≡ n
  pub speaks : s.me.0.homes.speaks ≡ n ∷ []
  pub holds : s.me.0.homes.holds ≡ Some (record { home = a; value = was s.me.0 })
  pub hand : s.me.0.trays.hand ≡ None
  pub joined : s.me.0.chains.gathered ≡ []
  pub ten : length (map front s.me.0.chains.own) ≡ 10
  pub window : s.me.0.dials.windows ≡ 1
  pub due : (s.me.0.dials.due_mapped ≡ []) × (s.me.0.dials.due_bytes ≡ [])

-- ---- what a pass knows names records

abbrev pub EachOf : {A : Type 0} → (A → Type 0) → List A → Type 0
EachOf {A} P xs = (i : ℕ) (x : A) → get_elem? xs i ≡ some x → P x

-- Each number that a view has is below the count of records: its own ones, which main isn't among, those of the lists that it
-- gave back, and the arenas of its blocks and of the entries that it added.
pub record IsWithin (r : ℕ) (v : ViewValue) : Type 0 where
  pub own : EachOf (λ (o : Own). (0 < o.number) × (o.number < r)) v.homes.own
  pub lists : EachOf (λ (l : List ℕ). (n : ℕ) → has n l ≡ true → n < r) v.homes.lists
  pub mine : EachOf (λ (b : Block). (a : ℕ) → b.arena ≡ Some a → a < r) v.places.mine
  pub added : EachOf (λ (x : Added). x.arena < r) v.homes.added

-- the book's place, with a book
abbrev pub book_home : BookValue → HomeValue
book_home b = record { arena = None; fronts = []; book = Some b }

-- a table is that of a board
pub record IsBoard (told : Fixed) (id : TableId) (k : Fixed) : Type 0 where
  pub key : told ≡ k
  pub words : id.words ≡ table_words k.layout
  pub slots : id.slots ≡ table_slots k.layout
  pub laid : IsLaid k.layout
  pub records : k.tunables.records ≡ k.layout.records

-- a slot while what lay there is out
abbrev pub empty_slot : Slot
empty_slot = record { home = None; block = None; book = None }

-- the book is held, and its slot is empty
pub record IsHeldBook (s : Seat Slot ViewValue) (n : ℕ) : Type 0 where
  pub slots : s.me.1 ≡ (s.me.0.fixed.layout.records, empty_slot) ∷ []
  pub live : s.me.0.homes.live ≡ true
  pub going : s.me.0.homes.retired ≡ false
  pub number : s.me.0.homes.number ≡ n
  pub speaks : s.me.0.homes.speaks ≡ n ∷ []
  pub holds : s.me.0.homes.holds ≡ Some (record { home = s.me.0.fixed.layout.records; value = was s.me.0 })
  pub bare : (was s.me.0).arena ≡ None
  pub hand : s.me.0.trays.hand ≡ None
  pub pending : s.me.0.places.pending ≡ []
  pub joined : s.me.0.chains.gathered ≡ []
  pub window : s.me.0.dials.windows ≡ 1
  pub due : (s.me.0.dials.due_mapped ≡ []) × (s.me.0.dials.due_bytes ≡ [])

-- an arena as it is kept
abbrev pub arena_kept : Arena Ground → KeptArena
arena_kept a = kept_of (λ g. g.arena) a

-- what lies in the slot of a hold: the arena until it is out, and the fronts of the lists that the pass has
abbrev pub lent_value : Bool → ViewValue → HomeValue
lent_value out v = record { arena = if out then None else (was v).arena; fronts = map front v.chains.own; book = (was v).book }

-- with another arena
abbrev pub with_arena : HomeValue → KeptArena → HomeValue
with_arena x k = record { arena = Some k; fronts = x.fronts; book = x.book }
