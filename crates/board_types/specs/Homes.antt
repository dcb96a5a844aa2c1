-- Homes (this project's own): where each arena and the book lie, who holds them, what they are at home, and whose entries stand in
-- the journals. `last` is what lay at each home when its lock word was last 0: the arenas by number, and behind them the book.
use Rattle.std.specs.Prelude.{◌≡◌, ℕ, ◌+◌, ◌<◌, ◌≤◌, Bool, true, false, ◌&&◌, ◌||◌, nat_eq, nat_le, Option as Maybe, Some, None, List, [], ◌∷◌, ◌++◌, length, slice_index, drop, is_some, if◌then◌else◌}
use mathlib.Core.Option.{Option, none, some}
use lib.ListN.{get_elem?}
use Rattle.chunk_tags.specs.declared.tunables.Tunables.{Tunables}
use Rattle.arena_core.specs.Journal.{Recorded}
use Rattle.arena_choice.specs.Books.{BookValue}
use Rattle.arena_choice.specs.Books as books
use Rattle.arena_choice.specs.Numbers.{has}
use Rattle.arena_core.specs.KeptArenas.{KeptArena, IsKept, kept_of}
use Rattle.board_types.specs.Views.{Added, HomeValue, Own, HomesView}
use Rattle.board_types.specs.declared.slot.Slot.{Slot}
use Rattle.board_types.specs.Weights.{weigh, times}

-- ---- what lies in a slot

-- the arena in a record, with its journal
abbrev pub arena_in : Slot → Maybe KeptArena
arena_in s = elim s.home [ None ↦ None | Some h ↦ elim h.value.arena [ None ↦ None | Some a ↦ Some (kept_of (λ g. g.arena) a) ] ]

-- the fronts of its private lists
abbrev pub fronts_in : Slot → List ℕ
fronts_in s = elim s.home [ None ↦ [] | Some h ↦ h.value.fronts ]

-- the book in its place
abbrev pub book_in : Slot → Maybe BookValue
book_in s = elim s.book [ None ↦ None | Some b ↦ Some b.value ]

-- all that lies in a slot
abbrev pub home_in : Slot → HomeValue
home_in s = record { arena = arena_in s; fronts = fronts_in s; book = book_in s }

-- what stands where there is no home
abbrev pub no_home : HomeValue
no_home = record { arena = None; fronts = []; book = None }

-- the journal of an arena, where there is one
abbrev pub journal_of : Maybe KeptArena → List Recorded
journal_of None = []
journal_of (Some k) = k.journal

-- that of what lies at a home
abbrev pub journal : HomeValue → List Recorded
journal x = journal_of x.arena

-- ---- who holds what

-- A lock word is 0 where what belongs to its home lies there, and else one more than the number of the one pass that holds it.
pub record Locks (last : List HomeValue) (locks : List ℕ) (slots : List (Option Slot)) (views : List HomesView) : Type 0 where
  pub at_home : (a : ℕ) (x : HomeValue) → get_elem? last a ≡ some x → slice_index locks a ≡ 0 →
      (s : Slot) × (get_elem? slots a ≡ some (some s)) × (home_in s ≡ x)
  pub away : (a p : ℕ) (x : HomeValue) → get_elem? last a ≡ some x → slice_index locks a ≡ p + 1 → get_elem? slots a ≡ some none
  -- the pass of the mark holds it, as it was; and what a view holds is so
  pub in_hand : (a p : ℕ) (x : HomeValue) → get_elem? last a ≡ some x → slice_index locks a ≡ p + 1 →
      (v : HomesView) × (get_elem? views p ≡ some v) × (v.holds ≡ Some (record { home = a; value = x }))
  pub holders : (p a : ℕ) (x : HomeValue) (v : HomesView) → get_elem? views p ≡ some v → v.holds ≡ Some (record { home = a; value = x }) →
      (slice_index locks a ≡ p + 1) × (get_elem? last a ≡ some x)
  -- a pass has the number of its place among the views, and the first one counts them
  pub numbers : (p : ℕ) (v : HomesView) → get_elem? views p ≡ some v → v.live ≡ true → (v.number ≡ p) × (p ≡ 0 → v.made ≡ length views)

-- ---- what is at home

-- the entries of a thread stand in the order of its lines, the first one's not below a line
abbrev pub in_order : ℕ → ℕ → List Recorded → Bool
in_order n floor [] = true
in_order n floor (e ∷ es) =
    if nat_eq e.who.thread n then (nat_le floor e.who.line && in_order n e.who.line es) else in_order n floor es

-- each number is below r
abbrev pub AreBelow : ℕ → List ℕ → Type 0
AreBelow r [] = Unit {0}
AreBelow r (n ∷ ns) = (n < r) × AreBelow r ns

-- An arena at home, or the book: the homes before that of the book are the arenas'. An arena is what its journal replays to, each
-- thread's entries in order; a book is sound, and has no number that there is no record for.
pub record IsAtHome (t : Tunables) (a : ℕ) (x : HomeValue) : Type 0 where
  pub kept : (k : KeptArena) → x.arena ≡ Some k → IsKept t a k
  pub lines : (n : ℕ) → in_order n 0 (journal x) ≡ true
  pub sound : (b : BookValue) → x.book ≡ Some b → books.IsSound b × (b.records ≡ t.records)
  pub below : (b : BookValue) → x.book ≡ Some b → AreBelow t.records b.list × AreBelow t.records b.kept
  pub no_book : a < t.records → x.book ≡ None
  pub no_arena : a ≡ t.records → x.arena ≡ None
  pub ten : a < t.records → length x.fronts ≡ 10

-- all of them
pub record AreAtHome (t : Tunables) (last : List HomeValue) : Type 0 where
  pub each : (a : ℕ) (x : HomeValue) → get_elem? last a ≡ some x → IsAtHome t a x

-- ---- whose entries stand in the journals

-- of a journal, the entries of the thread n, each with what stands before it; `before` stands before the first of these
abbrev pub placed : ℕ → ℕ → List Recorded → List Recorded → List Added
placed n a before [] = []
placed n a before (e ∷ es) =
    if nat_eq e.who.thread n then record { arena = a; before = before; entry = e } ∷ placed n a (before ++ e ∷ []) es
    else placed n a (before ++ e ∷ []) es

-- what is listed of the thread n in the arena a
abbrev pub lines : ℕ → ℕ → List Added → List Added
lines n a [] = []
lines n a (x ∷ xs) =
    if nat_eq x.arena a then (if nat_eq x.entry.who.thread n then x ∷ lines n a xs else lines n a xs) else lines n a xs

-- 1 for a number below m, and else 0
abbrev pub below : ℕ → ℕ → ℕ
below m n = if nat_le m n then 0 else 1

-- how often a view speaks for the thread n
abbrev pub speaks : ℕ → HomesView → ℕ
speaks n v = times n v.speaks

-- Each thread's entries are listed by the one view that speaks for it, none of an arena that there is no record for, and no
-- journal has an entry of a thread without a pass.
pub record Lines (last : List HomeValue) (views : List HomesView) : Type 0 where
  pub listed : (p n a : ℕ) (x : HomeValue) (v : HomesView) → get_elem? views p ≡ some v → 0 < speaks n v → get_elem? last a ≡ some x →
      lines n a v.added ≡ placed n a [] (journal x)
  pub others : (p n a : ℕ) (v : HomesView) → get_elem? views p ≡ some v → speaks n v ≡ 0 → lines n a v.added ≡ []
  pub within : (p n a : ℕ) (v : HomesView) → get_elem? views p ≡ some v → length last ≤ a → lines n a v.added ≡ []
  pub unknown : (n a : ℕ) (x : HomeValue) → get_elem? last a ≡ some x → length views ≤ n → placed n a [] (journal x) ≡ []
  pub each_once : (n : ℕ) → weigh (speaks n) views ≡ below (length views) n

-- ---- the book and the records

-- a book's list of arenas
abbrev pub list_of : Maybe BookValue → List ℕ
list_of None = []
list_of (Some b) = b.list

-- the numbers of new arenas that it keeps
abbrev pub kept_numbers : Maybe BookValue → List ℕ
kept_numbers None = []
kept_numbers (Some b) = b.kept

-- how many of these have the number
abbrev pub owns : ℕ → List Own → ℕ
owns n os = weigh (λ o. if nat_eq o.number n then 1 else 0) os

-- and how many of these are in their record
abbrev pub stores : ℕ → List Own → ℕ
stores n os = weigh (λ o. if nat_eq o.number n && o.stored then 1 else 0) os

-- each number of the first list is in the second
abbrev pub HasAll : List ℕ → List ℕ → Type 0
HasAll xs ys = (a : ℕ) → has a xs ≡ true → has a ys ≡ true

-- each number of these lists is in the first one
abbrev pub AreListed : List ℕ → List (List ℕ) → Type 0
AreListed list [] = Unit {0}
AreListed list (l ∷ ls) = HasAll l list × AreListed list ls

-- Kept numbers are, each once, views' own; a record has an arena where its number is in the book's list, or is a view's own
-- and in its record; and each list that a view gave back is still part of the book's.
pub record BookTies (records : ℕ) (last : List HomeValue) (views : List HomesView) : Type 0 where
  pub book : (x : HomeValue) → get_elem? last records ≡ some x → is_some x.book ≡ true
  pub kept : (n : ℕ) (x : HomeValue) → get_elem? last records ≡ some x →
      times n (kept_numbers x.book) ≡ weigh (λ v. owns n v.own) views
  pub there : (a : ℕ) (x y : HomeValue) → a < records → get_elem? last a ≡ some x → get_elem? last records ≡ some y →
      (if is_some x.arena then 1 else 0) ≡ times a (list_of y.book) + weigh (λ v. stores a v.own) views
  pub lists : (p : ℕ) (v : HomesView) (y : HomeValue) → get_elem? views p ≡ some v → get_elem? last records ≡ some y →
      AreListed (list_of y.book) v.lists

-- The part of the rule. A pass that has ended holds nothing, and no number is its own.
pub record Homes (t : Tunables) (last : List HomeValue) (locks : List ℕ) (slots : List (Option Slot)) (views : List HomesView)
    : Type 0 where
  pub held : Locks last locks slots views
  pub at_home : AreAtHome t last
  pub lines : Lines last views
  pub ties : BookTies t.records last views
  pub ended : (p : ℕ) (v : HomesView) → get_elem? views p ≡ some v → v.retired ≡ true → (v.holds ≡ None) × (v.own ≡ [])

-- ---- what a step changes

-- what a journal has gained
abbrev pub grown : HomeValue → HomeValue → List Recorded
grown x y = drop (length (journal x)) (journal y)

-- all entries are of the thread p
abbrev pub all_by : ℕ → List Recorded → Bool
all_by p [] = true
all_by p (e ∷ es) = if nat_eq e.who.thread p then all_by p es else false

-- The journal has grown by entries of this thread alone.
pub record Grew (p : ℕ) (x y : HomeValue) : Type 0 where
  pub more : journal y ≡ journal x ++ grown x y
  pub own : all_by p (grown x y) ≡ true

-- the line of the last entry that is listed, or else the floor
abbrev pub last_line : ℕ → List Added → ℕ
last_line floor [] = floor
last_line floor (x ∷ xs) = last_line x.entry.who.line xs

-- what a view lists as added after an unlock
abbrev pub added_more : HomesView → ℕ → HomeValue → HomeValue → List Added
added_more v a x y = v.added ++ placed v.number a (journal x) (grown x y)

-- an own number that is in its record from now on
abbrev pub stored_now : ℕ → List Own → List Own
stored_now a [] = []
stored_now a (o ∷ os) = record { number = o.number; stored = o.stored || nat_eq o.number a } ∷ stored_now a os

-- the arena that comes into a record: one was there, or the record had none and its number is the pass's own
pub record Comes (a : ℕ) (x y : HomeValue) (v : HomesView) : Type 0 where
  pub there : is_some y.arena ≡ true
  pub new : is_some x.arena ≡ false → owns a v.own ≡ 1

-- ---- the book is given back

-- those that the book still keeps
abbrev pub still_own : List ℕ → List Own → List Own
still_own kept [] = []
still_own kept (o ∷ os) = if has o.number kept then o ∷ still_own kept os else still_own kept os

-- those that it keeps now and didn't keep before
abbrev pub newly_own : List ℕ → List ℕ → List Own
newly_own old [] = []
newly_own old (n ∷ ns) =
    if has n old then newly_own old ns else record { number = n; stored = false } ∷ newly_own old ns

-- a pass's own numbers once a book that was x is given back as y: those that the book still keeps, and those that it keeps now
abbrev pub own_of_book : List Own → Maybe BookValue → Maybe BookValue → List Own
own_of_book os x y = still_own (kept_numbers y) os ++ newly_own (kept_numbers x) (kept_numbers y)

-- What the numbers of a book that comes back have to be: one that it keeps no more was the pass's own, and each arena that its list
-- gained was such a number and is in its record; the list lost none.
pub record BookBack (r : ℕ) (v : HomesView) (x y : Maybe BookValue) : Type 0 where
  pub book : is_some y ≡ true
  pub kept : (n : ℕ) → times n (kept_numbers y) + owns n v.own ≡ times n (kept_numbers x) + owns n (own_of_book v.own x y)
  pub listed : (n : ℕ) → n < r →
      times n (list_of x) + stores n v.own ≡ times n (list_of y) + stores n (own_of_book v.own x y)
  pub list : HasAll (list_of x) (list_of y)
