-- What a step tells its caller.
use Rattle.chunk_tags.specs.declared.tiles.Chunk.{Chunk}
use Rattle.arena_choice.specs.Numbers.{has}
use Rattle.board_types.specs.Weights.{times}
use Rattle.std.specs.Prelude.{Bool, ◌||◌, nat_eq, ◌≡◌, ◌≢◌, ℕ, ◌+◌, ◌-◌, ◌<◌, ◌≤◌, Option as Maybe, Some, None, List, [], ◌∷◌, true, false, map, length, is_some, if◌then◌else◌}
use mathlib.Core.Option.{Option, none, some}
use Rattle.atomic_table.specs.Table.{Me, Step, rest}
use Rattle.board_types.specs.declared.slot.Slot.{Slot}
use Rattle.arena_core.specs.KeptArenas.{KeptArena, IsKept}
use Rattle.arena_choice.specs.Books as books
use Rattle.arena_choice.specs.Books.{BookValue}
use Rattle.board_types.specs.Layouts.{locks_at, trays_at}
use Rattle.board_types.specs.Views.{ViewValue, HomeValue, Taken, HomesView, ChainsView, Added, Own, Posted, DialsView}
use Rattle.board_types.specs.Homes.{home_in, journal, IsAtHome, AreBelow, in_order, grown, last_line, owns, lines, placed, added_more, stored_now, no_home, Grew, BookBack, own_of_book, list_of, kept_numbers, stores, AreListed}
use Rattle.chunk_tags.specs.declared.block.Block.{Block}
use Rattle.board_types.specs.Law.{IsPostable}
use Rattle.board_types.specs.Trays.{with_tray, tray_slot}
use Rattle.board_types.specs.Dials.{as_mapped, as_mapped_bytes}
use Rattle.board_types.specs.Places.{times_in, used_in, given_back, KeepsOthers, without_block, with_block, times_block}
use Rattle.board_types.specs.Chains.{front}

abbrev pub Mine : Type 0
Mine = Me Slot ViewValue

-- ---- locks

abbrev pub home_of : ℕ → ℕ
home_of word = word - locks_at

abbrev pub with_hold : HomesView → ℕ → HomeValue → HomesView
with_hold v a x = record v { holds = Some (record { home = a; value = x }) }

-- what a hold begins with of chains: the private lists, and nothing that was loaded or written
abbrev pub with_own : ChainsView → List (List ℕ) → ChainsView
with_own v ls = record v { written = None; loaded = None; own = ls; gathered = []; flag = None; walk = None }

-- the pass holds what lies at a home; the answers of a hold begin anew
abbrev pub holding : ViewValue → ℕ → HomeValue → List (List ℕ) → ViewValue
holding v a x ls = record v {
  told = record v.told { answers = [] };
  homes = with_hold v.homes a x;
  chains = with_own v.chains ls;
}

-- a try found another value
abbrev pub tried : ViewValue → ℕ → ℕ → ViewValue
tried v a found = record v { told = record v.told { lock_tries = (a, found) ∷ v.told.lock_tries } }

-- ---- which arenas a view knows

abbrev pub in_some : ℕ → List (List ℕ) → Bool
in_some n [] = false
in_some n (l ∷ ls) = has n l || in_some n ls

abbrev pub of_arena : ℕ → List Block → Bool
of_arena n [] = false
of_arena n (b ∷ bs) = (elim b.arena [ None ↦ false | Some m ↦ nat_eq m n ]) || of_arena n bs

abbrev pub added_to : ℕ → List Added → Bool
added_to n [] = false
added_to n (x ∷ xs) = nat_eq x.arena n || added_to n xs

-- main, those of a list that it gave back, of its blocks, and of the entries that it added
abbrev pub known_by : List (List ℕ) → List Block → List Added → ℕ → Bool
known_by lists mine added n = nat_eq n 0 || (in_some n lists || (of_arena n mine || added_to n added))

abbrev pub is_known : ViewValue → ℕ → Bool
is_known v n = known_by v.homes.lists v.places.mine v.homes.added n

-- What a pass learns of what it takes: it is what is at home there; of its journal the view lists what is the pass's own; the
-- pass's blocks there are used; an arena that it knows is there, and one whose number is its own is in the record only where it
-- put it there. Of the book: it keeps the pass's own numbers, and its list has all of the lists that the pass gave back.
pub record IsLearned (v : ViewValue) (a : ℕ) (x : HomeValue) : Type 0 where
  pub at_home : IsAtHome v.fixed.tunables a x
  pub book : a ≡ v.fixed.tunables.records → is_some x.book ≡ true
  pub listed : lines v.homes.number a v.homes.added ≡ placed v.homes.number a [] (journal x)
  pub mine : (c : Chunk) → times_in a c v.places.mine ≤ used_in x c
  pub there : a < v.fixed.tunables.records → is_known v a ≡ true → is_some x.arena ≡ true
  pub new : a < v.fixed.tunables.records → 0 < owns a v.homes.own → stores a v.homes.own ≡ 0 → x.arena ≡ None
  pub own : a ≡ v.fixed.tunables.records → (n : ℕ) → owns n v.homes.own ≤ times n (kept_numbers x.book)
  pub lists : a ≡ v.fixed.tunables.records → AreListed (list_of x.book) v.homes.lists

abbrev pub Tries : Step Slot → Mine → ℕ → Mine → Type 0
Tries st m found m' = (found ≡ 0 → (s : Slot) × (ls : List (List ℕ)) × IsLearned m.0 (home_of st.word) (home_in s) × (home_of st.word < m.0.fixed.layout.records → (map front ls ≡ (home_in s).fronts) × (length (map front ls) ≡ 10)) × (m' ≡ (holding m.0 (home_of st.word) (home_in s) ls, (home_of st.word, s) ∷ [])))
    × (found ≢ 0 → m' ≡ (tried m.0 (home_of st.word) found, []))

-- what it holds
abbrev pub was_of : Maybe Taken → HomeValue
was_of None = no_home
was_of (Some h) = h.value

abbrev pub was : ViewValue → HomeValue
was v = was_of v.homes.holds

-- a number of the pass's own is in its record once an arena came into it
abbrev pub own_after : ℕ → HomeValue → List Own → List Own
own_after a x os = if is_some x.arena then os else stored_now a os

abbrev pub let_go : HomesView → ℕ → HomeValue → HomeValue → HomesView
let_go v a x y = record v { holds = None; added = added_more v a x y; own = own_after a x v.own }

-- the arena that was x is given back as y
abbrev pub released : ViewValue → ℕ → HomeValue → HomeValue → ViewValue
released v a x y = record v {
  homes = let_go v.homes a x y;
  chains = with_own v.chains [];
  places = given_back a x y v.places;
}

abbrev pub freed : Mine → Mine
freed (v, []) = (v, [])
freed (v, (a, s) ∷ c) = (released v a (was v) (home_in s), c)

abbrev pub Frees : Step Slot → Mine → ℕ → Mine → Type 0
Frees st m found m' = m' ≡ freed m

-- the pass has ended
abbrev pub ended : ViewValue → ViewValue
ended v = record v { homes = record v.homes { retired = true } }

-- and lists nothing of other threads
abbrev pub Ends : Step Slot → Mine → ℕ → Mine → Type 0
Ends st m found m' = (m' ≡ (ended m.0, m.1)) × ((n a : ℕ) → n ≢ m.0.homes.number → lines n a m.0.homes.added ≡ [])

-- what a record becomes that is given back with an arena: the fronts are those of the lists that the pass has, the rest as it was
abbrev pub given_home : ViewValue → KeptArena → HomeValue
given_home v k = record { arena = Some k; fronts = map front v.chains.own; book = (was v).book }

-- What an unlock needs of the arena that it gives back: it is sound, in its windows, and the replay of its journal; the journal
-- has grown by entries of the pass's own, whose lines don't fall and aren't below a line that the pass has listed there; an arena
-- that is new in its record has an own number; and what others have of it is still used.
pub record GivesBack (v : ViewValue) (a : ℕ) (k : KeptArena) : Type 0 where
  pub kept : IsKept v.fixed.tunables a k
  pub grew : Grew v.homes.number (was v) (given_home v k)
  pub order : in_order v.homes.number (last_line 0 (lines v.homes.number a v.homes.added)) (grown (was v) (given_home v k)) ≡ true
  pub new : is_some (was v).arena ≡ false → owns a v.homes.own ≡ 1
  pub others : KeepsOthers a (was v) (given_home v k) v.places

-- ---- trays

abbrev pub tray_of : ViewValue → ℕ → ℕ
tray_of v word = word - trays_at v.fixed.layout

-- the slot of a tray, behind the homes
abbrev pub tray_place : ViewValue → ℕ → ℕ
tray_place v j = v.fixed.layout.records + 1 + j

-- the block of a slot that was announced
abbrev pub said_block : Option Slot → Maybe Block
said_block none = None
said_block (some s) = s.block

-- a pass's block is in its hand, for a tray; what it remembers of a written link is forgotten
abbrev pub claimed : ViewValue → ℕ → Block → ViewValue
claimed v j b = record v {
  trays = record v.trays { hand = Some (with_tray j b) };
  dials = record v.dials { mapped = v.dials.mapped - as_mapped b; bytes = v.dials.bytes - as_mapped_bytes b };
  chains = record v.chains { written = None };
  places = record v.places { mine = without_block b v.places.mine };
}

abbrev pub claimed_said : ViewValue → ℕ → Maybe Block → ViewValue
claimed_said v j None = v
claimed_said v j (Some b) = claimed v j b

-- a value was found in a tray
abbrev pub found_at : ViewValue → ℕ → ℕ → ViewValue
found_at v j n = record v { trays = record v.trays { found = (j, n) ∷ v.trays.found } }

abbrev pub Claims : Step Slot → Mine → ℕ → Mine → Type 0
Claims st m found m' = (found ≡ 0 → m' ≡ (claimed_said m.0 (tray_of m.0 st.word) (said_block st.said), (tray_place m.0 (tray_of m.0 st.word), tray_slot None) ∷ []))
    × (found ≢ 0 → m' ≡ (found_at m.0 (tray_of m.0 st.word) found, []))

-- the hand is empty, and the block is posted
abbrev pub filled : ViewValue → Maybe Posted → ViewValue
filled v None = v
filled v (Some x) = record v { trays = record v.trays { hand = None; posts = x ∷ v.trays.posts } }

abbrev pub Fills : Step Slot → Mine → ℕ → Mine → Type 0
Fills st m found m' = m' ≡ (filled m.0 m.0.trays.hand, rest m.1)

-- the block of a full tray is the pass's
abbrev pub took : ViewValue → ℕ → Block → ViewValue
took v j b = record v {
  trays = record v.trays { takes = with_tray j b ∷ v.trays.takes; drawing = Some j };
  dials = record v.dials { mapped = v.dials.mapped + as_mapped b; bytes = v.dials.bytes + as_mapped_bytes b };
  places = record v.places { mine = with_block b v.places.mine };
}

-- an ask found no block
abbrev pub missed : ViewValue → ℕ → ℕ → ViewValue
missed v j n = record v { trays = record v.trays { found = (j, n) ∷ v.trays.found }; told = record v.told { missed_asks = v.told.missed_asks + 1 } }

abbrev pub Takes : Step Slot → Mine → ℕ → Mine → Type 0
Takes st m found m' = (found ≡ 2 → (b : Block) × IsPostable m.0.fixed.layout.records b × (m' ≡ (took m.0 (tray_of m.0 st.word) b, (tray_place m.0 (tray_of m.0 st.word), tray_slot (Some b)) ∷ [])))
    × (found ≢ 2 → m' ≡ (missed m.0 (tray_of m.0 st.word) found, []))

-- the slot of a taken tray goes home
abbrev pub drawn : ViewValue → ViewValue
drawn v = record v { trays = record v.trays { drawing = None } }

abbrev pub Draws : Step Slot → Mine → ℕ → Mine → Type 0
Draws st m found m' = m' ≡ (drawn m.0, rest m.1)

-- what a claim needs of the block: it is the pass's own, of an arena or mapped
pub record IsOwn (v : ViewValue) (b : Block) : Type 0 where
  pub arena : is_some b.arena ≡ true → 0 < times_block b v.places.mine
  pub mapped : as_mapped b ≤ v.dials.mapped
  pub bytes : as_mapped_bytes b ≤ v.dials.bytes

-- ---- dials

-- one mapping more was counted, and is the newest number that the maximum is due to
abbrev pub one_counted : DialsView → ℕ → DialsView
one_counted v n = record v { mapped = v.mapped + 1; all_mapped = v.all_mapped + 1; due_mapped = n ∷ v.due_mapped }

abbrev pub counted : ViewValue → ℕ → ViewValue
counted v n = record v { dials = one_counted v.dials n }

abbrev pub Counts : Step Slot → Mine → ℕ → Mine → Type 0
Counts st m found m' = m' ≡ (counted m.0 (found + 1), m.1)

-- ---- the book is given back

abbrev pub released_book : ViewValue → HomeValue → HomeValue → ViewValue
released_book v x y = record v {
  homes = record v.homes { holds = None; own = own_of_book v.homes.own x.book y.book; lists = list_of y.book ∷ v.homes.lists };
  chains = with_own v.chains [];
}

abbrev pub freed_book : Mine → Mine
freed_book (v, []) = (v, [])
freed_book (v, (a, s) ∷ c) = (released_book v (was v) (home_in s), c)

abbrev pub FreesBook : Step Slot → Mine → ℕ → Mine → Type 0
FreesBook st m found m' = m' ≡ (freed_book m)

-- what giving back the book needs: it is sound, for as many arenas and with numbers below that, and its numbers come from it as it
-- was and from the pass's own
pub record GivesBook (v : ViewValue) (b : BookValue) : Type 0 where
  pub sound : books.IsSound b
  pub records : b.records ≡ v.fixed.tunables.records
  pub below : AreBelow v.fixed.tunables.records b.list × AreBelow v.fixed.tunables.records b.kept
  pub back : BookBack v.fixed.tunables.records v.homes (was v).book (Some b)
