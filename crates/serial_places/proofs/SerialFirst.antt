-- The places before the first call. Other crates may cite this file.
use Rattle.std.proofs.Common.{◌≡◌, ℕ, zero, suc, ◌*◌, ◌≤◌, Bool, true, false, List, [], ◌∷◌, length, map, replicate, Option, Some, None, IsTrue, refl, sym, ap, ◌∙◌, subst, arith, inl, inr}
use Rattle.std.proofs.lemmas.List.{length-replicate}
use Rattle.std.specs.Prelude.{IfSome, is_some, option_map}
use Rattle.std.proofs.lemmas.List.Folds.{sum_by-replicate}
use Rattle.chunk_tags.specs.BinOrder.{times_in}
use Rattle.chunk_tags.specs.declared.block.Block.{Block}
use Rattle.chunk_tags.specs.declared.tiles.Chunk.{Chunk}
use Rattle.chunk_tags.specs.declared.tunables.Tunables.{Tunables}
use Rattle.address_space.specs.declared.space.Space.{Space}
use Rattle.address_space.specs.Spaces.{map_length}
use Rattle.fast_bins.specs.PlainBins.{FastState, state_of, empty_state, chunks_of}
use Rattle.mapped_chunks.specs.declared.plain.DialState.{DialState}
use Rattle.mapped_chunks.specs.declared.plain.PlainDials.{PlainDials}
use Rattle.arena_rules.specs.PlainArena.{Plain, times_used, empty_main}
use Rattle.arena_rules.proofs.Moved.{sound_empty}
use Rattle.arena_rules.proofs.MainPlaces.{empty_placed}
use Rattle.arena_core.specs.Journal.{Recorded}
use Rattle.arena_choice.specs.Numbers.{has}
use Rattle.arena_choice.specs.Books.{BookValue, first_book}
use Rattle.arena_choice.proofs.BookLaws.{sound_first}
use Rattle.arena_holds.specs.Places.{KeptArena, with_journal, as_chunk_of, as_mapped, as_mapped_bytes, Covers}
use Rattle.serial_places.specs.Trays.{in_tray, in_trays, tray_at, empty_trays}
use Rattle.serial_places.specs.declared.slot.Slot.{Slot}
use Rattle.serial_places.specs.declared.tray.Tray.{Tray}
use Rattle.serial_places.specs.declared.tray.Tray.TheVariants.{Empty}
use Rattle.serial_places.specs.SerialWays.{SerialState, KeptSlot, WorldSlot, IsKept, IsKeptIn, IsSerial, IsFirst, IsWhole, Serves, Notes, world_slot, slot_in, kept_slot, kept_ground, state_at, seen_slot, first_slots, no_slots, first_words, first_world, world_at, stock_in, used_in, is_there}
use Rattle.serial_places.proofs.Slots.{slot-map, there-map}
use Rattle.serial_places.proofs.SerialBooks.{has_cases}
use Rattle.serial_places.proofs.TrayLists.{no_tray}

-- ---- the trays

no_block : (n : ℕ) → tray_at empty_trays n ≡ Empty
unfolding empty_trays
no_block n = no_tray 65536 n

length-empty_trays : length empty_trays ≡ 65536
unfolding empty_trays
length-empty_trays = length-replicate 65536 Empty

pub none_in_trays : (weigh : Block → ℕ) → in_trays empty_trays weigh ≡ 0
unfolding empty_trays
none_in_trays weigh = sum_by-replicate (λ t. in_tray t weigh) 65536 Empty ∙ omega arith

-- ---- the slots

-- none behind main's is there
none_there : {S : Type 0} (m n : ℕ) → let none : Option S = None in slot_in (replicate m none) n ≡ none
none_there zero n = refl
none_there (suc m) zero = refl
none_there (suc m) (suc n) = none_there m n

world_none : (n : ℕ) → slot_in no_slots n ≡ None
unfolding no_slots
world_none n = none_there 63 n

-- main without a byte, in its words
pub record IsNewMain (main : Slot) : Type 0 where
  pub ground : main.arena.ground.value.arena ≡ empty_main
  pub journal : main.arena.journal.items ≡ []
  pub bins_empty : state_of main.bins ≡ empty_state

main_is : (main : Slot) → IsNewMain main → kept_ground main.arena ≡ with_journal empty_main []
main_is main n = ap (λ (a : Plain). with_journal a main.arena.journal.items) n.ground ∙ ap (λ (js : List Recorded). with_journal empty_main js) n.journal

main_kept : (t : Tunables) (k : KeptArena) → k ≡ with_journal empty_main [] → IsKept t 0 k
main_kept t k e = subst (IsKept t 0) (sym e) (record { number = refl; sound = sound_empty; placed = λ _. empty_placed; heaps = λ other. absurd cc; replays = record { gives = refl } })

each_kept : (t : Tunables) (main : Slot) (m n : ℕ) → IsNewMain main → let none : Option Slot = None in
    IfSome (slot_in (map (option_map kept_slot) (Some main ∷ replicate m none)) n) (IsKeptIn t (0 ∷ []) n)
each_kept t main m zero new = record { kept = main_kept t (kept_ground main.arena) (main_is main new); listed = refl }
each_kept t main m (suc n) new =
    let none : Option Slot = None in
    subst (λ (o : Option KeptSlot). IfSome o (IsKeptIn t (0 ∷ []) (suc n))) (sym (slot-map kept_slot (replicate m none) n ∙ ap (option_map kept_slot) (none_there m n))) tt

-- ---- the places

abbrev made_of : Tunables → List (Option Slot) → PlainDials → BookValue → List Tray → SerialState
made_of t slots dials book trays = state_at slots dials book trays None t

made_serial : (t : Tunables) (main : Slot) (dials : PlainDials) → let none : Option Slot = None in 1 ≤ t.records → t.records ≤ 64 → IsNewMain main →
    IsSerial (made_of t (Some main ∷ replicate 63 none) dials (first_book t.records) empty_trays)
made_serial t main dials one most new = record {
  slots = refl;
  kept = λ n. each_kept t main 63 n new;
  sound = sound_first t.records one most;
  records = refl;
  trays = length-empty_trays;
  held = λ n. rw (no_block n) tt;
}

made_first : (t : Tunables) (main : Slot) → let none : Option Slot = None in IsNewMain main →
    IsFirst t (made_of t (Some main ∷ replicate 63 none) (record { state = first_words t }) (first_book t.records) empty_trays)
unfolding no_slots
made_first t main new = record {
  slots = ap (λ (k : KeptArena). Some (world_slot k (state_of main.bins)) ∷ no_slots) (main_is main new) ∙ ap (λ (b : FastState). Some (world_slot (with_journal empty_main []) b) ∷ no_slots) new.bins_empty;
  dials = refl;
  book = refl;
  trays = refl;
  tunables = refl;
}

-- any parts that are so
pub first_serial : (t : Tunables) (main : Slot) (slots : List (Option Slot)) (dials : PlainDials) (book : BookValue) (trays : List Tray) → let none : Option Slot = None in
    1 ≤ t.records → t.records ≤ 64 → IsNewMain main → slots ≡ Some main ∷ replicate 63 none → book ≡ first_book t.records → trays ≡ empty_trays → IsSerial (made_of t slots dials book trays)
first_serial t main slots dials book trays one most new is books ts = rw (is, books, ts) (made_serial t main dials one most new)

pub is_first : (t : Tunables) (main : Slot) (slots : List (Option Slot)) (book : BookValue) (trays : List Tray) → let none : Option Slot = None in
    IsNewMain main → slots ≡ Some main ∷ replicate 63 none → book ≡ first_book t.records → trays ≡ empty_trays → IsFirst t (made_of t slots (record { state = first_words t }) book trays)
is_first t main slots book trays new is books ts = rw (is, books, ts) (made_first t main new)

-- ---- what is so before the first call

-- the fast bins and the used chunks, as they are seen
seen_stock : Option WorldSlot → Chunk → ℕ
seen_stock None e = 0
seen_stock (Some s) e = times_in e (chunks_of s.bins)

seen_used : Option WorldSlot → Chunk → ℕ
seen_used None e = 0
seen_used (Some s) e = times_used e s.kept.arena

stock_seen : (o : Option KeptSlot) (e : Chunk) → stock_in o e ≡ seen_stock (option_map seen_slot o) e
unfolding seen_stock
stock_seen None e = refl
stock_seen (Some s) e = refl

used_seen : (o : Option KeptSlot) (e : Chunk) → used_in o e ≡ seen_used (option_map seen_slot o) e
unfolding seen_used
used_seen None e = refl
used_seen (Some s) e = refl

no_stock : (n : ℕ) (e : Chunk) → seen_stock (slot_in first_slots n) e ≡ 0
unfolding seen_stock empty_state
no_stock zero e = refl
no_stock (suc n) e = ap (λ (o : Option WorldSlot). seen_stock o e) (world_none n)

no_use : (n : ℕ) (e : Chunk) → seen_used (slot_in first_slots n) e ≡ 0
unfolding seen_used
no_use zero e = refl
no_use (suc n) e = ap (λ (o : Option WorldSlot). seen_used o e) (world_none n)

covers_none : (exact : Bool) (n m : ℕ) → n ≡ 0 → m ≡ 0 → Covers exact n m
covers_none true n m e f = omega (arith, e, f)
covers_none false n m e f = omega (arith, e, f)

slot_first : (t : Tunables) (st : SerialState) (n : ℕ) → IsFirst t st → option_map seen_slot (slot_in st.slots n) ≡ slot_in first_slots n
slot_first t st n f = sym (slot-map seen_slot st.slots n) ∙ ap (λ (os : List (Option WorldSlot)). slot_in os n) f.slots

pub first_serves : (t : Tunables) (st : SerialState) (exact : Bool) → IsFirst t st → Serves exact st (λ _. 0)
first_serves t st exact f =
    let trays : (weigh : Block → ℕ) → in_trays st.trays weigh ≡ 0 = λ weigh. ap (λ (ts : List Tray). in_trays ts weigh) f.trays ∙ none_in_trays weigh in
    record {
      chunks = λ n e. covers_none exact _ _
          (omega (arith, trays (as_chunk_of n e), stock_seen (slot_in st.slots n) e ∙ (ap (λ (o : Option WorldSlot). seen_stock o e) (slot_first t st n f) ∙ no_stock n e)))
          (used_seen (slot_in st.slots n) e ∙ (ap (λ (o : Option WorldSlot). seen_used o e) (slot_first t st n f) ∙ no_use n e));
      count = covers_none exact _ _ (omega (arith, trays as_mapped)) (ap (λ (d : DialState). d.mapped) f.dials);
      bytes = covers_none exact _ _ (omega (arith, trays as_mapped_bytes)) (ap (λ (d : DialState). d.bytes) f.dials);
    }

pub first_notes : (t : Tunables) (st : SerialState) (own others : ℕ) → IsFirst t st → others ≤ 63 * map_length → Notes st own others
first_notes t st own others f le = record {
  windows = le;
  count = omega (arith, ap (λ (d : DialState). d.mapped) f.dials);
  bytes = omega (arith, ap (λ (d : DialState). d.bytes) f.dials);
}

first_there : (t : Tunables) (st : SerialState) → IsFirst t st → IsTrue (is_there st 0)
first_there t st f = sym (there-map seen_slot st.slots 0) ∙ ap (λ (os : List (Option WorldSlot)). is_some (slot_in os 0)) f.slots

only_main : (t : Tunables) (st : SerialState) (n : ℕ) → IsFirst t st → has n st.book.list ≡ true → IsTrue (is_there st n)
only_main t st n f h = elim (has_cases n 0 [] (sym (ap (λ (b : BookValue). has n b.list) f.book) ∙ h)) [
  | inl is ↦ ap (is_there st) is ∙ first_there t st f
  | inr none ↦ absurd cc
]

pub first_whole : (t : Tunables) (st : SerialState) → IsFirst t st → IsWhole st
first_whole t st f = record { main = first_there t st f; listed = λ n h. only_main t st n f h }

pub first_at : {K : Type 0} (t : Tunables) (st : SerialState) (space : Space K) → IsFirst t st → world_at st space ≡ first_world t space
first_at t st space f = rw (f.slots, f.dials, f.book, f.trays) refl
