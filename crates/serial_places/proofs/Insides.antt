-- The fields of the places, before a call and behind it.
use Rattle.std.proofs.Common.{◌≡◌, ℕ, ◌<◌, Bool, true, false, List, [], ◌∷◌, length, map, zero, suc, Option, Some, None, Result, Ok, Err, IsTrue, refl, sym, ap, ◌∙◌, subst, arith, length-set, flat_map}
use Rattle.std.specs.Prelude.{is_some, IfSome, OnOk, OnErr, option_map, slice_index_or}
use Rattle.chunk_tags.specs.Sizes.{IsChunkSize, fast_index_of}
use Rattle.chunk_tags.specs.declared.block.Block.{Block}
use Rattle.chunk_tags.specs.declared.refusals.NoMemory.{NoMemory}
use Rattle.chunk_tags.specs.declared.tunables.Tunables.{Tunables}
use Rattle.fast_bins.specs.FastPorts.{Pushes, Did, Idles, HasRoom}
use Rattle.fast_bins.specs.PlainBins.{PlainBins, plain_fast, state_of, empty_state}
use Rattle.arena_ground.specs.Grounds.{GroundView}
use Rattle.arena_core.specs.declared.arena.Arena.{Arena}
use Rattle.arena_choice.specs.Numbers.{has}
use Rattle.arena_choice.specs.Books.{BookValue}
use Rattle.arena_choice.specs.Choices.{CanAttach, attached_book, choice_of, after_choice}
use Rattle.arena_choice.specs.declared.choice.Choice.{Choice}
use Rattle.arena_choice.specs.declared.choice.Choice.TheVariants.{Attached, Free, New, Reuse}
use Rattle.arena_holds.specs.BookChanges.{Chooses, attached_where_free, book_after}
use Rattle.arena_holds.specs.Places.{both_of}
use Rattle.arena_holds.specs.Returning.{IsReturn, IsUnseen, IsNew, IsAdded, IsChosen, IsTaken}
use Rattle.serial_places.specs.Joined.{joined_fast, joined_dials}
use Rattle.mapped_chunks.specs.PlainDials.{plain_dials}
use Rattle.serial_places.specs.Playing.{PlainPort}
use Rattle.serial_places.specs.declared.serial.Serial.TheInside.{Inside}
use Rattle.serial_places.specs.declared.slot.Slot.{Slot}
use Rattle.serial_places.specs.declared.tray.Tray.{Tray}
use Rattle.serial_places.specs.Trays.{tray_at, trays_taken, found_by_take, full_trays}
use Rattle.serial_places.specs.SerialWays.{SerialState, KeptSlot, IsSerial, IsWhole, IsKeptIn, HasSlotRoom, Serves, LentSlot, GaveSlot, IdleSlot, PushedSlot, EndsAs, those_in, fast_lists, slot_in, put_in, taken_out, slot_with, kept_slot, kept_ground, is_there, state_at, state_ways}
use Rattle.serial_places.specs.LawsOfPlaces.{serves_same, known}
use Rattle.serial_places.proofs.Slots.{slot_within, some_within, slot-map, there-map, put_here}
use Rattle.serial_places.proofs.SerialBooks.{chooses}
use Rattle.serial_places.proofs.SerialKeeps.{slots_put, slots_out, kept_at, kept_back, serial_out, serial_put, serial_added, serial_book}
use Rattle.serial_places.proofs.SerialLaws.{same_some, unseen, gone, is_added, is_chosen, is_taken}

-- the state of these fields
abbrev pub seen : Inside → SerialState
seen i = state_at i.arenas.items i.dials i.book i.trays i.lent i.tunables

-- with another slot, and without one
abbrev pub with_slot : Inside → ℕ → Slot → SerialState
with_slot i n s = state_at (put_in i.arenas.items n s) i.dials i.book i.trays i.lent i.tunables

pub with_slot_is : (i : Inside) (now : SerialState) (m n : ℕ) (s : Slot) → seen i ≡ now → m ≡ n → with_slot i m s ≡ record now { slots = put_in now.slots n (kept_slot s) }
with_slot_is i now m n s view same =
    ap (λ (k : ℕ). with_slot i k s) same
    ∙ (ap (λ (slots : List (Option KeptSlot)). let st : SerialState = record (seen i) { slots = slots } in st) (slots_put i.arenas.items n s)
    ∙ ap (λ (v : SerialState). let st : SerialState = record v { slots = put_in v.slots n (kept_slot s) } in st) view)

-- ---- a slot that is read

pub inside_within : (i : Inside) (now : SerialState) (n : ℕ) → seen i ≡ now → IsTrue (is_there now n) → n < length i.arenas.items
inside_within i now n view there =
    slot_within i.arenas.items n (sym (there-map kept_slot i.arenas.items n) ∙ (ap (λ (st : SerialState). is_there st n) view ∙ there))

read_at : {X : Type 0} (xs : List X) (n : ℕ) (x d : X) → n < length xs → x ≡ slice_index_or xs n x → slice_index_or xs n d ≡ x
read_at [] n x d h e = absurd (omega arith)
read_at (y ∷ ys) zero x d h e = sym e
read_at (y ∷ ys) (suc n) x d h e = read_at ys n x d (omega arith) e

pub read_slot : (i : Inside) (now : SerialState) (m n : ℕ) (o : Option Slot) (s : Slot) → seen i ≡ now → IsTrue (is_there now n) → m ≡ n → o ≡ slice_index_or i.arenas.items m o → o ≡ Some s →
    slot_in i.arenas.items n ≡ Some s
read_slot i now m n o s view there same read some =
    read_at i.arenas.items n o None (inside_within i now n view there) (read ∙ ap (λ (k : ℕ). slice_index_or i.arenas.items k o) same) ∙ some

-- what is read there is there
pub read_there : (i : Inside) (now : SerialState) (m n : ℕ) (o : Option Slot) → seen i ≡ now → IsTrue (is_there now n) → m ≡ n → o ≡ slice_index_or i.arenas.items m o → IsTrue (is_some o)
read_there i now m n o view there same read =
    let at : slot_in i.arenas.items n ≡ o = read_at i.arenas.items n o None (inside_within i now n view there) (read ∙ ap (λ (k : ℕ). slice_index_or i.arenas.items k o) same) in
    ap is_some (sym at) ∙ (sym (there-map kept_slot i.arenas.items n) ∙ (ap (λ (st : SerialState). is_there st n) view ∙ there))

pub slot_seen : (i : Inside) (now : SerialState) (n : ℕ) (s : Slot) → seen i ≡ now → slot_in i.arenas.items n ≡ Some s → slot_in now.slots n ≡ Some (kept_slot s)
slot_seen i now n s view at =
    ap (λ (st : SerialState). slot_in st.slots n) (sym view) ∙ (slot-map kept_slot i.arenas.items n ∙ ap (option_map kept_slot) at)

pub now_serial : (i : Inside) (now : SerialState) → seen i ≡ now → IsSerial (seen i) → IsSerial now
now_serial i now view s = subst IsSerial view s

-- an arena that is there is in the list
pub there_listed : (i : Inside) (now : SerialState) (n : ℕ) → seen i ≡ now → IsTrue (is_there now n) → IsSerial (seen i) → has n i.book.list ≡ true
there_listed i now n view there s =
    let go : (o : Option KeptSlot) → slot_in (seen i).slots n ≡ o → IsTrue (is_some o) → has n i.book.list ≡ true = elim [
      | None ↦ λ e h. absurd cc
      | Some slot ↦ λ e h. (kept_at (seen i) n slot e s).listed
    ] in
    go (slot_in (seen i).slots n) refl (ap (λ (st : SerialState). is_there st n) view ∙ there)

-- ---- an arena is lent

abbrev pub without_slot : Inside → ℕ → SerialState
without_slot i n = state_at (taken_out i.arenas.items n) i.dials i.book i.trays (Some n) i.tunables

without_slot_is : (i : Inside) (now : SerialState) (n : ℕ) → seen i ≡ now → without_slot i n ≡ record now { slots = taken_out now.slots n; lent = Some n }
without_slot_is i now n view =
    ap (λ (slots : List (Option KeptSlot)). let st : SerialState = record (seen i) { slots = slots; lent = Some n } in st) (slots_out i.arenas.items n)
    ∙ ap (λ (v : SerialState). let st : SerialState = record v { slots = taken_out v.slots n; lent = Some n } in st) view

pub lent_serial : (i : Inside) (now : SerialState) (n : ℕ) → seen i ≡ now → IsTrue (is_there now n) → IsSerial (seen i) → IsSerial (without_slot i n)
lent_serial i now n view there s =
    subst IsSerial (sym (without_slot_is i now n view)) (serial_out now n (Some n) (slot_within now.slots n there) (now_serial i now view s))

pub lent_slot : (i : Inside) (now : SerialState) (n : ℕ) (slot : Slot) → seen i ≡ now → IsSerial (seen i) → slot_in i.arenas.items n ≡ Some slot →
    LentSlot now n (record { bins = slot.bins; dials = i.dials }) (Some (kept_ground slot.arena)) (without_slot i n)
lent_slot i now n slot view s at = record {
  slot = slot_seen i now n slot view at;
  words = ap (λ (st : SerialState). st.dials) view;
  kept = kept_at now n (kept_slot slot) (slot_seen i now n slot view at) (now_serial i now view s);
  left = without_slot_is i now n view;
}

-- ---- and comes back

abbrev pub with_back : Inside → ℕ → Arena GroundView → PlainPort → Option ℕ → SerialState
with_back i n arena port lent =
    state_at (put_in i.arenas.items n (record { arena = arena; bins = port.bins })) port.dials i.book i.trays lent i.tunables

with_back_is : (i : Inside) (now : SerialState) (n : ℕ) (arena : Arena GroundView) (port : PlainPort) → seen i ≡ now →
    with_back i n arena port None ≡ record now { slots = put_in now.slots n (slot_with (kept_ground arena) port.bins); dials = port.dials; lent = None }
with_back_is i now n arena port view =
    ap (λ (slots : List (Option KeptSlot)). let st : SerialState = record (seen i) { slots = slots; dials = port.dials; lent = None } in st) (slots_put i.arenas.items n (record { arena = arena; bins = port.bins }))
    ∙ ap (λ (v : SerialState). let st : SerialState = record v { slots = put_in v.slots n (slot_with (kept_ground arena) port.bins); dials = port.dials; lent = None } in st) view

-- the number of the arena that is lent
pub lent_within : (i : Inside) (now : SerialState) (n : ℕ) (arena : Arena GroundView) {port : PlainPort} → seen i ≡ now → IsReturn state_ways (joined_fast plain_fast) (joined_dials plain_dials) (kept_ground arena) port now → i.lent ≡ Some n → n < length now.slots
lent_within i now n arena view r lent =
    let from : now.lent ≡ Some n = ap (λ (st : SerialState). st.lent) (sym view) ∙ lent in
    let here : r.arena ≡ n = same_some r.arena n (ap (λ (st : SerialState). st.lent) r.lent.left) from in
    let within : r.arena < length r.places.slots = some_within r.places.slots r.arena _ r.lent.slot in
    omega (arith, within, here, ap (λ (st : SerialState). length st.slots) r.lent.left, length-set r.places.slots r.arena (let none : Option KeptSlot = None in none))

pub back_serial : (i : Inside) (now : SerialState) (m n : ℕ) (arena : Arena GroundView) (port : PlainPort) (lent : Option ℕ) → seen i ≡ now → IsReturn state_ways (joined_fast plain_fast) (joined_dials plain_dials) (kept_ground arena) port now →
    i.lent ≡ Some n → m ≡ n → lent ≡ None → IsSerial (seen i) → IsSerial (with_back i m arena port lent)
back_serial i now m n arena port lent view r was same none s =
    let from : now.lent ≡ Some n = ap (λ (st : SerialState). st.lent) (sym view) ∙ was in
    rw (same, none) (subst IsSerial (sym (with_back_is i now n arena port view))
    (serial_put now n (slot_with (kept_ground arena) port.bins) port.dials None (lent_within i now n arena view r was) (kept_back now (kept_ground arena) port.bins n r from) (now_serial i now view s)))

pub gave_slot : (i : Inside) (now : SerialState) (m n : ℕ) (arena : Arena GroundView) (port : PlainPort) (lent : Option ℕ) → seen i ≡ now → i.lent ≡ Some n → m ≡ n → lent ≡ None →
    GaveSlot now port (kept_ground arena) (with_back i m arena port lent)
gave_slot i now m n arena port lent view was same none = record {
  number = n;
  lent = ap (λ (st : SerialState). st.lent) (sym view) ∙ was;
  left = rw (same, none) (with_back_is i now n arena port view);
}

-- ---- room, and a push

pub slot_serial : (i : Inside) (now : SerialState) (m n : ℕ) (slot : Slot) (bins : PlainBins) → seen i ≡ now → m ≡ n → slot_in i.arenas.items n ≡ Some slot → IsSerial (seen i) →
    IsSerial (with_slot i m (record { arena = slot.arena; bins = bins }))
slot_serial i now m n slot bins view same at s =
    let here : slot_in now.slots n ≡ Some (kept_slot slot) = slot_seen i now n slot view at in
    let kept : IsKeptIn now.tunables now.book.list n (kept_slot slot) = kept_at now n (kept_slot slot) here (now_serial i now view s) in
    subst IsSerial (sym (with_slot_is i now m n (record { arena = slot.arena; bins = bins }) view same))
    (serial_put now n (slot_with (kept_ground slot.arena) bins) now.dials now.lent (some_within now.slots n (kept_slot slot) here) (record { kept = kept.kept; listed = kept.listed }) (now_serial i now view s))

pub idle_slot : (i : Inside) (now : SerialState) (m n : ℕ) (slot : Slot) (bins : PlainBins) → seen i ≡ now → m ≡ n → slot_in i.arenas.items n ≡ Some slot → Idles plain_fast slot.bins bins →
    IdleSlot now (with_slot i m (record { arena = slot.arena; bins = bins }))
idle_slot i now m n slot bins view same at h = record {
  number = n;
  changed = record {
    slot = kept_slot slot;
    next = bins;
    there = slot_seen i now n slot view at;
    step = h.idle;
    left = with_slot_is i now m n (record { arena = slot.arena; bins = bins }) view same;
  };
}

pub unseen_slot : (i : Inside) (now : SerialState) (m n : ℕ) (slot : Slot) (bins : PlainBins) → seen i ≡ now → m ≡ n → slot_in i.arenas.items n ≡ Some slot → Idles plain_fast slot.bins bins →
    IsUnseen state_ways now (λ _. 0) (λ _. 0) (with_slot i m (record { arena = slot.arena; bins = bins }))
unseen_slot i now m n slot bins view same at h =
    subst (λ (st : SerialState). IsUnseen state_ways now (λ _. 0) (λ _. 0) st) (sym (with_slot_is i now m n (record { arena = slot.arena; bins = bins }) view same))
    (unseen now n (kept_slot slot) bins (slot_seen i now n slot view at) h)

pub room_made : (i : Inside) (now : SerialState) (m n : ℕ) (slot : Slot) (bins : PlainBins) (r : Result (Unit {0}) NoMemory) → seen i ≡ now → m ≡ n → slot_in i.arenas.items n ≡ Some slot →
    OnOk r (HasRoom plain_fast bins) → OnOk r (HasSlotRoom (with_slot i m (record { arena = slot.arena; bins = bins })) n)
room_made i now m n slot bins (Err e) view same at h = tt
room_made i now m n slot bins (Ok u) view same at h =
    let here : slot_in now.slots n ≡ Some (kept_slot slot) = slot_seen i now n slot view at in
    subst (λ (st : SerialState). HasSlotRoom st n) (sym (with_slot_is i now m n (record { arena = slot.arena; bins = bins }) view same))
    (subst (λ (o : Option KeptSlot). IfSome o (λ s. HasRoom plain_fast s.bins)) (sym (put_here now.slots n (slot_with (kept_ground slot.arena) bins) (some_within now.slots n (kept_slot slot) here))) h)

pub no_room : (i : Inside) (now : SerialState) (n : ℕ) (slot : Slot) (bins : PlainBins) (r : Result (Unit {0}) NoMemory) → seen i ≡ now → slot_in i.arenas.items n ≡ Some slot →
    OnErr r ((HasRoom plain_fast slot.bins → ⊥) × (HasRoom plain_fast bins → ⊥)) → OnErr r (HasSlotRoom now n → ⊥)
no_room i now n slot bins (Ok u) view at h = tt
no_room i now n slot bins (Err e) view at h =
    λ room. h.0 (subst (λ (o : Option KeptSlot). IfSome o (λ s. HasRoom plain_fast s.bins)) (slot_seen i now n slot view at) room)

-- the arena of a block that is given out is there
pub known_alone : (now : SerialState) (b : Block) (n : ℕ) → Serves false now (λ weigh. weigh b) → b.arena ≡ Some n → IsTrue (is_there now n)
known_alone now b n served arena =
    known now b (λ _. 0) n (serves_same false now (λ weigh. weigh b) (both_of (λ weigh. weigh b) (λ _. 0)) (λ weigh. omega arith) served) arena

pub pushed_slot : (i : Inside) (now : SerialState) (m n : ℕ) (slot : Slot) (b : Block) (bins : PlainBins) → seen i ≡ now → m ≡ n → b.arena ≡ Some n → slot_in i.arenas.items n ≡ Some slot →
    Did plain_fast slot.bins (Pushes (fast_index_of b.size) b.addr) bins → PushedSlot now b (with_slot i m (record { arena = slot.arena; bins = bins }))
pushed_slot i now m n slot b bins view same arena at h = record {
  number = n;
  arena = arena;
  changed = record {
    slot = kept_slot slot;
    next = bins;
    there = slot_seen i now n slot view at;
    step = h.step;
    left = with_slot_is i now m n (record { arena = slot.arena; bins = bins }) view same;
  };
}

pub gone_slot : (i : Inside) (now : SerialState) (m n : ℕ) (slot : Slot) (b : Block) (bins : PlainBins) → seen i ≡ now → m ≡ n → b.arena ≡ Some n → IsChunkSize b.size → slot_in i.arenas.items n ≡ Some slot →
    Did plain_fast slot.bins (Pushes (fast_index_of b.size) b.addr) bins → IsUnseen state_ways now (λ weigh. weigh b) (λ _. 0) (with_slot i m (record { arena = slot.arena; bins = bins }))
gone_slot i now m n slot b bins view same arena chunk at h =
    subst (λ (st : SerialState). IsUnseen state_ways now (λ weigh. weigh b) (λ _. 0) st) (sym (with_slot_is i now m n (record { arena = slot.arena; bins = bins }) view same))
    (gone now n (kept_slot slot) b bins (slot_seen i now n slot view at) arena chunk h)

-- ---- a choice

-- the book behind a choice from the free list, to which the thread is attached then
pub book_free : (b mid new : BookValue) (thread : ℕ) (fresh : Bool) (t : Tunables) (choice : Choice) (a : ℕ) → choice ≡ Free a → choice ≡ choice_of b thread fresh t → mid ≡ after_choice b thread fresh t →
    new ≡ attached_book mid thread a → new ≡ book_after t (Chooses thread fresh) b
book_free b mid new thread fresh t choice a free is after attached =
    attached ∙ (ap (λ (c : Choice). attached_where_free thread c mid) (sym free ∙ is) ∙ ap (attached_where_free thread (choice_of b thread fresh t)) after)

not_free : (choice : Choice) (thread : ℕ) (b : BookValue) → ((a : ℕ) → choice ≡ Free a → ⊥) → attached_where_free thread choice b ≡ b
not_free (Attached a) thread b other = refl
not_free (Free a) thread b other = absurd (other a refl)
not_free (New a) thread b other = refl
not_free (Reuse start) thread b other = refl

-- and behind any other
pub book_other : (b mid : BookValue) (thread : ℕ) (fresh : Bool) (t : Tunables) (choice : Choice) → ((a : ℕ) → choice ≡ Free a → ⊥) → choice ≡ choice_of b thread fresh t → mid ≡ after_choice b thread fresh t →
    mid ≡ book_after t (Chooses thread fresh) b
book_other b mid thread fresh t choice other is after =
    sym (not_free choice thread mid other) ∙ (ap (λ (c : Choice). attached_where_free thread c mid) is ∙ ap (attached_where_free thread (choice_of b thread fresh t)) after)

-- the state with another book
abbrev pub with_book : Inside → BookValue → SerialState
with_book i book = record (seen i) { book = book }

pub chosen_serial : (i : Inside) (book : BookValue) (thread : ℕ) (fresh : Bool) (t : Tunables) → book ≡ book_after t (Chooses thread fresh) i.book → IsSerial (seen i) → IsSerial (with_book i book)
chosen_serial i book thread fresh t is s = rw is (serial_book (seen i) (book_after t (Chooses thread fresh) i.book) (chooses i.book thread fresh t s.sound) s)

pub chosen : (i : Inside) (now : SerialState) (book : BookValue) (thread : ℕ) (fresh : Bool) (t : Tunables) (choice : Choice) → seen i ≡ now → t ≡ now.tunables → IsWhole now → IsSerial (seen i) →
    choice ≡ choice_of i.book thread fresh t → book ≡ book_after t (Chooses thread fresh) i.book → IsChosen state_ways thread fresh t now choice (with_book i book)
chosen i now book thread fresh t choice view tunables w s is after =
    let change : BookValue → SerialState → SerialState = λ b st. record st { book = b } in
    let sound = now_serial i now view s in
    let from : i.book ≡ now.book = ap (λ (st : SerialState). st.book) view in
    is_chosen now (with_book i book) thread fresh t choice tunables w sound
    (ap (λ (b : BookValue). change b (seen i)) after ∙ ap (λ (st : SerialState). change (book_after t (Chooses thread fresh) st.book) st) view)
    (is ∙ ap (λ (b : BookValue). choice_of b thread fresh t) from)
    (chooses now.book thread fresh t sound.sound)

-- ---- a new arena

abbrev pub with_added : Inside → ℕ → Arena GroundView → PlainBins → BookValue → SerialState
with_added i n arena bins book = state_at (put_in i.arenas.items n (record { arena = arena; bins = bins })) i.dials book i.trays i.lent i.tunables

with_added_is : (i : Inside) (now : SerialState) (m thread : ℕ) (arena : Arena GroundView) (bins : PlainBins) (book : BookValue) → seen i ≡ now → m ≡ (kept_ground arena).arena.number →
    book ≡ attached_book i.book thread (kept_ground arena).arena.number →
    let n : ℕ = (kept_ground arena).arena.number in
    with_added i m arena bins book ≡ record now { slots = put_in now.slots n (slot_with (kept_ground arena) bins); book = attached_book now.book thread n }
with_added_is i now m thread arena bins book view same after =
    let n : ℕ = (kept_ground arena).arena.number in
    ap (λ (k : ℕ). with_added i k arena bins book) same
    ∙ (ap (with_added i n arena bins) after
    ∙ (ap (λ (slots : List (Option KeptSlot)). let st : SerialState = record (seen i) { slots = slots; book = attached_book i.book thread n } in st) (slots_put i.arenas.items n (record { arena = arena; bins = bins }))
    ∙ ap (λ (v : SerialState). let st : SerialState = record v { slots = put_in v.slots n (slot_with (kept_ground arena) bins); book = attached_book v.book thread n } in st) view))

new_within : (now : SerialState) (arena : Arena GroundView) → IsNew state_ways (kept_ground arena) now → IsSerial now → (kept_ground arena).arena.number < length now.slots
new_within now arena new s = omega (arith, new.owed.below, s.slots)

pub added_serial : (i : Inside) (now : SerialState) (m thread : ℕ) (arena : Arena GroundView) (bins : PlainBins) (book : BookValue) → seen i ≡ now → m ≡ (kept_ground arena).arena.number →
    book ≡ attached_book i.book thread (kept_ground arena).arena.number → IsNew state_ways (kept_ground arena) now → IsSerial (seen i) → IsSerial (with_added i m arena bins book)
added_serial i now m thread arena bins book view same after new s =
    let sound : IsSerial now = now_serial i now view s in
    subst IsSerial (sym (with_added_is i now m thread arena bins book view same after)) (serial_added now thread (kept_ground arena) bins (new_within now arena new sound) new sound)

pub added : (i : Inside) (now : SerialState) (m thread : ℕ) (arena : Arena GroundView) (bins : PlainBins) (book : BookValue) → seen i ≡ now → m ≡ (kept_ground arena).arena.number →
    book ≡ attached_book i.book thread (kept_ground arena).arena.number → state_of bins ≡ empty_state → IsNew state_ways (kept_ground arena) now → IsSerial (seen i) →
    IsAdded state_ways thread now (kept_ground arena) (with_added i m arena bins book)
added i now m thread arena bins book view same after empty new s =
    let sound : IsSerial now = now_serial i now view s in
    is_added now (with_added i m arena bins book) thread (kept_ground arena) bins (new_within now arena new sound) sound new empty (with_added_is i now m thread arena bins book view same after)

-- it may be attached
pub may_attach : (i : Inside) (now : SerialState) (n : ℕ) (arena : Arena GroundView) → seen i ≡ now → n ≡ (kept_ground arena).arena.number → IsNew state_ways (kept_ground arena) now → CanAttach i.book n
may_attach i now n arena view same new =
    subst (λ (k : ℕ). CanAttach i.book k) (sym same) (subst (λ (st : SerialState). CanAttach st.book (kept_ground arena).arena.number) (sym view) new.owed.may)

-- ---- trays

abbrev pub with_trays : Inside → List Tray → SerialState
with_trays i trays = state_at i.arenas.items i.dials i.book trays i.lent i.tunables

pub taken : (i : Inside) (now : SerialState) (n : ℕ) (found : Result Block ℕ) (trays : List Tray) → seen i ≡ now → n < 65536 → found ≡ found_by_take (tray_at i.trays n) →
    trays ≡ trays_taken n i.trays → IsSerial (seen i) → IsTaken state_ways n now found (with_trays i trays)
taken i now n found trays view below told is s =
    let sound : IsSerial now = now_serial i now view s in
    is_taken now (with_trays i trays) n found (omega (arith, below, sound.trays)) (sound.held n)
    (told ∙ ap (λ (st : SerialState). found_by_take (tray_at st.trays n)) view)
    (ap (with_trays i) is ∙ ap (λ (st : SerialState). let r : SerialState = record st { trays = trays_taken n st.trays } in r) view)

-- ---- the end

pub ended : (i : Inside) (now : SerialState) (arenas : List (Arena GroundView)) (fast : List (List ℕ)) (book : BookValue) (trays : List (ℕ × Block)) → seen i ≡ now →
    map kept_ground arenas ≡ map (λ s. s.kept) (those_in (map (option_map kept_slot) i.arenas.items)) → fast ≡ flat_map fast_lists (those_in (map (option_map kept_slot) i.arenas.items)) →
    book ≡ i.book → trays ≡ full_trays 0 i.trays → EndsAs now arenas fast book trays i.dials.state
ended i now arenas fast book trays view same fs is ts =
    subst (λ (st : SerialState). EndsAs st arenas fast book trays i.dials.state) view (record { arenas_are = same; fast_are = fs; book_is = is; trays_are = ts; words_are = refl })
