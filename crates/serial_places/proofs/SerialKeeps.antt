-- What is always so of the places stays so. Other crates may cite this file.
use Rattle.std.proofs.Common.{◌≡◌, ℕ, ◌<◌, true, List, length, map, Option, Some, None, refl, sym, ap, ◌∙◌, subst, length-set}
use Rattle.std.specs.Prelude.{IfSome, option_map, slice_set}
use Rattle.std.proofs.lemmas.List.{map-set}
use Rattle.list_laws.proofs.Replaced.{at_each-set}
use Rattle.chunk_tags.specs.declared.tunables.Tunables.{Tunables}
use Rattle.mapped_chunks.specs.declared.plain.PlainDials.{PlainDials}
use Rattle.arena_rules.specs.Rules.{heap_windows_of}
use Rattle.arena_core.specs.Replay.{IsReplay}
use Rattle.arena_choice.specs.Numbers.{has}
use Rattle.arena_choice.specs.Books.{BookValue}
use Rattle.arena_choice.specs.Choices.{attached_book}
use Rattle.arena_choice.proofs.BookLaws.{sound_attached, in_listed}
use Rattle.arena_holds.specs.Places.{KeptArena, new_arena}
use Rattle.arena_holds.specs.Returning.{IsReturn, IsNew}
use Rattle.serial_places.specs.Joined.{joined_fast, joined_dials}
use Rattle.serial_places.specs.Playing.{PlainPort}
use Rattle.fast_bins.specs.PlainBins.{plain_fast}
use Rattle.mapped_chunks.specs.PlainDials.{plain_dials}
use Rattle.fast_bins.specs.PlainBins.{PlainBins}
use Rattle.serial_places.specs.Trays.{IsHeldTray}
use Rattle.serial_places.specs.declared.slot.Slot.{Slot}
use Rattle.serial_places.specs.declared.tray.Tray.{Tray}
use Rattle.serial_places.specs.declared.tray.Tray.TheVariants.{Empty}
use Rattle.serial_places.specs.SerialWays.{SerialState, KeptSlot, IsKeptIn, IsSerial, slot_in, put_in, taken_out, slot_with, kept_slot, state_ways}
use Rattle.serial_places.proofs.SerialBooks.{KeepsList, listed_more}

-- ---- the slots as they are kept in words

pub slots_put : (slots : List (Option Slot)) (n : ℕ) (s : Slot) → map (option_map kept_slot) (put_in slots n s) ≡ put_in (map (option_map kept_slot) slots) n (kept_slot s)
slots_put slots n s = map-set (option_map kept_slot) slots n (Some s)

pub slots_out : (slots : List (Option Slot)) (n : ℕ) → map (option_map kept_slot) (taken_out slots n) ≡ taken_out (map (option_map kept_slot) slots) n
slots_out slots n = map-set (option_map kept_slot) slots n None

-- ---- what stands in slots

-- other slots, words and what is lent
pub serial_slots : (st : SerialState) (slots : List (Option KeptSlot)) (dials : PlainDials) (lent : Option ℕ) → length slots ≡ length st.slots →
    ((n : ℕ) → IfSome (slot_in slots n) (IsKeptIn st.tunables st.book.list n)) → IsSerial st → IsSerial (record st { slots = slots; dials = dials; lent = lent })
serial_slots st slots dials lent size kept s = record {
  slots = size ∙ s.slots;
  kept = kept;
  sound = s.sound;
  records = s.records;
  trays = s.trays;
  held = s.held;
}

pub serial_out : (st : SerialState) (n : ℕ) (lent : Option ℕ) → n < length st.slots → IsSerial st → IsSerial (record st { slots = taken_out st.slots n; lent = lent })
serial_out st n lent within s =
    serial_slots st (taken_out st.slots n) st.dials lent (length-set st.slots n None)
    (at_each-set (λ k o. IfSome o (IsKeptIn st.tunables st.book.list k)) st.slots n None None within tt s.kept) s

pub serial_put : (st : SerialState) (n : ℕ) (kept : KeptSlot) (dials : PlainDials) (lent : Option ℕ) → n < length st.slots → IsKeptIn st.tunables st.book.list n kept → IsSerial st →
    IsSerial (record st { slots = put_in st.slots n kept; dials = dials; lent = lent })
serial_put st n kept dials lent within is s =
    serial_slots st (put_in st.slots n kept) dials lent (length-set st.slots n (Some kept))
    (at_each-set (λ k o. IfSome o (IsKeptIn st.tunables st.book.list k)) st.slots n (Some kept) None within is s.kept) s

-- what stands in a slot
pub kept_at : (st : SerialState) (n : ℕ) (slot : KeptSlot) → slot_in st.slots n ≡ Some slot → IsSerial st → IsKeptIn st.tunables st.book.list n slot
kept_at st n slot e s = subst (λ (o : Option KeptSlot). IfSome o (IsKeptIn st.tunables st.book.list n)) e (s.kept n)

-- an arena that comes back
pub kept_back : (q : SerialState) (k : KeptArena) (bins : PlainBins) (n : ℕ) {left : PlainPort} → IsReturn state_ways (joined_fast plain_fast) (joined_dials plain_dials) k left q → q.lent ≡ Some n → IsKeptIn q.tunables q.book.list n (slot_with k bins)
kept_back q k bins n r lent =
    let here : r.arena ≡ n = (let from : q.lent ≡ Some r.arena = ap (λ (s : SerialState). s.lent) r.lent.left in cc) in
    let t : r.places.tunables ≡ q.tunables = sym (ap (λ (s : SerialState). s.tunables) r.lent.left) in
    let list : r.places.book.list ≡ q.book.list = sym (ap (λ (s : SerialState). s.book.list) r.lent.left) in
    record {
      kept = record {
        number = r.number ∙ here;
        sound = r.sound;
        placed = r.placed;
        heaps = λ other. subst (λ (x : Tunables). k.arena.windows ≡ heap_windows_of x) t (r.heaps other);
        replays = subst (λ (m : ℕ). IsReplay q.tunables (new_arena q.tunables m) k.journal k.arena) here
            (subst (λ (x : Tunables). IsReplay x (new_arena x r.arena) k.journal k.arena) t r.replays);
      };
      listed = ap (has n) (sym list) ∙ (ap (λ (m : ℕ). has m r.places.book.list) (sym here) ∙ r.lent.kept.listed);
    }

-- ---- the book and the trays

pub serial_book : (st : SerialState) (book : BookValue) → KeepsList st.book book → IsSerial st → IsSerial (record st { book = book })
serial_book st book k s = record {
  slots = s.slots;
  kept = λ n. subst (λ (list : List ℕ). IfSome (slot_in st.slots n) (IsKeptIn st.tunables list n)) (sym k.list) (s.kept n);
  sound = k.sound;
  records = k.records ∙ s.records;
  trays = s.trays;
  held = s.held;
}

pub serial_trays : (st : SerialState) (n : ℕ) (tray : Tray) → n < length st.trays → IsHeldTray tray → IsSerial st → IsSerial (record st { trays = slice_set st.trays n tray })
serial_trays st n tray within is s = record {
  slots = s.slots;
  kept = s.kept;
  sound = s.sound;
  records = s.records;
  trays = length-set st.trays n tray ∙ s.trays;
  held = at_each-set (λ k t. IsHeldTray t) st.trays n tray Empty within is s.held;
}

-- ---- a new arena

listed_still : (b : BookValue) (thread n k : ℕ) (o : Option KeptSlot) (t : Tunables) → has n b.kept ≡ true → IfSome o (IsKeptIn t b.list k) → IfSome o (IsKeptIn t (attached_book b thread n).list k)
listed_still b thread n k None t kept h = tt
listed_still b thread n k (Some s) t kept h = record { kept = h.kept; listed = listed_more b n k kept h.listed }

pub serial_added : (st : SerialState) (thread : ℕ) (k : KeptArena) (bins : PlainBins) → k.arena.number < length st.slots → IsNew state_ways k st → IsSerial st →
    IsSerial (record st { slots = put_in st.slots k.arena.number (slot_with k bins); book = attached_book st.book thread k.arena.number })
serial_added st thread k bins within new s =
    let n : ℕ = k.arena.number in
    let book : BookValue = attached_book st.book thread n in
    let is : IsKeptIn st.tunables book.list n (slot_with k bins) = record {
      kept = record { number = refl; sound = new.sound; placed = new.placed; heaps = λ other. new.heaps; replays = new.replays };
      listed = in_listed st.book n new.owed.may.known;
    } in
    record {
      slots = length-set st.slots n (Some (slot_with k bins)) ∙ s.slots;
      kept = at_each-set (λ m o. IfSome o (IsKeptIn st.tunables book.list m)) st.slots n (Some (slot_with k bins)) None within is
          (λ m. listed_still st.book thread n m (slot_in st.slots m) st.tunables new.owed.kept (s.kept m));
      sound = sound_attached st.book thread n s.sound new.owed.may;
      records = s.records;
      trays = s.trays;
      held = s.held;
    }
