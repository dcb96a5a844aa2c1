-- What each step keeps of the places of one order of calls; other crates may cite this file.
use Rattle.std.proofs.Common.{◌≡◌, ℕ, ◌+◌, ◌-◌, ◌*◌, ◌/◌, ◌<◌, ◌≤◌, Bool, true, false, cond, List, [], ◌∷◌, length, Option, Some, None, inl, inr, Result, Ok, Err, IsTrue, refl, sym, ap, ◌∙◌, subst, arith}
use Rattle.std.specs.Prelude.{IfSome, IfOk, is_some, nat_eq, ◌&&◌, if◌then◌else◌}
use Rattle.std.proofs.lemmas.Bool.{cases_eq}
use Rattle.std.proofs.lemmas.List.{set-set}
use Rattle.std.proofs.lemmas.List.Sums.{sum_by-set}
use Rattle.chunk_tags.specs.Sizes.{IsChunkSize, fast_index_of}
use Rattle.chunk_tags.specs.BinOrder.{once, fast_chunk, times_in, same_chunk}
use Rattle.chunk_tags.specs.declared.block.Block.{Block}
use Rattle.chunk_tags.specs.declared.tiles.Chunk.{Chunk}
use Rattle.chunk_tags.specs.declared.tunables.Tunables.{Tunables}
use Rattle.fast_bins.specs.FastPorts.{Pushes, Did, Idles}
use Rattle.fast_bins.specs.PlainBins.{PlainBins, FastState, plain_fast, state_of, empty_state, chunks_of}
use Rattle.mapped_chunks.specs.DialPorts.{DialStep, Reads, Raises, Maps, Unmaps, Remaps}
use Rattle.mapped_chunks.specs.Mappings.{AllSteps}
use Rattle.mapped_chunks.specs.PlainDials.{after_dial_step, plain_dials}
use Rattle.mapped_chunks.specs.declared.plain.DialState.{DialState}
use Rattle.mapped_chunks.specs.declared.plain.PlainDials.{PlainDials}
use Rattle.arena_rules.specs.PlainArena.{times_used}
use Rattle.arena_choice.specs.Numbers.{has}
use Rattle.arena_choice.specs.Books as books
use Rattle.arena_choice.specs.Books.{BookValue}
use Rattle.arena_choice.specs.Choices.{attached_book, choice_of}
use Rattle.arena_choice.specs.declared.choice.Choice.{Choice}
use Rattle.consolidate_trim.proofs.HoldSteps.{block_is, block_other}
use Rattle.arena_holds.specs.BookChanges.{BookChange, Chooses, Undoes, book_after}
use Rattle.block_names.specs.Blocks.{IsHeld}
use Rattle.arena_holds.specs.Places.{KeptArena, Hands, both_of, as_chunk_of, as_mapped, as_mapped_bytes, Covers}
use Rattle.arena_holds.specs.Returning.{IsAside, IsUndone, IsUnlocked, AreReturned, IsUnseen, IsBooked, IsChosen, IsNew, IsAdded, IsPosted, IsTaken, maps_in, unmaps_in}
use Rattle.serial_places.specs.Joined.{joined_fast}
use Rattle.serial_places.specs.Playing.{PlainPort}
use Rattle.serial_places.specs.Trays.{in_tray, in_trays, tray_at, trays_posted, trays_taken, posted_tray, taken_tray, seen_by_post, found_by_take, IsHeldTray}
use Rattle.serial_places.specs.declared.tray.Tray.{Tray}
use Rattle.serial_places.specs.declared.tray.Tray.TheVariants.{Empty, Full, Taken}
use Rattle.serial_places.specs.SerialWays.{SerialState, KeptSlot, IsSerial, IsWhole, IsOwed, IsKeptIn, HasSlotRoom, LentSlot, GaveSlot, DialsOut, slot_in, put_in, slot_with, stock_in, used_in, state_ways}
use Rattle.serial_places.specs.LawsOfPlaces.{covers_same, serves_same, chunk_in}
use Rattle.serial_places.proofs.Slots.{some_within, put_here, put_other, put_there}
use Rattle.serial_places.proofs.SerialBooks.{KeepsList, allowed_by, usable, listed_was, new_out}

-- ---- numbers

pub same_some : {A : Type 0} {o : Option A} (x y : A) → o ≡ Some x → o ≡ Some y → x ≡ y
same_some x y e f = cc

covers_equal : (exact : Bool) (n m : ℕ) → n ≡ m → Covers exact n m
covers_equal true n m e = e
covers_equal false n m e = omega (arith, e)

covers_less : (exact : Bool) (x a b u : ℕ) → Covers exact a b → Covers exact (x + b) u → Covers exact (x + a) u
covers_less true x a b u e s = omega (arith, e, s)
covers_less false x a b u e s = omega (arith, e, s)

settled : (exact : Bool) (x y trays given got others : ℕ) → Covers exact (got + x) (given + y) → Covers exact (trays + (given + others)) x → Covers exact (trays + (got + others)) y
settled true x y trays given got others e s = omega (arith, e, s)
settled false x y trays given got others e s = omega (arith, e, s)

settled_chunks : (exact : Bool) (used used' stock stock' trays given got others : ℕ) → Covers exact (used + (stock' + got)) (used' + (stock + given)) →
    Covers exact (stock + (trays + (given + others))) used → Covers exact (stock' + (trays + (got + others))) used'
settled_chunks true used used' stock stock' trays given got others e s = omega (arith, e, s)
settled_chunks false used used' stock stock' trays given got others e s = omega (arith, e, s)

settled_others : (exact : Bool) (trays given got others : ℕ) → Covers exact got given → Covers exact (trays + (got + others)) (trays + (given + others))
settled_others true trays given got others e = omega (arith, e)
settled_others false trays given got others e = omega (arith, e)

-- ---- one slot changes

-- what is held outside the fast bins: in trays, and in these hands
abbrev Held : Type 0
Held = ℕ → Chunk → ℕ

abbrev held_by : List Tray → Hands → Held
held_by trays hands n e = in_trays trays (as_chunk_of n e) + hands (as_chunk_of n e)

abbrev Covered : Bool → Option KeptSlot → ℕ → Chunk → Type 0
Covered exact o held e = Covers exact (stock_in o e + held) (used_in o e)

chunks_put : (exact : Bool) (slots : List (Option KeptSlot)) (n : ℕ) (s : KeptSlot) (held left : Held) → n < length slots →
    ((e : Chunk) → Covered exact (slot_in slots n) (held n e) e → Covered exact (Some s) (left n e) e) → ((k : ℕ) (e : Chunk) → (k ≡ n → ⊥) → Covers exact (left k e) (held k e)) →
    ((k : ℕ) (e : Chunk) → Covered exact (slot_in slots k) (held k e) e) → (k : ℕ) (e : Chunk) → Covered exact (slot_in (put_in slots n s) k) (left k e) e
chunks_put exact slots n s held left within here others all k e = elim (cases_eq k n) [
  | inl is ↦ subst (λ (m : ℕ). Covered exact (slot_in (put_in slots n s) m) (left m e) e) (sym is)
      (subst (λ (o : Option KeptSlot). Covered exact o (left n e) e) (sym (put_here slots n s within)) (here e (all n e)))
  | inr other ↦ subst (λ (o : Option KeptSlot). Covered exact o (left k e) e) (sym (put_other slots n k s other))
      (covers_less exact (stock_in (slot_in slots k) e) (left k e) (held k e) (used_in (slot_in slots k) e) (others k e other) (all k e))
]

whole_put : (st : SerialState) (n : ℕ) (s : KeptSlot) (dials : PlainDials) (lent : Option ℕ) → n < length st.slots → IsWhole st → IsWhole (record st { slots = put_in st.slots n s; dials = dials; lent = lent })
whole_put st n s dials lent within w = record { main = put_there st.slots n 0 s within w.main; listed = λ k h. put_there st.slots n k s within (w.listed k h) }

-- ---- an arena comes back

abbrev back_at : SerialState → ℕ → PlainPort → KeptArena → SerialState
back_at st n port k = record st { slots = put_in st.slots n (slot_with k port.bins); dials = port.dials; lent = None }

pub came_back : (places q new : SerialState) (n : ℕ) (port left : PlainPort) (before : Option KeptArena) (after : KeptArena) → LentSlot places n port before q → GaveSlot q left after new → new ≡ back_at places n left after
came_back places q new n port left before after h g =
    let number : g.number ≡ n = same_some g.number n g.lent (ap (λ (s : SerialState). s.lent) h.left) in
    g.left ∙ (ap (λ (m : ℕ). back_at q m left after) number
    ∙ (ap (λ (s : SerialState). back_at s n left after) h.left
    ∙ ap (λ (slots : List (Option KeptSlot)). let st : SerialState = record places { slots = slots; dials = left.dials; lent = None } in st)
    (set-set places.slots n None (Some (slot_with after left.bins)))))

back_unlocked : (places : SerialState) (n : ℕ) (port left : PlainPort) (before after : KeptArena) → slot_in places.slots n ≡ Some (slot_with before port.bins) → port.dials ≡ places.dials →
    IsUnlocked state_ways (joined_fast plain_fast) places n port before left after (back_at places n left after)
back_unlocked places n port left before after slot words =
    let within : n < length places.slots = some_within places.slots n (slot_with before port.bins) slot in
    let mapped : port.dials.state.mapped ≡ places.dials.state.mapped = ap (λ (d : PlainDials). d.state.mapped) words in
    let bytes : port.dials.state.bytes ≡ places.dials.state.bytes = ap (λ (d : PlainDials). d.state.bytes) words in
    record {
      serves = λ exact given got others c s. record {
        chunks = chunks_put exact places.slots n (slot_with after left.bins) (held_by places.trays (both_of given others)) (held_by places.trays (both_of got others)) within
            (λ e h. settled_chunks exact (times_used e before.arena) (times_used e after.arena) (plain_fast.stock port.bins e) (plain_fast.stock left.bins e)
            (in_trays places.trays (as_chunk_of n e)) (given (as_chunk_of n e)) (got (as_chunk_of n e)) (others (as_chunk_of n e)) (c.chunks e)
            (subst (λ (o : Option KeptSlot). Covered exact o (held_by places.trays (both_of given others) n e) e) slot h))
            (λ k e other. settled_others exact (in_trays places.trays (as_chunk_of k e)) (given (as_chunk_of k e)) (got (as_chunk_of k e)) (others (as_chunk_of k e)) (c.others k e other))
            s.chunks;
        count = settled exact port.dials.state.mapped left.dials.state.mapped (in_trays places.trays as_mapped) (given as_mapped) (got as_mapped) (others as_mapped) c.count
            (subst (λ (m : ℕ). Covers exact (in_trays places.trays as_mapped + (given as_mapped + others as_mapped)) m) (sym mapped) s.count);
        bytes = settled exact port.dials.state.bytes left.dials.state.bytes (in_trays places.trays as_mapped_bytes) (given as_mapped_bytes) (got as_mapped_bytes) (others as_mapped_bytes) c.bytes
            (subst (λ (m : ℕ). Covers exact (in_trays places.trays as_mapped_bytes + (given as_mapped_bytes + others as_mapped_bytes)) m) (sym bytes) s.bytes);
      };
      notes = λ own own' others c n. record {
        windows = n.windows;
        count = omega (arith, c.count, n.count, mapped);
        bytes = omega (arith, c.bytes, n.bytes, bytes);
      };
      tunables = refl;
      lists = λ k h. put_there places.slots n k (slot_with after left.bins) within h;
      whole = whole_put places n (slot_with after left.bins) left.dials None within;
      writes = λ who w. w;
    }

pub unlocked : (places q new : SerialState) (n : ℕ) (port left : PlainPort) (before after : KeptArena) → LentSlot places n port (Some before) q → GaveSlot q left after new →
    IsUnlocked state_ways (joined_fast plain_fast) places n port before left after new
unlocked places q new n port left before after h g =
    subst (λ (s : SerialState). IsUnlocked state_ways (joined_fast plain_fast) places n port before left after s) (sym (came_back places q new n port left (Some before) after h g))
    (back_unlocked places n port left before after h.slot h.words)

-- ---- the words come back

steps_count : (ss : List DialStep) (d e : PlainDials) → AllSteps plain_dials d ss e → (unmaps_in ss).count ≤ d.state.mapped →
    e.state.mapped + (unmaps_in ss).count ≡ d.state.mapped + (maps_in ss).count
steps_count [] d e h le = omega (arith, ap (λ (x : PlainDials). x.state.mapped) h)
steps_count (Reads w n ∷ ss) d e h le = let m = ap (λ (x : PlainDials). x.state.mapped) h.step.1 in omega (arith, m, steps_count ss h.next e h.rest (omega (arith, m, le)))
steps_count (Raises size ∷ ss) d e h le = let m = ap (λ (x : PlainDials). x.state.mapped) h.step.1 in omega (arith, m, steps_count ss h.next e h.rest (omega (arith, m, le)))
steps_count (Maps len ∷ ss) d e h le = let m = ap (λ (x : PlainDials). x.state.mapped) h.step.1 in omega (arith, m, steps_count ss h.next e h.rest (omega (arith, m, le)))
steps_count (Unmaps len ∷ ss) d e h le = let m = ap (λ (x : PlainDials). x.state.mapped) h.step.1 in omega (arith, m, le, steps_count ss h.next e h.rest (omega (arith, m, le)))
steps_count (Remaps old_len new_len ∷ ss) d e h le = let m = ap (λ (x : PlainDials). x.state.mapped) h.step.1 in omega (arith, m, le, steps_count ss h.next e h.rest (omega (arith, m, le)))

steps_bytes : (ss : List DialStep) (d e : PlainDials) → AllSteps plain_dials d ss e → (unmaps_in ss).bytes ≤ d.state.bytes →
    e.state.bytes + (unmaps_in ss).bytes ≡ d.state.bytes + (maps_in ss).bytes
steps_bytes [] d e h le = omega (arith, ap (λ (x : PlainDials). x.state.bytes) h)
steps_bytes (Reads w n ∷ ss) d e h le = let m = ap (λ (x : PlainDials). x.state.bytes) h.step.1 in omega (arith, m, steps_bytes ss h.next e h.rest (omega (arith, m, le)))
steps_bytes (Raises size ∷ ss) d e h le = let m = ap (λ (x : PlainDials). x.state.bytes) h.step.1 in omega (arith, m, steps_bytes ss h.next e h.rest (omega (arith, m, le)))
steps_bytes (Maps len ∷ ss) d e h le = let m = ap (λ (x : PlainDials). x.state.bytes) h.step.1 in omega (arith, m, steps_bytes ss h.next e h.rest (omega (arith, m, le)))
steps_bytes (Unmaps len ∷ ss) d e h le = let m = ap (λ (x : PlainDials). x.state.bytes) h.step.1 in omega (arith, m, le, steps_bytes ss h.next e h.rest (omega (arith, m, le)))
steps_bytes (Remaps old_len new_len ∷ ss) d e h le = let m = ap (λ (x : PlainDials). x.state.bytes) h.step.1 in omega (arith, m, le, steps_bytes ss h.next e h.rest (omega (arith, m, le)))

turned : (exact : Bool) (x y trays given got others lost won : ℕ) → y + lost ≡ x + won → got + lost ≡ given + won → Covers exact (trays + (given + others)) x → Covers exact (trays + (got + others)) y
turned true x y trays given got others lost won e f s = omega (arith, e, f, s)
turned false x y trays given got others lost won e f s = omega (arith, e, f, s)

at_least : (exact : Bool) (n m : ℕ) → Covers exact n m → n ≤ m
at_least true n m e = omega (arith, e)
at_least false n m e = e

-- whatever was counted no more, no more is counted than this
record StepsMost (ss : List DialStep) (d e : PlainDials) : Type 0 where
  count : e.state.mapped ≤ d.state.mapped + (maps_in ss).count
  bytes : e.state.bytes ≤ d.state.bytes + (maps_in ss).bytes

steps_most : (ss : List DialStep) (d e : PlainDials) → AllSteps plain_dials d ss e → StepsMost ss d e
steps_most [] d e h = record { count = omega (arith, ap (λ (x : PlainDials). x.state.mapped) h); bytes = omega (arith, ap (λ (x : PlainDials). x.state.bytes) h) }
steps_most (Reads w n ∷ ss) d e h = let r = steps_most ss h.next e h.rest in record { count = omega (arith, ap (λ (x : PlainDials). x.state.mapped) h.step.1, r.count); bytes = omega (arith, ap (λ (x : PlainDials). x.state.bytes) h.step.1, r.bytes) }
steps_most (Raises size ∷ ss) d e h = let r = steps_most ss h.next e h.rest in record { count = omega (arith, ap (λ (x : PlainDials). x.state.mapped) h.step.1, r.count); bytes = omega (arith, ap (λ (x : PlainDials). x.state.bytes) h.step.1, r.bytes) }
steps_most (Maps len ∷ ss) d e h = let r = steps_most ss h.next e h.rest in record { count = omega (arith, ap (λ (x : PlainDials). x.state.mapped) h.step.1, r.count); bytes = omega (arith, ap (λ (x : PlainDials). x.state.bytes) h.step.1, r.bytes) }
steps_most (Unmaps len ∷ ss) d e h = let r = steps_most ss h.next e h.rest in record { count = omega (arith, ap (λ (x : PlainDials). x.state.mapped) h.step.1, r.count); bytes = omega (arith, ap (λ (x : PlainDials). x.state.bytes) h.step.1, r.bytes) }
steps_most (Remaps old_len new_len ∷ ss) d e h = let r = steps_most ss h.next e h.rest in record { count = omega (arith, ap (λ (x : PlainDials). x.state.mapped) h.step.1, r.count); bytes = omega (arith, ap (λ (x : PlainDials). x.state.bytes) h.step.1, r.bytes) }

words_returned : (places : SerialState) (first d : PlainDials) (steps : List DialStep) → first ≡ places.dials → AllSteps plain_dials first steps d →
    AreReturned state_ways plain_dials places first steps (record places { dials = d })
words_returned places first d steps told walk =
    let mapped : first.state.mapped ≡ places.dials.state.mapped = ap (λ (x : PlainDials). x.state.mapped) told in
    let bytes : first.state.bytes ≡ places.dials.state.bytes = ap (λ (x : PlainDials). x.state.bytes) told in
    let trays : Hands = in_trays places.trays in
    record {
      serves = λ exact given got others c s.
          let count : Covers exact (trays as_mapped + (given as_mapped + others as_mapped)) first.state.mapped = subst (λ (n : ℕ). Covers exact (trays as_mapped + (given as_mapped + others as_mapped)) n) (sym mapped) s.count in
          let all : Covers exact (trays as_mapped_bytes + (given as_mapped_bytes + others as_mapped_bytes)) first.state.bytes = subst (λ (n : ℕ). Covers exact (trays as_mapped_bytes + (given as_mapped_bytes + others as_mapped_bytes)) n) (sym bytes) s.bytes in
          record {
            chunks = λ n e. covers_same exact _ _ _ (omega (arith, c.chunks n e)) (s.chunks n e);
            count = turned exact first.state.mapped d.state.mapped (trays as_mapped) (given as_mapped) (got as_mapped) (others as_mapped) (unmaps_in steps).count (maps_in steps).count
                (steps_count steps first d walk (omega (arith, c.had, at_least exact _ _ count))) c.count count;
            bytes = turned exact first.state.bytes d.state.bytes (trays as_mapped_bytes) (given as_mapped_bytes) (got as_mapped_bytes) (others as_mapped_bytes) (unmaps_in steps).bytes (maps_in steps).bytes
                (steps_bytes steps first d walk (omega (arith, c.had_bytes, at_least exact _ _ all))) c.bytes all;
          };
      notes = λ own own' others c b n.
          let most : StepsMost steps first d = steps_most steps first d walk in
          record {
            windows = n.windows;
            count = omega (arith, c, n.count, most.count, mapped);
            bytes = omega (arith, b, n.bytes, most.bytes, bytes);
          };
      shorter = λ old_len new_len own others one allowed less n.
          let walked : AllSteps plain_dials first (Remaps old_len new_len ∷ []) d = subst (λ (ss : List DialStep). AllSteps plain_dials first ss d) one walk in
          let after : d.state ≡ after_dial_step (Remaps old_len new_len) first.state = ap (λ (x : PlainDials). x.state) walked.rest ∙ ap (λ (x : PlainDials). x.state) walked.step.1 in
          record {
            windows = n.windows;
            count = omega (arith, n.count, ap (λ (x : DialState). x.mapped) after, mapped);
            bytes = omega (arith, n.bytes, ap (λ (x : DialState). x.bytes) after, allowed.counted, less, bytes);
          };
      tunables = refl;
      whole = λ w. record { main = w.main; listed = w.listed };
      writes = λ who w. w;
    }

pub returned : (places q new : SerialState) (first d : PlainDials) (steps : List DialStep) → DialsOut places first q → AllSteps plain_dials first steps d → new ≡ record q { dials = d } →
    AreReturned state_ways plain_dials places first steps new
returned places q new first d steps h walk is =
    subst (λ (s : SerialState). AreReturned state_ways plain_dials places first steps s) (sym (is ∙ ap (λ (s : SerialState). let st : SerialState = record s { dials = d } in st) h.left))
    (words_returned places first d steps h.told walk)

-- ---- a push, and room

abbrev bins_at : SerialState → ℕ → KeptSlot → PlainBins → SerialState
bins_at st n slot bins = record st { slots = put_in st.slots n (slot_with slot.kept bins) }

-- the fast bins of one slot have other chunks, and the hands
bins_unseen : (st : SerialState) (n : ℕ) (slot : KeptSlot) (bins : PlainBins) (given got : Hands) → slot_in st.slots n ≡ Some slot →
    ((e : Chunk) → plain_fast.stock bins e + got (as_chunk_of n e) ≡ plain_fast.stock slot.bins e + given (as_chunk_of n e)) →
    ((k : ℕ) (e : Chunk) → (k ≡ n → ⊥) → got (as_chunk_of k e) ≡ given (as_chunk_of k e)) → got as_mapped ≡ given as_mapped → got as_mapped_bytes ≡ given as_mapped_bytes →
    IsUnseen state_ways st given got (bins_at st n slot bins)
bins_unseen st n slot bins given got at stock other mapped bytes =
    let within : n < length st.slots = some_within st.slots n slot at in
    record {
      serves = λ exact others s. record {
        chunks = chunks_put exact st.slots n (slot_with slot.kept bins) (held_by st.trays (both_of given others)) (held_by st.trays (both_of got others)) within
            (λ e h. covers_same exact _ _ _ (omega (arith, stock e)) (subst (λ (o : Option KeptSlot). Covered exact o (held_by st.trays (both_of given others) n e) e) at h))
            (λ k e differs. covers_equal exact _ _ (omega (arith, other k e differs)))
            s.chunks;
        count = covers_same exact _ _ _ (omega (arith, mapped)) s.count;
        bytes = covers_same exact _ _ _ (omega (arith, bytes)) s.bytes;
      };
      notes = λ own others n. record { windows = n.windows; count = n.count; bytes = n.bytes };
      tunables = refl;
      whole = λ w. record { main = put_there st.slots n 0 (slot_with slot.kept bins) within w.main; listed = λ k h. put_there st.slots n k (slot_with slot.kept bins) within (w.listed k h) };
      writes = λ who w. w;
    }

-- a block as a chunk of its arena, and of others
chunk_is : (a : ℕ) (e : Chunk) (b : Block) → b.arena ≡ Some a → as_chunk_of a e b ≡ once e (chunk_in b)
chunk_is a e b arena =
    ap {B = ℕ} (λ (o : Option ℕ). cond (same_chunk e (chunk_in b) && (elim o [ None ↦ false | Some n ↦ nat_eq n a ])) 1 0) arena ∙ block_is a e (chunk_in b)

chunk_other : (a n : ℕ) (e : Chunk) (b : Block) → b.arena ≡ Some a → (n ≡ a → ⊥) → as_chunk_of n e b ≡ 0
chunk_other a n e b arena other =
    ap {B = ℕ} (λ (o : Option ℕ). cond (same_chunk e (chunk_in b) && (elim o [ None ↦ false | Some x ↦ nat_eq x n ])) 1 0) arena ∙ block_other a n e (chunk_in b) other

pushed_chunk : (a : ℕ) (b : Block) (e : Chunk) → b.arena ≡ Some a → IsChunkSize b.size → as_chunk_of a e b ≡ once e (fast_chunk (fast_index_of b.size) b.addr)
pushed_chunk a b e arena chunk =
    let size : 32 + 16 * (b.size / 16 - 2) ≡ b.size = omega (arith, chunk.0, chunk.1) in
    chunk_is a e b arena ∙ ap (λ (n : ℕ). once e (record { at = b.addr; size = n })) (sym size)

mapped_none : (b : Block) (a : ℕ) → b.arena ≡ Some a → as_mapped b ≡ 0
mapped_none b a e = ap (λ (o : Option ℕ). cond (is_some o) 0 1) e

bytes_none : (b : Block) (a : ℕ) → b.arena ≡ Some a → as_mapped_bytes b ≡ 0
bytes_none b a e = rw e refl

pub gone : (st : SerialState) (n : ℕ) (slot : KeptSlot) (b : Block) (bins : PlainBins) → slot_in st.slots n ≡ Some slot → b.arena ≡ Some n → IsChunkSize b.size →
    Did plain_fast slot.bins (Pushes (fast_index_of b.size) b.addr) bins → IsUnseen state_ways st (λ weigh. weigh b) (λ _. 0) (bins_at st n slot bins)
gone st n slot b bins at arena chunk h =
    bins_unseen st n slot bins (λ weigh. weigh b) (λ _. 0) at
    (λ e. omega (arith, h.stock e, pushed_chunk n b e arena chunk))
    (λ k e other. sym (chunk_other n k e b arena other))
    (sym (mapped_none b n arena)) (sym (bytes_none b n arena))

pub unseen : (st : SerialState) (n : ℕ) (slot : KeptSlot) (bins : PlainBins) → slot_in st.slots n ≡ Some slot → Idles plain_fast slot.bins bins →
    IsUnseen state_ways st (λ _. 0) (λ _. 0) (bins_at st n slot bins)
unseen st n slot bins at h = bins_unseen st n slot bins (λ _. 0) (λ _. 0) at (λ e. omega (arith, h.stock e)) (λ k e other. refl) refl refl

pub room_at : (st : SerialState) (n : ℕ) (slot : KeptSlot) (bin : ℕ) → slot_in st.slots n ≡ Some slot → HasSlotRoom st n → bin < 10 → IsTrue (plain_fast.room slot.bins bin)
room_at st n slot bin at room below =
    let P : Option KeptSlot → Type 0 = λ o. IfSome o (λ s. (k : ℕ) → k < 10 → IsTrue (plain_fast.room s.bins k)) in
    let roomy : P (Some slot) = subst P at room in
    roomy bin below

-- ---- the book

booked_unseen : (st : SerialState) (book : BookValue) → KeepsList st.book book → IsUnseen state_ways st (λ _. 0) (λ _. 0) (record st { book = book })
booked_unseen st book k = record {
  serves = λ exact others s. record { chunks = s.chunks; count = s.count; bytes = s.bytes };
  notes = λ own others n. record { windows = n.windows; count = n.count; bytes = n.bytes };
  tunables = refl;
  whole = λ w. record { main = w.main; listed = λ n h. w.listed n (ap (has n) (sym k.list) ∙ h) };
  writes = λ who w. w;
}

booked_aside : (st : SerialState) (book : BookValue) → IsAside state_ways st (record st { book = book })
booked_aside st book = record {
  serves = λ exact hands s. record { chunks = s.chunks; count = s.count; bytes = s.bytes };
  notes = λ own others n. record { windows = n.windows; count = n.count; bytes = n.bytes };
  tunables = refl;
  writes = λ who w. w;
}

booked_whole : (st : SerialState) (book : BookValue) → KeepsList st.book book → IsWhole st → IsWhole (record st { book = book })
booked_whole st book k w = record { main = w.main; listed = λ n h. w.listed n (ap (has n) (sym k.list) ∙ h) }

pub is_undone : (st new : SerialState) (a : ℕ) → new ≡ record st { book = book_after st.tunables (Undoes a) st.book } → KeepsList st.book (book_after st.tunables (Undoes a) st.book) → books.IsSound st.book → IsOwed st a → IsUndone state_ways a st new
is_undone st new a is k s o = record {
  book = st.book;
  booked = record { was = refl; sound = s; left = is };
  aside = subst (λ (x : SerialState). IsAside state_ways st x) (sym is) (booked_aside st (book_after st.tunables (Undoes a) st.book));
  whole = subst IsWhole (sym is) (booked_whole st (book_after st.tunables (Undoes a) st.book) k o.whole);
}

pub is_booked : (st new : SerialState) (change : BookChange) → new ≡ record st { book = book_after st.tunables change st.book } → KeepsList st.book (book_after st.tunables change st.book) → books.IsSound st.book →
    IsBooked state_ways st change new
is_booked st new change is k s = record {
  book = st.book;
  booked = record { was = refl; sound = s; left = is };
  unseen = subst (λ (s : SerialState). IsUnseen state_ways st (λ _. 0) (λ _. 0) s) (sym is) (booked_unseen st (book_after st.tunables change st.book) k);
}

pub is_chosen : (st new : SerialState) (thread : ℕ) (fresh : Bool) (t : Tunables) (choice : Choice) → t ≡ st.tunables → IsWhole st → IsSerial st →
    new ≡ record st { book = book_after t (Chooses thread fresh) st.book } → choice ≡ choice_of st.book thread fresh t → KeepsList st.book (book_after t (Chooses thread fresh) st.book) →
    IsChosen state_ways thread fresh t st choice new
is_chosen st new thread fresh t choice tunables w s is chosen k =
    let after : new ≡ record st { book = book_after st.tunables (Chooses thread fresh) st.book } = is ∙ ap (λ (x : Tunables). let r : SerialState = record st { book = book_after x (Chooses thread fresh) st.book } in r) tunables in
    record {
      book = st.book;
      booked = record { was = refl; sound = s.sound; left = after };
      choice_is = chosen;
      aside = subst (λ (x : SerialState). IsAside state_ways st x) (sym is) (booked_aside st (book_after t (Chooses thread fresh) st.book));
      allowed = rw (is, chosen) (allowed_by (record st { book = book_after t (Chooses thread fresh) st.book }) (choice_of st.book thread fresh t) (booked_whole st (book_after t (Chooses thread fresh) st.book) k w) (usable st thread fresh t s.sound w));
    }

-- ---- a new arena

abbrev added_at : SerialState → ℕ → KeptArena → PlainBins → SerialState
added_at st thread k bins = record st { slots = put_in st.slots k.arena.number (slot_with k bins); book = attached_book st.book thread k.arena.number }

-- no arena stands in the slot of a number that is owed
empty_slot : (st : SerialState) (n : ℕ) → IsSerial st → IsOwed st n → slot_in st.slots n ≡ None
empty_slot st n s o =
    let out : has n st.book.list ≡ false = new_out st n s.sound o in
    let cases : (x : Option KeptSlot) → slot_in st.slots n ≡ x → x ≡ None = elim [
      | None ↦ λ e. refl
      | Some slot ↦ λ e. absurd (
          let is : IsKeptIn st.tunables st.book.list n slot = subst (λ (y : Option KeptSlot). IfSome y (IsKeptIn st.tunables st.book.list n)) e (s.kept n) in
          let listed : has n st.book.list ≡ true = is.listed in
          cc)
    ] in
    cases (slot_in st.slots n) refl

no_stock : (bins : PlainBins) → state_of bins ≡ empty_state → (e : Chunk) → plain_fast.stock bins e ≡ 0
unfolding empty_state
no_stock bins is e = ap (λ (s : FastState). times_in e (chunks_of s)) is

added_whole : (st : SerialState) (thread : ℕ) (k : KeptArena) (bins : PlainBins) → k.arena.number < length st.slots → IsOwed st k.arena.number → IsWhole st → IsWhole (added_at st thread k bins)
added_whole st thread k bins within o w =
    let n : ℕ = k.arena.number in
    record {
      main = put_there st.slots n 0 (slot_with k bins) within w.main;
      listed = λ m h. elim (listed_was st.book n m o.kept h) [
        | inl is ↦ ap (λ (x : ℕ). is_some (slot_in (put_in st.slots n (slot_with k bins)) x)) is ∙ ap is_some (put_here st.slots n (slot_with k bins) within)
        | inr there ↦ put_there st.slots n m (slot_with k bins) within (w.listed m there)
      ];
    }

added_unseen : (st : SerialState) (thread : ℕ) (k : KeptArena) (bins : PlainBins) → k.arena.number < length st.slots → IsSerial st → IsNew state_ways k st → state_of bins ≡ empty_state →
    IsUnseen state_ways st (λ _. 0) (λ _. 0) (added_at st thread k bins)
added_unseen st thread k bins within s new empty =
    let n : ℕ = k.arena.number in
    let none : slot_in st.slots n ≡ None = empty_slot st n s new.owed in
    record {
      serves = λ exact others v. record {
        chunks = chunks_put exact st.slots n (slot_with k bins) (held_by st.trays (both_of (λ _. 0) others)) (held_by st.trays (both_of (λ _. 0) others)) within
            (λ e h. rw (no_stock bins empty e, new.unused e) (subst (λ (o : Option KeptSlot). Covered exact o (held_by st.trays (both_of (λ _. 0) others) n e) e) none h))
            (λ m e other. covers_equal exact _ _ refl)
            v.chunks;
        count = v.count;
        bytes = v.bytes;
      };
      notes = λ own others m. record { windows = m.windows; count = m.count; bytes = m.bytes };
      tunables = refl;
      whole = added_whole st thread k bins within new.owed;
      writes = λ who w. w;
    }

pub is_added : (st new : SerialState) (thread : ℕ) (k : KeptArena) (bins : PlainBins) → k.arena.number < length st.slots → IsSerial st → IsNew state_ways k st → state_of bins ≡ empty_state →
    new ≡ added_at st thread k bins → IsAdded state_ways thread st k new
is_added st next thread k bins within s new empty is = record {
  added = record { bins = bins; empty = empty; left = is };
  there = rw is (ap is_some (put_here st.slots k.arena.number (slot_with k bins) within));
  aside = subst (λ (x : SerialState). IsAside state_ways st x) (sym is)
      (let u : IsUnseen state_ways st (λ _. 0) (λ _. 0) (added_at st thread k bins) = added_unseen st thread k bins within s new empty in
      record { serves = λ exact hands v. serves_same exact (added_at st thread k bins) (both_of (λ _. 0) hands) hands (λ w. omega arith) (u.serves exact hands (serves_same exact st hands (both_of (λ _. 0) hands) (λ w. omega arith) v)); notes = u.notes; tunables = u.tunables; writes = u.writes });
  whole = subst IsWhole (sym is) (added_whole st thread k bins within new.owed new.owed.whole);
}

-- ---- trays

abbrev trays_at : SerialState → List Tray → SerialState
trays_at st trays = record st { trays = trays }

trays_unseen : (st : SerialState) (trays : List Tray) (given got : Hands) → ((weigh : Block → ℕ) → in_trays trays weigh + got weigh ≡ in_trays st.trays weigh + given weigh) →
    IsUnseen state_ways st given got (trays_at st trays)
trays_unseen st trays given got same = record {
  serves = λ exact others s. record {
    chunks = λ n e. covers_same exact _ _ _ (omega (arith, same (as_chunk_of n e))) (s.chunks n e);
    count = covers_same exact _ _ _ (omega (arith, same as_mapped)) s.count;
    bytes = covers_same exact _ _ _ (omega (arith, same as_mapped_bytes)) s.bytes;
  };
  notes = λ own others n. record { windows = n.windows; count = n.count; bytes = n.bytes };
  tunables = refl;
  whole = λ w. record { main = w.main; listed = w.listed };
  writes = λ who w. w;
}

-- what a tray has with the block, or without it
post_weighs : (b : Block) (t : Tray) (weigh : Block → ℕ) → in_tray (posted_tray b t) weigh + (if is_some (seen_by_post t) then weigh b else 0) ≡ in_tray t weigh + weigh b
post_weighs b Empty weigh = omega arith
post_weighs b (Full c) weigh = refl
post_weighs b Taken weigh = refl

-- what was found, by what it weighs
abbrev found_weight : Result Block ℕ → Hands
found_weight found weigh = elim found [ Ok b ↦ weigh b | Err seen ↦ 0 ]

take_weighs : (t : Tray) (weigh : Block → ℕ) → in_tray (taken_tray t) weigh + found_weight (found_by_take t) weigh ≡ in_tray t weigh
take_weighs Empty weigh = refl
take_weighs (Full c) weigh = omega arith
take_weighs Taken weigh = refl

pub is_posted : (st new : SerialState) (tray : ℕ) (b : Block) (full : Option ℕ) → tray < length st.trays → full ≡ seen_by_post (tray_at st.trays tray) → new ≡ trays_at st (trays_posted tray b st.trays) →
    IsPosted state_ways tray st b full new
is_posted st new tray b full within told is = record {
  posted = record { told = told; left = is };
  unseen = subst (λ (s : SerialState). IsUnseen state_ways st (λ weigh. weigh b) (λ weigh. if is_some full then weigh b else 0) s) (sym is)
      (trays_unseen st (trays_posted tray b st.trays) (λ weigh. weigh b) (λ weigh. if is_some full then weigh b else 0)
      (λ weigh. rw told (omega (arith, post_weighs b (tray_at st.trays tray) weigh, sum_by-set (λ t. in_tray t weigh) st.trays tray (posted_tray b (tray_at st.trays tray)) Empty within))));
}

taken_held : (t : Tray) → IsHeldTray t → IfOk (found_by_take t) IsHeld
taken_held Empty h = tt
taken_held (Full c) h = h
taken_held Taken h = tt

pub is_taken : (st new : SerialState) (tray : ℕ) (found : Result Block ℕ) → tray < length st.trays → IsHeldTray (tray_at st.trays tray) → found ≡ found_by_take (tray_at st.trays tray) →
    new ≡ trays_at st (trays_taken tray st.trays) → IsTaken state_ways tray st found new
is_taken st new tray found within held told is = record {
  took = record { told = told; left = is };
  held = rw told (taken_held (tray_at st.trays tray) held);
  unseen = subst (λ (s : SerialState). IsUnseen state_ways st (λ _. 0) (found_weight found) s) (sym is)
      (trays_unseen st (trays_taken tray st.trays) (λ _. 0) (found_weight found)
      (λ weigh. rw told (omega (arith, take_weighs (tray_at st.trays tray) weigh, sum_by-set (λ t. in_tray t weigh) st.trays tray (taken_tray (tray_at st.trays tray)) Empty within))));
}
