-- A call over the places for one order of calls, and a kernel that tells, is what the plain world plays; other crates may
-- cite this file.
use Rattle.std.proofs.Common.{◌≡◌, ℕ, Bool, true, false, IsTrue, List, [], ◌∷◌, ◌++◌, set, Option, Some, None, Result, Ok, Err, refl, sym, ap, ◌∙◌, subst}
use Rattle.std.specs.Prelude.{option_map, is_some}
use Rattle.std.specs.Option.{option_and_then}
use Rattle.std.proofs.lemmas.List.{map-set, set-get_or}
use Rattle.chunk_tags.specs.declared.block.Block.{Block}
use Rattle.chunk_tags.specs.declared.tunables.Tunables.{Tunables}
use Rattle.address_space.specs.declared.space.Space.{Space}
use Rattle.address_space.specs.Ports.{Port}
use Rattle.address_space.specs.Spaces.{space_tells, space_place}
use Rattle.fast_bins.specs.PlainBins.{FastState, state_of, empty_state}
use Rattle.mapped_chunks.specs.DialPorts.{DialStep, Unmaps}
use Rattle.mapped_chunks.specs.Mappings.{AllSteps, ChangesLength, MapsChunk, freeing_steps, granted_start, mapping_bytes}
use Rattle.mapped_chunks.specs.PlainDials.{plain_dials}
use Rattle.mapped_chunks.specs.declared.plain.DialState.{DialState}
use Rattle.mapped_chunks.specs.declared.plain.PlainDials.{PlainDials}
use Rattle.arena_rules.specs.Growth.{Took}
use Rattle.arena_rules.specs.PlainArena.{Plain}
use Rattle.arena_core.specs.Arenas.{recorded}
use Rattle.arena_core.specs.declared.journal.Act.{Act}
use Rattle.arena_core.specs.declared.journal.Who.{Who}
use Rattle.arena_core.specs.declared.journal.Ended.{Ended}
use Rattle.arena_core.specs.Journal.{Recorded}
use Rattle.arena_core.specs.Replay.{rules_of, ended_of}
use Rattle.arena_choice.specs.Books.{BookValue}
use Rattle.arena_choice.specs.Choices.{attached_book}
use Rattle.thread_cache.specs.Caches.{CacheValue}
use Rattle.arena_holds.specs.BookChanges.{BookChange, book_after}
use Rattle.arena_holds.specs.Calls.{Call, Done, HoldEnd, hold_end}
use Rattle.arena_holds.specs.Going as going
use Rattle.arena_holds.specs.Going.{Told, HoldStep, OpenStep, RefusedStep, BookStep, MapStep, PushStep, IdleStep, FreeStep, UnmapStep, RemapStep, PostStep, TakeStep}
use Rattle.arena_holds.specs.Places.{KeptArena, with_journal, Standing}
use Rattle.serial_places.specs.Playing.{HoldWorld, PlayedHold, played_hold}
use Rattle.serial_places.specs.Trays.{trays_posted, trays_taken}
use Rattle.serial_places.specs.SerialWays.{SerialState, KeptSlot, WorldSlot, SerialWorld, DialsOut, slot_in, put_in, slot_with, world_slot, seen_slot, seen_slots, serial_setting, world_at, hold_world, hold_told, world_held, played_in, hold_played, opening_left, opening_played, after_steps, map_words, world_mapped, world_freed, world_unmapped, world_remapped, remap_start, remap_words, slot_pushed, world_pushed, played_call}
use Rattle.serial_places.proofs.Slots.{slot-map}
use Rattle.serial_places.proofs.SerialLaws.{came_back}
use Rattle.serial_places.proofs.Playing.{plays, tells_after}
use Rattle.serial_places.proofs.Opening.{plays_asked, asked_tells}

-- the world that stands somewhere
abbrev pub world_in : {P K : Type 0} → (P → SerialState) → Standing P K → SerialWorld K
world_in view o = world_at (view o.places) o.space

-- the places have these tunables, and the kernel tells
pub record IsAt {P K : Type 0} (view : P → SerialState) (kernel : Port K) (t : Tunables) (o : Standing P K) : Type 0 where
  pub tunables : (view o.places).tunables ≡ t
  pub tells : IsTrue (space_tells kernel o.space)

-- what a call plays from a world comes to where the places then are
pub record PlaysTo {P K A : Type 0} (view : P → SerialState) (kernel : Port K) (t : Tunables) (who : Who) (c : Call A) (w : SerialWorld K) (x : A)
    (z : Standing P K) : Type 0 where
  pub at : IsAt view kernel t z
  pub played : played_call kernel t who c w ≡ Some (x, world_in view z)

-- one step came to this world
record StepsTo {P K : Type 0} (view : P → SerialState) (kernel : Port K) (t : Tunables) (w : SerialWorld K) (p : Standing P K) : Type 0 where
  at : IsAt view kernel t p
  world : world_in view p ≡ w

still_tells : {K : Type 0} (kernel : Port K) (s z : Space K) → z ≡ s → IsTrue (space_tells kernel s) → IsTrue (space_tells kernel z)
still_tells kernel s z e tells = subst (λ v. IsTrue (space_tells kernel v)) (sym e) tells

-- ---- slots

seen_put : (slots : List (Option KeptSlot)) (n : ℕ) (s : KeptSlot) → seen_slots (put_in slots n s) ≡ put_in (seen_slots slots) n (seen_slot s)
seen_put slots n s = map-set (option_map seen_slot) slots n (Some s)

seen_at : (slots : List (Option KeptSlot)) (n : ℕ) (s : KeptSlot) → slot_in slots n ≡ Some s → slot_in (seen_slots slots) n ≡ Some (seen_slot s)
seen_at slots n s e = slot-map seen_slot slots n ∙ ap (option_map seen_slot) e

put_same : {S : Type 0} (slots : List (Option S)) (n : ℕ) (s : S) → slot_in slots n ≡ Some s → put_in slots n s ≡ slots
put_same slots n s e = ap (set slots n) (sym e) ∙ set-get_or slots n None

-- ---- room

idle_world : {P K : Type 0} (view : P → SerialState) (kernel : Port K) (t : Tunables) (o p : Standing P K) → IsAt view kernel t o → IdleStep (serial_setting view kernel) o p →
    StepsTo view kernel t (world_in view o) p
idle_world {K = K} view kernel t o p at i =
    let st : SerialState = view o.places in
    let h = i.idle.changed in
    let n : ℕ = i.idle.number in
    let w : List (Option WorldSlot) → Space K → SerialWorld K = λ slots space. record { slots = slots; dials = st.dials.state; book = st.book; trays = st.trays; space = space } in
    record {
      at = record { tunables = ap (λ (s : SerialState). s.tunables) h.left ∙ at.tunables; tells = still_tells kernel o.space p.space i.space at.tells };
      world = ap (λ (s : SerialState). world_at s p.space) h.left
          ∙ (ap (λ slots. w slots p.space) (seen_put st.slots n (slot_with h.slot.kept h.next)
          ∙ (ap (λ b. put_in (seen_slots st.slots) n (world_slot h.slot.kept b)) h.step ∙ put_same (seen_slots st.slots) n (seen_slot h.slot) (seen_at st.slots n h.slot h.there)))
          ∙ ap (w (seen_slots st.slots)) i.space);
    }

-- ---- a hold

-- an entry, by its parts
entry_same : (e : Recorded) (who : Who) (act : Act) (ended : Ended) → e.who ≡ who → e.act ≡ act → e.ended ≡ ended → e ≡ recorded who act e.said ended
entry_same e who act ended w a x =
    ap (λ v. recorded v e.act e.said e.ended) w ∙ (ap (λ v. recorded who v e.said e.ended) a ∙ ap (λ v. recorded who act e.said v) x)

hold_world_of : {P K : Type 0} (view : P → SerialState) (kernel : Port K) {t : Tunables} {who : Who} {n : ℕ} {act : Act} {cache : CacheValue} {o p : Standing P K} {place : ℕ} {before : Plain} {entry : Recorded} {left : CacheValue} →
    IsAt view kernel t o → HoldStep (serial_setting view kernel) t who n act cache o place before entry left p → IsAt view kernel t p
hold_world_of view kernel {before = before} at h = record {
  tunables = ap (λ (s : SerialState). s.tunables) (h.gave.left) ∙ (ap (λ (s : SerialState). s.tunables) h.lent.left ∙ at.tunables);
  tells = tells_after kernel before.number at.tells h.walk;
}

hold_plays : {P K : Type 0} (view : P → SerialState) (kernel : Port K) {t : Tunables} {who : Who} {n : ℕ} {act : Act} {cache : CacheValue} {o p : Standing P K} {place : ℕ} {before : Plain} {entry : Recorded} {left : CacheValue} →
    IsAt view kernel t o → HoldStep (serial_setting view kernel) t who n act cache o place before entry left p →
    hold_played kernel t who n act cache (world_in view o) ≡ Some (hold_end place entry.ended left, world_in view p)
hold_plays {K = K} view kernel {t = t} {who = who} {n = n} {act = act} {cache = cache} {o = o} {p = p} {place = place} {before = before} {entry = entry} {left = left} at h =
    let st : SerialState = view o.places in
    let w : SerialWorld K = world_at st o.space in
    let s : WorldSlot = world_slot (with_journal before h.journal) (state_of h.hold.bins) in
    let k : KeptArena = with_journal h.took.arena (h.journal ++ entry ∷ []) in
    let ended : Ended = ended_of act h.took.found in
    let G : PlayedHold K Took → HoldEnd × SerialWorld K = λ v. (hold_told act s v, world_held who n act s w v) in
    let beside : PlainDials → HoldWorld K = λ d. record { bins = state_of h.hold.bins; dials = d.state; cache = cache; space = o.space } in
    let put : Recorded → SerialWorld K = λ e. record w {
      slots = put_in w.slots n (world_slot (with_journal h.took.arena (h.journal ++ e ∷ [])) (state_of h.last_hold.bins));
      dials = h.last_hold.dials.state;
      space = p.space;
    } in
    let world : world_in view p ≡ put entry =
    ap (λ (v : SerialState). world_at v p.space) (came_back st (view h.lending) (view p.places) n h.hold h.last_hold (Some (with_journal before h.journal)) k h.lent h.gave)
    ∙ ap (λ (slots : List (Option WorldSlot)). let r : SerialWorld K = record w { slots = slots; dials = h.last_hold.dials.state; space = p.space } in r) (seen_put st.slots n (slot_with k h.last_hold.bins)) in
    let R : ℕ → Ended → SerialWorld K → Option (HoldEnd × SerialWorld K) = λ m e v. Some (hold_end m e left, v) in
    ap (option_and_then (played_in kernel t who n act cache w)) (seen_at st.slots n (slot_with (with_journal before h.journal) h.hold.bins) h.lent.slot)
    ∙ (ap (λ d. option_map G (played_hold kernel before.number (rules_of t act before) (beside d))) (sym h.lent.words)
    ∙ (ap (option_map G) (plays kernel before.number h.took refl at.tells h.walk)
    ∙ (ap (λ m. R m ended (put (recorded who act entry.said ended))) h.at
    ∙ (ap (λ e. R place ended (put e)) (sym (entry_same entry who act ended h.whose h.acts h.ended))
    ∙ (ap (λ e. R place e (put entry)) (sym h.ended) ∙ ap (R place entry.ended) (sym world))))))

-- ---- a new arena

open_at : {P K : Type 0} (view : P → SerialState) (kernel : Port K) {t : Tunables} {who : Who} {n bytes : ℕ} {o p : Standing P K} {entry : Recorded} →
    IsAt view kernel t o → OpenStep (serial_setting view kernel) t who n bytes o entry p → IsAt view kernel t p
open_at view kernel {o = o} at h = record {
  tunables = ap (λ (s : SerialState). s.tunables) h.added.left ∙ at.tunables;
  tells = asked_tells kernel (hold_world (world_in view o) empty_state None) at.tells h.walk;
}

open_plays : {P K : Type 0} (view : P → SerialState) (kernel : Port K) {t : Tunables} {who : Who} {n bytes : ℕ} {o p : Standing P K} {entry : Recorded} →
    IsAt view kernel t o → OpenStep (serial_setting view kernel) t who n bytes o entry p →
    opening_played kernel t who n bytes (world_in view o) ≡ Some (true, world_in view p)
open_plays {K = K} view kernel {t = t} {who = who} {n = n} {bytes = bytes} {o = o} {p = p} {entry = entry} at h =
    let st : SerialState = view o.places in
    let w : SerialWorld K = world_at st o.space in
    let m : ℕ = h.arena.number in
    let k : KeptArena = with_journal h.arena (entry ∷ []) in
    let G : PlayedHold K (Option Plain) → Bool × SerialWorld K = λ v. (is_some v.result, opening_left who n bytes w v) in
    let put : Recorded → FastState → SerialWorld K = λ e b. record w {
      slots = put_in w.slots m (world_slot (with_journal h.arena (e ∷ [])) b);
      book = attached_book st.book who.thread m;
      space = p.space;
    } in
    let world : world_in view p ≡ put entry empty_state =
    ap (λ (v : SerialState). world_at v p.space) h.added.left
    ∙ (ap (λ (slots : List (Option WorldSlot)). let r : SerialWorld K = record w { slots = slots; book = attached_book st.book who.thread m; space = p.space } in r) (seen_put st.slots m (slot_with k h.added.bins))
    ∙ ap (put entry) h.added.empty) in
    ap (option_map G) (plays_asked kernel n (hold_world w empty_state None) (Some h.arena) refl at.tells h.walk)
    ∙ (ap (λ e. let r : Option (Bool × SerialWorld K) = Some (true, put e empty_state) in r) (sym h.entry_is)
    ∙ ap (λ v. let r : Option (Bool × SerialWorld K) = Some (true, v) in r) (sym world))

refused_at : {P K : Type 0} (view : P → SerialState) (kernel : Port K) {t : Tunables} {n bytes : ℕ} {o p : Standing P K} →
    IsAt view kernel t o → RefusedStep (serial_setting view kernel) t n bytes o p → IsAt view kernel t p
refused_at view kernel {o = o} at h = record {
  tunables = ap (λ (s : SerialState). s.tunables) h.undone.left ∙ at.tunables;
  tells = asked_tells kernel (hold_world (world_in view o) empty_state None) at.tells h.walk;
}

refused_plays : {P K : Type 0} (view : P → SerialState) (kernel : Port K) {t : Tunables} {n bytes : ℕ} {o p : Standing P K} (who : Who) →
    IsAt view kernel t o → RefusedStep (serial_setting view kernel) t n bytes o p →
    opening_played kernel t who n bytes (world_in view o) ≡ Some (false, world_in view p)
refused_plays {K = K} view kernel {t = t} {n = n} {bytes = bytes} {o = o} {p = p} who at h =
    let w : SerialWorld K = world_in view o in
    let G : PlayedHold K (Option Plain) → Bool × SerialWorld K = λ v. (is_some v.result, opening_left who n bytes w v) in
    ap (option_map G) (plays_asked kernel n (hold_world w empty_state None) None refl at.tells h.walk)
    ∙ ap (λ (v : SerialState). let r : Option (Bool × SerialWorld K) = Some (false, world_at v p.space) in r) (sym h.undone.left)

-- ---- the book

booked_world : {P K : Type 0} (view : P → SerialState) (kernel : Port K) (t : Tunables) (change : BookChange) (o p : Standing P K) (book : BookValue) → IsAt view kernel t o →
    BookStep (serial_setting view kernel) change o book p → StepsTo view kernel t (record (world_in view o) { book = book_after t change (view o.places).book }) p
booked_world {K = K} view kernel t change o p book at h =
    let st : SerialState = view o.places in
    let w : BookValue → Space K → SerialWorld K = λ b s. record (world_at st s) { book = b } in
    record {
      at = record { tunables = ap (λ (s : SerialState). s.tunables) h.booked.left ∙ at.tunables; tells = still_tells kernel o.space p.space h.space at.tells };
      world = ap (λ (s : SerialState). world_at s p.space) h.booked.left
          ∙ (ap (λ (x : Tunables). w (book_after x change st.book) p.space) at.tunables ∙ ap (w (book_after t change st.book)) h.space);
    }

-- ---- a push

push_at : {P K : Type 0} (view : P → SerialState) (kernel : Port K) (t : Tunables) (b : Block) (o p : Standing P K) → IsAt view kernel t o → PushStep (serial_setting view kernel) b o p → IsAt view kernel t p
push_at view kernel t b o p at h = record {
  tunables = ap (λ (s : SerialState). s.tunables) h.pushed.changed.left ∙ at.tunables;
  tells = still_tells kernel o.space p.space h.space at.tells;
}

push_plays : {P K : Type 0} (view : P → SerialState) (kernel : Port K) (t : Tunables) (b : Block) (o p : Standing P K) → IsAt view kernel t o → PushStep (serial_setting view kernel) b o p →
    world_pushed b (world_in view o) ≡ Some (world_in view p)
push_plays {K = K} view kernel t b o p at h =
    let st : SerialState = view o.places in
    let w : SerialWorld K = world_at st o.space in
    let c = h.pushed.changed in
    let n : ℕ = h.pushed.number in
    let put : WorldSlot → Space K → SerialWorld K = λ s space. record w { slots = put_in w.slots n s; space = space } in
    let S : SerialWorld K → Option (SerialWorld K) = λ v. Some v in
    ap (option_and_then (λ m. option_map (λ s. let r : SerialWorld K = record w { slots = put_in w.slots m (slot_pushed b s) } in r) (slot_in w.slots m))) h.pushed.arena
    ∙ (ap (option_map (λ s. put (slot_pushed b s) o.space)) (seen_at st.slots n c.slot c.there)
    ∙ (ap (λ v. S (put (world_slot c.slot.kept v) o.space)) (sym c.step.1)
    ∙ (ap (λ v. S (put (seen_slot (slot_with c.slot.kept c.next)) v)) (sym h.space)
    ∙ (ap (λ (slots : List (Option WorldSlot)). let r : SerialWorld K = record w { slots = slots; space = p.space } in S r) (sym (seen_put st.slots n (slot_with c.slot.kept c.next)))
    ∙ ap (λ (s : SerialState). S (world_at s p.space)) (sym c.left)))))

-- ---- the words

-- what was done at the words, and the address space then
words_world : {P K : Type 0} (view : P → SerialState) (kernel : Port K) (t : Tunables) (o p : Standing P K) (lending : P) (dial last : PlainDials) → IsAt view kernel t o →
    DialsOut (view o.places) dial (view lending) → view p.places ≡ record (view lending) { dials = last } → IsTrue (space_tells kernel p.space) →
    StepsTo view kernel t (record (world_in view o) { dials = last.state; space = p.space }) p
words_world view kernel t o p lending dial last at lent gave tells =
    let back : view p.places ≡ record (view o.places) { dials = last } = gave ∙ ap (λ (s : SerialState). let r : SerialState = record s { dials = last } in r) lent.left in
    record {
      at = record { tunables = ap (λ (s : SerialState). s.tunables) back ∙ at.tunables; tells = tells };
      world = ap (λ (s : SerialState). world_at s p.space) back;
    }

-- one step came to a world that is another one, too
steps_as : {P K : Type 0} {view : P → SerialState} {kernel : Port K} {t : Tunables} {w v : SerialWorld K} {p : Standing P K} → w ≡ v → StepsTo view kernel t w p → StepsTo view kernel t v p
steps_as e s = record { at = s.at; world = s.world ∙ e }

-- the words after all steps
steps_state : (ss : List DialStep) (d e : PlainDials) → AllSteps plain_dials d ss e → e.state ≡ after_steps ss d.state
steps_state [] d e h = ap (λ x. x.state) h
steps_state (s ∷ ss) d e h = steps_state ss h.next e h.rest ∙ ap (λ x. after_steps ss x.state) h.step.1

freed_state : (dynamic : Bool) (b : Block) (threshold : ℕ) (d e : PlainDials) → AllSteps plain_dials d (freeing_steps dynamic b threshold) e →
    e.state ≡ after_steps (freeing_steps dynamic b d.state.mmap_threshold) d.state
freed_state false b threshold d e h = steps_state (freeing_steps false b threshold) d e h
freed_state true b threshold d e h =
    let P : ℕ → Type 0 = λ n. e.state ≡ after_steps (freeing_steps true b n) d.state in
    subst P h.step.0 (steps_state (freeing_steps true b threshold) d e h)

-- the words after a mapping, or another length, was asked for
mapped_state : {K : Type 0} (port : Port K) (before now : Space K) (len : ℕ) (block : Option Block) (d e : PlainDials) →
    MapsChunk port plain_dials (before, d) len block (now, e) → e.state ≡ map_words len (option_map (λ b. b.addr) block) d.state
mapped_state port before now len (Some b) d e h = ap (λ (x : PlainDials). x.state) h.counted.1
mapped_state port before now len None d e h = ap (λ (x : PlainDials). x.state) h.refused

remapped_state : {K : Type 0} (port : Port K) (before now : Space K) (b : Block) (len : ℕ) (answer : Result Block Block) (d e : PlainDials) →
    ChangesLength port plain_dials (before, d) b len answer (now, e) → e.state ≡ remap_words b len (granted_start answer) d.state
remapped_state port before now b len (Ok c) d e h = ap (λ (x : PlainDials). x.state) h.counted.1
remapped_state port before now b len (Err c) d e h = ap (λ (x : PlainDials). x.state) h.refused.1

freed_world : {P K : Type 0} (view : P → SerialState) (kernel : Port K) (t : Tunables) (b : Block) (o p : Standing P K) (threshold : ℕ) → IsAt view kernel t o →
    FreeStep (serial_setting view kernel) t b o threshold p → StepsTo view kernel t (world_freed kernel t b (world_in view o)) p
freed_world {K = K} view kernel t b o p threshold at h =
    let w : DialState → Space K → SerialWorld K = λ d s. record (world_in view o) { dials = d; space = s } in
    let frees : PlainDials → DialState = λ d. after_steps (freeing_steps t.dynamic b d.state.mmap_threshold) d.state in
    steps_as
    (ap (λ d. w d p.space) (freed_state t.dynamic b h.frees.threshold h.dial h.last_dial h.frees.steps ∙ ap frees h.lent.told)
    ∙ ap (w (frees (view o.places).dials)) (h.frees.given.others ∙ ap (λ k. record o.space { kernel = k }) (h.frees.given.kernel.left at.tells)))
    (words_world view kernel t o p h.lending h.dial h.last_dial at h.lent h.gave (h.frees.given.kernel.tells at.tells))

unmapped_world : {P K : Type 0} (view : P → SerialState) (kernel : Port K) (t : Tunables) (b : Block) (o p : Standing P K) → IsAt view kernel t o →
    UnmapStep (serial_setting view kernel) b o p → StepsTo view kernel t (world_unmapped kernel b (Unmaps (mapping_bytes b) ∷ []) (world_in view o)) p
unmapped_world {K = K} view kernel t b o p at h =
    let w : DialState → Space K → SerialWorld K = λ d s. record (world_in view o) { dials = d; space = s } in
    let frees : PlainDials → DialState = λ d. after_steps (Unmaps (mapping_bytes b) ∷ []) d.state in
    steps_as
    (ap (λ (d : PlainDials). w d.state p.space) h.unmaps.counted.1 ∙ (ap (λ d. w (frees d) p.space) h.lent.told
    ∙ ap (w (frees (view o.places).dials)) (h.unmaps.given.others ∙ ap (λ k. record o.space { kernel = k }) (h.unmaps.given.kernel.left at.tells))))
    (words_world view kernel t o p h.lending h.dial h.last_dial at h.lent h.gave (h.unmaps.given.kernel.tells at.tells))

mapped_world : {P K : Type 0} (view : P → SerialState) (kernel : Port K) (t : Tunables) (len : ℕ) (o p : Standing P K) (start : Option ℕ) → IsAt view kernel t o →
    MapStep (serial_setting view kernel) len o start p → StepsTo view kernel t (world_mapped kernel len (world_in view o)) p
mapped_world {K = K} view kernel t len o p start at h =
    let w : DialState → Space K → SerialWorld K = λ d s. record (world_in view o) { dials = d; space = s } in
    let place : option_map (λ b. b.addr) h.block ≡ space_place kernel o.space len = h.maps.asked.answered at.tells in
    steps_as
    (ap (λ d. w d p.space) (mapped_state kernel o.space p.space len h.block h.dial h.last_dial h.maps ∙ (ap (λ a. map_words len a h.dial.state) place ∙ ap (λ (d : PlainDials). map_words len (space_place kernel o.space len) d.state) h.lent.told))
    ∙ ap (w (map_words len (space_place kernel o.space len) (view o.places).dials.state)) (h.maps.asked.left at.tells))
    (words_world view kernel t o p h.lending h.dial h.last_dial at h.lent h.gave (h.maps.asked.tells at.tells))

remapped_world : {P K : Type 0} (view : P → SerialState) (kernel : Port K) (t : Tunables) (b : Block) (len : ℕ) (o p : Standing P K) (start : Option ℕ) → IsAt view kernel t o →
    RemapStep (serial_setting view kernel) b len o start p → StepsTo view kernel t (world_remapped kernel b len (world_in view o)) p
remapped_world {K = K} view kernel t b len o p start at h =
    let w : DialState → Space K → SerialWorld K = λ d s. record (world_in view o) { dials = d; space = s } in
    let place : Option ℕ = remap_start kernel b len (world_in view o) in
    let told : granted_start h.answer ≡ place = h.changes.asked.answered at.tells in
    steps_as
    (ap (λ d. w d p.space) (remapped_state kernel o.space p.space b len h.answer h.dial h.last_dial h.changes ∙ (ap (λ a. remap_words b len a h.dial.state) told ∙ ap (λ (d : PlainDials). remap_words b len place d.state) h.lent.told))
    ∙ ap (w (remap_words b len place (view o.places).dials.state)) (h.changes.asked.left at.tells))
    (words_world view kernel t o p h.lending h.dial h.last_dial at h.lent h.gave (h.changes.asked.tells at.tells))

-- ---- trays

posted_world : {P K : Type 0} (view : P → SerialState) (kernel : Port K) (t : Tunables) (tray : ℕ) (b : Block) (o p : Standing P K) (full : Option ℕ) → IsAt view kernel t o →
    PostStep (serial_setting view kernel) tray b o full p → StepsTo view kernel t (record (world_in view o) { trays = trays_posted tray b (view o.places).trays }) p
posted_world view kernel t tray b o p full at h = record {
  at = record { tunables = ap (λ (s : SerialState). s.tunables) h.posted.left ∙ at.tunables; tells = still_tells kernel o.space p.space h.space at.tells };
  world = ap (λ (s : SerialState). world_at s p.space) h.posted.left ∙ ap (λ s. record (world_at (view o.places) s) { trays = trays_posted tray b (view o.places).trays }) h.space;
}

taken_world : {P K : Type 0} (view : P → SerialState) (kernel : Port K) (t : Tunables) (tray : ℕ) (o p : Standing P K) (found : Result Block ℕ) → IsAt view kernel t o →
    TakeStep (serial_setting view kernel) tray o found p → StepsTo view kernel t (record (world_in view o) { trays = trays_taken tray (view o.places).trays }) p
taken_world view kernel t tray o p found at h = record {
  at = record { tunables = ap (λ (s : SerialState). s.tunables) h.took.left ∙ at.tunables; tells = still_tells kernel o.space p.space h.space at.tells };
  world = ap (λ (s : SerialState). world_at s p.space) h.took.left ∙ ap (λ s. record (world_at (view o.places) s) { trays = trays_taken tray (view o.places).trays }) h.space;
}

-- ---- a call

-- behind a step, from the world that it came to
plays_behind : {P K A : Type 0} {view : P → SerialState} {kernel : Port K} {t : Tunables} {who : Who} {c d : Call A} {w v : SerialWorld K} {x : A} {z : Standing P K} (p : Standing P K) →
    world_in view p ≡ v → played_call kernel t who c w ≡ played_call kernel t who d v → PlaysTo view kernel t who d (world_in view p) x z → PlaysTo view kernel t who c w x z
plays_behind {kernel = kernel} {t = t} {who = who} {d = d} p e step r = record { at = r.at; played = step ∙ (ap (played_call kernel t who d) (sym e) ∙ r.played) }

pub plays_call : {P K A : Type 0} (view : P → SerialState) (kernel : Port K) {t : Tunables} {who : Who} {c q : Call A} {o z : Standing P K} {said : List Told}
    (x : A) → q ≡ Done x → IsAt view kernel t o → going.Goes (serial_setting view kernel) t who c o said q z → PlaysTo view kernel t who c (world_in view o) x z
plays_call view kernel x e at going.here = record { at = at; played = rw e refl }
plays_call view kernel {t = t} {o = o} x e at (going.idled {p = p} i a) =
    let s = idle_world view kernel t o p at i in
    plays_behind p s.world refl (plays_call view kernel x e s.at a)
plays_call {K = K} view kernel {t = t} {who = who} x e at (going.held {next = next} {p = p} h a) =
    plays_behind p refl (ap (option_and_then (λ r. played_call kernel t who (next r.0.place r.0.ended r.0.cache) r.1)) (hold_plays view kernel at h)) (plays_call view kernel x e (hold_world_of view kernel at h) a)
plays_call view kernel {t = t} {who = who} {o = o} x e at (going.held_free {start = start} {a = n} {act = act} {cache = cache} {next = next} {p = p} f h a) =
    plays_behind p refl
    (ap (λ m. option_and_then (λ r. played_call kernel t who (next m r.0.place r.0.ended r.0.cache) r.1) (hold_played kernel t who m act cache (world_in view o))) (sym f)
    ∙ ap (option_and_then (λ r. played_call kernel t who (next n r.0.place r.0.ended r.0.cache) r.1)) (hold_plays view kernel at h))
    (plays_call view kernel x e (hold_world_of view kernel at h) a)
plays_call view kernel {t = t} {who = who} x e at (going.opened {next = next} {p = p} h a) =
    plays_behind p refl (ap (option_and_then (λ r. played_call kernel t who (next r.0) r.1)) (open_plays view kernel at h)) (plays_call view kernel x e (open_at view kernel at h) a)
plays_call view kernel {t = t} {who = who} x e at (going.refused {next = next} {p = p} h a) =
    plays_behind p refl (ap (option_and_then (λ r. played_call kernel t who (next r.0) r.1)) (refused_plays view kernel who at h)) (plays_call view kernel x e (refused_at view kernel at h) a)
plays_call {K = K} view kernel {t = t} {who = who} {o = o} x e at (going.booked {change = change} {next = next} {p = p} {book = book} h a) =
    let s = booked_world view kernel t change o p book at h in
    let w : SerialWorld K = record (world_in view o) { book = book_after t change (view o.places).book } in
    plays_behind p s.world (ap (λ b. played_call kernel t who (next b) w) (sym h.booked.was)) (plays_call view kernel x e s.at a)
plays_call view kernel {t = t} {who = who} {o = o} x e at (going.mapped {len = len} {next = next} {p = p} {start = start} h a) =
    let s = mapped_world view kernel t len o p start at h in
    plays_behind p s.world (ap (λ v. played_call kernel t who (next v) (world_mapped kernel len (world_in view o))) (sym (h.maps.asked.answered at.tells) ∙ h.told)) (plays_call view kernel x e s.at a)
plays_call view kernel {t = t} {who = who} {o = o} x e at (going.pushed {b = b} {c = c} {p = p} h a) =
    plays_behind p refl (ap (option_and_then (λ v. played_call kernel t who c v)) (push_plays view kernel t b o p at h)) (plays_call view kernel x e (push_at view kernel t b o p at h) a)
plays_call view kernel {t = t} {o = o} x e at (going.freed {b = b} {p = p} {threshold = threshold} h a) =
    let s = freed_world view kernel t b o p threshold at h in
    plays_behind p s.world refl (plays_call view kernel x e s.at a)
plays_call view kernel {t = t} {o = o} x e at (going.unmapped {b = b} {p = p} h a) =
    let s = unmapped_world view kernel t b o p at h in
    plays_behind p s.world refl (plays_call view kernel x e s.at a)
plays_call view kernel {t = t} {who = who} {o = o} x e at (going.remapped {b = b} {len = len} {next = next} {p = p} {start = start} h a) =
    let s = remapped_world view kernel t b len o p start at h in
    plays_behind p s.world (ap (λ v. played_call kernel t who (next v) (world_remapped kernel b len (world_in view o))) (sym (h.changes.asked.answered at.tells) ∙ h.told)) (plays_call view kernel x e s.at a)
plays_call {K = K} view kernel {t = t} {who = who} {o = o} x e at (going.posted {tray = tray} {b = b} {next = next} {p = p} {full = full} h a) =
    let s = posted_world view kernel t tray b o p full at h in
    let w : SerialWorld K = record (world_in view o) { trays = trays_posted tray b (view o.places).trays } in
    plays_behind p s.world (ap (λ v. played_call kernel t who (next v) w) (sym h.posted.told)) (plays_call view kernel x e s.at a)
plays_call {K = K} view kernel {t = t} {who = who} {o = o} x e at (going.taken {tray = tray} {next = next} {p = p} {found = found} h a) =
    let s = taken_world view kernel t tray o p found at h in
    let w : SerialWorld K = record (world_in view o) { trays = trays_taken tray (view o.places).trays } in
    plays_behind p s.world (ap (λ v. played_call kernel t who (next v) w) (sym h.took.told)) (plays_call view kernel x e s.at a)
