-- A mapped chunk is freed, its mapping goes back, or gets another length: what the words count, and what is given up and got.
use Rattle.std.proofs.Common.{◌≡◌, ◌≢◌, ℕ, ◌+◌, ◌-◌, ◌^◌, ◌<◌, ◌≤◌, Bool, true, false, ◌&&◌, cond, List, [], ◌∷◌, Option, Some, None, Result, Ok, Err, refl, sym, ap, ◌∙◌, subst, arith}
use Rattle.std.proofs.Math.Bool.{and-false}
use Rattle.std.specs.Prelude.{nat_eq, nat_le, nat_lt, is_some, IfOk, IfErr, IsErr}
use Rattle.std.proofs.lemmas.Bool.{lt-ltb, ltb-false}
use Rattle.std.proofs.lemmas.Bool.Decides.{nat_tests}
use Rattle.chunk_tags.specs.BinOrder.{same_chunk}
use Rattle.chunk_tags.specs.Dials.{MmapThreshold}
use Rattle.chunk_tags.specs.declared.block.Block.{Block}
use Rattle.chunk_tags.specs.declared.tiles.Chunk.{Chunk}
use Rattle.chunk_tags.specs.declared.tunables.Tunables.{Tunables}
use Rattle.address_space.specs.declared.space.Space.{Space}
use Rattle.address_space.specs.Ports.{Port}
use Rattle.address_space.specs.Spaces.{map_length, map_start, map_place, remap_passes, LengthChange, RemapsWithin, IsNextPlace, IsKeptPlace, used_up, place_answer, map_passes}
use Rattle.fast_bins.specs.FastPorts.{Fast}
use Rattle.arena_rules.specs.MainPlaces.{covers}
use Rattle.arena_rules.proofs.Covered.{covers_adds}
use Rattle.mapped_chunks.specs.DialPorts.{DialStep, Reads, Raises, Unmaps, Remaps, Dialled}
use Rattle.mapped_chunks.specs.Mappings.{IsMapped, FreesChunk, UnmapsChunk, RemapsChunk, ChangesLength, AllSteps, freeing_steps, is_raise, mapping_start, mapping_bytes, mapping_change, remap_length, chunk_with_lead, granted_start}
use Rattle.arena_holds.specs.Holding.{FreesMapped, UnmapsMapped, RemapsMapped, block_answered}
use Rattle.arena_holds.specs.Places.{PlaceWays, PlaceLaws, Setting, Standing, standing, Carries, IsServed, MayLengthen, both_of, as_chunk_of, as_mapped, as_mapped_bytes, as_mapped_byte, last_byte, given_byte}
use Rattle.arena_holds.specs.Returning.{AreReturn, AreReturned, IsSettled, maps_in, unmaps_in}
use Rattle.arena_core.specs.Shown.{MappedShown}

-- the steps count one mapping no more, and none besides
record CountsOne (b : Block) (steps : List DialStep) : Type 0 where
  count : (unmaps_in steps).count ≡ 1
  bytes : (unmaps_in steps).bytes ≡ mapping_bytes b
  maps : maps_in steps ≡ record { count = 0; bytes = 0 }

freeing_counts : (dynamic : Bool) (b : Block) (threshold : ℕ) → CountsOne b (freeing_steps dynamic b threshold)
freeing_counts false b threshold = record { count = refl; bytes = omega arith; maps = refl }
freeing_counts true b threshold =
    let cases : (raised : Bool) → CountsOne b (Reads MmapThreshold threshold ∷ (cond raised (Raises b.size ∷ Unmaps (mapping_bytes b) ∷ []) (Unmaps (mapping_bytes b) ∷ []))) = elim [
      | true ↦ record { count = refl; bytes = omega arith; maps = refl }
      | false ↦ record { count = refl; bytes = omega arith; maps = refl }
    ] in
    cases (is_raise threshold b.size)

pub unmapped_chunk : (n : ℕ) (e : Chunk) (b : Block) → b.arena ≡ None → as_chunk_of n e b ≡ 0
unmapped_chunk n e b none =
    ap {B = ℕ} (λ (o : Option ℕ). cond (same_chunk e (record { at = b.addr; size = b.size }) && (elim o [ None ↦ false | Some x ↦ nat_eq x n ])) 1 0) none
    ∙ ap {B = ℕ} (λ (v : Bool). cond v 1 0) (and-false (same_chunk e (record { at = b.addr; size = b.size })))

-- how often, and with how many bytes, a mapped chunk is counted
pub counted_once : (b : Block) → b.arena ≡ None → as_mapped b ≡ 1
counted_once b none = ap (λ (o : Option ℕ). cond (is_some o) 0 1) none

pub counted_bytes : (b : Block) → b.arena ≡ None → as_mapped_bytes b ≡ mapping_bytes b
counted_bytes b none = ap (λ (o : Option ℕ). cond (is_some o) 0 (mapping_bytes b)) none

settled_freed : (exact : Bool) (b : Block) (steps : List DialStep) → b.arena ≡ None → CountsOne b steps → IsSettled exact (λ weigh. weigh b) (λ weigh. 0) steps
settled_freed exact b steps none c =
    let one : as_mapped b ≡ 1 = counted_once b none in
    let all : as_mapped_bytes b ≡ mapping_bytes b = counted_bytes b none in
    record {
      chunks = λ n e. sym (unmapped_chunk n e b none);
      count = omega (arith, one, c.count, ap (λ (x : MappedShown). x.count) c.maps);
      bytes = omega (arith, all, c.bytes, ap (λ (x : MappedShown). x.bytes) c.maps);
      had = omega (arith, one, c.count);
      had_bytes = omega (arith, all, c.bytes);
    }

-- what is kept where the mapping went back
carries_freed : {P H D K : Type 0} (s : Setting P H D K) (b : Block) (o : Standing P K) (r : P) (first : D) (later : Space K) (steps : List DialStep) → IsMapped b → CountsOne b steps →
    later ≡ record o.space { kernel = later.kernel } → AreReturned s.ways s.dials o.places first steps r → Carries s.ways true (λ weigh. weigh b) o (λ weigh. 0) (standing r later)
carries_freed {K = K} s b o r first later steps mapped c others_same back =
    let same : later.mapped ≡ o.space.mapped = ap (λ (x : Space K). x.mapped) others_same in
    record {
      serves = λ exact known others h. back.serves exact (λ weigh. weigh b) (λ weigh. 0) others (settled_freed exact b steps mapped.arena c) h;
      notes = λ others n.
          back.notes o.space.mapped later.mapped others (omega (arith, same, ap (λ (x : MappedShown). x.count) c.maps)) (omega (arith, same, ap (λ (x : MappedShown). x.bytes) c.maps)) n;
      mapped = λ n. omega (arith, ap (λ (x : Space K). given_byte n x) others_same);
      tunables = back.tunables;
      windows = ap (λ (x : Space K). x.windows) others_same;
      whole = back.whole;
      writes = back.writes;
    }

pub frees_mapped : {P H D K : Type 0} (s : Setting P H D K) {t : Tunables} (b : Block) (o : Standing P K) (q r : P) (first d : D) (later : Space K) → IsMapped b →
    s.ways.dials_lent o.places first q → FreesChunk s.means.kernel s.dials (o.space, first) t.dynamic b (later, d) → s.ways.dials_gave q d r →
    ((steps : List DialStep) → AllSteps s.dials first steps d → AreReturned s.ways s.dials o.places first steps r) → FreesMapped s t b o (standing r later)
frees_mapped s {t = t} b o q r first d later mapped lent frees gave returned =
    let steps : List DialStep = freeing_steps t.dynamic b frees.threshold in
    record {
      threshold = frees.threshold;
      step = record { lending = q; dial = first; last_dial = d; lent = lent; frees = frees; read = refl; gave = gave };
      carries = carries_freed s b o r first later steps mapped (freeing_counts t.dynamic b frees.threshold) frees.given.others (returned steps frees.steps);
    }

pub unmaps_mapped : {P H D K : Type 0} (s : Setting P H D K) (b : Block) (o : Standing P K) (q r : P) (first d : D) (later : Space K) → IsMapped b →
    s.ways.dials_lent o.places first q → UnmapsChunk s.means.kernel s.dials (o.space, first) b (later, d) → s.ways.dials_gave q d r →
    ((steps : List DialStep) → AllSteps s.dials first steps d → AreReturned s.ways s.dials o.places first steps r) → UnmapsMapped s b o (standing r later)
unmaps_mapped s b o q r first d later mapped lent unmaps gave returned =
    let steps : List DialStep = Unmaps (mapping_bytes b) ∷ [] in
    let c : CountsOne b steps = record { count = refl; bytes = omega arith; maps = refl } in
    record {
      step = record { lending = q; dial = first; last_dial = d; lent = lent; unmaps = unmaps; gave = gave };
      carries = carries_freed s b o r first later steps mapped c unmaps.given.others (returned steps (record { next = d; step = unmaps.counted; rest = refl }));
    }

-- ---- another length

-- thread and windows stay, and where nothing is granted no place is used up
pub record IsFrame {K : Type 0} (before : Space K) (place : Option ℕ) (now : Space K) : Type 0 where
  pub thread : now.thread ≡ before.thread
  pub windows : now.windows ≡ before.windows
  pub refused : place ≡ None → now.mapped ≡ before.mapped

pub frame_used : {K : Type 0} (s : Space K) (len : ℕ) (grows : Bool) (place : Option ℕ) → IsFrame s place (cond grows (used_up (place_answer place) len s) s)
frame_used s len true None = record { thread = refl; windows = refl; refused = λ e. refl }
frame_used s len true (Some at) = record { thread = refl; windows = refl; refused = λ e. absurd cc }
frame_used s len false place = record { thread = refl; windows = refl; refused = λ e. refl }

frame_remapped : {K : Type 0} (port : Port K) (before : Space K) (change : LengthChange) (place : Option ℕ) (now : Space K) → RemapsWithin port before change place now → IsFrame before place now
frame_remapped {K = K} port before change place now h =
    let cases : (passes : Bool) → remap_passes before change ≡ passes → IsFrame before place now = elim [
      | true ↦ λ e.
          let is = (h.passed e).1 in
          record { thread = ap (λ (s : Space K). s.thread) is; windows = ap (λ (s : Space K). s.windows) is; refused = λ none. ap (λ (s : Space K). s.mapped) is }
      | false ↦ λ e.
          let is = (h.put e).1 in
          let f : IsFrame before place (cond change.grows (used_up (place_answer place) change.new_len (record before { kernel = now.kernel })) (record before { kernel = now.kernel })) =
          let u = frame_used (record before { kernel = now.kernel }) change.new_len change.grows place in record { thread = u.thread; windows = u.windows; refused = u.refused } in
          record {
            thread = ap (λ (s : Space K). s.thread) is ∙ f.thread;
            windows = ap (λ (s : Space K). s.windows) is ∙ f.windows;
            refused = λ none. ap (λ (s : Space K). s.mapped) is ∙ f.refused none;
          }
    ] in
    cases (remap_passes before change) refl

-- the bytes of a mapped chunk's mapping
chunk_covers : (n addr lead size : ℕ) → lead ≤ addr → 0 < size → cond (nat_le (addr - lead) n && nat_le n (addr + (size - 1))) 1 0 ≡ covers n (addr - lead) (lead + size)
chunk_covers n addr lead size le some = grind (arith, nat_tests)

mapped_covers : (n : ℕ) (b : Block) → IsMapped b → as_mapped_byte n b ≡ covers n (mapping_start b) (mapping_bytes b)
mapped_covers n b m =
    ap {B = ℕ} (λ (x : Option ℕ). cond (is_some x) 0 (cond (nat_le (mapping_start b) n && nat_le n (last_byte b)) 1 0)) m.arena
    ∙ chunk_covers n b.addr b.lead b.size m.lead (omega (arith, m.size.0, m.size.1))

covers_more : (n at m k : ℕ) → m ≤ k → covers n at m ≤ covers n at k
covers_more n at m k le = grind (arith, nat_tests)

settled_kept : (exact : Bool) (b : Block) → IsSettled exact (λ weigh. weigh b) (λ weigh. weigh b) []
settled_kept exact b = record { chunks = λ n e. refl; count = refl; bytes = refl; had = omega arith; had_bytes = omega arith }

settled_changed : (exact : Bool) (b c : Block) (len : ℕ) → IsMapped b → IsMapped c → mapping_bytes c ≡ len →
    IsSettled exact (λ weigh. weigh b) (λ weigh. weigh c) (Remaps (mapping_bytes b) len ∷ [])
settled_changed exact b c len mb mc is = record {
  chunks = λ n e. unmapped_chunk n e c mc.arena ∙ sym (unmapped_chunk n e b mb.arena);
  count = omega (arith, counted_once b mb.arena, counted_once c mc.arena);
  bytes = omega (arith, counted_bytes b mb.arena, counted_bytes c mc.arena, is);
  had = omega arith;
  had_bytes = omega (arith, counted_bytes b mb.arena);
}

-- where it was refused
carries_refused : {P H D K : Type 0} (s : Setting P H D K) (b c : Block) (o : Standing P K) (r : P) (first d : D) (later : Space K) (change : LengthChange) → c ≡ b → d ≡ first →
    RemapsWithin s.means.kernel o.space change None later →
    ((steps : List DialStep) → AllSteps s.dials first steps d → AreReturned s.ways s.dials o.places first steps r) →
    Carries s.ways true (λ weigh. weigh b) o (λ weigh. weigh c) (standing r later)
carries_refused s b c o r first d later change same still asked returned =
    let back : AreReturned s.ways s.dials o.places first [] r = returned [] still in
    let frame : IsFrame o.space None later = frame_remapped s.means.kernel o.space change None later asked in
    let length : later.mapped ≡ o.space.mapped = frame.refused refl in
    subst (λ (x : Block). Carries s.ways true (λ weigh. weigh b) o (λ weigh. weigh x) (standing r later)) (sym same) (record {
      serves = λ exact known others h. back.serves exact (λ weigh. weigh b) (λ weigh. weigh b) others (settled_kept exact b) h;
      notes = λ others n. back.notes o.space.mapped later.mapped others (omega (arith, length)) (omega (arith, length)) n;
      mapped = λ n. omega (arith, ap (λ (x : ℕ). covers n (map_start x) later.mapped) frame.thread, ap (λ (x : ℕ). covers n (map_start o.space.thread) x) length);
      tunables = back.tunables;
      windows = frame.windows;
      whole = back.whole;
      writes = back.writes;
    })

-- a longer one lies in what the window gave
byte_grown : {K : Type 0} (before now : Space K) (b c : Block) (len n : ℕ) → IsMapped c → mapping_bytes c ≡ len → now.thread ≡ before.thread → IsNextPlace before len now (mapping_start c) →
    as_mapped_byte n c + given_byte n before ≤ as_mapped_byte n b + given_byte n now
byte_grown before now b c len n mc is thread next =
    let start : ℕ = map_start before.thread in
    let same : map_start now.thread ≡ start = ap map_start thread in
    let length : before.mapped + len ≡ now.mapped = omega (arith, next.told, next.behind, same) in
    omega (
      arith,
      mapped_covers n c mc,
      ap (λ (at : ℕ). covers n at (mapping_bytes c)) next.told,
      ap (λ (m : ℕ). covers n (map_place before) m) is,
      (covers_adds n).adds start before.mapped len,
      ap (λ (m : ℕ). covers n start m) length,
      ap (λ (at : ℕ). covers n at now.mapped) same,
    )

-- a shorter one in what was given up
byte_kept : {K : Type 0} (before now : Space K) (b c : Block) (len n : ℕ) → IsMapped b → IsMapped c → mapping_bytes c ≡ len → now.thread ≡ before.thread →
    IsKeptPlace before (mapping_change b len) now (mapping_start c) → as_mapped_byte n c + given_byte n before ≤ as_mapped_byte n b + given_byte n now
byte_kept before now b c len n mb mc is thread kept =
    let same : map_start now.thread ≡ map_start before.thread = ap map_start thread in
    let length : now.mapped ≡ before.mapped = omega (arith, kept.next, same) in
    let shorter : mapping_bytes c ≤ mapping_bytes b = omega (arith, kept.told, kept.inside, is) in
    omega (
      arith,
      mapped_covers n b mb,
      mapped_covers n c mc,
      ap (λ (at : ℕ). covers n at (mapping_bytes c)) kept.told,
      covers_more n (mapping_start b) (mapping_bytes c) (mapping_bytes b) shorter,
      ap (λ (at : ℕ). covers n at now.mapped) same,
      ap (λ (m : ℕ). covers n (map_start before.thread) m) length,
    )

-- where it was granted
carries_granted : {P H D K : Type 0} (s : Setting P H D K) (b c : Block) (len : ℕ) (o : Standing P K) (r : P) (first d : D) (later : Space K) → IsMapped b → IsMapped c →
    mapping_bytes c ≡ len → RemapsWithin s.means.kernel o.space (mapping_change b len) (Some (mapping_start c)) later →
    (remap_passes o.space (mapping_change b len) ≡ false → s.dials.allows first (Remaps (mapping_bytes b) len)) →
    AreReturned s.ways s.dials o.places first (Remaps (mapping_bytes b) len ∷ []) r → Carries s.ways true (λ weigh. weigh b) o (λ weigh. weigh c) (standing r later)
carries_granted s b c len o r first d later mb mc is asked allowed back =
    let frame : IsFrame o.space (Some (mapping_start c)) later = frame_remapped s.means.kernel o.space (mapping_change b len) (Some (mapping_start c)) later asked in
    let same : map_start later.thread ≡ map_start o.space.thread = ap map_start frame.thread in
    let cases : (grows : Bool) → nat_lt (mapping_bytes b) len ≡ grows → Carries s.ways true (λ weigh. weigh b) o (λ weigh. weigh c) (standing r later) = elim [
      | true ↦ λ e.
          let next : IsNextPlace o.space len later (mapping_start c) = asked.fresh e in
          let length : o.space.mapped + len ≡ later.mapped = omega (arith, next.told, next.behind, same) in
          record {
            serves = λ exact known others h. back.serves exact (λ weigh. weigh b) (λ weigh. weigh c) others (settled_changed exact b c len mb mc is) h;
            notes = λ others n. back.notes o.space.mapped later.mapped others (omega (arith, length)) (omega (arith, length)) n;
            mapped = λ n. byte_grown o.space later b c len n mc is frame.thread next;
            tunables = back.tunables;
            windows = frame.windows;
            whole = back.whole;
            writes = back.writes;
          }
      | false ↦ λ e.
          let kept : IsKeptPlace o.space (mapping_change b len) later (mapping_start c) = asked.kept e in
          let length : later.mapped ≡ o.space.mapped = omega (arith, kept.next, same) in
          let shorter : len ≤ mapping_bytes b = ltb-false (mapping_bytes b) len e in
          let may = allowed (ap (λ (x : Bool). x && map_passes o.space len) e) in
          record {
            serves = λ exact known others h. back.serves exact (λ weigh. weigh b) (λ weigh. weigh c) others (settled_changed exact b c len mb mc is) h;
            notes = λ others n.
                subst (λ (own : ℕ). s.ways.notes r own others) (sym length) (back.shorter (mapping_bytes b) len o.space.mapped others refl may shorter n);
            mapped = λ n. byte_kept o.space later b c len n mb mc is frame.thread kept;
            tunables = back.tunables;
            windows = frame.windows;
            whole = back.whole;
            writes = back.writes;
          }
    ] in
    cases (nat_lt (mapping_bytes b) len) refl

-- the chunk that came fills the mapping behind its lead
changed_length : (b c : Block) (len : ℕ) → IsMapped c → c ≡ chunk_with_lead len b (mapping_start c) → mapping_bytes c ≡ len
changed_length b c len mc is =
    let size : c.size ≡ len - b.lead = ap (λ (x : Block). x.size) is in
    let lead : c.lead ≡ b.lead = ap (λ (x : Block). x.lead) is in
    omega (arith, size, lead, mc.size.0, mc.size.1)

carries_remapped : {P H D K : Type 0} (s : Setting P H D K) (b : Block) (len : ℕ) (o : Standing P K) (r : P) (first d : D) (later : Space K) (asked : Result Block Block) → IsMapped b →
    ChangesLength s.means.kernel s.dials (o.space, first) b len asked (later, d) → IfOk asked IsMapped →
    (remap_passes o.space (mapping_change b len) ≡ false → s.dials.allows first (Remaps (mapping_bytes b) len)) →
    ((steps : List DialStep) → AllSteps s.dials first steps d → AreReturned s.ways s.dials o.places first steps r) →
    Carries s.ways true (λ weigh. weigh b) o (λ weigh. weigh (block_answered asked)) (standing r later)
carries_remapped s b len o r first d later (Ok c) mb h mc allowed returned =
    carries_granted s b c len o r first d later mb mc (changed_length b c len mc h.chunk) h.asked allowed
    (returned (Remaps (mapping_bytes b) len ∷ []) (record { next = d; step = h.counted; rest = refl }))
carries_remapped s b len o r first d later (Err c) mb h mc allowed returned =
    carries_refused s b c o r first d later (mapping_change b len) h.refused.0 h.refused.1 h.asked returned

handed_back : (A : Type 0) (b : Block) (asked : Result Block Block) → IfErr asked (λ c. (c ≡ b) × A) → IfErr asked (λ c. c ≡ b)
handed_back A b (Ok c) h = tt
handed_back A b (Err c) h = h.0

granted_none : (asked : Result Block Block) → IsErr asked → granted_start asked ≡ None
granted_none (Ok c) e = absurd cc
granted_none (Err c) e = refl

pub remaps_mapped : {P H D K : Type 0} (s : Setting P H D K) (b : Block) (nb : ℕ) (o : Standing P K) (q r : P) (first d : D) (later : Space K) (asked : Result Block Block) → IsMapped b →
    remap_length b nb ≢ mapping_bytes b → s.ways.dials_lent o.places first q → RemapsChunk s.means.kernel s.dials (o.space, first) b (remap_length b nb) asked (later, d) →
    IfOk asked IsMapped → IfOk asked (λ c. nb + 8 ≤ c.size) → s.ways.dials_gave q d r →
    (remap_passes o.space (mapping_change b (remap_length b nb)) ≡ false → s.dials.allows first (Remaps (mapping_bytes b) (remap_length b nb))) →
    ((steps : List DialStep) → AllSteps s.dials first steps d → AreReturned s.ways s.dials o.places first steps r) → RemapsMapped s b nb o asked (standing r later)
remaps_mapped s b nb o q r first d later asked mapped other lent remaps chunks fits gave allowed returned =
    let h : ChangesLength s.means.kernel s.dials (o.space, first) b (remap_length b nb) asked (later, d) = remaps.other other in
    record {
      step = record { lending = q; dial = first; last_dial = d; answer = asked; lent = lent; changes = h; told = refl; gave = gave };
      chunk = h.chunk;
      mapped = chunks;
      fits = fits;
      back = handed_back (d ≡ first) b asked h.refused;
      refused = λ e. h.asked.cause (granted_none asked e);
      later = h.asked.later;
      carries = carries_remapped s b (remap_length b nb) o r first d later asked mapped h chunks allowed returned;
    }

-- ---- before

-- the mapping of a block that is given out may be counted no more
pub may_unmap : {P H D K : Type 0} {ways : PlaceWays P H D} {fast : Fast H} {dials : Dialled H} {words : Dialled D} {t : Tunables} (laws : PlaceLaws ways fast dials words) (b : Block) (o : Standing P K)
    (q : P) (first : D) → IsMapped b → ways.dials_lent o.places first q → IsServed ways t (λ weigh. weigh b) o → words.allows first (Unmaps (mapping_bytes b))
may_unmap laws b o q first mapped lent s =
    laws.unmaps o.places q first b (λ _. 0) lent (laws.same false o.places (λ weigh. weigh b) (both_of (λ weigh. weigh b) (λ _. 0)) (λ w. omega arith) s.served) mapped.arena

-- and may get another length that passes no window
pub may_remap : {P H D K : Type 0} {ways : PlaceWays P H D} {fast : Fast H} {dials : Dialled H} {words : Dialled D} {t : Tunables} (laws : PlaceLaws ways fast dials words) (b : Block) (o : Standing P K)
    (q : P) (first : D) (len : ℕ) → IsMapped b → ways.dials_lent o.places first q → IsServed ways t (λ weigh. weigh b) o → map_place o.space < 2 ^ 64 →
    remap_passes o.space (mapping_change b len) ≡ false → words.allows first (Remaps (mapping_bytes b) len)
may_remap laws b o q first len mapped lent s window within =
    let may : MayLengthen b o.space.mapped len = record {
      window = omega (arith, window);
      fits = λ lt.
          let longer : nat_lt (mapping_bytes b) len ≡ true = lt-ltb (mapping_bytes b) len lt in
          ltb-false map_length (o.space.mapped + len) (sym (ap (λ (x : Bool). x && map_passes o.space len) longer) ∙ within);
    } in
    laws.remaps o.places q first b (λ _. 0) o.space.mapped s.others len lent
    (laws.same false o.places (λ weigh. weigh b) (both_of (λ weigh. weigh b) (λ _. 0)) (λ w. omega arith) s.served) mapped.arena s.notes may

-- ---- the words may be given back

pub unmapped_return : {P H D K : Type 0} (ways : PlaceWays P H D) (words : Dialled D) (port : Port K) (p q : P) (first d : D) (before now : Space K) (b : Block) →
    ways.dials_lent p first q → UnmapsChunk port words (before, first) b (now, d) → AreReturn ways words d q
unmapped_return ways words port p q first d before now b lent unmaps = record {
  places = p;
  first = first;
  steps = Unmaps (mapping_bytes b) ∷ [];
  lent = lent;
  walk = record { next = d; step = unmaps.counted; rest = refl };
}

changed_return : {P H D K : Type 0} (ways : PlaceWays P H D) (words : Dialled D) (port : Port K) (p q : P) (first d : D) (before now : Space K) (b : Block) (len : ℕ) (asked : Result Block Block) →
    ways.dials_lent p first q → ChangesLength port words (before, first) b len asked (now, d) → AreReturn ways words d q
changed_return ways words port p q first d before now b len (Ok c) lent h = record {
  places = p;
  first = first;
  steps = Remaps (mapping_bytes b) len ∷ [];
  lent = lent;
  walk = record { next = d; step = h.counted; rest = refl };
}
changed_return ways words port p q first d before now b len (Err c) lent h = record { places = p; first = first; steps = []; lent = lent; walk = h.refused.1 }

pub remapped_return : {P H D K : Type 0} (ways : PlaceWays P H D) (words : Dialled D) (port : Port K) (p q : P) (first d : D) (before now : Space K) (b : Block) (len : ℕ) (asked : Result Block Block) →
    ways.dials_lent p first q → len ≢ mapping_bytes b → RemapsChunk port words (before, first) b len asked (now, d) → AreReturn ways words d q
remapped_return ways words port p q first d before now b len asked lent other remaps = changed_return ways words port p q first d before now b len asked lent (remaps.other other)
