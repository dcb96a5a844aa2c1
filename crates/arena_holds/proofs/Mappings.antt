-- A mapping is asked for where there is no arena: what the words count, and the block that is got.
use Rattle.std.proofs.Common.{◌≡◌, ℕ, ◌+◌, ◌-◌, ◌≤◌, Bool, true, false, List, [], ◌∷◌, Option, Some, None, refl, sym, ap, ◌∙◌, subst, arith}
use Rattle.chunk_tags.specs.Pages.{mapping_length}
use Rattle.chunk_tags.specs.declared.block.Block.{Block}
use Rattle.chunk_tags.specs.declared.tunables.Tunables.{Tunables}
use Rattle.address_space.specs.declared.space.Space.{Space}
use Rattle.address_space.specs.Ports.{Port}
use Rattle.address_space.specs.Spaces.{map_start, map_passes, MapsWithin, IsNextPlace}
use Rattle.mapped_chunks.specs.DialPorts.{DialStep, Maps, Dialled}
use Rattle.mapped_chunks.specs.Mappings.{MapsChunk, AllSteps, mapping_bytes}
use Rattle.thread_cache.specs.Caches.{CacheValue}
use Rattle.arena_rules.specs.MainPlaces.{covers}
use Rattle.arena_rules.specs.Align.{aligned_block, size_with_lead}
use Rattle.arena_rules.proofs.Covered.{covers_adds}
use Rattle.arena_growth.specs.Steps.{IsEnough}
use Rattle.arena_growth.specs.Asking.{IsEnoughMapped}
use Rattle.arena_core.specs.Arenas.{need_of}
use Rattle.arena_core.specs.Replay.{chunk_at}
use Rattle.arena_core.specs.declared.journal.Act.{Act}
use Rattle.arena_core.specs.declared.journal.Act.TheVariants as acts
use Rattle.arena_core.specs.declared.journal.Who.{Who}
use Rattle.realloc_align.specs.Aligns.{FitsMapping}
use Rattle.realloc_align.proofs.Tails.{mapped_fits}
use Rattle.arena_holds.specs.Calls.{Done}
use Rattle.arena_holds.specs.Going as going
use Rattle.arena_holds.specs.Going.{Goes, Mapped, here}
use Rattle.arena_holds.specs.Holding.{Finds, FillsMapping}
use Rattle.arena_holds.specs.Places.{PlaceWays, Setting, Standing, standing, Carries, both_of, weight_of, in_cache}
use Rattle.arena_holds.specs.Returning.{AreReturn, AreReturned, IsSettled}
use Rattle.arena_holds.specs.Searching.{IsSearch, IsAligned, size_searched, size_wanted, mapped_for, search_mapping, search_end}
use Rattle.arena_holds.proofs.Carrying.{SameLaw, carries_as, carries_beside}
use Rattle.arena_holds.proofs.Founds.{Fills, block_byte, filled_mapping}
use Rattle.arena_holds.proofs.Unmapped.{IsFrame, frame_used, unmapped_chunk, counted_once, counted_bytes}

-- ---- the block

-- an aligned block fits into its mapping
pub fits_mapping : (align nb : ℕ) (b : Block) → IsSearch (acts.Align align nb) → FillsMapping (acts.Align align nb) b → FitsMapping align nb (chunk_at b.addr b.size)
fits_mapping align nb b is fills =
    let size : b.size ≡ mapping_length (size_with_lead align nb) = ap (λ (x : Block). x.size) fills.chunk in
    let whole : IsEnoughMapped (size_with_lead align nb) (chunk_at b.addr b.size) = record {
      enough = record { chunk = (omega (arith, size), omega (arith, size)); room = omega (arith, size) };
      page = fills.page;
      end = omega (arith, fills.limit);
    } in
    mapped_fits align nb (chunk_at b.addr b.size) is.1.0 is.0.chunk.1 whole

pub fills_new : {P K : Type 0} {port : Port K} {dials : Dialled P} {before now : Space K × P} (act : Act) (b : Block) → MapsChunk port dials before (mapping_length (size_searched act)) (Some b) now → FillsMapping act b
fills_new act b maps = record { chunk = maps.chunk; page = maps.asked.fresh.page; limit = omega (arith, maps.asked.fresh.limit, ap (λ (x : Block). x.size) maps.chunk) }

-- what an act takes in a mapping of its own
record IsTakenOf (act : Act) (b c : Block) : Type 0 where
  fills : Fills (chunk_at b.addr b.size) c
  enough : IsEnough (size_wanted act + 8) c.size
  aligned : IsAligned act c

some_is : (b c : Block) → Some b ≡ Some c → b ≡ c
some_is b c e = cc

taken_of_mapping : (act : Act) (b c : Block) → IsSearch act → FillsMapping act b → Some c ≡ mapped_for act (Some b.addr) → IsTakenOf act b c
taken_of_mapping (acts.Take nb) b c is fills e =
    let size : b.size ≡ mapping_length nb = ap (λ (x : Block). x.size) fills.chunk in
    let same : c ≡ record { addr = b.addr; size = mapping_length nb; lead = 0; arena = None } = some_is c _ e in
    rw same (record {
      fills = record { arena = refl; start = omega arith; length = omega (arith, size); chunk = (omega arith, omega arith) };
      enough = record { chunk = (omega arith, omega arith); room = omega arith };
      aligned = tt;
    })
taken_of_mapping (acts.Align align nb) b c is fills e =
    let size : b.size ≡ mapping_length (size_with_lead align nb) = ap (λ (x : Block). x.size) fills.chunk in
    let d : Block = aligned_block align (chunk_at b.addr b.size) in
    let fit : FitsMapping align nb (chunk_at b.addr b.size) = fits_mapping align nb b is fills in
    let lead : mapping_length (size_with_lead align nb) - d.size ≡ d.lead = omega (arith, size, fit.block.enough.chunk.0) in
    let len : mapping_length (size_with_lead align nb) ≡ b.size = sym size in
    let same : c ≡ d = some_is c d (e ∙ rw len (ap {B = Option Block} (λ (x : ℕ). Some (record d { lead = x })) (omega (arith, fit.block.enough.chunk.0)))) in
    rw same (record {
      fills = record { arena = refl; start = refl; length = omega (arith, fit.block.enough.chunk.0); chunk = fit.block.enough.chunk };
      enough = fit.block.enough;
      aligned = fit.block.aligned;
    })
taken_of_mapping (acts.Open bytes) b c is fills e = absurd is
taken_of_mapping (acts.Give at size) b c is fills e = absurd is
taken_of_mapping (acts.Resize at size nb) b c is fills e = absurd is

mapped_need : (act : Act) (c : Block) → c.arena ≡ None → size_wanted act + 8 ≤ c.size → need_of c.arena (size_wanted act) ≤ c.size
mapped_need act c none le = rw none le

-- ---- the words

frame_mapped : {K : Type 0} (port : Port K) (before : Space K) (len : ℕ) (place : Option ℕ) (now : Space K) → MapsWithin port before len place now → IsFrame before place now
frame_mapped {K = K} port before len place now h =
    let cases : (passes : Bool) → map_passes before len ≡ passes → IsFrame before place now = elim [
      | true ↦ λ e.
          let is = (h.passed e).1 in
          record { thread = ap (λ (s : Space K). s.thread) is; windows = ap (λ (s : Space K). s.windows) is; refused = λ none. ap (λ (s : Space K). s.mapped) is }
      | false ↦ λ e.
          let is = (h.put e).1 in
          let u = frame_used (record before { kernel = now.kernel }) len true place in
          record {
            thread = ap (λ (s : Space K). s.thread) is ∙ u.thread;
            windows = ap (λ (s : Space K). s.windows) is ∙ u.windows;
            refused = λ none. ap (λ (s : Space K). s.mapped) is ∙ u.refused none;
          }
    ] in
    cases (map_passes before len) refl

settled_mapped : (exact : Bool) (c : Block) (len : ℕ) → c.arena ≡ None → mapping_bytes c ≡ len → IsSettled exact (λ _. 0) (weight_of (Some c)) (Maps len ∷ [])
settled_mapped exact c len none is = record {
  chunks = λ n e. unmapped_chunk n e c none;
  count = omega (arith, counted_once c none);
  bytes = omega (arith, counted_bytes c none, is);
  had = omega arith;
  had_bytes = omega arith;
}

-- where it was granted
carries_mapped : {P H D K : Type 0} (s : Setting P H D K) (act : Act) (b c : Block) (o : Standing P K) (r : P) (first d : D) (later : Space K) → FillsMapping act b → IsTakenOf act b c →
    MapsChunk s.means.kernel s.dials (o.space, first) (mapping_length (size_searched act)) (Some b) (later, d) →
    AreReturned s.ways s.dials o.places first (Maps (mapping_length (size_searched act)) ∷ []) r → Carries s.ways true (λ _. 0) o (weight_of (Some c)) (standing r later)
carries_mapped s act b c o r first d later fills taken maps back =
    let len : ℕ = mapping_length (size_searched act) in
    let size : b.size ≡ len = ap (λ (x : Block). x.size) fills.chunk in
    let frame : IsFrame o.space (Some b.addr) later = frame_mapped s.means.kernel o.space len (Some b.addr) later maps.asked in
    let next : IsNextPlace o.space len later b.addr = maps.asked.fresh in
    let start : ℕ = map_start o.space.thread in
    let same : map_start later.thread ≡ start = ap map_start frame.thread in
    let length : o.space.mapped + len ≡ later.mapped = omega (arith, next.told, next.behind, same) in
    record {
      serves = λ exact known others h. back.serves exact (λ _. 0) (weight_of (Some c)) others (settled_mapped exact c len taken.fills.arena (omega (arith, taken.fills.length, size))) h;
      notes = λ others n. back.notes o.space.mapped later.mapped others (omega (arith, length, size, taken.enough.chunk.0, taken.fills.length)) (omega (arith, length)) n;
      mapped = λ n. omega (
        arith,
        block_byte n (chunk_at b.addr b.size) c taken.fills,
        ap (λ (m : ℕ). covers n b.addr m) size,
        ap (λ (at : ℕ). covers n at len) next.told,
        (covers_adds n).adds start o.space.mapped len,
        ap (λ (m : ℕ). covers n start m) length,
        ap (λ (at : ℕ). covers n at later.mapped) same,
      );
      tunables = back.tunables;
      windows = frame.windows;
      whole = back.whole;
      writes = back.writes;
    }

-- where it was refused
carries_unmapped : {P H D K : Type 0} (s : Setting P H D K) (len : ℕ) (o : Standing P K) (r : P) (first : D) (later : Space K) → MapsWithin s.means.kernel o.space len None later →
    AreReturned s.ways s.dials o.places first [] r → Carries s.ways true (λ _. 0) o (weight_of None) (standing r later)
carries_unmapped s len o r first later asked back =
    let frame : IsFrame o.space None later = frame_mapped s.means.kernel o.space len None later asked in
    let length : later.mapped ≡ o.space.mapped = frame.refused refl in
    record {
      serves = λ exact known others h.
          back.serves exact (λ _. 0) (weight_of None) others (record { chunks = λ n e. refl; count = refl; bytes = refl; had = omega arith; had_bytes = omega arith }) h;
      notes = λ others n. back.notes o.space.mapped later.mapped others (omega (arith, length)) (omega (arith, length)) n;
      mapped = λ n. omega (arith, ap (λ (x : ℕ). covers n (map_start x) later.mapped) frame.thread, ap (λ (x : ℕ). covers n (map_start o.space.thread) x) length);
      tunables = back.tunables;
      windows = frame.windows;
      whole = back.whole;
      writes = back.writes;
    }

-- the words may be given back
pub mapped_return : {P H D K : Type 0} (ways : PlaceWays P H D) (words : Dialled D) (port : Port K) (p q : P) (first d : D) (before now : Space K) (len : ℕ) (block : Option Block) →
    ways.dials_lent p first q → MapsChunk port words (before, first) len block (now, d) → AreReturn ways words d q
mapped_return ways words port p q first d before now len (Some b) lent maps = record {
  places = p;
  first = first;
  steps = Maps len ∷ [];
  lent = lent;
  walk = record { next = d; step = maps.counted; rest = refl };
}
mapped_return ways words port p q first d before now len None lent maps = record { places = p; first = first; steps = []; lent = lent; walk = maps.refused }

-- ---- as a step of a call

-- with a cache beside
beside_cache : {P H D K : Type 0} {ways : PlaceWays P H D} {o z : Standing P K} → SameLaw ways → (cache : CacheValue) (block : Option Block) → Carries ways true (λ _. 0) o (weight_of block) z →
    Carries ways true (in_cache cache) o (both_of (weight_of block) (in_cache cache)) z
beside_cache same cache block c = carries_as same (in_cache cache) (both_of (weight_of block) (in_cache cache)) (λ w. omega arith) (λ w. refl) (carries_beside same (in_cache cache) c)

pub finds_mapped : {P H D K : Type 0} (s : Setting P H D K) (t : Tunables) (who : Who) (cache : CacheValue) (act : Act) (b c : Block) (o : Standing P K) (q r : P) (first d : D) (later : Space K) → SameLaw s.ways → IsSearch act →
    s.ways.dials_lent o.places first q → MapsChunk s.means.kernel s.dials (o.space, first) (mapping_length (size_searched act)) (Some b) (later, d) → FillsMapping act b → Some c ≡ mapped_for act (Some b.addr) →
    s.ways.dials_gave q d r → ((steps : List DialStep) → AllSteps s.dials first steps d → AreReturned s.ways s.dials o.places first steps r) →
    Finds s t who (search_mapping act cache) act cache o 0 (Some c) cache (standing r later)
finds_mapped s t who cache act b c o q r first d later same search lent maps fills is gave returned =
    let len : ℕ = mapping_length (size_searched act) in
    let taken : IsTakenOf act b c = taken_of_mapping act b c search fills is in
    let size : b.size ≡ len = ap (λ (x : Block). x.size) fills.chunk in
    let back : AreReturned s.ways s.dials o.places first (Maps len ∷ []) r = returned (Maps len ∷ []) (record { next = d; step = maps.counted; rest = refl }) in
    record {
      does = record {
        told = Mapped len (Some b.addr) ∷ [];
        goes = subst (λ (x : Option Block). Goes s t who (search_mapping act cache) o (Mapped len (Some b.addr) ∷ []) (Done (search_end 0 x cache)) (standing r later)) (sym is)
            (going.mapped {next = λ start. Done (search_end 0 (mapped_for act start) cache)} {p = standing r later} (record { lending = q; dial = first; last_dial = d; block = Some b; lent = lent; maps = maps; told = refl; gave = gave }) here);
      };
      gets = record {
        held = filled_mapping (size_searched act) (chunk_at b.addr b.size) c fills.page size fills.limit taken.fills;
        fits = mapped_need act c taken.fills.arena taken.enough.room;
        aligned = taken.aligned;
        later = maps.asked.later;
        opens = refl;
        carries = beside_cache same cache (Some c) (carries_mapped s act b c o r first d later fills taken maps back);
      };
      refused = λ e. absurd cc;
    }

pub finds_unmapped : {P H D K : Type 0} (s : Setting P H D K) (t : Tunables) (who : Who) (cache : CacheValue) (act : Act) (o : Standing P K) (q r : P) (first d : D) (later : Space K) → SameLaw s.ways →
    s.ways.dials_lent o.places first q → MapsChunk s.means.kernel s.dials (o.space, first) (mapping_length (size_searched act)) None (later, d) → s.ways.dials_gave q d r →
    ((steps : List DialStep) → AllSteps s.dials first steps d → AreReturned s.ways s.dials o.places first steps r) →
    Finds s t who (search_mapping act cache) act cache o 0 None cache (standing r later)
finds_unmapped s t who cache act o q r first d later same lent maps gave returned = record {
  does = record {
    told = Mapped (mapping_length (size_searched act)) None ∷ [];
    goes = going.mapped {next = λ start. Done (search_end 0 (mapped_for act start) cache)} {p = standing r later} (record { lending = q; dial = first; last_dial = d; block = None; lent = lent; maps = maps; told = refl; gave = gave }) here;
  };
  gets = record {
    held = tt;
    fits = tt;
    aligned = tt;
    later = maps.asked.later;
    opens = refl;
    carries = beside_cache same cache None (carries_unmapped s (mapping_length (size_searched act)) o r first later maps.asked (returned [] maps.refused));
  };
  refused = λ e. maps.asked.cause refl;
}
