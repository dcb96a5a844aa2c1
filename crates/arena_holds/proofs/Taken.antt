-- A hold as a step of a call: what was recorded is what the call is told.
use Rattle.std.proofs.Common.{◌≡◌, ℕ, ◌+◌, ◌≤◌, true, false, List, [], ◌∷◌, length, Option, Some, None, ◌⊎◌, inl, inr, refl, sym, ap, ◌∙◌, subst, arith}
use Rattle.std.specs.Prelude.{IfSome, Bool, cond, not, nat_eq}
use Rattle.chunk_tags.specs.declared.block.Block.{Block}
use Rattle.chunk_tags.specs.declared.tunables.Tunables.{Tunables}
use Rattle.address_space.specs.declared.space.Space.{Space}
use Rattle.thread_cache.specs.Caches.{CacheValue, structure_of, is_open}
use Rattle.thread_cache.specs.Held.{IsSoundCache}
use Rattle.mapped_chunks.specs.DialPorts.{Dialled}
use Rattle.arena_rules.specs.PlainArena.{times_used}
use Rattle.arena_rules.specs.Rules.{Stop, block_of}
use Rattle.arena_rules.specs.Walks.{Walks, StopsShort}
use Rattle.arena_rules.specs.Align.{aligned_block, lead_of, size_with_lead}
use Rattle.chunk_tags.specs.declared.tiles.Chunk.{Chunk}
use Rattle.fast_bins.specs.FastPorts.{Fast}
use Rattle.realloc_align.specs.Calls.{AlignsBlock, FitsTake, aligned_take, ResizesBlock, FailsResize, FitsResize, FitsBack, resize_to}
use Rattle.realloc_align.specs.Calls as resizes
use Rattle.realloc_align.specs.declared.to_size.Resized.{Resized}
use Rattle.realloc_align.specs.declared.to_size.Resized.TheVariants as sizes
use Rattle.realloc_align.specs.Resizes.{Spares}
use Rattle.arena_growth.specs.Ledgers.{stage, full}
use Rattle.arena_rules.specs.declared.said.Said.{Said}
use Rattle.consolidate_trim.specs.Holds.{Chunks, no_chunk, one_chunk}
use Rattle.consolidate_trim.specs.Outside.{Means, ways}
use Rattle.arena_growth.proofs.Refusals.{reached_refusals}
use Rattle.arena_core.specs.Arenas as arenas
use Rattle.arena_core.specs.Arenas.{Held, held, Records, FailsShort, FitsRequest, GivesShort, mapped_block, need_of, take_of, recorded}
use Rattle.arena_core.specs.declared.take.Take.TheVariants as takes
use Rattle.address_space.specs.Ports.{Rose}
use Rattle.address_space.specs.Spaces.{space_refusals}
use Rattle.arena_growth.specs.Asking.{beside_arena, found_of}
use Rattle.arena_growth.specs.declared.found.Found.{Found}
use Rattle.arena_growth.specs.declared.found.Found.TheVariants as finds
use Rattle.arena_core.specs.Journal.{Recorded}
use Rattle.arena_core.specs.Replay.{rules_of, ended_of, chunk_at}
use Rattle.arena_core.proofs.Mapped.{IsFramed, walked_frame, request_of}
use Rattle.arena_core.specs.declared.journal.Act.{Act}
use Rattle.arena_core.specs.declared.journal.Act.TheVariants as acts
use Rattle.arena_core.specs.declared.journal.Who.{Who}
use Rattle.arena_core.specs.declared.take.Take.{Take}
use Rattle.arena_holds.specs.Calls as calls
use Rattle.arena_holds.specs.Calls.{hold_end, taken_of, lead_taken}
use Rattle.arena_holds.specs.Going as going
use Rattle.arena_holds.specs.Going.{Does, HoldStep, Held as HeldTold, here}
use Rattle.arena_holds.specs.Holding as holdings
use Rattle.arena_holds.specs.Holding.{SearchesArena, SearchesHeld, block_mapped, Gives, Resizes, ResizesShort, block_in, block_behind}
use Rattle.arena_holds.specs.Holding.{block_found as found_for}
use Rattle.arena_holds.specs.Searching.{IsSearch, IsAligned, size_wanted}
use Rattle.arena_growth.specs.Steps.{IsEnough}
use Rattle.block_names.specs.Blocks.{IsHeld}
use Rattle.arena_holds.specs.Holding.{resized_to}
use Rattle.arena_holds.specs.Places.{KeptArena, with_journal, PlaceWays, PlaceLaws, IsLent, IsServed, Carries, Setting, Standing, standing, Hands, both_of, weight_of, in_cache, as_chunk_of, as_mapped_byte}
use Rattle.arena_holds.specs.Returning.{IsUnlocked, IsAccounted}
use Rattle.arena_holds.proofs.Carrying.{carries_as}
use Rattle.arena_holds.proofs.RunningShort.{kept_hold}
use Rattle.arena_holds.proofs.Holds.{account_given, noted_given, account_given_short, account_none, framed_window, carries_held, only_least}
use Rattle.arena_holds.proofs.Founds.{block_found, IsWhole, Fills, FillsFound, Handles, handles_take, handles_align, handles_resize, found_whole, held_found, account_held, noted_held, mapped_held, ComesBack, own_back, resized_back, loses_spared, account_short, noted_short, mapped_short}

-- ---- the block of a search

found_block : (nb a n : ℕ) (found : Found) → n ≡ a → block_found mapped_block None n found ≡ taken_of a (acts.Take nb) (ended_of (acts.Take nb) (found_of found))
found_block nb a n (finds.InArena c) e = ap (λ x. block_found mapped_block None x (finds.InArena c)) e
found_block nb a n (finds.InMapping c) e = refl
found_block nb a n finds.Nowhere e = refl

-- a chunk as long as its mapping fills it
fills_plain : (nb : ℕ) (found : Found) → FillsFound mapped_block nb found
fills_plain nb found c is whole = record { arena = refl; start = omega arith; length = omega arith; chunk = (omega (arith, whole.length), omega (arith, whole.length)) }

-- what the block of a search is
abbrev IsFit : Act → Option Block → Type 0
IsFit act block = IfSome block (λ b. IsEnough (need_of b.arena (size_wanted act)) b.size)

-- an aligned block in a mapping fills it behind its lead
fills_aligned : (align nb n : ℕ) (found : Found) (block : Option Block) → block ≡ found_for (acts.Align align nb) n found → IsFit (acts.Align align nb) block → FillsFound (aligned_block align) (size_with_lead align nb) found
fills_aligned align nb n found block is enough c e whole =
    let same : block ≡ Some (aligned_block align c) = is ∙ ap (found_for (acts.Align align nb) n) e in
    let fit : IsEnough (nb + 8) (aligned_block align c).size = subst (IsFit (acts.Align align nb)) same enough in
    record { arena = refl; start = refl; length = omega (arith, fit.chunk.0); chunk = fit.chunk }

fills_search : (act : Act) (n : ℕ) (found : Found) (block : Option Block) → block ≡ found_for act n found → IsFit act block → FillsFound (block_mapped act) (request_of act) found
fills_search (acts.Align align nb) n found block is enough = fills_aligned align nb n found block is enough
fills_search (acts.Take nb) n found block is enough = fills_plain nb found
fills_search (acts.Open bytes) n found block is enough = fills_plain 0 found
fills_search (acts.Give at size) n found block is enough = fills_plain 0 found
fills_search (acts.Resize at size nb) n found block is enough = fills_plain nb found

-- its lead is what is before it in the mapping
aligned_lead : (align nb : ℕ) (c : Chunk) → IsWhole (size_with_lead align nb) c → Fills c (aligned_block align c) → lead_of align c.at ≡ lead_taken (acts.Align align nb) (aligned_block align c).size
aligned_lead align nb c whole fills = omega (arith, whole.length, fills.length)

found_aligned : (align nb a n : ℕ) (found : Found) → n ≡ a → FillsFound (aligned_block align) (size_with_lead align nb) found → ((c : Chunk) → found ≡ finds.InMapping c → IsWhole (size_with_lead align nb) c) →
    block_found (aligned_block align) None n found ≡ taken_of a (acts.Align align nb) (ended_of (acts.Align align nb) (found_of found))
found_aligned align nb a n (finds.InArena c) e fills whole = ap (λ x. block_found (aligned_block align) None x (finds.InArena c)) e
found_aligned align nb a n (finds.InMapping c) e fills whole =
    let b : Block = aligned_block align c in
    ap {B = Option Block} (λ (lead : ℕ). Some (record b { lead = lead })) (aligned_lead align nb c (whole c refl) (fills c refl (whole c refl)))
found_aligned align nb a n finds.Nowhere e fills whole = refl

found_search : (act : Act) (a n : ℕ) (found : Found) → IsSearch act → n ≡ a → FillsFound (block_mapped act) (request_of act) found → ((c : Chunk) → found ≡ finds.InMapping c → IsWhole (request_of act) c) →
    block_found (block_mapped act) None n found ≡ taken_of a act (ended_of act (found_of found))
found_search (acts.Take nb) a n found is e fills whole = found_block nb a n found e
found_search (acts.Align align nb) a n found is e fills whole = found_aligned align nb a n found e fills whole
found_search (acts.Open bytes) a n found is e fills whole = absurd is
found_search (acts.Give at size) a n found is e fills whole = absurd is
found_search (acts.Resize at size nb) a n found is e fills whole = absurd is

handles_search : (act : Act) (n : ℕ) → IsSearch act → Handles act n no_chunk None
handles_search (acts.Take nb) n is = handles_take nb n
handles_search (acts.Align align nb) n is = handles_align align nb n
handles_search (acts.Open bytes) n is = absurd is
handles_search (acts.Give at size) n is = absurd is
handles_search (acts.Resize at size nb) n is = absurd is

found_same : (act : Act) (n : ℕ) (found : Found) → found_for act n found ≡ block_found (block_mapped act) None n found
found_same act n (finds.InArena c) = refl
found_same act n (finds.InMapping c) = refl
found_same act n finds.Nowhere = refl

fits_enough : (act : Act) (block : Option Block) → IsFit act block → IfSome block (λ b. need_of b.arena (size_wanted act) ≤ b.size)
fits_enough act (Some b) fit = fit.room
fits_enough act None fit = tt

-- ---- what an arena gave

block_taken : (n : ℕ) (take : Take) (nb : ℕ) (found : Found) → take ≡ take_of n found → block_in take ≡ found_for (acts.Take nb) n found
block_taken n take nb found e =
    let cases : (found : Found) → block_in (take_of n found) ≡ found_for (acts.Take nb) n found = elim [ finds.InArena c ↦ refl | finds.InMapping c ↦ refl | finds.Nowhere ↦ refl ] in
    ap block_in e ∙ cases found

block_aligned : (n : ℕ) (take : Take) (align nb : ℕ) (found : Found) → take ≡ aligned_take align n found → block_in take ≡ found_for (acts.Align align nb) n found
block_aligned n take align nb found e =
    let cases : (found : Found) → block_in (aligned_take align n found) ≡ found_for (acts.Align align nb) n found = elim [ finds.InArena c ↦ refl | finds.InMapping c ↦ refl | finds.Nowhere ↦ refl ] in
    ap block_in e ∙ cases found

enough_taken : (nb : ℕ) (take : Take) → FitsRequest nb take → IsFit (acts.Take nb) (block_in take)
enough_taken nb (takes.Got b) fits = fits
enough_taken nb takes.Refused fits = tt

enough_aligned : (align nb : ℕ) (take : Take) → FitsTake align nb take → IsFit (acts.Align align nb) (block_in take)
enough_aligned align nb (takes.Got b) fits = fits.enough
enough_aligned align nb takes.Refused fits = tt

aligned_in : (align nb : ℕ) (take : Take) → FitsTake align nb take → IfSome (block_in take) (IsAligned (acts.Align align nb))
aligned_in align nb (takes.Got b) fits = fits.aligned
aligned_in align nb takes.Refused fits = tt

plain_in : (nb : ℕ) (block : Option Block) → IfSome block (IsAligned (acts.Take nb))
plain_in nb (Some b) = tt
plain_in nb None = tt

no_block : (take : Take) → block_in take ≡ None → take ≡ takes.Refused
no_block (takes.Got b) e = absurd cc
no_block takes.Refused e = refl

pub searches_plain : {P K : Type 0} {m : Means P K} {t : Tunables} {who : Who} {before after : Held P K} (nb : ℕ) (take : Take) → arenas.Takes m t who (acts.Take nb) before take after → FitsRequest nb take →
    (take ≡ takes.Refused → Rose (space_refusals m.kernel before.outside.space) (space_refusals m.kernel after.outside.space)) → SearchesArena m t who (acts.Take nb) before (block_in take) after
searches_plain {before = before} nb take h fits rose = record {
  found = h.found;
  records = h.records;
  block_is = block_taken before.arena.number take nb h.found h.taken;
  enough = enough_taken nb take fits;
  aligned = plain_in nb (block_in take);
  refused = λ none. rose (no_block take none);
}

pub searches_aligned : {P K : Type 0} {m : Means P K} {t : Tunables} {who : Who} {before after : Held P K} (align nb : ℕ) (take : Take) → AlignsBlock m t who align nb before take after → FitsTake align nb take →
    (take ≡ takes.Refused → Rose (space_refusals m.kernel before.outside.space) (space_refusals m.kernel after.outside.space)) → SearchesArena m t who (acts.Align align nb) before (block_in take) after
searches_aligned {before = before} align nb take h fits rose = record {
  found = h.found;
  records = h.records;
  block_is = block_aligned before.arena.number take align nb h.found h.taken;
  enough = enough_aligned align nb take fits;
  aligned = aligned_in align nb take fits;
  refused = λ none. rose (no_block take none);
}

-- ---- a hold as a step of a call

hold_step : {P H D K : Type 0} (s : Setting P H D K) {t : Tunables} {who : Who} {a : ℕ} {act : Act} {cache now : CacheValue} {o : Standing P K} {q r : P} {port left : H} {later : Space K}
    (k k' : KeptArena) (found : Found) (given : Chunks) → s.ways.lent o.places a port (Some k) q → s.ways.gave q left k' r →
    (rs : Records s.means t who act (held k.arena port cache o.space k.journal) given found (held k'.arena left now later k'.journal)) →
    HoldStep s t who a act cache o (length k.journal) k.arena (recorded who act rs.said (ended_of act (found_of found))) now (standing r later)
hold_step s {t = t} {act = act} {cache = cache} {now = now} {o = o} {q = q} {r = r} {port = port} {left = left} {later = later} k k' found given lent gave rs = record {
  lending = q;
  hold = port;
  last_hold = left;
  journal = k.journal;
  took = record { found = found_of found; arena = k'.arena };
  lent = lent;
  at = refl;
  whose = refl;
  acts = refl;
  walk = subst (λ (ss : List Said). Walks t (ways s.means k.arena.number) (rules_of t act k.arena) (beside_arena port cache o.space) ss (Stop (record { found = found_of found; arena = k'.arena })) (beside_arena left now later)) (sym rs.walks.added) rs.walks.walks;
  ended = refl;
  gave = subst (λ (js : List Recorded). s.ways.gave q left (with_journal k'.arena js) r) rs.added gave;
}

does_hold : {P H D K : Type 0} (s : Setting P H D K) {t : Tunables} {who : Who} {a : ℕ} {act : Act} {cache now : CacheValue} {o : Standing P K} {q r : P} {port left : H} {later : Space K}
    (k k' : KeptArena) (found : Found) (given : Chunks) → s.ways.lent o.places a port (Some k) q → s.ways.gave q left k' r →
    Records s.means t who act (held k.arena port cache o.space k.journal) given found (held k'.arena left now later k'.journal) →
    Does s t who (calls.hold_of a act cache) o (hold_end (length k.journal) (ended_of act (found_of found)) now) (standing r later)
does_hold s {who = who} {a = a} {act = act} {r = r} {later = later} k k' found given lent gave rs = record {
  told = HeldTold a (length k.journal) k.arena (recorded who act rs.said (ended_of act (found_of found))) ∷ [];
  goes = going.held {p = standing r later} (hold_step s k k' found given lent gave rs) here;
}

open_same : (c d : CacheValue) → structure_of d ≡ structure_of c → is_open d ≡ is_open c
open_same None None e = refl
open_same None (Some d) e = absurd cc
open_same (Some c) None e = absurd cc
open_same (Some c) (Some d) e = refl

-- the hands of a lent arena, with its number
unlocked_number : {P H D : Type 0} {ways : PlaceWays P H D} {fast : Fast H} {places r : P} {port left : H} {a : ℕ} (k k' : KeptArena) → k.arena.number ≡ a → IsUnlocked ways fast places a port k left k' r →
    IsUnlocked ways fast places k.arena.number port k left k' r
unlocked_number {ways = ways} {fast = fast} {places = places} {r = r} {port = port} {left = left} k k' is unlocked = subst (λ (x : ℕ). IsUnlocked ways fast places x port k left k' r) (sym is) unlocked

-- a search that went well
pub searches_held : {P H D K : Type 0} (s : Setting P H D K) (words : Dialled D) {t : Tunables} {who : Who} {a : ℕ} {act : Act} {cache now : CacheValue} {o : Standing P K} {q r : P} {port left : H} {later : Space K}
    (k k' : KeptArena) (block : Option Block) → PlaceLaws s.ways s.means.fast s.means.dials words → IfSome cache IsSoundCache → IfSome now IsSoundCache → IsSearch act →
    IsServed s.ways t (in_cache cache) o → s.ways.lent o.places a port (Some k) q → s.ways.gave q left k' r →
    IsUnlocked s.ways s.means.fast o.places a port k left k' r →
    SearchesArena s.means t who act (held k.arena port cache o.space k.journal) block (held k'.arena left now later k'.journal) →
    SearchesHeld s t who a act cache o (length k.journal) block now (standing r later)
searches_held s words {t = t} {who = who} {a = a} {act = act} {cache = cache} {now = now} {o = o} {q = q} {r = r} {port = port} {left = left} {later = later} k k' block laws sound well search served lent gave unlocked h =
    let is_lent : IsLent s.ways s.means.fast s.means.dials o.places a port k = laws.lends o.places q a port k lent in
    let n : ℕ = k.arena.number in
    let found : Found = h.found in
    let mapped : Chunk → Block = block_mapped act in
    let frame : IsFramed s.means (beside_arena port cache o.space) (beside_arena left now later) = walked_frame {m = s.means} h.records.walks.walks in
    let backed : (e : Chunk) → s.means.fast.stock port e + both_of (weight_of None) (in_cache cache) (as_chunk_of n e) ≤ times_used e k.arena =
    λ e. omega (arith, subst (λ (x : ℕ). s.means.fast.stock port e + in_cache cache (as_chunk_of x e) ≤ times_used e k.arena) (sym is_lent.number) (is_lent.backed (in_cache cache) served.served e)) in
    let handles : Handles act n no_chunk None = handles_search act n search in
    let fills : FillsFound mapped (request_of act) found = fills_search act n found block h.block_is h.enough in
    let is : block ≡ block_found mapped None n found = h.block_is ∙ found_same act n found in
    let carries = carries_held true (both_of (weight_of None) (in_cache cache)) (both_of (weight_of (block_found mapped None n found)) (in_cache now)) o.space later (unlocked_number k k' is_lent.number unlocked)
    (λ exact known. account_held s.ways s.means mapped found handles fills laws.shows sound well h.records exact) (noted_held s.ways s.means mapped found handles fills laws.shows h.records)
    (λ n. mapped_held s.ways s.means mapped found n handles fills laws.shows sound well h.records) frame.windows in
    record {
      before = k.arena;
      entry = recorded who act h.records.said (ended_of act (found_of found));
      step = hold_step s k k' found no_chunk lent gave h.records;
      block_is = is ∙ found_search act a n found search is_lent.number fills (found_whole s.ways s.means found laws.shows h.records);
      gets = record {
        held = rw is (held_found s.ways.shown mapped found handles fills tt laws.shows backed h.records);
        fits = fits_enough act block h.enough;
        aligned = h.aligned;
        later = reached_refusals {m = s.means} h.records.walks;
        opens = open_same cache now frame.structure;
        carries = rw is (carries_as laws.same (in_cache cache) (both_of (weight_of (block_found mapped None n found)) (in_cache now)) (λ w. omega arith) (λ w. refl) carries);
      };
      refused = h.refused;
      lists = unlocked.lists;
    }

-- ---- a resize

-- what became of a block of the arena is its own chunk or another
kept_or_moved : (x : Bool) (kept moved refused : Resized) → cond x kept (cond (not x) moved refused) ≡ cond x kept moved
kept_or_moved true kept moved refused = refl
kept_or_moved false kept moved refused = refl

became_found : (a n nb : ℕ) (b : Block) (found : Found) → n ≡ a → resize_to n b found ≡ resized_to a b nb (ended_of (acts.Resize b.addr b.size nb) (found_of found))
became_found a n nb b (finds.InArena c) e =
    ap (λ x. resize_to x b (finds.InArena c)) e ∙ kept_or_moved (nat_eq c.at b.addr) (sizes.Kept (block_of a c)) (sizes.Moved (block_of a c)) (sizes.Refused b)
became_found a n nb b (finds.InMapping c) e = refl
became_found a n nb b finds.Nowhere e = refl

behind_either : (x : Bool) (c b : Block) → block_behind (cond x (sizes.Kept c) (cond (not x) (sizes.Moved c) (sizes.Refused b))) ≡ c
behind_either true c b = refl
behind_either false c b = refl

behind_found : (n : ℕ) (b : Block) (found : Found) → block_found mapped_block (Some b) n found ≡ Some (block_behind (resize_to n b found))
behind_found n b (finds.InArena c) = ap Some (sym (behind_either (nat_eq c.at b.addr) (block_of n c) b))
behind_found n b (finds.InMapping c) = refl
behind_found n b finds.Nowhere = refl

-- what is given out of a lent arena
lent_backed : {P H D K : Type 0} {ways : PlaceWays P H D} {fast : Fast H} {dials : Dialled H} {a : ℕ} {port : H} {t : Tunables} {o : Standing P K} (k : KeptArena) (hands : Hands) → IsLent ways fast dials o.places a port k → IsServed ways t hands o →
    (e : Chunk) → fast.stock port e + hands (as_chunk_of k.arena.number e) ≤ times_used e k.arena
lent_backed {fast = fast} {port = port} k hands is served e = subst (λ (x : ℕ). fast.stock port e + hands (as_chunk_of x e) ≤ times_used e k.arena) (sym is.number) (is.backed hands served.served e)

pub resizes_held : {P H D K : Type 0} (s : Setting P H D K) (words : Dialled D) {t : Tunables} {who : Who} {a nb : ℕ} {cache now : CacheValue} {o : Standing P K} {q r : P} {port left : H} {later : Space K}
    (b : Block) (k k' : KeptArena) (resized : Resized) → PlaceLaws s.ways s.means.fast s.means.dials words → IfSome cache IsSoundCache → IfSome now IsSoundCache → IsHeld b → b.arena ≡ Some a →
    IsServed s.ways t (both_of (λ weigh. weigh b) (in_cache cache)) o → s.ways.lent o.places a port (Some k) q → s.ways.gave q left k' r →
    IsUnlocked s.ways s.means.fast o.places a port k left k' r →
    ResizesBlock s.means t who b nb (held k.arena port cache o.space k.journal) resized (held k'.arena left now later k'.journal) →
    FitsResize nb resized → (resized ≡ sizes.Refused b → Rose (space_refusals s.means.kernel o.space) (space_refusals s.means.kernel later)) →
    Resizes s t who a b nb cache o (length k.journal) resized now (standing r later)
resizes_held s words {a = a} {nb = nb} {cache = cache} {now = now} {o = o} {q = q} {r = r} {port = port} {left = left} {later = later} b k k' resized laws sound well is_held arena served lent gave unlocked h fits rose =
    let is : IsLent s.ways s.means.fast s.means.dials o.places a port k = laws.lends o.places q a port k lent in
    let n : ℕ = k.arena.number in
    let found : Found = h.found in
    let frame : IsFramed s.means (beside_arena port cache o.space) (beside_arena left now later) = walked_frame {m = s.means} h.records.walks.walks in
    let handles : Handles (acts.Resize b.addr b.size nb) n (one_chunk (chunk_at b.addr b.size)) (Some b) = handles_resize b nb n (arena ∙ ap Some (sym is.number)) in
    let fills : FillsFound mapped_block nb found = fills_plain nb found in
    let block : block_found mapped_block (Some b) n found ≡ Some (block_behind resized) = behind_found n b found ∙ ap (λ x. Some (block_behind x)) (sym h.came) in
    let carries : Carries s.ways true (both_of (weight_of (Some b)) (in_cache cache)) o (both_of (weight_of (block_found mapped_block (Some b) n found)) (in_cache now)) (standing r later) =
    carries_held true (both_of (weight_of (Some b)) (in_cache cache)) (both_of (weight_of (block_found mapped_block (Some b) n found)) (in_cache now)) o.space later (unlocked_number k k' is.number unlocked)
    (λ exact known. account_held s.ways s.means mapped_block found handles fills laws.shows sound well h.records exact) (noted_held s.ways s.means mapped_block found handles fills laws.shows h.records)
    (λ i. mapped_held s.ways s.means mapped_block found i handles fills laws.shows sound well h.records) frame.windows in
    record {
      ended = ended_of (acts.Resize b.addr b.size nb) (found_of found);
      became = h.came ∙ became_found a n nb b found is.number;
      does = does_hold s k k' found (one_chunk (chunk_at b.addr b.size)) lent gave h.records;
      held = subst (λ (x : Option Block). IfSome x IsHeld) block (held_found s.ways.shown mapped_block found handles fills is_held laws.shows (lent_backed k (both_of (λ weigh. weigh b) (in_cache cache)) is served) h.records);
      fits = fits;
      refused = rose;
      later = reached_refusals {m = s.means} h.records.walks;
      opens = open_same cache now frame.structure;
      carries = subst (λ (x : Option Block). Carries s.ways true (both_of (weight_of (Some b)) (in_cache cache)) o (both_of (weight_of x) (in_cache now)) (standing r later)) block carries;
    }

-- ---- want of memory

-- where there was no memory for the entry nothing changed
carries_none : {P H D K : Type 0} (s : Setting P H D K) {a : ℕ} {places r : P} {port left : H} {space later : Space K} (k k' : KeptArena) (cache now : CacheValue) (given got : Hands) →
    IsUnlocked s.ways s.means.fast places a port k left k' r → held k'.arena left now later k'.journal ≡ held k.arena port cache space k.journal →
    ((weigh : Block → ℕ) → got weigh ≤ given weigh) → Carries s.ways false given (standing places space) got (standing r later)
carries_none {H = H} {K = K} s {a = a} {places = places} {r = r} {port = port} {left = left} {space = space} {later = later} k k' cache now given got unlocked same fewer =
    let port_same : left ≡ port = ap (λ (x : Held H K). x.outside.port) same in
    let space_same : later ≡ space = ap (λ (x : Held H K). x.outside.space) same in
    let kept_same : k' ≡ k = ap (λ (x : Held H K). with_journal x.arena x.journal) same in
    let Q : H → KeptArena → Type 0 = λ x y. IsUnlocked s.ways s.means.fast places a port k x y r in
    let u : IsUnlocked s.ways s.means.fast places a port k port k r = subst (λ (x : H). Q x k) port_same (subst (Q left) kept_same unlocked) in
    rw space_same (carries_held false given got space space u (only_least (λ x. IsAccounted s.ways s.means.fast a x given port k got port k) (account_none s.ways s.means.fast a given got port k fewer)) (record { count = omega arith; bytes = omega arith }) (λ n. omega (arith, fewer (as_mapped_byte n))) refl)

-- what is kept of a hold that memory was too short for, behind its entry
carries_short : {P H D K : Type 0} (s : Setting P H D K) (words : Dialled D) {t : Tunables} {a : ℕ} {act : Act} {given got : Chunks} {cache now : CacheValue} {o : Standing P K} {r : P} {port left : H} {later : Space K} {ss : List Said}
    (k k' : KeptArena) (some back : Option Block) → PlaceLaws s.ways s.means.fast s.means.dials words → IfSome cache IsSoundCache → IfSome now IsSoundCache → k.arena.number ≡ a →
    IsUnlocked s.ways s.means.fast o.places a port k left k' r → Handles act k.arena.number given some →
    StopsShort t (ways s.means k.arena.number) (rules_of t act k.arena) (beside_arena port cache o.space) [] k'.arena ss (beside_arena left now later) →
    ComesBack s.ways.shown k.arena.number got back (beside_arena port cache o.space) (beside_arena left now later) →
    Spares (full s.means) (stage k.arena (beside_arena port cache o.space) []) given got (stage k'.arena (beside_arena left now later) ss) →
    Carries s.ways false (both_of (weight_of some) (in_cache cache)) o (both_of (weight_of back) (in_cache now)) (standing r later)
carries_short s words {act = act} {cache = cache} {now = now} {o = o} {port = port} {left = left} {later = later} k k' some back laws sound well number unlocked handles stops comes spares =
    let n : ℕ = k.arena.number in
    let frame : IsFramed s.means (beside_arena port cache o.space) (beside_arena left now later) = walked_frame {m = s.means} stops.reaches.walks in
    let given : Hands = both_of (weight_of some) (in_cache cache) in
    let got : Hands = both_of (weight_of back) (in_cache now) in
    carries_held false given got o.space later (unlocked_number k k' number unlocked)
    (only_least (λ x. IsAccounted s.ways s.means.fast n x given port k got left k') (account_short s.ways s.means handles comes sound well frame spares)) (noted_short s.ways s.means act k.arena laws.shows stops)
    (λ i. mapped_short s.means some i cache now port left o.space later comes sound well frame) frame.windows

-- a search that memory was too short for
pub searches_short : {P H D K : Type 0} (s : Setting P H D K) (words : Dialled D) {t : Tunables} {who : Who} {a : ℕ} (act : Act) {cache now : CacheValue} {o : Standing P K} {q r : P} {port left : H} {later : Space K}
    (k k' : KeptArena) → PlaceLaws s.ways s.means.fast s.means.dials words → IfSome cache IsSoundCache → IfSome now IsSoundCache → s.ways.lent o.places a port (Some k) q →
    IsUnlocked s.ways s.means.fast o.places a port k left k' r → IsSearch act →
    FailsShort s.means t who act (held k.arena port cache o.space k.journal) no_chunk (held k'.arena left now later k'.journal) →
    Carries s.ways false (in_cache cache) o (in_cache now) (standing r later)
searches_short {H = H} {K = K} s words {a = a} act {cache = cache} {now = now} {o = o} {q = q} {port = port} {left = left} {later = later} k k' laws sound well lent unlocked search h =
    let is : IsLent s.ways s.means.fast s.means.dials o.places a port k = laws.lends o.places q a port k lent in
    elim h [
      | inl same ↦ carries_none s k k' cache now (in_cache cache) (in_cache now) unlocked same (λ w. omega (arith, ap (λ (x : Held H K). in_cache x.outside.cache w) same))
      | inr rs ↦
          carries_as laws.same (in_cache cache) (in_cache now) (λ w. omega arith) (λ w. omega arith)
          (carries_short s words {act = act} k k' None None laws sound well is.number unlocked (handles_search act k.arena.number search) rs.stops
          (own_back s.means act k.arena no_chunk None laws.shows rs.stops tt (λ e. refl)) (loses_spared (full s.means) _ _ no_chunk rs.loses))
    ]

-- a resize that it was too short for
pub resizes_short : {P H D K : Type 0} (s : Setting P H D K) (words : Dialled D) {t : Tunables} {who : Who} {a nb : ℕ} {cache now : CacheValue} {o : Standing P K} {q r : P} {port left : H} {later : Space K}
    (b back : Block) (k k' : KeptArena) → PlaceLaws s.ways s.means.fast s.means.dials words → IfSome cache IsSoundCache → IfSome now IsSoundCache → IsHeld b → b.arena ≡ Some a →
    IsServed s.ways t (both_of (λ weigh. weigh b) (in_cache cache)) o → s.ways.lent o.places a port (Some k) q → IsUnlocked s.ways s.means.fast o.places a port k left k' r →
    FailsResize s.means t who b nb (held k.arena port cache o.space k.journal) (Some back) (held k'.arena left now later k'.journal) →
    FitsBack nb b (Some back) → ResizesShort s b nb cache o back now (standing r later)
resizes_short {H = H} {K = K} s words {a = a} {nb = nb} {cache = cache} {now = now} {o = o} {q = q} {r = r} {port = port} {left = left} {later = later} b back k k' laws sound well is_held arena served lent unlocked h enough =
    let is : IsLent s.ways s.means.fast s.means.dials o.places a port k = laws.lends o.places q a port k lent in
    let n : ℕ = k.arena.number in
    let own : b.arena ≡ Some n = arena ∙ ap Some (sym is.number) in
    elim h [
      | inl same ↦ record {
        held = subst (λ (x : Block). IsHeld x) (sym same.0) is_held;
        enough = enough;
        carries = carries_none s k k' cache now (both_of (λ weigh. weigh b) (in_cache cache)) (both_of (λ weigh. weigh back) (in_cache now)) unlocked same.1
            (λ w. omega (arith, ap w same.0, ap (λ (x : Held H K). in_cache x.outside.cache w) same.1));
      }
      | inr r ↦
          let stays = resized_back s.means {nb = nb} k k' b r.found laws.shows is_held own (lent_backed k (both_of (λ weigh. weigh b) (in_cache cache)) is served) r.stops r.spares r.mapped in
          rw r.came record {
            held = stays.1;
            enough = subst (λ (x : Block). (x ≡ b) ⊎ (need_of x.arena nb ≤ x.size)) r.came enough;
            carries = carries_short s words {act = acts.Resize b.addr b.size nb} k k' (Some b) (Some (resizes.block_of_resize n b r.found)) laws sound well is.number unlocked (handles_resize b nb n own) r.stops stays.0 r.spares;
          }
    ]

pub gives_held : {P H D K : Type 0} (s : Setting P H D K) (words : Dialled D) {t : Tunables} {who : Who} {a : ℕ} {o : Standing P K} {q r : P} {port left : H} {later : Space K}
    (b : Block) (k k' : KeptArena) → PlaceLaws s.ways s.means.fast s.means.dials words → b.arena ≡ Some a → s.ways.lent o.places a port (Some k) q → s.ways.gave q left k' r →
    IsUnlocked s.ways s.means.fast o.places a port k left k' r →
    ((cache : CacheValue) → Records s.means t who (acts.Give b.addr b.size) (held k.arena port cache o.space k.journal) (one_chunk (chunk_at b.addr b.size)) finds.Nowhere (held k'.arena left cache later k'.journal)) →
    (cache : CacheValue) → Gives s t who a b cache o (length k.journal) (standing r later)
gives_held s words {t = t} {a = a} {o = o} {q = q} {r = r} {port = port} {left = left} {later = later} b k k' laws arena lent gave unlocked records cache =
    let is : IsLent s.ways s.means.fast s.means.dials o.places a port k = laws.lends o.places q a port k lent in
    let n : ℕ = k.arena.number in
    let unlocked' : IsUnlocked s.ways s.means.fast o.places n port k left k' r = subst (λ (x : ℕ). IsUnlocked s.ways s.means.fast o.places x port k left k' r) (sym is.number) unlocked in
    let own : b.arena ≡ Some n = arena ∙ ap Some (sym is.number) in
    let frame : IsFramed s.means (beside_arena port None o.space) (beside_arena left None later) = walked_frame {m = s.means} (records None).walks.walks in
    record {
      ended = ended_of (acts.Give b.addr b.size) (found_of finds.Nowhere);
      does = does_hold s k k' finds.Nowhere (one_chunk (chunk_at b.addr b.size)) lent gave (records cache);
      carries = carries_held true (λ weigh. weigh b) (λ weigh. 0) o.space later unlocked'
          (λ exact known. account_given s.ways s.means b laws.shows own (records None) exact) (noted_given s.ways s.means laws.shows (records None))
          (λ n. omega (arith, framed_window s.means (beside_arena port None o.space) (beside_arena left None later) n frame)) frame.windows;
    }

pub gives_short : {P H D K : Type 0} (s : Setting P H D K) (words : Dialled D) (t : Tunables) (who : Who) {a : ℕ} {o : Standing P K} {q r : P} {port left : H} {later : Space K}
    (b : Block) (k k' : KeptArena) (back : Option Block) → PlaceLaws s.ways s.means.fast s.means.dials words → b.arena ≡ Some a → s.ways.lent o.places a port (Some k) q → s.ways.gave q left k' r →
    IsUnlocked s.ways s.means.fast o.places a port k left k' r →
    ((cache : CacheValue) → GivesShort s.means t who b (held k.arena port cache o.space k.journal) back (held k'.arena left cache later k'.journal)) →
    holdings.GivesShort s t who a b o back (standing r later)
gives_short s words t who {a = a} {o = o} {q = q} {r = r} {port = port} {left = left} {later = later} b k k' (Some back) laws arena lent gave unlocked h = record {
  same = (h None).0;
  kept = λ some. kept_hold s k k' lent gave (h None).1;
  gone = λ none. absurd cc;
  carries = carries_none s k k' None None (λ weigh. weigh b) (weight_of (Some back)) unlocked (h None).1 (λ w. omega (arith, ap w (h None).0));
}
gives_short s words t who {a = a} {o = o} {q = q} {r = r} {port = port} {left = left} {later = later} b k k' None laws arena lent gave unlocked h =
    let is : IsLent s.ways s.means.fast s.means.dials o.places a port k = laws.lends o.places q a port k lent in
    let n : ℕ = k.arena.number in
    let unlocked' : IsUnlocked s.ways s.means.fast o.places n port k left k' r = subst (λ (x : ℕ). IsUnlocked s.ways s.means.fast o.places x port k left k' r) (sym is.number) unlocked in
    let frame : IsFramed s.means (beside_arena port None o.space) (beside_arena left None later) = walked_frame {m = s.means} (h None).stops.reaches.walks in
    record {
      same = tt;
      kept = λ some. absurd cc;
      gone = λ none. record { lending = q; hold = port; last_hold = left; before = k; after = k'; lent = lent; short = h; gave = gave };
      carries = carries_as laws.same (λ weigh. weigh b) (weight_of None) (λ w. refl) (λ w. refl)
          (carries_held false (λ weigh. weigh b) (λ weigh. 0) o.space later unlocked'
          (only_least (λ x. IsAccounted s.ways s.means.fast n x (λ weigh. weigh b) port k (λ weigh. 0) left k') (account_given_short s.ways s.means b laws.shows (arena ∙ ap Some (sym is.number)) (h None))) (noted_short s.ways s.means (acts.Give b.addr b.size) k.arena laws.shows (h None).stops)
          (λ n. omega (arith, framed_window s.means (beside_arena port None o.space) (beside_arena left None later) n frame)) frame.windows);
    }

-- ---- the cache's structure stays in a hold, however that ends

pub structure_searched : {P K : Type 0} {m : Means P K} {t : Tunables} {who : Who} {act : Act} {before after : Held P K} {block : Option Block} →
    SearchesArena m t who act before block after → structure_of after.outside.cache ≡ structure_of before.outside.cache
structure_searched {m = m} {before = before} {after = after} h =
    let frame : IsFramed m before.outside after.outside = walked_frame {m = m} h.records.walks.walks in
    frame.structure

pub structure_short : {P K : Type 0} {m : Means P K} {t : Tunables} {who : Who} {act : Act} {before after : Held P K} {given : Chunks} →
    FailsShort m t who act before given after → structure_of after.outside.cache ≡ structure_of before.outside.cache
structure_short {P = P} {K = K} {m = m} {before = before} {after = after} h = elim h [
  | inl same ↦ ap (λ (x : Held P K). structure_of x.outside.cache) same
  | inr r ↦ let frame : IsFramed m before.outside after.outside = walked_frame {m = m} r.stops.reaches.walks in frame.structure
]

pub structure_resized : {P K : Type 0} {m : Means P K} {t : Tunables} {who : Who} {b : Block} {nb : ℕ} {before after : Held P K} {resized : Resized} →
    ResizesBlock m t who b nb before resized after → structure_of after.outside.cache ≡ structure_of before.outside.cache
structure_resized {m = m} {before = before} {after = after} h =
    let frame : IsFramed m before.outside after.outside = walked_frame {m = m} h.records.walks.walks in
    frame.structure

pub structure_unresized : {P K : Type 0} (m : Means P K) (t : Tunables) (who : Who) (b : Block) (nb : ℕ) (before after : Held P K) (back : Option Block) →
    FailsResize m t who b nb before back after → structure_of after.outside.cache ≡ structure_of before.outside.cache
structure_unresized m t who b nb before after None h = absurd h
structure_unresized {P = P} {K = K} m t who b nb before after (Some back) h = elim h [
  | inl same ↦ ap (λ (x : Held P K). structure_of x.outside.cache) same.1
  | inr r ↦ let frame : IsFramed m before.outside after.outside = walked_frame {m = m} r.stops.reaches.walks in frame.structure
]
