-- What a hold of an arena needs of what was lent, and what it keeps.
use Rattle.std.proofs.Common.{◌≡◌, ℕ, ◌+◌, ◌-◌, ◌≤◌, Bool, true, false, ◌&&◌, cond, List, [], ◌∷◌, ◌++◌, append-nil, Option, Some, None, inl, inr, Result, Ok, Err, refl, sym, ap, ◌∙◌, subst, arith}
use Rattle.std.specs.Prelude.{nat_eq, IfSome, IsSome, IfOk, IfErr, OnOk, OnErr}
use Rattle.std.proofs.lemmas.Bool.{ltb-false}
use Rattle.chunk_tags.specs.BinOrder.{once, same_chunk}
use Rattle.chunk_tags.specs.Tunables.{IsTuned}
use Rattle.chunk_tags.specs.declared.block.Block.{Block}
use Rattle.chunk_tags.specs.declared.refusals.NoMemory.{NoMemory}
use Rattle.chunk_tags.specs.declared.tiles.Chunk.{Chunk}
use Rattle.chunk_tags.specs.declared.tunables.Tunables.{Tunables}
use Rattle.address_space.specs.Spaces.{map_length, map_start}
use Rattle.address_space.specs.declared.space.Space.{Space}
use Rattle.thread_cache.specs.Caches.{CacheValue, structure_of}
use Rattle.thread_cache.specs.Held.{IsSoundCache}
use Rattle.arena_rules.specs.PlainArena.{Plain, IsSound, times_used}
use Rattle.arena_rules.specs.MainPlaces.{covers, IsPlaced}
use Rattle.arena_rules.specs.Rules.{heap_windows_of}
use Rattle.arena_rules.proofs.Covered.{covers_adds}
use Rattle.arena_rules.specs.Growth as growth
use Rattle.fast_bins.specs.FastPorts.{Fast}
use Rattle.mapped_chunks.specs.DialPorts.{Dialled}
use Rattle.consolidate_trim.specs.Holds.{Chunks, no_chunk, one_chunk, IsBacked, times_cached}
use Rattle.consolidate_trim.specs.Outside.{Means, Outside, ways}
use Rattle.consolidate_trim.proofs.HoldSteps.{block_is, block_other}
use Rattle.arena_growth.specs.Ledgers.{stage}
use Rattle.arena_growth.specs.Asking.{found_of, IsReady, IsSearchable, AllowsMaps, beside_arena}
use Rattle.arena_growth.specs.declared.found.Found.{Found}
use Rattle.arena_growth.specs.declared.found.Found.TheVariants as finds
use Rattle.arena_core.specs.Arenas.{Held, held, recorded, Records, RecordsShort, FailsShort, GivesShort}
use Rattle.arena_core.specs.Replay.{IsReplay, ended_of, chunk_at}
use Rattle.arena_core.specs.declared.journal.Ended.TheVariants.{Short}
use Rattle.arena_core.specs.Shown.{MappedShown, ShowsMapped, EndsCounted, StopsCounted}
use Rattle.arena_core.specs.Journal.{Recorded}
use Rattle.arena_core.proofs.Mapped.{IsFramed, walked_frame, walked_to_end, walked_short, rules_map_within}
use Rattle.arena_core.specs.declared.journal.Act.{Act}
use Rattle.arena_core.specs.declared.journal.Act.TheVariants as acts
use Rattle.arena_core.specs.declared.journal.Who.{Who}
use Rattle.arena_core.specs.declared.take.GiveShort.{GiveShort}
use Rattle.realloc_align.specs.Calls.{ResizesBlock, FailsResize}
use Rattle.realloc_align.specs.declared.to_size.Resized.{Resized}
use Rattle.arena_holds.specs.Places.{both_of, KeptArena, PlaceWays, PlaceLaws, IsLent, IsServed, Carries, standing, Hands, weight_of, in_cache, as_chunk_of, as_mapped, as_mapped_bytes, as_mapped_byte, given_byte, Covers, new_arena}
use Rattle.arena_holds.specs.Holding.{SearchesArena}
use Rattle.arena_holds.specs.Returning as port
use Rattle.arena_holds.specs.Returning.{AreOf, PortWalks, IsReturn, IsUnlocked, IsAccounted, IsNoted}
use Rattle.arena_holds.proofs.PortWalking.{port_walks}
use Rattle.arena_holds.proofs.CachedBlocks.{in_lists-nothing}

-- ---- what a block weighs

-- as a chunk of its arena
pub chunk_is : (a : ℕ) (e : Chunk) (b : Block) → b.arena ≡ Some a → as_chunk_of a e b ≡ once e (chunk_at b.addr b.size)
chunk_is a e b arena =
    let c : Chunk = chunk_at b.addr b.size in
    ap {B = ℕ} (λ (o : Option ℕ). cond (same_chunk e c && (elim o [ None ↦ false | Some n ↦ nat_eq n a ])) 1 0) arena ∙ block_is a e c

pub chunk_other : (a n : ℕ) (e : Chunk) (b : Block) → b.arena ≡ Some a → (n ≡ a → ⊥) → as_chunk_of n e b ≡ 0
chunk_other a n e b arena other =
    let c : Chunk = chunk_at b.addr b.size in
    ap {B = ℕ} (λ (o : Option ℕ). cond (same_chunk e c && (elim o [ None ↦ false | Some x ↦ nat_eq x n ])) 1 0) arena ∙ block_other a n e c other

pub mapped_none : (b : Block) → IsSome b.arena → as_mapped b ≡ 0
mapped_none b some = rw some refl

pub bytes_none : (b : Block) → IsSome b.arena → as_mapped_bytes b ≡ 0
bytes_none b some = rw some refl

pub byte_none : (n : ℕ) (b : Block) → IsSome b.arena → as_mapped_byte n b ≡ 0
byte_none n b some = rw some refl

-- the chunks of an arena in a cache
pub cached_is : (n : ℕ) (c : CacheValue) (e : Chunk) → in_cache c (as_chunk_of n e) ≡ times_cached n c e + weight_of (structure_of c) (as_chunk_of n e)
cached_is n c e = refl

-- ---- before

pub ready : {P H D K : Type 0} {ways : PlaceWays P H D} {fast : Fast H} {dials : Dialled H} {p : P} {a : ℕ} {port : H} {k : KeptArena} {t : Tunables} {hands : Hands} {space : Space K}
    (m : Means H K) → m.fast ≡ fast → IsLent ways fast dials p a port k → IsServed ways t hands (standing p space) → (cache : CacheValue) →
    IsReady m t (stage k.arena (beside_arena port cache space) [])
ready {k = k} {hands = hands} m same is s cache = record {
  backed = record { sound = is.sound; used = λ e. rw same (omega (arith, is.backed hands s.served e)) };
  placed = is.placed;
  heaps = λ other. subst (λ (x : Tunables). k.arena.windows ≡ heap_windows_of x) s.tunables (is.heaps other);
  windows = s.windows;
}

pub backed : {P H D K : Type 0} {ways : PlaceWays P H D} {fast : Fast H} {dials : Dialled H} {p : P} {a : ℕ} {port : H} {k : KeptArena} {t : Tunables} {space : Space K}
    (b : Block) → b.arena ≡ Some a → IsLent ways fast dials p a port k → IsServed ways t (λ weigh. weigh b) (standing p space) →
    IsBacked fast k.arena port (one_chunk (chunk_at b.addr b.size))
backed {a = a} b arena is s = record { sound = is.sound; used = λ e. omega (arith, is.backed (λ weigh. weigh b) s.served e, chunk_is a e b arena) }

-- the same beside other blocks
pub backed_beside : {P H D K : Type 0} {ways : PlaceWays P H D} {fast : Fast H} {dials : Dialled H} {p : P} {a : ℕ} {port : H} {k : KeptArena} {t : Tunables} {space : Space K}
    (b : Block) (others : Hands) → b.arena ≡ Some a → IsLent ways fast dials p a port k → IsServed ways t (both_of (λ weigh. weigh b) others) (standing p space) →
    IsBacked fast k.arena port (one_chunk (chunk_at b.addr b.size))
backed_beside {a = a} b others arena is s = record { sound = is.sound; used = λ e. omega (arith, is.backed (both_of (λ weigh. weigh b) others) s.served e, chunk_is a e b arena) }

pub allows : {P H D K : Type 0} {ways : PlaceWays P H D} {fast : Fast H} {dials : Dialled H} {p : P} {a : ℕ} {port : H} {k : KeptArena} {t : Tunables} {hands : Hands} {space : Space K} →
    IsLent ways fast dials p a port k → IsServed ways t hands (standing p space) → AllowsMaps dials port space
allows {space = space} is s = record {
  allowed = λ len within. is.maps space.mapped s.others len s.notes (ltb-false map_length (space.mapped + len) within);
}

pub searchable : {t : Tunables} → IsTuned t → IsSearchable t
searchable tuned = record { pad = tuned.pad; fast = tuned.fast; main = tuned.main; heap = tuned.heap_most }

-- ---- after

-- what a hold leaves, as it is given back, these chunks having been in hand
pub record IsLeft {H K : Type 0} (m : Means H K) (who : Who) (given : Chunks) (before after : Held H K) : Type 0 where
  pub number : after.arena.number ≡ before.arena.number
  pub sound : IsSound after.arena
  pub placed : IsPlaced after.arena
  pub windows : after.arena.windows ≡ before.arena.windows
  pub goes : PortWalks m.fast m.dials before.outside.port after.outside.port
  pub entries : List Recorded
  pub grew : after.journal ≡ before.journal ++ entries
  pub whose : AreOf who entries
  pub covered : (e : Chunk) → times_used e before.arena + m.fast.stock after.outside.port e
      ≤ times_used e after.arena + (m.fast.stock before.outside.port e + (times_cached before.arena.number before.outside.cache e + given e))

left_same : {H K : Type 0} (m : Means H K) (who : Who) (given : Chunks) (before after : Held H K) → IsSound before.arena → IsPlaced before.arena → after ≡ before → IsLeft m who given before after
left_same {H = H} {K = K} m who given before after sound placed same = subst (λ (h : Held H K). IsLeft m who given before h) (sym same) (record {
  number = refl;
  sound = sound;
  placed = placed;
  windows = refl;
  goes = port.port_stays;
  entries = [];
  grew = sym (append-nil before.journal);
  whose = tt;
  covered = λ e. omega arith;
})

left_recorded : {H K : Type 0} (m : Means H K) (t : Tunables) (who : Who) (act : Act) (before after : Held H K) (given : Chunks) (found : Found) → IsPlaced before.arena →
    Records m t who act before given found after → IsLeft m who given before after
left_recorded m t who act before after given found placed r =
    let b = r.balances in
    record {
      number = b.number;
      sound = b.sound;
      placed = b.placed placed;
      windows = b.windows;
      goes = port_walks {m = m} r.walks.walks;
      entries = recorded who act r.said (ended_of act (found_of found)) ∷ [];
      grew = r.added;
      whose = (refl, tt);
      covered = λ e. omega (arith, b.kept e);
    }

left_short : {H K : Type 0} (m : Means H K) (t : Tunables) (who : Who) (act : Act) (before after : Held H K) (given : Chunks) → IsPlaced before.arena →
    RecordsShort m t who act before given after → IsLeft m who given before after
left_short m t who act before after given placed r =
    let b = r.loses in
    record {
      number = b.number;
      sound = b.sound;
      placed = b.placed placed;
      windows = b.windows;
      goes = port_walks {m = m} r.stops.reaches.walks;
      entries = recorded who act r.said Short ∷ [];
      grew = r.added;
      whose = (refl, tt);
      covered = λ e. omega (arith, b.kept e);
    }

pub left_searched : {H K : Type 0} (m : Means H K) (t : Tunables) (who : Who) (act : Act) (before after : Held H K) (result : Result (Option Block) NoMemory) → IsSound before.arena → IsPlaced before.arena →
    IfOk result (λ block. SearchesArena m t who act before block after) → OnErr result (FailsShort m t who act before no_chunk after) → IsLeft m who no_chunk before after
left_searched m t who act before after (Ok block) sound placed searches short = left_recorded m t who act before after no_chunk searches.found placed searches.records
left_searched m t who act before after (Err e) sound placed searches short = elim short [
  | inl same ↦ left_same m who no_chunk before after sound placed same
  | inr records ↦ left_short m t who act before after no_chunk placed records
]

pub left_given : {H K : Type 0} (m : Means H K) (t : Tunables) (who : Who) (b : Block) (before after : Held H K) (result : Result (Unit {0}) GiveShort) → IsSound before.arena → IsPlaced before.arena →
    OnOk result (Records m t who (acts.Give b.addr b.size) before (one_chunk (chunk_at b.addr b.size)) finds.Nowhere after) →
    IfErr result (λ e. GivesShort m t who b before e.back after) → IsLeft m who (one_chunk (chunk_at b.addr b.size)) before after
left_given m t who b before after (Ok done) sound placed records short = left_recorded m t who (acts.Give b.addr b.size) before after (one_chunk (chunk_at b.addr b.size)) finds.Nowhere placed records
left_given {H = H} {K = K} m t who b before after (Err e) sound placed records short =
    let cases : (o : Option Block) → GivesShort m t who b before o after → IsLeft m who (one_chunk (chunk_at b.addr b.size)) before after = elim [
      | Some back ↦ λ h. left_same m who (one_chunk (chunk_at b.addr b.size)) before after sound placed h.1
      | None ↦ λ h. left_short m t who (acts.Give b.addr b.size) before after (one_chunk (chunk_at b.addr b.size)) placed h
    ] in
    cases e.back short

left_unsized : {H K : Type 0} (m : Means H K) (t : Tunables) (who : Who) (b : Block) (nb : ℕ) (before after : Held H K) (back : Option Block) → IsSound before.arena → IsPlaced before.arena →
    FailsResize m t who b nb before back after → IsLeft m who (one_chunk (chunk_at b.addr b.size)) before after
left_unsized m t who b nb before after None sound placed h = absurd h
left_unsized m t who b nb before after (Some back) sound placed h = elim h [
  | inl same ↦ left_same m who (one_chunk (chunk_at b.addr b.size)) before after sound placed same.1
  | inr r ↦
      let l = r.spares in
      record {
        number = l.number;
        sound = l.sound;
        placed = l.placed placed;
        windows = l.windows;
        goes = port_walks {m = m} r.stops.reaches.walks;
        entries = recorded who (acts.Resize b.addr b.size nb) r.said Short ∷ [];
        grew = r.added;
        whose = (refl, tt);
        covered = λ e. omega (arith, l.kept e);
      }
]

pub left_resized : {H K : Type 0} (m : Means H K) (t : Tunables) (who : Who) (b : Block) (nb : ℕ) (before after : Held H K) (result : Result Resized GiveShort) → IsSound before.arena → IsPlaced before.arena →
    IfOk result (λ r. ResizesBlock m t who b nb before r after) → IfErr result (λ e. FailsResize m t who b nb before e.back after) → IsLeft m who (one_chunk (chunk_at b.addr b.size)) before after
left_resized m t who b nb before after (Ok r) sound placed resizes short =
    left_recorded m t who (acts.Resize b.addr b.size nb) before after (one_chunk (chunk_at b.addr b.size)) resizes.found placed resizes.records
left_resized m t who b nb before after (Err e) sound placed resizes short = left_unsized m t who b nb before after e.back sound placed short

-- the chunks in hand are among the blocks of the caller
pub in_hand_searched : (n : ℕ) (cache : CacheValue) (e : Chunk) → times_cached n cache e + no_chunk e ≤ in_cache cache (as_chunk_of n e)
in_hand_searched n cache e = omega (arith, cached_is n cache e)

pub in_hand_given : (n : ℕ) (b : Block) (e : Chunk) → b.arena ≡ Some n → times_cached n None e + one_chunk (chunk_at b.addr b.size) e ≤ as_chunk_of n e b
in_hand_given n b e arena = omega (arith, chunk_is n e b arena)

pub in_hand_resized : (n : ℕ) (b : Block) (cache : CacheValue) (e : Chunk) → b.arena ≡ Some n →
    times_cached n cache e + one_chunk (chunk_at b.addr b.size) e ≤ both_of (λ weigh. weigh b) (in_cache cache) (as_chunk_of n e)
in_hand_resized n b cache e arena = omega (arith, chunk_is n e b arena, cached_is n cache e)

-- it may be given back
pub is_return : {P H D K : Type 0} (ways : PlaceWays P H D) (m : Means H K) (words : Dialled D) (p q : P) (a : ℕ) (port left : H) (cache now : CacheValue) (space later : Space K) (k k' : KeptArena) (t : Tunables) (who : Who) (given : Chunks) (hands : Hands) →
    ways.writes p who → PlaceLaws ways m.fast m.dials words → ways.lent p a port (Some k) q → ways.tunables p ≡ t → ways.serves false p hands →
    ((e : Chunk) → times_cached k.arena.number cache e + given e ≤ hands (as_chunk_of k.arena.number e)) →
    IsLeft m who given (held k.arena port cache space k.journal) (held k'.arena left now later k'.journal) →
    ((start : Plain) → IsReplay t start k.journal k.arena → IsReplay t start k'.journal k'.arena) → IsReturn ways m.fast m.dials k' left q
is_return ways m words p q a port left cache now space later k k' t who given hands writes laws lent tuned served within behind replay =
    let is : IsLent ways m.fast m.dials p a port k = laws.lends p q a port k lent in
    let covered : (e : Chunk) → times_used e k.arena + m.fast.stock left e ≤ times_used e k'.arena + (m.fast.stock port e + hands (as_chunk_of k.arena.number e)) =
    λ e. omega (arith, behind.covered e, within e) in
    record {
      places = p;
      arena = a;
      port = port;
      before = k;
      lent = lent;
      goes = behind.goes;
      entries = behind.entries;
      grew = behind.grew;
      who = who;
      writes = writes;
      whose = behind.whose;
      hands = hands;
      served = served;
      covered = λ e. subst (λ (n : ℕ). times_used e k.arena + m.fast.stock left e ≤ times_used e k'.arena + (m.fast.stock port e + hands (as_chunk_of n e))) is.number (covered e);
      number = behind.number ∙ is.number;
      sound = behind.sound;
      placed = behind.placed;
      heaps = λ other. behind.windows ∙ is.heaps (subst (λ (n : ℕ). nat_eq n 0 ≡ false) behind.number other);
      replays = subst (λ (x : Tunables). IsReplay x (new_arena x a) k'.journal k'.arena) (sym tuned) (replay (new_arena t a) (subst (λ (x : Tunables). IsReplay x (new_arena x a) k.journal k.arena) tuned is.replays));
    }

-- how the port of a hold went that memory was too short for
pub fails_walks : {H K : Type 0} (m : Means H K) {t : Tunables} {who : Who} {act : Act} {before after : Held H K} {given : Chunks} → FailsShort m t who act before given after →
    PortWalks m.fast m.dials before.outside.port after.outside.port
fails_walks {H = H} {K = K} m {before = before} h = elim h [
  | inl same ↦ subst (λ (x : Held H K). PortWalks m.fast m.dials before.outside.port x.outside.port) (sym same) port.port_stays
  | inr r ↦ port_walks {m = m} r.stops.reaches.walks
]

pub gives_walks : {H K : Type 0} (m : Means H K) (t : Tunables) (who : Who) (b : Block) (before after : Held H K) (back : Option Block) → GivesShort m t who b before back after →
    PortWalks m.fast m.dials before.outside.port after.outside.port
gives_walks {H = H} {K = K} m t who b before after (Some c) h = subst (λ (x : Held H K). PortWalks m.fast m.dials before.outside.port x.outside.port) (sym h.1) port.port_stays
gives_walks m t who b before after None h = port_walks {m = m} h.stops.reaches.walks

pub unsized_walks : {H K : Type 0} (m : Means H K) (t : Tunables) (who : Who) (b : Block) (nb : ℕ) (before after : Held H K) (back : Option Block) → FailsResize m t who b nb before back after →
    PortWalks m.fast m.dials before.outside.port after.outside.port
unsized_walks m t who b nb before after None h = absurd h
unsized_walks {H = H} {K = K} m t who b nb before after (Some c) h = elim h [
  | inl same ↦ subst (λ (x : Held H K). PortWalks m.fast m.dials before.outside.port x.outside.port) (sym same.1) port.port_stays
  | inr r ↦ port_walks {m = m} r.stops.reaches.walks
]

-- ---- the account of a hold

pub covers_any : (exact : Bool) (n m : ℕ) → n ≡ m → Covers exact n m
covers_any true n m e = e
covers_any false n m e = omega (arith, e)

-- what a hold has counted that was left for want of memory
pub record IsShort {P K : Type 0} (shown : P → MappedShown) (o z : Outside P K) : Type 0 where
  pub count : (shown o.port).count ≤ (shown z.port).count
  pub bytes : (shown o.port).bytes ≤ (shown z.port).bytes
  pub most : (shown z.port).count + o.space.mapped ≤ (shown o.port).count + z.space.mapped

pub short_mapped : {P K : Type 0} {shown : P → MappedShown} {nb : ℕ} {o z : Outside P K} → o.space.mapped ≤ z.space.mapped → StopsCounted shown nb o z → IsShort shown o z
short_mapped grows stops = elim stops.counts [
  | inl same ↦
      let count = ap (λ (s : MappedShown). s.count) same in
      record { count = omega (arith, count); bytes = omega (arith, ap (λ (s : MappedShown). s.bytes) same); most = omega (arith, count, grows) }
  | inr one ↦
      let count = ap (λ (s : MappedShown). s.count) one in
      let bytes = ap (λ (s : MappedShown). s.bytes) one in
      record { count = omega (arith, count); bytes = omega (arith, bytes); most = omega (arith, count, bytes, stops.bytes) }
]

-- a hold leaves what a cache weighs, where chunks of arenas weigh nothing
pub cache_same : (c d : CacheValue) (weigh : Block → ℕ) → ((b : Block) → IsSome b.arena → weigh b ≡ 0) → IfSome c IsSoundCache → IfSome d IsSoundCache → structure_of d ≡ structure_of c → in_cache d weigh ≡ in_cache c weigh
cache_same c d weigh none sound left same =
    omega (arith, in_lists-nothing c weigh sound none, in_lists-nothing d weigh left none, ap (λ (o : Option Block). weight_of o weigh) same)

pub cache_mapped : (c d : CacheValue) → IfSome c IsSoundCache → IfSome d IsSoundCache → structure_of d ≡ structure_of c → in_cache d as_mapped ≡ in_cache c as_mapped
cache_mapped c d sound left same = cache_same c d as_mapped mapped_none sound left same

pub cache_mapped_bytes : (c d : CacheValue) → IfSome c IsSoundCache → IfSome d IsSoundCache → structure_of d ≡ structure_of c → in_cache d as_mapped_bytes ≡ in_cache c as_mapped_bytes
cache_mapped_bytes c d sound left same = cache_same c d as_mapped_bytes bytes_none sound left same

-- a window is only given further
window_grows : {K : Type 0} (old new : Space K) (n : ℕ) → new.thread ≡ old.thread → old.mapped ≤ new.mapped → given_byte n old ≤ given_byte n new
window_grows old new n thread le =
    let start : ℕ = map_start old.thread in
    let whole : old.mapped + (new.mapped - old.mapped) ≡ new.mapped = omega (arith, le) in
    omega (
      arith,
      (covers_adds n).adds start old.mapped (new.mapped - old.mapped),
      ap (covers n start) whole,
      ap (λ t. covers n (map_start t) new.mapped) thread,
    )

-- a hold leaves no less of it
pub framed_window : {P K : Type 0} (m : Means P K) (o z : Outside P K) (n : ℕ) → IsFramed m o z → given_byte n o.space ≤ given_byte n z.space
framed_window m o z n f = window_grows o.space z.space n f.thread f.mapped

-- ---- the account of a chunk that is given back

pub account_given : {P H D K : Type 0} (ways : PlaceWays P H D) (m : Means H K) {t : Tunables} {who : Who} {k k' : KeptArena} {port left : H} {space later : Space K} (b : Block) →
    ShowsMapped m.fast m.dials ways.shown → b.arena ≡ Some k.arena.number →
    Records m t who (acts.Give b.addr b.size) (held k.arena port None space k.journal) (one_chunk (chunk_at b.addr b.size)) finds.Nowhere (held k'.arena left None later k'.journal) → (exact : Bool) →
    IsAccounted ways m.fast k.arena.number exact (λ weigh. weigh b) port k (λ weigh. 0) left k'
account_given ways m {t = t} {k = k} {k' = k'} {port = port} {left = left} {space = space} {later = later} b shows arena r exact =
    let n : ℕ = k.arena.number in
    let ends : EndsCounted ways.shown 0 (beside_arena port None space) (beside_arena left None later) (record { found = growth.Nowhere; arena = k'.arena }) =
    walked_to_end m n ways.shown shows 0 (rules_map_within t (acts.Give b.addr b.size) k.arena) r.walks.walks in
    let same = ends.none (λ d is. absurd cc) in
    record {
      chunks = λ e. covers_any exact _ _ (omega (arith, r.balances.kept e, chunk_is n e b arena));
      others = λ x e other. covers_any exact _ _ (omega (arith, chunk_other n x e b arena other));
      count = covers_any exact _ _ (omega (arith, ap (λ (s : MappedShown). s.count) same, mapped_none b (rw arena refl)));
      bytes = covers_any exact _ _ (omega (arith, ap (λ (s : MappedShown). s.bytes) same, bytes_none b (rw arena refl)));
    }

pub noted_given : {P H D K : Type 0} (ways : PlaceWays P H D) (m : Means H K) {t : Tunables} {who : Who} {at size : ℕ} {before : Held H K} {given : Chunks} {arena : Plain} {left : H} {now : CacheValue} {later : Space K} {journal : List Recorded} →
    ShowsMapped m.fast m.dials ways.shown → Records m t who (acts.Give at size) before given finds.Nowhere (held arena left now later journal) →
    IsNoted ways before.outside.port left before.outside.space.mapped later.mapped
noted_given ways m {t = t} {at = at} {size = size} {before = before} {arena = arena} {left = left} {now = now} {later = later} shows r =
    let ends : EndsCounted ways.shown 0 before.outside (beside_arena left now later) (record { found = growth.Nowhere; arena = arena }) =
    walked_to_end m before.arena.number ways.shown shows 0 (rules_map_within t (acts.Give at size) before.arena) r.walks.walks in
    let frame : IsFramed m before.outside (beside_arena left now later) = walked_frame {m = m} r.walks.walks in
    record { count = omega (arith, ap (λ (s : MappedShown). s.count) (ends.none (λ d is. absurd cc)), frame.mapped); bytes = ends.bytes }

pub account_given_short : {P H D K : Type 0} (ways : PlaceWays P H D) (m : Means H K) {t : Tunables} {who : Who} {k k' : KeptArena} {port left : H} {space later : Space K} (b : Block) →
    ShowsMapped m.fast m.dials ways.shown → b.arena ≡ Some k.arena.number →
    RecordsShort m t who (acts.Give b.addr b.size) (held k.arena port None space k.journal) (one_chunk (chunk_at b.addr b.size)) (held k'.arena left None later k'.journal) →
    IsAccounted ways m.fast k.arena.number false (λ weigh. weigh b) port k (λ weigh. 0) left k'
account_given_short ways m {t = t} {k = k} {port = port} {left = left} {space = space} {later = later} b shows arena r =
    let n : ℕ = k.arena.number in
    let stops : StopsCounted ways.shown 0 (beside_arena port None space) (beside_arena left None later) =
    walked_short m n ways.shown shows 0 (rules_map_within t (acts.Give b.addr b.size) k.arena) r.stops.reaches.walks in
    let frame : IsFramed m (beside_arena port None space) (beside_arena left None later) = walked_frame {m = m} r.stops.reaches.walks in
    let short : IsShort ways.shown (beside_arena port None space) (beside_arena left None later) = short_mapped frame.mapped stops in
    record {
      chunks = λ e. omega (arith, r.loses.kept e, chunk_is n e b arena);
      others = λ x e other. omega arith;
      count = omega (arith, short.count);
      bytes = omega (arith, short.bytes);
    }

-- nothing changed
pub account_none : {P H D : Type 0} (ways : PlaceWays P H D) (fast : Fast H) (a : ℕ) (hands some : Hands) (port : H) (k : KeptArena) → ((weigh : Block → ℕ) → some weigh ≤ hands weigh) →
    IsAccounted ways fast a false hands port k some port k
account_none ways fast a hands some port k fewer = record {
  chunks = λ e. omega (arith, fewer (as_chunk_of a e));
  others = λ n e other. fewer (as_chunk_of n e);
  count = omega (arith, fewer as_mapped);
  bytes = omega (arith, fewer as_mapped_bytes);
}

-- ---- what an unlocked hold keeps

pub carries_held : {P H D K : Type 0} {ways : PlaceWays P H D} {fast : Fast H} {places new : P} {a : ℕ} {port left : H} {before after : KeptArena} (well : Bool) (given got : Hands) (space later : Space K) →
    IsUnlocked ways fast places a port before left after new → ((exact : Bool) → (exact ≡ true → well ≡ true) → IsAccounted ways fast a exact given port before got left after) →
    IsNoted ways port left space.mapped later.mapped → ((n : ℕ) → got (as_mapped_byte n) + given_byte n space ≤ given (as_mapped_byte n) + given_byte n later) → later.windows ≡ space.windows →
    Carries ways well given (standing places space) got (standing new later)
carries_held well given got space later u account noted mapped windows = record {
  serves = λ exact known others s. u.serves exact given got others (account exact known) s;
  notes = λ others n. u.notes space.mapped later.mapped others noted n;
  mapped = mapped;
  tunables = u.tunables;
  windows = windows;
  whole = u.whole;
  writes = u.writes;
}

-- where memory was short nothing is known exactly
pub only_least : (A : Bool → Type 0) → A false → (exact : Bool) → (exact ≡ true → false ≡ true) → A exact
only_least A least true known = let e : false ≡ true = known refl in absurd cc
only_least A least false known = least
