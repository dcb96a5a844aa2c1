-- What a hold found, or what comes back of it, as a block in somebody's hands: the account of the hold, and that the block may
-- be held.
use Rattle.std.proofs.Common.{◌≡◌, ℕ, ◌+◌, ◌<◌, ◌≤◌, Bool, false, ◌&&◌, cond, List, [], Option, Some, None, inl, inr, refl, sym, ap, ◌∙◌, arith}
use Rattle.std.proofs.Math.Bool.{and-false}
use Rattle.std.specs.Prelude.{nat_eq, nat_le, is_some, ◌%◌, IfSome, IsSome}
use Rattle.std.proofs.lemmas.Bool.Decides.{nat_tests}
use Rattle.chunk_tags.specs.BinOrder.{once, same_chunk}
use Rattle.chunk_tags.specs.Sizes.{IsChunkSize}
use Rattle.chunk_tags.specs.declared.block.Block.{Block}
use Rattle.chunk_tags.specs.declared.tiles.Chunk.{Chunk}
use Rattle.chunk_tags.specs.declared.tunables.Tunables.{Tunables}
use Rattle.address_space.specs.Spaces.{map_start, map_limit}
use Rattle.address_space.specs.declared.space.Space.{Space}
use Rattle.thread_cache.specs.Caches.{CacheValue}
use Rattle.thread_cache.specs.Held.{IsSoundCache}
use Rattle.arena_rules.specs.PlainArena.{Plain, IsSound, times_used}
use Rattle.arena_rules.specs.MainPlaces.{covers}
use Rattle.arena_rules.specs.Rules.{Rules, Stop, behind, block_of}
use Rattle.arena_rules.specs.Moves.{tile_of}
use Rattle.arena_rules.proofs.Bins.{once_self}
use Rattle.arena_rules.proofs.Changes.{tile_is}
use Rattle.arena_rules.proofs.Covered.{covers_adds}
use Rattle.arena_rules.proofs.Counts.{used_tile}
use Rattle.chunk_tags.specs.Tiles.{IsTile}
use Rattle.chunk_tags.specs.declared.tiles.TileKind.TheVariants.{Used}
use Rattle.arena_rules.specs.Growth as growth
use Rattle.arena_rules.specs.Walks.{StopsShort}
use Rattle.arena_rules.specs.declared.said.Said.{Said}
use Rattle.mapped_chunks.specs.Mappings.{mapping_start}
use Rattle.chunk_tags.specs.Pages.{mapping_length}
use Rattle.realloc_align.specs.Calls as resizes
use Rattle.realloc_align.specs.Resizes.{Spares, StopsInMapping, chunks_kept}
use Rattle.arena_rules.specs.Release.{released}
use Rattle.arena_rules.specs.Mapped.{NeverMaps}
use Rattle.arena_rules.specs.KeptMappings.{StopsAs, IsNotMapped}
use Rattle.arena_rules.proofs.Mapped.{never_behind, released_never_maps}
use Rattle.arena_rules.proofs.KeptMappings.{stops_behind, within_never}
use Rattle.arena_rules.proofs.Walks.{short_behind}
use Rattle.consolidate_trim.specs.Holds.{Chunks, no_chunk, one_chunk}
use Rattle.consolidate_trim.specs.Outside.{Means, Outside, ways}
use Rattle.consolidate_trim.proofs.HoldSteps.{block_is, block_other}
use Rattle.arena_growth.specs.Ledgers.{Ledger, Stage, Loses, stage, full}
use Rattle.arena_growth.specs.Asking.{beside_arena, found_of}
use Rattle.arena_growth.specs.declared.found.Found.{Found}
use Rattle.arena_growth.specs.declared.found.Found.TheVariants as finds
use Rattle.arena_core.specs.Arenas.{Held, held, Records, mapped_block, chunks_got}
use Rattle.arena_core.specs.Replay.{chunk_at, found_nothing, rules_of}
use Rattle.arena_core.specs.Shown.{MappedShown, ShowsMapped, EndsCounted, StopsCounted, IsCounted}
use Rattle.arena_core.specs.Journal.{Recorded}
use Rattle.arena_core.proofs.Mapped.{IsFramed, walked_frame, walked_to_end, walked_short, rules_map_within, request_of}
use Rattle.arena_core.specs.declared.journal.Act.{Act}
use Rattle.arena_core.specs.declared.journal.Act.TheVariants as acts
use Rattle.arena_core.specs.declared.journal.Who.{Who}
use Rattle.arena_holds.specs.Places.{KeptArena, PlaceWays, both_of, weight_of, in_cache, as_chunk_of, as_mapped, as_mapped_bytes, as_mapped_byte, last_byte, given_byte}
use Rattle.block_names.specs.Blocks.{IsHeld}
use Rattle.arena_holds.specs.Returning.{IsAccounted, IsNoted}
use Rattle.arena_holds.proofs.Holds.{chunk_is, chunk_other, mapped_none, bytes_none, byte_none, cached_is, covers_any, IsShort, short_mapped, cache_same, cache_mapped, cache_mapped_bytes, framed_window}

-- What was found, as a block of the arena with a number, or as one in a mapping; where nothing was, the one in hand, if any.
abbrev pub block_found : (Chunk → Block) → Option Block → ℕ → Found → Option Block
block_found mapped o n (finds.InArena c) = Some (block_of n c)
block_found mapped o n (finds.InMapping c) = Some (mapped c)
block_found mapped o n finds.Nowhere = o

-- a mapping as a search for so many bytes finds it
pub record IsWhole (nb : ℕ) (c : Chunk) : Type 0 where
  pub page : c.at % 4096 ≡ 0
  pub length : c.size ≡ mapping_length nb

-- a block that fills a mapping behind its lead
pub record Fills (c : Chunk) (b : Block) : Type 0 where
  pub arena : b.arena ≡ None
  pub start : b.addr ≡ c.at + b.lead
  pub length : b.lead + b.size ≡ c.size
  pub chunk : IsChunkSize b.size

-- what is found in a mapping fills it
abbrev pub FillsFound : (Chunk → Block) → ℕ → Found → Type 0
FillsFound mapped nb found = (c : Chunk) → found ≡ finds.InMapping c → IsWhole nb c → Fills c (mapped c)

-- the block in hand in a hold for an act, if any, and the chunks
pub record Handles (act : Act) (n : ℕ) (given : Chunks) (o : Option Block) : Type 0 where
  pub own : IfSome o (λ b. b.arena ≡ Some n)
  pub hand : (e : Chunk) → weight_of o (as_chunk_of n e) ≡ given e
  pub arena : (c e : Chunk) → chunks_got act (finds.InArena c) e ≡ once e c
  pub mapping : (c e : Chunk) → chunks_got act (finds.InMapping c) e ≡ 0
  pub nowhere : (e : Chunk) → chunks_got act finds.Nowhere e ≡ given e

pub handles_take : (nb n : ℕ) → Handles (acts.Take nb) n no_chunk None
handles_take nb n = record { own = tt; hand = λ e. refl; arena = λ c e. refl; mapping = λ c e. refl; nowhere = λ e. refl }

pub handles_align : (align nb n : ℕ) → Handles (acts.Align align nb) n no_chunk None
handles_align align nb n = record { own = tt; hand = λ e. refl; arena = λ c e. refl; mapping = λ c e. refl; nowhere = λ e. refl }

pub handles_resize : (b : Block) (nb n : ℕ) → b.arena ≡ Some n → Handles (acts.Resize b.addr b.size nb) n (one_chunk (chunk_at b.addr b.size)) (Some b)
handles_resize b nb n arena = record {
  own = arena;
  hand = λ e. chunk_is n e b arena;
  arena = λ c e. refl;
  mapping = λ c e. refl;
  nowhere = λ e. refl;
}

-- a block in hand is of the arena: it is no chunk of another, and no mapped one
own_other : (o : Option Block) (n x : ℕ) (e : Chunk) → IfSome o (λ b. b.arena ≡ Some n) → (x ≡ n → ⊥) → weight_of o (as_chunk_of x e) ≡ 0
own_other None n x e own other = refl
own_other (Some b) n x e own other = chunk_other n x e b own other

own_none : (o : Option Block) (n : ℕ) (weigh : Block → ℕ) → IfSome o (λ b. b.arena ≡ Some n) → ((b : Block) → IsSome b.arena → weigh b ≡ 0) → weight_of o weigh ≡ 0
own_none None n weigh own none = refl
own_none (Some b) n weigh own none = none b (rw own refl)

-- a block of no arena is a chunk of none
mapped_chunk : (n : ℕ) (e : Chunk) (b : Block) → b.arena ≡ None → as_chunk_of n e b ≡ 0
mapped_chunk n e b arena =
    let c : Chunk = chunk_at b.addr b.size in
    ap {B = ℕ} (λ (o : Option ℕ). cond (same_chunk e c && (elim o [ None ↦ false | Some x ↦ nat_eq x n ])) 1 0) arena ∙ ap {B = ℕ} (λ (b : Bool). cond b 1 0) (and-false (same_chunk e c))

mapped_one : (b : Block) → b.arena ≡ None → as_mapped b ≡ 1
mapped_one b arena = rw arena refl

mapped_bytes_of : (c : Chunk) (b : Block) → Fills c b → as_mapped_bytes b ≡ c.size
mapped_bytes_of c b fills = rw fills.arena fills.length

found_chunk : {act : Act} {n : ℕ} {given : Chunks} {o : Option Block} (mapped : Chunk → Block) (e : Chunk) (found : Found) → Handles act n given o →
    ((c : Chunk) → found ≡ finds.InMapping c → Fills c (mapped c)) → weight_of (block_found mapped o n found) (as_chunk_of n e) ≡ chunks_got act found e
found_chunk {n = n} mapped e (finds.InArena c) h fills = block_is n e c ∙ sym (h.arena c e)
found_chunk {n = n} mapped e (finds.InMapping c) h fills = mapped_chunk n e (mapped c) (fills c refl).arena ∙ sym (h.mapping c e)
found_chunk mapped e finds.Nowhere h fills = h.hand e ∙ sym (h.nowhere e)

found_other : {act : Act} {n : ℕ} {given : Chunks} {o : Option Block} (mapped : Chunk → Block) (x : ℕ) (e : Chunk) (found : Found) → Handles act n given o →
    ((c : Chunk) → found ≡ finds.InMapping c → Fills c (mapped c)) → (x ≡ n → ⊥) → weight_of (block_found mapped o n found) (as_chunk_of x e) ≡ 0
found_other {n = n} mapped x e (finds.InArena c) h fills other = block_other n x e c other
found_other {n = n} mapped x e (finds.InMapping c) h fills other = mapped_chunk x e (mapped c) (fills c refl).arena
found_other {n = n} {o = o} mapped x e finds.Nowhere h fills other = own_other o n x e h.own other

-- mapped chunks: what is shown, and what was got
found_mapped : {P K : Type 0} {act : Act} {n : ℕ} {given : Chunks} {o : Option Block} {shown : P → MappedShown} {nb : ℕ} {x z : Outside P K} {arena : Plain} (mapped : Chunk → Block) (found : Found) → Handles act n given o →
    ((c : Chunk) → found ≡ finds.InMapping c → Fills c (mapped c)) → EndsCounted shown nb x z (record { found = found_of found; arena = arena }) →
    (weight_of (block_found mapped o n found) as_mapped + (shown x.port).count ≡ (shown z.port).count)
    × (weight_of (block_found mapped o n found) as_mapped_bytes + (shown x.port).bytes ≡ (shown z.port).bytes)
    × ((shown z.port).count + x.space.mapped ≤ (shown x.port).count + z.space.mapped)
found_mapped {shown = shown} mapped (finds.InArena c) h fills ends =
    let same = ends.none (λ d is. absurd cc) in
    let count = ap (λ (s : MappedShown). s.count) same in
    let bytes = ap (λ (s : MappedShown). s.bytes) same in
    (omega (arith, count), omega (arith, bytes), omega (arith, count, bytes, ends.bytes))
found_mapped {shown = shown} {nb = nb} mapped (finds.InMapping c) h fills ends =
    let one = ends.one c refl in
    let count = ap (λ (s : MappedShown). s.count) one.shows in
    let bytes = ap (λ (s : MappedShown). s.bytes) one.shows in (
      omega (arith, count, mapped_one (mapped c) (fills c refl).arena),
      omega (arith, bytes, mapped_bytes_of c (mapped c) (fills c refl)),
      omega (arith, count, bytes, ends.bytes, one.length),
    )
found_mapped {n = n} {o = o} {shown = shown} mapped finds.Nowhere h fills ends =
    let same = ends.none (λ d is. absurd cc) in
    let count = ap (λ (s : MappedShown). s.count) same in
    let bytes = ap (λ (s : MappedShown). s.bytes) same in
    (omega (arith, count, own_none o n as_mapped h.own mapped_none), omega (arith, bytes, own_none o n as_mapped_bytes h.own bytes_none), omega (arith, count, bytes, ends.bytes))

-- ---- the bytes of mapped chunks

chunk_byte : (n : ℕ) (c : Chunk) → 0 < c.size → as_mapped_byte n (mapped_block c) ≡ covers n c.at c.size
chunk_byte n c some = grind (arith, nat_tests)

-- a block that fills a mapping has its bytes, with those of the lead
pub block_byte : (n : ℕ) (c : Chunk) (b : Block) → Fills c b → as_mapped_byte n b ≡ covers n c.at c.size
block_byte n c b fills =
    let start : mapping_start b ≡ mapping_start (mapped_block c) = omega (arith, fills.start) in
    let last : last_byte b ≡ last_byte (mapped_block c) = omega (arith, fills.start, fills.length, fills.chunk.0) in
    ap {B = ℕ} (λ (a : Option ℕ). cond (is_some a) 0 (cond (nat_le (mapping_start b) n && nat_le n (last_byte b)) 1 0)) fills.arena
    ∙ (ap {B = ℕ} (λ (i : ℕ). cond (nat_le i n && nat_le n (last_byte b)) 1 0) start
    ∙ (ap {B = ℕ} (λ (i : ℕ). cond (nat_le (mapping_start (mapped_block c)) n && nat_le n i) 1 0) last
    ∙ chunk_byte n c (omega (arith, fills.length, fills.chunk.0))))

-- a mapping that was counted has the bytes that the window gave
counted_byte : {P K : Type 0} {shown : P → MappedShown} {nb : ℕ} (m : Means P K) (x z : Outside P K) (n : ℕ) (c : Chunk) (b : Block) → IsFramed m x z → IsCounted shown nb x z c → Fills c b →
    as_mapped_byte n b + given_byte n x.space ≤ given_byte n z.space
counted_byte m x z n c b f one fills =
    let start : ℕ = map_start x.space.thread in
    let thread : map_start z.space.thread ≡ start = ap map_start f.thread in
    let length : x.space.mapped + c.size ≡ z.space.mapped = omega (arith, one.place, one.behind, thread) in
    omega (
      arith,
      block_byte n c b fills,
      ap (λ at. covers n at c.size) one.place,
      (covers_adds n).adds start x.space.mapped c.size,
      ap (covers n start) length,
      ap (λ at. covers n at z.space.mapped) thread,
    )

-- so has what was found
found_byte : {P K : Type 0} {act : Act} {number : ℕ} {given : Chunks} {o : Option Block} {shown : P → MappedShown} {nb : ℕ} {arena : Plain} (m : Means P K) (x z : Outside P K) (n : ℕ) (mapped : Chunk → Block) (found : Found) → Handles act number given o →
    ((c : Chunk) → found ≡ finds.InMapping c → Fills c (mapped c)) → IsFramed m x z → EndsCounted shown nb x z (record { found = found_of found; arena = arena }) →
    weight_of (block_found mapped o number found) (as_mapped_byte n) + given_byte n x.space ≤ given_byte n z.space
found_byte m x z n mapped (finds.InArena c) h fills f ends = omega (arith, framed_window m x z n f)
found_byte {number = number} {o = o} m x z n mapped finds.Nowhere h fills f ends = omega (arith, framed_window m x z n f, own_none o number (as_mapped_byte n) h.own (byte_none n))
found_byte m x z n mapped (finds.InMapping c) h fills f ends = counted_byte m x z n c (mapped c) f (ends.one c refl) (fills c refl)

-- a mapping that was counted is whole
whole_counted : {P K : Type 0} {shown : P → MappedShown} {nb : ℕ} {x z : Outside P K} (c : Chunk) → IsCounted shown nb x z c → IsWhole nb c
whole_counted c one = record { page = one.page; length = one.length }

-- what a hold ended with fills its mapping
fills_ended : {P K : Type 0} {shown : P → MappedShown} {nb : ℕ} {x z : Outside P K} {arena : Plain} (mapped : Chunk → Block) (found : Found) → FillsFound mapped nb found →
    EndsCounted shown nb x z (record { found = found_of found; arena = arena }) → (c : Chunk) → found ≡ finds.InMapping c → Fills c (mapped c)
fills_ended mapped found fills ends c is = fills c is (whole_counted c (ends.one c (ap found_of is)))

pub found_whole : {P H D K : Type 0} (ways : PlaceWays P H D) (m : Means H K) {t : Tunables} {who : Who} {act : Act} {given : Chunks} {before after : Held H K} (found : Found) → ShowsMapped m.fast m.dials ways.shown →
    Records m t who act before given found after → (c : Chunk) → found ≡ finds.InMapping c → IsWhole (request_of act) c
found_whole ways m {t = t} {act = act} {before = before} {after = after} found shows r c is =
    let ends : EndsCounted ways.shown (request_of act) before.outside after.outside (record { found = found_of found; arena = after.arena }) =
    walked_to_end m before.arena.number ways.shown shows (request_of act) (rules_map_within t act before.arena) r.walks.walks in
    whole_counted c (ends.one c (ap found_of is))

-- the thread's blocks after a hold have no bytes in mapped chunks but those
pub mapped_held : {P H D K : Type 0} (ways : PlaceWays P H D) (m : Means H K) {t : Tunables} {who : Who} {act : Act} {given : Chunks} {o : Option Block} {k k' : KeptArena} {port left : H} {cache now : CacheValue} {space later : Space K}
    (mapped : Chunk → Block) (found : Found) (n : ℕ) → Handles act k.arena.number given o → FillsFound mapped (request_of act) found → ShowsMapped m.fast m.dials ways.shown → IfSome cache IsSoundCache → IfSome now IsSoundCache →
    Records m t who act (held k.arena port cache space k.journal) given found (held k'.arena left now later k'.journal) →
    both_of (weight_of (block_found mapped o k.arena.number found)) (in_cache now) (as_mapped_byte n) + given_byte n space ≤ both_of (weight_of o) (in_cache cache) (as_mapped_byte n) + given_byte n later
mapped_held ways m {t = t} {act = act} {k = k} {k' = k'} {port = port} {left = left} {cache = cache} {now = now} {space = space} {later = later} mapped found n handles fills shows sound well r =
    let x : Outside _ _ = beside_arena port cache space in
    let z : Outside _ _ = beside_arena left now later in
    let frame : IsFramed m x z = walked_frame {m = m} r.walks.walks in
    let ends : EndsCounted ways.shown (request_of act) x z (record { found = found_of found; arena = k'.arena }) =
    walked_to_end m k.arena.number ways.shown shows (request_of act) (rules_map_within t act k.arena) r.walks.walks in
    omega (arith, found_byte m x z n mapped found handles (fills_ended mapped found fills ends) frame ends, cache_same cache now (as_mapped_byte n) (byte_none n) sound well frame.structure)

-- ---- the account

-- a hold that went well
pub account_held : {P H D K : Type 0} (ways : PlaceWays P H D) (m : Means H K) {t : Tunables} {who : Who} {act : Act} {given : Chunks} {o : Option Block} {k k' : KeptArena} {port left : H} {cache now : CacheValue} {space later : Space K}
    (mapped : Chunk → Block) (found : Found) → Handles act k.arena.number given o → FillsFound mapped (request_of act) found → ShowsMapped m.fast m.dials ways.shown → IfSome cache IsSoundCache → IfSome now IsSoundCache →
    Records m t who act (held k.arena port cache space k.journal) given found (held k'.arena left now later k'.journal) → (exact : Bool) →
    IsAccounted ways m.fast k.arena.number exact (both_of (weight_of o) (in_cache cache)) port k (both_of (weight_of (block_found mapped o k.arena.number found)) (in_cache now)) left k'
account_held ways m {t = t} {act = act} {given = given} {o = o} {k = k} {k' = k'} {port = port} {left = left} {cache = cache} {now = now} {space = space} {later = later} mapped found handles within shows sound well r exact =
    let n : ℕ = k.arena.number in
    let x : Outside _ _ = beside_arena port cache space in
    let z : Outside _ _ = beside_arena left now later in
    let frame : IsFramed m x z = walked_frame {m = m} r.walks.walks in
    let ends : EndsCounted ways.shown (request_of act) x z (record { found = found_of found; arena = k'.arena }) =
    walked_to_end m n ways.shown shows (request_of act) (rules_map_within t act k.arena) r.walks.walks in
    let fills = fills_ended mapped found within ends in
    let shown = found_mapped mapped found handles fills ends in
    let b = r.balances in
    record {
      chunks = λ e.
          covers_any exact _ _ (omega (
            arith,
            b.kept e,
            found_chunk mapped e found handles fills,
            handles.hand e,
            cached_is n cache e,
            cached_is n now e,
            ap (λ (o : Option Block). weight_of o (as_chunk_of n e)) frame.structure,
          ));
      others = λ i e other.
          covers_any exact _ _ (omega (
            arith,
            b.others i other e,
            found_other mapped i e found handles fills other,
            own_other o n i e handles.own other,
            cached_is i cache e,
            cached_is i now e,
            ap (λ (o : Option Block). weight_of o (as_chunk_of i e)) frame.structure,
          ));
      count = covers_any exact _ _ (omega (arith, shown.0, own_none o n as_mapped handles.own mapped_none, cache_mapped cache now sound well frame.structure));
      bytes = covers_any exact _ _ (omega (arith, shown.1, own_none o n as_mapped_bytes handles.own bytes_none, cache_mapped_bytes cache now sound well frame.structure));
    }

pub noted_held : {P H D K : Type 0} (ways : PlaceWays P H D) (m : Means H K) {t : Tunables} {who : Who} {act : Act} {given : Chunks} {o : Option Block} {before : Held H K} {arena : Plain} {left : H} {now : CacheValue} {later : Space K} {journal : List Recorded}
    (mapped : Chunk → Block) (found : Found) → Handles act before.arena.number given o → FillsFound mapped (request_of act) found → ShowsMapped m.fast m.dials ways.shown →
    Records m t who act before given found (held arena left now later journal) →
    IsNoted ways before.outside.port left before.outside.space.mapped later.mapped
noted_held ways m {t = t} {act = act} {before = before} {arena = arena} {left = left} {now = now} {later = later} mapped found handles fills shows r =
    let ends : EndsCounted ways.shown (request_of act) before.outside (beside_arena left now later) (record { found = found_of found; arena = arena }) =
    walked_to_end m before.arena.number ways.shown shows (request_of act) (rules_map_within t act before.arena) r.walks.walks in
    record { count = (found_mapped mapped found handles (fills_ended mapped found fills ends) ends).2; bytes = ends.bytes }

-- ---- one that memory was too short for

-- what comes back there, if any
pub record ComesBack {P K : Type 0} (shown : P → MappedShown) (n : ℕ) (got : Chunks) (back : Option Block) (x z : Outside P K) : Type 0 where
  pub chunk : (e : Chunk) → weight_of back (as_chunk_of n e) ≡ got e
  pub others : (i : ℕ) (e : Chunk) → (i ≡ n → ⊥) → weight_of back (as_chunk_of i e) ≡ 0
  pub count : weight_of back as_mapped + (shown x.port).count ≤ (shown z.port).count
  pub bytes : weight_of back as_mapped_bytes + (shown x.port).bytes ≤ (shown z.port).bytes
  pub byte : (i : ℕ) → weight_of back (as_mapped_byte i) + given_byte i x.space ≤ given_byte i z.space

-- such a hold has counted no less
stopped_short : {P K : Type 0} (m : Means P K) {t : Tunables} (act : Act) {shown : P → MappedShown} (arena : Plain) {left : Plain} {x z : Outside P K} {ss : List Said} → ShowsMapped m.fast m.dials shown →
    StopsShort t (ways m arena.number) (rules_of t act arena) x [] left ss z → IsShort shown x z
stopped_short m {t = t} act {shown = shown} arena {x = x} {z = z} shows stops =
    let counted : StopsCounted shown (request_of act) x z = walked_short m arena.number shown shows (request_of act) (rules_map_within t act arena) stops.reaches.walks in
    let frame : IsFramed m x z = walked_frame {m = m} stops.reaches.walks in
    short_mapped frame.mapped counted

-- nothing comes back, or a block of the arena
pub own_back : {P K : Type 0} (m : Means P K) {t : Tunables} (act : Act) {shown : P → MappedShown} (arena : Plain) {left : Plain} {x z : Outside P K} {ss : List Said} (got : Chunks) (back : Option Block) → ShowsMapped m.fast m.dials shown →
    StopsShort t (ways m arena.number) (rules_of t act arena) x [] left ss z → IfSome back (λ b. b.arena ≡ Some arena.number) → ((e : Chunk) → weight_of back (as_chunk_of arena.number e) ≡ got e) → ComesBack shown arena.number got back x z
own_back m act {shown = shown} arena {x = x} {z = z} got back shows stops own chunk =
    let short : IsShort shown x z = stopped_short m act arena shows stops in
    let frame : IsFramed m x z = walked_frame {m = m} stops.reaches.walks in
    record {
      chunk = chunk;
      others = λ i e other. own_other back arena.number i e own other;
      count = omega (arith, short.count, own_none back arena.number as_mapped own mapped_none);
      bytes = omega (arith, short.bytes, own_none back arena.number as_mapped_bytes own bytes_none);
      byte = λ i. omega (arith, framed_window m x z i frame, own_none back arena.number (as_mapped_byte i) own (byte_none i));
    }

-- where nothing is in hand, none is spared
pub loses_spared : {O : Type 0} (l : Ledger O) (before after : Stage O) (given : Chunks) → Loses l before given after → Spares l before given no_chunk after
loses_spared l before after given loses = record {
  sound = loses.sound;
  number = loses.number;
  placed = loses.placed;
  windows = loses.windows;
  cached = loses.cached;
  others = loses.others;
  kept = λ e. omega (arith, loses.kept e);
}

pub account_short : {P H D K : Type 0} (ways : PlaceWays P H D) (m : Means H K) {act : Act} {given got : Chunks} {o back : Option Block} {k k' : KeptArena} {port left : H} {cache now : CacheValue} {space later : Space K} {ss : List Said} →
    Handles act k.arena.number given o → ComesBack ways.shown k.arena.number got back (beside_arena port cache space) (beside_arena left now later) → IfSome cache IsSoundCache → IfSome now IsSoundCache → IsFramed m (beside_arena port cache space) (beside_arena left now later) →
    Spares (full m) (stage k.arena (beside_arena port cache space) []) given got (stage k'.arena (beside_arena left now later) ss) →
    IsAccounted ways m.fast k.arena.number false (both_of (weight_of o) (in_cache cache)) port k (both_of (weight_of back) (in_cache now)) left k'
account_short ways m {o = o} {back = back} {k = k} {port = port} {left = left} {cache = cache} {now = now} {space = space} {later = later} handles comes sound well frame spares =
    let n : ℕ = k.arena.number in
    record {
      chunks = λ e. omega (arith, spares.kept e, handles.hand e, comes.chunk e, cached_is n cache e, cached_is n now e, ap (λ (o : Option Block). weight_of o (as_chunk_of n e)) frame.structure);
      others = λ i e other.
          omega (arith, spares.others i other e, own_other o n i e handles.own other, comes.others i e other, cached_is i cache e, cached_is i now e, ap (λ (o : Option Block). weight_of o (as_chunk_of i e)) frame.structure);
      count = omega (arith, comes.count, own_none o n as_mapped handles.own mapped_none, cache_mapped cache now sound well frame.structure);
      bytes = omega (arith, comes.bytes, own_none o n as_mapped_bytes handles.own bytes_none, cache_mapped_bytes cache now sound well frame.structure);
    }

pub mapped_short : {H K : Type 0} (m : Means H K) {shown : H → MappedShown} {number : ℕ} {got : Chunks} (o : Option Block) {back : Option Block} (n : ℕ) (cache now : CacheValue) (port left : H) (space later : Space K) →
    ComesBack shown number got back (beside_arena port cache space) (beside_arena left now later) → IfSome cache IsSoundCache → IfSome now IsSoundCache → IsFramed m (beside_arena port cache space) (beside_arena left now later) →
    both_of (weight_of back) (in_cache now) (as_mapped_byte n) + given_byte n space ≤ both_of (weight_of o) (in_cache cache) (as_mapped_byte n) + given_byte n later
mapped_short m o n cache now port left space later comes sound well frame =
    omega (arith, comes.byte n, cache_same cache now (as_mapped_byte n) (byte_none n) sound well frame.structure)

pub noted_short : {P H D K : Type 0} (places : PlaceWays P H D) (m : Means H K) {t : Tunables} (act : Act) (arena : Plain) {left : Plain} {x z : Outside H K} {ss : List Said} →
    ShowsMapped m.fast m.dials places.shown → StopsShort t (ways m arena.number) (rules_of t act arena) x [] left ss z →
    IsNoted places x.port z.port x.space.mapped z.space.mapped
noted_short places m {t = t} act arena {x = x} {z = z} shows stops =
    let counted : StopsCounted places.shown (request_of act) x z =
    walked_short m arena.number places.shown shows (request_of act) (rules_map_within t act arena) stops.reaches.walks in
    let frame : IsFramed m x z = walked_frame {m = m} stops.reaches.walks in
    record { count = (short_mapped frame.mapped counted).most; bytes = counted.bytes }

-- ---- the block that was found

-- a used chunk of an arena is one that a thread may hold
used_held : (n : ℕ) (c : Chunk) (a : Plain) → IsSound a → 0 < times_used c a → IsHeld (block_of n c)
used_held n c a sound own =
    let tile : IsTile (tile_of Used c.at c.size) = tile_is (tile_of Used c.at c.size) a.tiles sound.row (used_tile c a sound.row own) in
    record { chunk = tile.size; mapped = λ e. absurd cc }

-- so is a block that fills a mapping
pub filled_mapping : (nb : ℕ) (c : Chunk) (b : Block) → c.at % 4096 ≡ 0 → c.size ≡ mapping_length nb → c.at + c.size ≤ map_limit → Fills c b → IsHeld b
filled_mapping nb c b page length limit fills = record {
  chunk = fills.chunk;
  mapped = λ e. record {
    arena = e;
    size = fills.chunk;
    lead = omega (arith, fills.start);
    place = omega (arith, fills.start, fills.length, fills.chunk.0, fills.chunk.1, page, length);
    page = omega (arith, fills.start, page);
    fits = omega (arith, fills.start, fills.length, limit);
  };
}

filled_held : {P K : Type 0} {shown : P → MappedShown} {nb : ℕ} {x z : Outside P K} (c : Chunk) (b : Block) → IsCounted shown nb x z c → Fills c b → IsHeld b
filled_held {nb = nb} c b one fills = filled_mapping nb c b one.page one.length one.limit fills

pub held_found : {H K : Type 0} {m : Means H K} {t : Tunables} {who : Who} {act : Act} {given : Chunks} {o : Option Block} {k k' : KeptArena} {port left : H} {cache now : CacheValue} {space later : Space K} (shown : H → MappedShown) (mapped : Chunk → Block) (found : Found) →
    Handles act k.arena.number given o → FillsFound mapped (request_of act) found → IfSome o IsHeld → ShowsMapped m.fast m.dials shown →
    (fits : (e : Chunk) → m.fast.stock port e + both_of (weight_of o) (in_cache cache) (as_chunk_of k.arena.number e) ≤ times_used e k.arena) →
    Records m t who act (held k.arena port cache space k.journal) given found (held k'.arena left now later k'.journal) → IfSome (block_found mapped o k.arena.number found) IsHeld
held_found {k = k} {k' = k'} {cache = cache} shown mapped (finds.InArena c) handles within old shows fits r =
    let own : 0 < times_used c k'.arena = omega (arith, r.balances.kept c, fits c, handles.hand c, handles.arena c c, cached_is k.arena.number cache c, once_self c) in
    used_held k.arena.number c k'.arena r.balances.sound own
held_found {m = m} {t = t} {act = act} {k = k} {k' = k'} {port = port} {left = left} {cache = cache} {now = now} {space = space} {later = later} shown mapped (finds.InMapping c) handles within old shows fits r =
    let ends : EndsCounted shown (request_of act) (beside_arena port cache space) (beside_arena left now later) (record { found = growth.InMapping c; arena = k'.arena }) =
    walked_to_end m k.arena.number shown shows (request_of act) (rules_map_within t act k.arena) r.walks.walks in
    let one = ends.one c refl in
    filled_held c (mapped c) one (within c refl (whole_counted c one))
held_found shown mapped finds.Nowhere handles within old shows fits r = old

-- ---- the block that comes back of a resize that memory was too short for

-- what is left of a release
abbrev after_release : Plain → Rules growth.Took
after_release a = Stop (found_nothing a)

-- it maps nothing, so it leaves what is shown
release_quiet : {P K : Type 0} (m : Means P K) (number : ℕ) {t : Tunables} {shown : P → MappedShown} {a left : Plain} {c : Chunk} {x z : Outside P K} {old new : List Said} → ShowsMapped m.fast m.dials shown →
    StopsShort t (ways m number) (released t a c) x old left new z → shown z.port ≡ shown x.port
release_quiet m number {t = t} {shown = shown} {a = a} {c = c} {x = x} {z = z} shows stops =
    let never : NeverMaps (behind (released t a c) after_release) = never_behind (released t a c) after_release (released_never_maps t a c) (λ b. tt) in
    let ends : StopsAs IsNotMapped (behind (released t a c) after_release) = stops_behind IsNotMapped (released t a c) after_release (λ b d is. absurd cc) in
    let counted : (nb : ℕ) → StopsCounted shown nb x z = λ nb. walked_short m number shown shows nb (within_never nb (behind (released t a c) after_release) never ends) (short_behind after_release stops).reaches.walks in
    elim (counted 0).counts [
      | inl same ↦ same
      | inr one ↦ elim (counted 4096).counts [
        | inl same ↦ same
        | inr other ↦ let no : ⊥ = omega (arith, ap (λ (s : MappedShown). s.bytes) one, ap (λ (s : MappedShown). s.bytes) other) in absurd no
      ]
    ]

-- a block in a mapping that was found before its old chunk was released
mapping_back : {P K : Type 0} (m : Means P K) {t : Tunables} {nb : ℕ} {shown : P → MappedShown} (arena : Plain) {left : Plain} {c : Chunk} {x z : Outside P K} {ss : List Said} (d : Chunk) → ShowsMapped m.fast m.dials shown →
    StopsInMapping m t c nb (stage arena x []) d (stage left z ss) → ComesBack shown arena.number no_chunk (Some (mapped_block d)) x z × IsHeld (mapped_block d)
mapping_back m {t = t} {nb = nb} {shown = shown} arena {x = x} {z = z} d shows w =
    let p : Outside _ _ = w.between.outside in
    let ends : EndsCounted shown nb x p (record { found = growth.InMapping d; arena = w.between.arena }) =
    walked_to_end m arena.number shown shows nb (rules_map_within t (acts.Take nb) arena) w.finds.walks in
    let one : IsCounted shown nb x p d = ends.one d refl in
    let fills : Fills d (mapped_block d) =
    record { arena = refl; start = omega arith; length = omega arith; chunk = (omega (arith, one.length), omega (arith, one.length)) } in
    let found : IsFramed m x p = walked_frame {m = m} w.finds.walks in
    let then : IsFramed m p z = walked_frame {m = m} w.release.reaches.walks in
    let quiet : shown z.port ≡ shown p.port = release_quiet m arena.number shows w.release in
    let count = ap (λ (s : MappedShown). s.count) (quiet ∙ one.shows) in
    let bytes = ap (λ (s : MappedShown). s.bytes) (quiet ∙ one.shows) in
    let comes : ComesBack shown arena.number no_chunk (Some (mapped_block d)) x z = record {
      chunk = λ e. mapped_chunk arena.number e (mapped_block d) refl;
      others = λ i e other. mapped_chunk i e (mapped_block d) refl;
      count = omega (arith, count, mapped_one (mapped_block d) refl);
      bytes = omega (arith, bytes, mapped_bytes_of d (mapped_block d) fills);
      byte = λ i. omega (arith, counted_byte m x p i d (mapped_block d) found one fills, framed_window m p z i then);
    } in
    (comes, filled_held d (mapped_block d) one fills)

pub resized_back : {H K : Type 0} (m : Means H K) {t : Tunables} {nb : ℕ} {shown : H → MappedShown} (k k' : KeptArena) {port left : H} {cache now : CacheValue} {space later : Space K} {ss : List Said} (b : Block) (found : Found) → ShowsMapped m.fast m.dials shown →
    IsHeld b → b.arena ≡ Some k.arena.number →
    (fits : (e : Chunk) → m.fast.stock port e + both_of (λ weigh. weigh b) (in_cache cache) (as_chunk_of k.arena.number e) ≤ times_used e k.arena) →
    StopsShort t (ways m k.arena.number) (rules_of t (acts.Resize b.addr b.size nb) k.arena) (beside_arena port cache space) [] k'.arena ss (beside_arena left now later) →
    Spares (full m) (stage k.arena (beside_arena port cache space) []) (one_chunk (chunk_at b.addr b.size)) (chunks_kept (chunk_at b.addr b.size) found) (stage k'.arena (beside_arena left now later) ss) →
    ((d : Chunk) → found ≡ finds.InMapping d → StopsInMapping m t (chunk_at b.addr b.size) nb (stage k.arena (beside_arena port cache space) []) d (stage k'.arena (beside_arena left now later) ss)) →
    ComesBack shown k.arena.number (chunks_kept (chunk_at b.addr b.size) found) (Some (resizes.block_of_resize k.arena.number b found)) (beside_arena port cache space) (beside_arena left now later)
    × IsHeld (resizes.block_of_resize k.arena.number b found)
resized_back m {nb = nb} k k' {cache = cache} b (finds.InArena d) shows is_held arena fits stops spares mapped =
    let n : ℕ = k.arena.number in
    let own : 0 < times_used d k'.arena = omega (arith, spares.kept d, fits d, chunk_is n d b arena, cached_is n cache d, once_self d) in
    (own_back m (acts.Resize b.addr b.size nb) k.arena (one_chunk d) (Some (block_of n d)) shows stops refl (λ e. block_is n e d), used_held n d k'.arena spares.sound own)
resized_back m k k' b (finds.InMapping d) shows is_held arena fits stops spares mapped = mapping_back m k.arena d shows (mapped d refl)
resized_back m {nb = nb} k k' b finds.Nowhere shows is_held arena fits stops spares mapped =
    (own_back m (acts.Resize b.addr b.size nb) k.arena (one_chunk (chunk_at b.addr b.size)) (Some b) shows stops arena (λ e. chunk_is k.arena.number e b arena), is_held)
