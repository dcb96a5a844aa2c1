-- What a resize and an aligned search did, recorded.
use Rattle.std.proofs.Common.{◌≡◌, ℕ, List, [], ◌∷◌, ◌++◌, Result, Ok, Err, refl, sym, subst, inr, arith}
use Rattle.chunk_tags.specs.declared.block.Block.{Block}
use Rattle.chunk_tags.specs.declared.refusals.NoMemory.{NoMemory}
use Rattle.chunk_tags.specs.declared.tiles.Chunk.{Chunk}
use Rattle.chunk_tags.specs.declared.tunables.Tunables.{Tunables}
use Rattle.address_space.specs.declared.space.Space.{Space}
use Rattle.thread_cache.specs.Caches.{CacheValue}
use Rattle.arena_rules.specs.declared.said.Said.{Said}
use Rattle.arena_rules.specs.Align.{align_of}
use Rattle.arena_rules.specs.PlainArena.{Plain}
use Rattle.consolidate_trim.specs.Holds.{no_chunk, one_chunk}
use Rattle.consolidate_trim.specs.Outside.{Means}
use Rattle.arena_growth.specs.Ledgers.{stage}
use Rattle.arena_growth.proofs.Balance.{balances_as}
use Rattle.arena_growth.specs.declared.found.Found.{Found}
use Rattle.arena_growth.specs.declared.found.Found.TheVariants as finds
use Rattle.arena_growth.specs.Asking.{Finds, beside_arena, found_of}
use Rattle.arena_core.specs.declared.journal.Act.TheVariants as acts
use Rattle.arena_core.specs.declared.journal.Ended.TheVariants.{Short}
use Rattle.arena_core.specs.declared.journal.Who.{Who}
use Rattle.arena_core.specs.declared.take.Take.{Take}
use Rattle.arena_core.specs.Arenas.{Held, RecordsShort, chunks_got, held, recorded}
use Rattle.arena_core.specs.Journal.{Recorded}
use Rattle.arena_core.specs.Replay.{IsReplay, chunk_at, ended_found, ended_aligned}
use Rattle.arena_core.proofs.Recording.{CanAct, short_replay}
use Rattle.realloc_align.specs.declared.resizing.Stranded.{Stranded}
use Rattle.realloc_align.specs.declared.to_size.Resized.{Resized}
use Rattle.realloc_align.specs.Aligns.{FitsAligned}
use Rattle.realloc_align.specs.Calls.{ResizesBlock, ResizesShort, AlignsBlock, FitsTake, resize_to, block_of_resize, aligned_take}
use Rattle.realloc_align.specs.Resizes.{Resizes, chunks_kept}

-- ---- a resize

-- the block's chunk, as the journal's law counts it
got_kept : (at size nb : ℕ) (found : Found) (e : Chunk) → chunks_kept (chunk_at at size) found e ≡ chunks_got (acts.Resize at size nb) found e
got_kept at size nb (finds.InArena c) e = refl
got_kept at size nb (finds.InMapping c) e = refl
got_kept at size nb finds.Nowhere e = refl

pub resize_recorded : {P K : Type 0} (m : Means P K) (t : Tunables) (who : Who) (b : Block) (nb : ℕ) (x y : Plain) (p q : P) (cache cache' : CacheValue) (space space' : Space K) (said : List Said) (old new : List Recorded) (found : Found) (result : Resized) → let ok : Result Found Stranded = Ok found in
    Resizes m t (chunk_at b.addr b.size) nb (stage x (beside_arena p cache space) []) ok (stage y (beside_arena q cache' space') said) → new ≡ old ++ recorded who (acts.Resize b.addr b.size nb) said (ended_found (found_of found)) ∷ [] → result ≡ resize_to x.number b found →
    ResizesBlock m t who b nb (held x p cache space old) result (held y q cache' space' new)
resize_recorded m t who b nb x y p q cache cache' space space' said old new found result w added came = record {
  found = found;
  came = came;
  records = record { said = said; added = added; walks = w.walk.done; balances = balances_as w.keeps (λ e. omega (arith, got_kept b.addr b.size nb found e)) };
}

pub resize_short : {P K : Type 0} (m : Means P K) (t : Tunables) (who : Who) (b : Block) (nb : ℕ) (x y : Plain) (p q : P) (cache cache' : CacheValue) (space space' : Space K) (said : List Said) (old new : List Recorded) (s : Stranded) (back : Block) → let err : Result Found Stranded = Err s in
    Resizes m t (chunk_at b.addr b.size) nb (stage x (beside_arena p cache space) []) err (stage y (beside_arena q cache' space') said) → new ≡ old ++ recorded who (acts.Resize b.addr b.size nb) said Short ∷ [] → back ≡ block_of_resize x.number b s.found →
    ResizesShort m t who b nb (held x p cache space old) back (held y q cache' space' new)
resize_short m t who b nb x y p q cache cache' space space' said old new s back w added came =
    record { said = said; found = s.found; came = came; added = added; stops = w.walk.short; spares = w.spares; strands = w.strands; mapped = w.mapped }

-- want of memory leaves what the journal's replay gives
pub resize_short_replay : {P K : Type 0} {m : Means P K} {t : Tunables} {who : Who} {b : Block} {nb : ℕ} {x y : Held P K} {back : Block} (start : Plain) → CanAct m (acts.Resize b.addr b.size nb) x → ResizesShort m t who b nb x back y → IsReplay t start x.journal x.arena → IsReplay t start y.journal y.arena
resize_short_replay {b = b} start can r old =
    let lost : RecordsShort _ _ _ (acts.Resize b.addr b.size _) _ (one_chunk (chunk_at b.addr b.size)) _ = record {
      said = r.said;
      added = r.added;
      stops = r.stops;
      loses = record { sound = r.spares.sound; number = r.spares.number; windows = r.spares.windows; placed = r.spares.placed; cached = r.spares.cached; others = r.spares.others; kept = λ e. omega (arith, r.spares.kept e) };
    } in
    short_replay start can (inr lost) old

-- ---- an aligned search

pub align_recorded : {P K : Type 0} (m : Means P K) (t : Tunables) (who : Who) (align nb : ℕ) (x y : Plain) (p q : P) (cache cache' : CacheValue) (space space' : Space K) (said : List Said) (old new : List Recorded) (found : Found) (take : Take) → let ok : Result Found NoMemory = Ok found in
    Finds m t (align_of t align nb x) (stage x (beside_arena p cache space) []) ok (stage y (beside_arena q cache' space') said) → new ≡ old ++ recorded who (acts.Align align nb) said (ended_aligned align (found_of found)) ∷ [] → take ≡ aligned_take align x.number found →
    AlignsBlock m t who align nb (held x p cache space old) take (held y q cache' space' new)
align_recorded m t who align nb x y p q cache cache' space space' said old new found take w added is = record {
  found = found;
  taken = is;
  records = record { said = said; added = added; walks = w.walk.done; balances = w.keeps };
}

pub align_short : {P K : Type 0} (m : Means P K) (t : Tunables) (who : Who) (align nb : ℕ) (x y : Plain) (p q : P) (cache cache' : CacheValue) (space space' : Space K) (said : List Said) (old new : List Recorded) (d : NoMemory) → let err : Result Found NoMemory = Err d in
    Finds m t (align_of t align nb x) (stage x (beside_arena p cache space) []) err (stage y (beside_arena q cache' space') said) → new ≡ old ++ recorded who (acts.Align align nb) said Short ∷ [] →
    RecordsShort m t who (acts.Align align nb) (held x p cache space old) no_chunk (held y q cache' space' new)
align_short m t who align nb x y p q cache cache' space space' said old new d w added = record { said = said; added = added; stops = w.walk.short; loses = w.spares }

-- the block that is taken is enough, and aligned
pub take_fits : (align nb number : ℕ) (found : Found) (take : Take) → take ≡ aligned_take align number found → FitsAligned align nb found → FitsTake align nb take
take_fits align nb number found take is fits =
    let cases : (found : Found) → FitsAligned align nb found → FitsTake align nb (aligned_take align number found) = elim [
      | finds.InArena c ↦ λ fits. fits
      | finds.InMapping c ↦ λ fits. fits.block
      | finds.Nowhere ↦ λ fits. tt
    ] in
    subst (FitsTake align nb) (sym is) (cases found fits)
