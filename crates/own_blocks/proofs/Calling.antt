-- Laws of the parts of a call: opening the cache, and a block beside the others of a thread.
use Rattle.std.proofs.Common.{◌≡◌, ℕ, Bool, true, false, Option, Some, None, refl, arith}
use Rattle.std.specs.Prelude.{Result, Ok, Err, OnOk, OnErr, is_ok}
use Rattle.chunk_tags.specs.Sizes.{structure_bytes, structure_size}
use Rattle.chunk_tags.specs.declared.block.Block.{Block}
use Rattle.chunk_tags.specs.declared.tunables.Tunables.{Tunables}
use Rattle.thread_cache.specs.Caches.{CacheValue, is_open, opened_cache}
use Rattle.arena_core.specs.declared.journal.Act.TheVariants as acts
use Rattle.arena_core.specs.declared.journal.Who.{Who}
use Rattle.arena_holds.specs.Calls.{Call}
use Rattle.arena_holds.specs.Going.{Does}
use Rattle.arena_holds.specs.Holding.{Finds}
use Rattle.arena_holds.specs.Places.{PlaceWays, Setting, Standing, Carries, Hands, both_of, weight_of, in_cache}
use Rattle.arena_holds.specs.Searching.{search}
use Rattle.own_blocks.specs.Calls.{opening, cache_with_structure}
use Rattle.block_names.specs.Names.{NameTable, has_place, block_at, with_block, without_block}
use Rattle.own_blocks.specs.Own.{in_names, in_own}
use Rattle.own_blocks.specs.declared.own.Own.{Own}
use Rattle.arena_holds.proofs.Going.{does_here, does_last}
use Rattle.arena_holds.proofs.Carrying.{SameLaw, FewerLaw, carries_as, carries_beside, carries_fewer, carries_short}
use Rattle.block_names.proofs.Tables.{without_none, place_of, place_kept}
use Rattle.own_blocks.proofs.Weights.{in_names-with, in_names-without, in_cache-opened, in_cache-closed}

-- ---- opening

pub opening_here : {P H D K : Type 0} (s : Setting P H D K) (t : Tunables) (who : Who) (thread : ℕ) (cache : CacheValue) (o : Standing P K) →
    is_open cache ≡ true → Does s t who (opening t thread cache) o cache o
opening_here s t who thread cache o e = rw e (does_here cache o)

pub opening_found : {P H D K : Type 0} {s : Setting P H D K} {t : Tunables} {who : Who} {left : CacheValue} {o z : Standing P K}
    {place : ℕ} (thread : ℕ) (cache : CacheValue) (block : Option Block) → is_open cache ≡ false →
    Finds s t who (search t thread structure_bytes structure_bytes (acts.Take structure_size) cache) (acts.Take structure_size) cache o place block left z →
    Does s t who (opening t thread cache) o (cache_with_structure t block left) z
opening_found {t = t} thread cache block closed h = rw closed (does_last (λ x. cache_with_structure t x.block x.cache) h.does)

-- the cache was opened in a chunk, or memory was short for that
pub opened_does : {P H D K E : Type 0} {s : Setting P H D K} {t : Tunables} {who : Who} {c : Call CacheValue} {o z : Standing P K} (now after : CacheValue)
    (r : Result (Unit {0}) E) → OnOk r (now ≡ after) → Does s t who c o after z → OnOk r (Does s t who c o now z)
opened_does now after (Ok u) e d = rw e d
opened_does now after (Err x) e d = tt

pub opened_carries : {P H D K E : Type 0} {ways : PlaceWays P H D} {o z : Standing P K} (structure : Block) (count bins : ℕ) (cache left now : CacheValue)
    (r : Result (Unit {0}) E) → SameLaw ways → FewerLaw ways → is_open left ≡ false → OnOk r (now ≡ opened_cache structure count bins) → OnErr r (now ≡ left) →
    Carries ways true (in_cache cache) o (both_of (weight_of (Some structure)) (in_cache left)) z → Carries ways (is_ok r) (in_cache cache) o (in_cache now) z
opened_carries structure count bins cache left now (Ok u) same fewer closed e short c = rw e
    (carries_as same (in_cache cache) (in_cache (opened_cache structure count bins)) (λ w. refl)
    (λ w. omega (arith, in_cache-opened structure count bins w, in_cache-closed left w closed)) c)
opened_carries structure count bins cache left now (Err x) same fewer closed e short c =
    rw short (carries_fewer fewer (in_cache left) (λ w. omega arith) (carries_short c))

-- ---- beside others

-- the thread's named blocks stay given out while its cache changes
pub carries_cache : {P H D K : Type 0} {ways : PlaceWays P H D} {well : Bool} {o z : Standing P K} → SameLaw ways →
    (cache left : CacheValue) (names : NameTable) → Carries ways well (in_cache cache) o (in_cache left) z →
    Carries ways well (in_own (record { cache = cache; names = names })) o (in_own (record { cache = left; names = names })) z
carries_cache same cache left names c =
    carries_as same (in_own (record { cache = cache; names = names })) (in_own (record { cache = left; names = names })) (λ w. omega arith) (λ w. omega arith)
    (carries_beside same (in_names names) c)

-- a block in hand stays so while the cache changes
pub carries_hand : {P H D K : Type 0} {ways : PlaceWays P H D} {well : Bool} {o z : Standing P K} → SameLaw ways →
    (b : Block) (cache left : CacheValue) → Carries ways well (in_cache cache) o (in_cache left) z →
    Carries ways well (both_of (λ weigh. weigh b) (in_cache cache)) o (both_of (λ weigh. weigh b) (in_cache left)) z
carries_hand same b cache left c =
    carries_as same (both_of (λ weigh. weigh b) (in_cache cache)) (both_of (λ weigh. weigh b) (in_cache left)) (λ w. omega arith) (λ w. omega arith)
    (carries_beside same (λ weigh. weigh b) c)

-- hands stay so while a block is given up
pub carries_given : {P H D K : Type 0} {ways : PlaceWays P H D} {well : Bool} {o z : Standing P K} → SameLaw ways → (b : Block) (hands : Hands) →
    Carries ways well (λ weigh. weigh b) o (λ weigh. 0) z → Carries ways well (both_of (λ weigh. weigh b) hands) o hands z
carries_given same b hands c =
    carries_as same (both_of (λ weigh. weigh b) hands) hands (λ w. refl) (λ w. omega arith) (carries_beside same hands c)

-- a block that left its name, beside the others
pub own_unnamed : (own : Own) (name : ℕ) (b : Block) (cache : CacheValue) (left : NameTable) → block_at own.names name ≡ Some b →
    cache ≡ own.cache → left ≡ without_block name own.names → (weigh : Block → ℕ) →
    in_own own weigh ≡ both_of (λ w. w b) (in_own (record { cache = cache; names = left })) weigh
own_unnamed own name b cache left at same e weigh = rw (same, e) (omega (arith, in_names-without name b own.names at weigh))

-- the name has another block then, or none
pub carries_renamed : {P H D K : Type 0} {ways : PlaceWays P H D} {well : Bool} {o z : Standing P K} → SameLaw ways →
    (name : ℕ) (b c : Block) (own : Own) (left : CacheValue) (taken names : NameTable) →
    block_at own.names name ≡ Some b → taken ≡ without_block name own.names → names ≡ with_block name c taken →
    Carries ways well (both_of (λ weigh. weigh b) (in_cache own.cache)) o (both_of (λ weigh. weigh c) (in_cache left)) z →
    Carries ways well (in_own own) o (in_own (record { cache = left; names = names })) z
carries_renamed same name b c own left taken names at gone put h =
    let room : has_place taken name ≡ true = rw gone (place_kept name None own.names (place_of own.names name b at)) in
    let empty : block_at taken name ≡ None = rw gone (without_none name own.names) in
    carries_as same (in_own own) (in_own (record { cache = left; names = names }))
    (λ w. omega (arith, own_unnamed own name b own.cache taken at refl gone w))
    (λ w. rw put (omega (arith, in_names-with name c taken w room empty)))
    (carries_beside same (in_names taken) h)

pub carries_unnamed : {P H D K : Type 0} {ways : PlaceWays P H D} {well : Bool} {o z : Standing P K} → SameLaw ways →
    (name : ℕ) (b : Block) (own : Own) (left : CacheValue) (taken : NameTable) → block_at own.names name ≡ Some b → taken ≡ without_block name own.names →
    Carries ways well (both_of (λ weigh. weigh b) (in_cache own.cache)) o (in_cache left) z →
    Carries ways well (in_own own) o (in_own (record { cache = left; names = taken })) z
carries_unnamed same name b own left taken at gone h =
    carries_as same (in_own own) (in_own (record { cache = left; names = taken }))
    (λ w. omega (arith, own_unnamed own name b own.cache taken at refl gone w)) (λ w. omega arith)
    (carries_beside same (in_names taken) h)
