-- Laws of a block that is got for a request.
use Rattle.std.proofs.Common.{◌≡◌, ℕ, ◌≤◌, Bool, true, false, cond, Option, Some, None, refl, sym, ◌∙◌, subst, arith}
use Rattle.std.specs.Prelude.{Result, Ok, Err, IfOk, OnErr, IsSome, IfSome, option_map}
use Rattle.chunk_tags.specs.Sizes.{padded_request, cache_index_of}
use Rattle.chunk_tags.specs.declared.block.Block.{Block}
use Rattle.chunk_tags.specs.declared.tunables.Tunables.{Tunables}
use Rattle.address_space.specs.Ports.{Rose}
use Rattle.address_space.specs.Spaces.{space_refusals}
use Rattle.thread_cache.specs.Caches.{CacheValue, newest, is_open}
use Rattle.arena_core.specs.Arenas.{need_of}
use Rattle.arena_core.specs.declared.journal.Act.{Act}
use Rattle.arena_core.specs.declared.journal.Act.TheVariants as acts
use Rattle.arena_core.specs.declared.journal.Who.{Who}
use Rattle.block_names.specs.Blocks.{IsHeld}
use Rattle.own_blocks.specs.Own.{newest_of_size, without_newest_of, cached_for}
use Rattle.arena_holds.specs.Calls.{Call, then_call}
use Rattle.arena_holds.specs.Searching.{size_wanted, search}
use Rattle.own_blocks.specs.Calls.{Supplied, supplied_by, opening, origin_of, supply_of, from_arena, from_cache}
use Rattle.own_blocks.specs.declared.reply.Origin.TheVariants.{Cached}
use Rattle.own_blocks.specs.declared.supplying.Supply.{Supply}
use Rattle.arena_holds.specs.Going.{Does}
use Rattle.arena_holds.specs.declared.holding.Search.{Search}
use Rattle.arena_holds.specs.Holding.{Finds}
use Rattle.arena_holds.specs.Places.{PlaceWays, Setting, Standing, Carries, Hands, in_cache}
use Rattle.arena_holds.specs.RunningShort.{RunsShort}
use Rattle.own_blocks.specs.Supplying.{Supplies, block_supplied}
use Rattle.arena_holds.proofs.Going.{does_here, does_last, does_then}
use Rattle.arena_holds.proofs.Carrying.{SameLaw, carries_here, carries_as, carries_then}
use Rattle.own_blocks.proofs.Weights.{in_cache-taken}

-- ---- a block of a hold

abbrev found_in : ℕ → Option Block → Option Supply
found_in place block = option_map (λ b. supply_of b (origin_of place b)) block

block_found : (place : ℕ) (block : Option Block) → block_supplied (found_in place block) ≡ block
block_found place None = refl
block_found place (Some b) = refl

held_found : (place : ℕ) (block : Option Block) → IfSome block IsHeld → IfSome (found_in place block) (λ g. IsHeld g.block)
held_found place None h = h
held_found place (Some b) h = h

fits_found : (nb place : ℕ) (block : Option Block) → IfSome block (λ b. need_of b.arena nb ≤ b.size) →
    IfSome (found_in place block) (λ g. need_of g.block.arena nb ≤ g.block.size)
fits_found nb place None h = h
fits_found nb place (Some b) h = h

none_found : (place : ℕ) (block : Option Block) → found_in place block ≡ None → block ≡ None
none_found place None e = refl
none_found place (Some b) e = absurd cc

pub aligned_found : (place : ℕ) (block : Option Block) (X : Block → Type 0) → IfSome block X → IfSome (found_in place block) (λ g. X g.block)
aligned_found place None X h = h
aligned_found place (Some b) X h = h

-- said of the same cache
pub finds_at : {P H D K E : Type 0} (s : Setting P H D K) (t : Tunables) (who : Who) (thread bytes again : ℕ) (act : Act) (cache now left : CacheValue)
    (o z : Standing P K) (r : Result Search E) → now ≡ cache →
    IfOk r (λ f. Finds s t who (search t thread bytes again act now) act now o f.hold f.block left z) →
    IfOk r (λ f. Finds s t who (search t thread bytes again act cache) act cache o f.hold f.block left z)
finds_at s t who thread bytes again act cache now left o z r same d =
    subst (λ (c : CacheValue). IfOk r (λ f. Finds s t who (search t thread bytes again act c) act c o f.hold f.block left z)) same d

pub short_at : {P H D K A E : Type 0} (s : Setting P H D K) (t : Tunables) (who : Who) (thread bytes again : ℕ) (act : Act) (cache now : CacheValue) (o z : Standing P K) (r : Result A E) → now ≡ cache →
    OnErr r (RunsShort s t who (search t thread bytes again act now) o z) → OnErr r (RunsShort s t who (search t thread bytes again act cache) o z)
short_at s t who thread bytes again act cache now o z r same d = subst (λ (c : CacheValue). OnErr r (RunsShort s t who (search t thread bytes again act c) o z)) same d

-- a search gave it
pub supplies_found : {P H D K : Type 0} {s : Setting P H D K} {t : Tunables} {who : Who} {left : CacheValue} {o z : Standing P K}
    (thread bytes again place : ℕ) (act : Act) (cache : CacheValue) (block : Option Block) (got : Option Supply) → got ≡ found_in place block →
    Finds s t who (search t thread bytes again act cache) act cache o place block left z →
    Supplies s t who (from_arena t thread bytes again act cache) (size_wanted act) cache o got left z
supplies_found thread bytes again place act cache block got e h = rw e (record {
  does = does_last supplied_by h.does;
  held = held_found place block h.gets.held;
  fits = fits_found (size_wanted act) place block h.gets.fits;
  refused = λ none. h.refused (none_found place block none);
  later = h.gets.later;
  carries = rw (block_found place block) h.gets.carries;
})

-- ---- a block of the cache

pub supplies_past : {P H D K E : Type 0} (s : Setting P H D K) (t : Tunables) (who : Who) (thread bytes nb : ℕ) (o z : Standing P K) (cache now left : CacheValue)
    (newest : Option Block) (r : Result (Option Supply) E) → newest ≡ None → now ≡ cache →
    IfOk r (λ got. Supplies s t who (from_arena t thread bytes bytes (acts.Take nb) now) nb now o got left z) →
    IfOk r (λ got. Supplies s t who (from_cache t thread bytes nb newest cache) nb cache o got left z)
supplies_past s t who thread bytes nb o z cache now left newest r none same d =
    rw none (subst (λ (c : CacheValue). IfOk r (λ got. Supplies s t who (from_arena t thread bytes bytes (acts.Take nb) c) nb c o got left z)) same d)

enough_cached : (nb : ℕ) (b : Block) → IsSome b.arena → b.size ≡ nb → need_of b.arena nb ≤ b.size
enough_cached nb b some size =
    let cases : (o : Option ℕ) → IsSome o → need_of o nb ≤ b.size = elim [
      | None ↦ λ h. absurd cc
      | Some n ↦ λ h. omega (arith, size)
    ] in
    cases b.arena some

pub supplies_cached : {P H D K : Type 0} (s : Setting P H D K) (t : Tunables) (who : Who) (thread bytes nb : ℕ) (o : Standing P K) (cache left : CacheValue)
    (newest : Option Block) (b : Block) → SameLaw s.ways → newest ≡ newest_of_size nb cache → newest ≡ Some b → left ≡ without_newest_of nb cache →
    IsHeld b → b.size ≡ nb → IsSome b.arena →
    Supplies s t who (from_cache t thread bytes nb newest cache) nb cache o (Some (supply_of b Cached)) left o
supplies_cached s t who thread bytes nb o cache left newest b same is some rest held size arena = rw (some, rest) (record {
  does = does_here _ o;
  held = held;
  fits = enough_cached nb b arena size;
  refused = λ none. absurd cc;
  later = omega arith;
  carries = carries_as same (in_cache cache) _ (λ w. refl) (λ w. in_cache-taken nb cache b (sym is ∙ some) w) (carries_here s.ways true (in_cache cache) o);
})

-- a cache that has one is open
pub newest_open : (nb : ℕ) (cache : CacheValue) → IsSome (newest_of_size nb cache) → is_open cache ≡ true
newest_open nb (Some c) some = refl
newest_open nb None some =
    let cases : (v : Bool) → IsSome (cond v (newest None (cache_index_of nb)) None) → is_open None ≡ true = elim [ true ↦ λ h. absurd cc | false ↦ λ h. absurd cc ] in
    cases _ some

-- the block that it has for a request is the newest of its size
pub cached_newest : (size nb : ℕ) (cache : CacheValue) → padded_request size ≡ Some nb → IsSome (cached_for size cache) → IsSome (newest_of_size nb cache)
cached_newest size nb cache padded some = rw padded at some

-- ---- behind an opened cache

pub rose_later : (before mid now : ℕ) → before ≤ mid → Rose mid now → Rose before now
rose_later before mid now le h = omega (arith, le, h)

pub supplies_opened : {P H D K E : Type 0} {s : Setting P H D K} {t : Tunables} {who : Who} {o p : Standing P K} (thread nb : ℕ) (cache now left : CacheValue) (z : Standing P K)
    (f : CacheValue → Call Supplied) (r : Result (Option Supply) E) → Does s t who (opening t thread cache) o now p →
    space_refusals s.means.kernel o.space ≤ space_refusals s.means.kernel p.space →
    Carries s.ways true (in_cache cache) o (in_cache now) p →
    IfOk r (λ got. Supplies s t who (f now) nb now p got left z) →
    IfOk r (λ got. Supplies s t who (then_call (opening t thread cache) f) nb cache o got left z)
supplies_opened {s = s} {o = o} {p = p} thread nb cache now left z f (Ok got) d later c h = record {
  does = does_then f d h.does;
  held = h.held;
  fits = h.fits;
  refused = λ none. rose_later _ (space_refusals s.means.kernel p.space) _ later (h.refused none);
  later = omega (arith, later, h.later);
  carries = carries_then c h.carries;
}
supplies_opened thread nb cache now left z f (Err e) d later c h = tt

pub short_opened : {P H D K A E : Type 0} {ways : PlaceWays P H D} {given between : Hands} {o p : Standing P K} (got : Hands) (z : Standing P K) (r : Result A E) →
    Carries ways true given o between p → OnErr r (Carries ways false between p got z) → OnErr r (Carries ways false given o got z)
short_opened got z (Ok x) c d = tt
short_opened got z (Err e) c d = carries_then c d
