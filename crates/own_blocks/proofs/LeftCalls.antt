-- Laws of calls that are left for want of memory: calls in a row, and the opening of the cache.
use Rattle.std.proofs.Common.{◌≡◌, ℕ, false, Option, Some, None, inl, inr, refl, sym, ap, subst, List, [], ◌++◌}
use Rattle.std.proofs.Math.Path.{fun_ext}
use Rattle.std.specs.Prelude.{Result, OnErr}
use Rattle.chunk_tags.specs.declared.block.Block.{Block}
use Rattle.chunk_tags.specs.declared.tunables.Tunables.{Tunables}
use Rattle.chunk_tags.specs.Sizes.{structure_bytes, structure_size}
use Rattle.thread_cache.specs.Caches.{CacheValue, is_open}
use Rattle.arena_core.specs.declared.journal.Act.TheVariants as acts
use Rattle.arena_core.specs.declared.journal.Who.{Who}
use Rattle.arena_holds.specs.Calls.{Call, Done, Holds, HoldsFree, Opens, Books, Maps, Pushes, Frees, Unmaps, Remaps, Posts, Takes, then_call}
use Rattle.arena_holds.specs.Going.{Told, Goes, Does, here}
use Rattle.arena_holds.specs.Holding.{Finds}
use Rattle.arena_holds.specs.Places.{Setting, Standing}
use Rattle.arena_holds.specs.RunningShort.{RunsShort}
use Rattle.arena_holds.specs.Searching.{search}
use Rattle.own_blocks.specs.Calls.{opening, cache_with_structure, from_arena, from_cache}
use Rattle.own_blocks.specs.LeftCalls.{IsLeft}
use Rattle.arena_holds.proofs.Going.{goes_then, goes_behind}
use Rattle.arena_holds.proofs.RunningShort.{short_behind, short_after}

-- ---- calls in a row

-- one call behind another, and a third behind both
pub call_then-then : {A B C : Type 0} (c : Call A) (f : A → Call B) (g : B → Call C) → then_call (then_call c f) g ≡ then_call c (λ x. then_call (f x) g)
call_then-then (Done x) f g = refl
call_then-then (Holds a act cache h) f g = ap (λ n. Holds a act cache n) (fun_ext (λ place. fun_ext (λ ended. fun_ext (λ left. call_then-then (h place ended left) f g))))
call_then-then (HoldsFree start avoid act cache h) f g =
    ap (λ n. HoldsFree start avoid act cache n) (fun_ext (λ a. fun_ext (λ place. fun_ext (λ ended. fun_ext (λ left. call_then-then (h a place ended left) f g)))))
call_then-then (Opens a bytes h) f g = ap (λ n. Opens a bytes n) (fun_ext (λ x. call_then-then (h x) f g))
call_then-then (Books change h) f g = ap (λ n. Books change n) (fun_ext (λ x. call_then-then (h x) f g))
call_then-then (Maps len h) f g = ap (λ n. Maps len n) (fun_ext (λ x. call_then-then (h x) f g))
call_then-then (Pushes b c) f g = ap (λ n. Pushes b n) (call_then-then c f g)
call_then-then (Frees b c) f g = ap (λ n. Frees b n) (call_then-then c f g)
call_then-then (Unmaps b c) f g = ap (λ n. Unmaps b n) (call_then-then c f g)
call_then-then (Remaps b len h) f g = ap (λ n. Remaps b len n) (fun_ext (λ x. call_then-then (h x) f g))
call_then-then (Posts tray b h) f g = ap (λ n. Posts tray b n) (fun_ext (λ x. call_then-then (h x) f g))
call_then-then (Takes tray h) f g = ap (λ n. Takes tray n) (fun_ext (λ x. call_then-then (h x) f g))

-- a call with nothing behind it
pub call_then-done : {A : Type 0} (c : Call A) → then_call c (λ x. Done x) ≡ c
call_then-done (Done x) = refl
call_then-done (Holds a act cache h) = ap (λ n. Holds a act cache n) (fun_ext (λ place. fun_ext (λ ended. fun_ext (λ left. call_then-done (h place ended left)))))
call_then-done (HoldsFree start avoid act cache h) =
    ap (λ n. HoldsFree start avoid act cache n) (fun_ext (λ a. fun_ext (λ place. fun_ext (λ ended. fun_ext (λ left. call_then-done (h a place ended left))))))
call_then-done (Opens a bytes h) = ap (λ n. Opens a bytes n) (fun_ext (λ x. call_then-done (h x)))
call_then-done (Books change h) = ap (λ n. Books change n) (fun_ext (λ x. call_then-done (h x)))
call_then-done (Maps len h) = ap (λ n. Maps len n) (fun_ext (λ x. call_then-done (h x)))
call_then-done (Pushes b c) = ap (λ n. Pushes b n) (call_then-done c)
call_then-done (Frees b c) = ap (λ n. Frees b n) (call_then-done c)
call_then-done (Unmaps b c) = ap (λ n. Unmaps b n) (call_then-done c)
call_then-done (Remaps b len h) = ap (λ n. Remaps b len n) (fun_ext (λ x. call_then-done (h x)))
call_then-done (Posts tray b h) = ap (λ n. Posts tray b n) (fun_ext (λ x. call_then-done (h x)))
call_then-done (Takes tray h) = ap (λ n. Takes tray n) (fun_ext (λ x. call_then-done (h x)))

-- ---- parts of a call

-- a part that is left, and another that was to come behind it
pub left_behind : {P H D K A B : Type 0} {s : Setting P H D K} {t : Tunables} {who : Who} {c : Call A} {o z : Standing P K} (f : A → Call B) → IsLeft s t who c o z → IsLeft s t who (then_call c f) o z
left_behind {s = s} {t = t} {who = who} {c = c} {o = o} f l = elim l [
  | inl r ↦ inl (short_behind f r)
  | inr r ↦ inr (record {
    told = r.told;
    cache = r.cache;
    rest = λ x. then_call (r.rest x) f;
    at = r.at;
    goes = subst (λ q. Goes s t who (then_call c f) o r.told q r.at) (call_then-then (opening t who.thread r.cache) r.rest f) (goes_behind f r.goes);
    short = r.short;
  })
]

-- some steps, and a part that is left
pub left_after : {P H D K A : Type 0} {s : Setting P H D K} {t : Tunables} {who : Who} {c q : Call A} {o p z : Standing P K} {told : List Told} → Goes s t who c o told q p → IsLeft s t who q p z →
    IsLeft s t who c o z
left_after {told = told} g l = elim l [
  | inl r ↦ inl (short_after g r)
  | inr r ↦ inr (record { told = told ++ r.told; cache = r.cache; rest = r.rest; at = r.at; goes = goes_then g r.goes; short = r.short })
]

-- a part that ends, and one behind it that is left
pub left_then : {P H D K A B : Type 0} {s : Setting P H D K} {t : Tunables} {who : Who} {c : Call A} {o p z : Standing P K} {x : A} (f : A → Call B) → Does s t who c o x p → IsLeft s t who (f x) p z →
    IsLeft s t who (then_call c f) o z
left_then f d l = left_after (goes_behind f d.goes) l

-- ---- the opening of the cache

-- the search for its structure was left
pub left_search : {P H D K : Type 0} {s : Setting P H D K} {t : Tunables} {who : Who} {o z : Standing P K} (cache : CacheValue) → is_open cache ≡ false →
    RunsShort s t who (search t who.thread structure_bytes structure_bytes (acts.Take structure_size) cache) o z → IsLeft s t who (opening t who.thread cache) o z
left_search {t = t} cache closed r = rw closed (inl (short_behind (λ x. Done (cache_with_structure t x.block x.cache)) r))

-- a chunk for it was found
pub left_unopened : {P H D K : Type 0} {s : Setting P H D K} {t : Tunables} {who : Who} {o z : Standing P K} {place : ℕ} {left : CacheValue} (cache : CacheValue) (block : Block) → is_open cache ≡ false →
    Finds s t who (search t who.thread structure_bytes structure_bytes (acts.Take structure_size) cache) (acts.Take structure_size) cache o place (Some block) left z →
    IsLeft s t who (opening t who.thread cache) o z
left_unopened {s = s} {t = t} {who = who} {o = o} {place = place} {left = left} cache block closed h = inr (record {
  told = [];
  cache = cache;
  rest = λ x. Done x;
  at = o;
  goes = subst (λ q. Goes s t who (opening t who.thread cache) o [] q o) (sym (call_then-done (opening t who.thread cache))) here;
  short = record { place = place; block = block; left = left; closed = closed; finds = h.does };
})

-- ---- a block for a request

-- the cache had none
pub left_uncached : {P H D K A E : Type 0} (s : Setting P H D K) (t : Tunables) (who : Who) (thread bytes nb : ℕ) (o z : Standing P K) (cache now : CacheValue) (newest : Option Block) (r : Result A E) →
    newest ≡ None → now ≡ cache → OnErr r (RunsShort s t who (from_arena t thread bytes bytes (acts.Take nb) now) o z) →
    OnErr r (RunsShort s t who (from_cache t thread bytes nb newest cache) o z)
left_uncached s t who thread bytes nb o z cache now newest r none same d =
    rw none (subst (λ (c : CacheValue). OnErr r (RunsShort s t who (from_arena t thread bytes bytes (acts.Take nb) c) o z)) same d)
