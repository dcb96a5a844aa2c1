-- Laws of a block that gets another size, and of the name that has it.
use Rattle.std.proofs.Common.{◌≡◌, ℕ, ◌+◌, ◌≤◌, Bool, true, false, cond, [], ◌∷◌, Option, Some, None, ◌⊎◌, inl, inr, refl, sym, ap, ◌∙◌, subst, arith}
use Rattle.std.specs.Prelude.{Result, Ok, Err, IfOk, IfErr, OnOk, OnErr, nat_eq}
use Rattle.std.proofs.lemmas.Bool.{eqb-true}
use Rattle.chunk_tags.specs.Pages.{mapping_length}
use Rattle.chunk_tags.specs.declared.block.Block.{Block}
use Rattle.chunk_tags.specs.declared.tunables.Tunables.{Tunables}
use Rattle.address_space.specs.Spaces.{space_refusals}
use Rattle.thread_cache.specs.Caches.{CacheValue}
use Rattle.arena_core.specs.Arenas.{need_of}
use Rattle.arena_core.specs.declared.journal.Act.TheVariants as acts
use Rattle.arena_core.specs.declared.journal.Who.{Who}
use Rattle.block_names.specs.Blocks.{IsHeld}
use Rattle.block_names.specs.Names.{block_at, with_block, without_block, NameTable}
use Rattle.arena_holds.specs.Calls.{Call, Done, then_call, hold_of, hold_end, taken_of}
use Rattle.own_blocks.specs.Calls.{Supplied, origin_of, plain_supply, releasing, FitsName, HoldsStill}
use Rattle.chunk_tags.specs.Sizes.{padded_request}
use Rattle.own_blocks.specs.Frees.{IsFreed, HoldsOrLoses}
use Rattle.malloc_calls.specs.Reallocs.{realloc_call, realloc_in, Resettled, kept_block, got_block, refused_block, moved_from_arena, moved_from_mapping, after_resize, resize_in_arena, remapped, not_remapped, realloc_in_mapping, resettled, IfAnswered}
use Rattle.arena_holds.specs.Holding.{resized_to, placed_block}
use Rattle.own_blocks.specs.declared.own.Own.{Own}
use Rattle.malloc_calls.specs.declared.reallocated.Reallocated.{Reallocated}
use Rattle.own_blocks.specs.declared.reply.Reply.{Reply}
use Rattle.own_blocks.specs.declared.reply.Reply.TheVariants as replies
use Rattle.own_blocks.specs.declared.reply.Reply.TheVariants.{Got, Kept, Null, Freed, NotYours, Posted, Taken, Missed}
use Rattle.own_blocks.specs.declared.reply.Origin.{Origin}
use Rattle.own_blocks.specs.declared.reply.Origin.TheVariants as origins
use Rattle.realloc_align.specs.declared.to_size.Resized.{Resized}
use Rattle.realloc_align.specs.declared.to_size.Resized.TheVariants as sizes
use Rattle.arena_core.specs.declared.journal.Ended.{Ended}
use Rattle.arena_rules.specs.Rules.{windows_of}
use Rattle.mapped_chunks.specs.Mappings.{remap_length, mapping_bytes, mapping_start, chunk_with_lead}
use Rattle.own_blocks.specs.declared.reply.Why.TheVariants.{Big, Refused}
use Rattle.own_blocks.specs.declared.reply.To.{To}
use Rattle.own_blocks.specs.declared.supplying.Supply.{Supply}
use Rattle.arena_holds.specs.Going as going
use Rattle.arena_holds.specs.Going.{Does, Goes, here}
use Rattle.arena_holds.specs.Holding.{Resizes, ResizesShort, UnmapsMapped, RemapsMapped}
use Rattle.arena_holds.specs.Places.{PlaceWays, Setting, Standing, Carries, Hands, IsServed, both_of, weight_of, in_cache}
use Rattle.arena_holds.specs.RunningShort.{RunsShort}
use Rattle.own_blocks.specs.LeftCalls.{IsLeft}
use Rattle.malloc_calls.specs.Resettling.{Resettles}
use Rattle.own_blocks.specs.Supplying.{Supplies, Releases, ReleasesShort, block_supplied}
use Rattle.own_blocks.proofs.Calling.{carries_hand}
use Rattle.arena_holds.proofs.Carrying.{SameLaw, FewerLaw, carries_here, carries_as, carries_then, carries_beside, carries_fewer, served_after, served_fewer}
use Rattle.arena_holds.proofs.Going.{does_here, does_last, does_then}
use Rattle.arena_holds.proofs.RunningShort.{short_behind}
use Rattle.own_blocks.proofs.LeftCalls.{left_behind, left_after, left_then}
use Rattle.block_names.proofs.Tables.{at_other, set_twice, without_none, at_same, place_of}
use Rattle.own_blocks.proofs.Supplies.{rose_later}

-- ---- malloc in the place of a resize

-- nothing was got: the block stays as it was
pub nothing_got : {P H D K : Type 0} {s : Setting P H D K} {t : Tunables} {who : Who} {nb : ℕ} {c : Call Supplied} {cache left : CacheValue} {o z : Standing P K}
    (f : Supplied → Call Resettled) (b : Block) (found : Option Supply) → found ≡ None → f (None, left) ≡ Done (refused_block b, left) → IsHeld b →
    Supplies s t who c nb cache o found left z → SameLaw s.ways → Resettles s t who (then_call c f) nb b cache o (refused_block b) left z
nothing_got {s = s} {t = t} {who = who} {nb = nb} {c = c} {cache = cache} {left = left} {o = o} {z = z} f b found none is held supplied same =
    let h : Supplies s t who c nb cache o None left z = subst (λ x. Supplies s t who c nb cache o x left z) none supplied in
    record {
      does = does_then f h.does (rw is (does_here (refused_block b, left) z));
      held = held;
      fits = tt;
      refused = λ e. h.refused refl;
      carries = carries_hand same b cache left (carries_as same (in_cache cache) (in_cache left) (λ w. refl) (λ w. omega arith) h.carries);
    }

-- another block was got, and the old one released
pub moved_away : {P H D K : Type 0} {s : Setting P H D K} {t : Tunables} {who : Who} {nb : ℕ} {cache now left : CacheValue} {o p z : Standing P K}
    {to : To} (a : ℕ) (c : Call Supplied) (b : Block) (got : Supply) (found : Option Supply) → found ≡ Some got → Supplies s t who c nb cache o found now p →
    Releases s t who (releasing t a b now) b now p to left z → SameLaw s.ways →
    Resettles s t who (then_call c (moved_from_arena t a b)) nb b cache o (got_block got.from got.block) left z
moved_away {s = s} {t = t} {who = who} {nb = nb} {cache = cache} {now = now} {left = left} {o = o} {p = p} a c b got found some supplied r same =
    let h : Supplies s t who c nb cache o (Some got) now p = subst (λ x. Supplies s t who c nb cache o x now p) some supplied in
    record {
      does = does_then (moved_from_arena t a b) h.does (does_last (λ x. (got_block got.from got.block, x.1)) r.does);
      held = h.held;
      fits = h.fits;
      refused = λ e. absurd cc;
      carries = carries_then
          (carries_as same (both_of (λ weigh. weigh b) (in_cache cache)) (both_of (both_of (λ weigh. weigh b) (in_cache now)) (λ weigh. weigh got.block)) (λ w. omega arith) (λ w. omega arith)
          (carries_beside same (λ weigh. weigh b) h.carries))
          (carries_as same (both_of (both_of (λ weigh. weigh b) (in_cache now)) (λ weigh. weigh got.block)) (both_of (λ weigh. weigh got.block) (in_cache left)) (λ w. refl) (λ w. omega arith)
          (carries_beside same (λ weigh. weigh got.block) r.carries));
    }

-- or memory was short for that: the new block is in hand
pub moved_short : {P H D K : Type 0} {s : Setting P H D K} {t : Tunables} {who : Who} {nb a : ℕ} {cache now left : CacheValue} {o p z : Standing P K}
    (c : Call Supplied) (b : Block) (got : Supply) (found : Option Supply) (back : Option Block) → found ≡ Some got → Supplies s t who c nb cache o found now p →
    ReleasesShort s t who a b now p back left z → SameLaw s.ways → FewerLaw s.ways → ResizesShort s b nb cache o got.block left z
moved_short {s = s} {t = t} {who = who} {nb = nb} {cache = cache} {now = now} {left = left} {o = o} {p = p} c b got found back some supplied r same fewer =
    let h : Supplies s t who c nb cache o (Some got) now p = subst (λ x. Supplies s t who c nb cache o x now p) some supplied in
    record {
      held = h.held;
      enough = inr h.fits;
      carries = carries_then
          (carries_as same (both_of (λ weigh. weigh b) (in_cache cache)) (both_of (both_of (λ weigh. weigh b) (in_cache now)) (λ weigh. weigh got.block)) (λ w. omega arith) (λ w. omega arith)
          (carries_beside same (λ weigh. weigh b) h.carries))
          (carries_fewer fewer (both_of (λ weigh. weigh got.block) (in_cache left)) (λ w. omega arith)
          (carries_beside same (λ weigh. weigh got.block) r.carries));
    }

pub moved_left : {P H D K : Type 0} {s : Setting P H D K} {t : Tunables} {who : Who} {nb : ℕ} {cache now : CacheValue} {o p z : Standing P K}
    (a : ℕ) (c : Call Supplied) (b : Block) (got : Supply) (found : Option Supply) → found ≡ Some got → Supplies s t who c nb cache o found now p →
    RunsShort s t who (releasing t a b now) p z → IsLeft s t who (then_call c (moved_from_arena t a b)) o z
moved_left {s = s} {t = t} {who = who} {nb = nb} {cache = cache} {now = now} {o = o} {p = p} a c b got found some supplied r =
    let h : Supplies s t who c nb cache o (Some got) now p = subst (λ x. Supplies s t who c nb cache o x now p) some supplied in
    left_then (moved_from_arena t a b) h.does (inl (short_behind (λ x. Done (got_block got.from got.block, x.1)) r))

-- another block was got, and the old one's mapping goes back
pub moved_out : {P H D K : Type 0} {s : Setting P H D K} {t : Tunables} {who : Who} {nb : ℕ} {cache left : CacheValue} {o p z : Standing P K}
    (c : Call Supplied) (b : Block) (got : Supply) (found : Option Supply) → found ≡ Some got → Supplies s t who c nb cache o found left p →
    UnmapsMapped s b p z → SameLaw s.ways → Resettles s t who (then_call c (moved_from_mapping b)) nb b cache o (got_block got.from got.block) left z
moved_out {s = s} {t = t} {who = who} {nb = nb} {cache = cache} {left = left} {o = o} {p = p} c b got found some supplied u same =
    let h : Supplies s t who c nb cache o (Some got) left p = subst (λ x. Supplies s t who c nb cache o x left p) some supplied in
    record {
      does = does_then (moved_from_mapping b) h.does (record { told = going.Unmapped b ∷ []; goes = going.unmapped u.step here });
      held = h.held;
      fits = h.fits;
      refused = λ e. absurd cc;
      carries = carries_then
          (carries_as same (both_of (λ weigh. weigh b) (in_cache cache)) (both_of (λ weigh. weigh b) (both_of (λ weigh. weigh got.block) (in_cache left))) (λ w. omega arith) (λ w. omega arith)
          (carries_beside same (λ weigh. weigh b) h.carries))
          (carries_as same (both_of (λ weigh. weigh b) (both_of (λ weigh. weigh got.block) (in_cache left))) (both_of (λ weigh. weigh got.block) (in_cache left)) (λ w. refl) (λ w. omega arith)
          (carries_beside same (both_of (λ weigh. weigh got.block) (in_cache left)) u.carries));
    }

-- memory was short before anything was done to the block
pub short_before : {P H D K : Type 0} {s : Setting P H D K} {nb : ℕ} {cache left : CacheValue} {o z : Standing P K} (b : Block) → SameLaw s.ways → IsHeld b →
    Carries s.ways false (in_cache cache) o (in_cache left) z → ResizesShort s b nb cache o b left z
short_before {cache = cache} {left = left} b same held c = record { held = held; enough = inl refl; carries = carries_hand same b cache left c }

-- ---- a part behind another

-- behind a part that leaves the block in hand
pub settles_then : {P H D K A E : Type 0} {s : Setting P H D K} {t : Tunables} {who : Who} {o p : Standing P K} (nb : ℕ) (b : Block) (cache now left : CacheValue) (z : Standing P K)
    (c : Call A) (x : A) (f : A → Call Resettled) (r : Result Reallocated E) → SameLaw s.ways → Does s t who c o x p →
    space_refusals s.means.kernel o.space ≤ space_refusals s.means.kernel p.space → Carries s.ways true (in_cache cache) o (in_cache now) p →
    IfOk r (λ done. Resettles s t who (f x) nb b now p done left z) → IfOk r (λ done. Resettles s t who (then_call c f) nb b cache o done left z)
settles_then {s = s} {p = p} nb b cache now left z c x f (Ok done) same d later carries h = record {
  does = does_then f d h.does;
  held = h.held;
  fits = h.fits;
  refused = λ e. rose_later _ (space_refusals s.means.kernel p.space) _ later (h.refused e);
  carries = carries_then (carries_hand same b cache now carries) h.carries;
}
settles_then nb b cache now left z c x f (Err e) same d later carries h = tt

pub short_then : {P H D K A : Type 0} (s : Setting P H D K) {o p : Standing P K} (nb : ℕ) (b : Block) (cache now left : CacheValue) (z : Standing P K) (r : Result A Block) → SameLaw s.ways →
    Carries s.ways true (in_cache cache) o (in_cache now) p → IfErr r (λ back. ResizesShort s b nb now p back left z) → IfErr r (λ back. ResizesShort s b nb cache o back left z)
short_then s nb b cache now left z (Ok x) same carries h = tt
short_then s nb b cache now left z (Err e) same carries h = record { held = h.held; enough = h.enough; carries = carries_then (carries_hand same b cache now carries) h.carries }

-- ---- a block of an arena

resized_does : {P H D K : Type 0} {s : Setting P H D K} {t : Tunables} {who : Who} {o p z : Standing P K} {place : ℕ} {ended : Ended} {left : CacheValue}
    (thread size nb a : ℕ) (b : Block) (cache : CacheValue) (resized : Resized) (y : Resettled) → resized ≡ resized_to a b nb ended →
    Does s t who (hold_of a (acts.Resize b.addr b.size nb) cache) o (hold_end place ended left) p →
    Does s t who (after_resize t thread size nb a place resized left) p y z → Does s t who (resize_in_arena t thread size nb a b cache) o y z
resized_does {s = s} {t = t} {who = who} {p = p} {z = z} {place = place} {left = left} thread size nb a b cache resized y became d e =
    does_then (λ x. after_resize t thread size nb a x.place (resized_to a b nb x.ended) x.cache) d
    (subst (λ (x : Resized). Does s t who (after_resize t thread size nb a place x left) p y z) became e)

pub resized_kept : {P H D K : Type 0} {s : Setting P H D K} {t : Tunables} {who : Who} {o p : Standing P K} {place : ℕ} {left : CacheValue}
    (thread size nb a : ℕ) (b c : Block) (cache : CacheValue) (from : Origin) (resized : Resized) → resized ≡ sizes.Kept c → from ≡ origin_of place c →
    Resizes s t who a b nb cache o place resized left p → Resettles s t who (resize_in_arena t thread size nb a b cache) nb b cache o (kept_block from c) left p
resized_kept {s = s} {t = t} {who = who} {o = o} {p = p} {place = place} {left = left} thread size nb a b c cache from resized is e r =
    let h : Resizes s t who a b nb cache o place (sizes.Kept c) left p = subst (λ x. Resizes s t who a b nb cache o place x left p) is r in
    rw e (record {
      does = resized_does thread size nb a b cache (sizes.Kept c) (kept_block (origin_of place c) c, left) h.became h.does (does_here (kept_block (origin_of place c) c, left) p);
      held = h.held;
      fits = h.fits.room;
      refused = λ no. absurd cc;
      carries = h.carries;
    })

pub resized_moved : {P H D K : Type 0} {s : Setting P H D K} {t : Tunables} {who : Who} {o p : Standing P K} {place : ℕ} {left : CacheValue}
    (thread size nb a : ℕ) (b c : Block) (cache : CacheValue) (from : Origin) (resized : Resized) → resized ≡ sizes.Moved c → from ≡ origin_of place c →
    Resizes s t who a b nb cache o place resized left p → Resettles s t who (resize_in_arena t thread size nb a b cache) nb b cache o (got_block from c) left p
resized_moved {s = s} {t = t} {who = who} {o = o} {p = p} {place = place} {left = left} thread size nb a b c cache from resized is e r =
    let h : Resizes s t who a b nb cache o place (sizes.Moved c) left p = subst (λ x. Resizes s t who a b nb cache o place x left p) is r in
    rw e (record {
      does = resized_does thread size nb a b cache (sizes.Moved c) (got_block (origin_of place c) c, left) h.became h.does (does_here (got_block (origin_of place c) c, left) p);
      held = h.held;
      fits = h.fits.room;
      refused = λ no. absurd cc;
      carries = h.carries;
    })

pub resized_refused : {P H D K E : Type 0} {s : Setting P H D K} {t : Tunables} {who : Who} {o p : Standing P K} {place : ℕ} {now : CacheValue}
    (thread size nb a : ℕ) (b c : Block) (cache left : CacheValue) (z : Standing P K) (resized : Resized) (r : Result Reallocated E) → resized ≡ sizes.Refused c →
    Resizes s t who a b nb cache o place resized now p →
    IfOk r (λ done. Resettles s t who (then_call (plain_supply t thread size nb now) (moved_from_arena t a c)) nb c now p done left z) →
    IfOk r (λ done. Resettles s t who (resize_in_arena t thread size nb a b cache) nb b cache o done left z)
resized_refused {s = s} {t = t} {who = who} {o = o} {p = p} {place = place} {now = now} thread size nb a b c cache left z resized (Ok done) is r h =
    let x : Resizes s t who a b nb cache o place (sizes.Refused c) now p = subst (λ x. Resizes s t who a b nb cache o place x now p) is r in
    record {
      does = resized_does thread size nb a b cache (sizes.Refused c) (done, left) x.became x.does h.does;
      held = h.held;
      fits = h.fits;
      refused = λ e. rose_later _ (space_refusals s.means.kernel p.space) _ x.later (h.refused e);
      carries = carries_then x.carries h.carries;
    }
resized_refused thread size nb a b c cache left z resized (Err e) is r h = tt

-- a block whose resize was refused is the one that it was
refused_same : (nb a : ℕ) (b c : Block) (ended : Ended) → sizes.Refused c ≡ resized_to a b nb ended → c ≡ b
refused_same nb a b c ended e =
    let placed : (d : Block) (v : Bool) → sizes.Refused c ≡ cond v (sizes.Kept d) (sizes.Moved d) → c ≡ b = λ d. elim [ true ↦ λ h. absurd cc | false ↦ λ h. absurd cc ] in
    let cases : (o : Option Block) → sizes.Refused c ≡ elim o [ None ↦ sizes.Refused b | Some d ↦ placed_block b d ] → c ≡ b = elim [
      | None ↦ λ h. cc
      | Some d ↦ λ h. placed d _ h
    ] in
    cases (taken_of a (acts.Resize b.addr b.size nb) ended) e

pub resized_short : {P H D K A : Type 0} {s : Setting P H D K} {t : Tunables} {who : Who} {o p : Standing P K} {place : ℕ} {now : CacheValue}
    (nb a : ℕ) (b c : Block) (cache left : CacheValue) (z : Standing P K) (resized : Resized) (r : Result A Block) → resized ≡ sizes.Refused c →
    Resizes s t who a b nb cache o place resized now p →
    IfErr r (λ back. ResizesShort s c nb now p back left z) → IfErr r (λ back. ResizesShort s b nb cache o back left z)
resized_short nb a b c cache left z resized (Ok x) is r h = tt
resized_short {s = s} {t = t} {who = who} {o = o} {p = p} {place = place} {now = now} nb a b c cache left z resized (Err e) is r h =
    let x : Resizes s t who a b nb cache o place (sizes.Refused c) now p = subst (λ x. Resizes s t who a b nb cache o place x now p) is r in
    let same : c ≡ b = refused_same nb a b c x.ended x.became in
    record {
      held = h.held;
      enough = subst (λ (k : Block). (e ≡ k) ⊎ (need_of e.arena nb ≤ e.size)) same h.enough;
      carries = carries_then x.carries h.carries;
    }

-- memory was short in the hold, or behind a refusal
pub unresized_left : {P H D K : Type 0} {s : Setting P H D K} {t : Tunables} {who : Who} {o z : Standing P K} (thread size nb a : ℕ) (b : Block) (cache : CacheValue) →
    RunsShort s t who (hold_of a (acts.Resize b.addr b.size nb) cache) o z → IsLeft s t who (resize_in_arena t thread size nb a b cache) o z
unresized_left {t = t} thread size nb a b cache r = inl (short_behind (λ e. after_resize t thread size nb a e.place (resized_to a b nb e.ended) e.cache) r)

pub resized_left : {P H D K A E : Type 0} {s : Setting P H D K} {t : Tunables} {who : Who} {o p : Standing P K} {place : ℕ} {now : CacheValue}
    (thread size nb a : ℕ) (b c : Block) (cache : CacheValue) (z : Standing P K) (resized : Resized) (r : Result A E) → resized ≡ sizes.Refused c →
    Resizes s t who a b nb cache o place resized now p →
    OnErr r (IsLeft s t who (then_call (plain_supply t thread size nb now) (moved_from_arena t a c)) p z) → OnErr r (IsLeft s t who (resize_in_arena t thread size nb a b cache) o z)
resized_left thread size nb a b c cache z resized (Ok x) is r l = tt
resized_left {s = s} {t = t} {who = who} {o = o} {p = p} {place = place} {now = now} thread size nb a b c cache z resized (Err e) is r l =
    let x : Resizes s t who a b nb cache o place (sizes.Refused c) now p = subst (λ x. Resizes s t who a b nb cache o place x now p) is r in
    left_then (λ e. after_resize t thread size nb a e.place (resized_to a b nb e.ended) e.cache) x.does
    (subst (λ (y : Resized). IsLeft s t who (after_resize t thread size nb a place y now) p z) x.became l)

pub served_refused : {P H D K : Type 0} {s : Setting P H D K} {t u : Tunables} {who : Who} {o p : Standing P K} {place : ℕ} {now cache : CacheValue}
    (nb a : ℕ) (b c : Block) (resized : Resized) → resized ≡ sizes.Refused c → Resizes s t who a b nb cache o place resized now p → SameLaw s.ways →
    IsServed s.ways u (both_of (λ weigh. weigh b) (in_cache cache)) o → IsServed s.ways u (both_of (λ weigh. weigh c) (in_cache now)) p
served_refused {s = s} {t = t} {who = who} {o = o} {p = p} {place = place} {now = now} {cache = cache} nb a b c resized is r same served =
    let x : Resizes s t who a b nb cache o place (sizes.Refused c) now p = subst (λ x. Resizes s t who a b nb cache o place x now p) is r in
    served_after same served x.carries

-- ---- a mapped block

-- a block that is kept where it is
pub kept_mapped : {P H D K : Type 0} (s : Setting P H D K) (t : Tunables) (who : Who) (rules : Call Resettled) (nb : ℕ) (b : Block) (cache : CacheValue) (o : Standing P K) →
    rules ≡ Done (kept_block origins.Mapped b, cache) → IsHeld b → b.arena ≡ None → nb + 8 ≤ b.size → Resettles s t who rules nb b cache o (kept_block origins.Mapped b) cache o
kept_mapped s t who rules nb b cache o is held arena fits = record {
  does = rw is (does_here (kept_block origins.Mapped b, cache) o);
  held = held;
  fits = subst (λ x. need_of x nb ≤ b.size) (sym arena) fits;
  refused = λ no. absurd cc;
  carries = carries_here s.ways true (both_of (λ weigh. weigh b) (in_cache cache)) o;
}

block_remapped : (b c : Block) → (remapped b c).block ≡ c
block_remapped b c =
    let cases : (v : Bool) → (cond v (kept_block origins.Mapped c) (got_block origins.Mapped c)).block ≡ c = elim [ true ↦ refl | false ↦ refl ] in
    cases _

answered_remapped : (X : Type 0) (b c : Block) → X → IfAnswered (remapped b c).reply X
answered_remapped X b c x =
    let cases : (v : Bool) → IfAnswered (cond v (kept_block origins.Mapped c) (got_block origins.Mapped c)).reply X = elim [ true ↦ x | false ↦ x ] in
    cases _

not_null : {R : Type 0} (b c : Block) → (remapped b c).reply ≡ Null Refused → R
not_null {R = R} b c e =
    let cases : (v : Bool) → (cond v (kept_block origins.Mapped c) (got_block origins.Mapped c)).reply ≡ Null Refused → R = elim [ true ↦ λ h. absurd cc | false ↦ λ h. absurd cc ] in
    cases _ e

-- a mapping that has its length is enough
pub has_length_fits : (nb : ℕ) (b : Block) → nat_eq (remap_length b nb) (mapping_bytes b) ≡ true → nb + 8 ≤ b.size
has_length_fits nb b same =
    let length : mapping_length (nb + b.lead) ≡ b.lead + b.size = eqb-true (remap_length b nb) (mapping_bytes b) same in
    omega (arith, length)

-- another length was granted
pub remapped_to : {P H D K : Type 0} {s : Setting P H D K} {t : Tunables} {who : Who} {o z : Standing P K} (thread size nb : ℕ) (b c : Block) (cache : CacheValue) (done : Reallocated) →
    nat_eq (remap_length b nb) (mapping_bytes b) ≡ false → done ≡ remapped b c → RemapsMapped s b nb o (Ok c) z → SameLaw s.ways →
    Resettles s t who (realloc_in_mapping t thread size nb b cache) nb b cache o done cache z
remapped_to {s = s} {t = t} {who = who} {o = o} {z = z} thread size nb b c cache done other e h same =
    let start : ℕ = mapping_start c in
    let ends : Goes {A = Resettled} s t who (Done (remapped b (chunk_with_lead (remap_length b nb) b start), cache)) z [] (Done (remapped b c, cache)) z =
    subst (λ (x : Block). Goes {A = Resettled} s t who (Done (remapped b x, cache)) z [] (Done (remapped b c, cache)) z) h.chunk here in
    let held : IsHeld c = record { chunk = h.mapped.size; mapped = λ none. h.mapped } in
    rw e (record {
      does = rw other (record { told = going.Remapped b (remap_length b nb) (Some start) ∷ []; goes = going.remapped h.step ends });
      held = rw (block_remapped b c) held;
      fits = answered_remapped _ b c (rw (block_remapped b c) (subst (λ x. need_of x nb ≤ c.size) (sym h.mapped.arena) h.fits));
      refused = λ no. not_null b c no;
      carries = rw (block_remapped b c) (carries_beside same (in_cache cache) h.carries);
    })

-- the block stays in hand
pub unremapped : {P H D K : Type 0} {s : Setting P H D K} {nb : ℕ} {o p : Standing P K} → SameLaw s.ways → (b c : Block) (cache : CacheValue) → RemapsMapped s b nb o (Err c) p →
    Carries s.ways true (both_of (λ weigh. weigh b) (in_cache cache)) o (both_of (λ weigh. weigh b) (in_cache cache)) p
unremapped {s = s} {o = o} {p = p} same b c cache h =
    carries_beside same (in_cache cache) (subst (λ (k : Block). Carries s.ways true (λ weigh. weigh b) o (λ weigh. weigh k) p) h.back h.carries)

-- it was refused, and this comes behind
pub remap_refused : {P H D K E : Type 0} {s : Setting P H D K} {o p : Standing P K} (t : Tunables) (who : Who) (thread size nb : ℕ) (b c : Block) (cache left : CacheValue) (z : Standing P K)
    (r : Result Reallocated E) → nat_eq (remap_length b nb) (mapping_bytes b) ≡ false → RemapsMapped s b nb o (Err c) p → SameLaw s.ways →
    IfOk r (λ done. Resettles s t who (not_remapped t thread size nb c cache) nb c cache p done left z) →
    IfOk r (λ done. Resettles s t who (realloc_in_mapping t thread size nb b cache) nb b cache o done left z)
remap_refused {s = s} {o = o} {p = p} t who thread size nb b c cache left z (Ok done) other h same x =
    let y : Resettles s t who (not_remapped t thread size nb b cache) nb b cache p done left z = subst (λ (k : Block). Resettles s t who (not_remapped t thread size nb k cache) nb k cache p done left z) h.back x in
    record {
      does = rw other (record { told = going.Remapped b (remap_length b nb) None ∷ y.does.told; goes = going.remapped h.step y.does.goes });
      held = y.held;
      fits = y.fits;
      refused = λ e. rose_later _ (space_refusals s.means.kernel p.space) _ h.later (y.refused e);
      carries = carries_then (unremapped same b c cache h) y.carries;
    }
remap_refused t who thread size nb b c cache left z (Err e) other h same x = tt

pub served_unremapped : {P H D K : Type 0} {s : Setting P H D K} {t : Tunables} {nb : ℕ} {o p : Standing P K} → (b c : Block) (cache : CacheValue) → RemapsMapped s b nb o (Err c) p → SameLaw s.ways →
    IsServed s.ways t (both_of (λ weigh. weigh b) (in_cache cache)) o → IsServed s.ways t (both_of (λ weigh. weigh c) (in_cache cache)) p
served_unremapped {s = s} {t = t} {p = p} b c cache h same served =
    subst (λ (k : Block). IsServed s.ways t (both_of (λ weigh. weigh k) (in_cache cache)) p) (sym h.back) (served_after same served (unremapped same b c cache h))

pub short_unremapped : {P H D K A : Type 0} {s : Setting P H D K} {nb : ℕ} {o p : Standing P K} (b c : Block) (cache left : CacheValue) (z : Standing P K) (r : Result A Block) →
    RemapsMapped s b nb o (Err c) p → SameLaw s.ways → IfErr r (λ back. ResizesShort s c nb cache p back left z) → IfErr r (λ back. ResizesShort s b nb cache o back left z)
short_unremapped b c cache left z (Ok x) h same short = tt
short_unremapped {s = s} {nb = nb} {p = p} b c cache left z (Err e) h same short =
    let y : ResizesShort s b nb cache p e left z = subst (λ (k : Block). ResizesShort s k nb cache p e left z) h.back short in
    record { held = y.held; enough = y.enough; carries = carries_then (unremapped same b c cache h) y.carries }

pub unremapped_left : {P H D K A E : Type 0} {s : Setting P H D K} {o p : Standing P K} (t : Tunables) (who : Who) (thread size nb : ℕ) (b c : Block) (cache : CacheValue) (z : Standing P K) (r : Result A E) →
    nat_eq (remap_length b nb) (mapping_bytes b) ≡ false → RemapsMapped s b nb o (Err c) p →
    OnErr r (IsLeft s t who (not_remapped t thread size nb c cache) p z) → OnErr r (IsLeft s t who (realloc_in_mapping t thread size nb b cache) o z)
unremapped_left t who thread size nb b c cache z (Ok x) other h l = tt
unremapped_left {s = s} {p = p} t who thread size nb b c cache z (Err e) other h l =
    rw other (left_after (going.remapped h.step here) (subst (λ (k : Block). IsLeft s t who (not_remapped t thread size nb k cache) p z) h.back l))

-- what is said of the tunables of the places themselves
pub served_own : {P H D K : Type 0} {ways : PlaceWays P H D} {t : Tunables} {hands : Hands} {o : Standing P K} → IsServed ways t hands o → IsServed ways (ways.tunables o.places) hands o
served_own s = record {
  served = s.served;
  others = s.others;
  notes = s.notes;
  tunables = refl;
  windows = s.windows ∙ ap windows_of (sym s.tunables);
  whole = s.whole;
}

-- the old block is still given out behind what was got
pub served_got : {P H D K : Type 0} {s : Setting P H D K} {t u : Tunables} {who : Who} {nb : ℕ} {c : Call Supplied} {cache left : CacheValue} {o p : Standing P K} {got : Option Supply}
    (b : Block) → SameLaw s.ways → FewerLaw s.ways → Supplies s t who c nb cache o got left p →
    IsServed s.ways u (both_of (λ weigh. weigh b) (in_cache cache)) o → IsServed s.ways u (both_of (λ weigh. weigh b) (in_cache left)) p
served_got {cache = cache} {left = left} {got = got} b same fewer h served =
    served_fewer fewer (both_of (λ weigh. weigh b) (in_cache left)) (λ w. omega arith)
    (served_after {got = both_of (λ weigh. weigh b) (both_of (weight_of (block_supplied got)) (in_cache left))} same served
    (carries_as same (both_of (λ weigh. weigh b) (in_cache cache)) (both_of (λ weigh. weigh b) (both_of (weight_of (block_supplied got)) (in_cache left))) (λ w. omega arith) (λ w. omega arith)
    (carries_beside same (λ weigh. weigh b) h.carries)))

-- ---- a name has it

-- the name has the block that is in hand then
pub settled_names : (name : ℕ) (b : Block) (names taken now : NameTable) → taken ≡ without_block name names → now ≡ with_block name b taken → now ≡ with_block name b names
settled_names name b names taken now e put = put ∙ (ap (with_block name b) e ∙ set_twice name None (Some b) names)

pub settled_does : {P H D K : Type 0} {s : Setting P H D K} {t : Tunables} {who : Who} {nb : ℕ} {left : CacheValue} {o z : Standing P K}
    (rules : Block → Call Resettled) (name : ℕ) (b c : Block) (own : Own) (done : Reallocated) (taken names : NameTable) → c ≡ b → taken ≡ without_block name own.names →
    names ≡ with_block name done.block taken → Resettles s t who (rules c) nb c own.cache o done left z →
    Does s t who (then_call (rules b) (λ r. Done (resettled name own r))) o (done.reply, record { cache = left; names = names }) z
settled_does {s = s} {t = t} {who = who} {left = left} {o = o} {z = z} rules name b c own done taken names e gone put h =
    let d : Does s t who (rules b) o (done, left) z = subst (λ (x : Block). Does s t who (rules x) o (done, left) z) e h.does in
    rw (settled_names name done.block own.names taken names gone put) (does_last (resettled name own) d)

-- after want of memory
pub settled_left : {P H D K : Type 0} {s : Setting P H D K} {t : Tunables} {who : Who} {o z : Standing P K} (rules : Block → Call Resettled) (name : ℕ) (b c : Block) (own : Own) → c ≡ b →
    IsLeft s t who (rules c) o z → IsLeft s t who (then_call (rules b) (λ r. Done (resettled name own r))) o z
settled_left {s = s} {t = t} {who = who} {o = o} {z = z} rules name b c own e l =
    left_behind (λ r. Done (resettled name own r)) (subst (λ (x : Block). IsLeft s t who (rules x) o z) e l)

pub holds_still : (nb name : ℕ) (b c : Block) (names taken now : NameTable) → block_at names name ≡ Some b → taken ≡ without_block name names → now ≡ with_block name c taken →
    (c ≡ b) ⊎ (need_of c.arena nb ≤ c.size) → HoldsStill nb name names now
holds_still nb name b c names taken now at gone put enough = record {
  block = c;
  at = ap (λ (xs : NameTable). block_at xs name) (settled_names name c names taken now gone put) ∙ at_same name (Some c) names (place_of names name b at);
  enough = elim enough [ inl same ↦ inl (at ∙ ap Some (sym same)) | inr large ↦ inr large ];
}

answered_more : (reply : Reply) (X Y : Type 0) → (X → Y) → IfAnswered reply X → IfAnswered reply Y
answered_more (Freed to) X Y f x = f x
answered_more NotYours X Y f x = f x
answered_more (Got addr size from) X Y f x = f x
answered_more (Kept addr size from) X Y f x = f x
answered_more (Null why) X Y f x = tt
answered_more Posted X Y f x = f x
answered_more (Taken addr size) X Y f x = f x
answered_more (Missed seen) X Y f x = f x
answered_more replies.Ended X Y f x = f x

pub settled_fits : (reply : Reply) (nb name : ℕ) (b c : Block) (names taken now : NameTable) → block_at names name ≡ Some b → taken ≡ without_block name names → now ≡ with_block name c taken →
    IfAnswered reply (need_of c.arena nb ≤ c.size) → IfAnswered reply (FitsName nb name now)
settled_fits reply nb name b c names taken now at gone put h =
    answered_more reply (need_of c.arena nb ≤ c.size) (FitsName nb name now)
    (λ le d is.
    let put_there : now ≡ with_block name c names = settled_names name c names taken now gone put in
    let here : Some c ≡ Some d = sym (at_same name (Some c) names (place_of names name b at)) ∙ (ap (λ (x : NameTable). block_at x name) (sym put_there) ∙ is) in
    let same : c ≡ d = cc in
    subst (λ (x : Block). need_of x.arena nb ≤ x.size) same le)
    h

-- ---- realloc by its size

freed_answered : (reply : Reply) (X : Type 0) → IsFreed reply → X → IfAnswered reply X
freed_answered (Freed to) X h x = x
freed_answered NotYours X h x = x
freed_answered (Got addr size from) X h x = absurd h
freed_answered (Kept addr size from) X h x = absurd h
freed_answered (Null why) X h x = absurd h
freed_answered Posted X h x = absurd h
freed_answered (Taken addr size) X h x = absurd h
freed_answered (Missed seen) X h x = absurd h
freed_answered replies.Ended X h x = absurd h

pub freed_never : {E : Type 0} (R : Type 0) (r : Result Reply E) → IfOk r IsFreed → IfOk r (λ reply. reply ≡ Null Refused → R)
freed_never R (Ok reply) h = λ e. let no : IsFreed (Null Refused) = subst IsFreed e h in absurd no
freed_never R (Err e) h = tt

pub freed_fits : {E : Type 0} (nb name : ℕ) (names now : NameTable) (r : Result Reply E) → IfOk r IsFreed → OnOk r (now ≡ without_block name names) →
    IfOk r (λ reply. IfAnswered reply (FitsName nb name now))
freed_fits nb name names now (Ok reply) h gone =
    freed_answered reply (FitsName nb name now) h (λ b is. let no : None ≡ Some b = sym (without_none name names) ∙ (ap (λ (x : NameTable). block_at x name) (sym gone) ∙ is) in absurd cc)
freed_fits nb name names now (Err e) h gone = tt

pub unnamed_others : (name : ℕ) (names : NameTable) (n : ℕ) → (n ≡ name → ⊥) → block_at (without_block name names) n ≡ block_at names n
unnamed_others name names n other = at_other name n None names other

-- the others' blocks stay where a name's block was freed, or memory was short for that
pub freed_others : {P H D K A E : Type 0} (s : Setting P H D K) (t : Tunables) (who : Who) (z : Standing P K) (name : ℕ) (names now : NameTable) (r : Result A E) → OnOk r (now ≡ without_block name names) →
    OnErr r (HoldsOrLoses s t who name names now z) → (n : ℕ) → (n ≡ name → ⊥) → block_at now n ≡ block_at names n
freed_others s t who z name names now (Ok x) gone short n other = ap (λ (x : NameTable). block_at x n) gone ∙ unnamed_others name names n other
freed_others s t who z name names now (Err e) gone short n other = elim short [
  | inl same ↦ ap (λ (x : NameTable). block_at x n) same
  | inr lost ↦ ap (λ (x : NameTable). block_at x n) lost.gone ∙ unnamed_others name names n other
]

pub realloc_big : {P H D K : Type 0} (s : Setting P H D K) (t : Tunables) (who : Who) (thread name size : ℕ) (b : Block) (own : Own) (o : Standing P K) →
    block_at own.names name ≡ Some b → nat_eq size 0 ≡ false → padded_request size ≡ None → Does s t who (realloc_call t thread name size own) o (Null Big, own) o
realloc_big s t who thread name size b own o at some big = rw (at, some, big) (does_here (Null Big, own) o)

-- a realloc is left where its block gets another size
pub realloc_left : {P H D K A E : Type 0} (s : Setting P H D K) (t : Tunables) (who : Who) (thread name size nb : ℕ) (b : Block) (own : Own) (o z : Standing P K) (r : Result A E) →
    block_at own.names name ≡ Some b → nat_eq size 0 ≡ false → padded_request size ≡ Some nb →
    ((x : Block) → block_at own.names name ≡ Some x → OnErr r (IsLeft s t who (then_call (realloc_in t thread size nb x x.arena own.cache) (λ y. Done (resettled name own y))) o z)) →
    OnErr r (IsLeft s t who (realloc_call t thread name size own) o z)
realloc_left s t who thread name size nb b own o z r at some padded left = rw (at, some, padded) (left b at)
