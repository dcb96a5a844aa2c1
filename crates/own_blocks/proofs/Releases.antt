-- Laws of a block of an arena that is released, and of a name that loses its block.
use Rattle.std.proofs.Common.{◌≡◌, ℕ, true, false, [], ◌∷◌, Option, Some, None, inl, inr, refl, sym, ap, ◌∙◌, subst, arith}
use Rattle.std.specs.Prelude.{Result, Ok, Err, IfOk, IfErr, OnErr, IfSome, nat_le}
use Rattle.chunk_tags.specs.Sizes.{fast_index_of}
use Rattle.chunk_tags.specs.declared.block.Block.{Block}
use Rattle.chunk_tags.specs.declared.tunables.Tunables.{Tunables}
use Rattle.address_space.specs.declared.space.Space.{Space}
use Rattle.thread_cache.specs.Caches.{CacheValue, takes, with_newest}
use Rattle.thread_cache.specs.Held.{IsSoundCache}
use Rattle.arena_core.specs.declared.journal.Who.{Who}
use Rattle.arena_core.specs.declared.take.GiveShort.{GiveShort}
use Rattle.block_names.specs.Blocks.{IsHeld}
use Rattle.block_names.specs.Names.{NameTable, block_at, with_block, with_some, without_block}
use Rattle.own_blocks.specs.Calls.{past_cache, releasing, opening, with_cache}
use Rattle.own_blocks.specs.Frees.{free_call, free_of_block, free_to, without_name, HoldsOrLoses}
use Rattle.own_blocks.specs.declared.own.Own.{Own}
use Rattle.own_blocks.specs.declared.reply.Reply.{Reply}
use Rattle.own_blocks.specs.declared.reply.Reply.TheVariants.{Freed}
use Rattle.own_blocks.specs.declared.reply.To.{To}
use Rattle.own_blocks.specs.declared.reply.To.TheVariants as sinks
use Rattle.arena_holds.specs.Going as going
use Rattle.arena_holds.specs.Going.{Does, Pushed, here, idled, pushed, freed}
use Rattle.arena_holds.specs.Holding.{Gives, GivesUp, GivesShort, FreesMapped, PushesWithRoom}
use Rattle.arena_holds.specs.Places.{PlaceWays, Setting, Standing, standing, both_of, Carries, weight_of, in_cache}
use Rattle.own_blocks.specs.Own.{in_own}
use Rattle.arena_holds.specs.Returning.{IsUnseen}
use Rattle.arena_holds.specs.RunningShort.{RunsShort}
use Rattle.arena_holds.specs.Calls.{Done, Pushes}
use Rattle.own_blocks.specs.LeftCalls.{IsLeft}
use Rattle.own_blocks.specs.Supplying.{Releases, ReleasesShort}
use Rattle.arena_holds.proofs.Going.{does_here, does_last, does_then}
use Rattle.own_blocks.proofs.Calling.{carries_given, carries_renamed, carries_unnamed}
use Rattle.arena_holds.proofs.Carrying.{SameLaw, carries_here, carries_as, carries_beside, carries_unseen}
use Rattle.block_names.proofs.Tables.{put_back}
use Rattle.arena_holds.proofs.RunningShort.{short_here, short_behind, short_give}
use Rattle.own_blocks.proofs.LeftCalls.{left_behind, left_then}
use Rattle.own_blocks.proofs.Weights.{in_cache-put}

-- ---- into the cache

pub released_cached : {P H D K : Type 0} {s : Setting P H D K} {t : Tunables} {who : Who} (o : Standing P K) (a : ℕ) (b : Block) (cache left : CacheValue) →
    SameLaw s.ways → takes cache b ≡ true → left ≡ with_newest cache b → IfSome left IsSoundCache →
    Releases s t who (releasing t a b cache) b cache o sinks.Cached left o
released_cached {s = s} o a b cache left same taken put sound =
    let well : IfSome (with_newest cache b) IsSoundCache = subst (λ (c : CacheValue). IfSome c IsSoundCache) put sound in
    rw put (record {
      does = rw taken (does_here _ o);
      carries = carries_as same (both_of (λ weigh. weigh b) (in_cache cache)) (in_cache (with_newest cache b)) (λ w. refl)
          (λ w. in_cache-put cache b taken well w)
          (carries_here s.ways true (both_of (λ weigh. weigh b) (in_cache cache)) o);
    })

pub released_past : {P H D K E : Type 0} (s : Setting P H D K) (t : Tunables) (who : Who) (o z : Standing P K) (a : ℕ) (b back : Block) (cache now left : CacheValue)
    (r : Result To E) → takes cache b ≡ false → now ≡ cache → back ≡ b →
    IfOk r (λ to. Releases s t who (past_cache t a back now) back now o to left z) →
    IfOk r (λ to. Releases s t who (releasing t a b cache) b cache o to left z)
released_past s t who o z a b back cache now left r refused same e d =
    let R : CacheValue → Block → Type 0 = λ c k. IfOk r (λ to. Releases s t who (past_cache t a k c) k c o to left z) in
    rw refused (subst (R cache) e (subst (λ c. R c back) same d))

pub short_past : {P H D K A : Type 0} (s : Setting P H D K) (t : Tunables) (who : Who) (a : ℕ) (o z : Standing P K) (b back : Block) (cache now left : CacheValue) (r : Result A GiveShort) →
    now ≡ cache → back ≡ b →
    IfErr r (λ e. ReleasesShort s t who a back now o e.back left z) → IfErr r (λ e. ReleasesShort s t who a b cache o e.back left z)
short_past s t who a o z b back cache now left r same e d =
    let R : CacheValue → Block → Type 0 = λ c k. IfErr r (λ x. ReleasesShort s t who a k c o x.back left z) in
    subst (R cache) e (subst (λ c. R c back) same d)

-- ---- past it

pub released_fast : {P H D K : Type 0} {s : Setting P H D K} {t : Tunables} {who : Who} (p q : P) (space : Space K) (a bin : ℕ) (b : Block) (cache : CacheValue) →
    SameLaw s.ways → nat_le b.size t.max_fast ≡ true → bin ≡ fast_index_of b.size → PushesWithRoom s.ways p b q → IsUnseen s.ways p (λ weigh. weigh b) (λ _. 0) q →
    Releases s t who (past_cache t a b cache) b cache (standing p space) (sinks.Fast a bin) cache (standing q space)
released_fast p q space a bin b cache same fast is h gone = rw is (record {
  does = rw fast (record {
    told = Pushed b ∷ [];
    goes = idled {p = standing h.roomy space} (record { idle = h.idle; space = refl }) (pushed (record { pushed = h.pushed; space = refl }) here);
  });
  carries = carries_given same b (in_cache cache) (carries_unseen true refl (λ w. omega arith) gone);
})

pub released_given : {P H D K : Type 0} {s : Setting P H D K} {t : Tunables} {who : Who} {a place : ℕ} {o z : Standing P K} (b : Block) (cache : CacheValue) →
    SameLaw s.ways → nat_le b.size t.max_fast ≡ false → Gives s t who a b cache o place z →
    Releases s t who (past_cache t a b cache) b cache o (sinks.Binned a place) cache z
released_given {a = a} b cache same slow h = record {
  does = rw slow (does_last (λ e. (sinks.Binned a e.place, e.cache)) h.does);
  carries = carries_given same b (in_cache cache) h.carries;
}

-- where memory is short for a hold the block comes back or its arena has it, for a push it comes back
pub short_given : {P H D K : Type 0} {s : Setting P H D K} {t : Tunables} {who : Who} {a : ℕ} {o z : Standing P K} {back : Option Block} (b : Block) (cache : CacheValue) → SameLaw s.ways →
    GivesShort s t who a b o back z → ReleasesShort s t who a b cache o back cache z
short_given b cache same h = record {
  same = h.same;
  gone = h.gone;
  carries = carries_beside same (in_cache cache) h.carries;
}

pub short_pushed : {P H D K : Type 0} {s : Setting P H D K} (t : Tunables) (who : Who) (a : ℕ) (p q : P) (space : Space K) (b back : Block) (cache : CacheValue) → SameLaw s.ways → back ≡ b →
    IsUnseen s.ways p (λ _. 0) (λ _. 0) q → ReleasesShort s t who a b cache (standing p space) (Some back) cache (standing q space)
short_pushed t who a p q space b back cache same e u = rw e (record {
  same = refl;
  gone = λ none. absurd cc;
  carries = carries_as same (both_of (λ weigh. weigh b) (in_cache cache)) (both_of (weight_of (Some b)) (in_cache cache)) (λ w. omega arith) (λ w. omega arith)
      (carries_beside same (both_of (λ weigh. weigh b) (in_cache cache)) (carries_unseen {given = λ _. 0} {got = λ _. 0} false refl (λ w. omega arith) u));
})

-- there was no room for a push, or memory was short for a hold
pub left_pushed : {P H D K : Type 0} {s : Setting P H D K} {t : Tunables} {who : Who} {p q : P} {space : Space K} (a : ℕ) (b : Block) (cache : CacheValue) → b.arena ≡ Some a →
    nat_le b.size t.max_fast ≡ true → (s.ways.room p a → ⊥) → s.ways.idle p q → RunsShort s t who (past_cache t a b cache) (standing p space) (standing q space)
left_pushed a b cache arena fast full idle =
    rw fast (short_here (Pushes b (Done (sinks.Fast a (fast_index_of b.size), cache))) (record { a = a; arena = arena; full = full; idle = record { idle = idle; space = refl } }))

pub left_given : {P H D K : Type 0} {s : Setting P H D K} {t : Tunables} {who : Who} {a : ℕ} {o z : Standing P K} {back : Option Block} (b : Block) (cache : CacheValue) →
    nat_le b.size t.max_fast ≡ false → GivesShort s t who a b o back z → RunsShort s t who (past_cache t a b cache) o z
left_given {s = s} {a = a} {back = back} b cache slow h = rw slow (short_behind (λ e. Done (sinks.Binned a e.place, e.cache)) (short_give s b cache back h))

-- behind a cache that doesn't take the block
pub left_past : {P H D K A E : Type 0} (s : Setting P H D K) (t : Tunables) (who : Who) (o z : Standing P K) (a : ℕ) (b back : Block) (cache now : CacheValue) (r : Result A E) →
    takes cache b ≡ false → now ≡ cache → back ≡ b → OnErr r (RunsShort s t who (past_cache t a back now) o z) → OnErr r (RunsShort s t who (releasing t a b cache) o z)
left_past s t who o z a b back cache now r refused same e d =
    let R : CacheValue → Block → Type 0 = λ c k. OnErr r (RunsShort s t who (past_cache t a k c) o z) in
    rw refused (subst (R cache) e (subst (λ c. R c back) same d))

-- ---- free

pub freed_to : {P H D K : Type 0} {s : Setting P H D K} {t : Tunables} {who : Who} {o z : Standing P K} (a name : ℕ) (b c : Block) (own : Own) (names : NameTable)
    (to : To) (left : CacheValue) → c ≡ b → names ≡ without_block name own.names → Releases s t who (releasing t a c own.cache) c own.cache o to left z →
    Does s t who (free_to t a name b own) o (Freed to, record { cache = left; names = names }) z
freed_to {s = s} {t = t} {who = who} {o = o} {z = z} a name b c own names to left e named h =
    let d : Does s t who (releasing t a b own.cache) o (to, left) z = subst (λ (x : Block). Does s t who (releasing t a x own.cache) o (to, left) z) e h.does in
    rw named (does_last (λ r. (Freed r.0, with_cache r.1 (without_name name own))) d)

pub free_does : {P H D K E : Type 0} (s : Setting P H D K) (t : Tunables) (who : Who) (o p z : Standing P K) (thread a name : ℕ) (b : Block) (own : Own)
    (cache : CacheValue) (r : Result Reply E) (after : Own) →
    block_at own.names name ≡ Some b → b.arena ≡ Some a →
    Does s t who (opening t thread own.cache) o cache p →
    IfOk r (λ reply. (x : Block) → block_at own.names name ≡ Some x → Does s t who (free_to t a name x (with_cache cache own)) p (reply, after) z) →
    IfOk r (λ reply. Does s t who (free_call t thread name own) o (reply, after) z)
free_does s t who o p z thread a name b own cache (Ok reply) after at arena d e =
    let P : Option ℕ → Type 0 = λ x. Does s t who (free_of_block t thread name b x own) o (reply, after) z in
    rw at (subst P (sym arena) (does_then (λ c. free_to t a name b (with_cache c own)) d (e b at)))
free_does s t who o p z thread a name b own cache (Err x) after at arena d e = tt

-- a free is left where its block is released, or before that, where the cache is opened
pub left_freed : {P H D K : Type 0} {s : Setting P H D K} {t : Tunables} {who : Who} {o z : Standing P K} (a name : ℕ) (b c : Block) (own : Own) → c ≡ b →
    RunsShort s t who (releasing t a c own.cache) o z → RunsShort s t who (free_to t a name b own) o z
left_freed {s = s} {t = t} {who = who} {o = o} {z = z} a name b c own e r =
    short_behind (λ x. Done (Freed x.0, with_cache x.1 (without_name name own))) (subst (λ (x : Block). RunsShort s t who (releasing t a x own.cache) o z) e r)

pub free_unopened : {P H D K : Type 0} {s : Setting P H D K} {t : Tunables} {who : Who} {o z : Standing P K} (a name : ℕ) (b : Block) (own : Own) →
    block_at own.names name ≡ Some b → b.arena ≡ Some a → IsLeft s t who (opening t who.thread own.cache) o z → IsLeft s t who (free_call t who.thread name own) o z
free_unopened {s = s} {t = t} {who = who} {o = o} {z = z} a name b own at arena l =
    let P : Option ℕ → Type 0 = λ x. IsLeft s t who (free_of_block t who.thread name b x own) o z in
    rw at (subst P (sym arena) (left_behind (λ c. free_to t a name b (with_cache c own)) l))

pub free_left : {P H D K A E : Type 0} {s : Setting P H D K} {t : Tunables} {who : Who} {o p : Standing P K} (z : Standing P K) (a name : ℕ) (b : Block) (own : Own) (cache : CacheValue) (r : Result A E) →
    block_at own.names name ≡ Some b → b.arena ≡ Some a → Does s t who (opening t who.thread own.cache) o cache p →
    ((x : Block) → block_at own.names name ≡ Some x → OnErr r (RunsShort s t who (free_to t a name x (with_cache cache own)) p z)) → OnErr r (IsLeft s t who (free_call t who.thread name own) o z)
free_left z a name b own cache (Ok x) at arena d short = tt
free_left {s = s} {t = t} {who = who} {o = o} z a name b own cache (Err e) at arena d short =
    let P : Option ℕ → Type 0 = λ x. IsLeft s t who (free_of_block t who.thread name b x own) o z in
    rw at (subst P (sym arena) (left_then (λ c. free_to t a name b (with_cache c own)) d (inl (short b at))))

pub free_unmaps : {P H D K : Type 0} {s : Setting P H D K} {t : Tunables} (who : Who) {o z : Standing P K} (thread name : ℕ) (b : Block) (own : Own) (names : NameTable) →
    block_at own.names name ≡ Some b → b.arena ≡ None → names ≡ without_block name own.names → FreesMapped s t b o z →
    Does s t who (free_call t thread name own) o (Freed sinks.Unmapped, record own { names = names }) z
free_unmaps {s = s} {t = t} who {o = o} {z = z} thread name b own names at arena named h =
    let P : Option ℕ → Type 0 = λ x. Does s t who (free_of_block t thread name b x own) o (Freed sinks.Unmapped, without_name name own) z in
    rw (at, named) (subst P (sym arena) (record { told = going.Freed b h.threshold ∷ []; goes = freed h.step here }))

-- ---- memory was short for a name's block: it comes back, or doesn't

pub held_some : (X : Block → Type 0) {o : Option Block} {b : Block} → IfSome o X → o ≡ Some b → X b
held_some X h e = subst (λ (o : Option Block). IfSome o X) e h

pub back_held : (b : Block) (back : Option Block) → IsHeld b → IfSome back (λ c. c ≡ b) → IfSome back IsHeld
back_held b None held same = tt
back_held b (Some c) held same = subst IsHeld (sym same) held

pub back_names : {P H D K : Type 0} {s : Setting P H D K} {t : Tunables} {who : Who} {o z : Standing P K} (a name : ℕ) (b : Block) (back : Option Block) (names taken now : NameTable) →
    block_at names name ≡ Some b → taken ≡ without_block name names → IfSome back (λ c. c ≡ b) → (back ≡ None → GivesUp s t who a b o z) → now ≡ with_some name back taken →
    HoldsOrLoses s t who name names now z
back_names {o = o} a name b None names taken now at e same gone put = inr (record { a = a; block = b; before = o; at = at; gives = gone refl; gone = put ∙ e })
back_names a name b (Some c) names taken now at e same gone put =
    inl (put ∙ (ap (λ (x : Block). with_block name x taken) same ∙ (ap (with_block name b) e ∙ put_back names name b at)))

pub back_carries : {P H D K : Type 0} {ways : PlaceWays P H D} {o z : Standing P K} (name : ℕ) (b : Block) (own : Own) (left : CacheValue) (back : Option Block)
    (taken names : NameTable) → SameLaw ways → block_at own.names name ≡ Some b → taken ≡ without_block name own.names → names ≡ with_some name back taken →
    Carries ways false (both_of (λ weigh. weigh b) (in_cache own.cache)) o (both_of (weight_of back) (in_cache left)) z →
    Carries ways false (in_own own) o (in_own (record { cache = left; names = names })) z
back_carries name b own left None taken names same at gone put h =
    rw put (carries_unnamed same name b own left taken at gone
    (carries_as same (both_of (λ weigh. weigh b) (in_cache own.cache)) (in_cache left) (λ w. refl) (λ w. omega arith) h))
back_carries name b own left (Some c) taken names same at gone put h =
    carries_renamed same name b c own left taken names at gone put h
