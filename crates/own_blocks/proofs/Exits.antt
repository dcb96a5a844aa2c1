-- Laws of a thread's end: blocks that are released one after another.
use Rattle.std.proofs.Common.{◌≡◌, ℕ, ◌+◌, Bool, true, false, List, [], ◌∷◌, ◌++◌, Option, Some, None, refl, sym, ap, ◌∙◌, subst, arith}
use Rattle.std.specs.Prelude.{Result, Ok, Err, OnOk, OnErr, sum_by, option_to_list}
use Rattle.std.proofs.lemmas.List.Sums.{sum_by-cons}
use Rattle.chunk_tags.specs.declared.block.Block.{Block}
use Rattle.chunk_tags.specs.declared.tunables.Tunables.{Tunables}
use Rattle.address_space.specs.declared.space.Space.{Space}
use Rattle.thread_cache.specs.Caches.{CacheValue, blocks_of, structure_of, without_next, is_open}
use Rattle.arena_core.specs.declared.journal.Who.{Who}
use Rattle.arena_holds.specs.BookChanges.{Leaves}
use Rattle.arena_holds.specs.Calls.{Books, Done}
use Rattle.arena_holds.specs.Going as going
use Rattle.arena_holds.specs.Going.{Does, here, freed, booked}
use Rattle.arena_holds.specs.Holding.{FreesMapped}
use Rattle.arena_holds.specs.Places.{PlaceWays, Setting, Standing, standing, Carries, Hands, both_of, weight_of, in_cache}
use Rattle.arena_holds.specs.RunningShort.{RunsShort}
use Rattle.arena_holds.specs.Returning.{IsBooked, IsUnseen}
use Rattle.own_blocks.specs.Calls.{past_cache, with_cache}
use Rattle.own_blocks.specs.Exits.{released_past_cache, released_in_turn, cache_in_turn, exit_call}
use Rattle.own_blocks.specs.Supplying.{Releases, ReleasesShort}
use Rattle.own_blocks.specs.declared.own.Own.{Own}
use Rattle.own_blocks.specs.declared.reply.Reply.TheVariants.{Ended}
use Rattle.own_blocks.specs.declared.reply.To.{To}
use Rattle.arena_holds.proofs.Going.{does_here, does_last, does_then}
use Rattle.arena_holds.proofs.RunningShort.{short_behind, short_then}
use Rattle.arena_holds.proofs.Carrying.{SameLaw, FewerLaw, carries_as, carries_then, carries_beside, carries_fewer, carries_unseen}
use Rattle.own_blocks.proofs.Calling.{carries_given}

-- ---- one block

pub last_mapped : {P H D K : Type 0} {s : Setting P H D K} {t : Tunables} {who : Who} {o z : Standing P K} (b : Block) → b.arena ≡ None →
    FreesMapped s t b o z → Does s t who (released_past_cache t b b.arena) o tt z
last_mapped {s = s} {t = t} {who = who} {o = o} {z = z} b arena h =
    let P : Option ℕ → Type 0 = λ x. Does s t who (released_past_cache t b x) o tt z in
    subst P (sym arena) (record { told = going.Freed b h.threshold ∷ []; goes = freed h.step here })

pub last_released : {P H D K : Type 0} {s : Setting P H D K} {t : Tunables} {who : Who} {o z : Standing P K} {to : To} (a : ℕ) (b : Block) → b.arena ≡ Some a →
    Releases s t who (past_cache t a b None) b None o to None z → Does s t who (released_past_cache t b b.arena) o tt z
last_released {s = s} {t = t} {who = who} {o = o} {z = z} a b arena h =
    let P : Option ℕ → Type 0 = λ x. Does s t who (released_past_cache t b x) o tt z in
    subst P (sym arena) (does_last (λ to. tt) h.does)

pub last_left : {P H D K : Type 0} {s : Setting P H D K} {t : Tunables} {who : Who} {o z : Standing P K} (a : ℕ) (b : Block) → b.arena ≡ Some a →
    RunsShort s t who (past_cache t a b None) o z → RunsShort s t who (released_past_cache t b b.arena) o z
last_left {s = s} {t = t} {who = who} {o = o} {z = z} a b arena r =
    let P : Option ℕ → Type 0 = λ x. RunsShort s t who (released_past_cache t b x) o z in
    subst P (sym arena) (short_behind (λ to. Done tt) r)

pub last_carries : {P H D K : Type 0} {s : Setting P H D K} {t : Tunables} {who : Who} {o z : Standing P K} {to : To} (a : ℕ) (b : Block) → SameLaw s.ways →
    Releases s t who (past_cache t a b None) b None o to None z → Carries s.ways true (λ weigh. weigh b) o (λ _. 0) z
last_carries a b same h = carries_as same (λ weigh. weigh b) (λ _. 0) (λ w. omega arith) (λ w. refl) h.carries

pub last_short : {P H D K : Type 0} {s : Setting P H D K} {t : Tunables} {who : Who} {a : ℕ} {o z : Standing P K} {back : Option Block} (b : Block) → SameLaw s.ways → FewerLaw s.ways →
    ReleasesShort s t who a b None o back None z → Carries s.ways false (λ weigh. weigh b) o (λ _. 0) z
last_short {back = back} b same fewer h =
    carries_fewer fewer (λ _. 0) (λ w. omega arith)
    (carries_as same (λ weigh. weigh b) (both_of (weight_of back) (in_cache None)) (λ w. omega arith) (λ w. refl) h.carries)

-- ---- a cache that is emptied

pub closed_is : (c : CacheValue) → is_open c ≡ false → c ≡ None
closed_is None e = refl
closed_is (Some c) e = absurd cc

structure_next : (c : CacheValue) → structure_of (without_next c) ≡ structure_of c
structure_next None = refl
structure_next (Some c) = refl

-- the next block is the first in turn
turn_drained : (now left : CacheValue) (b : Block) → blocks_of now ≡ option_to_list (Some b) ++ blocks_of left → left ≡ without_next now →
    cache_in_turn now ≡ b ∷ cache_in_turn left
turn_drained now left b order rest =
    let same : structure_of left ≡ structure_of now = ap structure_of rest ∙ structure_next now in
    ap (λ (bs : List Block). bs ++ option_to_list (structure_of now)) order ∙ ap (λ (o : Option Block). (b ∷ blocks_of left) ++ option_to_list o) (sym same)

pub weigh_drained : (now left : CacheValue) (b : Block) → blocks_of now ≡ option_to_list (Some b) ++ blocks_of left → left ≡ without_next now → (weigh : Block → ℕ) →
    in_cache now weigh ≡ weigh b + in_cache left weigh
weigh_drained now left b order rest weigh =
    let same : structure_of left ≡ structure_of now = ap structure_of rest ∙ structure_next now in
    let blocks : sum_by weigh (blocks_of now) ≡ sum_by weigh (b ∷ blocks_of left) = ap (λ (bs : List Block). sum_by weigh bs) order in
    let structure : weight_of (structure_of left) weigh ≡ weight_of (structure_of now) weigh = ap (λ (o : Option Block). weight_of o weigh) same in
    omega (arith, blocks, structure, sum_by-cons weigh b (blocks_of left))

turn_none : (c : CacheValue) → blocks_of c ≡ [] → structure_of c ≡ None → cache_in_turn c ≡ []
turn_none c empty none = rw (empty, none) refl

turn_last : (c : CacheValue) (b : Block) → blocks_of c ≡ [] → structure_of c ≡ Some b → cache_in_turn c ≡ b ∷ []
turn_last c b empty some = rw (empty, some) refl

weigh_none : (c : CacheValue) → blocks_of c ≡ [] → structure_of c ≡ None → (weigh : Block → ℕ) → in_cache c weigh ≡ 0
weigh_none c empty none weigh = rw (empty, none) refl

pub weigh_last : (c : CacheValue) (b : Block) → blocks_of c ≡ [] → structure_of c ≡ Some b → (weigh : Block → ℕ) → in_cache c weigh ≡ weigh b
weigh_last c b empty some weigh = rw (empty, some) (omega arith)

-- So far: what ends or leaves the rest does so with the whole, and the blocks that left are given out no more.
pub record Empties {P H D K : Type 0} (s : Setting P H D K) (t : Tunables) (who : Who) (cache : CacheValue) (o : Standing P K)
    (now : CacheValue) (p : Standing P K) : Type 0 where
  pub ends : (z : Standing P K) → Does s t who (released_in_turn t (cache_in_turn now)) p tt z → Does s t who (released_in_turn t (cache_in_turn cache)) o tt z
  pub leaves : (z : Standing P K) → RunsShort s t who (released_in_turn t (cache_in_turn now)) p z → RunsShort s t who (released_in_turn t (cache_in_turn cache)) o z
  pub carries : Carries s.ways true (in_cache cache) o (in_cache now) p

-- what the cache still has is given out while the next block is released
pub drained_carries : {P H D K : Type 0} {s : Setting P H D K} {t : Tunables} {who : Who} {cache now left : CacheValue} {o p q : Standing P K} (well : Bool) (b : Block) →
    SameLaw s.ways → Empties s t who cache o now p → blocks_of now ≡ option_to_list (Some b) ++ blocks_of left → left ≡ without_next now →
    Carries s.ways well (λ weigh. weigh b) p (λ _. 0) q → Carries s.ways well (in_cache cache) o (in_cache left) q
drained_carries {now = now} {left = left} well b same h order rest c =
    carries_then h.carries
    (carries_as same (in_cache now) (in_cache left) (λ w. weigh_drained now left b order rest w) (λ w. refl) (carries_given same b (in_cache left) c))

pub empties_next : {P H D K : Type 0} {s : Setting P H D K} {t : Tunables} {who : Who} {cache now left : CacheValue} {o p q : Standing P K} (b : Block) →
    SameLaw s.ways → Empties s t who cache o now p → blocks_of now ≡ option_to_list (Some b) ++ blocks_of left → left ≡ without_next now →
    Does s t who (released_past_cache t b b.arena) p tt q → Carries s.ways true (λ weigh. weigh b) p (λ _. 0) q → Empties s t who cache o left q
empties_next {s = s} {t = t} {who = who} {now = now} {left = left} {p = p} b same h order rest d c = record {
  ends = λ z e. h.ends z (rw (turn_drained now left b order rest) (does_then (λ u. released_in_turn t (cache_in_turn left)) d e));
  leaves = λ z e. h.leaves z (rw (turn_drained now left b order rest) (short_then (λ u. released_in_turn t (cache_in_turn left)) d e));
  carries = drained_carries true b same h order rest c;
}

-- memory was short for the next block
pub drained_left : {P H D K : Type 0} {s : Setting P H D K} {t : Tunables} {who : Who} {cache now left : CacheValue} {o p z : Standing P K} (b : Block) →
    Empties s t who cache o now p → blocks_of now ≡ option_to_list (Some b) ++ blocks_of left → left ≡ without_next now →
    RunsShort s t who (released_past_cache t b b.arena) p z → RunsShort s t who (released_in_turn t (cache_in_turn cache)) o z
drained_left {t = t} {now = now} {left = left} {z = z} b h order rest r =
    h.leaves z (rw (turn_drained now left b order rest) (short_behind (λ u. released_in_turn t (cache_in_turn left)) r))

-- what is left is its structure, or nothing
pub closed_none : {P H D K : Type 0} {s : Setting P H D K} {t : Tunables} {who : Who} {cache now : CacheValue} {o p : Standing P K} →
    Empties s t who cache o now p → blocks_of now ≡ [] → structure_of now ≡ None → Does s t who (released_in_turn t (cache_in_turn cache)) o tt p
closed_none {now = now} {p = p} h empty none = h.ends p (rw (turn_none now empty none) (does_here tt p))

pub closed_last : {P H D K E : Type 0} {s : Setting P H D K} {t : Tunables} {who : Who} {cache now : CacheValue} {o p : Standing P K} (b : Block) (z : Standing P K)
    (r : Result (Unit {0}) E) → Empties s t who cache o now p → blocks_of now ≡ [] → structure_of now ≡ Some b →
    OnOk r (Does s t who (released_past_cache t b b.arena) p tt z) → OnOk r (Does s t who (released_in_turn t (cache_in_turn cache)) o tt z)
closed_last {now = now} b z (Ok u) h empty some d = h.ends z (rw (turn_last now b empty some) (does_last (λ u. tt) d))
closed_last b z (Err e) h empty some d = tt

pub closed_left : {P H D K A E : Type 0} {s : Setting P H D K} {t : Tunables} {who : Who} {cache now : CacheValue} {o p : Standing P K} (b : Block) (z : Standing P K)
    (r : Result A E) → Empties s t who cache o now p → blocks_of now ≡ [] → structure_of now ≡ Some b →
    OnErr r (RunsShort s t who (released_past_cache t b b.arena) p z) → OnErr r (RunsShort s t who (released_in_turn t (cache_in_turn cache)) o z)
closed_left b z (Ok x) h empty some d = tt
closed_left {now = now} b z (Err e) h empty some d = h.leaves z (rw (turn_last now b empty some) (short_behind (λ u. Done tt) d))

pub closed_none_carries : {P H D K : Type 0} {s : Setting P H D K} {t : Tunables} {who : Who} {cache now : CacheValue} {o p : Standing P K} → SameLaw s.ways →
    Empties s t who cache o now p → blocks_of now ≡ [] → structure_of now ≡ None → Carries s.ways true (in_cache cache) o (in_cache None) p
closed_none_carries {cache = cache} {now = now} same h empty none =
    carries_as same (in_cache cache) (in_cache None) (λ w. refl) (λ w. omega (arith, weigh_none now empty none w)) h.carries

pub closed_last_carries : {P H D K : Type 0} {s : Setting P H D K} {t : Tunables} {who : Who} {cache now : CacheValue} {o p z : Standing P K} (well : Bool) (b : Block) →
    SameLaw s.ways → Empties s t who cache o now p → blocks_of now ≡ [] → structure_of now ≡ Some b →
    Carries s.ways well (λ weigh. weigh b) p (λ _. 0) z → Carries s.ways well (in_cache cache) o (in_cache None) z
closed_last_carries {now = now} well b same h empty some c =
    carries_then h.carries (carries_as same (in_cache now) (in_cache None) (λ w. weigh_last now b empty some w) (λ w. refl) c)

-- ---- the thread leaves its arena

-- or memory was short before that
pub exit_left : {P H D K : Type 0} {s : Setting P H D K} {t : Tunables} {who : Who} {o z : Standing P K} (thread : ℕ) (own : Own) → RunsShort s t who (released_in_turn t (cache_in_turn own.cache)) o z →
    RunsShort s t who (exit_call t thread own) o z
exit_left thread own r = short_behind (λ u. Books (Leaves thread) (λ book. Done (Ended, with_cache None own))) r

pub leaves_does : {P H D K : Type 0} {s : Setting P H D K} {t : Tunables} {who : Who} {o : Standing P K} {p q : P} {space : Space K} (thread : ℕ) (own : Own)
    (left : CacheValue) → left ≡ None → Does s t who (released_in_turn t (cache_in_turn own.cache)) o tt (standing p space) → IsBooked s.ways p (Leaves thread) q →
    Does s t who (exit_call t thread own) o (Ended, record { cache = left; names = own.names }) (standing q space)
leaves_does thread own left closed d h =
    rw closed (does_then (λ u. Books (Leaves thread) (λ book. Done (Ended, with_cache None own))) d
    (record { told = going.Booked (Leaves thread) h.book ∷ []; goes = booked (record { booked = h.booked; space = refl }) here }))

pub leaves_carries : {P H D K : Type 0} {ways : PlaceWays P H D} {given : Hands} {o : Standing P K} {p q : P} {space : Space K} (hands : Hands) → SameLaw ways →
    Carries ways true given o hands (standing p space) → IsUnseen ways p (λ _. 0) (λ _. 0) q → Carries ways true given o hands (standing q space)
leaves_carries hands same c u =
    carries_then c
    (carries_as same hands hands (λ w. omega arith) (λ w. omega arith)
    (carries_beside same hands (carries_unseen {given = λ _. 0} {got = λ _. 0} true refl (λ w. omega arith) u)))
