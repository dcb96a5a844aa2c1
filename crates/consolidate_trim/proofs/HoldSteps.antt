-- Laws of the steps of a body, for this crate and those above it: what each step of a hold passes, and the rules by which
-- a chunk is given up.
use Rattle.std.proofs.Common.{◌≡◌, ℕ, ◌+◌, ◌<◌, ◌≤◌, Bool, true, false, ◌&&◌, cond, List, [], ◌∷◌, ◌++◌, IfSome, IsTrue, refl, sym, ap, ◌∙◌, subst, arith}
use Rattle.std.specs.Prelude.{if◌then◌else◌, nat_eq, nat_lt, nat_le}
use Rattle.std.proofs.lemmas.Bool.{cond-true, cond-false, and_from, lt-ltb, le-ltb, le-leb, lt-leb, eq-eqb, ne_eqb}
use Rattle.std.proofs.Math.Bool.{and-true, and-false}
use Rattle.chunk_tags.specs.BinOrder.{fast_chunk, once, same_chunk}
use Rattle.chunk_tags.specs.Dials.{TrimThreshold}
use Rattle.chunk_tags.specs.Sizes.{IsChunkSize, fast_index_of, fast_size_at}
use Rattle.chunk_tags.specs.Tiles.{is_used}
use Rattle.chunk_tags.specs.declared.tiles.Chunk.{Chunk}
use Rattle.chunk_tags.specs.declared.tunables.Tunables.{Tunables}
use Rattle.fast_bins.specs.FastPorts as fasts
use Rattle.fast_bins.specs.FastPorts.{Fast, Did, Idles}
use Rattle.mapped_chunks.specs.DialPorts as dial_steps
use Rattle.thread_cache.specs.Caches.{CacheValue, has_room, with_newest}
use Rattle.thread_cache.specs.Held as held
use Rattle.thread_cache.proofs.CacheLaws.{Took, put}
use Rattle.arena_rules.specs.declared.said.Said.{Said}
use Rattle.arena_rules.specs.declared.said.Said.TheVariants as told
use Rattle.arena_rules.specs.PlainArena.{Plain, IsSound, is_own}
use Rattle.arena_rules.specs.Release.{Merging, merged, consolidated_if, trimmed_by_threshold, settled, settling_size, given, released}
use Rattle.arena_rules.specs.Rules.{Rules, Stop, Does, Needs, Need, Stashes, Pushes, behind, fits, flag_of, number_told, asks_flag, asks_room, block_of}
use Rattle.arena_rules.specs.Trim.{trimmed}
use Rattle.arena_rules.specs.Walks.{Reaches}
use Rattle.arena_rules.proofs.Bins.{once_self}
use Rattle.arena_rules.proofs.ChunkMoves.{own_from, own_count}
use Rattle.arena_rules.proofs.Counts.{at_most_once}
use Rattle.arena_rules.proofs.Own.{own_tile}
use Rattle.arena_rules.proofs.Walks.{reaches_here, reaches_told, reaches_done, reaches_idled}
use Rattle.consolidate_trim.specs.declared.merging.Merged.{Merged}
use Rattle.consolidate_trim.specs.declared.merging.Merged.TheVariants as ends
use Rattle.consolidate_trim.specs.Merges.{size_merged, merging_of}
use Rattle.consolidate_trim.specs.Outside.{Means, AnswerGoes, AreApart, ways}
use Rattle.consolidate_trim.specs.Holds.{Hold, hold, outside, Chunks, no_chunk, one_chunk, is_block_of, times_cached, KeepsOthers, IsBacked, Keeps}
use Rattle.consolidate_trim.proofs.Carried.{Passes, passes_here, passes_then}
use Rattle.consolidate_trim.proofs.Emptying.{IsMerged, merge_left}

-- ---- chunks in hand

-- a chunk in hand is the arena's own
pub hand_own : {P : Type 0} {fast : Fast P} {a : Plain} {port : P} (c : Chunk) → IsBacked fast a port (one_chunk c) → IsTrue (is_own a c)
hand_own {a = a} c backed = own_from a c (omega (arith, backed.used c, once_self c))

pub hand_size : {P : Type 0} {fast : Fast P} {a : Plain} {port : P} (c : Chunk) → IsBacked fast a port (one_chunk c) → IsChunkSize c.size
hand_size {a = a} c backed = (own_tile a c backed.sound (own_count a c (hand_own c backed))).size

-- and the port can't give it
pub hand_new : {P : Type 0} {fast : Fast P} {a : Plain} {port : P} (c : Chunk) → IsBacked fast a port (one_chunk c) → fast.stock port c ≡ 0
hand_new {fast = fast} {a = a} {port = port} c backed = omega (arith, backed.used c, once_self c, at_most_once is_used c a.tiles backed.sound.row)

-- room made in the port changes nothing of that
pub idled_backed : {P : Type 0} {fast : Fast P} {a : Plain} {port q : P} {hand : Chunks} → IsBacked fast a port hand → Idles fast port q → IsBacked fast a q hand
idled_backed backed idles = record { sound = backed.sound; used = λ e. omega (arith, backed.used e, idles.stock e) }

-- ---- steps of any rules

-- room was made in the list of answers
pub passes_room : {P K A : Type 0} {m : Means P K} {t : Tunables} {r : Rules A} {chunks : Chunks} {h : Hold P K} {room : List Said} → IsSound h.arena → room ≡ h.said →
    Passes m t r chunks h r chunks (hold h.arena h.port h.cache h.space room)
passes_room {m = m} {t = t} {r = r} {chunks = chunks} {h = h} sound same =
    subst (λ (s : List Said). Passes m t r chunks h r chunks (hold h.arena h.port h.cache h.space s)) (sym same) (passes_here sound)

-- room was made in the fast bins
pub passes_idled : {P K A : Type 0} {m : Means P K} {t : Tunables} {r : Rules A} {chunks : Chunks} {h : Hold P K} {q : P} → IsSound h.arena → Idles m.fast h.port q →
    Passes m t r chunks h r chunks (hold h.arena q h.cache h.space h.said)
passes_idled sound idles = record {
  reaches = reaches_idled (record { idles = idles; others = refl });
  keeps = record { sound = sound; number = refl; windows = refl; placed = λ p. p; cached = λ e. omega arith; others = λ n other e. refl; kept = λ e. omega (arith, idles.stock e) };
}

-- an answer was told, which changes no chunk
pub passes_told : {P K A : Type 0} {m : Means P K} {t : Tunables} {n : Need} {chunks : Chunks} {h i : Hold P K} (f : Said → Rules A) (s : Said) →
    IsTrue (fits t n s) → AnswerGoes m (outside h) n s (outside i) → Keeps m.fast h chunks chunks i → i.said ≡ h.said ++ s ∷ [] → Passes m t (Needs h.arena n f) chunks h (f s) chunks i
passes_told {m = m} {t = t} {n = n} {h = h} {i = i} f s fit goes keeps told_so = record {
  reaches = subst (λ (x : List Said). Reaches t (ways m h.arena.number) (Needs h.arena n f) (outside h) h.said (f s) x (outside i)) (sym told_so) (reaches_told s fit goes);
  keeps = keeps;
}

-- the flag
pub passes_flag : {P K A : Type 0} {m : Means P K} {t : Tunables} {chunks : Chunks} {h : Hold P K} {q : P} {b : Bool} {said : List Said} (f : Bool → Rules A) → IsSound h.arena →
    Did m.fast h.port (fasts.Flags b) q → said ≡ h.said ++ told.Flag b ∷ [] → Passes m t (asks_flag h.arena f) chunks h (f b) chunks (hold h.arena q h.cache h.space said)
passes_flag {b = b} f sound did told_so =
    passes_told (λ s. f (flag_of s)) (told.Flag b) refl (record { did = did; others = refl })
    (record { sound = sound; number = refl; windows = refl; placed = λ p. p; cached = λ e. omega arith; others = λ n other e. refl; kept = λ e. omega (arith, did.stock e) }) told_so

-- whether the cache has room
pub passes_has_room : {P K A : Type 0} {m : Means P K} {t : Tunables} {chunks : Chunks} {h : Hold P K} {size : ℕ} {b : Bool} {said : List Said} (f : Bool → Rules A) → IsSound h.arena →
    b ≡ has_room h.cache size → said ≡ h.said ++ told.Room b ∷ [] → Passes m t (asks_room h.arena size f) chunks h (f b) chunks (hold h.arena h.port h.cache h.space said)
passes_has_room {b = b} f sound is told_so =
    passes_told (λ s. f (flag_of s)) (told.Room b) refl (record { told = is; others = refl })
    (record { sound = sound; number = refl; windows = refl; placed = λ p. p; cached = λ e. omega arith; others = λ n other e. refl; kept = λ e. refl }) told_so

-- the threshold
pub passes_threshold : {P K : Type 0} {m : Means P K} {t : Tunables} {h : Hold P K} {q : P} {said : List Said} (n : ℕ) → AreApart m.fast m.dials → IsSound h.arena →
    m.dials.step h.port (dial_steps.Reads TrimThreshold n) q → said ≡ h.said ++ told.Dial n ∷ [] →
    Passes m t (trimmed_by_threshold t h.arena) no_chunk h (trimmed t h.arena n) no_chunk (hold h.arena q h.cache h.space said)
passes_threshold {t = t} {h = h} {q = q} n apart sound step told_so =
    passes_told (λ s. trimmed t h.arena (number_told s)) (told.Dial n) refl (record { step = step; others = refl })
    (record { sound = sound; number = refl; windows = refl; placed = λ p. p; cached = λ e. omega arith; others = λ n other e. refl; kept = λ e. omega (arith, apart.stock h.port q (dial_steps.Reads TrimThreshold n) step e) }) told_so

-- the rules are the same, read otherwise
pub passes_as : {P K A : Type 0} {m : Means P K} {t : Tunables} {r q : Rules A} {chunks : Chunks} {h : Hold P K} → IsSound h.arena → r ≡ q → Passes m t r chunks h q chunks h
passes_as {m = m} {t = t} {r = r} {chunks = chunks} {h = h} sound e = subst (λ (x : Rules _). Passes m t r chunks h x chunks h) e (passes_here sound)

-- ---- what follows a merge

-- what follows the flag
abbrev pub after_flag : Tunables → Plain → Bool → Rules Plain
after_flag t a flag = behind (consolidated_if flag a) (λ b. trimmed_by_threshold t b)

pub settled_small : (t : Tunables) (r : Merged) (a : Plain) → size_merged r < settling_size → settled t (merging_of r a) ≡ Stop a
settled_small t (ends.Unsorted size) a lt = cond-true {A = Rules Plain} (nat_lt size settling_size) (Stop a) (asks_flag a (after_flag t a)) (lt-ltb size settling_size lt)
settled_small t (ends.Top size) a lt = cond-true {A = Rules Plain} (nat_lt size settling_size) (Stop a) (asks_flag a (after_flag t a)) (lt-ltb size settling_size lt)

pub settled_large : (t : Tunables) (r : Merged) (a : Plain) → settling_size ≤ size_merged r → settled t (merging_of r a) ≡ asks_flag a (after_flag t a)
settled_large t (ends.Unsorted size) a le = cond-false {A = Rules Plain} (nat_lt size settling_size) (Stop a) (asks_flag a (after_flag t a)) (le-ltb size settling_size le)
settled_large t (ends.Top size) a le = cond-false {A = Rules Plain} (nat_lt size settling_size) (Stop a) (asks_flag a (after_flag t a)) (le-ltb size settling_size le)

pub passes_settle : {P K : Type 0} {m : Means P K} {t : Tunables} {h : Hold P K} {room said : List Said} {q : P} {b : Bool} (r : Merged) → IsSound h.arena → settling_size ≤ size_merged r → room ≡ h.said → Did m.fast h.port (fasts.Flags b) q →
    said ≡ room ++ told.Flag b ∷ [] → Passes m t (settled t (merging_of r h.arena)) no_chunk h (after_flag t h.arena b) no_chunk (hold h.arena q h.cache h.space said)
passes_settle {t = t} {h = h} r sound le same did told_so =
    passes_then (passes_as sound (settled_large t r h.arena le)) (passes_then (passes_room sound same) (passes_flag (after_flag t h.arena) sound did told_so))

-- ---- a chunk is given to its arena

pub merge_backed : {P : Type 0} {fast : Fast P} {a : Plain} {port : P} (b : Plain) (r : Merged) (c : Chunk) → IsBacked fast a port (one_chunk c) → merging_of r b ≡ merged a c → IsBacked fast b port no_chunk
merge_backed {a = a} b r c backed e =
    let left : IsMerged a c b = merge_left a b c r backed.sound (hand_own c backed) e in
    record { sound = left.sound; used = λ x. omega (arith, left.used x, backed.used x) }

pub passes_merge : {P K : Type 0} {m : Means P K} {t : Tunables} {h : Hold P K} (b : Plain) (r : Merged) (c : Chunk) → IsBacked m.fast h.arena h.port (one_chunk c) → merging_of r b ≡ merged h.arena c →
    Passes m t (given t h.arena c) (one_chunk c) h (settled t (merging_of r b)) no_chunk (hold b h.port h.cache h.space h.said)
passes_merge {m = m} {t = t} {h = h} b r c backed e =
    let left : IsMerged h.arena c b = merge_left h.arena b c r backed.sound (hand_own c backed) e in
    record {
      reaches = subst (λ (x : Merging). Reaches t (ways m h.arena.number) (given t h.arena c) (outside h) h.said (settled t x) h.said (outside h)) (sym e) reaches_here;
      keeps = record { sound = left.sound; number = left.number; windows = left.windows; placed = left.placed; cached = λ x. omega arith; others = λ n other x. refl; kept = λ x. omega (arith, left.used x) };
    }

-- ---- a chunk goes into the cache

pub block_is : (number : ℕ) (e c : Chunk) → cond (is_block_of number e (block_of number c)) 1 0 ≡ once e c
block_is number e c = ap {B = ℕ} (λ (b : Bool). cond b 1 0) (ap (λ (b : Bool). same_chunk e c && b) (eq-eqb number number refl) ∙ and-true (same_chunk e c))

-- and counts for no other arena
pub block_other : (number n : ℕ) (e c : Chunk) → (n ≡ number → ⊥) → cond {A = ℕ} (is_block_of n e (block_of number c)) 1 0 ≡ 0
block_other number n e c other =
    let differ : nat_eq number n ≡ false = ne_eqb number n (λ same. other (sym same)) in
    ap {B = ℕ} (λ (b : Bool). cond b 1 0) (ap (λ (b : Bool). same_chunk e c && b) differ ∙ and-false (same_chunk e c))

stashed_cached : (number : ℕ) (cache : CacheValue) (c : Chunk) → IfSome cache held.IsSoundCache → IsChunkSize c.size → IsTrue (has_room cache c.size) → (e : Chunk) →
    times_cached number (with_newest cache (block_of number c)) e ≡ once e c + times_cached number cache e
stashed_cached number cache c sound chunk room e =
    let took : Took cache (block_of number c) (with_newest cache (block_of number c)) = put cache (block_of number c) sound chunk (and_from (has_room cache c.size) true room refl) in
    omega (arith, took.same (λ b. cond (is_block_of number e b) 1 0), block_is number e c)

stashed_others : (number : ℕ) (cache : CacheValue) (c : Chunk) → IfSome cache held.IsSoundCache → IsChunkSize c.size → IsTrue (has_room cache c.size) →
    KeepsOthers number cache (with_newest cache (block_of number c))
stashed_others number cache c sound chunk room n other e =
    let took : Took cache (block_of number c) (with_newest cache (block_of number c)) = put cache (block_of number c) sound chunk (and_from (has_room cache c.size) true room refl) in
    omega (arith, took.same (λ b. cond (is_block_of n e b) 1 0), block_other number n e c other)

pub passes_stash : {P K : Type 0} {m : Means P K} {t : Tunables} {h : Hold P K} {cache : CacheValue} {number : ℕ} (c : Chunk) → IsSound h.arena → IfSome h.cache held.IsSoundCache → IsChunkSize c.size → IsTrue (has_room h.cache c.size) →
    number ≡ h.arena.number → cache ≡ with_newest h.cache (block_of number c) → Passes m t (Does (Stashes c) (Stop h.arena)) (one_chunk c) h (Stop h.arena) no_chunk (hold h.arena h.port cache h.space h.said)
passes_stash {h = h} {cache = cache} c sound cached chunk room same stashed =
    let is : cache ≡ with_newest h.cache (block_of h.arena.number c) = stashed ∙ ap (λ (n : ℕ). with_newest h.cache (block_of n c)) same in
    let now : (e : Chunk) → times_cached h.arena.number cache e ≡ once e c + times_cached h.arena.number h.cache e = λ e.
    ap (λ (x : CacheValue). times_cached h.arena.number x e) is ∙ stashed_cached h.arena.number h.cache c cached chunk room e in
    let others : KeepsOthers h.arena.number h.cache cache = subst (KeepsOthers h.arena.number h.cache) (sym is) (stashed_others h.arena.number h.cache c cached chunk room) in
    record {
      reaches = reaches_done (ap (λ (x : CacheValue). record (outside h) { cache = x }) is);
      keeps = record { sound = sound; number = refl; windows = refl; placed = λ p. p; cached = λ e. omega (arith, now e); others = others; kept = λ e. omega (arith, now e) };
    }

-- ---- a chunk goes into its fast bin

pub fast_chunk_is : (c : Chunk) → IsChunkSize c.size → fast_chunk (fast_index_of c.size) c.at ≡ c
fast_chunk_is c chunk =
    let same : fast_size_at (fast_index_of c.size) ≡ c.size = omega (arith, chunk.0, chunk.1) in
    λ i. record { at = c.at; size = same i }

-- the port doesn't have it
pub fresh_in_bin : {P : Type 0} {fast : Fast P} {a : Plain} {port q : P} {bin : ℕ} (c : Chunk) → IsBacked fast a port (one_chunk c) → Idles fast port q → bin ≡ fast_index_of c.size → fast.stock q (fast_chunk bin c.at) ≡ 0
fresh_in_bin {fast = fast} {q = q} c backed idles is =
    ap (λ (n : ℕ). fast.stock q (fast_chunk n c.at)) is ∙ (ap (fast.stock q) (fast_chunk_is c (hand_size c backed)) ∙ hand_new c (idled_backed backed idles))

pub passes_push : {P K : Type 0} {m : Means P K} {t : Tunables} {h : Hold P K} {q : P} {bin : ℕ} (c : Chunk) → IsBacked m.fast h.arena h.port (one_chunk c) → IsChunkSize c.size → bin ≡ fast_index_of c.size → Did m.fast h.port (fasts.Pushes bin c.at) q →
    Passes m t (Does (Pushes (fast_index_of c.size) c.at) (Stop h.arena)) (one_chunk c) h (Stop h.arena) no_chunk (hold h.arena q h.cache h.space h.said)
passes_push {m = m} {h = h} {q = q} c backed chunk is did =
    let here : Did m.fast h.port (fasts.Pushes (fast_index_of c.size) c.at) q = subst (λ (n : ℕ). Did m.fast h.port (fasts.Pushes n c.at) q) is did in
    let new : m.fast.stock h.port (fast_chunk (fast_index_of c.size) c.at) ≡ 0 = ap (m.fast.stock h.port) (fast_chunk_is c chunk) ∙ hand_new c backed in
    record {
      reaches = reaches_done (record { did = here; others = refl; new = new });
      keeps = record {
        sound = backed.sound;
        number = refl;
        windows = refl;
        placed = λ p. p;
        cached = λ e. omega arith;
        others = λ n other e. refl;
        kept = λ e. omega (arith, here.stock e, ap (once e) (fast_chunk_is c chunk));
      };
    }

-- ---- a chunk is released

-- what follows the cache's answer
abbrev pub after_room : Tunables → Plain → Chunk → Bool → Rules Plain
after_room t a c room =
    if room then Does (Stashes c) (Stop a)
    else (if nat_le c.size t.max_fast then Does (Pushes (fast_index_of c.size) c.at) (Stop a) else given t a c)

pub passes_release : {P K : Type 0} {m : Means P K} {t : Tunables} {h : Hold P K} {room said : List Said} {q : P} {b : Bool} (c : Chunk) → IsSound h.arena → room ≡ h.said → Idles m.fast h.port q →
    b ≡ has_room h.cache c.size → said ≡ room ++ told.Room b ∷ [] → Passes m t (released t h.arena c) (one_chunk c) h (after_room t h.arena c b) (one_chunk c) (hold h.arena q h.cache h.space said)
passes_release {t = t} {h = h} c sound same idles is told_so =
    passes_then (passes_room sound same) (passes_then (passes_idled sound idles) (passes_has_room (after_room t h.arena c) sound is told_so))

pub after_room_true : (t : Tunables) (a : Plain) (c : Chunk) (b : Bool) → b ≡ true → after_room t a c b ≡ Does (Stashes c) (Stop a)
after_room_true t a c b is = ap (after_room t a c) is

pub after_room_fast : (t : Tunables) (a : Plain) (c : Chunk) (b : Bool) → b ≡ false → c.size ≤ t.max_fast → after_room t a c b ≡ Does (Pushes (fast_index_of c.size) c.at) (Stop a)
after_room_fast t a c b is le = ap (after_room t a c) is ∙ cond-true {A = Rules Plain} (nat_le c.size t.max_fast) (Does (Pushes (fast_index_of c.size) c.at) (Stop a)) (given t a c) (le-leb c.size t.max_fast le)

pub after_room_given : (t : Tunables) (a : Plain) (c : Chunk) (b : Bool) → b ≡ false → t.max_fast < c.size → after_room t a c b ≡ given t a c
after_room_given t a c b is lt = ap (after_room t a c) is ∙ cond-false {A = Rules Plain} (nat_le c.size t.max_fast) (Does (Pushes (fast_index_of c.size) c.at) (Stop a)) (given t a c) (lt-leb c.size t.max_fast lt)
