-- What a scan of the unsorted chunks has gone through.
use Rattle.std.proofs.Common.{◌≡◌, ℕ, ◌+◌, ◌<◌, ◌≤◌, Bool, true, false, ◌&&◌, cond, List, [], ◌∷◌, ◌++◌, length, reverse, drop, Option, Some, None, Result, Ok, IfSome, IsTrue, refl, sym, ap, ◌∙◌, subst, arith}
use Rattle.std.specs.Prelude.{nat_eq, nat_lt, slice_get, if◌then◌else◌}
use Rattle.std.specs.Result.{IsErr}
use Rattle.std.proofs.lemmas.Bool.{ltb-true, eq-eqb, and_parts}
use Rattle.std.proofs.lemmas.Bool.Decides.{nat_tests}
use Rattle.std.proofs.lemmas.List.{length-reverse}
use Rattle.chunk_tags.specs.BinOrder.{oldest_of, without, once}
use Rattle.chunk_tags.specs.declared.refusals.NoMemory.{NoMemory}
use Rattle.chunk_tags.specs.declared.tiles.Chunk.{Chunk}
use Rattle.chunk_tags.specs.declared.tunables.Tunables.{Tunables}
use Rattle.chunk_tags.specs.Sizes.{IsChunkSize, is_small_size, max_cached, cache_index_of}
use Rattle.thread_cache.specs.Caches.{CacheValue, has_room, newest, with_newest, without_newest}
use Rattle.thread_cache.specs.Held.{IsSoundCache}
use Rattle.arena_rules.specs.declared.said.Said.TheVariants as told
use Rattle.arena_rules.specs.PlainArena.{Plain, IsSound, times_listed, unsorted_of}
use Rattle.arena_rules.specs.Moves.{claimed}
use Rattle.arena_rules.specs.Rules.{Rules, Stop, Does, Stashes, asks_room, block_of}
use Rattle.arena_rules.specs.Walks.{Reaches}
use Rattle.arena_rules.specs.Search.{Step, Taken, carved, carved_chunk, with_remainder, sorted_in, is_large_remainder, splits_remainder, scan_end, scanned, scanned_all}
use Rattle.arena_rules.proofs.Beside.{beside_sorted}
use Rattle.arena_rules.proofs.ChunkMoves.{IsClaimed, claimed_moved}
use Rattle.arena_rules.proofs.Moved.{none}
use Rattle.arena_rules.proofs.Sorting.{sorted_moved, IsNext, next_unsorted, unsorted_claimed, oldest_first}
use Rattle.arena_rules.proofs.Walks.{reaches_here, reaches_then, short_here, short_then}
use Rattle.consolidate_trim.specs.Holds.{no_chunk, times_cached}
use Rattle.arena_growth.specs.declared.step.Step as step_type
use Rattle.arena_growth.specs.declared.step.Step.TheVariants as steps
use Rattle.arena_growth.specs.Ledgers.{shelf, Stage, stage, Balances}
use Rattle.arena_growth.specs.Steps.{Steps, IsEnough, FitsStep, is_remainder, drawn, cache_drawn}
use Rattle.arena_growth.proofs.Balance.{balances_here, balances_moved, balances_then, balances_as, loses_from, works_ok, works_short}
use Rattle.arena_growth.proofs.Enough.{enough_same}
use Rattle.arena_growth.proofs.Remainders.{carve_balances}
use Rattle.arena_growth.proofs.Shelving.{room_reaches, stash_reaches, draw_reaches, IsStashed, is_stashed, IsDrawn, is_drawn}
use Rattle.arena_growth.proofs.SmallBins.{stash_balances}

-- ---- the oldest chunk, and those behind it

pub record IsOldest (a : Plain) (c : Chunk) : Type 0 where
  pub rest : List Chunk
  pub is : reverse (unsorted_of a) ≡ c ∷ rest
  pub next : IsNext a c rest

first_of : (c : Chunk) (cs : List Chunk) → slice_get cs 0 ≡ Some c → cs ≡ c ∷ drop 1 cs
first_of c [] e = absurd cc
first_of c (d ∷ ds) e = let same : d ≡ c = cc in ap (λ x. x ∷ ds) same

pub is_oldest : (a : Plain) (c : Chunk) → IsSound a → oldest_of (unsorted_of a) ≡ Some c → IsOldest a c
is_oldest a c s e =
    let is : reverse (unsorted_of a) ≡ c ∷ drop 1 (reverse (unsorted_of a)) = first_of c (reverse (unsorted_of a)) (oldest_first c (unsorted_of a) e) in
    record { rest = drop 1 (reverse (unsorted_of a)); is = is; next = next_unsorted a c (drop 1 (reverse (unsorted_of a))) s is }

some_oldest : (c : Chunk) (cs : List Chunk) → oldest_of (c ∷ cs) ≡ None → ⊥
some_oldest c [] e = absurd cc
some_oldest c (d ∷ ds) e = some_oldest d ds e

none_unsorted : (cs : List Chunk) → oldest_of cs ≡ None → cs ≡ []
none_unsorted [] e = refl
none_unsorted (c ∷ cs) e = absurd (some_oldest c cs e)

-- each turn takes one chunk out of unsorted
pub fewer_unsorted : (a : Plain) (c : Chunk) (b : Plain) → (o : IsOldest a c) → unsorted_of b ≡ without c (unsorted_of a) → length (unsorted_of b) < length (unsorted_of a)
fewer_unsorted a c b o same =
    omega (arith, ap length same, length-reverse (without c (unsorted_of a)), length-reverse (unsorted_of a), ap length o.is, ap length o.next.rest)

-- a remainder that is split has more than is asked for
pub remainder_fits : (nb : ℕ) (a : Plain) (c : Chunk) → is_remainder nb a c ≡ true → nb ≤ c.size
remainder_fits nb a c is =
    let large : is_large_remainder nb a c ≡ true = (and_parts (is_small_size nb && nat_eq (length (unsorted_of a)) 1) (is_large_remainder nb a c) is).1 in
    omega (arith, ltb-true (nb + 32) c.size (and_parts (elim a.last [ None ↦ false | Some at ↦ nat_eq at c.at ]) (nat_lt (nb + 32) c.size) large).1)

-- ---- the tree at the oldest chunk

split_same : (nb : ℕ) (a : Plain) (c : Chunk) (cs us : List Chunk) → us ≡ unsorted_of a → reverse us ≡ c ∷ cs → splits_remainder nb a c cs ≡ is_remainder nb a c
split_same nb a c [] us same e =
    let one : length (unsorted_of a) ≡ 1 = omega (arith, ap length e, length-reverse us, ap length same) in
    let test : nat_eq (length (unsorted_of a)) 1 ≡ true = eq-eqb (length (unsorted_of a)) 1 one in
    let cases : (s : Bool) → is_small_size nb ≡ s → splits_remainder nb a c [] ≡ is_remainder nb a c = elim [
      | true ↦ λ is. rw (is, test) refl
      | false ↦ λ is. rw is refl
    ] in
    cases (is_small_size nb) refl
split_same nb a c (d ∷ ds) us same e =
    let test : nat_eq (length (unsorted_of a)) 1 ≡ false = grind (arith, nat_tests, ap length e, length-reverse us, ap length same) in
    let cases : (s : Bool) → is_small_size nb ≡ s → splits_remainder nb a c (d ∷ ds) ≡ is_remainder nb a c = elim [
      | true ↦ λ is. rw (is, test) refl
      | false ↦ λ is. rw is refl
    ] in
    cases (is_small_size nb) refl

-- the tree for what is left of unsorted
abbrev turn : ℕ → ℕ → Option Chunk → Plain → Rules Step
turn nb sorted stashed a = scanned nb (reverse (unsorted_of a)) sorted stashed a

-- its four forms
abbrev exact : ℕ → ℕ → Option Chunk → Plain → Chunk → List Chunk → Bool → Rules Step
exact nb sorted stashed a c cs room =
    if room then Does (Stashes c) (scanned nb cs sorted (Some c) (claimed a c)) else Stop (Taken c (claimed a c))

turn_splits : (nb sorted : ℕ) (stashed : Option Chunk) (a : Plain) (c : Chunk) → IsOldest a c → is_remainder nb a c ≡ true → turn nb sorted stashed a ≡ Stop (Taken (carved_chunk c nb) (with_remainder (carved a c nb) c nb))
turn_splits nb sorted stashed a c o is =
    let test : splits_remainder nb a c o.rest ≡ true = split_same nb a c o.rest (unsorted_of a) refl o.is ∙ is in
    ap (λ cs. scanned nb cs sorted stashed a) o.is ∙ ap (λ (b : Bool). cond b (Stop (Taken (carved_chunk c nb) (with_remainder (carved a c nb) c nb))) (cond (nat_eq c.size nb) (asks_room a nb (exact nb sorted stashed a c o.rest)) (cond (nat_eq (sorted + 1) 10000) (scan_end nb stashed (sorted_in a c)) (scanned nb o.rest (sorted + 1) stashed (sorted_in a c))))) test

turn_exact : (nb sorted : ℕ) (stashed : Option Chunk) (a : Plain) (c : Chunk) → (o : IsOldest a c) → is_remainder nb a c ≡ false → c.size ≡ nb → turn nb sorted stashed a ≡ asks_room a nb (exact nb sorted stashed a c o.rest)
turn_exact nb sorted stashed a c o is same =
    let test : splits_remainder nb a c o.rest ≡ false = split_same nb a c o.rest (unsorted_of a) refl o.is ∙ is in
    ap (λ cs. scanned nb cs sorted stashed a) o.is ∙
    (ap (λ (b : Bool). cond b (Stop (Taken (carved_chunk c nb) (with_remainder (carved a c nb) c nb))) (cond (nat_eq c.size nb) (asks_room a nb (exact nb sorted stashed a c o.rest)) (cond (nat_eq (sorted + 1) 10000) (scan_end nb stashed (sorted_in a c)) (scanned nb o.rest (sorted + 1) stashed (sorted_in a c))))) test ∙
    ap (λ (b : Bool). cond b (asks_room a nb (exact nb sorted stashed a c o.rest)) (cond (nat_eq (sorted + 1) 10000) (scan_end nb stashed (sorted_in a c)) (scanned nb o.rest (sorted + 1) stashed (sorted_in a c)))) (eq-eqb c.size nb same))

turn_sorts : (nb sorted : ℕ) (stashed : Option Chunk) (a : Plain) (c : Chunk) (last : Bool) → (o : IsOldest a c) → is_remainder nb a c ≡ false → nat_eq c.size nb ≡ false → nat_eq (sorted + 1) 10000 ≡ last →
    turn nb sorted stashed a ≡ cond last (scan_end nb stashed (sorted_in a c)) (scanned nb o.rest (sorted + 1) stashed (sorted_in a c))
turn_sorts nb sorted stashed a c last o is other end =
    let test : splits_remainder nb a c o.rest ≡ false = split_same nb a c o.rest (unsorted_of a) refl o.is ∙ is in
    ap (λ cs. scanned nb cs sorted stashed a) o.is ∙
    (ap (λ (b : Bool). cond b (Stop (Taken (carved_chunk c nb) (with_remainder (carved a c nb) c nb))) (cond (nat_eq c.size nb) (asks_room a nb (exact nb sorted stashed a c o.rest)) (cond (nat_eq (sorted + 1) 10000) (scan_end nb stashed (sorted_in a c)) (scanned nb o.rest (sorted + 1) stashed (sorted_in a c))))) test ∙
    (ap (λ (b : Bool). cond b (asks_room a nb (exact nb sorted stashed a c o.rest)) (cond (nat_eq (sorted + 1) 10000) (scan_end nb stashed (sorted_in a c)) (scanned nb o.rest (sorted + 1) stashed (sorted_in a c)))) other ∙
    ap (λ (b : Bool). cond b (scan_end nb stashed (sorted_in a c)) (scanned nb o.rest (sorted + 1) stashed (sorted_in a c))) end))

turn_ends : (nb sorted : ℕ) (stashed : Option Chunk) (a : Plain) → oldest_of (unsorted_of a) ≡ None → turn nb sorted stashed a ≡ scan_end nb stashed a
turn_ends nb sorted stashed a e =
    ap (λ us. scanned nb (reverse us) sorted stashed a) (none_unsorted (unsorted_of a) e)

-- ---- the loop

-- the chunk that was put into the cache last is its newest
pub record IsNewest (number nb : ℕ) (first cache : CacheValue) (c : Chunk) : Type 0 where
  pub sound : IfSome cache IsSoundCache
  pub newest : newest cache (cache_index_of nb) ≡ Some (block_of number c)
  pub cached : nb ≤ max_cached
  pub enough : IsEnough nb c.size
  pub more : (e : Chunk) → once e c + times_cached number first e ≤ times_cached number cache e

-- so far: from the first to now
pub record Scanning (nb sorted : ℕ) (stashed : Option Chunk) (x y : Stage CacheValue) : Type 0 where
  pub balances : Balances shelf x no_chunk no_chunk y
  pub few : sorted < 10000
  pub last : IfSome stashed (IsNewest x.arena.number nb x.outside y.outside)
  pub reaches : (t : Tunables) → Reaches t (shelf.ways x.arena.number) (scanned_all nb x.arena) x.outside x.said (turn nb sorted stashed y.arena) y.said y.outside

pub scanning_starts : (nb : ℕ) (x : Stage CacheValue) → IsSound x.arena → Scanning nb 0 None x x
scanning_starts nb x s = record { balances = balances_here shelf x x.said s; few = omega arith; last = tt; reaches = λ t. reaches_here }

-- a form of the tree is reached too
onto : {nb sorted : ℕ} {stashed : Option Chunk} {x y : Stage CacheValue} (r : Rules Step) → Scanning nb sorted stashed x y → turn nb sorted stashed y.arena ≡ r → (t : Tunables) → Reaches t (shelf.ways x.arena.number) (scanned_all nb x.arena) x.outside x.said r y.said y.outside
onto {nb = nb} {x = x} {y = y} r so e t = subst (λ q. Reaches t (shelf.ways x.arena.number) (scanned_all nb x.arena) x.outside x.said q y.said y.outside) e (so.reaches t)

-- the last remainder is split
pub scan_splits : (nb sorted : ℕ) (stashed : Option Chunk) (x y : Stage CacheValue) (c : Chunk) → Scanning nb sorted stashed x y → IsChunkSize nb → oldest_of (unsorted_of y.arena) ≡ Some c → is_remainder nb y.arena c ≡ true →
    Steps shelf (scanned_all nb x.arena) x (Ok (steps.Taken (carved_chunk c nb))) (stage (with_remainder (carved y.arena c nb) c nb) y.outside y.said)
scan_splits nb sorted stashed x y c so chunk e is =
    let o : IsOldest y.arena c = is_oldest y.arena c so.balances.sound e in
    let above : nb ≤ c.size = remainder_fits nb y.arena c is in
    record {
      works = λ t. works_ok (onto (Stop (Taken (carved_chunk c nb) (with_remainder (carved y.arena c nb) c nb))) so (turn_splits nb sorted stashed y.arena c o is) t)
          (balances_as (balances_then so.balances (carve_balances shelf y c nb y.said so.balances.sound o.next.listed chunk above)) (λ e. omega arith));
    }

-- no memory for the next answer
pub scan_short : (nb sorted : ℕ) (stashed : Option Chunk) (x y : Stage CacheValue) (c : Chunk) (r : Result step_type.Step NoMemory) → IsErr r → Scanning nb sorted stashed x y → oldest_of (unsorted_of y.arena) ≡ Some c → is_remainder nb y.arena c ≡ false → c.size ≡ nb →
    Steps shelf (scanned_all nb x.arena) x r y
scan_short nb sorted stashed x y c r err so e is same =
    let o : IsOldest y.arena c = is_oldest y.arena c so.balances.sound e in
    record {
      works = λ t. works_short r err (short_then (onto (asks_room y.arena nb (exact nb sorted stashed y.arena c o.rest)) so (turn_exact nb sorted stashed y.arena c o is same) t) short_here) (loses_from so.balances);
    }

-- a chunk of the very size, for which the cache has no room
pub scan_takes : (nb sorted : ℕ) (stashed : Option Chunk) (x y : Stage CacheValue) (c : Chunk) → Scanning nb sorted stashed x y → oldest_of (unsorted_of y.arena) ≡ Some c → is_remainder nb y.arena c ≡ false → c.size ≡ nb → false ≡ has_room y.outside nb →
    Steps shelf (scanned_all nb x.arena) x (Ok (steps.Taken c)) (stage (claimed y.arena c) y.outside (y.said ++ told.Room false ∷ []))
scan_takes nb sorted stashed x y c so e is same room =
    let o : IsOldest y.arena c = is_oldest y.arena c so.balances.sound e in
    let b : Balances shelf y no_chunk (λ e. once e c) (stage (claimed y.arena c) y.outside (y.said ++ told.Room false ∷ [])) = balances_moved shelf y (claimed y.arena c) (λ e. once e c) (y.said ++ told.Room false ∷ []) (claimed_moved y.arena c so.balances.sound o.next.listed).moved refl in
    record {
      works = λ t. works_ok (reaches_then (onto (asks_room y.arena nb (exact nb sorted stashed y.arena c o.rest)) so (turn_exact nb sorted stashed y.arena c o is same) t) (room_reaches y.arena (exact nb sorted stashed y.arena c o.rest) false room))
          (balances_as (balances_then so.balances b) (λ e. omega arith));
    }

-- a cache has room for cached sizes alone
room_cached : (c : CacheValue) (nb : ℕ) → IsTrue (has_room c nb) → nb ≤ max_cached
room_cached None nb room = absurd cc
room_cached (Some c) nb room = grind (arith, nat_tests)

-- a chunk of the very size goes to the cache
pub scan_stashes : (nb sorted : ℕ) (stashed : Option Chunk) (x y : Stage CacheValue) (c : Chunk) → Scanning nb sorted stashed x y → IsChunkSize nb → oldest_of (unsorted_of y.arena) ≡ Some c → is_remainder nb y.arena c ≡ false → c.size ≡ nb → IfSome y.outside IsSoundCache → true ≡ has_room y.outside nb →
    Scanning nb sorted (Some c) x (stage (claimed y.arena c) (with_newest y.outside (block_of y.arena.number c)) (y.said ++ told.Room true ∷ []))
scan_stashes nb sorted stashed x y c so chunk e is same sound room =
    let n : ℕ = y.arena.number in
    let o : IsOldest y.arena c = is_oldest y.arena c so.balances.sound e in
    let m : IsClaimed y.arena c = claimed_moved y.arena c so.balances.sound o.next.listed in
    let stashing : IsStashed n y.outside c (with_newest y.outside (block_of n c)) = is_stashed n y.outside c sound m.size (rw same (sym room)) in
    let z : Stage CacheValue = stage (claimed y.arena c) (with_newest y.outside (block_of n c)) (y.said ++ told.Room true ∷ []) in
    let left : reverse (unsorted_of (claimed y.arena c)) ≡ o.rest = ap (λ (us : List Chunk). reverse us) (unsorted_claimed y.arena c) ∙ o.next.rest in
    let newest_is : newest z.outside (cache_index_of nb) ≡ Some (block_of n c) = subst (λ s. newest z.outside (cache_index_of s) ≡ Some (block_of n c)) same (ap (λ bs. slice_get bs 0) stashing.list) in
    record {
      balances = balances_as (balances_then so.balances (stash_balances y.arena c y.outside y.said z.said so.balances.sound o.next.listed stashing)) (λ e. refl);
      few = so.few;
      last = record {
        sound = stashing.sound;
        newest = subst (λ k. newest z.outside (cache_index_of nb) ≡ Some (block_of k c)) so.balances.number newest_is;
        cached = room_cached y.outside nb (sym room);
        enough = enough_same nb c.size chunk same;
        more = λ e.
            let times : times_cached x.arena.number z.outside e ≡ once e c + times_cached x.arena.number y.outside e = subst (λ k. times_cached k z.outside e ≡ once e c + times_cached k y.outside e) so.balances.number (stashing.times e) in
            omega (arith, so.balances.cached e, times);
      };
      reaches = λ t.
          let after : Reaches t (shelf.ways n) (exact nb sorted stashed y.arena c o.rest true) y.outside z.said (scanned nb o.rest sorted (Some c) (claimed y.arena c)) z.said z.outside = stash_reaches in
          let walk : Reaches t (shelf.ways n) (asks_room y.arena nb (exact nb sorted stashed y.arena c o.rest)) y.outside y.said (scanned nb o.rest sorted (Some c) (claimed y.arena c)) z.said z.outside = reaches_then (room_reaches y.arena (exact nb sorted stashed y.arena c o.rest) true room) after in
          let here : Reaches t (shelf.ways x.arena.number) (asks_room y.arena nb (exact nb sorted stashed y.arena c o.rest)) y.outside y.said (scanned nb o.rest sorted (Some c) (claimed y.arena c)) z.said z.outside = subst (λ k. Reaches t (shelf.ways k) (asks_room y.arena nb (exact nb sorted stashed y.arena c o.rest)) y.outside y.said (scanned nb o.rest sorted (Some c) (claimed y.arena c)) z.said z.outside) so.balances.number walk in
          let whole : Reaches t (shelf.ways x.arena.number) (scanned_all nb x.arena) x.outside x.said (scanned nb o.rest sorted (Some c) (claimed y.arena c)) z.said z.outside = reaches_then (onto (asks_room y.arena nb (exact nb sorted stashed y.arena c o.rest)) so (turn_exact nb sorted stashed y.arena c o is same) t) here in
          subst (λ cs. Reaches t (shelf.ways x.arena.number) (scanned_all nb x.arena) x.outside x.said (scanned nb cs sorted (Some c) (claimed y.arena c)) z.said z.outside) (sym left) whole;
    }

sort_balances : (y : Stage CacheValue) (c : Chunk) → IsSound y.arena → 0 < times_listed c y.arena → Balances shelf y no_chunk no_chunk (stage (sorted_in y.arena c) y.outside y.said)
sort_balances y c s some = balances_moved shelf y (sorted_in y.arena c) none y.said (sorted_moved y.arena c s some).moved (beside_sorted y.arena c)

-- any other goes to its bin
pub scan_sorts : (nb sorted : ℕ) (stashed : Option Chunk) (x y : Stage CacheValue) (c : Chunk) → Scanning nb sorted stashed x y → oldest_of (unsorted_of y.arena) ≡ Some c → is_remainder nb y.arena c ≡ false → nat_eq c.size nb ≡ false → nat_eq (sorted + 1) 10000 ≡ false →
    Scanning nb (sorted + 1) stashed x (stage (sorted_in y.arena c) y.outside y.said)
scan_sorts nb sorted stashed x y c so e is other end =
    let o : IsOldest y.arena c = is_oldest y.arena c so.balances.sound e in
    let left : reverse (unsorted_of (sorted_in y.arena c)) ≡ o.rest = ap (λ (us : List Chunk). reverse us) (sorted_moved y.arena c so.balances.sound o.next.listed).unsorted ∙ o.next.rest in
    record {
      balances = balances_as (balances_then so.balances (sort_balances y c so.balances.sound o.next.listed)) (λ e. refl);
      few = grind (arith, nat_tests, so.few, end);
      last = so.last;
      reaches = λ t.
          let whole : Reaches t (shelf.ways x.arena.number) (scanned_all nb x.arena) x.outside x.said (scanned nb o.rest (sorted + 1) stashed (sorted_in y.arena c)) y.said y.outside = onto (scanned nb o.rest (sorted + 1) stashed (sorted_in y.arena c)) so (turn_sorts nb sorted stashed y.arena c false o is other end) t in
          subst (λ cs. Reaches t (shelf.ways x.arena.number) (scanned_all nb x.arena) x.outside x.said (scanned nb cs (sorted + 1) stashed (sorted_in y.arena c)) y.said y.outside) (sym left) whole;
    }

-- ---- its end

scan_drawn : (nb : ℕ) (stashed : Option Chunk) (x y : Stage CacheValue) → IsChunkSize nb → Balances shelf x no_chunk no_chunk y → IfSome stashed (IsNewest x.arena.number nb x.outside y.outside) →
    ((t : Tunables) → Reaches t (shelf.ways x.arena.number) (scanned_all nb x.arena) x.outside x.said (scan_end nb stashed y.arena) y.said y.outside) →
    Steps shelf (scanned_all nb x.arena) x (Ok (drawn stashed)) (stage y.arena (cache_drawn stashed nb y.outside) y.said)
scan_drawn nb None x y chunk b last reaches = record { works = λ t. works_ok (reaches t) b }
scan_drawn nb (Some c) x y chunk b last reaches =
    let n : ℕ = x.arena.number in
    let lt : cache_index_of nb < 64 = omega (arith, last.cached) in
    let gone : IsDrawn n y.outside c (without_newest y.outside (cache_index_of nb)) = is_drawn n y.outside c (cache_index_of nb) last.sound lt last.newest in
    record {
      works = λ t. works_ok (reaches_then (reaches t) draw_reaches)
          (record { sound = b.sound; number = b.number; windows = b.windows; placed = b.placed; cached = λ e. omega (arith, last.more e, gone.times e); others = λ k other e. b.others k other e ∙ gone.others k other e; kept = λ e. omega (arith, b.kept e, gone.times e) });
    }

pub scan_ends : (nb sorted : ℕ) (stashed : Option Chunk) (x y : Stage CacheValue) → IsChunkSize nb → Scanning nb sorted stashed x y → oldest_of (unsorted_of y.arena) ≡ None →
    Steps shelf (scanned_all nb x.arena) x (Ok (drawn stashed)) (stage y.arena (cache_drawn stashed nb y.outside) y.said)
scan_ends nb sorted stashed x y chunk so e = scan_drawn nb stashed x y chunk so.balances so.last (onto (scan_end nb stashed y.arena) so (turn_ends nb sorted stashed y.arena e))

-- behind the last chunk that it puts into a bin
pub scan_enough : (nb sorted : ℕ) (stashed : Option Chunk) (x y : Stage CacheValue) (c : Chunk) → IsChunkSize nb → Scanning nb sorted stashed x y → oldest_of (unsorted_of y.arena) ≡ Some c → is_remainder nb y.arena c ≡ false → nat_eq c.size nb ≡ false → nat_eq (sorted + 1) 10000 ≡ true →
    Steps shelf (scanned_all nb x.arena) x (Ok (drawn stashed)) (stage (sorted_in y.arena c) (cache_drawn stashed nb y.outside) y.said)
scan_enough nb sorted stashed x y c chunk so e is other end =
    let o : IsOldest y.arena c = is_oldest y.arena c so.balances.sound e in
    scan_drawn nb stashed x (stage (sorted_in y.arena c) y.outside y.said) chunk (balances_as (balances_then so.balances (sort_balances y c so.balances.sound o.next.listed)) (λ e. refl)) so.last
    (onto (scan_end nb stashed (sorted_in y.arena c)) so (turn_sorts nb sorted stashed y.arena c true o is other end))

-- what is drawn is cached
pub last_cached : (nb sorted : ℕ) (stashed : Option Chunk) (x y : Stage CacheValue) → Scanning nb sorted stashed x y → IfSome stashed (λ c. nb ≤ max_cached)
last_cached nb sorted None x y so = tt
last_cached nb sorted (Some c) x y so = so.last.cached

-- and enough
pub last_fits : (nb sorted : ℕ) (stashed : Option Chunk) (x y : Stage CacheValue) → Scanning nb sorted stashed x y → FitsStep nb (drawn stashed)
last_fits nb sorted None x y so = tt
last_fits nb sorted (Some c) x y so = so.last.enough
