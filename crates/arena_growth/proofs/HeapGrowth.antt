-- Another arena's heaps grow: the last one is extended, or one is added, whose old top is closed then.
use Rattle.std.proofs.Common.{◌≡◌, ℕ, ◌+◌, ◌-◌, ◌%◌, ◌^◌, ◌<◌, ◌≤◌, Bool, true, false, ◌&&◌, cond, List, Option, Some, None, IsTrue, Result, Ok, Err, refl, sym, ap, ◌∙◌, subst, arith}
use Rattle.std.specs.Prelude.{nat_eq, nat_lt, if◌then◌else◌}
use Rattle.std.specs.Result.{IsErr}
use Rattle.std.proofs.lemmas.Bool.{eq-eqb, true≢false}
use Rattle.chunk_tags.specs.Sizes.{IsRequestSize}
use Rattle.chunk_tags.specs.declared.refusals.NoMemory.{NoMemory}
use Rattle.chunk_tags.specs.declared.tiles.Chunk.{Chunk}
use Rattle.chunk_tags.specs.declared.tunables.Tunables.{Tunables}
use Rattle.address_space.specs.Ports.{Port}
use Rattle.address_space.specs.Spaces.{AsksWithin, map_length}
use Rattle.address_space.specs.declared.asks.Ask.{Ask}
use Rattle.address_space.specs.declared.asks.Ask.TheVariants as asks
use Rattle.address_space.specs.declared.asks.Answer.{Answer}
use Rattle.address_space.specs.declared.space.Space.{Space}
use Rattle.thread_cache.specs.Caches.{CacheValue}
use Rattle.mapped_chunks.specs.DialPorts.{Dialled}
use Rattle.arena_rules.specs.declared.said.Said.{Said}
use Rattle.arena_rules.specs.Heaps.{heap_added, heap_extended, last_heap, last_length}
use Rattle.arena_rules.specs.Moves.{top_size, left_of_top, Gains}
use Rattle.arena_rules.specs.PlainArena.{Plain, IsSound, is_main, once_of}
use Rattle.arena_rules.specs.Growth.{closing, extension_bytes, first_length, has_top_for, heaps_grown, next_heap_grown}
use Rattle.arena_rules.specs.Rules.{Rules, Stop, behind, same_ask}
use Rattle.arena_rules.specs.Walks.{Reaches}
use Rattle.arena_rules.proofs.Beside.{beside_sized, beside_moved_top}
use Rattle.arena_rules.proofs.Walks.{reaches_here}
use Rattle.consolidate_trim.specs.Holds.{no_chunk, IsBacked}
use Rattle.consolidate_trim.specs.Outside.{Means, Outside}
use Rattle.arena_growth.specs.Ledgers.{Ledger, Stage, stage, Balances, Works, full}
use Rattle.arena_growth.proofs.Balance.{works_ok}
use Rattle.arena_growth.proofs.Parts.{Passes, passes_then, passes_as, passes_closed, works_after, short_behind_works, backed_balances}
use Rattle.arena_growth.specs.Asking.{IsReady, IsSearchable, AllowsMaps, AsksFor, Closes, GrowsHeaps, beside_arena, chunks_in, granted_answer, grown_of}
use Rattle.arena_growth.proofs.Growing.{asked_passes, asked_short}

-- the heaps grow by these rules
abbrev GrowsBy : {P K : Type 0} → Means P K → Tunables → Rules (Option Plain) → Stage (Outside P K) → Result Bool NoMemory → Stage (Outside P K) → Type 0
GrowsBy m t rules before result after = Works (full m) t rules no_chunk before (grown_of after.arena) (λ _. no_chunk) result after

same_four : (n k l o : ℕ) → same_ask (asks.GrowHeap n k l o) (asks.GrowHeap n k l o) ≡ true
same_four n k l o = rw (eq-eqb n n refl, eq-eqb k k refl, eq-eqb l l refl, eq-eqb o o refl) refl

same_three : (n k l : ℕ) → same_ask (asks.NewHeap n k l) (asks.NewHeap n k l) ≡ true
same_three n k l = rw (eq-eqb n n refl, eq-eqb k k refl, eq-eqb l l refl) refl

-- ---- moves that only the arena itself can answer for

never_main : (a : Plain) → is_main a ≡ false → IsTrue (is_main a) → ⊥
never_main a other main = true≢false (sym main ∙ other)

gained : {O : Type 0} (l : Ledger O) (x : Stage O) (b : Plain) (came : Option Chunk) (said : List Said) → is_main x.arena ≡ false → Gains x.arena came b → b.number ≡ x.arena.number → b.windows ≡ x.arena.windows →
    Balances l x no_chunk (λ e. once_of e came) (stage b x.outside said)
gained l x b came said other gains number windows = record {
  sound = gains.sound;
  number = number;
  windows = windows;
  placed = λ p main. absurd (never_main b (ap (λ n. nat_eq n 0) number ∙ other) main);
  cached = λ e. omega arith;
  others = λ n other e. refl;
  kept = λ e. omega (arith, gains.used e);
}

extended_number : (a : Plain) (growth : ℕ) → (heap_extended a growth).number ≡ a.number
extended_number a growth = ap (λ (p : Plain). p.number) (beside_sized (record a { system = a.system + growth }) (top_size a + growth))

extended_windows : (a : Plain) (growth : ℕ) → (heap_extended a growth).windows ≡ a.windows
extended_windows a growth = ap (λ (p : Plain). p.windows) (beside_sized (record a { system = a.system + growth }) (top_size a + growth))

added_number : (a : Plain) (len : ℕ) → (heap_added a len).number ≡ a.number
added_number a len = ap (λ (p : Plain). p.number) (beside_moved_top (record a { system = a.system + len }) _ (len - 32))

added_windows : (a : Plain) (len : ℕ) → (heap_added a len).windows ≡ a.windows
added_windows a len = ap (λ (p : Plain). p.windows) (beside_moved_top (record a { system = a.system + len }) _ (len - 32))

-- ---- the last heap is extended

abbrev extension_of : ℕ → Plain → Ask
extension_of nb a = asks.GrowHeap a.number (last_heap a) (last_length a) (last_length a + extension_bytes a nb)

abbrev at_extension : Tunables → ℕ → Plain → Bool → Rules (Option Plain)
at_extension t nb a granted = if granted then Stop (Some (heap_extended a (extension_bytes a nb))) else next_heap_grown t nb a

pub extension_short : {P K : Type 0} (m : Means P K) (t : Tunables) (nb : ℕ) (a : Plain) (p : P) (cache : CacheValue) (space space' : Space K) (said said' : List Said) (d : NoMemory) (r : Result Bool NoMemory) → let err : Result Bool NoMemory = Err d in
    IsErr r → IsSound a → AsksFor m.kernel (extension_of nb a) space said err space' said' → GrowsBy m t (heaps_grown t nb a) (stage a (beside_arena p cache space) said) r (stage a (beside_arena p cache space') said')
extension_short m t nb a p cache space space' said said' d r is s asked =
    asked_short m t a (extension_of nb a) d p cache space space' said said' (at_extension t nb a) (grown_of a) (λ _. no_chunk) r is s asked

pub extension_asked : {P K : Type 0} (m : Means P K) (t : Tunables) (nb : ℕ) (a : Plain) (p : P) (cache : CacheValue) (space space' : Space K) (said said' : List Said) (granted : Bool) → let ok : Result Bool NoMemory = Ok granted in
    IsReady m t (stage a (beside_arena p cache space) said) → AsksFor m.kernel (extension_of nb a) space said ok space' said' →
    Passes (full m) t (heaps_grown t nb a) (stage a (beside_arena p cache space) said) no_chunk (at_extension t nb a granted) (stage a (beside_arena p cache space') said')
extension_asked m t nb a p cache space space' said said' granted ready asked =
    asked_passes m t a (extension_of nb a) granted p cache space space' said said' (at_extension t nb a) ready.backed.sound (same_four a.number (last_heap a) (last_length a) (last_length a + extension_bytes a nb)) ready.windows asked

pub extension_granted : {P K : Type 0} (m : Means P K) (t : Tunables) (nb : ℕ) (a b : Plain) (p : P) (cache : CacheValue) (space space' : Space K) (said said' : List Said) → let ok : Result Bool NoMemory = Ok true in
    IsReady m t (stage a (beside_arena p cache space) said) → is_main a ≡ false → AsksFor m.kernel (extension_of nb a) space said ok space' said' → b ≡ heap_extended a (extension_bytes a nb) → Gains a None b →
    GrowsBy m t (heaps_grown t nb a) (stage a (beside_arena p cache space) said) (Ok true) (stage b (beside_arena p cache space') said')
extension_granted m t nb a b p cache space space' said said' ready other asked is gains =
    let f = extension_asked m t nb a p cache space space' said said' true ready asked in
    let x : Stage (Outside _ _) = stage a (beside_arena p cache space') said' in
    let growth : ℕ = extension_bytes a nb in
    let more : Balances (full m) x no_chunk no_chunk (stage b x.outside said') = gained (full m) x b None said' other gains (ap (λ (p : Plain). p.number) is ∙ extended_number a growth) (ap (λ (p : Plain). p.windows) is ∙ extended_windows a growth) in
    let ends : Stop (Some (heap_extended a growth)) ≡ Stop (Some b) = ap (λ (p : Plain). Stop (Some p)) (sym is) in
    let both = passes_as (passes_then f (record { reaches = subst (λ (q : Rules (Option Plain)). Reaches t ((full m).ways a.number) (Stop (Some (heap_extended a growth))) x.outside said' q said' x.outside) ends reaches_here; balances = more })) (λ e. omega arith) in
    works_ok both.reaches both.balances

pub extension_refused : {P K : Type 0} (m : Means P K) (t : Tunables) (nb : ℕ) (a : Plain) (p : P) (cache : CacheValue) (space space' : Space K) (said said' : List Said) (z : Stage (Outside P K)) (r : Result Bool NoMemory) → let ok : Result Bool NoMemory = Ok false in
    IsReady m t (stage a (beside_arena p cache space) said) → AsksFor m.kernel (extension_of nb a) space said ok space' said' → GrowsBy m t (next_heap_grown t nb a) (stage a (beside_arena p cache space') said') r z →
    GrowsBy m t (heaps_grown t nb a) (stage a (beside_arena p cache space) said) r z
extension_refused m t nb a p cache space space' said said' z r ready asked w = works_after r (extension_asked m t nb a p cache space space' said said' false ready asked) (λ e. refl) w

-- ---- one heap more

abbrev heap_of : Tunables → ℕ → Plain → Ask
heap_of t nb a = asks.NewHeap a.number (last_heap a + 1) (first_length t (nb + 64))

abbrev some_grown : Plain → Rules (Option Plain)
some_grown b = Stop (Some b)

abbrev at_heap : Tunables → ℕ → Plain → Bool → Rules (Option Plain)
at_heap t nb a granted = if granted then behind (closing t (left_of_top a) (heap_added a (first_length t (nb + 64)))) some_grown else Stop None

pub heap_short : {P K : Type 0} (m : Means P K) (t : Tunables) (nb : ℕ) (a : Plain) (p : P) (cache : CacheValue) (space space' : Space K) (said said' : List Said) (d : NoMemory) (r : Result Bool NoMemory) → let err : Result Bool NoMemory = Err d in
    IsErr r → IsSound a → AsksFor m.kernel (heap_of t nb a) space said err space' said' → GrowsBy m t (next_heap_grown t nb a) (stage a (beside_arena p cache space) said) r (stage a (beside_arena p cache space') said')
heap_short m t nb a p cache space space' said said' d r is s asked =
    asked_short m t a (heap_of t nb a) d p cache space space' said said' (at_heap t nb a) (grown_of a) (λ _. no_chunk) r is s asked

heap_asked : {P K : Type 0} (m : Means P K) (t : Tunables) (nb : ℕ) (a : Plain) (p : P) (cache : CacheValue) (space space' : Space K) (said said' : List Said) (granted : Bool) → let ok : Result Bool NoMemory = Ok granted in
    IsReady m t (stage a (beside_arena p cache space) said) → AsksFor m.kernel (heap_of t nb a) space said ok space' said' →
    Passes (full m) t (next_heap_grown t nb a) (stage a (beside_arena p cache space) said) no_chunk (at_heap t nb a granted) (stage a (beside_arena p cache space') said')
heap_asked m t nb a p cache space space' said said' granted ready asked =
    asked_passes m t a (heap_of t nb a) granted p cache space space' said said' (at_heap t nb a) ready.backed.sound (same_three a.number (last_heap a + 1) (first_length t (nb + 64))) ready.windows asked

pub heap_refused : {P K : Type 0} (m : Means P K) (t : Tunables) (nb : ℕ) (a : Plain) (p : P) (cache : CacheValue) (space space' : Space K) (said said' : List Said) → let ok : Result Bool NoMemory = Ok false in
    IsReady m t (stage a (beside_arena p cache space) said) → AsksFor m.kernel (heap_of t nb a) space said ok space' said' →
    GrowsBy m t (next_heap_grown t nb a) (stage a (beside_arena p cache space) said) (Ok false) (stage a (beside_arena p cache space') said')
heap_refused m t nb a p cache space space' said said' ready asked =
    let f = heap_asked m t nb a p cache space space' said said' false ready asked in
    works_ok f.reaches f.balances

-- a heap was taken, before the old top is closed
pub record IsHeapTaken {P K : Type 0} (m : Means P K) (x : Stage (Outside P K)) (b : Plain) : Type 0 where
  pub balances : Balances (full m) x no_chunk (λ e. once_of e (left_of_top x.arena)) (stage b x.outside x.said)
  pub backed : IsBacked m.fast b x.outside.port (chunks_in (left_of_top x.arena))

pub heap_taken : {P K : Type 0} (m : Means P K) (x : Stage (Outside P K)) (b : Plain) (len : ℕ) → IsBacked m.fast x.arena x.outside.port no_chunk → is_main x.arena ≡ false → b ≡ heap_added x.arena len → Gains x.arena (left_of_top x.arena) b → IsHeapTaken m x b
heap_taken m x b len backed other is gains =
    let balances : Balances (full m) x no_chunk (λ e. once_of e (left_of_top x.arena)) (stage b x.outside x.said) =
    gained (full m) x b (left_of_top x.arena) x.said other gains (ap (λ (p : Plain). p.number) is ∙ added_number x.arena len) (ap (λ (p : Plain). p.windows) is ∙ added_windows x.arena len) in
    record {
      balances = balances;
      backed = backed_balances m.fast (full m) x (stage b x.outside x.said) x.outside.port x.outside.port (λ e. once_of e (left_of_top x.arena)) (λ e. refl) (λ e. refl) backed balances;
    }

heap_passed : {P K : Type 0} (m : Means P K) (t : Tunables) (nb : ℕ) (a b : Plain) (p : P) (cache : CacheValue) (space space' : Space K) (said said' : List Said) → let ok : Result Bool NoMemory = Ok true in
    IsReady m t (stage a (beside_arena p cache space) said) → AsksFor m.kernel (heap_of t nb a) space said ok space' said' → b ≡ heap_added a (first_length t (nb + 64)) → IsHeapTaken m (stage a (beside_arena p cache space') said') b →
    Passes (full m) t (next_heap_grown t nb a) (stage a (beside_arena p cache space) said) (λ e. once_of e (left_of_top a)) (behind (closing t (left_of_top a) b) some_grown) (stage b (beside_arena p cache space') said')
heap_passed m t nb a b p cache space space' said said' ready asked is taken =
    let f = heap_asked m t nb a p cache space space' said said' true ready asked in
    let x : Stage (Outside _ _) = stage a (beside_arena p cache space') said' in
    let same : behind (closing t (left_of_top a) (heap_added a (first_length t (nb + 64)))) some_grown ≡ behind (closing t (left_of_top a) b) some_grown = ap (λ (c : Plain). behind (closing t (left_of_top a) c) some_grown) (sym is) in
    passes_as (passes_then f (record { reaches = subst (λ (q : Rules (Option Plain)). Reaches t ((full m).ways a.number) (at_heap t nb a true) x.outside said' q said' x.outside) same reaches_here; balances = taken.balances })) (λ e. omega arith)

pub heap_closed : {P K : Type 0} (m : Means P K) (t : Tunables) (nb : ℕ) (a b c : Plain) (p q : P) (cache cache' : CacheValue) (space space' end : Space K) (said said' last : List Said) → let ok : Result Bool NoMemory = Ok true in
    IsReady m t (stage a (beside_arena p cache space) said) → AsksFor m.kernel (heap_of t nb a) space said ok space' said' → b ≡ heap_added a (first_length t (nb + 64)) → IsHeapTaken m (stage a (beside_arena p cache space') said') b →
    Closes m t (left_of_top a) (stage b (beside_arena p cache space') said') (Ok tt) (stage c (beside_arena q cache' end) last) →
    GrowsBy m t (next_heap_grown t nb a) (stage a (beside_arena p cache space) said) (Ok true) (stage c (beside_arena q cache' end) last)
heap_closed m t nb a b c p q cache cache' space space' end said said' last ready asked is taken closes =
    let f = passes_closed some_grown (heap_passed m t nb a b p cache space space' said said' ready asked is taken) closes in
    works_ok f.reaches f.balances

pub heap_closed_short : {P K : Type 0} (m : Means P K) (t : Tunables) (nb : ℕ) (a b c : Plain) (p q : P) (cache cache' : CacheValue) (space space' end : Space K) (said said' last : List Said) (d : NoMemory) (r : Result Bool NoMemory) → let ok : Result Bool NoMemory = Ok true in
    IsErr r → IsReady m t (stage a (beside_arena p cache space) said) → AsksFor m.kernel (heap_of t nb a) space said ok space' said' → b ≡ heap_added a (first_length t (nb + 64)) → IsHeapTaken m (stage a (beside_arena p cache space') said') b →
    Closes m t (left_of_top a) (stage b (beside_arena p cache space') said') (Err d) (stage c (beside_arena q cache' end) last) →
    GrowsBy m t (next_heap_grown t nb a) (stage a (beside_arena p cache space) said) r (stage c (beside_arena q cache' end) last)
heap_closed_short m t nb a b c p q cache cache' space space' end said said' last d r is ready asked same taken closes =
    works_after r (heap_passed m t nb a b p cache space space' said said' ready asked same taken) (λ e. refl) (short_behind_works some_grown d r is closes)

-- ---- a refused ask leaves what may be mapped

asked_mapped : {K : Type 0} {kernel : Port K} {before now : Space K} {ask : Ask} {answer : Answer} (passes : Bool) → AsksWithin kernel before passes ask answer now → now.mapped ≡ before.mapped
asked_mapped true a = ap (λ (s : Space _). s.mapped) (a.passed refl).1
asked_mapped false a = ap (λ (s : Space _). s.mapped) (a.put refl).1

pub asked_allows : {P K : Type 0} {dials : Dialled P} {port : P} {kernel : Port K} {before now : Space K} {ask : Ask} {answer : Answer} (passes : Bool) → AsksWithin kernel before passes ask answer now → AllowsMaps dials port before → AllowsMaps dials port now
asked_allows passes a allows = record { allowed = λ len h. allows.allowed len (ap (λ n. nat_lt map_length (n + len)) (sym (asked_mapped passes a)) ∙ h) }

-- ---- what it came to

pub grows_err : {P K : Type 0} {m : Means P K} {t : Tunables} {nb : ℕ} {x y : Stage (Outside P K)} (r : Result Bool NoMemory) → IsErr r → GrowsBy m t (heaps_grown t nb x.arena) x r y → GrowsHeaps m t nb x r y
grows_err (Ok v) is w = absurd cc
grows_err (Err d) is w = record { works = w; same = tt; allows = λ a. tt }

pub grows_true : {P K : Type 0} {m : Means P K} {t : Tunables} {nb : ℕ} {x y : Stage (Outside P K)} → GrowsBy m t (heaps_grown t nb x.arena) x (Ok true) y → GrowsHeaps m t nb x (Ok true) y
grows_true w = record { works = w; same = λ e. absurd (true≢false e); allows = λ a e. absurd (true≢false e) }

pub grows_false : {P K : Type 0} {m : Means P K} {t : Tunables} {nb : ℕ} {x y : Stage (Outside P K)} → GrowsBy m t (heaps_grown t nb x.arena) x (Ok false) y → y.arena ≡ x.arena → (AllowsMaps m.dials x.outside.port x.outside.space → AllowsMaps m.dials y.outside.port y.outside.space) → GrowsHeaps m t nb x (Ok false) y
grows_false w same allows = record { works = w; same = λ e. same; allows = λ a e. allows a }
