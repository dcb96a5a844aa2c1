-- What a growth of main goes through, for this crate and those above it.
use Rattle.std.proofs.Common.{◌≡◌, ℕ, ◌+◌, ◌-◌, ◌%◌, ◌^◌, ◌<◌, ◌≤◌, Bool, true, false, ◌&&◌, ◌||◌, not, cond, List, [], ◌∷◌, ◌++◌, Option, Result, Ok, Err, refl, sym, ap, ◌∙◌, subst, arith}
use Rattle.std.specs.Result.{IsErr}
use Rattle.std.proofs.lemmas.Bool.Decides.{nat_tests}
use Rattle.chunk_tags.specs.Pages.{page_up_of}
use Rattle.chunk_tags.specs.Sizes.{IsRequestSize}
use Rattle.chunk_tags.specs.declared.refusals.NoMemory.{NoMemory}
use Rattle.chunk_tags.specs.declared.tunables.Tunables.{Tunables}
use Rattle.address_space.specs.Ports.{Port}
use Rattle.address_space.specs.Spaces.{AsksWithin, MapsWithin, used_up, place_answer, map_passes}
use Rattle.address_space.specs.declared.asks.Ask.{Ask}
use Rattle.address_space.specs.declared.asks.Answer.{Answer}
use Rattle.address_space.specs.declared.asks.Answer.TheVariants.{Granted, Refused}
use Rattle.address_space.specs.declared.space.Space.{Space}
use Rattle.thread_cache.specs.Caches.{CacheValue}
use Rattle.arena_rules.specs.declared.said.Said.{Said}
use Rattle.arena_rules.specs.declared.said.Said.TheVariants as told
use Rattle.arena_rules.specs.PlainArena.{Plain, IsSound}
use Rattle.arena_rules.specs.Moves.{top_size}
use Rattle.arena_rules.specs.Growth.{main_growth, piece_length, top_part, has_top_for}
use Rattle.arena_rules.specs.Rules.{Rules, Need, Deed, Asks, Flagged, Pops, Owns, Rooms, Maps, Reads, Clears, Gathers, Pushes, Stashes, Draws, Gives, Counts, asks_for, flag_of, fits, same_ask, windows_of, passes_window, is_refused}
use Rattle.arena_rules.specs.Walks.{Walks, here, idled, done, told as walked, Reaches}
use Rattle.arena_rules.proofs.Walks.{reaches_told, short_here}
use Rattle.consolidate_trim.specs.Holds.{Chunks, no_chunk}
use Rattle.consolidate_trim.specs.Outside.{Means, Outside, AnswerGoes, DeedGoes, ways}
use Rattle.arena_growth.specs.Ledgers.{Stage, stage, Works, full}
use Rattle.arena_growth.proofs.Balance.{balances_here, loses_from, works_short}
use Rattle.arena_growth.proofs.Parts.{Passes}
use Rattle.arena_growth.specs.Asking.{IsSearchable, AsksFor, granted_answer, beside_arena}

-- ---- the windows stay

pub asked_windows : {K : Type 0} {kernel : Port K} {before now : Space K} {ask : Ask} {answer : Answer} (passes : Bool) → AsksWithin kernel before passes ask answer now → now.windows ≡ before.windows
asked_windows {before = before} {now = now} true a = ap (λ (s : Space _). s.windows) (a.passed refl).1
asked_windows {before = before} {now = now} false a = ap (λ (s : Space _). s.windows) (a.put refl).1

used_windows : {K : Type 0} (answer : Answer) (len : ℕ) (s : Space K) → (used_up answer len s).windows ≡ s.windows
used_windows Granted len s = refl
used_windows Refused len s = refl

mapped_windows : {K : Type 0} {kernel : Port K} {before now : Space K} {len : ℕ} {place : Option ℕ} → MapsWithin kernel before len place now → now.windows ≡ before.windows
mapped_windows {before = before} {now = now} {len = len} {place = place} m =
    let cases : (b : Bool) → map_passes before len ≡ b → now.windows ≡ before.windows = elim [
      | true ↦ λ is. ap (λ (s : Space _). s.windows) (m.passed is).1
      | false ↦ λ is. ap (λ (s : Space _). s.windows) (m.put is).1 ∙ used_windows (place_answer place) len (record before { kernel = now.kernel })
    ] in
    cases (map_passes before len) refl

goes_windows : {P K : Type 0} (m : Means P K) (o p : Outside P K) (n : Need) (s : Said) → AnswerGoes m o n s p → p.space.windows ≡ o.space.windows
goes_windows m o p Flagged (told.Flag b) h = ap (λ (o : Outside _ _). o.space.windows) h.others
goes_windows m o p (Pops bin) (told.Popped at) h = ap (λ (o : Outside _ _). o.space.windows) h.others
goes_windows m o p (Owns bin) (told.Own at) h = ap (λ (o : Outside _ _). o.space.windows) h.others
goes_windows m o p (Rooms size) (told.Room b) h = ap (λ (o : Outside _ _). o.space.windows) h.others
goes_windows m o p (Asks ask) (told.Asked asked answer) h = asked_windows (passes_window o.space.windows asked) h.asks
goes_windows m o p (Maps len) (told.Asked asked answer) h = mapped_windows h.maps
goes_windows m o p (Reads which) (told.Dial n) h = ap (λ (o : Outside _ _). o.space.windows) h.others
goes_windows m o p n s h = absurd h

does_windows : {P K : Type 0} (m : Means P K) (n : ℕ) (o p : Outside P K) (d : Deed) → DeedGoes m n o d p → p.space.windows ≡ o.space.windows
does_windows m n o p Clears h = ap (λ (o : Outside _ _). o.space.windows) h.others
does_windows m n o p (Gathers bin) h = ap (λ (o : Outside _ _). o.space.windows) h.others
does_windows m n o p (Pushes bin at) h = ap (λ (o : Outside _ _). o.space.windows) h.others
does_windows m n o p (Stashes c) h = ap (λ (o : Outside _ _). o.space.windows) h
does_windows m n o p (Draws size) h = ap (λ (o : Outside _ _). o.space.windows) h
does_windows m n o p (Gives back) h = ap (λ (s : Space _). s.windows) h.gives.others
does_windows m n o p (Counts len) h = ap (λ (o : Outside _ _). o.space.windows) h.others

-- a hold leaves the windows of its space
pub walks_windows : {P K A : Type 0} {m : Means P K} {n : ℕ} {t : Tunables} {r q : Rules A} {o z : Outside P K} {ss : List Said} → Walks t (ways m n) r o ss q z → z.space.windows ≡ o.space.windows
walks_windows here = refl
walks_windows (idled {o = o} {p = p} i a) = walks_windows a ∙ ap (λ (o : Outside _ _). o.space.windows) i.others
walks_windows {m = m} {n = n} (done {d = d} h a) = walks_windows a ∙ does_windows m n _ _ d h
walks_windows {m = m} (walked {n = need} {s = s} f h a) = walks_windows a ∙ goes_windows m _ _ need s h

-- ---- an ask

answer_flag : (ask : Ask) (granted : Bool) → flag_of (told.Asked ask (granted_answer granted)) ≡ granted
answer_flag ask true = refl
answer_flag ask false = refl

pub fit_asked : {K : Type 0} {kernel : Port K} {space space' : Space K} (t : Tunables) (ask : Ask) (granted : Bool) → same_ask ask ask ≡ true → space.windows ≡ windows_of t → AsksWithin kernel space (passes_window space.windows ask) ask (granted_answer granted) space' →
    fits t (Asks ask) (told.Asked ask (granted_answer granted)) ≡ true
fit_asked {space = space} t ask granted same windows a =
    let refused : (passes : Bool) → passes_window space.windows ask ≡ passes → (not passes || is_refused (granted_answer granted)) ≡ true = elim [
      | true ↦ λ is. ap (λ (r : Answer). is_refused r) (a.passed is).0
      | false ↦ λ is. refl
    ] in
    let here : (not (passes_window (windows_of t) ask) || is_refused (granted_answer granted)) ≡ true =
    subst (λ w. (not (passes_window w ask) || is_refused (granted_answer granted)) ≡ true) windows (refused (passes_window space.windows ask) refl) in
    ap (λ (b : Bool). b && (not (passes_window (windows_of t) ask) || is_refused (granted_answer granted))) same ∙ here

pub asked_passes : {P K A : Type 0} (m : Means P K) (t : Tunables) (a : Plain) (ask : Ask) (granted : Bool) (port : P) (cache : CacheValue) (space space' : Space K) (said said' : List Said) (f : Bool → Rules A) → let ok : Result Bool NoMemory = Ok granted in
    IsSound a → same_ask ask ask ≡ true → space.windows ≡ windows_of t → AsksFor m.kernel ask space said ok space' said' →
    Passes (full m) t (asks_for a ask f) (stage a (beside_arena port cache space) said) no_chunk (f granted) (stage a (beside_arena port cache space') said')
asked_passes m t a ask granted port cache space space' said said' f s same windows asked =
    let answer : Said = told.Asked ask (granted_answer granted) in
    let reaches : Reaches t ((full m).ways a.number) (asks_for a ask f) (beside_arena port cache space) said (f (flag_of answer)) (said ++ answer ∷ []) (beside_arena port cache space') =
    reaches_told {t = t} {w = (full m).ways a.number} {a = a} {n = Asks ask} {f = λ s. f (flag_of s)} {o = beside_arena port cache space} {z = beside_arena port cache space'} answer (fit_asked t ask granted same windows asked.asks) (record { asks = asked.asks; others = refl }) in
    let flagged = subst (λ b. Reaches t ((full m).ways a.number) (asks_for a ask f) (beside_arena port cache space) said (f b) (said ++ answer ∷ []) (beside_arena port cache space')) (answer_flag ask granted) reaches in
    record {
      reaches = subst (λ ss. Reaches t ((full m).ways a.number) (asks_for a ask f) (beside_arena port cache space) said (f granted) ss (beside_arena port cache space')) (sym asked.told) flagged;
      balances = record { sound = s; number = refl; windows = refl; placed = λ p. p; cached = λ e. omega arith; others = λ n other e. refl; kept = λ e. refl };
    }

pub asked_short : {P K A X E : Type 0} (m : Means P K) (t : Tunables) (a : Plain) (ask : Ask) (d : NoMemory) (port : P) (cache : CacheValue) (space space' : Space K) (said said' : List Said) (f : Bool → Rules A) (made : X → A) (out : X → Chunks) (r : Result X E) → let err : Result Bool NoMemory = Err d in
    IsErr r → IsSound a → AsksFor m.kernel ask space said err space' said' → Works (full m) t (asks_for a ask f) no_chunk (stage a (beside_arena port cache space) said) made out r (stage a (beside_arena port cache space') said')
asked_short m t a ask d port cache space space' said said' f made out r is s asked =
    let x : Stage (Outside _ _) = stage a (beside_arena port cache space) said in
    let w : Works (full m) t (asks_for a ask f) no_chunk x made out r x = works_short r is short_here (loses_from (balances_here (full m) x said s)) in
    subst (λ ss. Works (full m) t (asks_for a ask f) no_chunk x made out r (stage a (beside_arena port cache space') ss)) (sym asked.short)
    (subst (λ sp. Works (full m) t (asks_for a ask f) no_chunk x made out r (stage a (beside_arena port cache sp) said)) (sym asked.unasked) w)

-- ---- how much

pub record IsGrowing (growth : ℕ) : Type 0 where
  pub some : 0 < growth
  pub pages : growth % 4096 ≡ 0
  pub sum : growth ≤ 2 ^ 63 + 2 ^ 32

part_below : (a : Plain) → top_part a ≤ top_size a
part_below a =
    let cases : (b : Bool) → cond b (top_size a) 0 ≤ top_size a = elim [ true ↦ omega arith | false ↦ omega arith ] in
    cases a.contiguous

top_below : (a : Plain) (nb : ℕ) → has_top_for a nb ≡ false → top_size a < nb + 32
top_below a nb short = grind (arith, nat_tests)

pages_of : (n : ℕ) → page_up_of n % 4096 ≡ 0
pages_of n = omega arith

pub growth_is : (t : Tunables) (a : Plain) (nb : ℕ) → IsRequestSize nb → IsSearchable t → has_top_for a nb ≡ false → IsGrowing (main_growth t a nb)
growth_is t a nb size tuned short =
    let part : top_part a < nb + 32 = omega (arith, part_below a, top_below a nb short) in
    record {
      some = omega (arith, part);
      pages = pages_of (nb + t.top_pad + 32 - top_part a);
      sum = omega (arith, size.largest, tuned.pad);
    }

pub piece_is : (t : Tunables) (a : Plain) (nb : ℕ) → IsRequestSize nb → IsSearchable t → has_top_for a nb ≡ false → IsGrowing (piece_length t a nb)
piece_is t a nb size tuned short =
    let part : top_part a < nb + 32 = omega (arith, part_below a, top_below a nb short) in
    let n : ℕ = page_up_of (main_growth t a nb + top_part a) in
    let whole : n % 4096 ≡ 0 = pages_of (main_growth t a nb + top_part a) in
    let below : n ≤ 2 ^ 63 + 2 ^ 32 = omega (arith, part, size.largest, tuned.pad) in
    record { some = omega arith; pages = omega (arith, whole); sum = omega (arith, below) }
