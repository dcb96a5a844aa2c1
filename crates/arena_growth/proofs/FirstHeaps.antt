-- What asking for heap 0 of another arena goes through.
use Rattle.std.proofs.Common.{◌≡◌, ℕ, ◌+◌, Bool, true, false, List, [], ◌∷◌, ◌++◌, Option, Some, None, IfSome, Result, Ok, Err, refl, sym, ap, ◌∙◌, subst}
use Rattle.std.specs.Prelude.{nat_lt, nat_le, if◌then◌else◌, IsSome}
use Rattle.std.specs.Result.{IsErr}
use Rattle.std.proofs.lemmas.Bool.{eq-eqb, ltb-false, le-leb, or_parts, true≢false}
use Rattle.chunk_tags.specs.declared.refusals.NoMemory.{NoMemory}
use Rattle.chunk_tags.specs.declared.tunables.Tunables.{Tunables}
use Rattle.address_space.specs.Ports.{Port}
use Rattle.address_space.specs.Spaces.{new_heap_passes, space_refusals}
use Rattle.address_space.specs.declared.asks.Ask.{Ask}
use Rattle.address_space.specs.declared.asks.Ask.TheVariants as asks
use Rattle.address_space.specs.declared.asks.Answer.TheVariants.{Granted, Refused}
use Rattle.address_space.specs.declared.space.Space.{Space}
use Rattle.arena_rules.specs.declared.said.Said.{Said}
use Rattle.arena_rules.specs.declared.said.Said.TheVariants as told
use Rattle.arena_rules.specs.PlainArena.{Plain, IsSound}
use Rattle.arena_rules.specs.Heaps.{opened_arena}
use Rattle.arena_rules.specs.Growth.{first_heap, first_length}
use Rattle.arena_rules.specs.Rules.{Rules, Stop, Asks, flag_of, passes_window, same_ask, windows_of}
use Rattle.arena_rules.specs.Walks.{Reaches}
use Rattle.arena_rules.proofs.Walks.{reaches_told, reaches_then, short_here, short_then}
use Rattle.arena_growth.specs.Asking.{AsksFor, granted_answer}
use Rattle.arena_growth.specs.FirstHeap.{asked_ways, closed_arena, AsksFirst, Opens}
use Rattle.arena_growth.proofs.Growing.{asked_windows, fit_asked}
use Rattle.arena_growth.proofs.Refusals.{rose_twice}

abbrev first_of : Tunables → ℕ → ℕ → Ask
first_of t number need = asks.NewHeap number 0 (first_length t need)

abbrev at_first : Tunables → ℕ → ℕ → Rules (Option Plain) → Bool → Rules (Option Plain)
at_first t number need refused granted = if granted then Stop (Some (opened_arena (closed_arena t number) (first_length t need))) else refused

same_first : (n k l : ℕ) → same_ask (asks.NewHeap n k l) (asks.NewHeap n k l) ≡ true
same_first n k l = rw (eq-eqb n n refl, eq-eqb k k refl, eq-eqb l l refl) refl

first_told : {K : Type 0} (port : Port K) (t : Tunables) (number need : ℕ) (s z : Space K) (said said' : List Said) (granted : Bool) (refused : Rules (Option Plain)) → let ok : Result Bool NoMemory = Ok granted in
    s.windows ≡ windows_of t → AsksFor port (first_of t number need) s said ok z said' → Reaches t (asked_ways port) (first_heap t need (closed_arena t number) refused) s said (at_first t number need refused granted) said' z
first_told port t number need s z said said' granted refused windows asked =
    let answer : Said = told.Asked (first_of t number need) (granted_answer granted) in
    let r : Rules (Option Plain) = first_heap t need (closed_arena t number) refused in
    let reaches : Reaches t (asked_ways port) r s said (at_first t number need refused (flag_of answer)) (said ++ answer ∷ []) z =
    reaches_told {t = t} {w = asked_ways port} {a = closed_arena t number} {n = Asks (first_of t number need)} {f = λ s. at_first t number need refused (flag_of s)} {o = s} {z = z} answer (fit_asked t (first_of t number need) granted (same_first number 0 (first_length t need)) windows asked.asks) asked.asks in
    let flag : (g : Bool) → flag_of (told.Asked (first_of t number need) (granted_answer g)) ≡ g = elim [ true ↦ refl | false ↦ refl ] in
    subst (λ ss. Reaches t (asked_ways port) r s said (at_first t number need refused granted) ss z) (sym asked.told)
    (subst (λ b. Reaches t (asked_ways port) r s said (at_first t number need refused b) (said ++ answer ∷ []) z) (flag granted) reaches)

first_windows : {K : Type 0} {port : Port K} {s z : Space K} {said said' : List Said} {granted : Bool} (t : Tunables) (number need : ℕ) → let ok : Result Bool NoMemory = Ok granted in
    AsksFor port (first_of t number need) s said ok z said' → z.windows ≡ s.windows
first_windows {s = s} t number need asked = asked_windows (passes_window s.windows (first_of t number need)) asked.asks

-- a granted heap fits its window
granted_fits : {K : Type 0} (port : Port K) (t : Tunables) (number need : ℕ) (s z : Space K) (said said' : List Said) → let ok : Result Bool NoMemory = Ok true in
    s.windows ≡ windows_of t → AsksFor port (first_of t number need) s said ok z said' → nat_le (first_length t need) t.heap_max ≡ true
granted_fits port t number need s z said said' windows asked =
    let cases : (b : Bool) → new_heap_passes s.windows 0 (first_length t need) ≡ b → new_heap_passes s.windows 0 (first_length t need) ≡ false = elim [
      | true ↦ λ is. let no_grant : Granted ≡ Refused = (asked.asks.passed is).0 in absurd (cc no_grant)
      | false ↦ λ is. is
    ] in
    let inside : new_heap_passes (windows_of t) 0 (first_length t need) ≡ false = ap (λ w. new_heap_passes w 0 (first_length t need)) (sym windows) ∙ cases (new_heap_passes s.windows 0 (first_length t need)) refl in
    le-leb (first_length t need) t.heap_max (ltb-false t.heap_max (first_length t need) (or_parts (nat_lt t.heap_max (first_length t need)) (nat_le t.heaps 0) inside).0)

pub first_opens : {M K : Type 0} (plain : M → Plain) (port : Port K) (t : Tunables) (number need : ℕ) (s z : Space K) (said said' : List Said) (o : Option M) → let ok : Result Bool NoMemory = Ok true in
    s.windows ≡ windows_of t → AsksFor port (first_of t number need) s said ok z said' → (nat_le (first_length t need) t.heap_max ≡ true → IsSome o) → IfSome o (λ g. plain g ≡ opened_arena (closed_arena t number) (first_length t need)) → IfSome o (λ g. IsSound (plain g)) →
    AsksFirst plain port t number need s said (Ok o) z said'
first_opens plain port t number need s z said said' None windows asked some is sound = let none : false ≡ true = some (granted_fits port t number need s z said said' windows asked) in absurd (true≢false (sym none))
first_opens plain port t number need s z said said' (Some g) windows asked some is sound = record {
  first = (first_length t need, is);
  rose = λ none. absurd (true≢false none);
  asked = λ refused. subst (λ (b : Plain). Reaches t (asked_ways port) (first_heap t need (closed_arena t number) refused) s said (Stop (Some b)) said' z) (sym is) (first_told port t number need s z said said' true refused windows asked);
  sound = sound;
  windows = first_windows t number need asked;
  short = tt;
}

pub first_refused : {M K : Type 0} (plain : M → Plain) (port : Port K) (t : Tunables) (number need : ℕ) (s z : Space K) (said said' : List Said) → let ok : Result Bool NoMemory = Ok false in
    s.windows ≡ windows_of t → AsksFor port (first_of t number need) s said ok z said' → AsksFirst plain port t number need s said (Ok None) z said'
first_refused plain port t number need s z said said' windows asked = record {
  asked = λ refused. first_told port t number need s z said said' false refused windows asked;
  sound = tt;
  first = tt;
  rose = λ none. asked.asks.cause refl;
  windows = first_windows t number need asked;
  short = tt;
}

pub first_here : {M K : Type 0} (plain : M → Plain) (port : Port K) (t : Tunables) (number need : ℕ) (s : Space K) (said : List Said) (r : Result (Option M) NoMemory) → IsErr r → AsksFirst plain port t number need s said r s said
first_here plain port t number need s said (Ok o) is = absurd cc
first_here plain port t number need s said (Err d) is = record { asked = tt; sound = tt; first = tt; rose = tt; windows = refl; short = λ refused. short_here }

pub first_short : {M K : Type 0} (plain : M → Plain) (port : Port K) (t : Tunables) (number need : ℕ) (s z : Space K) (said said' : List Said) (d : NoMemory) (r : Result (Option M) NoMemory) → let err : Result Bool NoMemory = Err d in
    IsErr r → AsksFor port (first_of t number need) s said err z said' → AsksFirst plain port t number need s said r z said'
first_short plain port t number need s z said said' d r is asked =
    subst (λ ss. AsksFirst plain port t number need s said r z ss) (sym asked.short)
    (subst (λ (x : Space _). AsksFirst plain port t number need s said r x said) (sym asked.unasked) (first_here plain port t number need s said r is))

-- ---- both asks

pub opens_first : {M K : Type 0} (plain : M → Plain) (port : Port K) (t : Tunables) (number bytes : ℕ) (s z : Space K) (said said' : List Said) (g : M) → AsksFirst plain port t number (bytes + 2248) s said (Ok (Some g)) z said' →
    Opens plain port t number bytes s said (Ok (Some g)) z said'
opens_first plain port t number bytes s z said said' g a = record {
  walks = a.asked (first_heap t 2248 (closed_arena t number) (Stop None));
  sound = a.sound;
  first = a.first;
  rose = λ none. absurd (true≢false none);
  windows = a.windows;
  short = tt;
}

pub opens_short : {M K : Type 0} (plain : M → Plain) (port : Port K) (t : Tunables) (number bytes : ℕ) (s z : Space K) (said said' : List Said) (d : NoMemory) (r : Result (Option M) NoMemory) → IsErr r → AsksFirst plain port t number (bytes + 2248) s said (Err d) z said' →
    Opens plain port t number bytes s said r z said'
opens_short plain port t number bytes s z said said' d (Ok o) is a = absurd cc
opens_short plain port t number bytes s z said said' d (Err e) is a = record {
  walks = tt;
  sound = tt;
  first = tt;
  rose = tt;
  windows = a.windows;
  short = a.short (first_heap t 2248 (closed_arena t number) (Stop None));
}

pub opens_second : {M K : Type 0} (plain : M → Plain) (port : Port K) (t : Tunables) (number bytes : ℕ) (s u z : Space K) (said mid said' : List Said) (r : Result (Option M) NoMemory) → AsksFirst plain port t number (bytes + 2248) s said (Ok None) u mid → AsksFirst plain port t number 2248 u mid r z said' →
    Opens plain port t number bytes s said r z said'
opens_second plain port t number bytes s u z said mid said' (Ok (Some g)) a b = record {
  walks = reaches_then (a.asked (first_heap t 2248 (closed_arena t number) (Stop None))) (b.asked (Stop None));
  sound = b.sound;
  first = b.first;
  rose = λ none. absurd (true≢false none);
  windows = b.windows ∙ a.windows;
  short = tt;
}
opens_second plain port t number bytes s u z said mid said' (Ok None) a b = record {
  walks = reaches_then (a.asked (first_heap t 2248 (closed_arena t number) (Stop None))) (b.asked (Stop None));
  sound = tt;
  first = tt;
  rose = λ none. rose_twice (space_refusals port s) (space_refusals port u) (space_refusals port z) (a.rose refl) (b.rose none);
  windows = b.windows ∙ a.windows;
  short = tt;
}
opens_second plain port t number bytes s u z said mid said' (Err d) a b = record {
  walks = tt;
  sound = tt;
  first = tt;
  rose = tt;
  windows = b.windows ∙ a.windows;
  short = short_then (a.asked (first_heap t 2248 (closed_arena t number) (Stop None))) (b.short (Stop None));
}
