-- A hold is told only of chunks that it may be told of, for this crate and those above it: the port gives none that is in hand,
-- and none but what was used as the hold began or was pushed by it.
use Rattle.std.proofs.Common.{◌≡◌, ℕ, ◌+◌, ◌<◌, ◌≤◌, Bool, true, false, ◌&&◌, ◌||◌, cond, List, [], Option, Some, None, suc, zero, refl, ap, arith}
use Rattle.std.specs.Prelude.{nat_eq, nat_lt}
use Rattle.std.proofs.lemmas.Bool.{and_from}
use Rattle.std.proofs.lemmas.Bool.Decides.{nat_tests}
use Rattle.std.proofs.lemmas.List.Sums.{sum_by-cons}
use Rattle.chunk_tags.specs.BinOrder.{fast_chunk, once, same_chunk, times_in, without}
use Rattle.chunk_tags.specs.Tiles.{is_used}
use Rattle.chunk_tags.specs.declared.tiles.Chunk.{Chunk}
use Rattle.chunk_tags.specs.declared.tunables.Tunables.{Tunables}
use Rattle.fast_bins.specs.FastPorts.{Fast}
use Rattle.mapped_chunks.specs.DialPorts as dial_steps
use Rattle.arena_rules.specs.declared.said.Said.{Said}
use Rattle.arena_rules.specs.declared.said.Said.TheVariants as told
use Rattle.arena_rules.specs.Rules.{Rules, Stop, Misfit, Does as Doing, Needs, Need, Flagged, Pops, Owns, Rooms, Asks, Maps, Reads, Deed, Clears, Gathers, Pushes, Stashes, Draws, Gives, Counts}
use Rattle.arena_rules.specs.Walks.{Walks, here, idled, done}
use Rattle.arena_rules.specs.Walks as walks
use Rattle.arena_rules.specs.PlainArena.{Plain, times_used}
use Rattle.arena_rules.proofs.Bins.{once_self, same_chunk_is, without_same, without_other}
use Rattle.arena_rules.proofs.Counts.{at_most_once}
use Rattle.consolidate_trim.specs.Holds.{Chunks, IsBacked}
use Rattle.consolidate_trim.specs.Outside.{Means, Outside, AreApart, AnswerGoes, DeedGoes, ways}
use Rattle.arena_core.specs.Tellings.{Dealings, chunk_of_answer, dealings_with, may_be_told, tells_others, with_deed, with_pushed, with_told}

-- The port gives each chunk at most once, none in hand, and none but what was used as the hold began or was pushed by it.
pub record IsApart (start : Plain) (stock : Chunk → ℕ) (d : Dealings) : Type 0 where
  pub one : (e : Chunk) → stock e ≤ 1
  pub gone : (e : Chunk) → 0 < times_in e d.hand → stock e ≡ 0
  pub known : (e : Chunk) → stock e ≤ times_used e start + times_in e d.pushed

apart_as : {start : Plain} {stock new : Chunk → ℕ} {d : Dealings} → IsApart start stock d → ((e : Chunk) → new e ≡ stock e) → IsApart start new d
apart_as a same = record {
  one = λ e. omega (arith, a.one e, same e);
  gone = λ e some. omega (arith, a.gone e some, same e);
  known = λ e. omega (arith, a.known e, same e);
}

-- ---- a chunk is told of

-- what holds after an answer
record IsTold (start : Plain) (new : Chunk → ℕ) (d : Dealings) (o : Option Chunk) : Type 0 where
  may : may_be_told start d o ≡ true
  apart : IsApart start new (with_told d o)

none_told : {start : Plain} {stock new : Chunk → ℕ} {d : Dealings} → IsApart start stock d → ((e : Chunk) → new e ≡ stock e) → IsTold start new d None
none_told a same = record { may = refl; apart = apart_as a same }

-- it was pushed, or used as the hold began, and isn't in hand
may_when : (used hand pushed : ℕ) → 0 < used + pushed → hand ≡ 0 → (nat_lt 0 pushed || (nat_lt 0 used && nat_eq hand 0)) ≡ true
may_when used hand pushed some none = grind (arith, nat_tests)

one_told : {start : Plain} {stock new : Chunk → ℕ} {d : Dealings} (c : Chunk) → IsApart start stock d → ((e : Chunk) → new e + once e c ≡ stock e) → IsTold start new d (Some c)
one_told {start = start} {stock = stock} {new = new} {d = d} c a given =
    let none : times_in c d.hand ≡ 0 =
    (let cases : (n : ℕ) → times_in c d.hand ≡ n → times_in c d.hand ≡ 0 = elim [
      | zero ↦ λ is. is
      | suc n ↦ λ is. absurd (omega (arith, a.gone c (omega (arith, is)), given c, once_self c))
    ] in
    cases (times_in c d.hand) refl) in
    record {
      may = may_when (times_used c start) (times_in c d.hand) (times_in c d.pushed) (omega (arith, a.known c, given c, once_self c)) none;
      apart = record {
        one = λ e. omega (arith, a.one e, given e);
        gone = λ e some.
            let cases : (b : Bool) → same_chunk e c ≡ b → new e ≡ 0 = elim [
              | true ↦ λ is. omega (arith, a.one e, given e, ap {B = ℕ} (λ (b : Bool). cond b 1 0) is)
              | false ↦ λ is. omega (arith, given e, a.gone e (omega (arith, some, sum_by-cons (once e) c d.hand, ap {B = ℕ} (λ (b : Bool). cond b 1 0) is)))
            ] in
            cases (same_chunk e c) refl;
        known = λ e.
            let cases : (b : Bool) → same_chunk e c ≡ b → new e ≤ times_used e start + times_in e (without c d.pushed) = elim [
              | true ↦ λ is. omega (arith, a.one e, given e, ap {B = ℕ} (λ (b : Bool). cond b 1 0) is)
              | false ↦ λ is. omega (arith, given e, a.known e, without_other e c d.pushed is, ap {B = ℕ} (λ (b : Bool). cond b 1 0) is)
            ] in
            cases (same_chunk e c) refl;
      };
    }

-- an answer, whichever it is
goes_told : {P K : Type 0} (m : Means P K) → AreApart m.fast m.dials → (o p : Outside P K) (n : Need) (s : Said) (start : Plain) (d : Dealings) → AnswerGoes m o n s p → IsApart start (m.fast.stock o.port) d →
    IsTold start (m.fast.stock p.port) d (chunk_of_answer n s)
goes_told m apart o p Flagged (told.Flag b) start d g a = none_told a (λ e. omega (arith, g.did.stock e))
goes_told m apart o p (Pops bin) (told.Popped None) start d g a = none_told a (λ e. omega (arith, g.did.stock e))
goes_told m apart o p (Pops bin) (told.Popped (Some at)) start d g a = one_told (fast_chunk bin at) a (λ e. omega (arith, g.did.stock e))
goes_told m apart o p (Owns bin) (told.Own None) start d g a = none_told a (λ e. omega (arith, g.did.stock e))
goes_told m apart o p (Owns bin) (told.Own (Some at)) start d g a = one_told (fast_chunk bin at) a (λ e. omega (arith, g.did.stock e))
goes_told m apart o p (Rooms size) (told.Room b) start d g a = none_told a (λ e. ap (λ (x : Outside _ _). m.fast.stock x.port e) g.others)
goes_told m apart o p (Asks ask) (told.Asked asked answer) start d g a = none_told a (λ e. ap (λ (x : Outside _ _). m.fast.stock x.port e) g.others)
goes_told m apart o p (Maps len) (told.Asked asked answer) start d g a = none_told a (λ e. ap (λ (x : Outside _ _). m.fast.stock x.port e) g.others)
goes_told m apart o p (Reads which) (told.Dial n) start d g a = none_told a (apart.stock o.port p.port (dial_steps.Reads which n) g.step)
goes_told m apart o p n s start d g a = absurd g

-- ---- something is done

pushed : {start : Plain} {stock new : Chunk → ℕ} {d : Dealings} (c : Chunk) → IsApart start stock d → ((e : Chunk) → new e ≡ stock e + once e c) → stock c ≡ 0 → IsApart start new (with_pushed d c)
pushed {stock = stock} {new = new} {d = d} c a put none = record {
  one = λ e.
      let cases : (b : Bool) → same_chunk e c ≡ b → new e ≤ 1 = elim [
        | true ↦ λ is. omega (arith, put e, ap stock (same_chunk_is e c is), none, ap {B = ℕ} (λ (b : Bool). cond b 1 0) is)
        | false ↦ λ is. omega (arith, put e, a.one e, ap {B = ℕ} (λ (b : Bool). cond b 1 0) is)
      ] in
      cases (same_chunk e c) refl;
  gone = λ e some.
      let cases : (b : Bool) → same_chunk e c ≡ b → new e ≡ 0 = elim [
        | true ↦ λ is. absurd (omega (arith, some, ap (λ (x : Chunk). times_in x (without c d.hand)) (same_chunk_is e c is), without_same c d.hand))
        | false ↦ λ is. omega (arith, put e, a.gone e (omega (arith, some, without_other e c d.hand is)), ap {B = ℕ} (λ (b : Bool). cond b 1 0) is)
      ] in
      cases (same_chunk e c) refl;
  known = λ e. omega (arith, put e, a.known e, sum_by-cons (once e) c d.pushed);
}

does_apart : {P K : Type 0} (m : Means P K) (number : ℕ) → AreApart m.fast m.dials → (o p : Outside P K) (deed : Deed) (start : Plain) (d : Dealings) → DeedGoes m number o deed p → IsApart start (m.fast.stock o.port) d →
    IsApart start (m.fast.stock p.port) (with_deed d deed)
does_apart m number apart o p Clears start d w a = apart_as a (λ e. omega (arith, w.did.stock e))
does_apart m number apart o p (Gathers bin) start d w a = apart_as a (λ e. omega (arith, w.did.stock e))
does_apart m number apart o p (Pushes bin at) start d w a = pushed (fast_chunk bin at) a (λ e. omega (arith, w.did.stock e)) w.new
does_apart m number apart o p (Stashes c) start d w a = apart_as a (λ e. ap (λ (x : Outside _ _). m.fast.stock x.port e) w)
does_apart m number apart o p (Draws size) start d w a = apart_as a (λ e. ap (λ (x : Outside _ _). m.fast.stock x.port e) w)
does_apart m number apart o p (Gives back) start d w a = apart_as a (λ e. ap (λ (x : Outside _ _). m.fast.stock x.port e) w.others)
does_apart m number apart o p (Counts len) start d w a = apart_as a (apart.stock o.port p.port (dial_steps.Maps len) w.step)

-- ---- a whole walk

tells_none : {A : Type 0} (start : Plain) (d : Dealings) (r : Rules A) → tells_others start d r [] ≡ true
tells_none start d (Stop x) = refl
tells_none start d Misfit = refl
tells_none start d (Doing deed r) = tells_none start (with_deed d deed) r
tells_none start d (Needs a n f) = refl

pub tells_walked : {P K A : Type 0} {m : Means P K} {t : Tunables} {number : ℕ} {r q : Rules A} {o z : Outside P K} {ss : List Said} (start : Plain) (d : Dealings) → AreApart m.fast m.dials → IsApart start (m.fast.stock o.port) d →
    Walks t (ways m number) r o ss q z → tells_others start d r ss ≡ true
tells_walked start d apart a (here {r = r}) = tells_none start d r
tells_walked start d apart a (idled i w) = tells_walked start d apart (apart_as a i.idles.stock) w
tells_walked {m = m} {number = number} start d apart a (done {d = deed} {o = o} {p = p} h w) = tells_walked start (with_deed d deed) apart (does_apart m number apart o p deed start d h a) w
tells_walked {m = m} start d apart a (walks.told {n = n} {s = s} {o = o} {p = p} f h w) =
    let g : IsTold start (m.fast.stock p.port) d (chunk_of_answer n s) = goes_told m apart o p n s start d h a in
    and_from (may_be_told start d (chunk_of_answer n s)) _ g.may (tells_walked start (with_told d (chunk_of_answer n s)) apart g.apart w)

-- the port of a hold gives none that is in hand, and none but used ones
pub apart_backed : {P : Type 0} {fast : Fast P} {a : Plain} {port : P} {chunks : Chunks} (hand : List Chunk) → IsBacked fast a port chunks → ((e : Chunk) → times_in e hand ≡ chunks e) → IsApart a (fast.stock port) (dealings_with hand)
apart_backed {a = a} hand backed same = record {
  one = λ e. omega (arith, backed.used e, at_most_once is_used e a.tiles backed.sound.row);
  gone = λ e some. omega (arith, some, same e, backed.used e, at_most_once is_used e a.tiles backed.sound.row);
  known = λ e. omega (arith, backed.used e);
}
