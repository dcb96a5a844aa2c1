-- Laws of walks, for the crates above (public): parts in a row, and what is read off a walk.
use Rattle.std.proofs.Common.{◌≡◌, List, [], ◌∷◌, ◌++◌, Option, Some, None, Bool, true, false, refl, sym, ap, ◌∙◌, append_assoc, append-nil}
use Rattle.std.specs.Prelude.{IsTrue, if◌then◌else◌}
use Rattle.chunk_tags.specs.declared.tunables.Tunables.{Tunables}
use Rattle.arena_rules.specs.declared.said.Said.{Said}
use Rattle.arena_rules.specs.PlainArena.{Plain}
use Rattle.arena_rules.specs.Rules.{Rules, Stop, Does, Needs, Need, Deed, behind, fits, end_of_rules, left_by_rules}
use Rattle.arena_rules.specs.Walks.{Ways, Walks, here, idled, done, told, Reaches, StopsShort}

-- a walk, and another from where it ends
pub walks_then : {O A : Type 0} {t : Tunables} {w : Ways O} {r q u : Rules A} {o p z : O} {ss us : List Said} →
    Walks t w r o ss q p → Walks t w q p us u z → Walks t w r o (ss ++ us) u z
walks_then here b = b
walks_then (idled i a) b = idled i (walks_then a b)
walks_then (done d a) b = done d (walks_then a b)
walks_then (told f g a) b = told f g (walks_then a b)

-- a walk goes the same way with more rules behind
pub walks_behind : {O A B : Type 0} {t : Tunables} {w : Ways O} {r q : Rules A} {o z : O} {ss : List Said} (f : A → Rules B) →
    Walks t w r o ss q z → Walks t w (behind r f) o ss (behind q f) z
walks_behind f here = here
walks_behind f (idled i a) = idled i (walks_behind f a)
walks_behind f (done d a) = done d (walks_behind f a)
walks_behind f (told h g a) = told h g (walks_behind f a)

-- The same of walks whose answers were put behind others.

pub reaches_here : {O A : Type 0} {t : Tunables} {w : Ways O} {r : Rules A} {o : O} {old : List Said} → Reaches t w r o old r old o
reaches_here {old = old} = record { said = []; added = sym (append-nil old); walks = here }

pub reaches_then : {O A : Type 0} {t : Tunables} {w : Ways O} {r q u : Rules A} {o p z : O} {old mid new : List Said} →
    Reaches t w r o old q mid p → Reaches t w q p mid u new z → Reaches t w r o old u new z
reaches_then {old = old} a b = record {
  said = a.said ++ b.said;
  added = b.added ∙ (ap (λ ss. ss ++ b.said) a.added ∙ append_assoc old a.said b.said);
  walks = walks_then a.walks b.walks;
}

pub reaches_behind : {O A B : Type 0} {t : Tunables} {w : Ways O} {r q : Rules A} {o z : O} {old new : List Said} (f : A → Rules B) →
    Reaches t w r o old q new z → Reaches t w (behind r f) o old (behind q f) new z
reaches_behind f a = record { said = a.said; added = a.added; walks = walks_behind f a.walks }

-- an answer, which is put behind the others
pub reaches_told : {O A : Type 0} {t : Tunables} {w : Ways O} {a : Plain} {n : Need} {f : Said → Rules A} {o z : O} {old : List Said} (s : Said) →
    IsTrue (fits t n s) → w.goes o n s z → Reaches t w (Needs a n f) o old (f s) (old ++ s ∷ []) z
reaches_told s h g = record { said = s ∷ []; added = refl; walks = told h g here }

pub reaches_done : {O A : Type 0} {t : Tunables} {w : Ways O} {d : Deed} {r : Rules A} {o z : O} {old : List Said} →
    w.does o d z → Reaches t w (Does d r) o old r old z
reaches_done {old = old} d = record { said = []; added = sym (append-nil old); walks = done d here }

pub reaches_idled : {O A : Type 0} {t : Tunables} {w : Ways O} {r : Rules A} {o z : O} {old : List Said} →
    w.idles o z → Reaches t w r o old r old z
reaches_idled {old = old} i = record { said = []; added = sym (append-nil old); walks = idled i here }

-- Where memory is short.

pub short_here : {O A : Type 0} {t : Tunables} {w : Ways O} {a : Plain} {n : Need} {f : Said → Rules A} {o : O} {old : List Said} →
    StopsShort t w (Needs a n f) o old a old o
short_here {n = n} {f = f} = record { need = n; next = f; reaches = reaches_here }

pub short_then : {O A : Type 0} {t : Tunables} {w : Ways O} {r q : Rules A} {o p z : O} {old mid new : List Said} {left : Plain} →
    Reaches t w r o old q mid p → StopsShort t w q p mid left new z → StopsShort t w r o old left new z
short_then a b = record { need = b.need; next = b.next; reaches = reaches_then a b.reaches }

pub short_behind : {O A B : Type 0} {t : Tunables} {w : Ways O} {r : Rules A} {o z : O} {old new : List Said} {left : Plain} (f : A → Rules B) →
    StopsShort t w r o old left new z → StopsShort t w (behind r f) o old left new z
short_behind f a = record { need = a.need; next = λ s. behind (a.next s) f; reaches = reaches_behind f a.reaches }

-- What is read off a walk: the rules read against its answers go on from where it ends.

ends_past_fit : {A : Type 0} (b : Bool) (x : Option A) → IsTrue b → (if b then x else None) ≡ x
ends_past_fit true x h = refl
ends_past_fit false x h = absurd (cc)

pub walks_end : {O A : Type 0} {t : Tunables} {w : Ways O} {r q : Rules A} {o z : O} {ss : List Said} (us : List Said) →
    Walks t w r o ss q z → end_of_rules t r (ss ++ us) ≡ end_of_rules t q us
walks_end us here = refl
walks_end us (idled i a) = walks_end us a
walks_end us (done d a) = walks_end us a
walks_end us (told {s = s} h g a) = ends_past_fit _ _ h ∙ walks_end us a

pub walks_left : {O A : Type 0} {t : Tunables} {w : Ways O} {r q : Rules A} {o z : O} {ss : List Said} (us : List Said) →
    Walks t w r o ss q z → left_by_rules t r (ss ++ us) ≡ left_by_rules t q us
walks_left us here = refl
walks_left us (idled i a) = walks_left us a
walks_left us (done d a) = walks_left us a
walks_left us (told h g a) = ends_past_fit _ _ h ∙ walks_left us a

-- a walk to an end is a replay with that result
pub ends_as_walked : {O A : Type 0} {t : Tunables} {w : Ways O} {r : Rules A} {o z : O} {ss : List Said} {x : A} →
    Walks t w r o ss (Stop x) z → end_of_rules t r ss ≡ Some x
ends_as_walked {t = t} {r = r} {ss = ss} a = sym (ap (end_of_rules t r) (append-nil ss)) ∙ walks_end [] a

-- a walk that stopped short leaves the arena that the replay leaves
pub left_as_walked : {O A : Type 0} {t : Tunables} {w : Ways O} {r : Rules A} {o z : O} {ss : List Said} {a : Plain} {n : Need} {f : Said → Rules A} →
    Walks t w r o ss (Needs a n f) z → left_by_rules t r ss ≡ Some a
left_as_walked {t = t} {r = r} {ss = ss} a = sym (ap (left_by_rules t r) (append-nil ss)) ∙ walks_left [] a
