-- How a hold goes through the rules: what the outside answers and is given, in order (this project's own).
use Rattle.std.specs.Prelude.{◌≡◌, List, [], ◌∷◌, ◌++◌, Result, IsTrue, IfOk, OnErr}
use Rattle.chunk_tags.specs.declared.tunables.Tunables.{Tunables}
use Rattle.arena_rules.specs.declared.said.Said.{Said}
use Rattle.arena_rules.specs.PlainArena.{Plain}
use Rattle.arena_rules.specs.Rules.{Rules, Stop, Does, Needs, Need, Deed, fits}

-- How an outside goes on: with an answer to what is needed, with a deed, and where room is made and nothing else is seen.
pub record Ways (O : Type 0) : Type 1 where
  pub goes : O → Need → Said → O → Type 0
  pub does : O → Deed → O → Type 0
  pub idles : O → O → Type 0

-- From a tree and an outside, by these answers, to what is left of the tree and the outside then.
pub data Walks {O A : Type 0} (t : Tunables) (w : Ways O) : Rules A → O → List Said → Rules A → O → Type 0 where
  here : {r : Rules A} {o : O} → Walks t w r o [] r o
  idled : {r q : Rules A} {o p z : O} {ss : List Said} → w.idles o p → Walks t w r p ss q z → Walks t w r o ss q z
  done : {d : Deed} {r q : Rules A} {o p z : O} {ss : List Said} →
      w.does o d p → Walks t w r p ss q z → Walks t w (Does d r) o ss q z
  told : {a : Plain} {n : Need} {f : Said → Rules A} {s : Said} {q : Rules A} {o p z : O} {ss : List Said} →
      IsTrue (fits t n s) → w.goes o n s p → Walks t w (f s) p ss q z → Walks t w (Needs a n f) o (s ∷ ss) q z

-- a walk whose answers were put behind those that were there
pub record Reaches {O A : Type 0} (t : Tunables) (w : Ways O) (r : Rules A) (o : O) (old : List Said)
    (q : Rules A) (new : List Said) (z : O) : Type 0 where
  pub said : List Said
  pub added : new ≡ old ++ said
  pub walks : Walks t w r o said q z

-- a walk that is left where memory is short: an answer is needed, and the arena is what it is until that is there
pub record StopsShort {O A : Type 0} (t : Tunables) (w : Ways O) (r : Rules A) (o : O) (old : List Said)
    (left : Plain) (new : List Said) (z : O) : Type 0 where
  pub need : Need
  pub next : Said → Rules A
  pub reaches : Reaches t w r o old (Needs left need next) new z

-- What a body of these rules does: it ends with what they end with, or is left where memory is short.
pub record Performs {O A X E : Type 0} (t : Tunables) (w : Ways O) (r : Rules A) (o : O) (old : List Said)
    (made : X → A) (left : Plain) (result : Result X E) (new : List Said) (z : O) : Type 0 where
  pub done : IfOk result (λ x. Reaches t w r o old (Stop (made x)) new z)
  pub short : OnErr result (StopsShort t w r o old left new z)
