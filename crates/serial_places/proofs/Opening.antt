-- What is asked of an address space alone is what a hold over a plain world asks; other crates may cite this file.
use Rattle.std.proofs.Common.{◌≡◌, ℕ, IsTrue, List, ◌∷◌, Option, Some, sym, ap, ◌∙◌, refl, subst}
use Rattle.std.specs.Option.{option_map}
use Rattle.chunk_tags.specs.declared.tunables.Tunables.{Tunables}
use Rattle.address_space.specs.declared.asks.Ask.{Ask}
use Rattle.address_space.specs.declared.space.Space.{Space}
use Rattle.address_space.specs.Ports.{Port}
use Rattle.address_space.specs.Spaces.{space_tells}
use Rattle.arena_rules.specs.Rules.{Rules, Stop, Need, Asks, fits}
use Rattle.arena_rules.specs.Walks as walks
use Rattle.arena_rules.specs.Walks.{Walks}
use Rattle.arena_rules.specs.declared.said.Said.{Said}
use Rattle.arena_rules.specs.declared.said.Said.TheVariants as told
use Rattle.arena_growth.specs.FirstHeap.{SpaceAnswers, asked_ways}
use Rattle.serial_places.specs.Playing.{HoldWorld, world_answer, world_told, PlayedHold, told_first, played_hold}
use Rattle.serial_places.proofs.Playing.{same_asked, first_true}

-- a world with another address space
abbrev pub with_space : {K : Type 0} → HoldWorld K → Space K → HoldWorld K
with_space w space = record w { space = space }

-- the world gave this answer, and is what it is then
record IsAsked {K : Type 0} (port : Port K) (w : HoldWorld K) (n : Need) (s : Said) (z : Space K) : Type 0 where
  said : s ≡ world_answer port n w
  world : with_space w z ≡ world_told port n w
  tells : IsTrue (space_tells port z)

asked : {K : Type 0} (port : Port K) (t : Tunables) (w : HoldWorld K) (n : Need) (s : Said) (z : Space K) → IsTrue (space_tells port w.space) → IsTrue (fits t n s) →
    SpaceAnswers port w.space n s z → IsAsked port w n s z
asked port t w (Asks ask) (told.Asked other answer) z tells fit h =
    let A : Ask → Type 0 = λ x. IsAsked port w (Asks x) (told.Asked other answer) z in
    subst A (sym (same_asked ask other (first_true _ _ fit))) (record {
      said = ap (told.Asked other) (h.answered tells);
      world = ap (with_space w) (h.left tells);
      tells = h.tells tells;
    })
asked port t w n s z tells fit h = absurd h

abbrev asked_end : {K A : Type 0} → A → List Said → HoldWorld K → Option (PlayedHold K A)
asked_end x ss w = Some (record { result = x; said = ss; world = w })

-- a walk to an end, where the kernel tells
pub plays_asked : {K A : Type 0} (port : Port K) (number : ℕ) {t : Tunables} {r q : Rules A} {s z : Space K} {ss : List Said} (w : HoldWorld K) (x : A) →
    q ≡ Stop x → IsTrue (space_tells port s) → Walks t (asked_ways port) r s ss q z → played_hold port number r (with_space w s) ≡ asked_end x ss (with_space w z)
plays_asked port number w x e tells walks.here = rw e refl
plays_asked port number w x e tells (walks.idled i a) = absurd i
plays_asked port number w x e tells (walks.done h a) = absurd h
plays_asked port number {t = t} {s = s} {z = z} w x e tells (walks.told {n = n} {f = f} {s = said} {p = p} {ss = ss} fit h a) =
    let v : IsAsked port (with_space w s) n said p = asked port t (with_space w s) n said p tells fit h in
    let P : Said → Type 0 = λ k. option_map (told_first k) (played_hold port number (f k) (world_told port n (with_space w s))) ≡ asked_end x (said ∷ ss) (with_space w z) in
    subst P v.said
    (ap (option_map (told_first said)) (ap (played_hold port number (f said)) (sym v.world) ∙ plays_asked port number w x e v.tells a))

-- the kernel goes on telling
pub asked_tells : {K A : Type 0} (port : Port K) {t : Tunables} {r q : Rules A} {s z : Space K} {ss : List Said} (w : HoldWorld K) →
    IsTrue (space_tells port s) → Walks t (asked_ways port) r s ss q z → IsTrue (space_tells port z)
asked_tells port w tells walks.here = tells
asked_tells port w tells (walks.idled i a) = absurd i
asked_tells port w tells (walks.done h a) = absurd h
asked_tells port {t = t} {s = s} w tells (walks.told {n = n} {s = said} {p = p} fit h a) =
    let v : IsAsked port (with_space w s) n said p = asked port t (with_space w s) n said p tells fit h in asked_tells port w v.tells a
