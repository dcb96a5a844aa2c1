-- A walk over a plain world whose kernel tells is what the world plays; other crates may cite this file.
use Rattle.std.proofs.Common.{◌≡◌, ℕ, Bool, true, false, ◌&&◌, IsTrue, List, ◌∷◌, Option, Some, refl, sym, ap, ◌∙◌, subst, arith}
use Rattle.std.specs.Option.{option_map}
use Rattle.std.proofs.lemmas.Bool.Decides.{nat_tests}
use Rattle.chunk_tags.specs.Dials.{Dial, MmapThreshold, TrimThreshold, MappedCount}
use Rattle.chunk_tags.specs.declared.tunables.Tunables.{Tunables}
use Rattle.address_space.specs.declared.space.Space.{Space}
use Rattle.address_space.specs.declared.asks.Ask.{Ask}
use Rattle.address_space.specs.declared.asks.Ask.TheVariants.{Break, Piece, NewHeap, GrowHeap}
use Rattle.address_space.specs.declared.asks.Answer.{Answer}
use Rattle.address_space.specs.declared.asks.Answer.TheVariants.{Granted, Refused}
use Rattle.address_space.specs.Ports.{Port}
use Rattle.address_space.specs.Spaces.{space_tells, granted_place, place_answer, map_ask, map_place}
use Rattle.fast_bins.specs.PlainBins.{FastState, state_of}
use Rattle.mapped_chunks.specs.DialPorts.{Reads as reading}
use Rattle.mapped_chunks.specs.PlainDials.{DialTells}
use Rattle.mapped_chunks.specs.declared.plain.DialState.{DialState}
use Rattle.mapped_chunks.specs.declared.plain.PlainDials.{PlainDials}
use Rattle.arena_rules.specs.declared.said.Said.{Said}
use Rattle.arena_rules.specs.declared.said.Said.TheVariants as told
use Rattle.arena_rules.specs.Rules.{Rules, Stop, Need, Flagged, Pops, Owns, Rooms, Asks, Maps, Reads, Deed, Clears, Gathers, Pushes, Stashes, Draws, Gives, Counts, fits, same_ask}
use Rattle.arena_rules.specs.Walks as walks
use Rattle.arena_rules.specs.Walks.{Walks}
use Rattle.consolidate_trim.specs.Outside.{Outside, AnswerGoes, DeedGoes, ways}
use Rattle.serial_places.specs.Playing.{HoldWorld, PlainPort, plain_means, world_of, word_of, world_answer, world_told, world_done, PlayedHold, told_first, played_hold}

-- the world gave this answer, and is what it is then
pub record Answered {K : Type 0} (port : Port K) (o : Outside PlainPort K) (n : Need) (s : Said) (p : Outside PlainPort K) : Type 0 where
  pub said : s ≡ world_answer port n (world_of o)
  pub world : world_of p ≡ world_told port n (world_of o)
  pub tells : IsTrue (space_tells port p.space)

still_tells : {K : Type 0} (port : Port K) (p q : Outside PlainPort K) → p ≡ q → IsTrue (space_tells port q.space) → IsTrue (space_tells port p.space)
still_tells port p q e t = subst (λ x. IsTrue (space_tells port x.space)) (sym e) t

-- other bins or other words alone
bins_world : {K : Type 0} (o p : Outside PlainPort K) (s : FastState) → p ≡ record o { port = p.port } → state_of p.port.bins ≡ s →
    p.port.dials ≡ o.port.dials → world_of p ≡ record (world_of o) { bins = s }
bins_world {K = K} o p s others e d =
    let f : FastState → PlainDials → HoldWorld K = λ b w. record { bins = b; dials = w.state; cache = o.cache; space = o.space } in
    ap world_of others ∙ (ap (λ b. f b p.port.dials) e ∙ ap (λ w. f s w) d)

words_world : {K : Type 0} (o p : Outside PlainPort K) (s : DialState) → p ≡ record o { port = p.port } → p.port.bins ≡ o.port.bins →
    p.port.dials ≡ record { state = s } → world_of p ≡ record (world_of o) { dials = s }
words_world {K = K} o p s others e d =
    let f : FastState → PlainDials → HoldWorld K = λ b w. record { bins = b; dials = w.state; cache = o.cache; space = o.space } in
    ap world_of others ∙ (ap (λ b. f (state_of b) p.port.dials) e ∙ ap (λ w. f (state_of o.port.bins) w) d)

space_world : {K : Type 0} (o p : Outside PlainPort K) (s : Space K) → p ≡ record o { space = p.space } → p.space ≡ s →
    world_of p ≡ record (world_of o) { space = s }
space_world o p s others e = ap world_of others ∙ ap (λ x. record (world_of o) { space = x }) e

word_told : (which : Dial) (n : ℕ) (d : DialState) → DialTells d (reading which n) → n ≡ word_of which d
word_told MmapThreshold n d h = h
word_told TrimThreshold n d h = h
word_told MappedCount n d h = h

pub same_asked : (x y : Ask) → IsTrue (same_ask x y) → x ≡ y
same_asked (Break a b) (Break c d) h = let e : a ≡ c = grind (arith, nat_tests) in let f : b ≡ d = grind (arith, nat_tests) in cc
same_asked (Piece a b) (Piece c d) h = let e : a ≡ c = grind (arith, nat_tests) in let f : b ≡ d = grind (arith, nat_tests) in cc
same_asked (NewHeap a b c) (NewHeap d e f) h =
    let x : a ≡ d = grind (arith, nat_tests) in let y : b ≡ e = grind (arith, nat_tests) in let z : c ≡ f = grind (arith, nat_tests) in cc
same_asked (GrowHeap a b c d) (GrowHeap e f g i) h =
    let x : a ≡ e = grind (arith, nat_tests) in let y : b ≡ f = grind (arith, nat_tests) in
    let z : c ≡ g = grind (arith, nat_tests) in let w : d ≡ i = grind (arith, nat_tests) in cc
same_asked x y h = absurd cc

pub first_true : (x y : Bool) → IsTrue (x && y) → IsTrue x
first_true true y h = refl
first_true false y h = absurd cc

granted_answer : (at : ℕ) (a : Answer) → a ≡ place_answer (granted_place at a)
granted_answer at Granted = refl
granted_answer at Refused = refl

answered : {K : Type 0} (port : Port K) (t : Tunables) (o p : Outside PlainPort K) (n : Need) (s : Said) → IsTrue (space_tells port o.space) →
    IsTrue (fits t n s) → AnswerGoes (plain_means port) o n s p → Answered port o n s p
answered port t o p Flagged (told.Flag b) tells fit h = record {
  said = ap told.Flag h.did.step.0.0;
  world = bins_world o p (state_of o.port.bins) h.others h.did.step.0.1 h.did.step.1;
  tells = still_tells port p (record o { port = p.port }) h.others tells;
}
answered port t o p (Pops bin) (told.Popped at) tells fit h = record {
  said = ap told.Popped h.did.step.0.0;
  world = bins_world o p _ h.others h.did.step.0.1 h.did.step.1;
  tells = still_tells port p (record o { port = p.port }) h.others tells;
}
answered port t o p (Owns bin) (told.Own at) tells fit h = record {
  said = ap told.Own h.did.step.0.0;
  world = bins_world o p _ h.others h.did.step.0.1 h.did.step.1;
  tells = still_tells port p (record o { port = p.port }) h.others tells;
}
answered port t o p (Rooms size) (told.Room b) tells fit h = record {
  said = ap told.Room h.told;
  world = ap world_of h.others;
  tells = still_tells port p o h.others tells;
}
answered port t o p (Asks ask) (told.Asked asked answer) tells fit h =
    let e : ask ≡ asked = same_asked ask asked (first_true (same_ask ask asked) _ fit) in
    let A : Ask → Type 0 = λ x. Answered port o (Asks x) (told.Asked asked answer) p in
    subst A (sym e) (record {
      said = ap (told.Asked asked) (h.asks.answered tells);
      world = space_world o p _ h.others (h.asks.left tells);
      tells = h.asks.tells tells;
    })
answered port t o p (Maps len) (told.Asked asked answer) tells fit h = record {
  said = ap (λ x. told.Asked x answer) h.place ∙ ap (told.Asked (map_ask o.space len)) (granted_answer (map_place o.space) answer ∙ ap place_answer (h.maps.answered tells));
  world = space_world o p _ h.others (h.maps.left tells);
  tells = h.maps.tells tells;
}
answered port t o p (Reads which) (told.Dial n) tells fit h = record {
  said = ap told.Dial (word_told which n o.port.dials.state h.step.0.0);
  world = words_world o p o.port.dials.state h.others h.step.1 h.step.0.1;
  tells = still_tells port p (record o { port = p.port }) h.others tells;
}
answered port t o p n s tells fit h = absurd h

-- the world after a deed
pub record Done {K : Type 0} (port : Port K) (number : ℕ) (o : Outside PlainPort K) (d : Deed) (p : Outside PlainPort K) : Type 0 where
  pub world : world_of p ≡ world_done port number d (world_of o)
  pub tells : IsTrue (space_tells port p.space)

done : {K : Type 0} (port : Port K) (number : ℕ) (o p : Outside PlainPort K) (d : Deed) → IsTrue (space_tells port o.space) →
    DeedGoes (plain_means port) number o d p → Done port number o d p
done port number o p Clears tells h = record {
  world = bins_world o p _ h.others h.did.step.0.1 h.did.step.1;
  tells = still_tells port p (record o { port = p.port }) h.others tells;
}
done port number o p (Gathers bin) tells h = record {
  world = bins_world o p _ h.others h.did.step.0.1 h.did.step.1;
  tells = still_tells port p (record o { port = p.port }) h.others tells;
}
done port number o p (Pushes bin at) tells h = record {
  world = bins_world o p _ h.others h.did.step.0.1 h.did.step.1;
  tells = still_tells port p (record o { port = p.port }) h.others tells;
}
done port number o p (Stashes c) tells h = record { world = ap world_of h; tells = still_tells port p _ h tells }
done port number o p (Draws size) tells h = record { world = ap world_of h; tells = still_tells port p _ h tells }
done port number o p (Gives back) tells h = record {
  world = space_world o p _ h.others (h.gives.others ∙ ap (λ k. record o.space { kernel = k }) (h.gives.kernel.left tells));
  tells = h.gives.kernel.tells tells;
}
done port number o p (Counts len) tells h = record {
  world = words_world o p _ h.others h.step.1 h.step.0.1;
  tells = still_tells port p (record o { port = p.port }) h.others tells;
}

abbrev ended : {K A : Type 0} → A → List Said → Outside PlainPort K → Option (PlayedHold K A)
ended x ss z = Some (record { result = x; said = ss; world = world_of z })

-- a walk to an end, where the kernel tells
pub plays : {K A : Type 0} (port : Port K) (number : ℕ) {t : Tunables} {r q : Rules A} {o z : Outside PlainPort K} {ss : List Said} (x : A) →
    q ≡ Stop x → IsTrue (space_tells port o.space) → Walks t (ways (plain_means port) number) r o ss q z →
    played_hold port number r (world_of o) ≡ ended x ss z
plays port number x e tells walks.here = rw e refl
plays port number {r = r} {o = o} x e tells (walks.idled {p = p} i a) =
    let w : world_of p ≡ world_of o = bins_world o p (state_of o.port.bins) i.others i.idles.idle.0 i.idles.idle.1 in
    ap (played_hold port number r) (sym w) ∙ plays port number x e (still_tells port p (record o { port = p.port }) i.others tells) a
plays port number {o = o} x e tells (walks.done {d = d} {r = r} {p = p} h a) =
    let w : Done port number o d p = done port number o p d tells h in
    ap (played_hold port number r) (sym w.world) ∙ plays port number x e w.tells a
plays {A = A} port number {t = t} {o = o} {z = z} x e tells (walks.told {n = n} {f = f} {s = s} {p = p} {ss = ss} fit h a) =
    let w : Answered port o n s p = answered port t o p n s tells fit h in
    let P : Said → Type 0 = λ k. option_map (told_first k) (played_hold port number (f k) (world_told port n (world_of o))) ≡ ended x (s ∷ ss) z in
    subst P w.said
    (ap (option_map (told_first s)) (ap (played_hold port number (f s)) (sym w.world) ∙ plays port number x e w.tells a))

-- the kernel goes on telling
pub tells_after : {K A : Type 0} (port : Port K) (number : ℕ) {t : Tunables} {r q : Rules A} {o z : Outside PlainPort K} {ss : List Said} →
    IsTrue (space_tells port o.space) → Walks t (ways (plain_means port) number) r o ss q z → IsTrue (space_tells port z.space)
tells_after port number tells walks.here = tells
tells_after port number {o = o} tells (walks.idled {p = p} i a) =
    tells_after port number (still_tells port p (record o { port = p.port }) i.others tells) a
tells_after port number {o = o} tells (walks.done {d = d} {p = p} h a) =
    let w : Done port number o d p = done port number o p d tells h in tells_after port number w.tells a
tells_after port number {t = t} {o = o} tells (walks.told {n = n} {s = s} {p = p} fit h a) =
    let w : Answered port o n s p = answered port t o p n s tells fit h in tells_after port number w.tells a
