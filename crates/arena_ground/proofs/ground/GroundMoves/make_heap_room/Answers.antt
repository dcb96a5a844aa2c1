use Rattle.std.proofs.Common.{◌≡◌, ◌+◌, length, sym, ap, ◌∙◌, subst, refl, arith}
use Rattle.part_words.specs.Extents.{IsWithinPart}
use Rattle.arena_rules.specs.Heaps.{heap_start, last_heap}
use Rattle.arena_ground.specs.Grounds.{GroundView, arena_with}
use Rattle.arena_ground.proofs.Heaping.{heap_within}
use Rattle.arena_ground.proofs.Opened.{heap_missing}
use Rattle.arena_ground.proofs.ground.GroundMoves.make_heap_room.Goals as goal

pub open_words-requires-clause-within : goal.open_words-requires-clause-within
open_words-requires-clause-within c =
    let a = arena_with c.self.inside.regions c.self.inside.tiles c.self.inside.links c.self.inside.last in
    let closed = c.self.inside.regions.closed.items in
    let other = rw (← c.self.view_is) at c.requires.other in
    let len = rw (← c.self.view_is) at c.requires.length in
    let start : heap_start a (length closed + 1) + 0 ≡ c.heap_start-at.result = omega (arith, c.heap_start-at.ensures, ap (λ n. heap_start a (n + 1)) (c.from-heap.ensures ∙ c.last_heap.ensures)) in
    subst (λ (v : GroundView). IsWithinPart v.extent c.heap_start-at.result c.args.len) c.self.view_is
    (subst (λ at. IsWithinPart c.self.inside.tiles.extent at c.args.len) start
    (heap_within _ _ _ _ (length closed + 1) 0 c.args.len c.self.invariant.ground other refl len.whole (omega (arith, len.some)) (omega (arith, len.window))))

pub open_words-requires-clause-some : goal.open_words-requires-clause-some
open_words-requires-clause-some c = omega (arith, c.requires.length.some)

pub returns-clause-full : goal.returns-clause-full
returns-clause-full c =
    let a = arena_with c.self.inside.regions c.self.inside.tiles c.self.inside.links c.self.inside.last in
    let placed = c.self.invariant.ground.placed.other (rw (← c.self.view_is) at c.requires.other) in
    let start : c.heap_start-at.result ≡ heap_start a (last_heap a + 1) = c.heap_start-at.ensures ∙ ap (λ n. heap_start a (n + 1)) (c.from-heap.ensures ∙ (c.last_heap.ensures ∙ sym placed.top)) in
    let at : c.heap_start-at.result ≡ heap_start c.args.self.now.arena (last_heap c.args.self.now.arena + 1) = start ∙ ap (λ (v : GroundView). heap_start v.arena (last_heap v.arena + 1)) c.self.view_is in
    heap_missing c.open_words.result _ _ _ c.args.self.now.arena _ c.args.len at c.open_words.ensures.arena c.open_words.ensures.full
