use Rattle.std.proofs.Common.{◌≡◌, ◌+◌, ◌≤◌, length, sym, ap, ◌∙◌, subst}
use Rattle.part_words.specs.Extents.{IsWithinPart}
use Rattle.arena_rules.specs.Heaps.{heap_start, last_length}
use Rattle.arena_rules.specs.Moves.{top_end}
use Rattle.arena_ground.specs.Grounds.{GroundView, arena_with}
use Rattle.arena_ground.proofs.Heaping.{extension_at, extension_room, heap_within}
use Rattle.arena_ground.proofs.Opened.{growth_missing}
use Rattle.arena_ground.proofs.ground.GroundMoves.make_extension_room.Goals as goal

pub open_words-requires-clause-within : goal.open_words-requires-clause-within
open_words-requires-clause-within c =
    let a = arena_with c.self.inside.regions c.self.inside.tiles c.self.inside.links c.self.inside.last in
    let closed = c.self.inside.regions.closed.items in
    let other = rw (← c.self.view_is) at c.requires.other in
    let placed = c.self.invariant.ground.placed.other other in
    let start : c.heap_start.result ≡ heap_start a (length closed) = c.heap_start.ensures ∙ ap (heap_start a) (c.from-heap.ensures ∙ c.last_heap.ensures) in
    let size : c.last_length.result ≡ last_length a = c.last_length.ensures in
    subst (λ (v : GroundView). IsWithinPart v.extent (c.heap_start.result + c.last_length.result) c.args.growth) c.self.view_is
    (subst (λ at. IsWithinPart c.self.inside.tiles.extent at c.args.growth) (λ i. sym start i + sym size i)
    (heap_within _ _ _ _ (length closed) (last_length a) c.args.growth c.self.invariant.ground other placed.last.whole c.requires.pages c.requires.some (subst (λ (v : GroundView). last_length v.arena + c.args.growth ≤ v.arena.windows.heap_max) (sym c.self.view_is) c.requires.window)))

pub returns-clause-room : goal.returns-clause-room
returns-clause-room c =
    let a = arena_with c.self.inside.regions c.self.inside.tiles c.self.inside.links c.self.inside.last in
    let closed = c.self.inside.regions.closed.items in
    let placed = c.self.invariant.ground.placed.other (rw (← c.self.view_is) at c.requires.other) in
    let start : c.heap_start.result ≡ heap_start a (length closed) = c.heap_start.ensures ∙ ap (heap_start a) (c.from-heap.ensures ∙ c.last_heap.ensures) in
    let size : c.last_length.result ≡ last_length a = c.last_length.ensures in
    let at : c.heap_start.result + c.last_length.result ≡ top_end c.args.self.now.arena = (λ i. start i + size i) ∙ (extension_at a closed placed ∙ ap (λ (v : GroundView). top_end v.arena) c.self.view_is) in
    extension_room c.open_words.result _ c.args.self.now.arena _ _ c.args.growth at c.open_words.ensures.arena c.requires.some c.requires.pages c.requires.window c.open_words.ensures.room

pub returns-clause-full : goal.returns-clause-full
returns-clause-full c =
    let a = arena_with c.self.inside.regions c.self.inside.tiles c.self.inside.links c.self.inside.last in
    let closed = c.self.inside.regions.closed.items in
    let placed = c.self.invariant.ground.placed.other (rw (← c.self.view_is) at c.requires.other) in
    let start : c.heap_start.result ≡ heap_start a (length closed) = c.heap_start.ensures ∙ ap (heap_start a) (c.from-heap.ensures ∙ c.last_heap.ensures) in
    let size : c.last_length.result ≡ last_length a = c.last_length.ensures in
    let at : c.heap_start.result + c.last_length.result ≡ top_end c.args.self.now.arena = (λ i. start i + size i) ∙ (extension_at a closed placed ∙ ap (λ (v : GroundView). top_end v.arena) c.self.view_is) in
    growth_missing c.open_words.result _ _ _ c.args.self.now.arena _ c.args.growth at c.open_words.ensures.arena c.open_words.ensures.full
