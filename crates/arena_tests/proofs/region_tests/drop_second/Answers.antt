use Rattle.std.proofs.Common.{◌≡◌, [], ◌∷◌, Option, Some, None, sym, ap, ◌∙◌, refl}
use Rattle.arena_rules.specs.PlainArena.{Plain}
use Rattle.arena_rules.specs.Heaps.{end_before_heap, without_heap}
use Rattle.arena_rules.specs.declared.heap_end.HeapEnd.{HeapEnd}
use Rattle.heap_top.specs.Regions.{arena_of}
use Rattle.arena_tests.specs.HeapScenes.{free_rest, first_end, heap_again}
use Rattle.arena_tests.proofs.HeapScenes.{none_left, other_scene, placed_rest, scene_next, sound_again}
use Rattle.arena_tests.proofs.region_tests.drop_second.Goals as goal

same_end : (e f : HeapEnd) → let o : Option HeapEnd = Some e in o ≡ Some f → e ≡ f
same_end e f is = cc

pub end_before-requires : goal.end_before-requires
end_before-requires g c = other_scene c.args.heaps.now c.args.tiles.now free_rest (12288 ∷ []) c.requires placed_rest

pub drop_heap-requires-clause-heaps : goal.drop_heap-requires-clause-heaps
drop_heap-requires-clause-heaps g c = other_scene c.args.heaps.now c.args.tiles.now free_rest (12288 ∷ []) c.requires placed_rest

pub drop_heap-requires-clause-end : goal.drop_heap-requires-clause-end
drop_heap-requires-clause-end g c = sym c.end_before.ensures ∙ c.expect-end.ensures

pub returns : goal.returns
returns g c =
    let r = c.requires in
    let e = c.drop_heap.ensures in
    let old = arena_of c.args.heaps.now c.args.tiles.now.tiles heap_again.bins None in
    let end : c.expect-end.result ≡ first_end = same_end c.expect-end.result first_end (sym c.expect-end.ensures ∙ (c.end_before.ensures ∙ ap (λ (x : Plain). end_before_heap x) r.arena)) in
    let is = e.arena heap_again.bins None
    ∙ (ap (λ (h : HeapEnd). record (without_heap old h) { bins = heap_again.bins }) end
    ∙ ap (λ (x : Plain). record (without_heap (record x { bins = heap_again.bins }) first_end) { bins = heap_again.bins }) r.arena) in
    scene_next c.args.heaps.now c.drop_heap.new.self c.args.tiles.now c.drop_heap.new.tiles free_rest heap_again (12288 ∷ []) [] r sound_again refl is
    (none_left c.drop_heap.new.self.closed.items 12288 e.closed.0 (sym r.closed ∙ e.closed.1)) e.room e.top e.extent
