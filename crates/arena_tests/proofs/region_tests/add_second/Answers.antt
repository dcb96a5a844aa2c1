use Rattle.std.proofs.Common.{◌++◌, [], ◌∷◌, None, ap, ◌∙◌, refl}
use Rattle.arena_rules.specs.PlainArena.{Plain}
use Rattle.arena_rules.specs.Heaps.{heap_added, last_length}
use Rattle.heap_top.specs.Regions.{bare_arena}
use Rattle.arena_tests.specs.HeapScenes.{longer_heap, two_heaps}
use Rattle.arena_tests.proofs.HeapScenes.{new_range, other_scene, placed_longer, scene_next, sound_heaps}
use Rattle.arena_tests.proofs.region_tests.add_second.Goals as goal

pub add_heap-requires-clause-heaps : goal.add_heap-requires-clause-heaps
add_heap-requires-clause-heaps c = other_scene c.args.heaps.now c.args.tiles.now longer_heap [] c.requires placed_longer

pub add_heap-requires-clause-range : goal.add_heap-requires-clause-range
add_heap-requires-clause-range c = new_range c.args.heaps.now c.args.tiles.now c.requires

pub returns : goal.returns
returns c =
    let e = c.add_heap.ensures in
    let closed = e.closed ∙ (ap (λ xs. xs ++ last_length (bare_arena c.args.heaps.now c.args.tiles.now.tiles) ∷ []) c.requires.closed ∙ ap (λ (x : Plain). last_length x ∷ []) c.requires.arena) in
    scene_next c.args.heaps.now c.add_heap.new.self c.args.tiles.now c.add_heap.new.tiles longer_heap two_heaps [] (12288 ∷ []) c.requires sound_heaps refl
    (e.arena longer_heap.bins None ∙ ap (λ (x : Plain). heap_added x 8192) c.requires.arena)
    closed e.room e.top e.extent
