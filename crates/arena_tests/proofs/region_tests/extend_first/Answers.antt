use Rattle.std.proofs.Common.{[], None, ap, ◌∙◌, refl, arith}
use Rattle.std.specs.Prelude.{◌≤◌, vec_capacity}
use Rattle.arena_rules.specs.PlainArena.{Plain, empty_bins}
use Rattle.arena_rules.specs.Heaps.{heap_extended}
use Rattle.arena_tests.specs.HeapScenes.{one_heap, longer_heap}
use Rattle.arena_tests.proofs.HeapScenes.{extension_range, other_scene, placed_heap, scene_next, sound_longer}
use Rattle.arena_tests.proofs.region_tests.extend_first.Goals as goal

pub extend_heap-requires-clause-heaps : goal.extend_heap-requires-clause-heaps
extend_heap-requires-clause-heaps c = other_scene c.args.heaps.now c.args.tiles.now one_heap [] c.requires placed_heap

pub extend_heap-requires-clause-range : goal.extend_heap-requires-clause-range
extend_heap-requires-clause-range c = extension_range c.args.heaps.now c.args.tiles.now c.requires

pub returns : goal.returns
returns c =
    let e = c.extend_heap.ensures in
    scene_next c.args.heaps.now c.extend_heap.new.self c.args.tiles.now c.extend_heap.new.tiles one_heap longer_heap [] [] c.requires sound_longer refl
    (e.arena one_heap.bins None ∙ ap (λ (x : Plain). heap_extended x 4096) c.requires.arena)
    (ap (λ v. v.items) e.closed ∙ c.requires.closed) (omega (arith, ap vec_capacity e.closed)) e.top e.extent
