use Rattle.std.proofs.Common.{[], None, ap, ◌∙◌, refl, arith}
use Rattle.std.specs.Prelude.{vec_capacity}
use Rattle.arena_rules.specs.PlainArena.{Plain}
use Rattle.arena_rules.specs.Heaps.{heap_shortened}
use Rattle.arena_rules.specs.Moves.{top_size}
use Rattle.arena_tests.specs.HeapScenes.{heap_again, shorter_heap}
use Rattle.arena_tests.proofs.HeapScenes.{other_scene, placed_again, scene_next, sound_shorter}
use Rattle.arena_tests.proofs.region_tests.shorten_first.Goals as goal

pub end_before-requires : goal.end_before-requires
end_before-requires g c = other_scene c.args.heaps.now c.args.tiles.now heap_again [] c.requires placed_again

pub shorten_heap-requires-clause-heaps : goal.shorten_heap-requires-clause-heaps
shorten_heap-requires-clause-heaps g c = other_scene c.args.heaps.now c.args.tiles.now heap_again [] c.requires placed_again

pub shorten_heap-requires-clause-left : goal.shorten_heap-requires-clause-left
shorten_heap-requires-clause-left g c = omega (arith, ap (λ (x : Plain). top_size x) c.requires.arena)

pub returns : goal.returns
returns g c =
    let e = c.shorten_heap.ensures in
    scene_next c.args.heaps.now c.shorten_heap.new.self c.args.tiles.now c.shorten_heap.new.tiles heap_again shorter_heap [] [] c.requires sound_shorter refl
    (e.arena heap_again.bins None ∙ ap (λ (x : Plain). heap_shortened x 4096) c.requires.arena)
    (ap (λ v. v.items) e.closed ∙ c.requires.closed) (omega (arith, ap vec_capacity e.closed)) e.top e.extent
