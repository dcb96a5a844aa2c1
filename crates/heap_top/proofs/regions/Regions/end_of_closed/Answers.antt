use Rattle.std.proofs.Common.{◌≡◌, ◌+◌, ◌-◌, length, Some, refl, sym, ap, ◌∙◌, subst}
use Rattle.std.specs.Option.{IsSome}
use Rattle.chunk_tags.specs.Tiles.{tile_at, tile_before}
use Rattle.chunk_tags.specs.declared.tiles.Tile.{Tile}
use Rattle.chunk_image.specs.Rows.{tile_ending}
use Rattle.arena_rules.specs.Heaps.{free_part, heap_start}
use Rattle.arena_rules.specs.declared.heap_end.HeapEnd.{HeapEnd}
use Rattle.arena_rules.proofs.Lookups.{some_is}
use Rattle.heap_top.specs.Regions.{bare_arena}
use Rattle.heap_top.proofs.DropLaws.{IsClosedEnd, closed_end, first_has_closed}
use Rattle.heap_top.proofs.regions.Regions.end_of_closed.Goals as goal

pub last_of-length-requires : goal.last_of-length-requires
last_of-length-requires c =
    first_has_closed (bare_arena c.args.self.now c.args.tiles.now.tiles) c.args.self.now.closed.items c.requires.heaps.known.row c.requires.heaps.placed c.requires.first

pub ending_at-fence-requires-clause-tile : goal.ending_at-fence-requires-clause-tile
ending_at-fence-requires-clause-tile c =
    let a = bare_arena c.args.self.now c.args.tiles.now.tiles in
    let closed = c.args.self.now.closed.items in
    let len = c.last_of-length.result in
    let k : IsClosedEnd a closed len = closed_end a closed len c.requires.heaps.known.row c.requires.heaps.placed c.last_of-length.ensures c.requires.first in
    let at : c.heap_start.result + len ≡ heap_start a (length closed - 1) + len = ap (λ n. n + len) (c.heap_start.ensures ∙ ap (λ n. heap_start a (n - 1)) c.count_closed.ensures) in
    subst IsSome (sym (ap (λ n. tile_ending n c.args.tiles.now.tiles) at ∙ k.ending)) refl

pub free_before-before-requires-clause-tile : goal.free_before-before-requires-clause-tile
free_before-before-requires-clause-tile c =
    let a = bare_arena c.args.self.now c.args.tiles.now.tiles in
    let closed = c.args.self.now.closed.items in
    let len = c.last_of-length.result in
    let k : IsClosedEnd a closed len = closed_end a closed len c.requires.heaps.known.row c.requires.heaps.placed c.last_of-length.ensures c.requires.first in
    let at : c.heap_start.result + len ≡ heap_start a (length closed - 1) + len = ap (λ n. n + len) (c.heap_start.ensures ∙ ap (λ n. heap_start a (n - 1)) c.count_closed.ensures) in
    let same : k.fence ≡ c.ending_at-fence.result = some_is k.fence c.ending_at-fence.result (sym (ap (λ n. tile_ending n c.args.tiles.now.tiles) at ∙ k.ending) ∙ c.ending_at-fence.ensures) in
    subst (λ (f : Tile). IsSome (tile_at f.addr c.args.tiles.now.tiles)) same (subst IsSome (sym k.found) refl)

pub overflow_sub-result : goal.overflow_sub-result
overflow_sub-result c =
    let a = bare_arena c.args.self.now c.args.tiles.now.tiles in
    (closed_end a c.args.self.now.closed.items c.last_of-length.result c.requires.heaps.known.row c.requires.heaps.placed c.last_of-length.ensures c.requires.first).fits

pub returns : goal.returns
returns c =
    let a = bare_arena c.args.self.now c.args.tiles.now.tiles in
    let closed = c.args.self.now.closed.items in
    let len = c.last_of-length.result in
    let k : IsClosedEnd a closed len = closed_end a closed len c.requires.heaps.known.row c.requires.heaps.placed c.last_of-length.ensures c.requires.first in
    let at : c.heap_start.result + len ≡ heap_start a (length closed - 1) + len = ap (λ n. n + len) (c.heap_start.ensures ∙ ap (λ n. heap_start a (n - 1)) c.count_closed.ensures) in
    let same : k.fence ≡ c.ending_at-fence.result = some_is k.fence c.ending_at-fence.result (sym (ap (λ n. tile_ending n c.args.tiles.now.tiles) at ∙ k.ending) ∙ c.ending_at-fence.ensures) in
    let room = a.windows.heap_max - len in
    let with : Tile → HeapEnd = λ f. record { fence = f; before = free_part (tile_before f.addr c.args.tiles.now.tiles); room = room } in
    k.is
    ∙ (ap (λ f. Some (with f)) same
    ∙ ap (λ o. Some (record { fence = c.ending_at-fence.result; before = o; room = room })) (sym c.free_before-before.ensures))
