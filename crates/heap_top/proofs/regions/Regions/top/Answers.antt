use Rattle.std.proofs.Common.{refl, sym, ◌∙◌, subst}
use Rattle.std.specs.Option.{IsSome}
use Rattle.chunk_image.specs.Rows.{IsRoom}
use Rattle.arena_rules.proofs.Rows.{addr_at}
use Rattle.heap_top.proofs.TopLaws.{top_read}
use Rattle.heap_top.proofs.regions.Regions.top.Goals as goal

pub tile-requires : goal.tile-requires
tile-requires c = subst IsSome (sym (top_read _ _ _ c.requires c.in-Some.is).found) refl

pub returns-in-Some-clause-top : goal.returns-in-Some-clause-top
returns-in-Some-clause-top c =
    let t = top_read _ _ _ c.requires c.in-Some.is in
    sym c.tile.ensures.tile ∙ (t.found ∙ sym t.top)

pub returns-in-Some-clause-room : goal.returns-in-Some-clause-room
returns-in-Some-clause-room c =
    subst (λ at. IsRoom c.args.tiles.now.extent at c.tile.result.size) (sym (addr_at _ _ _ c.tile.ensures.tile)) c.tile.ensures.room

pub returns-in-Some-clause-fits : goal.returns-in-Some-clause-fits
returns-in-Some-clause-fits c = c.tile.ensures.fits
