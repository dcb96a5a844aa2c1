use Rattle.std.proofs.Common.{Some, None, sym, ap, ◌∙◌}
use Rattle.chunk_tags.specs.declared.tiles.Chunk.{Chunk}
use Rattle.ordinary_bins.specs.Lists.{list_at}
use Rattle.ordinary_bins.proofs.ListLaws.{last_listed}
use Rattle.arena_ground.specs.Grounds.{tile_chunk}
use Rattle.arena_ground.proofs.Bridges.{oldest_at}
use Rattle.arena_ground.proofs.steps.oldest_in.Goals as goal

pub chunk_of-requires : goal.chunk_of-requires
chunk_of-requires c = c.requires.tiles.each _ (last_listed c.args.bin c.args.links.now.lists _ (sym c.in-Some.ensures))

pub returns-in-None : goal.returns-in-None
returns-in-None c = ap (λ o. elim o [ None ↦ None | Some n ↦ Some (tile_chunk c.args.tiles.now.tiles n) ]) c.in-None.ensures ∙ sym (oldest_at c.args.tiles.now.tiles (list_at c.args.bin c.args.links.now.lists))

pub returns-in-Some : goal.returns-in-Some
returns-in-Some c =
    ap (λ (d : Chunk). Some d) c.chunk_of.ensures
    ∙ (ap (λ o. elim o [ None ↦ None | Some n ↦ Some (tile_chunk c.args.tiles.now.tiles n) ]) c.in-Some.ensures ∙ sym (oldest_at c.args.tiles.now.tiles (list_at c.args.bin c.args.links.now.lists)))
