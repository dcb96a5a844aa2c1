use Rattle.std.proofs.Common.{◌≡◌, IfOk, map, sym, ap, ◌∙◌, subst}
use Rattle.chunk_tags.specs.declared.tiles.Chunk.{Chunk}
use Rattle.ordinary_bins.specs.Lists.{list_at}
use Rattle.arena_rules.specs.PlainArena.{bin_at}
use Rattle.arena_ground.specs.Grounds.{GroundView}
use Rattle.arena_ground.proofs.Bridges.{bin_is}
use Rattle.arena_ground.proofs.Reading.{addresses_back}
use Rattle.arena_ground.proofs.ground.Ground.bin.Goals as goal

pub returns : goal.returns
returns c =
    let ts = c.self.inside.tiles.tiles in
    let lists = c.self.inside.links.lists in
    let is : list_at c.args.index lists ≡ map (λ (d : Chunk). d.at) (bin_at c.args.self.now.arena c.args.index) =
    sym (addresses_back ts (list_at c.args.index lists))
    ∙ (ap (map (λ (d : Chunk). d.at)) (sym (bin_is ts lists c.args.index)) ∙ ap (λ (v : GroundView). map (λ (d : Chunk). d.at) (bin_at v.arena c.args.index)) c.self.view_is) in
    subst (λ xs. IfOk c.addresses.result (λ v. v.items ≡ xs)) is c.addresses.ensures
