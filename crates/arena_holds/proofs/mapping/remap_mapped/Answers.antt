use Rattle.std.proofs.Common.{ℕ, ◌^◌, ◌<◌, subst}
use Rattle.mapped_chunks.specs.Mappings.{remap_length}
use Rattle.consolidate_trim.specs.Outside.{means}
use Rattle.arena_holds.specs.Places.{setting, standing}
use Rattle.arena_holds.proofs.Unmapped.{remaps_mapped, may_remap, remapped_return}
use Rattle.arena_holds.proofs.mapping.remap_mapped.Goals as goal

pub remap-asked-requires-clause-counted : goal.remap-asked-requires-clause-counted
remap-asked-requires-clause-counted g c = λ k l other within.
    may_remap g.met.P.Places.laws c.args.b (standing c.args.p.now c.args.space.now) c.dial_out-dials.new.self c.dial_out-dials.result (remap_length c.args.b c.args.nb)
    c.requires.mapped c.dial_out-dials.ensures.lent c.requires.served (subst (λ (n : ℕ). n < 2 ^ 64) c.map_place.ensures c.map_place.type_inv) within

pub dial_in-requires : goal.dial_in-requires
dial_in-requires g c = record {
  lent = remapped_return g.P.Places.ways g.P.Dial.Dials.dials g.K.Kernel.port c.args.p.now c.dial_out-dials.new.self c.dial_out-dials.result c.remap-asked.new.dials
      c.args.space.now c.remap-asked.new.space c.args.b (remap_length c.args.b c.args.nb) c.remap-asked.result c.dial_out-dials.ensures.lent c.requires.other c.remap-asked.ensures.remaps;
}

pub returns : goal.returns
returns g c = record {
  remaps = remaps_mapped (setting g.P.Places.ways (means g.P.Hold.FastPort.fast g.P.Hold.Dials.dials g.K.Kernel.port) g.P.Dial.Dials.dials) c.args.b c.args.nb
      (standing c.args.p.now c.args.space.now) c.dial_out-dials.new.self c.dial_in.new.self c.dial_out-dials.result c.remap-asked.new.dials c.remap-asked.new.space c.remap-asked.result
      c.requires.mapped c.requires.other c.dial_out-dials.ensures.lent c.remap-asked.ensures.remaps c.remap-asked.ensures.mapped c.remap-asked.ensures.fits c.dial_in.ensures.gave
      (λ within. may_remap g.met.P.Places.laws c.args.b (standing c.args.p.now c.args.space.now) c.dial_out-dials.new.self c.dial_out-dials.result (remap_length c.args.b c.args.nb)
      c.requires.mapped c.dial_out-dials.ensures.lent c.requires.served (subst (λ (n : ℕ). n < 2 ^ 64) c.map_place.ensures c.map_place.type_inv) within)
      (λ steps walk. c.dial_in.ensures.returned c.args.p.now c.dial_out-dials.result steps c.dial_out-dials.ensures.lent walk);
}
