use Rattle.consolidate_trim.specs.Outside.{means}
use Rattle.arena_holds.specs.Places.{setting, standing}
use Rattle.arena_holds.proofs.Unmapped.{unmaps_mapped, may_unmap, unmapped_return}
use Rattle.arena_holds.proofs.mapping.unmap_mapped.Goals as goal

pub unmap-requires-clause-counted : goal.unmap-requires-clause-counted
unmap-requires-clause-counted g c = λ k l.
    may_unmap g.met.P.Places.laws c.args.b (standing c.args.p.now c.args.space.now) c.dial_out-dials.new.self c.dial_out-dials.result c.requires.mapped c.dial_out-dials.ensures.lent c.requires.served

pub dial_in-requires : goal.dial_in-requires
dial_in-requires g c = record {
  lent = unmapped_return g.P.Places.ways g.P.Dial.Dials.dials g.K.Kernel.port c.args.p.now c.dial_out-dials.new.self c.dial_out-dials.result c.unmap.new.dials
      c.args.space.now c.unmap.new.space c.args.b c.dial_out-dials.ensures.lent c.unmap.ensures;
}

pub returns : goal.returns
returns g c = record {
  unmaps = unmaps_mapped (setting g.P.Places.ways (means g.P.Hold.FastPort.fast g.P.Hold.Dials.dials g.K.Kernel.port) g.P.Dial.Dials.dials) c.args.b
      (standing c.args.p.now c.args.space.now) c.dial_out-dials.new.self c.dial_in.new.self c.dial_out-dials.result c.unmap.new.dials c.unmap.new.space
      c.requires.mapped c.dial_out-dials.ensures.lent c.unmap.ensures c.dial_in.ensures.gave
      (λ steps walk. c.dial_in.ensures.returned c.args.p.now c.dial_out-dials.result steps c.dial_out-dials.ensures.lent walk);
}
