use Rattle.consolidate_trim.specs.Outside.{means}
use Rattle.arena_holds.specs.Places.{setting, standing}
use Rattle.arena_holds.proofs.Unmapped.{frees_mapped, may_unmap}
use Rattle.arena_holds.proofs.mapping.free_mapped.Goals as goal

pub unmap_freed-requires-clause-counted : goal.unmap_freed-requires-clause-counted
unmap_freed-requires-clause-counted g c = λ k l.
    may_unmap g.met.P.Places.laws c.args.b (standing c.args.p.now c.args.space.now) c.dial_out-dials.new.self c.dial_out-dials.result c.requires.mapped c.dial_out-dials.ensures.lent c.requires.served

pub returns : goal.returns
returns g c = record {
  frees = frees_mapped (setting g.P.Places.ways (means g.P.Hold.FastPort.fast g.P.Hold.Dials.dials g.K.Kernel.port) g.P.Dial.Dials.dials) c.args.b
      (standing c.args.p.now c.args.space.now) c.dial_out-dials.new.self c.dial_in.new.self c.dial_out-dials.result c.unmap_freed.new.dials c.unmap_freed.new.space
      c.requires.mapped c.dial_out-dials.ensures.lent c.unmap_freed.ensures c.dial_in.ensures.gave
      (λ steps walk. c.dial_in.ensures.returned c.args.p.now c.dial_out-dials.result steps c.dial_out-dials.ensures.lent walk);
}
