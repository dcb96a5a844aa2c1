use Rattle.chunk_tags.specs.Pages.{mapping_length}
use Rattle.consolidate_trim.specs.Outside.{means}
use Rattle.arena_holds.specs.Places.{setting, standing}
use Rattle.arena_holds.proofs.Mappings.{mapped_return, finds_mapped, finds_unmapped, fills_new}
use Rattle.arena_holds.proofs.mapping.map_for.Goals as goal

pub dial_in-requires : goal.dial_in-requires
dial_in-requires g c = record {
  lent = mapped_return g.P.Places.ways g.P.Dial.Dials.dials g.K.Kernel.port c.args.p.now c.dial_out-dials.new.self c.dial_out-dials.result c.map-mapped.new.dials
      c.args.space.now c.map-mapped.new.space (mapping_length c.size_searched-size.result) c.map-mapped.result c.dial_out-dials.ensures.lent c.map-mapped.ensures.maps;
}

pub returns-in-Some : goal.returns-in-Some
returns-in-Some g c = λ t who cache.
    let maps = rw c.size_searched-size.ensures at c.in-Some.ensures.maps in
    finds_mapped (setting g.P.Places.ways (means g.P.Hold.FastPort.fast g.P.Hold.Dials.dials g.K.Kernel.port) g.P.Dial.Dials.dials) t who cache c.args.act.now c.in-Some.b c.block_mapped.result
    (standing c.args.p.now c.args.space.now) c.dial_out-dials.new.self c.dial_in.new.self c.dial_out-dials.result c.map-mapped.new.dials c.map-mapped.new.space
    g.met.P.Places.laws.same c.requires.act c.dial_out-dials.ensures.lent maps (fills_new c.args.act.now c.in-Some.b maps) c.block_mapped.ensures c.dial_in.ensures.gave
    (λ steps walk. c.dial_in.ensures.returned c.args.p.now c.dial_out-dials.result steps c.dial_out-dials.ensures.lent walk)

pub returns-in-None : goal.returns-in-None
returns-in-None g c = λ t who cache.
    let maps = rw c.size_searched-size.ensures at c.in-None.ensures.maps in
    finds_unmapped (setting g.P.Places.ways (means g.P.Hold.FastPort.fast g.P.Hold.Dials.dials g.K.Kernel.port) g.P.Dial.Dials.dials) t who cache c.args.act.now
    (standing c.args.p.now c.args.space.now) c.dial_out-dials.new.self c.dial_in.new.self c.dial_out-dials.result c.map-mapped.new.dials c.map-mapped.new.space
    g.met.P.Places.laws.same c.dial_out-dials.ensures.lent maps c.dial_in.ensures.gave
    (λ steps walk. c.dial_in.ensures.returned c.args.p.now c.dial_out-dials.result steps c.dial_out-dials.ensures.lent walk)
