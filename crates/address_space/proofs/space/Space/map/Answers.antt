use Rattle.std.proofs.Common.{◌≡◌, ◌%◌, sym}
use Rattle.address_space.specs.Spaces.{map_place}
use Rattle.address_space.proofs.NextPlace.{granted_mapping}
use Rattle.address_space.proofs.space.Space.map.Goals as goal

pub returns-in-Granted : goal.returns-in-Granted
returns-in-Granted g c =
    let place = c.next_place-addr.ensures.place in
    let page : map_place c.args.self.now % 4096 ≡ 0 = rw (← place) c.next_place-addr.ensures.page in
    let step = rw place at c.in-Granted.ensures in
    rw (place, c.add.ensures)
    (granted_mapping g.K.Kernel.port c.args.self.now c.put.new.self c.args.len c.next_place-addr.ensures.thread page c.passes-passes.result (sym c.passes-passes.ensures) step)
