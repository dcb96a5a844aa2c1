use Rattle.std.proofs.Common.{◌≡◌, ◌<◌, length, ap, ◌∙◌}
use Rattle.serial_places.specs.Trays.{all_trays, seen_by_post, posted_tray}
use Rattle.serial_places.proofs.TrayLists.{all_reached, reached_within, all_read, all_written}
use Rattle.serial_places.proofs.trays.Trays.post.Goals as goal

pub returns-clause-told : goal.returns-clause-told
returns-clause-told c =
    let view : all_trays c.reach.new.reached.items ≡ c.args.self.now =
    all_reached c.args.self.now c.self.inside.reached.items c.reach.new.reached.items c.args.number c.self.view_is c.requires c.reach.ensures.items in
    let within : c.args.number < length c.reach.new.reached.items = reached_within c.self.inside.reached.items c.reach.new.reached.items c.args.number c.reach.ensures.items in
    c.post.ensures.told ∙ ap seen_by_post (all_read c.args.self.now c.reach.new.reached.items c.args.number c.index_mut.result.now view within c.index_mut.ensures.value)

pub returns-clause-trays : goal.returns-clause-trays
returns-clause-trays c =
    let view : all_trays c.reach.new.reached.items ≡ c.args.self.now =
    all_reached c.args.self.now c.self.inside.reached.items c.reach.new.reached.items c.args.number c.self.view_is c.requires c.reach.ensures.items in
    let within : c.args.number < length c.reach.new.reached.items = reached_within c.self.inside.reached.items c.reach.new.reached.items c.args.number c.reach.ensures.items in
    all_written c.args.self.now c.reach.new.reached.items c.args.number c.index_mut.result.now c.post.new.tray (posted_tray c.args.b) view within c.index_mut.ensures.value c.post.ensures.tray
