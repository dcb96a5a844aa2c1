use Rattle.world_view.proofs.Tables.{found_more}
use Rattle.world_view.proofs.table.PlaceList.put.Goals as goal

pub returns-clause-ok : goal.returns-clause-ok
returns-clause-ok c = rw (c.in_ok-push.ensures.items, c.self.view_is) (found_more c.args.self.now (c.args.at, c.args.place))
