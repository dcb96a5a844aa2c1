use Rattle.own_blocks.proofs.Supplies.{finds_at, short_at}
use Rattle.own_blocks.proofs.own_cache.OwnCache.search.Goals as goal

pub returns-clause-finds : goal.returns-clause-finds
returns-clause-finds g c =
    finds_at _ _ _ c.args.who.now.thread c.args.bytes c.args.again c.args.act.now c.args.self.now c.self.inside.cache _ _ _ c.search.result c.self.view_is
    c.search.ensures.finds

pub returns-clause-left : goal.returns-clause-left
returns-clause-left g c =
    short_at _ _ _ c.args.who.now.thread c.args.bytes c.args.again c.args.act.now c.args.self.now c.self.inside.cache _ _ c.search.result c.self.view_is
    c.search.ensures.left
