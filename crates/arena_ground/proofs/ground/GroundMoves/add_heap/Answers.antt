use Rattle.std.proofs.Common.{ap, ◌∙◌, refl, sym}
use Rattle.arena_rules.specs.Heaps.{heap_added}
use Rattle.arena_rules.specs.PlainArena.{Plain}
use Rattle.arena_ground.specs.Grounds.{GroundView, bins_at}
use Rattle.arena_ground.proofs.Firsts.{still}
use Rattle.arena_ground.proofs.Keeping.{held}
use Rattle.arena_ground.proofs.Heaping.{gains_seen, added_done, added_gains}
use Rattle.arena_ground.proofs.ground.GroundMoves.add_heap.Goals as goal

pub invariant_of-self : goal.invariant_of-self
invariant_of-self c =
    let g = held _ _ _ _ _ c.self.invariant.ground c.self.view_is c.requires.sound in
    still (added_done _ c.add_heap.new.self _ _ _ _ c.args.len g (rw (← c.self.view_is) at c.requires.other) (rw (← c.self.view_is) at c.requires.room)
    (record { arena = c.add_heap.ensures.arena (bins_at c.self.inside.tiles.tiles c.self.inside.links.lists) c.self.inside.last; top = c.add_heap.ensures.top; extent = c.add_heap.ensures.extent; links = refl; room = c.add_heap.ensures.room }) c.add_heap.ensures.closed) (sym (ap (λ (x : Plain). x.bins) (c.add_heap.ensures.arena (bins_at c.self.inside.tiles.tiles c.self.inside.links.lists) c.self.inside.last))) c.self.invariant.firsts

pub returns-clause-arena : goal.returns-clause-arena
returns-clause-arena c =
    let g = held _ _ _ _ _ c.self.invariant.ground c.self.view_is c.requires.sound in
    (added_done _ c.add_heap.new.self _ _ _ _ c.args.len g (rw (← c.self.view_is) at c.requires.other) (rw (← c.self.view_is) at c.requires.room)
    (record { arena = c.add_heap.ensures.arena (bins_at c.self.inside.tiles.tiles c.self.inside.links.lists) c.self.inside.last; top = c.add_heap.ensures.top; extent = c.add_heap.ensures.extent; links = refl; room = c.add_heap.ensures.room }) c.add_heap.ensures.closed).is
    ∙ ap (λ (v : GroundView). heap_added v.arena c.args.len) c.self.view_is

pub returns-clause-gains : goal.returns-clause-gains
returns-clause-gains c =
    let g = held _ _ _ _ _ c.self.invariant.ground c.self.view_is c.requires.sound in
    let d = added_done _ c.add_heap.new.self _ _ _ _ c.args.len g (rw (← c.self.view_is) at c.requires.other) (rw (← c.self.view_is) at c.requires.room)
    (record { arena = c.add_heap.ensures.arena (bins_at c.self.inside.tiles.tiles c.self.inside.links.lists) c.self.inside.last; top = c.add_heap.ensures.top; extent = c.add_heap.ensures.extent; links = refl; room = c.add_heap.ensures.room }) c.add_heap.ensures.closed in
    gains_seen _ _ _ _ _ _ (added_gains _ _ _ _ c.args.len g (rw (← c.self.view_is) at c.requires.other) (rw (← c.self.view_is) at c.requires.room)) (ap (λ (v : GroundView). v.arena) c.self.view_is) c.add_heap.ensures.rest d.is
