use Rattle.std.proofs.Common.{ap, ◌∙◌, refl, sym}
use Rattle.arena_rules.specs.Heaps.{heap_shortened}
use Rattle.arena_rules.specs.PlainArena.{Plain}
use Rattle.arena_ground.specs.Grounds.{GroundView, bins_at}
use Rattle.arena_ground.proofs.Firsts.{still}
use Rattle.arena_ground.proofs.Keeping.{held}
use Rattle.arena_ground.proofs.Heaping.{gains_seen, shortened_done, shortened_gains}
use Rattle.arena_ground.proofs.ground.GroundMoves.shorten_heap.Goals as goal

pub invariant_of-self : goal.invariant_of-self
invariant_of-self c =
    let g = held _ _ _ _ _ c.self.invariant.ground c.self.view_is c.requires.sound in
    still (shortened_done _ _ _ _ _ _ c.args.bytes g (rw (← c.self.view_is) at c.requires.other) (rw (← c.self.view_is) at c.requires.left) c.requires.pages
    (record { arena = c.shorten_heap.ensures.arena (bins_at c.self.inside.tiles.tiles c.self.inside.links.lists) c.self.inside.last; top = c.shorten_heap.ensures.top; extent = c.shorten_heap.ensures.extent; closed = c.shorten_heap.ensures.closed })) (sym (ap (λ (x : Plain). x.bins) (c.shorten_heap.ensures.arena (bins_at c.self.inside.tiles.tiles c.self.inside.links.lists) c.self.inside.last))) c.self.invariant.firsts

pub returns-clause-arena : goal.returns-clause-arena
returns-clause-arena c =
    let g = held _ _ _ _ _ c.self.invariant.ground c.self.view_is c.requires.sound in
    (shortened_done _ _ _ _ _ _ c.args.bytes g (rw (← c.self.view_is) at c.requires.other) (rw (← c.self.view_is) at c.requires.left) c.requires.pages
    (record { arena = c.shorten_heap.ensures.arena (bins_at c.self.inside.tiles.tiles c.self.inside.links.lists) c.self.inside.last; top = c.shorten_heap.ensures.top; extent = c.shorten_heap.ensures.extent; closed = c.shorten_heap.ensures.closed })).is
    ∙ ap (λ (v : GroundView). heap_shortened v.arena c.args.bytes) c.self.view_is

pub returns-clause-gains : goal.returns-clause-gains
returns-clause-gains c =
    let g = held _ _ _ _ _ c.self.invariant.ground c.self.view_is c.requires.sound in
    let d = shortened_done _ _ _ _ _ _ c.args.bytes g (rw (← c.self.view_is) at c.requires.other) (rw (← c.self.view_is) at c.requires.left) c.requires.pages
    (record { arena = c.shorten_heap.ensures.arena (bins_at c.self.inside.tiles.tiles c.self.inside.links.lists) c.self.inside.last; top = c.shorten_heap.ensures.top; extent = c.shorten_heap.ensures.extent; closed = c.shorten_heap.ensures.closed }) in
    gains_seen _ _ _ _ _ _ (shortened_gains _ _ _ _ c.args.bytes g (rw (← c.self.view_is) at c.requires.other) (rw (← c.self.view_is) at c.requires.left) c.requires.pages) (ap (λ (v : GroundView). v.arena) c.self.view_is) refl d.is
