use Rattle.std.proofs.Common.{◌≡◌, Some, ap, ◌∙◌, subst, sym, refl}
use Rattle.arena_rules.specs.Heaps.{end_before_heap, without_heap}
use Rattle.arena_ground.specs.Grounds.{GroundView}
use Rattle.arena_ground.proofs.Firsts.{falling_bins, still}
use Rattle.arena_ground.proofs.Sorting.{have_tiles}
use Rattle.arena_ground.proofs.Keeping.{held}
use Rattle.arena_ground.proofs.Heaping.{dropped_bins, gains_seen, fewer_seen, dropped_done, dropped_moved, free_end, IsHeapGone}
use Rattle.arena_ground.proofs.ground.GroundMoves.drop_heap.Goals as goal

pub unlink_end-requires-clause-listed : goal.unlink_end-requires-clause-listed
unlink_end-requires-clause-listed c = λ u is.
    let g = held _ _ _ _ _ c.self.invariant.ground c.self.view_is c.requires.sound in
    (free_end _ _ _ _ c.args.end.now u g (subst (λ (v : GroundView). end_before_heap v.arena ≡ Some c.args.end.now) (sym c.self.view_is) c.requires.end) is).linked

pub unlink_end-requires-clause-tiles : goal.unlink_end-requires-clause-tiles
unlink_end-requires-clause-tiles c = have_tiles _ _ _ _ (held _ _ _ _ _ c.self.invariant.ground c.self.view_is c.requires.sound)

pub unlink_end-requires-clause-falling : goal.unlink_end-requires-clause-falling
unlink_end-requires-clause-falling c = falling_bins _ _ _ _ (held _ _ _ _ _ c.self.invariant.ground c.self.view_is c.requires.sound)

pub unlink_end-requires-clause-firsts : goal.unlink_end-requires-clause-firsts
unlink_end-requires-clause-firsts c = c.self.invariant.firsts

pub invariant_of-self : goal.invariant_of-self
invariant_of-self c =
    let g = held _ _ _ _ _ c.self.invariant.ground c.self.view_is c.requires.sound in
    let end = subst (λ (v : GroundView). end_before_heap v.arena ≡ Some c.args.end.now) (sym c.self.view_is) c.requires.end in
    let h : IsHeapGone c.self.inside.regions c.drop_heap.new.self c.self.inside.tiles c.drop_heap.new.tiles c.self.inside.links c.unlink_end.new.links c.self.inside.last c.args.end.now = record { arena = λ bins. c.drop_heap.ensures.arena bins c.self.inside.last; top = c.drop_heap.ensures.top; closed = c.drop_heap.ensures.closed; room = c.drop_heap.ensures.room; extent = c.drop_heap.ensures.extent; lists = c.unlink_end.ensures.lists; links = c.unlink_end.ensures.extent } in
    still (dropped_done _ c.drop_heap.new.self _ _ _ _ _ c.args.end.now g (rw (← c.self.view_is) at c.requires.other) end h) (dropped_bins _ c.drop_heap.new.self _ _ _ _ _ c.args.end.now g end h) c.unlink_end.ensures.firsts

pub returns-clause-arena : goal.returns-clause-arena
returns-clause-arena c =
    let g = held _ _ _ _ _ c.self.invariant.ground c.self.view_is c.requires.sound in
    (dropped_done _ c.drop_heap.new.self _ _ _ _ _ c.args.end.now g (rw (← c.self.view_is) at c.requires.other) (subst (λ (v : GroundView). end_before_heap v.arena ≡ Some c.args.end.now) (sym c.self.view_is) c.requires.end)
    (record { arena = λ bins. c.drop_heap.ensures.arena bins c.self.inside.last; top = c.drop_heap.ensures.top; closed = c.drop_heap.ensures.closed; room = c.drop_heap.ensures.room; extent = c.drop_heap.ensures.extent; lists = c.unlink_end.ensures.lists; links = c.unlink_end.ensures.extent })).is
    ∙ ap (λ (v : GroundView). without_heap v.arena c.args.end.now) c.self.view_is

pub returns-clause-gains : goal.returns-clause-gains
returns-clause-gains c =
    let g = held _ _ _ _ _ c.self.invariant.ground c.self.view_is c.requires.sound in
    let d = dropped_done _ c.drop_heap.new.self _ _ _ _ _ c.args.end.now g (rw (← c.self.view_is) at c.requires.other) (subst (λ (v : GroundView). end_before_heap v.arena ≡ Some c.args.end.now) (sym c.self.view_is) c.requires.end)
    (record { arena = λ bins. c.drop_heap.ensures.arena bins c.self.inside.last; top = c.drop_heap.ensures.top; closed = c.drop_heap.ensures.closed; room = c.drop_heap.ensures.room; extent = c.drop_heap.ensures.extent; lists = c.unlink_end.ensures.lists; links = c.unlink_end.ensures.extent }) in
    gains_seen _ _ _ _ _ _ (dropped_moved _ c.drop_heap.new.self _ _ _ _ _ c.args.end.now g (rw (← c.self.view_is) at c.requires.other) (subst (λ (v : GroundView). end_before_heap v.arena ≡ Some c.args.end.now) (sym c.self.view_is) c.requires.end)
    (record { arena = λ bins. c.drop_heap.ensures.arena bins c.self.inside.last; top = c.drop_heap.ensures.top; closed = c.drop_heap.ensures.closed; room = c.drop_heap.ensures.room; extent = c.drop_heap.ensures.extent; lists = c.unlink_end.ensures.lists; links = c.unlink_end.ensures.extent })).drop.gains (ap (λ (v : GroundView). v.arena) c.self.view_is) refl d.is

pub returns-clause-fewer : goal.returns-clause-fewer
returns-clause-fewer c =
    let g = held _ _ _ _ _ c.self.invariant.ground c.self.view_is c.requires.sound in
    let d = dropped_done _ c.drop_heap.new.self _ _ _ _ _ c.args.end.now g (rw (← c.self.view_is) at c.requires.other) (subst (λ (v : GroundView). end_before_heap v.arena ≡ Some c.args.end.now) (sym c.self.view_is) c.requires.end)
    (record { arena = λ bins. c.drop_heap.ensures.arena bins c.self.inside.last; top = c.drop_heap.ensures.top; closed = c.drop_heap.ensures.closed; room = c.drop_heap.ensures.room; extent = c.drop_heap.ensures.extent; lists = c.unlink_end.ensures.lists; links = c.unlink_end.ensures.extent }) in
    fewer_seen _ _ _ _ (dropped_moved _ c.drop_heap.new.self _ _ _ _ _ c.args.end.now g (rw (← c.self.view_is) at c.requires.other) (subst (λ (v : GroundView). end_before_heap v.arena ≡ Some c.args.end.now) (sym c.self.view_is) c.requires.end)
    (record { arena = λ bins. c.drop_heap.ensures.arena bins c.self.inside.last; top = c.drop_heap.ensures.top; closed = c.drop_heap.ensures.closed; room = c.drop_heap.ensures.room; extent = c.drop_heap.ensures.extent; lists = c.unlink_end.ensures.lists; links = c.unlink_end.ensures.extent })).fewer (ap (λ (v : GroundView). v.arena) c.self.view_is) d.is
