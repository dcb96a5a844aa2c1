use Rattle.std.proofs.Common.{ap, ◌∙◌, sym}
use Rattle.arena_rules.specs.Trim.{main_cut}
use Rattle.arena_rules.specs.PlainArena.{Plain}
use Rattle.arena_ground.specs.Grounds.{GroundView, bins_at}
use Rattle.arena_ground.proofs.Firsts.{still}
use Rattle.arena_ground.proofs.Keeping.{bare_main, held}
use Rattle.arena_ground.proofs.Topping.{trim_done}
use Rattle.arena_ground.proofs.ground.GroundMoves.cut_main.Goals as goal

pub cut_main-requires-clause-main : goal.cut_main-requires-clause-main
cut_main-requires-clause-main c = bare_main _ _ _ _ c.self.invariant.ground (rw (← c.self.view_is) at c.requires.main)

pub invariant_of-self : goal.invariant_of-self
invariant_of-self c =
    let g = held _ _ _ _ _ c.self.invariant.ground c.self.view_is c.requires.sound in
    still (trim_done _ _ _ _ _ _ c.args.bytes g (rw (← c.self.view_is) at c.requires.main) (rw (← c.self.view_is) at c.requires.spare)
    (record { arena = c.cut_main.ensures.arena (bins_at c.self.inside.tiles.tiles c.self.inside.links.lists) c.self.inside.last; top = c.cut_main.ensures.top; extent = c.cut_main.ensures.extent; closed = c.cut_main.ensures.closed })) (sym (ap (λ (x : Plain). x.bins) (c.cut_main.ensures.arena (bins_at c.self.inside.tiles.tiles c.self.inside.links.lists) c.self.inside.last))) c.self.invariant.firsts

pub returns : goal.returns
returns c =
    let g = held _ _ _ _ _ c.self.invariant.ground c.self.view_is c.requires.sound in
    (trim_done _ _ _ _ _ _ c.args.bytes g (rw (← c.self.view_is) at c.requires.main) (rw (← c.self.view_is) at c.requires.spare)
    (record { arena = c.cut_main.ensures.arena (bins_at c.self.inside.tiles.tiles c.self.inside.links.lists) c.self.inside.last; top = c.cut_main.ensures.top; extent = c.cut_main.ensures.extent; closed = c.cut_main.ensures.closed })).is
    ∙ ap (λ (v : GroundView). main_cut v.arena c.args.bytes) c.self.view_is
