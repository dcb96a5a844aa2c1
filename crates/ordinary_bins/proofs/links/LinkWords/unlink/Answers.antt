use Rattle.ordinary_bins.proofs.Paths.{alone_ahead}
use Rattle.ordinary_bins.proofs.Steps.{neighbours, is_chunk, unlink_step}
use Rattle.ordinary_bins.proofs.links.LinkWords.unlink.Goals as goal

pub skip-requires-clause-behind : goal.skip-requires-clause-behind
skip-requires-clause-behind c =
    (neighbours {nodes = c.self.inside.nodes} {v = c.args.self.now} (record { linked = c.self.invariant; view = c.self.view_is }) c.at.inside.0 (rw c.at.view_is c.requires)).ahead_is

pub skip-requires-clause-before : goal.skip-requires-clause-before
skip-requires-clause-before c =
    (neighbours {nodes = c.self.inside.nodes} {v = c.args.self.now} (record { linked = c.self.invariant; view = c.self.view_is }) c.at.inside.0 (rw c.at.view_is c.requires)).back_is

pub skip-requires-clause-chunk : goal.skip-requires-clause-chunk
skip-requires-clause-chunk c =
    is_chunk {nodes = c.self.inside.nodes} {v = c.args.self.now} (record { linked = c.self.invariant; view = c.self.view_is }) c.at.inside.0 (rw c.at.view_is c.requires)

pub skip-requires-clause-apart_behind : goal.skip-requires-clause-apart_behind
skip-requires-clause-apart_behind c =
    alone_ahead (neighbours {nodes = c.self.inside.nodes} {v = c.args.self.now} (record { linked = c.self.invariant; view = c.self.view_is }) c.at.inside.0 (rw c.at.view_is c.requires))

pub skip-requires-clause-apart_before : goal.skip-requires-clause-apart_before
skip-requires-clause-apart_before c =
    (neighbours {nodes = c.self.inside.nodes} {v = c.args.self.now} (record { linked = c.self.invariant; view = c.self.view_is }) c.at.inside.0 (rw c.at.view_is c.requires)).alone

pub invariant_of-self : goal.invariant_of-self
invariant_of-self c =
    (unlink_step {nodes = c.self.inside.nodes} {v = c.args.self.now} {at = c.at.inside.0} (record { linked = c.self.invariant; view = c.self.view_is }) (rw c.at.view_is c.requires) c.skip.ensures.links c.skip.ensures.cleared c.skip.ensures.extent).linked

pub returns-clause-lists : goal.returns-clause-lists
returns-clause-lists c =
    rw (← c.at.view_is) (unlink_step {nodes = c.self.inside.nodes} {v = c.args.self.now} {at = c.at.inside.0} (record { linked = c.self.invariant; view = c.self.view_is }) (rw c.at.view_is c.requires) c.skip.ensures.links c.skip.ensures.cleared c.skip.ensures.extent).lists_are
