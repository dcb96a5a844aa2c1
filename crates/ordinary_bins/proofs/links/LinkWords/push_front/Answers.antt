use Rattle.ordinary_bins.proofs.Spelling.{first_not_new, first_node}
use Rattle.ordinary_bins.proofs.Steps.{spells, front_step}
use Rattle.ordinary_bins.proofs.links.LinkWords.push_front.Goals as goal

pub splice-requires-clause-behind : goal.splice-requires-clause-behind
splice-requires-clause-behind c = rw c.from.ensures (first_node c.self.invariant c.args.bin c.requires.bin)

pub splice-requires-clause-new : goal.splice-requires-clause-new
splice-requires-clause-new c =
    rw c.from.ensures (first_not_new (spells {nodes = c.self.inside.nodes} {v = c.args.self.now} (record { linked = c.self.invariant; view = c.self.view_is })) (record { high = rw c.at.view_is c.requires.high; word = rw c.at.view_is c.requires.word; nowhere = rw c.at.view_is c.requires.unlisted }) c.args.bin c.requires.bin)

pub invariant_of-self : goal.invariant_of-self
invariant_of-self c =
    (front_step {nodes = c.self.inside.nodes} {v = c.args.self.now} (record { linked = c.self.invariant; view = c.self.view_is }) (record { high = rw c.at.view_is c.requires.high; word = rw c.at.view_is c.requires.word; nowhere = rw c.at.view_is c.requires.unlisted }) c.splice.ensures.fits c.requires.used c.requires.bin (rw c.from.ensures at c.splice.ensures.links) c.splice.ensures.extent).linked

pub returns-clause-lists : goal.returns-clause-lists
returns-clause-lists c =
    rw (← c.at.view_is) (front_step {nodes = c.self.inside.nodes} {v = c.args.self.now} (record { linked = c.self.invariant; view = c.self.view_is }) (record { high = rw c.at.view_is c.requires.high; word = rw c.at.view_is c.requires.word; nowhere = rw c.at.view_is c.requires.unlisted }) c.splice.ensures.fits c.requires.used c.requires.bin (rw c.from.ensures at c.splice.ensures.links) c.splice.ensures.extent).lists_are
