use Rattle.std.proofs.Common.{◌≤◌, ◌∙◌, arith}
use Rattle.ordinary_bins.specs.Lists.{times_listed}
use Rattle.ordinary_bins.proofs.ListLaws.{inserted_at}
use Rattle.ordinary_bins.proofs.Spelling.{behind_not_new}
use Rattle.ordinary_bins.proofs.Steps.{spells, neighbours, insert_step}
use Rattle.ordinary_bins.proofs.links.LinkWords.insert_behind.Goals as goal

pub splice-requires-clause-behind : goal.splice-requires-clause-behind
splice-requires-clause-behind c =
    (neighbours {nodes = c.self.inside.nodes} {v = c.args.self.now} (record { linked = c.self.invariant; view = c.self.view_is }) c.after.inside.0 (rw c.after.view_is c.requires.after)).ahead_is

pub splice-requires-clause-new : goal.splice-requires-clause-new
splice-requires-clause-new c =
    let listed : 1 ≤ times_listed c.after.inside.0 c.args.self.now.lists = rw c.after.view_is c.requires.after in
    behind_not_new (spells {nodes = c.self.inside.nodes} {v = c.args.self.now} (record { linked = c.self.invariant; view = c.self.view_is })) (record { high = rw c.at.view_is c.requires.high; word = rw c.at.view_is c.requires.word; nowhere = rw c.at.view_is c.requires.unlisted }) c.after.inside.0 (omega (arith, listed))

pub invariant_of-self : goal.invariant_of-self
invariant_of-self c =
    (insert_step {nodes = c.self.inside.nodes} {v = c.args.self.now} (record { linked = c.self.invariant; view = c.self.view_is }) (record { high = rw c.at.view_is c.requires.high; word = rw c.at.view_is c.requires.word; nowhere = rw c.at.view_is c.requires.unlisted }) c.splice.ensures.fits (rw c.after.view_is c.requires.after) c.splice.ensures.links c.splice.ensures.extent).linked

pub returns-clause-lists : goal.returns-clause-lists
returns-clause-lists c = λ bin front back lt is.
    let h = spells {nodes = c.self.inside.nodes} {v = c.args.self.now} (record { linked = c.self.invariant; view = c.self.view_is }) in
    let lists = (insert_step {nodes = c.self.inside.nodes} {v = c.args.self.now} (record { linked = c.self.invariant; view = c.self.view_is }) (record { high = rw c.at.view_is c.requires.high; word = rw c.at.view_is c.requires.word; nowhere = rw c.at.view_is c.requires.unlisted }) c.splice.ensures.fits (rw c.after.view_is c.requires.after) c.splice.ensures.links c.splice.ensures.extent).lists_are in
    rw (c.after.view_is, c.at.view_is) at lists ∙ inserted_at c.args.after c.args.at bin c.args.self.now.lists front back (omega (arith, lt, h.width)) (h.once c.args.after) is
