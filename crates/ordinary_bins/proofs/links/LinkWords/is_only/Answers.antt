use Rattle.std.proofs.Common.{◌≡◌, ◌∙◌, subst, arith}
use Rattle.std.proofs.lemmas.Bool.{lt-leb}
use Rattle.ordinary_bins.specs.Rings.{IsNode}
use Rattle.ordinary_bins.specs.NodeWords.{ahead, extent}
use Rattle.ordinary_bins.proofs.Reading.{none_is_not_one, only_read}
use Rattle.ordinary_bins.proofs.Spelling.{first_node}
use Rattle.ordinary_bins.proofs.Steps.{spells}
use Rattle.ordinary_bins.proofs.links.LinkWords.is_only.Goals as goal

pub links-requires : goal.links-requires
links-requires c =
    let is : ahead c.self.inside.nodes c.args.bin ≡ c.links-first.result.fd = cc in
    subst (IsNode (extent c.self.inside.nodes)) is (first_node c.self.invariant c.args.bin c.requires)

pub returns-then-first-ge-BINS : goal.returns-then-first-ge-BINS
returns-then-first-ge-BINS c =
    let is : ahead c.self.inside.nodes c.args.bin ≡ c.links-first.result.fd = cc in
    let r = only_read (spells {nodes = c.self.inside.nodes} {v = c.args.self.now} (record { linked = c.self.invariant; view = c.self.view_is })) c.args.bin c.requires (omega (arith, is)) in
    cc

pub returns-else-first-ge-BINS : goal.returns-else-first-ge-BINS
returns-else-first-ge-BINS c =
    let is : ahead c.self.inside.nodes c.args.bin ≡ c.links-first.result.fd = cc in
    lt-leb 127 c.links-first.result.fd (omega arith) ∙ none_is_not_one (spells {nodes = c.self.inside.nodes} {v = c.args.self.now} (record { linked = c.self.invariant; view = c.self.view_is })) c.args.bin c.requires (omega (arith, is))
