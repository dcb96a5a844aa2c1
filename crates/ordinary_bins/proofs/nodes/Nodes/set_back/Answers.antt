use Rattle.std.proofs.Common.{refl, sym, ap, ◌∙◌, arith}
use Rattle.std.proofs.lemmas.List.{get_or_read}
use Rattle.ordinary_bins.specs.NodeWords.{no_codes}
use Rattle.ordinary_bins.specs.declared.nodes.LinkCodes.{LinkCodes}
use Rattle.ordinary_bins.proofs.NodeLinks.{own_codes, word_codes, wrote_own, wrote_word, same_ahead, led_back}
use Rattle.ordinary_bins.proofs.nodes.Nodes.set_back.Goals as goal

pub returns-then-node-lt-BINS-clause-ahead : goal.returns-then-node-lt-BINS-clause-ahead
returns-then-node-lt-BINS-clause-ahead c =
    same_ahead c.args.self.now _ c.args.node c.index_mut.result.now.fd c.args.to
    (ap (λ (l : LinkCodes). l.fd) (get_or_read c.args.self.now.own.items c.args.node _ (omega (arith, c.args.self.now.whole, c.args.self.now.own.ok.0)) c.index_mut.ensures.value no_codes ∙ sym (own_codes c.args.self.now c.args.node (omega arith))))
    (wrote_own c.args.self.now _ _ _ (omega (arith, c.args.self.now.whole, c.args.self.now.own.ok.0)) (omega arith) refl refl (record { base = refl; width = refl }))

pub returns-then-node-lt-BINS-clause-back : goal.returns-then-node-lt-BINS-clause-back
returns-then-node-lt-BINS-clause-back c =
    led_back c.args.self.now _ c.args.node c.index_mut.result.now.fd c.args.to
    (wrote_own c.args.self.now _ _ _ (omega (arith, c.args.self.now.whole, c.args.self.now.own.ok.0)) (omega arith) refl refl (record { base = refl; width = refl }))

pub returns-else-node-lt-BINS-clause-ahead : goal.returns-else-node-lt-BINS-clause-ahead
returns-else-node-lt-BINS-clause-ahead c =
    same_ahead c.args.self.now _ c.args.node c.get-fd.result.fd c.args.to
    (ap (λ (l : LinkCodes). l.fd) (c.get-fd.ensures no_codes ∙ sym (word_codes c.args.self.now c.args.node (omega arith))))
    (wrote_word c.args.self.now _ _ _ (omega arith) refl (c.set.ensures.word no_codes) (record { base = refl; width = refl }))

pub returns-else-node-lt-BINS-clause-back : goal.returns-else-node-lt-BINS-clause-back
returns-else-node-lt-BINS-clause-back c =
    led_back c.args.self.now _ c.args.node c.get-fd.result.fd c.args.to
    (wrote_word c.args.self.now _ _ _ (omega arith) refl (c.set.ensures.word no_codes) (record { base = refl; width = refl }))
