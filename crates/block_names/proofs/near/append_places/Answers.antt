use Rattle.std.proofs.Common.{◌≡◌, ◌++◌, ◌∷◌, [], None, replicate, ap, ◌∙◌, rules}
use Rattle.std.proofs.lemmas.List.{append_assoc, replicate-append-replicate}
use Rattle.block_names.proofs.near.append_places.Goals as goal

pub loop-n-preserved : goal.loop-n-preserved
loop-n-preserved c =
    let pushed : c.push.new.self.items ≡ c.loop-n.row.items ++ None ∷ [] = search rules in
    record {
      items = pushed ∙ (ap (λ os. os ++ None ∷ []) c.loop-n.invariant.items
          ∙ (append_assoc c.args.row.now.items (replicate c.loop-n._n None) (None ∷ [])
          ∙ ap (λ os. c.args.row.now.items ++ os) (replicate-append-replicate c.loop-n._n 1 None)));
      room = search rules;
    }
