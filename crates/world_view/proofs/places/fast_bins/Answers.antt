use Rattle.std.proofs.Common.{◌+◌, ◌*◌, [], get_or, map, ap, ◌∙◌}
use Rattle.world_view.specs.Rows.{fast_bin_at}
use Rattle.world_view.proofs.Placing.{list_more}
use Rattle.world_view.proofs.places.fast_bins.Goals as goal

pub loop-number-preserved : goal.loop-number-preserved
loop-number-preserved c =
    list_more (fast_bin_at (map (λ l. l.items) c.args.lists.now) c.args.index) c.loop-number.bins.items c.push.new.self.items c.loop-number.number _
    (ap (λ x. (c.loop-number.number, x)) (c.in_ok-list.ensures
    ∙ (ap (λ f. get_or (map (λ l. l.items) c.args.lists.now) (f * c.args.index + c.from-in-loop-number.result) []) c.from.ensures
    ∙ ap (λ n. get_or (map (λ l. l.items) c.args.lists.now) (10 * c.args.index + n) []) c.from-in-loop-number.ensures)))
    c.in_ok-push.ensures.items c.loop-number.invariant
