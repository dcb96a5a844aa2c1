use Rattle.std.proofs.Common.{◌+◌}
use Rattle.kernel_calls.specs.Counting.{total_of}
use Rattle.kernel_calls.proofs.Summing.{one_more}
use Rattle.kernel_calls.proofs.counts.Counts.total.Goals as goal

pub returns : goal.returns
unfolding total_of
returns c =
    let x = c.args.self.now in
    let main = x.breaks_up + x.breaks_down + x.pieces in
    let heaps = main + x.heaps_made + x.heaps_grown + x.heaps_shrunk in
    let mappings = heaps + x.heaps_dropped + x.mappings + x.unmappings in
    let two = one_more (x.breaks_up + x.breaks_down) x.pieces _ _ c.saturating_add.ensures c.saturating_add-2.ensures in
    let three = one_more main x.heaps_made _ _ two c.saturating_add-3.ensures in
    let four = one_more (main + x.heaps_made) x.heaps_grown _ _ three c.saturating_add-4.ensures in
    let five = one_more (main + x.heaps_made + x.heaps_grown) x.heaps_shrunk _ _ four c.saturating_add-5.ensures in
    let six = one_more heaps x.heaps_dropped _ _ five c.saturating_add-6.ensures in
    let seven = one_more (heaps + x.heaps_dropped) x.mappings _ _ six c.saturating_add-7.ensures in
    let eight = one_more (heaps + x.heaps_dropped + x.mappings) x.unmappings _ _ seven c.saturating_add-8.ensures in
    let nine = one_more mappings x.remaps_grown _ _ eight c.saturating_add-9.ensures in
    one_more (mappings + x.remaps_grown) x.remaps_shrunk _ _ nine c.saturating_add-10.ensures
