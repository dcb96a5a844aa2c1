use Rattle.std.proofs.Common.{◌≡◌, ◌-◌, ap, ◌∙◌}
use Rattle.consolidate_trim.proofs.HeapTrims.{cut_none, cut_some}
use Rattle.consolidate_trim.proofs.trimming.shorten.Goals as goal

pub returns-then-bytes-eq0 : goal.returns-then-bytes-eq0
returns-then-bytes-eq0 g c = cut_none c.args.t.now c.args.threshold c.requires.sound c.spare_of_top-bytes.ensures c.if-bytes-eq0.true

pub returns : goal.returns
returns g c = cut_some c.args.t.now c.args.threshold c.spare_of_top-bytes.ensures c.if-bytes-eq0.false c.shorten_heap.ensures.arena c.shorten_heap.ensures.gains
    _ _ _ c.number-arena.ensures c.last_heap-heap.ensures.heap c.last_length-old_len.ensures.length c.back.ensures
