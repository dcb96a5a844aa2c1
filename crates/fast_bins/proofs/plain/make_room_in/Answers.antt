use Rattle.fast_bins.proofs.Reserving.{roomier_kept, full_kept, still_kept}
use Rattle.fast_bins.proofs.plain.make_room_in.Goals as goal

pub returns-clause-roomier : goal.returns-clause-roomier
returns-clause-roomier c =
    roomier_kept _ c.make_bins.new.bins c.reserve_each.new.bins c.make_bins.ensures.roomier c.in_ok-make_bins.ensures.ten (rw (← c.deref_mut.ensures.value) c.reserve_each.ensures.roomier)

pub returns-clause-full : goal.returns-clause-full
returns-clause-full c =
    full_kept _ c.make_bins.new.bins.items c.reserve_each.result c.make_bins.ensures.roomier c.in_ok-make_bins.ensures.ten (rw (← c.deref_mut.ensures.value) c.reserve_each.ensures.full)

pub returns-clause-still : goal.returns-clause-still
returns-clause-still c =
    still_kept c.make_bins.new.bins c.reserve_each.new.bins c.reserve_each.result c.in_ok-make_bins.ensures.ten (rw (← c.deref_mut.ensures.value) c.reserve_each.ensures.roomier) (rw (← c.deref_mut.ensures.value) c.reserve_each.ensures.still)
