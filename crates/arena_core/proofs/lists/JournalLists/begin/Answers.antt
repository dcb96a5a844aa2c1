use Rattle.arena_core.proofs.KeptLaws.{kept-last, entries-last}
use Rattle.arena_core.proofs.lists.JournalLists.begin.Goals as goal

pub invariant_of-self-2 : goal.invariant_of-self-2
invariant_of-self-2 c =
    rw (c.keep_all.ensures.told, c.keep_all.ensures.asks, c.make_room_for.ensures.items, c.make_room_for-2.ensures.items, c.make_room_for-3.ensures.items, c.deref.ensures.value, c.replace-said.ensures.after, c.new-none.ensures.items)
    (kept-last _ _ _ _ c.self.invariant)

pub returns-clause-items : goal.returns-clause-items
returns-clause-items c =
    rw (c.keep_all.ensures.told, c.keep_all.ensures.asks, c.make_room_for.ensures.items, c.make_room_for-2.ensures.items, c.make_room_for-3.ensures.items, c.deref.ensures.value, c.replace-said.ensures.after, c.new-none.ensures.items, ← c.self.view_is)
    (entries-last _ _ _ _ c.self.invariant)
