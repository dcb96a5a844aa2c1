use Rattle.std.proofs.Common.{◌++◌, arith}
use Rattle.arena_core.specs.Kept.{answers_of, entries_of}
use Rattle.arena_core.proofs.KeptLaws.{no-last, kept-more, entries-appended}
use Rattle.arena_core.proofs.lists.JournalLists.append.Goals as goal

pub invariant_of-self : goal.invariant_of-self
invariant_of-self c =
    let l = c.self.inside in
    let none = no-last l.rows l.last (entries_of l.rows.items (answers_of l.told.items l.asks.items ++ l.last.items)) (rw (← c.self.view_is) at c.requires) in
    rw c.put.ensures.items (kept-more _ _ _ _ c.args.said.items (rw none at c.self.invariant) (omega (arith, c.len.ensures, c.args.said.ok.0)))

pub returns : goal.returns
returns c =
    let l = c.self.inside in
    let none = no-last l.rows l.last (entries_of l.rows.items (answers_of l.told.items l.asks.items ++ l.last.items)) (rw (← c.self.view_is) at c.requires) in
    rw (c.put.ensures.items, ← c.self.view_is, none) (entries-appended _ _ _ _ c.args.said.items (rw none at c.self.invariant) (omega (arith, c.len.ensures, c.args.said.ok.0)))
