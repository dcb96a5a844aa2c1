use Rattle.std.proofs.Common.{◌++◌, arith}
use Rattle.arena_core.specs.Kept.{answers_of}
use Rattle.arena_core.proofs.KeptLaws.{length-entries}
use Rattle.arena_core.proofs.lists.JournalLists.len.Goals as goal

pub returns : goal.returns
returns c = rw (← c.self.view_is) (omega (arith, c.len.ensures, length-entries c.self.inside.rows.items (answers_of c.self.inside.told.items c.self.inside.asks.items ++ c.self.inside.last.items)))
