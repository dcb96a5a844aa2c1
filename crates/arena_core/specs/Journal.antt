-- What an entry of a journal says (this project's own).
use Rattle.std.specs.Prelude.{List}
use Rattle.arena_core.specs.declared.journal.Who.{Who}
use Rattle.arena_core.specs.declared.journal.Act.{Act}
use Rattle.arena_core.specs.declared.journal.Ended.{Ended}
use Rattle.arena_rules.specs.declared.said.Said.{Said}

pub record Recorded : Type 0 where
  pub who : Who
  pub act : Act
  pub said : List Said
  pub ended : Ended
