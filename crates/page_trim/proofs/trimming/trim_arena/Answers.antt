use Rattle.page_trim.proofs.Cuts.{sound_as_cut}
use Rattle.page_trim.proofs.trimming.trim_arena.Goals as goal

pub given_up-requires : goal.given_up-requires
given_up-requires c = sound_as_cut _ _ _ _ c.consolidate_listed.ensures.sound c.cut_top-back.ensures.bytes c.cut_top-back.ensures.arena

pub returns-clause-sound : goal.returns-clause-sound
returns-clause-sound c = sound_as_cut _ _ _ _ c.consolidate_listed.ensures.sound c.cut_top-back.ensures.bytes c.cut_top-back.ensures.arena
