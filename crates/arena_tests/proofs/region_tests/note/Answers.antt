use Rattle.std.proofs.Common.{None}
use Rattle.arena_rules.specs.PlainArena.{empty_bins}
use Rattle.arena_tests.proofs.MainScenes.{scene_noted}
use Rattle.arena_tests.proofs.region_tests.note.Goals as goal

pub returns : goal.returns
returns c = scene_noted c.args.main.now c.note_most.new.self c.args.tiles.now c.requires c.note_most.ensures.top (c.note_most.ensures.arena c.args.tiles.now.tiles empty_bins None)
