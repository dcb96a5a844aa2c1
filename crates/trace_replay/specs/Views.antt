-- What a report shows of a world and of the lines that led to it: a scene (this project's own).
use Rattle.std.specs.Prelude.{ℕ, ◌≤◌, ◌==◌, Bool, List, map, filter}
use Rattle.std.specs.List.{list_any, range_with_len}
use Rattle.serial_places.specs.SerialWays.{WorldSlot, those_in}
use Rattle.serial_places.specs.Trays.{full_trays}
use Rattle.trace_text.specs.Grammar.{threads}
use Rattle.trace_text.specs.declared.trace.Line.{Line}
use Rattle.world_view.specs.Scenes.{ArenaScene, Scene}
use Rattle.trace_replay.specs.World.{World}

-- the number of a line's thread
abbrev pub IsThread : Line → Type 0
IsThread line = line.thread ≤ 63

-- whether a thread has a line, and the numbers of those that have one
abbrev pub has_line : List Line → ℕ → Bool
has_line lines thread = list_any (λ line. line.thread == thread) lines

unfoldable pub threads_in : List Line → List ℕ
threads_in lines = filter (has_line lines) (range_with_len 0 threads)

abbrev pub arena_scene : WorldSlot → ArenaScene
arena_scene s = record { arena = s.kept.arena; fast = s.bins }

-- a world, and the numbers of the threads that have lines
abbrev pub scene_of : {K : Type 0} → List ℕ → World K → Scene
scene_of lines w = record {
  owns = map (λ th. th.own) w.threads;
  arenas = map arena_scene (those_in w.slots);
  trays = full_trays 0 w.trays;
  book = w.book;
  dials = w.dials;
  lines = lines;
}
