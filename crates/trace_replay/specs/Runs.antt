-- A run over the lines of a trace, one after another (this project's own).
use Rattle.std.specs.Prelude.{List, [], ◌∷◌, Option, Some, None, Result, Ok, Err}
use Rattle.chunk_tags.specs.declared.tunables.Tunables.{Tunables}
use Rattle.address_space.specs.Ports.{Port}
use Rattle.own_blocks.specs.declared.reply.Reply.{Reply}
use Rattle.trace_text.specs.declared.trace.Line.{Line}
use Rattle.trace_replay.specs.declared.exit.Exit.{Exit}
use Rattle.trace_replay.specs.declared.exit.Exit.TheVariants.{Done}
use Rattle.trace_replay.specs.World.{World, step}

-- what a run gives: each line with its reply, in file order, and the world at its end
pub record Run (K : Type 0) : Type 0 where
  pub replies : List (Line × Reply)
  pub world : World K

-- a reply in front of what the rest of a run gives
abbrev pub in_front : {K : Type 0} → Line × Reply → Result (Run K) Exit → Result (Run K) Exit
in_front first (Ok rest) = Ok (record rest { replies = first ∷ rest.replies })
in_front first (Err exit) = Err exit

-- The reply to a line. Where its call has no world to go to that is Done, as a refusal, which no run answers: so it is never
-- taken for another.
abbrev pub answer_of : {K : Type 0} → Option (Reply × World K) → Result (Reply × World K) Exit
answer_of (Some answer) = Ok answer
answer_of None = Err Done

-- a line, and the rest from the world that it leaves
abbrev pub line_and_rest : {K : Type 0} → Line → Result (Reply × World K) Exit → (World K → Result (Run K) Exit) → Result (Run K) Exit
line_and_rest line (Ok (reply, w)) rest = in_front (line, reply) (rest w)
line_and_rest line (Err exit) rest = Err exit

-- a run from a world on
unfoldable pub run_of : {K : Type 0} → Port K → Tunables → List Line → World K → Result (Run K) Exit
run_of port t [] w = Ok (record { replies = []; world = w })
run_of port t (line ∷ lines) w = line_and_rest line (answer_of (step port t line w)) (run_of port t lines)
