use Rattle.std.proofs.Common.{◌≡◌, ◌≤◌, ◌+◌, ◌-◌, length, vec_len}
use Rattle.byte_edge.specs.Input.{max_input, read_room}
use Rattle.byte_edge.proofs.ReadLoop.{SoFar}
use Rattle.byte_edge.proofs.reading.read_through.Given as goal

abbrev pub invariant-loop-source : goal.invariant-loop-source
invariant-loop-source g l = record {
  so_far : SoFar g.S.Source.supply l.initial.source l.source l.bytes.items;
  bound : vec_len l.bytes ≤ max_input + read_room;
  room : length l.room ≡ length l.initial.room;
}

abbrev pub decreases-loop-source : goal.decreases-loop-source
decreases-loop-source g l = 67108865 - vec_len l.bytes
