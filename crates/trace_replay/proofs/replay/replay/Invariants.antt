use Rattle.std.proofs.Common.{◌≡◌, drop, take}
use Rattle.trace_replay.specs.Naming.{HoldsWithin}
use Rattle.trace_replay.specs.Sheets.{Awaits}
use Rattle.trace_replay.specs.Processes.{world_of, Tells, IsBetweenCalls}
use Rattle.trace_replay.proofs.ReplayLoop.{SoFar, TilesSoFar}
use Rattle.trace_replay.proofs.replay.replay.Given as goal

abbrev pub invariant-loop-index : goal.invariant-loop-index
invariant-loop-index g l = record {
  awaits : Awaits l.sheet (drop l.index l.lines);
  holds : HoldsWithin (take l.index l.lines) (world_of l.process);
  settled : IsBetweenCalls l.process;
  tunables : l.process.t ≡ l.initial.process.t;
  told : Tells g.K.Kernel.port l.initial.process
      → Tells g.K.Kernel.port l.process
      × SoFar g.K.Kernel.port l.initial.process.t (take l.index l.lines) (world_of l.initial.process) (world_of l.process) l.initial.sheet l.sheet
      × TilesSoFar g.K.Kernel.port l.initial.process.t l.lines l.index (world_of l.initial.process);
}
