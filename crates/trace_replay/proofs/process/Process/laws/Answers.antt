use Rattle.trace_replay.proofs.Tiles.{tiled_between}
use Rattle.trace_replay.proofs.process.Process.laws.Goals as goal

pub returns : goal.returns
returns g c =
    let p = c.args.self.now in
    tiled_between p.t p.threads.items p.serial c.laws-2.ensures c.requires
    (record { kept = c.laws.ensures.kept; ten = c.laws.ensures.ten; heaps = c.laws.ensures.heaps })
