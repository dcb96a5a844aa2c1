use Rattle.std.proofs.Common.{[], ◌∷◌, arith, length-append}
use Rattle.serial_places.proofs.Ends.{full_more, full_same}
use Rattle.serial_places.proofs.end.blocks_in.Goals as goal
use Rattle.serial_places.proofs.end.blocks_in.Goals.{in-Full+in_ok-push, in_default}

pub loop-tray-preserved : goal.loop-tray-preserved
loop-tray-preserved c = record {
  number = omega (arith, c.loop-tray.invariant.number, length-append c.loop-tray.yielded (c.in-Some.tray ∷ []));
  blocks = elim c.match-tray.branch [
    | in-Full+in_ok-push w ↦
        full_more c.loop-tray.yielded c.in-Some.tray c.loop-tray.number w.in-Full.b c.loop-tray.blocks.items c.match-tray.blocks.items w.in-Full.is c.loop-tray.invariant.number c.loop-tray.invariant.blocks
        (rw w.blocks-is w.in_ok-push.ensures.items)
    | in_default w ↦ rw w.blocks-is (full_same c.loop-tray.yielded c.in-Some.tray c.loop-tray.blocks.items w.in_default.not-Full c.loop-tray.invariant.blocks)
  ];
}
