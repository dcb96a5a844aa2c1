use Rattle.heap_top.proofs.heaps.reopen.Goals as goal

pub fuse-requires-clause-below : goal.fuse-requires-clause-below
fuse-requires-clause-below c = (c.requires.before _ c.in-Some.is).below
