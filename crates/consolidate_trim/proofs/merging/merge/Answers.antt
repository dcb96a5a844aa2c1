use Rattle.std.proofs.Common.{sym}
use Rattle.consolidate_trim.proofs.Merges.{longer, whole}
use Rattle.consolidate_trim.proofs.merging.merge.Goals as goal

pub join_behind-at-requires-clause-sound : goal.join_behind-at-requires-clause-sound
join_behind-at-requires-clause-sound g c = (longer c.args.c c.requires.sound c.requires.own c.join_before-longer.ensures).0

pub join_behind-at-requires-clause-own : goal.join_behind-at-requires-clause-own
join_behind-at-requires-clause-own g c = (longer c.args.c c.requires.sound c.requires.own c.join_before-longer.ensures).1

pub is_before_top-requires-clause-sound : goal.is_before_top-requires-clause-sound
is_before_top-requires-clause-sound g c = (whole c.args.c c.requires.sound c.requires.own c.join_before-longer.ensures c.join_behind-at.ensures).sound

pub is_before_top-requires-clause-own : goal.is_before_top-requires-clause-own
is_before_top-requires-clause-own g c = (whole c.args.c c.requires.sound c.requires.own c.join_before-longer.ensures c.join_behind-at.ensures).own

pub absorb-requires-clause-sound : goal.absorb-requires-clause-sound
absorb-requires-clause-sound g c = (whole c.args.c c.requires.sound c.requires.own c.join_before-longer.ensures c.join_behind-at.ensures).sound

pub absorb-requires-clause-own : goal.absorb-requires-clause-own
absorb-requires-clause-own g c = (whole c.args.c c.requires.sound c.requires.own c.join_before-longer.ensures c.join_behind-at.ensures).own

pub absorb-requires-clause-before : goal.absorb-requires-clause-before
absorb-requires-clause-before g c = (whole c.args.c c.requires.sound c.requires.own c.join_before-longer.ensures c.join_behind-at.ensures).before

pub shelve-requires-clause-sound : goal.shelve-requires-clause-sound
shelve-requires-clause-sound g c = (whole c.args.c c.requires.sound c.requires.own c.join_before-longer.ensures c.join_behind-at.ensures).sound

pub shelve-requires-clause-own : goal.shelve-requires-clause-own
shelve-requires-clause-own g c = (whole c.args.c c.requires.sound c.requires.own c.join_before-longer.ensures c.join_behind-at.ensures).own

pub shelve-requires-clause-alone : goal.shelve-requires-clause-alone
shelve-requires-clause-alone g c =
    (whole c.args.c c.requires.sound c.requires.own c.join_before-longer.ensures c.join_behind-at.ensures).alone (sym c.if-is_before_top.ensures)
