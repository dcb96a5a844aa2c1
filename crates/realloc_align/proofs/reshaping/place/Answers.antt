use Rattle.std.proofs.Common.{sym, ◌∙◌}
use Rattle.arena_rules.specs.Moves.{hand}
use Rattle.realloc_align.proofs.Cuts.{own_in, joined_used}
use Rattle.realloc_align.proofs.reshaping.place.Goals as goal

pub cut-requires-clause-sound : goal.cut-requires-clause-sound
cut-requires-clause-sound g c =
    let a = g.M.Moves.plain c.args.g.now in
    (joined_used a c.args.c.now c.args.d.now (hand _ _) c.join_used-whole.ensures (own_in a c.args.c.now c.requires.sound c.requires.own) (own_in a c.args.d.now c.requires.sound c.requires.found) (sym c.is_next_to.ensures ∙ c.if-is_next_to.true)).sound

pub cut-requires-clause-own : goal.cut-requires-clause-own
cut-requires-clause-own g c =
    let a = g.M.Moves.plain c.args.g.now in
    (joined_used a c.args.c.now c.args.d.now (hand _ _) c.join_used-whole.ensures (own_in a c.args.c.now c.requires.sound c.requires.own) (own_in a c.args.d.now c.requires.sound c.requires.found) (sym c.is_next_to.ensures ∙ c.if-is_next_to.true)).own
