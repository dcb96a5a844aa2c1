use Rattle.arena_holds.proofs.Mappings.{fits_mapping}
use Rattle.arena_holds.proofs.mapping.block_mapped.Goals as goal

pub block_in_mapping-requires-clause-fits : goal.block_in_mapping-requires-clause-fits
block_in_mapping-requires-clause-fits c = fits_mapping c.in-Align.align c.in-Align.nb c.args.b (rw c.in-Align.is at c.requires.act) (rw c.in-Align.is at c.requires.fills)
