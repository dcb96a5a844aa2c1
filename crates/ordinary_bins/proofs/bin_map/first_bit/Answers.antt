use Rattle.std.proofs.Common.{arith}
use Rattle.ordinary_bins.proofs.BitMarks.{none_set, first_set, first_before}
use Rattle.ordinary_bins.proofs.bin_map.first_bit.Goals as goal

pub returns-then-rest-eq0-clause-none : goal.returns-then-rest-eq0-clause-none
returns-then-rest-eq0-clause-none c = λ i low high. none_set c.args.word c.args.from i (omega arith) low

pub returns-clause-set : goal.returns-clause-set
returns-clause-set c = first_set c.args.word c.args.from (omega (arith, c.ranges.word.fits)) (omega arith)

pub returns-clause-before : goal.returns-clause-before
returns-clause-before c = λ i low high. first_before c.args.word c.args.from i (omega (arith, c.ranges.word.fits)) (omega arith) low high
