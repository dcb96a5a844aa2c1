use Rattle.std.proofs.Common.{w64, sym, ap, ◌∙◌}
use Rattle.std.proofs.lemmas.Nat.Bits.{bit_at_set_same, bit_at_set_other, bit_at_clear_same, bit_at_clear_other}
use Rattle.ordinary_bins.specs.BinMaps.{mark_of}
use Rattle.ordinary_bins.proofs.bin_map.with_bit.Goals as goal

pub returns-then-is_set-clause-here : goal.returns-then-is_set-clause-here
returns-then-is_set-clause-here c = bit_at_set_same w64 c.args.word c.args.place c.requires ∙ sym (ap mark_of c.if-is_set.true)

pub returns-then-is_set-clause-others : goal.returns-then-is_set-clause-others
returns-then-is_set-clause-others c = λ i lt other. bit_at_set_other w64 c.args.word c.args.place c.requires i other

pub returns-else-is_set-clause-here : goal.returns-else-is_set-clause-here
returns-else-is_set-clause-here c = bit_at_clear_same w64 c.args.word c.args.place c.requires ∙ sym (ap mark_of c.if-is_set.false)

pub returns-else-is_set-clause-others : goal.returns-else-is_set-clause-others
returns-else-is_set-clause-others c = λ i lt other. bit_at_clear_other w64 c.args.word c.args.place c.requires i lt other
