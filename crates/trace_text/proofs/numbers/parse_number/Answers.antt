use Rattle.std.proofs.Common.{◌<◌, ◌≡◌, length, get_or, sym, arith}
use Rattle.std.proofs.lemmas.Bool.Decides.{nat_tests}
use Rattle.trace_text.proofs.Digits.{none_past, some_whole}
use Rattle.trace_text.proofs.numbers.parse_number.Goals as goal
use Rattle.trace_text.proofs.numbers.parse_number.Goals.{then-field-gt1, else-field-gt1}

pub returns-in_err-checked_mul : goal.returns-in_err-checked_mul
returns-in_err-checked_mul c =
    rw c.from_residual.ensures (sym (none_past c.args.field.now c.loop-digit.digit-index (omega arith) (omega arith)))

pub returns-in_err-value : goal.returns-in_err-value
returns-in_err-value c =
    rw c.from_residual-in_err-value.ensures (sym (none_past c.args.field.now c.loop-digit.digit-index (omega arith) (omega arith)))

pub returns : goal.returns
returns c =
    let free : 1 < length c.args.field.now → get_or c.args.field.now 0 0 ≡ 48 → ⊥ = λ more zero. elim c.if-field-gt1.branch [ then-field-gt1 w ↦ grind (arith, nat_tests) | else-field-gt1 w ↦ absurd (omega arith) ] in
    rw c.loop-digit.invariant.value (sym (some_whole c.args.field.now c.loop-digit.digit-index (omega arith) (grind (arith, nat_tests)) free c.loop-digit.invariant.digits (omega arith)))
