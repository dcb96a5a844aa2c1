use Rattle.std.proofs.Common.{◌≡◌, ◌<◌, length, get_or, Some, sym, ap, ◌∙◌, arith}
use Rattle.std.proofs.lemmas.Bool.Decides.{nat_tests}
use Rattle.trace_text.proofs.Digits.{front_value, front_end}
use Rattle.trace_text.proofs.numbers.number_in_front.Goals as goal
use Rattle.trace_text.proofs.numbers.number_in_front.Goals.{then-count-gt1, else-count-gt1, else-count-text-via-then-count-text+else-text-count-ne32, else-count-text-via-else-count-text}

pub returns : goal.returns
returns c =
    let text = c.args.text.now in
    let found = c.first_digits-value.result in
    let digits = c.first_digits-value.ensures in
    let free : 1 < found.1 → get_or text 0 0 ≡ 48 → ⊥ = λ more zero. elim c.if-count-gt1.branch [ then-count-gt1 w ↦ grind (arith, nat_tests) | else-count-gt1 w ↦ absurd (omega arith) ] in
    let space : found.1 < length text → get_or text found.1 0 ≡ 32 = λ more. elim c.else-count-text.branch [ else-count-text-via-then-count-text+else-text-count-ne32 w ↦ omega arith | else-count-text-via-else-count-text w ↦ absurd (omega arith) ] in (
      front_end text found.1 digits.within digits.digits space,
      front_value text found.1 digits.within (omega arith) free digits.digits (omega arith) ∙ ap Some (sym digits.value),
    )
