use Rattle.std.proofs.Common.{sym, ◌∙◌, ap}
use Rattle.command_words.specs.Views.{has_plain_front}
use Rattle.command_words.proofs.Numerals.{plain_number}
use Rattle.command_words.proofs.number.number.Goals as goal

pub returns : goal.returns
returns c =
    let front = ap has_plain_front (sym c.as_bytes.ensures.value) ∙ sym c.has_plain_front.ensures ∙ c.if-not-has_plain_front.false in
    c.ok.ensures.value ∙ plain_number c.args.text.now c.parse.result front c.parse.ensures.value.0
