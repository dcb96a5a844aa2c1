use Rattle.std.proofs.Common.{◌∙◌}
use Rattle.trace_text.proofs.LineTexts.{has_text}
use Rattle.trace_text.proofs.texts.Texts.take.Goals as goal

pub returns-in-None : goal.returns-in-None
returns-in-None c = λ line lines is. absurd (has_text _ line lines c.in-None.ensures.parts (c.self.view_is ∙ is))
