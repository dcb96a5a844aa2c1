use Rattle.trace_text.proofs.LineTexts.{behind_header, has_header}
use Rattle.trace_text.proofs.texts.Texts.of.Goals as goal

pub returns-in-Some : goal.returns-in-Some
returns-in-Some c = λ version lines fit is. behind_header _ _ c.in-Some.rest.now version lines c.in-Some.ensures.parts fit is

pub returns-in-None : goal.returns-in-None
returns-in-None c = λ version lines fit is. absurd (has_header _ version lines c.in-None.ensures.parts fit is)
