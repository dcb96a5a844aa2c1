use Rattle.std.proofs.Common.{◌≡◌, true, false, refl, sym, ◌∙◌}
use Rattle.std.specs.Str.{bytes_eq}
use Rattle.trace_text.specs.Grammar.{header, version_of}
use Rattle.trace_text.proofs.read.read_version.Goals as goal

pub returns-then-eq : goal.returns-then-eq
unfolding version_of
returns-then-eq c =
    let first : bytes_eq c.args.first.now (header 1) ≡ true = rw c.as_slice.ensures at (sym c.eq.ensures ∙ c.if-eq.true) in
    rw first refl

pub returns-then-eq-2 : goal.returns-then-eq-2
unfolding version_of
returns-then-eq-2 c =
    let first : bytes_eq c.args.first.now (header 1) ≡ false = rw c.as_slice.ensures at (sym c.eq.ensures ∙ c.if-eq.false) in
    let second : bytes_eq c.args.first.now (header 2) ≡ true = rw c.as_slice-else-eq.ensures at (sym c.eq-else-eq.ensures ∙ c.if-eq-2.true) in
    rw (first, second) refl

pub returns-else-eq-2 : goal.returns-else-eq-2
unfolding version_of
returns-else-eq-2 c =
    let first : bytes_eq c.args.first.now (header 1) ≡ false = rw c.as_slice.ensures at (sym c.eq.ensures ∙ c.if-eq.false) in
    let second : bytes_eq c.args.first.now (header 2) ≡ false = rw c.as_slice-else-eq.ensures at (sym c.eq-else-eq.ensures ∙ c.if-eq-2.false) in
    rw (first, second) refl
