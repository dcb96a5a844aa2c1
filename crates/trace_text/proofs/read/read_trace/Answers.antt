use Rattle.std.proofs.Common.{sym}
use Rattle.trace_text.specs.ReadsAs.{ReadsAs}
use Rattle.trace_text.specs.Grammar.{reading_of}
use Rattle.trace_text.proofs.RoundTrip.{found_is}
use Rattle.trace_text.proofs.Loop.{reads_nothing, reads_body, reads_no_header}
use Rattle.trace_text.proofs.read.read_trace.Goals as goal

pub returns-in_default-clause-exact : goal.returns-in_default-clause-exact
returns-in_default-clause-exact c = reads_nothing c.args.bytes.now c.in_default.ensures.parts

pub returns-in_default-read_version-clause-exact : goal.returns-in_default-read_version-clause-exact
returns-in_default-read_version-clause-exact c = reads_no_header c.args.bytes.now c.in-Some.first.now c.in-Some.body.now c.in-Some.ensures.parts (sym c.in_default-read_version.ensures)

pub returns : goal.returns
returns c =
    let exact : ReadsAs c.read_body.result (reading_of c.args.bytes.now) = rw (reads_body c.args.bytes.now c.in-Some.first.now c.in-Some.body.now _ c.in-Some.ensures.parts (sym c.in-Some-read_version.ensures)) c.read_body.ensures in
    record { exact = exact; found = found_is c.args.bytes.now c.read_body.result exact }
