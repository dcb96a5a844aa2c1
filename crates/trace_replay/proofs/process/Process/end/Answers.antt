use Rattle.std.proofs.Common.{map, ap, refl, ◌∙◌, Result, Ok, arith}
use Rattle.stats_text.specs.Views.{Shown}
use Rattle.trace_replay.proofs.ListedAtEnd.{end_listed, end_trimmed}
use Rattle.trace_replay.proofs.Snapshots.{arenas_few, bytes_fit, slices_shown}
use Rattle.trace_replay.proofs.process.Process.end.Goals as goal

pub snapshot-requires-clause-threads : goal.snapshot-requires-clause-threads
snapshot-requires-clause-threads g c = omega (arith, c.requires.count)

pub snapshot-requires-clause-arenas : goal.snapshot-requires-clause-arenas
snapshot-requires-clause-arenas g c = λ k l. rw c.as_slice-2.ensures.value (arenas_few c.args.self.serial _ _ _ _ _ c.in_ok-end.ensures.ends c.laws-2.ensures.kept)

pub snapshot-requires-clause-bytes : goal.snapshot-requires-clause-bytes
snapshot-requires-clause-bytes g c = λ k l. bytes_fit _ c.args.self.threads.items c.args.self.serial _ c.in_ok-end.ensures.ends.words_are c.requires

pub returns-clause-shown : goal.returns-clause-shown
returns-clause-shown g c =
    let shown : Result Shown (Unit {0}) = Ok c.in_ok-shown.shown in
    slices_shown c.args.self.threads.items c.as_slice.result.now c.args.self.serial c.in_ok-end.end.arenas.items c.as_slice-2.result.now _ _ c.in_ok-end.end.book c.in_ok-end.end.trays.items c.as_slice-4.result.now
    c.in_ok-end.end.dials c.args.numbers.now _ shown c.in_ok-end.ensures.ends c.laws-2.ensures.ten c.as_slice.ensures.value c.as_slice-2.ensures.value
    (ap (map (λ l. l.items)) c.as_slice-3.ensures.value) c.as_slice-4.ensures.value refl c.in_ok-shown.ensures.shown

pub trim_lines-requires-clause-listed : goal.trim_lines-requires-clause-listed
trim_lines-requires-clause-listed g c =
    rw (c.as_slice-5.ensures.value, c.as_mut_slice.ensures.value)
    (end_listed c.args.self.threads.items c.args.self.serial c.in_ok-end.end.arenas.items _ c.in_ok-end.end.book c.in_ok-end.end.trays.items c.in_ok-end.end.dials c.in_ok-end.ensures.ends c.laws-2.ensures.ten c.laws.ensures)

pub returns-clause-trim : goal.returns-clause-trim
returns-clause-trim g c =
    (rw (c.as_slice-5.ensures.value, c.as_mut_slice.ensures.value) at c.in_ok-lines.ensures)
    ∙ end_trimmed c.args.self.threads.items c.args.self.serial c.in_ok-end.end.arenas.items _ c.in_ok-end.end.book c.in_ok-end.end.trays.items c.in_ok-end.end.dials c.args.trim c.list.result.now c.args.numbers.now
    c.in_ok-end.ensures.ends c.laws-2.ensures.ten c.list.ensures
