use Rattle.std.proofs.Common.{rules}
use Rattle.command_words.proofs.Windows.{whole_window}
use Rattle.command_words.proofs.tuning.set.Goals as goal

pub returns-in-HeapMax-clause-tuned : goal.returns-in-HeapMax-clause-tuned
returns-in-HeapMax-clause-tuned c =
    let pages = whole_window c.args.n (rw c.in-HeapMax.is at c.requires.fits) in
    search rules
