use Rattle.std.proofs.Common.{sym, ◌∙◌}
use Rattle.ordinary_bins.proofs.ListLaws.{last_listed}
use Rattle.chunk_tests.proofs.large_tests.take_last.Goals as goal

pub unlink-requires : goal.unlink-requires
unlink-requires c = last_listed 79 c.args.links.now.lists c.in_ok-last.last (sym c.last.ensures ∙ c.in_ok-last.was)
