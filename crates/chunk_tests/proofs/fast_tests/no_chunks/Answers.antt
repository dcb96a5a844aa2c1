use Rattle.std.proofs.Common.{ap}
use Rattle.chunk_tags.specs.BinOrder.{times_in}
use Rattle.fast_bins.specs.PlainBins.{FastState, empty_state, chunks_of}
use Rattle.chunk_tests.proofs.fast_tests.no_chunks.Goals as goal

pub returns : goal.returns
unfolding empty_state
returns c = λ e. ap (λ (s : FastState). times_in e (chunks_of s)) c.new.ensures
