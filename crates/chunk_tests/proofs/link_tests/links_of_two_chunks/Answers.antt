use Rattle.ordinary_bins.proofs.ListLaws.{unlinked_itself}
use Rattle.chunk_tests.proofs.link_tests.links_of_two_chunks.Goals as goal

pub insert_behind-requires-clause-unlisted : goal.insert_behind-requires-clause-unlisted
insert_behind-requires-clause-unlisted g c = rw c.unlink.ensures.lists (unlinked_itself 4096 c.push_front-2.new.self.lists)
