use Rattle.std.proofs.Common.{map, fold, ap, ◌∙◌}
use Rattle.malloc_calls.specs.Threads.{own_of}
use Rattle.world_view.specs.Places.{threads_finds}
use Rattle.world_view.specs.Sights.{seen_in, put_seen}
use Rattle.world_view.proofs.Seeing.{places_seen, mapped_seen}
use Rattle.world_view.proofs.finds.sights.Goals as goal

pub returns-clause-found : goal.returns-clause-found
unfolding seen_in
returns-clause-found g c =
    places_seen (seen_in c.see_threads.new.sights) (seen_in c.see_trays.new.sights) (map own_of c.args.threads.now) c.args.trays.now
    (c.in_ok-see_threads.ensures ∙ ap (λ x. fold put_seen x (threads_finds 0 (map own_of c.args.threads.now))) c.new-sights.ensures) c.in_ok-see_trays.ensures

pub returns-clause-mapped : goal.returns-clause-mapped
unfolding seen_in
returns-clause-mapped g c =
    mapped_seen (seen_in c.see_threads.new.sights) (seen_in c.see_trays.new.sights) (map own_of c.args.threads.now) c.args.trays.now
    (c.in_ok-see_threads.ensures ∙ ap (λ x. fold put_seen x (threads_finds 0 (map own_of c.args.threads.now))) c.new-sights.ensures) c.in_ok-see_trays.ensures
