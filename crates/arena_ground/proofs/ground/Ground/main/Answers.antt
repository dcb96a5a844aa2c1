use Rattle.std.proofs.Common.{[], None, rules, sym, ap, ◌∙◌}
use Rattle.heap_top.specs.Regions.{arena_of}
use Rattle.arena_ground.proofs.Firsts.{none_first}
use Rattle.arena_ground.proofs.Opened.{empty_at}
use Rattle.arena_ground.proofs.ground.Ground.main.Goals as goal

pub returns : goal.returns
returns c = rw (c.new-3.ensures, c.in_ok-links.ensures.lists) (ap (λ bins. arena_of c.main.result [] bins None) (empty_at []) ∙ c.main.ensures.arena)

pub invariant_of-result : goal.invariant_of-result
invariant_of-result c = record { ground = search rules; firsts = none_first _ c.in_ok-links.links c.in_ok-firsts.firsts c.in_ok-links.ensures.lists c.in_ok-firsts.ensures.lists (c.in_ok-firsts.ensures.extent ∙ sym c.in_ok-links.ensures.extent) }
