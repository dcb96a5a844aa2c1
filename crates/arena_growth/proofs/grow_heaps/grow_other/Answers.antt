use Rattle.std.proofs.Common.{◌≡◌, true, false, ◌||◌, rules}
use Rattle.arena_growth.proofs.Cutting.{other_short, other_ends, refused_ends, heaps_ready}
use Rattle.arena_growth.proofs.grow_heaps.grow_other.Goals as goal

pub returns-in_err-grown-clause-finds : goal.returns-in_err-grown-clause-finds
returns-in_err-grown-clause-finds g c = other_short _ c.args.t.now c.args.nb c.args.tried _ _ c.in_err-grown.field-0.0 c.from_residual.result c.from_residual.ensures.0 c.in_err-grown.ensures.grows

pub returns-then-grown-clause-finds : goal.returns-then-grown-clause-finds
returns-then-grown-clause-finds g c =
    let is : (c.in_ok-grown.grown || c.args.tried) ≡ true = search rules in
    other_ends _ c.args.t.now c.args.nb c.args.tried _ _ c.in_ok-grown.grown _ c.cut_from_grown.result is c.in_ok-grown.ensures.grows c.cut_from_grown.ensures.cut

pub map_or_grow_again-requires-clause-ready : goal.map_or_grow_again-requires-clause-ready
map_or_grow_again-requires-clause-ready g c = λ k l.
    let refused : c.in_ok-grown.grown ≡ false = search rules in
    heaps_ready c.requires.ready refused c.in_ok-grown.ensures.grows

pub map_or_grow_again-requires-clause-allows : goal.map_or_grow_again-requires-clause-allows
map_or_grow_again-requires-clause-allows g c = λ k l.
    let refused : c.in_ok-grown.grown ≡ false = search rules in
    let untried : c.args.tried ≡ false = search rules in
    c.in_ok-grown.ensures.grows.allows (c.requires.allows untried) refused

pub returns-clause-finds : goal.returns-clause-finds
returns-clause-finds g c =
    let refused : c.in_ok-grown.grown ≡ false = search rules in
    let untried : c.args.tried ≡ false = search rules in
    refused_ends _ c.args.t.now c.args.nb c.args.tried c.in_ok-grown.grown _ _ _ c.map_or_grow_again.result untried refused c.in_ok-grown.ensures.grows c.map_or_grow_again.ensures.finds
