use Rattle.std.proofs.Common.{◌≡◌, Some, subst}
use Rattle.std.specs.Prelude.{option_map}
use Rattle.arena_holds.specs.Places.{kept_of}
use Rattle.arena_holds.proofs.Searches.{ok_map, err_map, finds_held}
use Rattle.arena_holds.proofs.RunningShort.{short_in}
use Rattle.arena_holds.proofs.searching.search_in.Goals as goal

pub returns-clause-finds : goal.returns-clause-finds
returns-clause-finds g c =
    let e : c.lock-hold.result.1 ≡ Some c.unwrap-arena.result = cc in
    let lent = subst (λ o. g.P.Places.ways.lent c.args.p.now c.args.a c.lock-hold.result.0 (option_map (kept_of g.P.Ground.Moves.plain) o) c.lock-hold.new.self) e c.lock-hold.ensures.lent in
    ok_map c.search_lent.result (λ found h. finds_held h) (c.search_lent.ensures.searches c.args.p.now c.args.a (record { writes = c.requires.writer; served = c.requires.served; lent = lent }))

pub returns-clause-left : goal.returns-clause-left
returns-clause-left g c =
    let e : c.lock-hold.result.1 ≡ Some c.unwrap-arena.result = cc in
    let lent = subst (λ o. g.P.Places.ways.lent c.args.p.now c.args.a c.lock-hold.result.0 (option_map (kept_of g.P.Ground.Moves.plain) o) c.lock-hold.new.self) e c.lock-hold.ensures.lent in
    err_map c.search_lent.result (λ h. short_in h) (c.search_lent.ensures.left c.args.p.now c.args.a (record { writes = c.requires.writer; served = c.requires.served; lent = lent }))
