use Rattle.std.proofs.Common.{◌≡◌, true, false, None}
use Rattle.std.specs.Prelude.{nat_eq}
use Rattle.std.proofs.lemmas.Bool.{eq-eqb, ne_eqb}
use Rattle.arena_holds.specs.Searching.{or_in_mapping}
use Rattle.arena_holds.proofs.Searches.{err_map, served_next, served_mapping, finds_at_last, finds_main, finds_without}
use Rattle.arena_core.proofs.Opens.{on_err}
use Rattle.arena_holds.proofs.RunningShort.{short_in_main, short_afresh}
use Rattle.arena_holds.proofs.searching.search_again.Goals as goal

pub map_for-requires-clause-served : goal.map_for-requires-clause-served
map_for-requires-clause-served g c = λ k l.
    let laws = g.met.P.Places.laws in
    let chosen = rw c.in-None.is at c.in_ok-tried.ensures.finds in
    served_mapping c.choose_and_search.new.cache laws.fewer (served_next c.args.cache.now c.choose_and_search.new.cache None laws.same laws.fewer c.requires.served chosen.gets.carries)

pub returns-in-Some-clause-finds : goal.returns-in-Some-clause-finds
returns-in-Some-clause-finds g c =
    let main : nat_eq c.args.refused 0 ≡ true = eq-eqb c.args.refused 0 c.if-refused-ne-MAIN.false in
    finds_at_last c.args.refused c.in-Some.tried main (rw c.in-Some.is at c.in_ok-tried.ensures.finds)

pub returns-in-None-clause-finds : goal.returns-in-None-clause-finds
returns-in-None-clause-finds g c =
    let main : nat_eq c.args.refused 0 ≡ true = eq-eqb c.args.refused 0 c.if-refused-ne-MAIN.false in
    let chosen = rw c.in-None.is at c.in_ok-tried.ensures.finds in
    finds_main c.args.refused c.map_for.result.hold c.map_for.result.block main
    (finds_without c.map_for.result.hold c.map_for.result.block (or_in_mapping c.args.act.now c.args.cache.now) g.met.P.Places.laws.same chosen
    (c.map_for.ensures c.args.t.now c.args.who.now c.args.cache.now))

pub returns-then-refused-ne-MAIN-clause-left : goal.returns-then-refused-ne-MAIN-clause-left
returns-then-refused-ne-MAIN-clause-left g c =
    let other : nat_eq c.args.refused 0 ≡ false = ne_eqb c.args.refused 0 c.if-refused-ne-MAIN.true in
    err_map c.search_in.result (λ r. short_in_main c.args.bytes c.args.refused other r) c.search_in.ensures.left

pub returns-in_err-tried-clause-left : goal.returns-in_err-tried-clause-left
returns-in_err-tried-clause-left g c =
    let main : nat_eq c.args.refused 0 ≡ true = eq-eqb c.args.refused 0 c.if-refused-ne-MAIN.false in
    on_err c.from_residual.result (short_afresh c.args.bytes c.args.refused main c.in_err-tried.ensures.left)
