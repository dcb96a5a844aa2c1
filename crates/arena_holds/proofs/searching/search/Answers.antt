use Rattle.std.proofs.Common.{None, sym, ◌∙◌}
use Rattle.arena_holds.specs.Searching.{tried_again}
use Rattle.arena_holds.proofs.Searches.{ok_map, err_map, is_none, served_next, served_mapping, finds_at_once, finds_again, finds_without}
use Rattle.arena_core.proofs.Opens.{on_err}
use Rattle.arena_holds.proofs.RunningShort.{short_at_first, short_again}
use Rattle.arena_holds.proofs.searching.search.Goals as goal

pub map_for-requires-clause-served : goal.map_for-requires-clause-served
map_for-requires-clause-served g c = λ k l.
    let laws = g.met.P.Places.laws in
    let chosen = rw c.in-None.is at c.in_ok-choose_and_search.ensures.finds in
    served_mapping c.choose_and_search.new.cache laws.fewer (served_next c.args.cache.now c.choose_and_search.new.cache None laws.same laws.fewer c.requires.served chosen.gets.carries)

pub search_again-requires-clause-served : goal.search_again-requires-clause-served
search_again-requires-clause-served g c = λ k l.
    let laws = g.met.P.Places.laws in
    let chosen = rw c.in-Some.is at c.in_ok-choose_and_search.ensures.finds in
    served_next c.args.cache.now c.choose_and_search.new.cache c.in-Some.field-0.search.block laws.same laws.fewer c.requires.served chosen.gets.carries

pub search_again-requires-clause-writer : goal.search_again-requires-clause-writer
search_again-requires-clause-writer g c = λ k l.
    let chosen = rw c.in-Some.is at c.in_ok-choose_and_search.ensures.finds in
    chosen.gets.carries.writes c.args.who.now c.requires.writer

pub returns-then-is_some-clause-finds : goal.returns-then-is_some-clause-finds
returns-then-is_some-clause-finds g c =
    finds_at_once c.args.again c.in-Some.field-0 (sym c.is_some.ensures ∙ c.if-is_some.true) (rw c.in-Some.is at c.in_ok-choose_and_search.ensures.finds)

pub returns-in-None-clause-finds : goal.returns-in-None-clause-finds
returns-in-None-clause-finds g c =
    let chosen = rw c.in-None.is at c.in_ok-choose_and_search.ensures.finds in
    finds_without c.map_for.result.hold c.map_for.result.block (tried_again c.args.t.now c.args.who.now.thread c.args.again c.args.act.now c.args.cache.now) g.met.P.Places.laws.same chosen
    (c.map_for.ensures c.args.t.now c.args.who.now c.args.cache.now)

pub returns-else-is_some-clause-finds : goal.returns-else-is_some-clause-finds
returns-else-is_some-clause-finds g c =
    let r = c.in-Some.field-0 in
    let chosen = rw c.in-Some.is at c.in_ok-choose_and_search.ensures.finds in
    ok_map c.search_again.result (λ found again. finds_again c.args.again r found.hold found.block g.met.P.Places.laws.same (is_none r.search.block (sym c.is_some.ensures ∙ c.if-is_some.false)) chosen again) c.search_again.ensures.finds

pub returns-in_err-choose_and_search-clause-left : goal.returns-in_err-choose_and_search-clause-left
returns-in_err-choose_and_search-clause-left g c = on_err c.from_residual.result (short_at_first c.args.again c.in_err-choose_and_search.ensures.left)

pub returns-else-is_some-clause-left : goal.returns-else-is_some-clause-left
returns-else-is_some-clause-left g c =
    let r = c.in-Some.field-0 in
    let chosen = rw c.in-Some.is at c.in_ok-choose_and_search.ensures.finds in
    err_map c.search_again.result (λ short. short_again c.args.again r (is_none r.search.block (sym c.is_some.ensures ∙ c.if-is_some.false)) chosen short) c.search_again.ensures.left
