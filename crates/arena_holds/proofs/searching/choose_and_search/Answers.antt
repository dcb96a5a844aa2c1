use Rattle.arena_holds.proofs.Opened.{carries_aside, reached_aside}
use Rattle.arena_holds.proofs.Searches.{ok_map, err_map, chosen_by_book}
use Rattle.arena_holds.proofs.RunningShort.{short_by_book}
use Rattle.arena_holds.proofs.searching.choose_and_search.Goals as goal

pub search_by_choice-requires-clause-reached : goal.search_by_choice-requires-clause-reached
search_by_choice-requires-clause-reached g c = λ k l. reached_aside c.choose-choice.ensures.aside c.requires.served

pub search_by_choice-requires-clause-writer : goal.search_by_choice-requires-clause-writer
search_by_choice-requires-clause-writer g c = λ k l. c.choose-choice.ensures.aside.writes c.args.who.now c.requires.writer

pub returns-clause-finds : goal.returns-clause-finds
returns-clause-finds g c =
    ok_map c.search_by_choice.result (λ tried f. chosen_by_book c.args.bytes c.args.fresh c.choose-choice.result tried c.search_by_choice.ensures.whole c.choose-choice.ensures f) c.search_by_choice.ensures.finds

pub returns-clause-short : goal.returns-clause-short
returns-clause-short g c = err_map c.search_by_choice.result (λ short. carries_aside c.choose-choice.ensures.aside c.search_by_choice.ensures.whole short) c.search_by_choice.ensures.short

pub returns-clause-left : goal.returns-clause-left
returns-clause-left g c =
    err_map c.search_by_choice.result (λ r. short_by_book c.args.bytes c.args.fresh c.args.act.now c.args.cache.now c.choose-choice.result c.choose-choice.ensures r) c.search_by_choice.ensures.left
