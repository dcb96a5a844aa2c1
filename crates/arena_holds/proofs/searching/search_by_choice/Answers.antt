use Rattle.std.proofs.Common.{inl, inr}
use Rattle.arena_holds.specs.Places.{in_cache}
use Rattle.arena_core.proofs.Opens.{on_err}
use Rattle.arena_holds.proofs.Carrying.{carries_short, carries_then}
use Rattle.arena_holds.proofs.Opened.{served_opened}
use Rattle.arena_holds.proofs.Searches.{chosen_in, chosen_new, chosen_refused}
use Rattle.arena_holds.proofs.RunningShort.{short_chosen, short_unopened, short_new}
use Rattle.arena_holds.proofs.searching.search_by_choice.Goals as goal

pub returns-then-not-branch-clause-finds : goal.returns-then-not-branch-clause-finds
returns-then-not-branch-clause-finds g c =
    let refused = rw c.if-not-branch.true at c.in_ok-open_arena-in-New.ensures.opens in
    rw c.in-New.is (chosen_refused c.in-New.a g.met.P.Places.laws.same refused)

pub search_in-requires-clause-served : goal.search_in-requires-clause-served
search_in-requires-clause-served g c = λ k l.
    served_opened g.met.P.Places.laws.same c.requires.reached (c.in_ok-open_arena-in-New.ensures.opens.carries (in_cache c.args.cache.now)) c.in_ok-open_arena-in-New.ensures.opens.whole

pub search_in-requires-clause-writer : goal.search_in-requires-clause-writer
search_in-requires-clause-writer g c = λ k l. (c.in_ok-open_arena-in-New.ensures.opens.carries (in_cache c.args.cache.now)).writes c.args.who.now c.requires.writer

pub returns-in_err-search-in-New-clause-short : goal.returns-in_err-search-in-New-clause-short
returns-in_err-search-in-New-clause-short g c =
    on_err c.from_residual-in_err-search-in-New.result (carries_then (c.in_ok-open_arena-in-New.ensures.opens.carries (in_cache c.args.cache.now)) c.in_err-search-in-New.ensures.short)

pub returns-in_ok-search-in-New-clause-finds : goal.returns-in_ok-search-in-New-clause-finds
returns-in_ok-search-in-New-clause-finds g c =
    let opened = rw c.if-not-branch.false at c.in_ok-open_arena-in-New.ensures.opens in
    rw c.in-New.is (chosen_new c.in-New.a c.in_ok-search-in-New.search opened c.in_ok-search-in-New.ensures.finds)

pub returns-in_ok-search-in-Attached-clause-finds : goal.returns-in_ok-search-in-Attached-clause-finds
returns-in_ok-search-in-Attached-clause-finds g c = elim c.in-Attached.is [
  | inl is ↦ rw is (chosen_in c.in-Attached.a c.in_ok-search-in-Attached.search c.in_ok-search-in-Attached.ensures.finds)
  | inr is ↦ rw is (chosen_in c.in-Attached.a c.in_ok-search-in-Attached.search c.in_ok-search-in-Attached.ensures.finds)
]

pub returns-in_err-open_arena-in-New-clause-short : goal.returns-in_err-open_arena-in-New-clause-short
returns-in_err-open_arena-in-New-clause-short g c =
    on_err c.from_residual.result (carries_short (c.in_err-open_arena-in-New.ensures.short (in_cache c.args.cache.now)))

pub returns-in_err-open_arena-in-New-clause-left : goal.returns-in_err-open_arena-in-New-clause-left
returns-in_err-open_arena-in-New-clause-left g c =
    rw c.in-New.is (on_err c.from_residual.result (short_unopened c.args.act.now c.args.cache.now c.in_err-open_arena-in-New.ensures.left))

pub returns-in_err-search-in-New-clause-left : goal.returns-in_err-search-in-New-clause-left
returns-in_err-search-in-New-clause-left g c =
    let opened = rw c.if-not-branch.false at c.in_ok-open_arena-in-New.ensures.opens in
    rw c.in-New.is (on_err c.from_residual-in_err-search-in-New.result (short_new c.in-New.a opened c.in_err-search-in-New.ensures.left))

pub returns-in_err-search-in-Attached-clause-left : goal.returns-in_err-search-in-Attached-clause-left
returns-in_err-search-in-Attached-clause-left g c = elim c.in-Attached.is [
  | inl is ↦ rw is (on_err c.from_residual-in_err-search-in-Attached.result (short_chosen c.in-Attached.a c.in_err-search-in-Attached.ensures.left))
  | inr is ↦ rw is (on_err c.from_residual-in_err-search-in-Attached.result (short_chosen c.in-Attached.a c.in_err-search-in-Attached.ensures.left))
]
