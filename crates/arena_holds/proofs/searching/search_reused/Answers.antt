use Rattle.std.proofs.Common.{◌≡◌, Some, sym, ap, ◌∙◌, subst}
use Rattle.std.specs.Prelude.{option_map}
use Rattle.arena_holds.specs.Places.{kept_of}
use Rattle.arena_holds.specs.Searching.{avoided}
use Rattle.arena_holds.proofs.Searches.{chosen_reused}
use Rattle.arena_core.proofs.Opens.{on_err}
use Rattle.arena_holds.proofs.RunningShort.{short_reused}
use Rattle.arena_holds.proofs.searching.search_reused.Goals as goal
use Rattle.arena_holds.proofs.searching.search_reused.Goals.{then-fresh, else-fresh}

pub returns-clause-finds : goal.returns-clause-finds
returns-clause-finds g c =
    let ways = g.P.Places.ways in
    let e : c.lock_free-a.result.2 ≡ Some c.unwrap-arena.result = cc in
    let lent = subst (λ o. ways.lent c.args.p.now c.lock_free-a.result.0 c.lock_free-a.result.1 (option_map (kept_of g.P.Ground.Moves.plain) o) c.lock_free-a.new.self) e c.lock_free-a.ensures.lent in
    let avoid : c.if-fresh.avoid ≡ avoided c.args.fresh = elim c.if-fresh.branch [ then-fresh w ↦ w.avoid-is ∙ sym (ap avoided w.if-fresh.true) | else-fresh w ↦ w.avoid-is ∙ sym (ap avoided w.if-fresh.false) ] in
    let free = subst (λ o. ways.free c.args.p.now c.args.start o c.lock_free-a.result.0) avoid c.lock_free-a.ensures.free in
    chosen_reused c.args.fresh c.in_ok-search.search g.met.P.Places.laws.same free
    (c.in_ok-search.ensures.searches c.args.p.now c.lock_free-a.result.0 (record { writes = c.requires.writer; served = c.requires.served; lent = lent })) c.reuse.ensures

pub returns-in_err-search-clause-left : goal.returns-in_err-search-clause-left
returns-in_err-search-clause-left g c =
    let ways = g.P.Places.ways in
    let e : c.lock_free-a.result.2 ≡ Some c.unwrap-arena.result = cc in
    let lent = subst (λ o. ways.lent c.args.p.now c.lock_free-a.result.0 c.lock_free-a.result.1 (option_map (kept_of g.P.Ground.Moves.plain) o) c.lock_free-a.new.self) e c.lock_free-a.ensures.lent in
    let avoid : c.if-fresh.avoid ≡ avoided c.args.fresh = elim c.if-fresh.branch [ then-fresh w ↦ w.avoid-is ∙ sym (ap avoided w.if-fresh.true) | else-fresh w ↦ w.avoid-is ∙ sym (ap avoided w.if-fresh.false) ] in
    let free = subst (λ o. ways.free c.args.p.now c.args.start o c.lock_free-a.result.0) avoid c.lock_free-a.ensures.free in
    on_err c.from_residual.result (short_reused c.args.fresh free (c.in_err-search.ensures.left c.args.p.now c.lock_free-a.result.0 (record { writes = c.requires.writer; served = c.requires.served; lent = lent })))

pub reuse-requires : goal.reuse-requires
reuse-requires g c =
    let ways = g.P.Places.ways in
    let e : c.lock_free-a.result.2 ≡ Some c.unwrap-arena.result = cc in
    let lent = subst (λ o. ways.lent c.args.p.now c.lock_free-a.result.0 c.lock_free-a.result.1 (option_map (kept_of g.P.Ground.Moves.plain) o) c.lock_free-a.new.self) e c.lock_free-a.ensures.lent in
    let searches = c.in_ok-search.ensures.searches c.args.p.now c.lock_free-a.result.0 (record { writes = c.requires.writer; served = c.requires.served; lent = lent }) in
    record { listed = searches.lists c.lock_free-a.result.0 c.lock_free-a.ensures.listed }
