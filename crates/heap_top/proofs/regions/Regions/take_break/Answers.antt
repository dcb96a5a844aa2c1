use Rattle.std.proofs.Common.{◌+◌, None, refl, sym, ◌∙◌}
use Rattle.std.proofs.lemmas.Bool.{cond-true, cond-false}
use Rattle.arena_rules.specs.Moves.{top_size, with_top_size, with_moved_top, left_of_top}
use Rattle.arena_rules.specs.Growth.{is_top_at_break, with_break}
use Rattle.heap_top.specs.Regions.{bare_arena, arena_of}
use Rattle.heap_top.proofs.TopLaws.{grown_top_fits, main_grown}
use Rattle.heap_top.proofs.regions.Regions.take_break.Goals as goal

pub returns-then-extends-clause-rest : goal.returns-then-extends-clause-rest
returns-then-extends-clause-rest c =
    let a = bare_arena c.args.self.now c.args.tiles.now.tiles in
    sym (cond-true (is_top_at_break a) None (left_of_top a) (sym c.is_top_at_break-extends.ensures ∙ c.if-extends.true))

pub returns-then-extends-clause-arena : goal.returns-then-extends-clause-arena
returns-then-extends-clause-arena c = λ bins last.
    let a = arena_of c.args.self.now c.args.tiles.now.tiles bins last in
    let b = with_break a c.args.growth in
    c.extend_top.ensures.arena b refl
    ∙ sym (cond-true (is_top_at_break a) (with_top_size b (top_size a + c.args.growth)) (with_moved_top b a.break_at c.args.growth) (sym c.is_top_at_break-extends.ensures ∙ c.if-extends.true))

pub returns-else-extends-clause-rest : goal.returns-else-extends-clause-rest
returns-else-extends-clause-rest c =
    let a = bare_arena c.args.self.now c.args.tiles.now.tiles in
    c.move_top.ensures.rest ∙ sym (cond-false (is_top_at_break a) None (left_of_top a) (sym c.is_top_at_break-extends.ensures ∙ c.if-extends.false))

pub returns-else-extends-clause-arena : goal.returns-else-extends-clause-arena
returns-else-extends-clause-arena c = λ bins last.
    let a = arena_of c.args.self.now c.args.tiles.now.tiles bins last in
    let b = with_break a c.args.growth in
    c.move_top.ensures.arena bins last
    ∙ sym (cond-false (is_top_at_break a) (with_top_size b (top_size a + c.args.growth)) (with_moved_top b a.break_at c.args.growth) (sym c.is_top_at_break-extends.ensures ∙ c.if-extends.false))

pub extend_top-requires-clause-fits : goal.extend_top-requires-clause-fits
extend_top-requires-clause-fits c =
    let a = bare_arena c.args.self.now c.args.tiles.now.tiles in
    grown_top_fits a c.args.growth c.requires.known.row c.requires.range.pages (main_grown a c.args.growth c.requires.main c.requires.range.window)
