use Rattle.std.proofs.Common.{◌≡◌, length, sym, arith}
use Rattle.part_words.proofs.Filled.{filled_enough}
use Rattle.part_words.proofs.PageLaws.{pages_for, length-seen, part_longer, seen_longer, on_err}
use Rattle.part_words.proofs.part.Part.open.Goals as goal
use Rattle.part_words.proofs.part.Part.open.Goals.{After-self}

count : (g : _) → (c : After-self g) → length c.args.self.now ≡ c.self.inside.len
count g c =
    length-seen g.T.Word.UNWRITTEN g.row.PAGE _ c.self.inside.codes.items c.self.inside.lone c.self.inside.whole _ c.self.view_is

pub returns-then-end-self-clause-ok : goal.returns-then-end-self-clause-ok
returns-then-end-self-clause-ok g c =
    sym (filled_enough c.args.end g.T.Word.UNWRITTEN c.args.self.now (omega (arith, c.if-end-self.true, count g (goal.at.returns-then-end-self-clause-ok g c).After-self)))

pub returns-in_err-make_room_for_pages-clause-full : goal.returns-in_err-make_room_for_pages-clause-full
returns-in_err-make_room_for_pages-clause-full g c =
    on_err c.from_residual.result (omega (arith, c.if-end-self.false, count g (goal.at.returns-in_err-make_room_for_pages-clause-full g c).After-self))

pub invariant_of-self-2 : goal.invariant_of-self-2
invariant_of-self-2 g c =
    let m = c.make_room_for_pages.ensures in
    let e = c.in_ok-make_room_for_pages.ensures.codes in
    let p = pages_for g.row.PAGE c.args.end c.div_ceil-count.result c.self.invariant.paged.size.some c.div_ceil-count.ensures in
    rw e (part_longer g.T.Word.UNWRITTEN g.row.PAGE _ c.args.end _ c.self.inside.codes.items c.self.inside.lone c.make_room_for_pages.new.lone c.self.inside.whole c.make_room_for_pages.new.whole c.self.invariant (omega (arith, c.if-end-self.false)) p.0 p.1 m.lone.words m.whole.words (rw e at m.paged))

pub returns-clause-ok : goal.returns-clause-ok
returns-clause-ok g c =
    let m = c.make_room_for_pages.ensures in
    rw c.in_ok-make_room_for_pages.ensures.codes (seen_longer g.T.Word.UNWRITTEN g.row.PAGE _ c.args.end _ c.self.inside.codes.items c.self.inside.lone c.make_room_for_pages.new.lone c.self.inside.whole c.make_room_for_pages.new.whole _ c.self.view_is c.self.invariant (omega (arith, c.if-end-self.false)) m.lone.words m.whole.words)
