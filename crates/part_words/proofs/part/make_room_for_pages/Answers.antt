use Rattle.std.proofs.Common.{◌≡◌, ◌+◌, ◌∙◌, length, ap, arith}
use Rattle.part_words.specs.Parts.{filled}
use Rattle.part_words.proofs.PageLaws.{paged_more, resized}
use Rattle.part_words.proofs.part.make_room_for_pages.Goals as goal
use Rattle.part_words.proofs.part.make_room_for_pages.Goals.{In_ok-resize}

grown : (g : _) → (c : In_ok-resize g) → c.resize.new.self.items ≡ filled c.args.count 0 c.args.codes.now.items
grown g c =
    let ps = c.args.codes.now.items in
    let same = c.make_room_for.ensures.items in
    let len : c.len-len.result ≡ length ps = omega (arith, c.len-len.ensures, c.make_room_for.new.list.ok.0, ap length same) in
    c.in_ok-resize.ensures.items ∙ resized c.make_room_for.new.list.items ps c.args.count (c.len-len.result + c.saturating_sub-more.result) _ 0 same (omega (arith, len)) (omega (arith, len, c.saturating_sub-more.ensures, c.len.ensures, c.args.codes.now.ok.0)) (omega (arith, len, c.len-len.ensures))

pub returns-clause-paged : goal.returns-clause-paged
returns-clause-paged g c =
    rw (grown g (goal.at.returns-clause-paged g c).In_ok-resize) (paged_more g.T.Word.UNWRITTEN g.row.PAGE c.args.codes.now.items c.args.lone.now c.make_room.new.self c.args.whole.now c.make_room-2.new.self c.args.count c.requires.paged c.make_room.ensures.widens c.make_room-2.ensures.widens (omega (arith, c.if-count-gt-MOST_PAGES.false)) c.in_ok-make_room.ensures.room c.in_ok-make_room-2.ensures.room)
