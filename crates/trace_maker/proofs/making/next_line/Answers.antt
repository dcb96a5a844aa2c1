use Rattle.std.proofs.Common.{◌≡◌, ◌+◌, ◌∙◌, length, arith, rules}
use Rattle.trace_text.specs.Before.{is_held}
use Rattle.trace_maker.specs.HeldMarks.{IsDrawn}
use Rattle.trace_maker.proofs.Loop.{name_is, line_is, noted_is}
use Rattle.trace_maker.proofs.making.next_line.Goals as goal

pub returns-clause-made : goal.returns-clause-made
returns-clause-made c = λ before known place.
    let thread = c.draw-thread.result in
    let name = c.draw-drawn.result + 1 in
    let drawn : IsDrawn thread name = record { known_thread = omega (arith, c.draw-thread.ensures.below); known_name = omega (arith, c.draw-drawn.ensures.below) } in
    let was : c.has-was.result ≡ is_held thread name before = c.has-was.ensures ∙ known.held thread name drawn in
    let width : length c.args.held.now.marks.items ≡ 4100 = search rules in (
      line_is before c.args.maker.now c.draw-thread.new.self c.draw-drawn.new.self c.call.new.self thread c.args.number c.draw-drawn.result c.has-was.result c.in_ok-call.call
          c.draw-thread.ensures.value
          c.draw-thread.ensures.state
          c.draw-drawn.ensures.value
          c.draw-drawn.ensures.state
          was
          c.in_ok-call.ensures
          place,
      noted_is c.args.held.now.marks.items c.note.new.self.marks.items before thread c.args.number name c.in_ok-call.call c.has-was.result c.is_held_after.result
          width
          drawn
          (name_is c.has-was.result thread name c.draw-drawn.new.self c.call.new.self c.in_ok-call.call c.in_ok-call.ensures)
          was
          c.is_held_after.ensures
          c.note.ensures
          known,
    )
