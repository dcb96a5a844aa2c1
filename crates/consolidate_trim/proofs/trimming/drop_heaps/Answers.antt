use Rattle.std.proofs.Common.{rules, ◌≡◌, ◌∙◌, sym, Bool, true, false, Some, None}
use Rattle.arena_rules.specs.Heaps.{end_before_heap}
use Rattle.arena_rules.specs.Trim.{is_enough_end}
use Rattle.consolidate_trim.proofs.HeapTrims.{dropping_here, dropping_more, dropping_sound, dropping_other, dropped_none, dropped_short, drop_given}
use Rattle.consolidate_trim.proofs.trimming.drop_heaps.Goals as goal

pub loop-end-init : goal.loop-end-init
loop-end-init g c = dropping_here _ _ c.requires.sound

pub end_before-requires-clause-sound : goal.end_before-requires-clause-sound
end_before-requires-clause-sound g c = dropping_sound c.loop-end.invariant

pub end_before-requires-clause-other : goal.end_before-requires-clause-other
end_before-requires-clause-other g c = dropping_other c.loop-end.invariant c.requires.other

pub last_heap-heap-requires : goal.last_heap-heap-requires
last_heap-heap-requires g c = dropping_other c.loop-end.invariant c.requires.other

pub last_length-len-requires : goal.last_length-len-requires
last_length-len-requires g c = dropping_other c.loop-end.invariant c.requires.other

pub drop_heap-requires-clause-sound : goal.drop_heap-requires-clause-sound
drop_heap-requires-clause-sound g c = dropping_sound c.loop-end.invariant

pub drop_heap-requires-clause-other : goal.drop_heap-requires-clause-other
drop_heap-requires-clause-other g c = dropping_other c.loop-end.invariant c.requires.other

pub loop-end-preserved : goal.loop-end-preserved
loop-end-preserved g c =
    let enough : is_enough_end c.args.t.now c.in-Some.end ≡ true = search rules in
    dropping_more c.in-Some.end c.loop-end.invariant (sym c.end_before.ensures ∙ c.in-Some.is) enough c.drop_heap.ensures.arena c.drop_heap.ensures.gains c.drop_heap.ensures.fewer
    (drop_given _ _ _ _ _ _ c.number-arena.ensures c.last_heap-heap.ensures.heap c.last_length-len.ensures.length c.back.ensures)

pub returns-then-not-is_enough : goal.returns-then-not-is_enough
returns-then-not-is_enough g c = λ go.
    let less : is_enough_end c.args.t.now c.in-Some.end ≡ false = search rules in
    dropped_short c.in-Some.end go c.loop-end.invariant (sym c.end_before.ensures ∙ c.in-Some.is) less

pub returns-in_default : goal.returns-in_default
returns-in_default g c = λ go.
    let none : end_before_heap (g.M.Moves.plain c.loop-end.g) ≡ None = search rules in
    dropped_none go c.loop-end.invariant none
