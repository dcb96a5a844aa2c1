use Rattle.std.proofs.Common.{◌≡◌, true, false, refl, ◌∙◌, rules}
use Rattle.arena_growth.proofs.HeapGrowth.{extension_short, extension_granted, extension_refused, extension_asked, heap_short, heap_refused, heap_taken, heap_closed, heap_closed_short, asked_allows, grows_err, grows_true, grows_false}
use Rattle.arena_growth.proofs.MainGrowth.{ready_after}
use Rattle.arena_growth.proofs.grow_heaps.grow_heaps.Goals as goal

pub returns-in_err-ask_extension-clause-grows : goal.returns-in_err-ask_extension-clause-grows
returns-in_err-ask_extension-clause-grows g c =
    let asked = rw c.extension_for-growth.ensures at c.in_err-ask_extension.ensures.asked in
    rw c.ask_extension.ensures.arena
    (grows_err c.from_residual.result c.from_residual.ensures.0
    (extension_short _ c.args.t.now c.args.nb _ _ _ _ _ _ _ c.in_err-ask_extension.field-0.0 c.from_residual.result c.from_residual.ensures.0 c.requires.ready.backed.sound asked))

pub returns-then-branch-clause-grows : goal.returns-then-branch-clause-grows
returns-then-branch-clause-grows g c =
    let asked = rw (c.extension_for-growth.ensures, c.if-branch.true) at c.in_ok-ask_extension.ensures.asked in
    let is = rw (c.ask_extension.ensures.arena, c.extension_for-growth.ensures) at c.extend_heap.ensures.arena in
    let gains = rw c.ask_extension.ensures.arena at c.extend_heap.ensures.gains in
    grows_true (extension_granted _ c.args.t.now c.args.nb _ _ _ _ _ _ _ _ c.requires.ready c.requires.other asked is gains)

pub returns-in_err-ask_heap-clause-grows : goal.returns-in_err-ask_heap-clause-grows
returns-in_err-ask_heap-clause-grows g c =
    let refused : c.in_ok-ask_extension.field-0 ≡ false = search rules in
    let first = rw (c.extension_for-growth.ensures, refused) at c.in_ok-ask_extension.ensures.asked in
    let asked = rw (c.ask_extension.ensures.arena, c.heap_for-len.ensures) at c.in_err-ask_heap.ensures.asked in
    rw (c.ask_heap.ensures.arena, c.ask_extension.ensures.arena)
    (grows_err c.from_residual-in_err-ask_heap.result c.from_residual-in_err-ask_heap.ensures.0
    (extension_refused _ c.args.t.now c.args.nb _ _ _ _ _ _ _ _ c.from_residual-in_err-ask_heap.result c.requires.ready first
    (heap_short _ c.args.t.now c.args.nb _ _ _ _ _ _ _ c.in_err-ask_heap.field-0.0 c.from_residual-in_err-ask_heap.result c.from_residual-in_err-ask_heap.ensures.0 c.requires.ready.backed.sound asked)))

pub returns-then-not-branch-clause-grows : goal.returns-then-not-branch-clause-grows
returns-then-not-branch-clause-grows g c =
    let refused : c.in_ok-ask_extension.field-0 ≡ false = search rules in
    let first = rw (c.extension_for-growth.ensures, refused) at c.in_ok-ask_extension.ensures.asked in
    let none : c.in_ok-ask_heap.field-0 ≡ false = search rules in
    let asked = rw (c.ask_extension.ensures.arena, c.heap_for-len.ensures, none) at c.in_ok-ask_heap.ensures.asked in
    let ready = ready_after c.args.t.now c.requires.ready (extension_asked _ c.args.t.now c.args.nb _ _ _ _ _ _ _ false c.requires.ready first) in
    rw (c.ask_heap.ensures.arena, c.ask_extension.ensures.arena)
    (grows_false (extension_refused _ c.args.t.now c.args.nb _ _ _ _ _ _ _ _ _ c.requires.ready first (heap_refused _ c.args.t.now c.args.nb _ _ _ _ _ _ _ ready asked)) refl
    (λ allows. asked_allows _ asked.asks (asked_allows _ first.asks allows)))

pub returns-in_err-close-clause-grows : goal.returns-in_err-close-clause-grows
returns-in_err-close-clause-grows g c =
    let refused : c.in_ok-ask_extension.field-0 ≡ false = search rules in
    let first = rw (c.extension_for-growth.ensures, refused) at c.in_ok-ask_extension.ensures.asked in
    let granted : c.in_ok-ask_heap.field-0 ≡ true = search rules in
    let asked = rw (c.ask_extension.ensures.arena, c.heap_for-len.ensures, granted) at c.in_ok-ask_heap.ensures.asked in
    let ready = ready_after c.args.t.now c.requires.ready (extension_asked _ c.args.t.now c.args.nb _ _ _ _ _ _ _ false c.requires.ready first) in
    let is = rw (c.ask_heap.ensures.arena, c.ask_extension.ensures.arena, c.heap_for-len.ensures) at c.add_heap-rest.ensures.arena in
    let gains = rw (c.add_heap-rest.ensures.rest, c.ask_heap.ensures.arena, c.ask_extension.ensures.arena) at c.add_heap-rest.ensures.gains in
    let closes = rw (c.add_heap-rest.ensures.rest, c.ask_heap.ensures.arena, c.ask_extension.ensures.arena) at c.in_err-close.ensures.closes in
    grows_err c.from_residual-in_err-close.result c.from_residual-in_err-close.ensures.0
    (extension_refused _ c.args.t.now c.args.nb _ _ _ _ _ _ _ _ c.from_residual-in_err-close.result c.requires.ready first
    (heap_closed_short _ c.args.t.now c.args.nb _ _ _ _ _ _ _ _ _ _ _ _ _ c.in_err-close.field-0.0 c.from_residual-in_err-close.result c.from_residual-in_err-close.ensures.0 ready asked is (heap_taken _ _ _ _ c.requires.ready.backed c.requires.other is gains) closes))

pub returns-clause-grows : goal.returns-clause-grows
returns-clause-grows g c =
    let refused : c.in_ok-ask_extension.field-0 ≡ false = search rules in
    let first = rw (c.extension_for-growth.ensures, refused) at c.in_ok-ask_extension.ensures.asked in
    let granted : c.in_ok-ask_heap.field-0 ≡ true = search rules in
    let asked = rw (c.ask_extension.ensures.arena, c.heap_for-len.ensures, granted) at c.in_ok-ask_heap.ensures.asked in
    let ready = ready_after c.args.t.now c.requires.ready (extension_asked _ c.args.t.now c.args.nb _ _ _ _ _ _ _ false c.requires.ready first) in
    let is = rw (c.ask_heap.ensures.arena, c.ask_extension.ensures.arena, c.heap_for-len.ensures) at c.add_heap-rest.ensures.arena in
    let gains = rw (c.add_heap-rest.ensures.rest, c.ask_heap.ensures.arena, c.ask_extension.ensures.arena) at c.add_heap-rest.ensures.gains in
    let closes = rw (c.add_heap-rest.ensures.rest, c.ask_heap.ensures.arena, c.ask_extension.ensures.arena) at c.in_ok-close.ensures.closes in
    grows_true (extension_refused _ c.args.t.now c.args.nb _ _ _ _ _ _ _ _ _ c.requires.ready first
    (heap_closed _ c.args.t.now c.args.nb _ _ _ _ _ _ _ _ _ _ _ _ _ ready asked is (heap_taken _ _ _ _ c.requires.ready.backed c.requires.other is gains) closes))
