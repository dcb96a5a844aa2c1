use Rattle.std.proofs.Common.{refl, sym, ◌∙◌}
use Rattle.malloc_calls.proofs.Resettlings.{kept_mapped, has_length_fits, remapped_to, remap_refused, served_unremapped, short_unremapped, unremapped_left}
use Rattle.malloc_calls.proofs.in_mapping.realloc_in_mapping.Goals as goal

pub returns-then-has_length-clause-resettles : goal.returns-then-has_length-clause-resettles
returns-then-has_length-clause-resettles g c =
    let same = sym c.has_length.ensures ∙ c.if-has_length.true in
    rw c.kept_block.ensures
    (kept_mapped _ _ _ _ c.args.nb c.args.block c.args.cache.now _ (rw same refl) c.requires.held c.requires.arena (has_length_fits c.args.nb c.args.block same))

pub keep_or_move-requires-clause-served : goal.keep_or_move-requires-clause-served
keep_or_move-requires-clause-served g c = λ k l.
    served_unremapped c.args.block c.in-Err.block c.args.cache.now c.in-Err.ensures.remaps g.met.P.Places.laws.same c.requires.served

pub returns-in-Ok-clause-resettles : goal.returns-in-Ok-clause-resettles
returns-in-Ok-clause-resettles g c =
    remapped_to c.args.who.now.thread c.args.size c.args.nb c.args.block c.in-Ok.changed c.args.cache.now c.remapped.result
    (sym c.has_length.ensures ∙ c.if-has_length.false) (c.remapped.ensures c.args.block refl) c.in-Ok.ensures.remaps g.met.P.Places.laws.same

pub returns-in-Err-clause-resettles : goal.returns-in-Err-clause-resettles
returns-in-Err-clause-resettles g c =
    remap_refused c.args.t.now c.args.who.now c.args.who.now.thread c.args.size c.args.nb c.args.block c.in-Err.block c.args.cache.now c.keep_or_move.new.cache _ c.keep_or_move.result
    (sym c.has_length.ensures ∙ c.if-has_length.false) c.in-Err.ensures.remaps g.met.P.Places.laws.same c.keep_or_move.ensures.resettles

pub returns-in-Err-clause-short : goal.returns-in-Err-clause-short
returns-in-Err-clause-short g c =
    short_unremapped c.args.block c.in-Err.block c.args.cache.now c.keep_or_move.new.cache _ c.keep_or_move.result c.in-Err.ensures.remaps g.met.P.Places.laws.same
    c.keep_or_move.ensures.short

pub returns-in-Err-clause-left : goal.returns-in-Err-clause-left
returns-in-Err-clause-left g c =
    unremapped_left c.args.t.now c.args.who.now c.args.who.now.thread c.args.size c.args.nb c.args.block c.in-Err.block c.args.cache.now _ c.keep_or_move.result
    (sym c.has_length.ensures ∙ c.if-has_length.false) c.in-Err.ensures.remaps c.keep_or_move.ensures.left
