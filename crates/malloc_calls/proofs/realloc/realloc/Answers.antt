use Rattle.std.proofs.Common.{◌≡◌, false, sym, ◌∙◌, arith}
use Rattle.std.proofs.lemmas.Bool.Decides.{nat_tests}
use Rattle.std.specs.Prelude.{nat_eq}
use Rattle.arena_holds.proofs.Going.{does_here}
use Rattle.malloc_calls.proofs.Resettlings.{realloc_big, realloc_left, freed_fits, freed_never, freed_others}
use Rattle.malloc_calls.proofs.realloc.realloc.Goals as goal

pub returns-in_default-clause-does : goal.returns-in_default-clause-does
returns-in_default-clause-does g c = rw (sym c.in_default.ensures.block) (does_here _ _)

pub returns-then-size-eq0-clause-fits : goal.returns-then-size-eq0-clause-fits
returns-then-size-eq0-clause-fits g c = freed_fits _ c.args.name c.args.own.now.names c.free.new.own.names c.free.result c.free.ensures.freed c.free.ensures.taken

pub returns-then-size-eq0-clause-refused : goal.returns-then-size-eq0-clause-refused
returns-then-size-eq0-clause-refused g c = freed_never _ c.free.result c.free.ensures.freed

pub returns-then-size-eq0-clause-others : goal.returns-then-size-eq0-clause-others
returns-then-size-eq0-clause-others g c =
    freed_others _ c.args.t.now c.args.who.now _ c.args.name c.args.own.now.names c.free.new.own.names c.free.result c.free.ensures.taken c.free.ensures.names

pub returns-in-None-clause-does : goal.returns-in-None-clause-does
returns-in-None-clause-does g c =
    let some : nat_eq c.args.size 0 ≡ false = grind (arith, nat_tests, c.if-size-eq0.false) in
    realloc_big _ _ _ c.args.who.now.thread c.args.name c.args.size c.in-Some._named c.args.own.now _ (sym c.in-Some.ensures.block) some (sym c.request_size.ensures ∙ c.in-None.is)

pub returns-in-Some-request_size-clause-left : goal.returns-in-Some-request_size-clause-left
returns-in-Some-request_size-clause-left g c =
    let some : nat_eq c.args.size 0 ≡ false = grind (arith, nat_tests, c.if-size-eq0.false) in
    realloc_left _ _ _ c.args.who.now.thread c.args.name c.args.size c.in-Some-request_size.nb c.in-Some._named c.args.own.now _ _ c.realloc_name.result
    (sym c.in-Some.ensures.block) some (sym c.request_size.ensures ∙ c.in-Some-request_size.is) c.realloc_name.ensures.left
