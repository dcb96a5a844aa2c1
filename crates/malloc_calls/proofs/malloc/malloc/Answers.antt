use Rattle.std.proofs.Common.{sym, ◌∙◌, arith}
use Rattle.own_blocks.proofs.Calling.{carries_cache}
use Rattle.arena_core.proofs.Opens.{on_err}
use Rattle.arena_holds.proofs.Carrying.{carries_err}
use Rattle.arena_holds.proofs.Going.{does_here}
use Rattle.malloc_calls.proofs.Namings.{named_does, named_left, named_carries, padded_small, named_fits}
use Rattle.malloc_calls.proofs.malloc.malloc.Goals as goal

pub returns-in_default-clause-does : goal.returns-in_default-clause-does
returns-in_default-clause-does g c = rw (sym c.request_size.ensures ∙ c.in_default.is) (does_here _ _)

pub returns-in_err-got-clause-carries : goal.returns-in_err-got-clause-carries
returns-in_err-got-clause-carries g c =
    carries_err c.from_residual.result c.from_residual.ensures.0
    (carries_cache g.met.P.Places.laws.same c.args.own.now.cache c.plain_supply.new.cache c.args.own.now.names c.in_err-got.ensures.short)

pub returns-clause-does : goal.returns-clause-does
returns-clause-does g c =
    rw (sym c.request_size.ensures ∙ c.in-Some.is)
    (named_does c.args.name c.args.own.now c.in_ok-got.got c.answer.result c.answer.new.names c.in_ok-got.ensures.supplies c.answer.ensures.reply c.answer.ensures.names)

pub returns-clause-carries : goal.returns-clause-carries
returns-clause-carries g c =
    named_carries c.args.name c.args.own.now c.in_ok-got.got c.answer.new.names g.met.P.Places.laws.same c.requires.room c.requires.empty
    c.in_ok-got.ensures.supplies c.answer.ensures.names

pub plain_supply-requires-clause-bytes : goal.plain_supply-requires-clause-bytes
plain_supply-requires-clause-bytes g c = omega (arith, padded_small c.args.size _ (sym c.request_size.ensures ∙ c.in-Some.is))

pub returns-clause-fits : goal.returns-clause-fits
returns-clause-fits g c =
    named_fits c.args.size _ c.args.name c.in_ok-got.got c.args.own.now.names c.answer.new.names (sym c.request_size.ensures ∙ c.in-Some.is) c.requires.room c.requires.empty
    c.answer.ensures.names c.in_ok-got.ensures.supplies.fits

pub returns-in_err-got-clause-left : goal.returns-in_err-got-clause-left
returns-in_err-got-clause-left g c =
    on_err c.from_residual.result (rw (sym c.request_size.ensures ∙ c.in-Some.is) (named_left c.args.name c.args.own.now c.in_err-got.ensures.left))
