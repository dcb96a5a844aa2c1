use Rattle.chunk_tags.specs.declared.block.Block.{Block}
use Rattle.chunk_tags.specs.Pages.{user_address}
use Rattle.std.proofs.Common.{◌≡◌, ◌-◌, ◌^◌, true, false, inl, sym, ◌∙◌, arith, ◌%◌}
use Rattle.std.proofs.lemmas.Bool.{leb-true}
use Rattle.std.proofs.lemmas.Bool.Decides.{nat_tests}
use Rattle.std.specs.Prelude.{nat_le}
use Rattle.arena_rules.specs.Align.{request_with_lead}
use Rattle.own_blocks.proofs.Calling.{carries_cache}
use Rattle.arena_core.proofs.Opens.{on_err}
use Rattle.arena_holds.proofs.Carrying.{carries_err}
use Rattle.arena_holds.proofs.Going.{does_here}
use Rattle.malloc_calls.proofs.Namings.{named_does, named_left, named_carries, is_alignment, padded_chunk, named_fits, named_is}
use Rattle.malloc_calls.proofs.malloc.posix_memalign.Goals as goal

pub returns-in_default-clause-does : goal.returns-in_default-clause-does
returns-in_default-clause-does g c = rw (sym c.request_size.ensures ∙ c.in_default.is) (does_here _ _)

pub returns-then-not-is_memalign-clause-does : goal.returns-then-not-is_memalign-clause-does
returns-then-not-is_memalign-clause-does g c =
    rw (sym c.request_size.ensures ∙ c.in-Some.is, sym c.if-not-is_memalign.ensures) (does_here _ _)

pub returns-in_err-got-clause-carries : goal.returns-in_err-got-clause-carries
returns-in_err-got-clause-carries g c =
    carries_err c.from_residual.result c.from_residual.ensures.0
    (carries_cache g.met.P.Places.laws.same c.args.own.now.cache c.plain_supply.new.cache c.args.own.now.names c.in_err-got.ensures.short)

pub returns-then-align-le-LEAST_ALIGNMENT-clause-does : goal.returns-then-align-le-LEAST_ALIGNMENT-clause-does
returns-then-align-le-LEAST_ALIGNMENT-clause-does g c =
    let low : nat_le c.args.align 16 ≡ true = grind (arith, nat_tests, c.if-align-le-LEAST_ALIGNMENT.true) in
    rw (sym c.request_size.ensures ∙ c.in-Some.is, sym c.if-not-is_memalign.ensures, low)
    (named_does c.args.name c.args.own.now c.in_ok-got.got c.answer.result c.answer.new.names c.in_ok-got.ensures.supplies c.answer.ensures.reply c.answer.ensures.names)

pub returns-then-align-le-LEAST_ALIGNMENT-clause-carries : goal.returns-then-align-le-LEAST_ALIGNMENT-clause-carries
returns-then-align-le-LEAST_ALIGNMENT-clause-carries g c =
    named_carries c.args.name c.args.own.now c.in_ok-got.got c.answer.new.names g.met.P.Places.laws.same c.requires.room c.requires.empty
    c.in_ok-got.ensures.supplies c.answer.ensures.names

pub returns-then-not-has_lead_in_range-clause-does : goal.returns-then-not-has_lead_in_range-clause-does
returns-then-not-has_lead_in_range-clause-does g c =
    let high : nat_le c.args.align 16 ≡ false = grind (arith, nat_tests, c.if-align-le-LEAST_ALIGNMENT.false) in
    rw (sym c.request_size.ensures ∙ c.in-Some.is, sym c.if-not-is_memalign.ensures, high, sym c.if-not-has_lead_in_range.ensures)
    (does_here _ _)

pub supply_from_arena-requires-clause-act : goal.supply_from_arena-requires-clause-act
supply_from_arena-requires-clause-act g c = λ k l.
    let high : nat_le c.args.align 16 ≡ false = grind (arith, nat_tests, c.if-align-le-LEAST_ALIGNMENT.false) in
    let most : nat_le (request_with_lead c.args.align c.in-Some.nb) (2 ^ 63 - 1) ≡ true = sym c.if-not-has_lead_in_range.ensures in (
      padded_chunk c.args.size c.in-Some.nb (sym c.request_size.ensures ∙ c.in-Some.is),
      (is_alignment c.args.align (sym c.if-not-is_memalign.ensures) high, leb-true _ _ most),
    )

pub returns-in_err-got-2-clause-carries : goal.returns-in_err-got-2-clause-carries
returns-in_err-got-2-clause-carries g c =
    carries_err c.from_residual-in_err-got-2.result c.from_residual-in_err-got-2.ensures.0
    (carries_cache g.met.P.Places.laws.same c.args.own.now.cache c.supply_from_arena.new.cache c.args.own.now.names c.in_err-got-2.ensures.short)

pub returns-clause-does : goal.returns-clause-does
returns-clause-does g c =
    let high : nat_le c.args.align 16 ≡ false = grind (arith, nat_tests, c.if-align-le-LEAST_ALIGNMENT.false) in
    rw (sym c.request_size.ensures ∙ c.in-Some.is, sym c.if-not-is_memalign.ensures, high, sym c.if-not-has_lead_in_range.ensures)
    (named_does c.args.name c.args.own.now c.in_ok-got-2.got c.answer-2.result c.answer-2.new.names c.in_ok-got-2.ensures.supplies c.answer-2.ensures.reply c.answer-2.ensures.names)

pub returns-clause-carries : goal.returns-clause-carries
returns-clause-carries g c =
    named_carries c.args.name c.args.own.now c.in_ok-got-2.got c.answer-2.new.names g.met.P.Places.laws.same c.requires.room c.requires.empty
    c.in_ok-got-2.ensures.supplies c.answer-2.ensures.names

pub returns-then-align-le-LEAST_ALIGNMENT-clause-fits : goal.returns-then-align-le-LEAST_ALIGNMENT-clause-fits
returns-then-align-le-LEAST_ALIGNMENT-clause-fits g c =
    named_fits c.args.size _ c.args.name c.in_ok-got.got c.args.own.now.names c.answer.new.names (sym c.request_size.ensures ∙ c.in-Some.is) c.requires.room c.requires.empty
    c.answer.ensures.names c.in_ok-got.ensures.supplies.fits

pub returns-clause-fits : goal.returns-clause-fits
returns-clause-fits g c =
    named_fits c.args.size _ c.args.name c.in_ok-got-2.got c.args.own.now.names c.answer-2.new.names (sym c.request_size.ensures ∙ c.in-Some.is) c.requires.room c.requires.empty
    c.answer-2.ensures.names c.in_ok-got-2.ensures.supplies.fits

pub returns-clause-aligned : goal.returns-clause-aligned
returns-clause-aligned g c = λ high.
    named_is (λ (b : Block). user_address b.addr % c.args.align ≡ 0) c.args.name c.in_ok-got-2.got c.args.own.now.names c.answer-2.new.names c.requires.room c.requires.empty
    c.answer-2.ensures.names c.in_ok-got-2.ensures.aligned

pub returns-in_err-got-clause-left : goal.returns-in_err-got-clause-left
returns-in_err-got-clause-left g c =
    let low : nat_le c.args.align 16 ≡ true = grind (arith, nat_tests, c.if-align-le-LEAST_ALIGNMENT.true) in
    on_err c.from_residual.result
    (rw (sym c.request_size.ensures ∙ c.in-Some.is, sym c.if-not-is_memalign.ensures, low) (named_left c.args.name c.args.own.now c.in_err-got.ensures.left))

pub returns-in_err-got-2-clause-left : goal.returns-in_err-got-2-clause-left
returns-in_err-got-2-clause-left g c =
    let high : nat_le c.args.align 16 ≡ false = grind (arith, nat_tests, c.if-align-le-LEAST_ALIGNMENT.false) in
    on_err c.from_residual-in_err-got-2.result
    (rw (sym c.request_size.ensures ∙ c.in-Some.is, sym c.if-not-is_memalign.ensures, high, sym c.if-not-has_lead_in_range.ensures)
    (named_left c.args.name c.args.own.now (inl c.in_err-got-2.ensures.left)))
