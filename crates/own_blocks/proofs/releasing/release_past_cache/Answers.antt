use Rattle.std.proofs.Common.{false, sym, ◌∙◌, arith}
use Rattle.arena_holds.specs.Places.{both_of}
use Rattle.own_blocks.proofs.Releases.{released_fast, released_given, short_given, short_pushed, left_pushed, left_given}
use Rattle.own_blocks.proofs.releasing.release_past_cache.Goals as goal

pub push_fast-requires-clause-there : goal.push_fast-requires-clause-there
push_fast-requires-clause-there g c =
    g.met.P.Places.laws.known c.args.p.now c.args.block (λ _. 0) c.args.a
    (g.met.P.Places.laws.same false c.args.p.now (λ weigh. weigh c.args.block) (both_of (λ weigh. weigh c.args.block) (λ _. 0)) (λ w. omega arith) c.requires.served.served)
    c.requires.arena

pub returns-in-Ok-clause-releases : goal.returns-in-Ok-clause-releases
returns-in-Ok-clause-releases g c = λ cache.
    released_fast c.args.p.now c.push_fast.new.p c.args.space.now c.args.a c.fast_index-bin.result c.args.block cache g.met.P.Places.laws.same
    (sym c.is_fast.ensures ∙ c.if-is_fast.true) c.fast_index-bin.ensures c.in-Ok.ensures.pushes c.in-Ok.ensures.gone

pub returns-in-Err-clause-short : goal.returns-in-Err-clause-short
returns-in-Err-clause-short g c = λ cache.
    short_pushed c.args.t.now c.args.who.now c.args.a c.args.p.now c.push_fast.new.p c.args.space.now c.args.block c.in-Err.back cache g.met.P.Places.laws.same c.in-Err.ensures.back c.in-Err.ensures.kept

pub returns-in-Ok-give_held-clause-releases : goal.returns-in-Ok-give_held-clause-releases
returns-in-Ok-give_held-clause-releases g c = λ cache.
    released_given c.args.block cache g.met.P.Places.laws.same (sym c.is_fast.ensures ∙ c.if-is_fast.false) (c.in-Ok-give_held.ensures.gives cache)

pub returns-in-Err-give_held-clause-short : goal.returns-in-Err-give_held-clause-short
returns-in-Err-give_held-clause-short g c = λ cache. short_given c.args.block cache g.met.P.Places.laws.same c.in-Err-give_held.ensures.short

pub returns-in-Err-clause-left : goal.returns-in-Err-clause-left
returns-in-Err-clause-left g c = λ cache.
    left_pushed c.args.a c.args.block cache c.requires.arena (sym c.is_fast.ensures ∙ c.if-is_fast.true) c.in-Err.ensures.full c.in-Err.ensures.idle

pub returns-in-Err-give_held-clause-left : goal.returns-in-Err-give_held-clause-left
returns-in-Err-give_held-clause-left g c = λ cache.
    left_given c.args.block cache (sym c.is_fast.ensures ∙ c.if-is_fast.false) c.in-Err-give_held.ensures.short
