use Rattle.own_blocks.specs.Own.{in_own}
use Rattle.own_blocks.proofs.Weights.{in_names-without}
use Rattle.std.proofs.Common.{◌≡◌, Some, sym, arith}
use Rattle.block_names.specs.Names.{block_at}
use Rattle.arena_holds.proofs.Going.{does_here}
use Rattle.malloc_calls.proofs.Handovers.{kept_names, post_does, post_unseen, full_does, full_unseen}
use Rattle.malloc_calls.proofs.thread.Thread.post.Goals as goal

pub returns-in_default-clause-does : goal.returns-in_default-clause-does
returns-in_default-clause-does g c = λ t who. rw (sym c.in_default.ensures.block) (does_here _ _)

pub returns-in-Ok-clause-does : goal.returns-in-Ok-clause-does
returns-in-Ok-clause-does g c = λ t who.
    let at : block_at c.args.self.now.own.names c.args.name ≡ Some c.unwrap-block.result = cc in
    post_does t who c.args.self.now.space c.args.name c.args.tray c.unwrap-block.result c.args.self.now.own c.take.new.self at c.take.ensures.rest c.in-Ok.ensures.posted

pub returns-in-Ok-clause-unseen : goal.returns-in-Ok-clause-unseen
returns-in-Ok-clause-unseen g c =
    let at : block_at c.args.self.now.own.names c.args.name ≡ Some c.unwrap-block.result = cc in
    post_unseen c.args.name c.args.tray c.unwrap-block.result c.args.self.now.own c.take.new.self g.met.P.Places.laws.same at c.take.ensures.rest
    c.in-Ok.ensures.posted

pub returns-in-Err-clause-does : goal.returns-in-Err-clause-does
returns-in-Err-clause-does g c = λ t who.
    let own = c.args.self.now.own in
    let at : block_at own.names c.args.name ≡ Some c.unwrap-block.result = cc in
    full_does t who c.args.self.now.space c.args.name c.args.tray c.in-Err.full.seen c.unwrap-block.result own c.put.new.self at
    (kept_names c.args.name c.unwrap-block.result c.in-Err.full.block own.names c.take.new.self c.put.new.self at c.take.ensures.rest c.in-Err.ensures.back
    c.put.ensures) c.in-Err.ensures.posted

pub returns-in-Err-clause-unseen : goal.returns-in-Err-clause-unseen
returns-in-Err-clause-unseen g c =
    let own = c.args.self.now.own in
    let at : block_at own.names c.args.name ≡ Some c.unwrap-block.result = cc in
    full_unseen c.args.name c.args.tray c.in-Err.full.seen c.unwrap-block.result own c.take.new.self c.put.new.self g.met.P.Places.laws.same at
    c.take.ensures.rest
    (kept_names c.args.name c.unwrap-block.result c.in-Err.full.block own.names c.take.new.self c.put.new.self at c.take.ensures.rest c.in-Err.ensures.back
    c.put.ensures) c.in-Err.ensures.posted

pub post-requires-clause-served : goal.post-requires-clause-served
post-requires-clause-served g c =
    let own = c.args.self.now.own in
    let b = c.unwrap-block.result in
    let at : block_at own.names c.args.name ≡ Some b = cc in
    g.met.P.Places.laws.fewer _ (in_own own) (λ weigh. weigh b) (λ w. omega (arith, in_names-without c.args.name b own.names at w)) c.requires.served
