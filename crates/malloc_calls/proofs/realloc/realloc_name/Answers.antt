use Rattle.std.proofs.Common.{◌≡◌, true, Some, refl, sym, subst, arith}
use Rattle.block_names.specs.Names.{NameTable, has_place, block_at}
use Rattle.block_names.proofs.Tables.{place_left}
use Rattle.arena_holds.specs.Places.{both_of, in_cache}
use Rattle.malloc_calls.specs.Reallocs.{realloc_in}
use Rattle.own_blocks.proofs.Calling.{own_unnamed, carries_renamed}
use Rattle.arena_holds.proofs.Carrying.{served_fewer}
use Rattle.malloc_calls.proofs.Resettlings.{settled_does, settled_left, holds_still, settled_fits}
use Rattle.malloc_calls.proofs.realloc.realloc_name.Goals as goal

pub realloc_block-requires-clause-served : goal.realloc_block-requires-clause-served
realloc_block-requires-clause-served g c = λ k l.
    let b = c.unwrap-block.result in
    let at : block_at c.args.own.now.names c.args.name ≡ Some b = cc in
    served_fewer g.met.P.Places.laws.fewer (both_of (λ weigh. weigh b) (in_cache c.args.own.now.cache))
    (λ w. omega (arith, own_unnamed c.args.own.now c.args.name b c.args.own.now.cache c.take.new.self at refl c.take.ensures.rest w)) c.requires.served

pub put-requires-clause-room : goal.put-requires-clause-room
put-requires-clause-room g c =
    let at : block_at c.args.own.now.names c.args.name ≡ Some c.unwrap-block.result = cc in
    subst (λ (names : NameTable). has_place names c.args.name ≡ true) (sym c.take.ensures.rest) (place_left c.args.own.now.names c.args.name c.unwrap-block.result at)

pub returns-in-Ok-clause-does : goal.returns-in-Ok-clause-does
returns-in-Ok-clause-does g c = λ b at.
    let same : c.unwrap-block.result ≡ b = cc in
    settled_does (λ x. realloc_in c.args.t.now c.args.who.now.thread c.args.size c.args.nb x x.arena c.args.own.now.cache) c.args.name b c.unwrap-block.result c.args.own.now _ c.take.new.self
    c.put.new.self same c.take.ensures.rest c.put.ensures c.in-Ok.ensures.resettles

pub returns-in-Ok-clause-carries : goal.returns-in-Ok-clause-carries
returns-in-Ok-clause-carries g c =
    let at : block_at c.args.own.now.names c.args.name ≡ Some c.unwrap-block.result = cc in
    carries_renamed g.met.P.Places.laws.same c.args.name c.unwrap-block.result c.in-Ok.field-0.block c.args.own.now c.realloc_block.new.cache c.take.new.self c.put.new.self
    at c.take.ensures.rest c.put.ensures c.in-Ok.ensures.resettles.carries

pub returns-in-Err-clause-carries : goal.returns-in-Err-clause-carries
returns-in-Err-clause-carries g c =
    let at : block_at c.args.own.now.names c.args.name ≡ Some c.unwrap-block.result = cc in
    carries_renamed g.met.P.Places.laws.same c.args.name c.unwrap-block.result c.in-Err.block c.args.own.now c.realloc_block.new.cache c.take.new.self c.put-in-Err.new.self
    at c.take.ensures.rest c.put-in-Err.ensures c.in-Err.ensures.short.carries

pub returns-in-Err-clause-back : goal.returns-in-Err-clause-back
returns-in-Err-clause-back g c =
    let at : block_at c.args.own.now.names c.args.name ≡ Some c.unwrap-block.result = cc in
    holds_still c.args.nb c.args.name c.unwrap-block.result c.in-Err.block c.args.own.now.names c.take.new.self c.put-in-Err.new.self at c.take.ensures.rest c.put-in-Err.ensures
    c.in-Err.ensures.short.enough

pub returns-in-Ok-clause-fits : goal.returns-in-Ok-clause-fits
returns-in-Ok-clause-fits g c =
    let at : block_at c.args.own.now.names c.args.name ≡ Some c.unwrap-block.result = cc in
    settled_fits c.in-Ok.field-0.reply c.args.nb c.args.name c.unwrap-block.result c.in-Ok.field-0.block c.args.own.now.names c.take.new.self c.put.new.self at c.take.ensures.rest
    c.put.ensures c.in-Ok.ensures.resettles.fits

pub returns-in-Err-clause-left : goal.returns-in-Err-clause-left
returns-in-Err-clause-left g c = λ b at.
    let same : c.unwrap-block.result ≡ b = cc in
    settled_left (λ x. realloc_in c.args.t.now c.args.who.now.thread c.args.size c.args.nb x x.arena c.args.own.now.cache) c.args.name b c.unwrap-block.result c.args.own.now
    same c.in-Err.ensures.left

pub put-requires-in-Err-clause-room : goal.put-requires-in-Err-clause-room
put-requires-in-Err-clause-room g c =
    let at : block_at c.args.own.now.names c.args.name ≡ Some c.unwrap-block.result = cc in
    subst (λ (names : NameTable). has_place names c.args.name ≡ true) (sym c.take.ensures.rest) (place_left c.args.own.now.names c.args.name c.unwrap-block.result at)
