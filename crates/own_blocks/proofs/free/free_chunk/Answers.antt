use Rattle.std.proofs.Common.{◌≡◌, true, Some, refl, sym, subst, arith}
use Rattle.block_names.specs.Blocks.{IsHeld}
use Rattle.block_names.specs.Names.{NameTable, has_place, block_at}
use Rattle.block_names.proofs.Tables.{place_left}
use Rattle.arena_holds.specs.Places.{both_of, in_cache}
use Rattle.own_blocks.proofs.Calling.{own_unnamed, carries_unnamed}
use Rattle.arena_holds.proofs.Carrying.{served_fewer}
use Rattle.own_blocks.proofs.Releases.{freed_to, left_freed, back_carries, back_names, back_held, held_some}
use Rattle.own_blocks.proofs.free.free_chunk.Goals as goal

pub release-requires-clause-served : goal.release-requires-clause-served
release-requires-clause-served g c = λ k l.
    let b = c.unwrap-block.result in
    let at : block_at c.args.own.now.names c.args.name ≡ Some b = cc in
    served_fewer g.met.P.Places.laws.fewer (both_of (λ weigh. weigh b) (in_cache c.args.own.now.cache))
    (λ w. omega (arith, own_unnamed c.args.own.now c.args.name b c.args.own.now.cache c.take.new.self at refl c.take.ensures.rest w)) c.requires.served

pub put_back-requires-clause-room : goal.put_back-requires-clause-room
put_back-requires-clause-room g c =
    let at : block_at c.args.own.now.names c.args.name ≡ Some c.unwrap-block.result = cc in
    subst (λ (names : NameTable). has_place names c.args.name ≡ true) (sym c.take.ensures.rest) (place_left c.args.own.now.names c.args.name c.unwrap-block.result at)

pub put_back-requires-clause-held : goal.put_back-requires-clause-held
put_back-requires-clause-held g c = back_held c.unwrap-block.result c.in-Err.short.back (held_some IsHeld c.take.ensures.held c.unwrap-block.ensures) c.in-Err.ensures.short.same

pub returns-in-Ok-clause-does : goal.returns-in-Ok-clause-does
returns-in-Ok-clause-does g c = λ b at.
    let same : c.unwrap-block.result ≡ b = cc in
    freed_to c.args.a c.args.name b c.unwrap-block.result c.args.own.now c.take.new.self c.in-Ok.to c.release.new.cache same c.take.ensures.rest c.in-Ok.ensures.releases

pub returns-in-Ok-clause-carries : goal.returns-in-Ok-clause-carries
returns-in-Ok-clause-carries g c =
    let at : block_at c.args.own.now.names c.args.name ≡ Some c.unwrap-block.result = cc in
    carries_unnamed g.met.P.Places.laws.same c.args.name c.unwrap-block.result c.args.own.now c.release.new.cache c.take.new.self at c.take.ensures.rest
    c.in-Ok.ensures.releases.carries

pub returns-in-Err-clause-carries : goal.returns-in-Err-clause-carries
returns-in-Err-clause-carries g c =
    let at : block_at c.args.own.now.names c.args.name ≡ Some c.unwrap-block.result = cc in
    back_carries c.args.name c.unwrap-block.result c.args.own.now c.release.new.cache c.in-Err.short.back c.take.new.self c.put_back.new.names g.met.P.Places.laws.same at
    c.take.ensures.rest c.put_back.ensures c.in-Err.ensures.short.carries

pub returns-in-Err-clause-names : goal.returns-in-Err-clause-names
returns-in-Err-clause-names g c =
    let at : block_at c.args.own.now.names c.args.name ≡ Some c.unwrap-block.result = cc in
    back_names c.args.a c.args.name c.unwrap-block.result c.in-Err.short.back c.args.own.now.names c.take.new.self c.put_back.new.names at c.take.ensures.rest
    c.in-Err.ensures.short.same c.in-Err.ensures.short.gone c.put_back.ensures

pub returns-in-Err-clause-left : goal.returns-in-Err-clause-left
returns-in-Err-clause-left g c = λ b at.
    let same : c.unwrap-block.result ≡ b = cc in
    left_freed c.args.a c.args.name b c.unwrap-block.result c.args.own.now same c.in-Err.ensures.left
