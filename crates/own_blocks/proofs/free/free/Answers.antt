use Rattle.block_names.proofs.Tables.{nothing_taken}
use Rattle.std.proofs.Common.{◌≡◌, ◌∙◌, Some, refl, ap, sym, arith}
use Rattle.chunk_tags.specs.declared.block.Block.{Block}
use Rattle.block_names.specs.Names.{block_at}
use Rattle.own_blocks.specs.Own.{in_own}
use Rattle.arena_holds.specs.Places.{in_cache}
use Rattle.arena_holds.proofs.Going.{does_here}
use Rattle.own_blocks.proofs.Calling.{carries_cache, carries_given, own_unnamed}
use Rattle.arena_holds.proofs.Carrying.{carries_err, carries_here, carries_then, carries_as, served_after, served_fewer}
use Rattle.arena_core.proofs.Opens.{on_err}
use Rattle.own_blocks.proofs.Releases.{free_unopened, free_left, free_does, free_unmaps}
use Rattle.own_blocks.proofs.free.free.Goals as goal

pub returns-in_default-clause-does : goal.returns-in_default-clause-does
returns-in_default-clause-does g c = rw (sym c.in_default.ensures.block) (does_here _ _)

pub returns-in_default-clause-carries : goal.returns-in_default-clause-carries
returns-in_default-clause-carries g c = carries_here g.P.Places.ways _ _ _

pub open_cache-requires-clause-served : goal.open_cache-requires-clause-served
open_cache-requires-clause-served g c = λ k l. served_fewer g.met.P.Places.laws.fewer (in_cache c.args.own.now.cache) (λ w. omega arith) c.requires.served

pub returns-in_err-open_cache-in-Some-arena-clause-carries : goal.returns-in_err-open_cache-in-Some-arena-clause-carries
returns-in_err-open_cache-in-Some-arena-clause-carries g c =
    carries_err c.from_residual.result c.from_residual.ensures.0
    (carries_cache g.met.P.Places.laws.same c.args.own.now.cache c.open_cache.new.cache c.args.own.now.names c.in_err-open_cache-in-Some-arena.ensures.carries)

pub free_chunk-requires-clause-served : goal.free_chunk-requires-clause-served
free_chunk-requires-clause-served g c = λ k l.
    served_after g.met.P.Places.laws.same c.requires.served
    (carries_cache g.met.P.Places.laws.same c.args.own.now.cache c.open_cache.new.cache c.args.own.now.names c.in_ok-open_cache-in-Some-arena.ensures.carries)

pub returns-in_ok-open_cache-in-Some-arena-clause-carries : goal.returns-in_ok-open_cache-in-Some-arena-clause-carries
returns-in_ok-open_cache-in-Some-arena-clause-carries g c =
    carries_then
    (carries_cache g.met.P.Places.laws.same c.args.own.now.cache c.open_cache.new.cache c.args.own.now.names c.in_ok-open_cache-in-Some-arena.ensures.carries)
    c.free_chunk.ensures.carries

pub free_mapped-requires-clause-served : goal.free_mapped-requires-clause-served
free_mapped-requires-clause-served g c = λ k l.
    let at : block_at c.args.own.now.names c.args.name ≡ Some c.unwrap-block.result = cc in
    served_fewer g.met.P.Places.laws.fewer (λ weigh. weigh c.unwrap-block.result)
    (λ w. omega (arith, own_unnamed c.args.own.now c.args.name c.unwrap-block.result c.args.own.now.cache c.take.new.self at refl c.take.ensures.rest w)) c.requires.served

pub returns-in-None-clause-does : goal.returns-in-None-clause-does
returns-in-None-clause-does g c =
    let at : block_at c.args.own.now.names c.args.name ≡ Some c.unwrap-block.result = cc in
    let same : c.unwrap-block.result ≡ c.in-Some.named = cc c.in-Some.ensures.block in
    free_unmaps c.args.who.now c.args.who.now.thread c.args.name c.unwrap-block.result c.args.own.now c.take.new.self at (ap (λ (x : Block). x.arena) same ∙ c.in-None.is)
    c.take.ensures.rest c.free_mapped.ensures.frees

pub returns-in-None-clause-carries : goal.returns-in-None-clause-carries
returns-in-None-clause-carries g c =
    let at : block_at c.args.own.now.names c.args.name ≡ Some c.unwrap-block.result = cc in
    let own = record c.args.own.now { names = c.take.new.self } in
    carries_as g.met.P.Places.laws.same (in_own c.args.own.now) (in_own own)
    (λ w. own_unnamed c.args.own.now c.args.name c.unwrap-block.result c.args.own.now.cache c.take.new.self at refl c.take.ensures.rest w) (λ w. refl)
    (carries_given g.met.P.Places.laws.same c.unwrap-block.result (in_own own) c.free_mapped.ensures.frees.carries)

pub returns-in_ok-open_cache-in-Some-arena-clause-does : goal.returns-in_ok-open_cache-in-Some-arena-clause-does
returns-in_ok-open_cache-in-Some-arena-clause-does g c =
    let at : block_at c.args.own.now.names c.args.name ≡ Some c.in-Some.named = sym c.in-Some.ensures.block in
    free_does _ _ _ _ _ _ c.args.who.now.thread c.in-Some-arena.a c.args.name c.in-Some.named c.args.own.now c.open_cache.new.cache c.free_chunk.result
    c.free_chunk.new.own at c.in-Some-arena.is c.in_ok-open_cache-in-Some-arena.ensures.does c.free_chunk.ensures.does

pub returns-in_default-clause-taken : goal.returns-in_default-clause-taken
returns-in_default-clause-taken g c = sym (nothing_taken c.args.name c.args.own.now.names (sym c.in_default.ensures.block))

pub returns-in_err-open_cache-in-Some-arena-clause-left : goal.returns-in_err-open_cache-in-Some-arena-clause-left
returns-in_err-open_cache-in-Some-arena-clause-left g c =
    on_err c.from_residual.result
    (free_unopened c.in-Some-arena.a c.args.name c.in-Some.named c.args.own.now (sym c.in-Some.ensures.block) c.in-Some-arena.is c.in_err-open_cache-in-Some-arena.ensures.left)

pub returns-in_ok-open_cache-in-Some-arena-clause-left : goal.returns-in_ok-open_cache-in-Some-arena-clause-left
returns-in_ok-open_cache-in-Some-arena-clause-left g c =
    free_left _ c.in-Some-arena.a c.args.name c.in-Some.named c.args.own.now c.open_cache.new.cache c.free_chunk.result (sym c.in-Some.ensures.block) c.in-Some-arena.is
    c.in_ok-open_cache-in-Some-arena.ensures.does c.free_chunk.ensures.left
