use Rattle.std.proofs.Common.{sym, ap, ◌∙◌, arith}
use Rattle.arena_holds.proofs.Carrying.{served_fewer}
use Rattle.own_blocks.proofs.Releases.{released_cached, released_past, short_past, left_past}
use Rattle.thread_cache.specs.Caches.{structure_of}
use Rattle.own_blocks.proofs.Structures.{put_same}
use Rattle.own_blocks.proofs.releasing.release.Goals as goal

pub release_past_cache-requires-clause-served : goal.release_past_cache-requires-clause-served
release_past_cache-requires-clause-served g c = λ k l.
    rw c.in-Err.ensures.err (served_fewer g.met.P.Places.laws.fewer (λ weigh. weigh c.args.block) (λ w. omega arith) c.requires.served)

pub returns-in-Ok-clause-releases : goal.returns-in-Ok-clause-releases
returns-in-Ok-clause-releases g c =
    released_cached _ c.args.a c.args.block c.args.cache.now c.put.new.self g.met.P.Places.laws.same (sym c.in-Ok.ensures.taken) c.in-Ok.ensures.ok
    c.in-Ok.ensures.sound

pub returns-in-Err-clause-releases : goal.returns-in-Err-clause-releases
returns-in-Err-clause-releases g c =
    released_past _ _ _ _ _ c.args.a c.args.block c.in-Err.back c.args.cache.now c.put.new.self c.put.new.self c.release_past_cache.result
    (sym c.in-Err.ensures.taken) c.in-Err.ensures.unchanged c.in-Err.ensures.err (c.release_past_cache.ensures.releases c.put.new.self)

pub returns-in-Err-clause-short : goal.returns-in-Err-clause-short
returns-in-Err-clause-short g c =
    short_past _ c.args.t.now c.args.who.now c.args.a _ _ c.args.block c.in-Err.back c.args.cache.now c.put.new.self c.put.new.self c.release_past_cache.result
    c.in-Err.ensures.unchanged c.in-Err.ensures.err (c.release_past_cache.ensures.short c.put.new.self)

pub returns-in-Err-clause-left : goal.returns-in-Err-clause-left
returns-in-Err-clause-left g c =
    left_past _ _ _ _ _ c.args.a c.args.block c.in-Err.back c.args.cache.now c.put.new.self c.release_past_cache.result
    (sym c.in-Err.ensures.taken) c.in-Err.ensures.unchanged c.in-Err.ensures.err (c.release_past_cache.ensures.left c.put.new.self)

pub returns-in-Ok-clause-structure : goal.returns-in-Ok-clause-structure
returns-in-Ok-clause-structure g c = ap structure_of c.in-Ok.ensures.ok ∙ put_same c.args.cache.now c.args.block
