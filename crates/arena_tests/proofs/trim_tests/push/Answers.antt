use Rattle.std.proofs.Common.{ℕ, ◌+◌, ◌-◌, ◌*◌, ◌<◌, IsTrue, subst, arith}
use Rattle.chunk_tags.specs.BinOrder.{fast_chunk}
use Rattle.arena_rules.specs.PlainArena.{is_own, times_used}
use Rattle.arena_rules.proofs.ChunkMoves.{own_count}
use Rattle.arena_rules.proofs.Moved.{once_le}
use Rattle.fast_bins.specs.PlainBins.{plain_fast}
use Rattle.arena_tests.proofs.trim_tests.push.Goals as goal

pub returns-clause-backed : goal.returns-clause-backed
returns-clause-backed g c =
    let a = c.args.g.now.arena in
    let chunk = fast_chunk c.args.bin c.args.at in
    let stands : IsTrue (is_own a chunk) = subst (λ (n : ℕ). IsTrue (is_own a (record { at = c.args.at; size = 32 + 16 * n }))) c.from.ensures c.in_ok-expect_own.ensures in
    let own : 0 < times_used chunk a - plain_fast.stock c.args.port.now chunk = omega (arith, own_count a chunk stands, c.requires.new) in
    record {
      sound = c.requires.backed.sound;
      used = λ e. omega (
        arith,
        c.requires.backed.used e,
        once_le e chunk (λ d. times_used d a - plain_fast.stock c.args.port.now d) own,
        c.make_room.ensures.idle.stock e,
        c.push.ensures.stock e,
      );
    }
