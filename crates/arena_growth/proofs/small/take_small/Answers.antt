use Rattle.std.proofs.Common.{◌≡◌, false, sym, ◌∙◌, arith, IsTrue}
use Rattle.chunk_tags.specs.Sizes.{is_small_size, small_index_of}
use Rattle.arena_rules.proofs.Carving.{oldest_in_bin}
use Rattle.arena_rules.proofs.ChunkMoves.{claimed_moved}
use Rattle.arena_growth.proofs.Enough.{enough_same}
use Rattle.arena_growth.proofs.SmallBins.{oldest_small, small_onward, small_not, small_none, small_found, small_short}
use Rattle.arena_growth.proofs.small.take_small.Goals as goal

pub returns-then-not-is_small-clause-steps : goal.returns-then-not-is_small-clause-steps
returns-then-not-is_small-clause-steps g c =
    small_onward c.args.nb _ c.requires.sound (small_not c.args.nb _ (let large : is_small_size c.args.nb ≡ false = grind arith in large))

pub claim-requires-clause-listed : goal.claim-requires-clause-listed
claim-requires-clause-listed g c = oldest_in_bin (g.M.Moves.plain c.args.g.now) (small_index_of c.args.nb) c.in-Some.first (sym c.oldest_small.ensures ∙ c.in-Some.is)

pub stash_small-requires-clause-sound : goal.stash_small-requires-clause-sound
stash_small-requires-clause-sound g c =
    rw c.claim.ensures (claimed_moved (g.M.Moves.plain c.args.g.now) c.in-Some.first c.requires.sound (oldest_in_bin (g.M.Moves.plain c.args.g.now) (small_index_of c.args.nb) c.in-Some.first (sym c.oldest_small.ensures ∙ c.in-Some.is))).moved.sound

pub returns-in_err-stash_small-in-Some-clause-steps : goal.returns-in_err-stash_small-in-Some-clause-steps
returns-in_err-stash_small-in-Some-clause-steps g c =
    let small : IsTrue (is_small_size c.args.nb) = grind arith in
    small_short c.args.nb _ c.in-Some.first _ c.from_residual.result c.in_err-stash_small-in-Some.field-0.0 c.from_residual.ensures.0 c.requires.sound small (sym c.oldest_small.ensures ∙ c.in-Some.is) (rw c.claim.ensures at c.in_err-stash_small-in-Some.ensures.stashes)

pub returns-in_ok-stash_small-in-Some-clause-steps : goal.returns-in_ok-stash_small-in-Some-clause-steps
returns-in_ok-stash_small-in-Some-clause-steps g c =
    let small : IsTrue (is_small_size c.args.nb) = grind arith in
    small_found c.args.nb _ c.in-Some.first _ c.requires.sound small (sym c.oldest_small.ensures ∙ c.in-Some.is) (rw c.claim.ensures at c.in_ok-stash_small-in-Some.ensures.stashes)

pub returns-in-None-clause-steps : goal.returns-in-None-clause-steps
returns-in-None-clause-steps g c =
    let small : IsTrue (is_small_size c.args.nb) = grind arith in
    small_onward c.args.nb _ c.requires.sound (small_none c.args.nb _ small (sym c.oldest_small.ensures ∙ c.in-None.is))

pub returns-in_ok-stash_small-in-Some-clause-fits : goal.returns-in_ok-stash_small-in-Some-clause-fits
returns-in_ok-stash_small-in-Some-clause-fits g c =
    let small : IsTrue (is_small_size c.args.nb) = grind arith in
    enough_same c.args.nb _ c.requires.chunk (oldest_small (g.M.Moves.plain c.args.g.now) c.args.nb c.in-Some.first c.requires.sound c.requires.chunk small (sym c.oldest_small.ensures ∙ c.in-Some.is)).size
