use Rattle.std.proofs.Common.{◌≡◌, ◌+◌, true, false, sym, ◌∙◌, arith, rules}
use Rattle.std.specs.Prelude.{nat_eq}
use Rattle.std.proofs.lemmas.Bool.Decides.{nat_tests}
use Rattle.arena_rules.proofs.Sorting.{sorted_moved, unsorted_claimed}
use Rattle.arena_rules.specs.Moves.{claimed}
use Rattle.arena_rules.specs.Search.{sorted_in}
use Rattle.arena_growth.proofs.Enough.{enough_same}
use Rattle.arena_growth.proofs.Scanning.{IsOldest, is_oldest, fewer_unsorted, scanning_starts, scan_splits, scan_short, scan_takes, scan_stashes, scan_sorts, scan_ends, scan_enough, last_cached, last_fits}
use Rattle.arena_growth.proofs.scan.scan.Goals as goal

pub scanning-init : goal.scanning-init
scanning-init g c = scanning_starts c.args.nb _ c.requires.sound

pub carve-requires-clause-listed : goal.carve-requires-clause-listed
carve-requires-clause-listed g c = (is_oldest (g.M.Moves.plain c.scanning.g) c.in-Some.c c.scanning.invariant.balances.sound (sym c.in-Some.ensures)).next.listed

pub returns-then-splits_remainder-clause-steps : goal.returns-then-splits_remainder-clause-steps
returns-then-splits_remainder-clause-steps g c =
    rw (c.carve.ensures.chunk, c.carve.ensures.arena)
    (scan_splits c.args.nb c.scanning.sorted c.scanning.stashed _ _ c.in-Some.c c.scanning.invariant c.requires.chunk (sym c.in-Some.ensures) (sym c.splits_remainder.ensures ∙ c.if-splits_remainder.true))

pub returns-in_err-ask_room-clause-steps : goal.returns-in_err-ask_room-clause-steps
returns-in_err-ask_room-clause-steps g c =
    let same : c.in-Some.c.size ≡ c.args.nb = search rules in
    rw c.in_err-ask_room.ensures.short
    (scan_short c.args.nb c.scanning.sorted c.scanning.stashed _ _ c.in-Some.c c.from_residual.result c.from_residual.ensures.0 c.scanning.invariant (sym c.in-Some.ensures) (sym c.splits_remainder.ensures ∙ c.if-splits_remainder.false) same)

pub claim-requires-clause-listed : goal.claim-requires-clause-listed
claim-requires-clause-listed g c = (is_oldest (g.M.Moves.plain c.scanning.g) c.in-Some.c c.scanning.invariant.balances.sound (sym c.in-Some.ensures)).next.listed

pub returns-then-not-branch-clause-steps : goal.returns-then-not-branch-clause-steps
returns-then-not-branch-clause-steps g c =
    let same : c.in-Some.c.size ≡ c.args.nb = search rules in
    let full : c.in_ok-ask_room.field-0 ≡ false = search rules in
    rw (c.claim.ensures, c.in_ok-ask_room.ensures.told, full)
    (scan_takes c.args.nb c.scanning.sorted c.scanning.stashed _ _ c.in-Some.c c.scanning.invariant (sym c.in-Some.ensures) (sym c.splits_remainder.ensures ∙ c.if-splits_remainder.false) same (sym full ∙ c.in_ok-ask_room.ensures.room))

pub stash_free-requires-clause-listed : goal.stash_free-requires-clause-listed
stash_free-requires-clause-listed g c = (is_oldest (g.M.Moves.plain c.scanning.g) c.in-Some.c c.scanning.invariant.balances.sound (sym c.in-Some.ensures)).next.listed

pub scanning-smaller-then-eq : goal.scanning-smaller-then-eq
scanning-smaller-then-eq g c =
    let o : IsOldest (g.M.Moves.plain c.scanning.g) c.in-Some.c = is_oldest (g.M.Moves.plain c.scanning.g) c.in-Some.c c.scanning.invariant.balances.sound (sym c.in-Some.ensures) in
    rw c.stash_free.ensures.arena (fewer_unsorted (g.M.Moves.plain c.scanning.g) c.in-Some.c (claimed (g.M.Moves.plain c.scanning.g) c.in-Some.c) o (unsorted_claimed (g.M.Moves.plain c.scanning.g) c.in-Some.c))

pub scanning-preserved-then-eq : goal.scanning-preserved-then-eq
scanning-preserved-then-eq g c =
    let same : c.in-Some.c.size ≡ c.args.nb = search rules in
    let room : c.in_ok-ask_room.field-0 ≡ true = search rules in
    rw (c.stash_free.ensures.arena, c.stash_free.ensures.cache, c.in_ok-ask_room.ensures.told, room)
    (scan_stashes c.args.nb c.scanning.sorted c.scanning.stashed _ _ c.in-Some.c c.scanning.invariant c.requires.chunk (sym c.in-Some.ensures) (sym c.splits_remainder.ensures ∙ c.if-splits_remainder.false) same c.in_ok-ask_room.ensures.sound (sym room ∙ c.in_ok-ask_room.ensures.room))

pub sort_in-requires-clause-unsorted : goal.sort_in-requires-clause-unsorted
sort_in-requires-clause-unsorted g c = (is_oldest (g.M.Moves.plain c.scanning.g) c.in-Some.c c.scanning.invariant.balances.sound (sym c.in-Some.ensures)).next.unsorted

pub scanning-smaller : goal.scanning-smaller
scanning-smaller g c =
    let o : IsOldest (g.M.Moves.plain c.scanning.g) c.in-Some.c = is_oldest (g.M.Moves.plain c.scanning.g) c.in-Some.c c.scanning.invariant.balances.sound (sym c.in-Some.ensures) in
    rw c.sort_in.ensures (fewer_unsorted (g.M.Moves.plain c.scanning.g) c.in-Some.c (sorted_in (g.M.Moves.plain c.scanning.g) c.in-Some.c) o (sorted_moved (g.M.Moves.plain c.scanning.g) c.in-Some.c c.scanning.invariant.balances.sound o.next.listed).unsorted)

pub scanning-preserved : goal.scanning-preserved
scanning-preserved g c =
    let other : nat_eq c.in-Some.c.size c.args.nb ≡ false = search (rules, nat_tests) in
    let more : nat_eq (c.scanning.sorted + 1) 10000 ≡ false = grind (arith, nat_tests) in
    rw c.sort_in.ensures
    (scan_sorts c.args.nb c.scanning.sorted c.scanning.stashed _ _ c.in-Some.c c.scanning.invariant (sym c.in-Some.ensures) (sym c.splits_remainder.ensures ∙ c.if-splits_remainder.false) other more)

pub draw-requires : goal.draw-requires
draw-requires g c = last_cached c.args.nb c.scanning.sorted c.scanning.stashed _ _ c.scanning.invariant

pub returns-then-sorted-eq-MOST_SORTED-clause-steps : goal.returns-then-sorted-eq-MOST_SORTED-clause-steps
returns-then-sorted-eq-MOST_SORTED-clause-steps g c =
    let other : nat_eq c.in-Some.c.size c.args.nb ≡ false = search (rules, nat_tests) in
    let enough : nat_eq (c.scanning.sorted + 1) 10000 ≡ true = grind (arith, nat_tests) in
    rw (c.draw.ensures.step, c.draw.ensures.cache, c.sort_in.ensures)
    (scan_enough c.args.nb c.scanning.sorted c.scanning.stashed _ _ c.in-Some.c c.requires.chunk c.scanning.invariant (sym c.in-Some.ensures) (sym c.splits_remainder.ensures ∙ c.if-splits_remainder.false) other enough)

pub returns-clause-steps : goal.returns-clause-steps
returns-clause-steps g c =
    rw (c.draw-2.ensures.step, c.draw-2.ensures.cache)
    (scan_ends c.args.nb c.scanning.sorted c.scanning.stashed _ _ c.requires.chunk c.scanning.invariant (cc c.in_default.is))

pub returns-then-not-branch-clause-fits : goal.returns-then-not-branch-clause-fits
returns-then-not-branch-clause-fits g c = enough_same c.args.nb _ c.requires.chunk (search rules)

pub returns-then-sorted-eq-MOST_SORTED-clause-fits : goal.returns-then-sorted-eq-MOST_SORTED-clause-fits
returns-then-sorted-eq-MOST_SORTED-clause-fits g c = rw c.draw.ensures.step (last_fits c.args.nb c.scanning.sorted c.scanning.stashed _ _ c.scanning.invariant)

pub returns-clause-fits : goal.returns-clause-fits
returns-clause-fits g c = rw c.draw-2.ensures.step (last_fits c.args.nb c.scanning.sorted c.scanning.stashed _ _ c.scanning.invariant)
