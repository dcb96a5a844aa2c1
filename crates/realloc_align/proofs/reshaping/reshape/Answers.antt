use Rattle.std.proofs.Common.{◌<◌, ◌≤◌, ap, sym, ◌∙◌, arith}
use Rattle.chunk_tags.specs.declared.tiles.Chunk.{Chunk}
use Rattle.arena_rules.specs.Moves.{hand}
use Rattle.consolidate_trim.proofs.HoldSteps.{hand_own}
use Rattle.realloc_align.proofs.Branches.{search_rules, found_used, reshapes_cut, reshapes_top, reshapes_free, reshapes_found, reshapes_mapped, reshapes_nowhere, reshapes_short}
use Rattle.realloc_align.proofs.Cuts.{own_in, joined_free, free_fits, cut_fits, placed_fits}
use Rattle.realloc_align.proofs.reshaping.reshape.Goals as goal

pub cut-requires-clause-own : goal.cut-requires-clause-own
cut-requires-clause-own g c = hand_own c.args.c c.requires.backed

pub returns-then-nb-c-clause-reshapes : goal.returns-then-nb-c-clause-reshapes
returns-then-nb-c-clause-reshapes g c =
    let le : c.args.nb ≤ c.args.c.size = omega (arith, c.nb.view_is, ap (λ (k : Chunk). k.size) c.c.view_is) in
    rw (c.cut.ensures.reshaped, c.cut.ensures.arena) (reshapes_cut _ c.args.t.now c.args.c c.args.nb _ c.requires.backed.sound (hand_own c.args.c c.requires.backed) c.requires.size.chunk le)

pub returns-then-nb-c-clause-fits : goal.returns-then-nb-c-clause-fits
returns-then-nb-c-clause-fits g c =
    let le : c.args.nb ≤ c.args.c.size = omega (arith, c.nb.view_is, ap (λ (k : Chunk). k.size) c.c.view_is) in
    rw c.cut.ensures.reshaped (cut_fits (hand c.args.c (g.M.Moves.plain c.args.g.now)) c.args.nb (own_in _ c.args.c c.requires.backed.sound (hand_own c.args.c c.requires.backed)) c.requires.size.chunk le)

pub fits_with_top-requires-clause-own : goal.fits_with_top-requires-clause-own
fits_with_top-requires-clause-own g c = hand_own c.args.c c.requires.backed

pub grow_into_top-requires-clause-own : goal.grow_into_top-requires-clause-own
grow_into_top-requires-clause-own g c = hand_own c.args.c c.requires.backed

pub returns-then-fits_with_top-clause-reshapes : goal.returns-then-fits_with_top-clause-reshapes
returns-then-fits_with_top-clause-reshapes g c =
    let lt : c.args.c.size < c.args.nb = omega (arith, c.nb.view_is, ap (λ (k : Chunk). k.size) c.c.view_is) in
    rw (c.whole.ensures, c.front_of.ensures, c.grow_into_top.ensures)
    (reshapes_top _ c.args.t.now c.args.c c.args.nb _ c.requires.backed.sound (hand_own c.args.c c.requires.backed) c.requires.size.chunk lt (sym c.fits_with_top.ensures ∙ c.if-fits_with_top.true))

pub fits_with_free-requires-clause-own : goal.fits_with_free-requires-clause-own
fits_with_free-requires-clause-own g c = hand_own c.args.c c.requires.backed

pub join_behind-whole-requires-clause-own : goal.join_behind-whole-requires-clause-own
join_behind-whole-requires-clause-own g c = hand_own c.args.c c.requires.backed

pub cut-requires-then-fits_with_free-clause-sound : goal.cut-requires-then-fits_with_free-clause-sound
cut-requires-then-fits_with_free-clause-sound g c =
    (joined_free _ c.args.c (hand _ _) c.join_behind-whole.ensures (own_in (g.M.Moves.plain c.args.g.now) c.args.c c.requires.backed.sound (hand_own c.args.c c.requires.backed))).sound

pub cut-requires-then-fits_with_free-clause-own : goal.cut-requires-then-fits_with_free-clause-own
cut-requires-then-fits_with_free-clause-own g c =
    (joined_free _ c.args.c (hand _ _) c.join_behind-whole.ensures (own_in (g.M.Moves.plain c.args.g.now) c.args.c c.requires.backed.sound (hand_own c.args.c c.requires.backed))).own

pub returns-then-fits_with_free-clause-reshapes : goal.returns-then-fits_with_free-clause-reshapes
returns-then-fits_with_free-clause-reshapes g c =
    let lt : c.args.c.size < c.args.nb = omega (arith, c.nb.view_is, ap (λ (k : Chunk). k.size) c.c.view_is) in
    rw (c.cut-then-fits_with_free.ensures.reshaped, c.cut-then-fits_with_free.ensures.arena)
    (reshapes_free _ c.args.t.now c.args.c c.args.nb _ (hand _ _) c.join_behind-whole.ensures c.requires.backed.sound (hand_own c.args.c c.requires.backed) c.requires.size.chunk lt (sym c.fits_with_top.ensures ∙ c.if-fits_with_top.false) (sym c.fits_with_free.ensures ∙ c.if-fits_with_free.true))

pub returns-then-fits_with_free-clause-fits : goal.returns-then-fits_with_free-clause-fits
returns-then-fits_with_free-clause-fits g c =
    let used = joined_free _ c.args.c (hand _ _) c.join_behind-whole.ensures (own_in (g.M.Moves.plain c.args.g.now) c.args.c c.requires.backed.sound (hand_own c.args.c c.requires.backed)) in
    rw c.cut-then-fits_with_free.ensures.reshaped
    (cut_fits (hand _ _) c.args.nb used c.requires.size.chunk (free_fits _ c.args.c c.args.nb (hand _ _) c.join_behind-whole.ensures (sym c.fits_with_free.ensures ∙ c.if-fits_with_free.true)))

pub returns-in_err-d-clause-reshapes : goal.returns-in_err-d-clause-reshapes
returns-in_err-d-clause-reshapes g c =
    let lt : c.args.c.size < c.args.nb = omega (arith, c.nb.view_is, ap (λ (k : Chunk). k.size) c.c.view_is) in
    let rules = search_rules c.args.t.now _ c.args.c c.args.nb lt (sym c.fits_with_top.ensures ∙ c.if-fits_with_top.false) (sym c.fits_with_free.ensures ∙ c.if-fits_with_free.false) in
    reshapes_short _ c.args.t.now c.args.c c.args.nb _ _ c.in_err-d.field-0.0 c.from_residual.result c.from_residual.ensures.0 c.requires.backed.sound rules c.in_err-d.ensures.finds

pub place-requires-clause-own : goal.place-requires-clause-own
place-requires-clause-own g c = (found_used _ c.args.t.now c.args.c c.in-InArena.d c.args.nb _ _ c.requires.backed (rw c.in-InArena.is at c.in_ok-d.ensures.finds)).0.own

pub place-requires-clause-found : goal.place-requires-clause-found
place-requires-clause-found g c = (found_used _ c.args.t.now c.args.c c.in-InArena.d c.args.nb _ _ c.requires.backed (rw c.in-InArena.is at c.in_ok-d.ensures.finds)).1.own

pub returns-in-InArena-clause-reshapes : goal.returns-in-InArena-clause-reshapes
returns-in-InArena-clause-reshapes g c =
    let lt : c.args.c.size < c.args.nb = omega (arith, c.nb.view_is, ap (λ (k : Chunk). k.size) c.c.view_is) in
    let rules = search_rules c.args.t.now _ c.args.c c.args.nb lt (sym c.fits_with_top.ensures ∙ c.if-fits_with_top.false) (sym c.fits_with_free.ensures ∙ c.if-fits_with_free.false) in
    let fits = rw c.in-InArena.is at c.in_ok-d.ensures.fits in
    rw (c.place.ensures.reshaped, c.place.ensures.arena)
    (reshapes_found _ c.args.t.now c.args.c c.in-InArena.d c.args.nb _ _ rules c.requires.backed c.requires.size.chunk fits.room (rw c.in-InArena.is at c.in_ok-d.ensures.finds))

pub returns-in-InArena-clause-fits : goal.returns-in-InArena-clause-fits
returns-in-InArena-clause-fits g c =
    let used = found_used _ c.args.t.now c.args.c c.in-InArena.d c.args.nb _ _ c.requires.backed (rw c.in-InArena.is at c.in_ok-d.ensures.finds) in
    rw c.place.ensures.reshaped
    (placed_fits _ c.args.c c.in-InArena.d c.args.nb used.0 used.1 c.requires.size.chunk (rw c.in-InArena.is at c.in_ok-d.ensures.fits))

pub returns-in-InMapping-clause-reshapes : goal.returns-in-InMapping-clause-reshapes
returns-in-InMapping-clause-reshapes g c =
    let lt : c.args.c.size < c.args.nb = omega (arith, c.nb.view_is, ap (λ (k : Chunk). k.size) c.c.view_is) in
    let rules = search_rules c.args.t.now _ c.args.c c.args.nb lt (sym c.fits_with_top.ensures ∙ c.if-fits_with_top.false) (sym c.fits_with_free.ensures ∙ c.if-fits_with_free.false) in
    reshapes_mapped _ c.args.t.now c.args.c c.in-InMapping.d c.args.nb _ _ rules (rw c.in-InMapping.is at c.in_ok-d.ensures.finds)

pub returns-in-Nowhere-clause-reshapes : goal.returns-in-Nowhere-clause-reshapes
returns-in-Nowhere-clause-reshapes g c =
    let lt : c.args.c.size < c.args.nb = omega (arith, c.nb.view_is, ap (λ (k : Chunk). k.size) c.c.view_is) in
    let rules = search_rules c.args.t.now _ c.args.c c.args.nb lt (sym c.fits_with_top.ensures ∙ c.if-fits_with_top.false) (sym c.fits_with_free.ensures ∙ c.if-fits_with_free.false) in
    reshapes_nowhere _ c.args.t.now c.args.c c.args.nb _ _ rules (rw c.in-Nowhere.is at c.in_ok-d.ensures.finds)
