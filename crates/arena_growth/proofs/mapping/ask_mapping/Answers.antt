use Rattle.std.proofs.Common.{◌≡◌, ◌+◌, ◌∙◌, ap, arith}
use Rattle.chunk_tags.specs.Pages.{page_up_of, mapping_length}
use Rattle.chunk_tags.specs.declared.block.Block.{Block}
use Rattle.arena_growth.proofs.Mappings.{enough_mapped, mapping_short, mapping_refused, mapping_granted}
use Rattle.arena_growth.proofs.mapping.ask_mapping.Goals as goal

pub returns-in_err-make_room-clause-asks : goal.returns-in_err-make_room-clause-asks
returns-in_err-make_room-clause-asks g c = rw c.in_err-make_room.ensures.answers (mapping_short _ c.args.nb _ _ _ c.from_residual.result c.from_residual.ensures.0)

pub map-requires-clause-counted : goal.map-requires-clause-counted
map-requires-clause-counted g c = λ k l. c.requires.allows.allowed (mapping_length c.args.nb)

pub returns-in-Some-clause-asks : goal.returns-in-Some-clause-asks
returns-in-Some-clause-asks g c =
    let is : c.page_up-len.result ≡ mapping_length c.args.nb = c.page_up-len.ensures ∙ ap (λ n. page_up_of (n + 8)) c.nb.view_is in
    let maps = c.in-Some.ensures.maps in
    rw (c.tell.ensures, c.in_ok-make_room.ensures.answers, c.map_place-addr.ensures, is, maps.asked.fresh.told, ap (λ (b : Block). b.size) maps.chunk)
    (mapping_granted _ c.args.nb c.in-Some.b.addr _ _ _ _ _ c.requires.apart maps.asked maps.counted)

pub returns-in-None-clause-asks : goal.returns-in-None-clause-asks
returns-in-None-clause-asks g c =
    let is : c.page_up-len.result ≡ mapping_length c.args.nb = c.page_up-len.ensures ∙ ap (λ n. page_up_of (n + 8)) c.nb.view_is in
    let maps = c.in-None.ensures.maps in
    rw (c.tell-in-None.ensures, c.in_ok-make_room.ensures.answers, c.map_place-addr.ensures, is, maps.refused)
    (mapping_refused _ c.args.nb _ _ _ _ maps.asked)

pub returns-in-Some-clause-fits : goal.returns-in-Some-clause-fits
returns-in-Some-clause-fits g c =
    let is = c.in-Some.ensures.maps.chunk in
    enough_mapped c.args.nb _ (ap (λ (b : Block). b.size) is) (omega (arith, c.in-Some.ensures.mapped.page, ap (λ (b : Block). b.lead) is)) (omega (arith, c.in-Some.ensures.mapped.fits))
