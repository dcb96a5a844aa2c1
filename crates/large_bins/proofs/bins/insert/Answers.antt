use Rattle.std.proofs.Common.{◌≡◌, ◌<◌, [], ◌∷◌, ◌++◌, refl, sym, ◌∙◌, arith}
use Rattle.chunk_tags.proofs.Falling.{falling_inserted}
use Rattle.ordinary_bins.specs.Lists.{list_at}
use Rattle.ordinary_bins.proofs.ListLaws.{listed_in}
use Rattle.large_bins.specs.Places.{leads, AllAbove, StopsAt}
use Rattle.large_bins.specs.SeenChunks.{size_at}
use Rattle.large_bins.proofs.FirstBins.{firsts_are, firsts_set, firsts_stay, large_firsts, unlisted_firsts}
use Rattle.large_bins.proofs.Insertion.{puts_last, puts_second, puts_before, put_is, Puts}
use Rattle.large_bins.proofs.Turns.{bin_below, large_above}
use Rattle.large_bins.proofs.bins.insert.Goals as goal
use Rattle.large_bins.proofs.bins.insert.Goals.{In-None, In-Some}

last : (c : In-None) → Puts (size_at c.args.tiles.now.tiles) c.args.size c.args.at (list_at c.large_index-bin.result c.args.links.now.lists) (list_at c.large_index-bin.result c.args.firsts.now.lists) (list_at c.large_index-bin.result c.args.links.now.lists ++ c.args.at ∷ []) (list_at c.large_index-bin.result c.args.firsts.now.lists ++ c.args.at ∷ [])
last c =
    let bin = c.large_index-bin.result in
    let f = size_at c.args.tiles.now.tiles in
    let above : AllAbove f c.args.size (list_at bin c.args.links.now.lists) = rw c.size.view_is at c.in-None.ensures.none in
    puts_last f c.args.size c.args.at _ _ c.requires.tile (large_firsts f c.args.links.now.lists c.requires.firsts bin (omega (arith, c.large_index-bin.ensures, large_above c.args.size c.requires.large))) above

stop : (c : In-Some) → StopsAt (size_at c.args.tiles.now.tiles) c.args.size (list_at c.large_index-bin.result c.args.links.now.lists) (list_at c.large_index-bin.result c.args.firsts.now.lists) c.in-Some.first
stop c = rw c.size.view_is at c.in-Some.ensures.some

pub push_back-requires-in-None-clause-unlisted : goal.push_back-requires-in-None-clause-unlisted
push_back-requires-in-None-clause-unlisted c = unlisted_firsts (size_at c.args.tiles.now.tiles) c.args.links.now.lists c.requires.firsts c.args.at c.requires.unlisted

pub insert_before-requires-else-size_of-size-clause-unlisted :
    goal.insert_before-requires-else-size_of-size-clause-unlisted
insert_before-requires-else-size_of-size-clause-unlisted c =
    unlisted_firsts (size_at c.args.tiles.now.tiles) c.args.links.now.lists c.requires.firsts c.args.at c.requires.unlisted

pub size_of-requires : goal.size_of-requires
size_of-requires c =
    let s = c.in-Some.ensures.some in
    c.requires.tiles.each c.in-Some.first (listed_in c.in-Some.first c.large_index-bin.result c.args.links.now.lists s.front s.back s.split)

pub returns-in-None-clause-falling : goal.returns-in-None-clause-falling
returns-in-None-clause-falling c = falling_inserted _ _ c.requires.falling

pub returns-then-size_of-size-clause-falling : goal.returns-then-size_of-size-clause-falling
returns-then-size_of-size-clause-falling c = falling_inserted _ _ c.requires.falling

pub returns-else-size_of-size-clause-falling : goal.returns-else-size_of-size-clause-falling
returns-else-size_of-size-clause-falling c = falling_inserted _ _ c.requires.falling

pub returns-in-None-clause-lists : goal.returns-in-None-clause-lists
returns-in-None-clause-lists c =
    c.push_back.ensures.lists ∙ put_is c.args.tiles.now.tiles c.args.links.now.lists c.large_index-bin.result c.args.size c.args.at _ c.large_index-bin.ensures (last (goal.at.returns-in-None-clause-lists c).In-None).put

pub returns-in-None-clause-firsts : goal.returns-in-None-clause-firsts
returns-in-None-clause-firsts c =
    let f = size_at c.args.tiles.now.tiles in
    let bin = c.large_index-bin.result in
    let below = bin_below c.args.size c.large_index-bin.ensures in
    firsts_are f c.push_back.ensures.lists c.push_back-in-None.ensures.lists
    (firsts_set f c.args.links.now.lists c.requires.firsts bin _ _ (omega (arith, c.large_index-bin.ensures, large_above c.args.size c.requires.large)) (omega (arith, below, c.laws.ensures.width)) (omega (arith, below, c.laws-2.ensures.width)) (last (goal.at.returns-in-None-clause-firsts c).In-None).first)

pub returns-then-size_of-size-clause-lists : goal.returns-then-size_of-size-clause-lists
returns-then-size_of-size-clause-lists c =
    let f = size_at c.args.tiles.now.tiles in
    let bin = c.large_index-bin.result in
    let s = stop (goal.at.returns-then-size_of-size-clause-lists c).In-Some in
    let same : f c.in-Some.first ≡ c.args.size = rw c.size.view_is at (sym c.size_of.ensures ∙ c.if-size_of-size.true) in
    let p = puts_second f c.args.size c.args.at c.in-Some.first _ _ c.requires.tile same s in
    c.insert_behind.ensures.lists bin s.front s.back (bin_below c.args.size c.large_index-bin.ensures) s.split ∙ put_is c.args.tiles.now.tiles c.args.links.now.lists bin c.args.size c.args.at _ c.large_index-bin.ensures p.put

pub returns-then-size_of-size-clause-firsts : goal.returns-then-size_of-size-clause-firsts
returns-then-size_of-size-clause-firsts c =
    let f = size_at c.args.tiles.now.tiles in
    let bin = c.large_index-bin.result in
    let below = bin_below c.args.size c.large_index-bin.ensures in
    let s = stop (goal.at.returns-then-size_of-size-clause-firsts c).In-Some in
    let same : f c.in-Some.first ≡ c.args.size = rw c.size.view_is at (sym c.size_of.ensures ∙ c.if-size_of-size.true) in
    let p = puts_second f c.args.size c.args.at c.in-Some.first _ _ c.requires.tile same s in
    firsts_are f (c.insert_behind.ensures.lists bin s.front s.back below s.split) refl
    (firsts_stay f c.args.links.now.lists c.requires.firsts bin _ (omega (arith, c.large_index-bin.ensures, large_above c.args.size c.requires.large)) (omega (arith, below, c.laws.ensures.width)) p.first)

pub returns-else-size_of-size-clause-lists : goal.returns-else-size_of-size-clause-lists
returns-else-size_of-size-clause-lists c =
    let f = size_at c.args.tiles.now.tiles in
    let s = stop (goal.at.returns-else-size_of-size-clause-lists c).In-Some in
    let other = c.if-size_of-size.false in
    let less : f c.in-Some.first < c.args.size = omega (arith, s.most, other, c.size_of.ensures, c.size.view_is) in
    let p = puts_before f c.args.size c.args.at c.in-Some.first _ _ c.requires.tile less s in
    c.insert_before.ensures.lists s.front s.back s.split ∙ put_is c.args.tiles.now.tiles c.args.links.now.lists c.large_index-bin.result c.args.size c.args.at _ c.large_index-bin.ensures p.put

pub returns-else-size_of-size-clause-firsts : goal.returns-else-size_of-size-clause-firsts
returns-else-size_of-size-clause-firsts c =
    let f = size_at c.args.tiles.now.tiles in
    let bin = c.large_index-bin.result in
    let below = bin_below c.args.size c.large_index-bin.ensures in
    let s = stop (goal.at.returns-else-size_of-size-clause-firsts c).In-Some in
    let other = c.if-size_of-size.false in
    let less : f c.in-Some.first < c.args.size = omega (arith, s.most, other, c.size_of.ensures, c.size.view_is) in
    let p = puts_before f c.args.size c.args.at c.in-Some.first _ _ c.requires.tile less s in
    firsts_are f (c.insert_before.ensures.lists s.front s.back s.split) (c.insert_before-else-size_of-size.ensures.lists (leads f s.front) _ s.first)
    (firsts_set f c.args.links.now.lists c.requires.firsts bin _ _ (omega (arith, c.large_index-bin.ensures, large_above c.args.size c.requires.large)) (omega (arith, below, c.laws.ensures.width)) (omega (arith, below, c.laws-2.ensures.width)) p.first)
