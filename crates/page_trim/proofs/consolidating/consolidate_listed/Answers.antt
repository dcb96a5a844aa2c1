use Rattle.std.proofs.Common.{◌<◌, length, map, arith}
use Rattle.std.proofs.lemmas.List.{length-map}
use Rattle.page_trim.specs.Trimming.{consolidated_arena}
use Rattle.page_trim.proofs.Merging.{bin_left, left_used, left_many, merging_all}
use Rattle.page_trim.proofs.consolidating.consolidate_listed.Goals as goal

pub merge_list-requires-clause-used : goal.merge_list-requires-clause-used
merge_list-requires-clause-used g c =
    let below : c.loop-bin.bin < length c.args.fast.now = omega arith in
    left_used _ _ _ _ _ _ c.loop-bin.invariant (bin_left c.args.fast.now c.loop-bin.bin c.index-fast-bin.result _ below c.index-fast-bin.is c.as_slice.ensures.value)

pub loop-bin-preserved : goal.loop-bin-preserved
loop-bin-preserved g c =
    let below : c.loop-bin.bin < length c.args.fast.now = omega arith in
    left_many _ _ _ _ _ _ _ c.loop-bin.invariant (bin_left c.args.fast.now c.loop-bin.bin c.index-fast-bin.result _ below c.index-fast-bin.is c.as_slice.ensures.value) c.merge_list.ensures

pub returns : goal.returns
unfolding consolidated_arena
returns g c =
    let all = merging_all _ _ _ (map (λ v. v.items) c.args.fast.now) c.loop-bin.bin (omega (arith, c.requires.ten, length-map c.args.fast.now (λ v. v.items))) c.loop-bin.invariant in
    record { consolidated = all.0; sound = all.1 }
