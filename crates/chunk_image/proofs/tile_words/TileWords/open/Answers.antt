use Rattle.std.proofs.Common.{refl}
use Rattle.chunk_image.proofs.CellLaws.{heads_alike, feet_alike, heads_extended, feet_extended, heads_unopened}
use Rattle.chunk_image.proofs.HeadLaws.{IsKept-opened}
use Rattle.chunk_image.proofs.ScanLaws.{tiles_of-same}
use Rattle.chunk_image.proofs.tile_words.TileWords.open.Goals as goal

pub invariant_of-self : goal.invariant_of-self
invariant_of-self c = rw c.in_err-open.ensures.err c.self.invariant

pub invariant_of-self-2 : goal.invariant_of-self-2
invariant_of-self-2 c =
    IsKept-opened _ _ _ _ _ _ c.self.invariant (heads_alike _ _ c.open.ensures.words) (feet_alike _ _ c.open.ensures.words) (heads_extended _ _ _ _ c.in_ok-open.ensures.extent) (feet_extended _ _ _ _ c.in_ok-open.ensures.extent)

pub returns-clause-ok : goal.returns-clause-ok
returns-clause-ok c =
    rw (← c.self.view_is, ← c.at.view_is, heads_extended _ _ _ _ c.in_ok-open.ensures.extent, tiles_of-same _ _ (heads_alike _ _ c.open.ensures.words)) refl

pub returns-in_err-open-clause-full : goal.returns-in_err-open-clause-full
returns-in_err-open-clause-full c =
    rw (← c.self.view_is, ← c.at.view_is) (heads_unopened _ _ _ c.from_residual.result c.in_err-open.ensures.full)
