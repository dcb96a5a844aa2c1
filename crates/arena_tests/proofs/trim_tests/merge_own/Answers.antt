use Rattle.std.proofs.Common.{◌≡◌, refl, sym, ap, ◌∙◌, subst}
use Rattle.arena_rules.specs.PlainArena.{Plain, IsSound}
use Rattle.arena_rules.specs.Release.{Merging}
use Rattle.arena_rules.proofs.Merging.{merged_moved}
use Rattle.consolidate_trim.specs.Merges.{merging_of}
use Rattle.consolidate_trim.specs.declared.merging.Merged.{Merged}
use Rattle.consolidate_trim.specs.declared.merging.Merged.TheVariants.{Unsorted, Top}
use Rattle.arena_tests.proofs.trim_tests.merge_own.Goals as goal

arena_is : (m : Merged) (a : Plain) → (merging_of m a).arena ≡ a
arena_is (Unsorted size) a = refl
arena_is (Top size) a = refl

pub returns : goal.returns
returns g c =
    let is = sym (arena_is c.merge.result c.merge.new.g.arena) ∙ ap (λ (m : Merging). m.arena) c.merge.ensures in
    subst IsSound (sym is) (merged_moved c.args.g.now.arena c.args.c c.requires c.in_ok-expect_own.ensures).sound
