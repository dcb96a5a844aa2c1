-- What rules of a hold do about mappings that go on behind a granted one (this project's own): it is counted at once, none
-- is asked for behind it, and it is what the hold ends with, however it goes on.
use Rattle.std.specs.Prelude.{◌≡◌, ℕ, true, false}
use Rattle.chunk_tags.specs.Pages.{mapping_length}
use Rattle.chunk_tags.specs.declared.tiles.Chunk.{Chunk}
use Rattle.arena_rules.specs.declared.said.Said.{Said}
use Rattle.arena_rules.specs.Rules.{Rules, Stop, Misfit, Does, Needs, Maps, Counts, flag_of, place_told}
use Rattle.arena_rules.specs.Growth.{Took, InMapping}
use Rattle.arena_rules.specs.Mapped.{NeverMaps}

-- what holds of every end of the rules
abbrev pub StopsAs : {A : Type 0} → (A → Type 0) → Rules A → Type 0
StopsAs P (Stop x) = P x
StopsAs P Misfit = Unit {0}
StopsAs P (Does d r) = StopsAs P r
StopsAs P (Needs a n f) = (s : Said) → StopsAs P (f s)

-- what was found is a mapping, this one; or is none
abbrev pub IsInMapping : Chunk → Took → Type 0
IsInMapping c took = took.found ≡ InMapping c

abbrev pub IsNotMapped : Took → Type 0
IsNotMapped took = (c : Chunk) → took.found ≡ InMapping c → ⊥

-- a granted mapping is counted at once; what follows asks for none, and ends with it
pub record GoesOnMapped (len : ℕ) (s : Said) (r : Rules Took) : Type 0 where
  pub rest : Rules Took
  pub is : r ≡ Does (Counts len) rest
  pub never : NeverMaps rest
  pub ends : StopsAs (IsInMapping (record { at = place_told s; size = len })) rest

-- Mappings are asked for that hold nb bytes, again only where one was refused; from a granted one on the hold goes on
-- so, and there is no other end with a mapping.
abbrev pub KeepsMapping : ℕ → Rules Took → Type 0
KeepsMapping nb (Stop x) = IsNotMapped x
KeepsMapping nb Misfit = Unit {0}
KeepsMapping nb (Does (Counts len) r) = ⊥
KeepsMapping nb (Does d r) = KeepsMapping nb r
KeepsMapping nb (Needs a (Maps len) f) =
    (len ≡ mapping_length nb) × ((s : Said) → (flag_of s ≡ true → GoesOnMapped len s (f s)) × (flag_of s ≡ false → KeepsMapping nb (f s)))
KeepsMapping nb (Needs a n f) = (s : Said) → KeepsMapping nb (f s)
