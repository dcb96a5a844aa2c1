-- What rules of a hold do about mappings (this project's own): none is asked for, or one is granted at most, which is
-- counted at once and is what the hold ends with.
use Rattle.std.specs.Prelude.{◌≡◌, ℕ, true, false}
use Rattle.chunk_tags.specs.Pages.{mapping_length}
use Rattle.chunk_tags.specs.declared.tiles.Chunk.{Chunk}
use Rattle.arena_rules.specs.declared.said.Said.{Said}
use Rattle.arena_rules.specs.PlainArena.{Plain}
use Rattle.arena_rules.specs.Rules.{Rules, Stop, Misfit, Does, Needs, Maps, Counts, flag_of, place_told}
use Rattle.arena_rules.specs.Growth.{Took, InMapping}

-- no mapping is asked for, and none is counted
abbrev pub NeverMaps : {A : Type 0} → Rules A → Type 0
NeverMaps (Stop x) = Unit {0}
NeverMaps Misfit = Unit {0}
NeverMaps (Does (Counts len) r) = ⊥
NeverMaps (Does d r) = NeverMaps r
NeverMaps (Needs a (Maps len) f) = ⊥
NeverMaps (Needs a n f) = (s : Said) → NeverMaps (f s)

-- a granted mapping is counted at once, and is what the hold ends with
pub record EndsMapped (len : ℕ) (s : Said) (r : Rules Took) : Type 0 where
  pub arena : Plain
  pub is : r ≡ Does (Counts len) (Stop (record { found = InMapping (record { at = place_told s; size = len }); arena = arena }))

-- Mappings are asked for that hold nb bytes, again only where one was refused; a granted one ends the hold so, and
-- there is no other end with a mapping.
abbrev pub MapsOnce : ℕ → Rules Took → Type 0
MapsOnce nb (Stop x) = (c : Chunk) → x.found ≡ InMapping c → ⊥
MapsOnce nb Misfit = Unit {0}
MapsOnce nb (Does (Counts len) r) = ⊥
MapsOnce nb (Does d r) = MapsOnce nb r
MapsOnce nb (Needs a (Maps len) f) =
    (len ≡ mapping_length nb) × ((s : Said) → (flag_of s ≡ true → EndsMapped len s (f s)) × (flag_of s ≡ false → MapsOnce nb (f s)))
MapsOnce nb (Needs a n f) = (s : Said) → MapsOnce nb (f s)
