-- Why a search that asks the system is left for want of memory (this project's own): beside answers and pushes, the words
-- for what is asked for have room made before.
use Rattle.std.specs.Prelude.{◌≡◌, ℕ, ◌+◌, ◌≤◌, ◌<◌, false, IsTrue}
use Rattle.std.specs.Global.{Vec}
use Rattle.chunk_tags.specs.declared.tunables.Tunables.{Tunables}
use Rattle.address_space.specs.Spaces.{break_passes, piece_passes}
use Rattle.fast_bins.specs.FastPorts.{Fast}
use Rattle.arena_rules.specs.PlainArena.{Plain, is_main}
use Rattle.arena_rules.specs.Growth.{main_growth, piece_length, extension_bytes, first_length}
use Rattle.arena_rules.specs.Heaps.{last_heap, last_length}
use Rattle.arena_rules.specs.Rules.{windows_of}
use Rattle.consolidate_trim.specs.Lacks.{LacksRoom}

-- what an arena has room for in its words, in bytes: a growth of the break, a piece, an extension of the last heap, and one
-- heap more
pub record WordRoom (M : Type 0) : Type 1 where
  pub growth : M → ℕ → Type 0
  pub piece : M → ℕ → Type 0
  pub extension : M → ℕ → Type 0
  pub heap : M → ℕ → Type 0

abbrev pub word_room : {M : Type 0} → (M → ℕ → Type 0) → (M → ℕ → Type 0) → (M → ℕ → Type 0) → (M → ℕ → Type 0) → WordRoom M
word_room growth piece extension heap = record { growth = growth; piece = piece; extension = extension; heap = heap }

-- There is no room for one more answer, or a bin has none for a push; or an arena that is so now has no room for the words
-- of what it would ask for next, to take nb bytes then, and that would not pass its window.
pub data Lacks {M P X : Type 0} (room : WordRoom M) (fast : Fast P) (t : Tunables) (nb : ℕ) (a : Plain) (g : M) (port : P) (said : Vec X) : Type 0 where
  no_room : LacksRoom fast port said → Lacks room fast t nb a g port said
  no_growth : IsTrue (is_main a) → break_passes (windows_of t) (a.break_at + main_growth t a nb) ≡ false → (room.growth g (main_growth t a nb) → ⊥) → Lacks room fast t nb a g port said
  no_piece : IsTrue (is_main a) → piece_passes (windows_of t) a.next_piece (piece_length t a nb) ≡ false → (room.piece g (piece_length t a nb) → ⊥) → Lacks room fast t nb a g port said
  no_extension : is_main a ≡ false → last_length a + extension_bytes a nb ≤ a.windows.heap_max → (room.extension g (extension_bytes a nb) → ⊥) → Lacks room fast t nb a g port said
  no_heap : is_main a ≡ false → first_length t (nb + 64) ≤ a.windows.heap_max → last_heap a + 1 < a.windows.heaps → (room.heap g (first_length t (nb + 64)) → ⊥) → Lacks room fast t nb a g port said
