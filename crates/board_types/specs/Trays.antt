-- Trays (this project's own), in which a thread leaves a block for another: the word of each tray tells its state, and its slot
-- what lies there.
use Rattle.std.specs.Prelude.{◌≡◌, ℕ, ◌≤◌, Option as Maybe, Some, None, List, [], ◌∷◌, map, slice_index}
use mathlib.Core.Option.{Option, none, some}
use lib.ListN.{get_elem?}
use Rattle.chunk_tags.specs.declared.block.Block.{Block}
use Rattle.board_types.specs.declared.slot.Slot.{Slot}
use Rattle.board_types.specs.Views.{Posted, TraysView}
use Rattle.board_types.specs.Weights.{weigh, each}

-- What a tray is: vacant, claimed by the pass of this number for a block that isn't in its slot yet, with a block to take, or taken.
-- A tray is used once.
pub data Tray : Type 0 where
  Vacant : Tray
  Claimed : ℕ → Block → Tray
  Full : Block → Tray
  Took : Block → Tray

-- its word
abbrev pub code : Tray → ℕ
code Vacant = 0
code (Claimed p b) = 1
code (Full b) = 2
code (Took b) = 3

-- the slot of a tray
abbrev pub tray_slot : Maybe Block → Slot
tray_slot b = record { home = None; block = b; book = None }

-- what the slot of a tray has to be
abbrev pub Lies : Tray → Option Slot → Type 0
Lies Vacant s = s ≡ some (tray_slot None)
Lies (Claimed p b) s = s ≡ none
Lies (Full b) s = s ≡ some (tray_slot (Some b))
Lies (Took b) s = Unit {0}

-- a block as it lies in a tray
abbrev pub with_tray : ℕ → Block → Posted
with_tray k b = record { tray = k; block = b }

-- what a tray weighs among the blocks that were posted, and among those that were taken
abbrev pub posted : (Posted → ℕ) → ℕ → Tray → ℕ
posted h k Vacant = 0
posted h k (Claimed p b) = 0
posted h k (Full b) = h (with_tray k b)
posted h k (Took b) = h (with_tray k b)

abbrev pub taken : (Posted → ℕ) → ℕ → Tray → ℕ
taken h k Vacant = 0
taken h k (Claimed p b) = 0
taken h k (Full b) = 0
taken h k (Took b) = h (with_tray k b)

-- each value found in a tray is at most the tray's word
abbrev pub AreFound : List ℕ → List (ℕ × ℕ) → Type 0
AreFound words [] = Unit {0}
AreFound words (f ∷ fs) = (f.1 ≤ slice_index words f.0) × AreFound words fs

-- The part of the rule. The weights say, of each way to weigh, that views list as posted and as taken what the trays have.
pub record Trays (trays : List Tray) (words : List ℕ) (slots : List (Option Slot)) (views : List TraysView) : Type 0 where
  pub codes : words ≡ map code trays
  pub lies : (k : ℕ) (t : Tray) → get_elem? trays k ≡ some t → (s : Option Slot) × (get_elem? slots k ≡ some s) × Lies t s
  -- a claimed tray is in its claimer's hand, and what is in a hand is claimed
  pub claims : (p k : ℕ) (b : Block) → get_elem? trays k ≡ some (Claimed p b) →
      (v : TraysView) × (get_elem? views p ≡ some v) × (v.hand ≡ Some (with_tray k b))
  pub hands : (p k : ℕ) (b : Block) (v : TraysView) → get_elem? views p ≡ some v → v.hand ≡ Some (with_tray k b) →
      get_elem? trays k ≡ some (Claimed p b)
  -- a tray whose block is being drawn was taken
  pub draws : (p k : ℕ) (v : TraysView) → get_elem? views p ≡ some v → v.drawing ≡ Some k →
      (b : Block) × (get_elem? trays k ≡ some (Took b))
  pub posts : (h : Posted → ℕ) → weigh (λ v. weigh h v.posts) views ≡ each (posted h) 0 trays
  pub takes : (h : Posted → ℕ) → weigh (λ v. weigh h v.takes) views ≡ each (taken h) 0 trays
  pub found : (p : ℕ) (v : TraysView) → get_elem? views p ≡ some v → AreFound words v.found
