-- Places (this project's own): each used chunk of an arena stands in exactly one place, which is a pass's blocks or hand, a tray, a
-- chain or a private list.
use Rattle.std.specs.Prelude.{◌≡◌, ℕ, ◌+◌, ◌<◌, ◌≤◌, ◌&&◌, Bool, false, true, Option as Maybe, Some, None, List, [], ◌∷◌, ◌++◌, slice_index_or, nat_eq, nat_le, if◌then◌else◌, not}
use mathlib.Core.Option.{some}
use lib.ListN.{get_elem?}
use Rattle.chunk_tags.specs.declared.block.Block.{Block}
use Rattle.chunk_tags.specs.declared.tiles.Chunk.{Chunk}
use Rattle.chunk_tags.specs.declared.tiles.Tile.{Tile}
use Rattle.chunk_tags.specs.BinOrder.{same_chunk}
use Rattle.chunk_tags.specs.Tiles.{is_used}
use Rattle.arena_rules.specs.PlainArena.{times_used}
use Rattle.arena_core.specs.KeptArenas.{KeptArena}
use Rattle.board_types.specs.Views.{HomeValue, OwnChunk, Posted, PlacesView, Taken}
use Rattle.board_types.specs.Weights.{weigh, each}
use Rattle.board_types.specs.Homes.{no_home}
use Rattle.board_types.specs.Trays.{Tray}
use Rattle.board_types.specs.Dials.{in_a_hand, full}
use Rattle.board_types.specs.Chains.{times_own, in_lists, in_gathered, own_chunk}

-- 1 for a block that is this chunk of the arena a, and else 0
abbrev pub as_chunk_of : ℕ → Chunk → Block → ℕ
as_chunk_of a c b =
    if same_chunk c (record { at = b.addr; size = b.size }) && (elim b.arena [ None ↦ false | Some n ↦ nat_eq n a ]) then 1 else 0

-- how often a chunk is a used one of an arena, 0 where there is none
abbrev pub used_of : Maybe KeptArena → Chunk → ℕ
used_of None c = 0
used_of (Some k) c = times_used c k.arena

-- of what lies at a home
abbrev pub used_in : HomeValue → Chunk → ℕ
used_in x c = used_of x.arena c

-- of the arena a, as it was last at home
abbrev pub used_at : List HomeValue → ℕ → Chunk → ℕ
used_at last a c = used_in (slice_index_or last a no_home) c

-- What this part sees of a view: its blocks and what it changed, its hand, what it holds, and the chunks that it took over.
pub record Sight : Type 0 where
  pub places : PlacesView
  pub hand : Maybe Posted
  pub holds : Maybe Taken
  pub gathered : List (List ℕ)

-- how often a chunk is among blocks
abbrev pub times_in : ℕ → Chunk → List Block → ℕ
times_in a c bs = weigh (as_chunk_of a c) bs

-- what one view has of a chunk: its blocks, the one in its hand, and what it took over of chains
abbrev pub has : ℕ → Chunk → Sight → ℕ
has a c v = times_in a c v.places.mine + (in_a_hand (as_chunk_of a c) v.hand + in_gathered a c v.holds v.gathered)

-- how often it is among those pushed in a hold and not used at home
abbrev pub pends : ℕ → Chunk → Sight → ℕ
pends a c v = times_own a c v.places.pending

-- The part of the rule.
pub record Places (last : List HomeValue) (chains own : List (List ℕ)) (trays : List Tray) (views : List Sight) : Type 0 where
  -- the places of a chunk are as many as it is used or pending, which is at most one
  pub one_place : (a : ℕ) (c : Chunk) → weigh (has a c) views
      + (each (full (as_chunk_of a c)) 0 trays + (in_lists a c 0 chains + in_lists a c 0 own))
      ≡ used_at last a c + weigh (pends a c) views
  pub once : (a : ℕ) (c : Chunk) → used_at last a c + weigh (pends a c) views ≤ 1
  -- what is used was made so by unlocks, and not made unused
  pub changed : (a : ℕ) (c : Chunk) → weigh (λ v. times_own a c v.places.made) views
      ≡ used_at last a c + weigh (λ v. times_own a c v.places.unmade) views
  -- only the holder has pushed what the arena as it was at home doesn't have
  pub pending : (p n : ℕ) (c : Chunk) (v : Sight) → get_elem? views p ≡ some v → 0 < pends n c v →
      (x : HomeValue) × (v.holds ≡ Some (record { home = n; value = x }))

-- ---- a block that comes or goes: `mine` has blocks of arenas alone

-- both are mapped, or both are of the same arena
abbrev pub same_arena : Maybe ℕ → Maybe ℕ → Bool
same_arena None None = true
same_arena None (Some m) = false
same_arena (Some n) None = false
same_arena (Some n) (Some m) = nat_eq n m

-- the same block, of whatever lead
abbrev pub is_block : Block → Block → Bool
is_block b x = nat_eq b.addr x.addr && (nat_eq b.size x.size && same_arena b.arena x.arena)

-- without the first that is this block
abbrev pub first_without : Block → List Block → List Block
first_without b [] = []
first_without b (x ∷ xs) = if is_block b x then xs else x ∷ first_without b xs

-- a pass's blocks of arenas once this block went, and once it came
abbrev pub without_block : Block → List Block → List Block
without_block b xs = elim b.arena [ None ↦ xs | Some a ↦ first_without b xs ]

abbrev pub with_block : Block → List Block → List Block
with_block b xs = elim b.arena [ None ↦ xs | Some a ↦ b ∷ xs ]

-- how often it is there
abbrev pub times_block : Block → List Block → ℕ
times_block b xs = weigh (λ x. if is_block b x then 1 else 0) xs

-- ---- what an unlock changes

-- whether a block is of another arena, or mapped
abbrev pub is_other : ℕ → Block → Bool
is_other a b = elim b.arena [ None ↦ true | Some n ↦ not (nat_eq n a) ]

-- a tile as a chunk, and as a block of the arena a
abbrev pub chunk_of : Tile → Chunk
chunk_of t = record { at = t.addr; size = t.size }

abbrev pub block_at : ℕ → Tile → Block
block_at a t = record { addr = t.addr; size = t.size; lead = 0; arena = Some a }

-- of blocks, those of other arenas
abbrev pub of_others : ℕ → List Block → List Block
of_others a [] = []
of_others a (b ∷ bs) = if is_other a b then b ∷ of_others a bs else of_others a bs

-- of a row of tiles, the used ones that pass a test, as blocks of the arena a
abbrev pub own_tiles : (Chunk → Bool) → ℕ → List Tile → List Block
own_tiles mine a [] = []
own_tiles mine a (t ∷ ts) =
    if is_used t && mine (chunk_of t) then block_at a t ∷ own_tiles mine a ts else own_tiles mine a ts

-- and the same as chunks
abbrev pub used_tiles : (Chunk → Bool) → ℕ → List Tile → List OwnChunk
used_tiles test a [] = []
used_tiles test a (t ∷ ts) =
    if is_used t && test (chunk_of t) then own_chunk a (chunk_of t) ∷ used_tiles test a ts else used_tiles test a ts

-- the tiles of an arena, none where there is none
abbrev pub tiles_in : Maybe KeptArena → List Tile
tiles_in None = []
tiles_in (Some k) = k.arena.tiles

-- nobody else has a chunk: the pass has it as often as it was used at home or is pending
abbrev pub is_free_of_others : ℕ → HomeValue → PlacesView → Chunk → Bool
is_free_of_others a x v c = nat_le (used_in x c + times_own a c v.pending) (times_in a c v.mine)

-- A pass's blocks once an arena that was x is given back as y: of its used chunks those that nobody else has, and the blocks of other
-- arenas.
abbrev pub mine_after : ℕ → HomeValue → HomeValue → PlacesView → List Block
mine_after a x y v = own_tiles (is_free_of_others a x v) a (tiles_in y.arena) ++ of_others a v.mine

-- and with that the chunks that this unlock made used and unused, none being pending
abbrev pub given_back : ℕ → HomeValue → HomeValue → PlacesView → PlacesView
given_back a x y v = record {
  mine = mine_after a x y v;
  made = v.made ++ used_tiles (λ c. nat_eq (used_in x c) 0) a (tiles_in y.arena);
  unmade = v.unmade ++ used_tiles (λ c. nat_eq (used_in y c) 0) a (tiles_in x.arena);
  pending = [];
}

-- What others have of an arena that the pass holds is still used where it comes back as y.
pub record KeepsOthers (a : ℕ) (x y : HomeValue) (v : PlacesView) : Type 0 where
  pub used : (c : Chunk) → used_in x c + times_own a c v.pending ≤ times_in a c v.mine + used_in y c
