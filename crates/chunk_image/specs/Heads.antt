-- The words of tiles (this project's own; glibc 2.31 malloc/malloc.c keeps them in mchunk_size of a chunk, and in
-- mchunk_prev_size of the next one). No public clause cites this file.
use Rattle.std.specs.Prelude.{◌≡◌, ℕ, ◌+◌, ◌-◌, ◌*◌, ◌/◌, ◌%◌, ◌^◌, ◌<◌, ◌≤◌, Bool, true, false, ◌&&◌, nat_lt, nat_eq, List, [], ◌∷◌, ◌++◌, zero, suc, if◌then◌else◌}
use Rattle.chunk_tags.specs.declared.tiles.Tile.{Tile}
use Rattle.chunk_tags.specs.declared.tiles.TileKind.{TileKind}
use Rattle.chunk_tags.specs.declared.tiles.TileKind.TheVariants.{Used, Free, Top, Fence}
use Rattle.part_words.specs.Extents.{IsOpen, IsWider}
use Rattle.part_words.specs.Parts.{Parts, word_at, update, extent_of, seen_through}
use Rattle.chunk_image.specs.declared.heads.Cell.{Cell}
use Rattle.chunk_image.specs.declared.heads.Head.{Head}
use Rattle.chunk_image.specs.Rows.{TileRow, IsRoom, IsWordSize}

-- a kind by its number
abbrev pub kind_of : ℕ → TileKind
kind_of n = if nat_eq n 0 then Used else (if nat_eq n 1 then Free else (if nat_eq n 2 then Top else Fence))

-- What a word says: the head is the size in units of 16 bytes, times four, and the number of the kind; the foot is a size
-- in these units.
abbrev pub head_in : ℕ → Head
head_in word = record { size = word / 4 * 16; kind = kind_of (word % 4) }

abbrev pub heads_of : Parts Cell → Parts Head
heads_of cells = seen_through (λ c. head_in c.head) cells

abbrev pub feet_of : Parts Cell → Parts ℕ
feet_of cells = seen_through (λ c. c.foot * 16) cells

-- a word before it is written
abbrev pub no_cell : Cell
no_cell = record { head = 0; foot = 0 }

-- where no tile begins
abbrev pub no_head : Head
no_head = record { size = 0; kind = Used }

abbrev pub head_at : Parts Head → ℕ → Head
head_at ws = word_at ws no_head

abbrev pub foot_at : Parts ℕ → ℕ → ℕ
foot_at ws = word_at ws 0

-- the tile that begins at an address, if one does
abbrev pub tiles_with : ℕ → Head → List Tile
tiles_with at h =
    if nat_eq h.size 0 then [] else record { addr = at; size = h.size; kind = h.kind } ∷ []

-- the tiles that begin at so many addresses, from an address on
unfoldable pub scan : ℕ → (ℕ → Head) → ℕ → List Tile
scan zero heads at = []
scan (suc n) heads at = tiles_with at (heads at) ++ scan n heads (at + 1)

unfoldable pub tiles_of : Parts Head → List Tile
tiles_of ws = scan (2 ^ 64) (head_at ws) 0

abbrev pub row_of : Parts Head → TileRow
row_of ws = record { tiles = tiles_of ws; extent = extent_of ws }

abbrev pub is_kind_free : TileKind → Bool
is_kind_free kind = elim kind [ Used ↦ false | Free ↦ true | Top ↦ false | Fence ↦ false ]

-- a free tile begins here
abbrev pub is_free_head : Head → Bool
is_free_head h = nat_lt 0 h.size && is_kind_free h.kind

-- the size of a free tile stands at its end, and each foot is that of a free tile
pub record AreFooted (heads : ℕ → Head) (feet : ℕ → ℕ) : Type 0 where
  pub footed : (a : ℕ) → is_free_head (heads a) ≡ true → feet (a + (heads a).size) ≡ (heads a).size
  pub below : (b : ℕ) → feet b ≤ b
  pub meant : (b : ℕ) → 0 < feet b → heads (b - feet b) ≡ record { size = feet b; kind = Free }

-- what is true of the words of tiles
pub record IsKept (heads : Parts Head) (feet : Parts ℕ) : Type 0 where
  pub covers : IsWider (extent_of heads) (extent_of feet)
  pub fits : (a : ℕ) → IsWordSize (head_at heads a).size
  pub room : (a : ℕ) → 0 < (head_at heads a).size → IsRoom (extent_of heads) a (head_at heads a).size
  pub footed : AreFooted (head_at heads) (foot_at feet)

-- what a head needs where it is to stand: its size fits a word, there is room for its tile, and where it is free, its foot has a word, and
-- no other free tile ends there
pub record CanStand (heads : Parts Head) (at : ℕ) (h : Head) : Type 0 where
  pub place : IsOpen (extent_of heads) at
  pub fits : IsWordSize h.size
  pub room : IsRoom (extent_of heads) at h.size
  pub foot : is_free_head h ≡ true → IsOpen (extent_of heads) (at + h.size)
  pub alone : is_free_head h ≡ true → (a : ℕ) → is_free_head (head_at heads a) ≡ true → a + (head_at heads a).size ≡ at + h.size → a ≡ at

-- a value where the foot of a tile is, if that is free
abbrev pub with_foot : Head → ℕ → ℕ → (ℕ → ℕ) → ℕ → ℕ
with_foot h at n feet = if is_free_head h then update feet (at + h.size) n else feet
