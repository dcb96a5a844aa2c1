-- Where the tiles of the main arena lie (this project's own): they fill the break, from the start of its window on, and the
-- pieces.
use Rattle.std.specs.Prelude.{◌≡◌, ℕ, ◌+◌, ◌-◌, ◌%◌, ◌≤◌, ◌&&◌, nat_lt, nat_le, if◌then◌else◌, sum_by, IsTrue}
use Rattle.chunk_tags.specs.Tunables.{main_limit}
use Rattle.address_space.specs.Spaces.{main_start, piece_start}
use Rattle.arena_rules.specs.PlainArena.{Plain, is_main, tiled_bytes}

-- 1 where a range of so many bytes from an address on has a byte, else 0
abbrev pub covers : ℕ → ℕ → ℕ → ℕ
covers n at size = if nat_le at n && nat_lt n (at + size) then 1 else 0

-- how many tiles have a byte
abbrev pub times_covered : ℕ → Plain → ℕ
times_covered n a = sum_by (λ t. covers n t.addr t.size) a.tiles

-- the bytes of main's break, and of its pieces
abbrev pub break_bytes : Plain → ℕ
break_bytes a = a.break_at - main_start

abbrev pub piece_bytes : Plain → ℕ
piece_bytes a = a.next_piece - piece_start

-- The main arena lies in its windows, in whole pages, and its tiles fill its break and its pieces: a byte of these is in
-- one tile, any other in none. Its bytes from the system are those of the break and the pieces, and those of its tiles.
pub record IsMainPlaced (a : Plain) : Type 0 where
  pub filled : (n : ℕ) → times_covered n a ≡ covers n main_start (break_bytes a) + covers n piece_start (piece_bytes a)
  pub start : main_start ≤ a.break_at
  pub limit : a.break_at ≤ main_start + main_limit
  pub pieces : piece_start ≤ a.next_piece
  pub piece_limit : a.next_piece ≤ piece_start + main_limit
  pub break_page : a.break_at % 4096 ≡ 0
  pub piece_page : a.next_piece % 4096 ≡ 0
  pub system : a.system ≡ break_bytes a + piece_bytes a
  pub tiled : tiled_bytes a ≡ a.system

-- so does an arena that is main
abbrev pub IsPlaced : Plain → Type 0
IsPlaced a = IsTrue (is_main a) → IsMainPlaced a
