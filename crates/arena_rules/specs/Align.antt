-- The search for a chunk at an aligned user address, under an arena's lock: glibc 2.31 malloc/malloc.c, _int_memalign.
use Rattle.std.specs.Prelude.{◌≡◌, ℕ, ◌+◌, ◌-◌, ◌%◌, ◌≤◌, true, nat_eq, nat_lt, None, if◌then◌else◌}
use Rattle.std.specs.Int.{is_power_of_two}
use Rattle.chunk_tags.specs.Sizes.{chunk_size_of}
use Rattle.chunk_tags.specs.declared.block.Block.{Block}
use Rattle.chunk_tags.specs.declared.tiles.Chunk.{Chunk}
use Rattle.chunk_tags.specs.declared.tunables.Tunables.{Tunables}
use Rattle.arena_rules.specs.PlainArena.{Plain}
use Rattle.arena_rules.specs.Moves.{parted, Hand, hand}
use Rattle.arena_rules.specs.Rules.{Rules, Stop, behind}
use Rattle.arena_rules.specs.Release.{released}
use Rattle.arena_rules.specs.Growth.{InArena, InMapping, Nowhere, Took}
use Rattle.arena_rules.specs.Search.{searched}
use Rattle.arena_rules.specs.Resize.{front_of, back_of, took_in, cut_behind}

-- an alignment that isn't every chunk's: a power of two from 32 on
pub record IsAlignment (align : ℕ) : Type 0 where
  pub least : 32 ≤ align
  pub power : is_power_of_two align ≡ true

-- the request whose chunk has an aligned part of nb bytes wherever it lies, and the size of that chunk
abbrev pub request_with_lead : ℕ → ℕ → ℕ
request_with_lead align nb = nb + align + 32

abbrev pub size_with_lead : ℕ → ℕ → ℕ
size_with_lead align nb = chunk_size_of (request_with_lead align nb)

-- how far a chunk's user address is past a multiple
abbrev pub bytes_past : ℕ → ℕ → ℕ
bytes_past align at = (at + 16) % align

-- the way to the next multiple; where that is below 32 bytes, to the one behind it
abbrev pub lead_past : ℕ → ℕ → ℕ
lead_past align past = if nat_lt (align - past) 32 then align - past + align else align - past

-- How far behind a chunk's address the aligned one begins: at once where the user address is a multiple, else where a
-- chunk of at least 32 bytes is before it.
abbrev pub lead_of : ℕ → ℕ → ℕ
lead_of align at = if nat_eq (bytes_past align at) 0 then 0 else lead_past align (bytes_past align at)

-- the aligned part of a chunk
abbrev pub aligned_part : ℕ → Chunk → Chunk
aligned_part align c = back_of c (lead_of align c.at)

-- In a mapping the lead is kept as such: the caller's block is behind it, and has it.
abbrev pub aligned_block : ℕ → Chunk → Block
aligned_block align c = record {
  addr = (aligned_part align c).at;
  size = (aligned_part align c).size;
  lead = lead_of align c.at;
  arena = None;
}

-- A tail is cut off where the chunk has more than nb + 32 bytes.
abbrev pub tail_cut : Tunables → ℕ → Hand → Rules Took
tail_cut t nb h = if nat_lt (nb + 32) h.chunk.size then cut_behind t nb h else Stop (took_in h.chunk h.arena)

-- A lead is parted off and released, and then the tail is cut.
abbrev pub lead_cut : Tunables → ℕ → ℕ → Hand → Rules Took
lead_cut t lead nb h =
    behind (released t (parted h.arena h.chunk lead) (front_of h.chunk lead)) (λ b. tail_cut t nb (hand (back_of h.chunk lead) b))

-- the aligned part of a used chunk, with what is before and behind it cut off
abbrev pub aligned_in : Tunables → ℕ → ℕ → Hand → Rules Took
aligned_in t align nb h =
    let lead = lead_of align h.chunk.at in
    if nat_eq lead 0 then tail_cut t nb h else lead_cut t lead nb h

-- What was found with room for a lead: of a chunk of the arena the aligned part is kept; a mapping stays whole, with its
-- block behind its lead (`aligned_block`).
abbrev pub align_with : Tunables → ℕ → ℕ → Took → Rules Took
align_with t align nb took = elim took.found [
  | InArena c ↦ aligned_in t align nb (hand c took.arena)
  | InMapping c ↦ Stop took
  | Nowhere ↦ Stop took
]

-- The search for an aligned chunk of nb bytes. Where its end is a mapping, that is the whole one; the hold's entry has
-- the block behind the lead.
abbrev pub align_of : Tunables → ℕ → ℕ → Plain → Rules Took
align_of t align nb a = behind (searched t (size_with_lead align nb) a) (align_with t align nb)
