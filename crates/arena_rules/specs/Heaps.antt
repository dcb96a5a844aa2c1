-- The heaps of another arena: glibc 2.31 malloc/arena.c, new_heap, grow_heap, shrink_heap, delete_heap and heap_trim. Where
-- their windows lie, and what of a heap's end is top where the next one is dropped, are this project's own.
use Rattle.std.specs.Prelude.{ℕ, ◌+◌, ◌-◌, ◌*◌, ◌/◌, Bool, false, nat_eq, [], ◌∷◌, Option, Some, None, if◌then◌else◌}
use Rattle.chunk_tags.specs.Tiles.{is_free, tile_before, top_of, end_of}
use Rattle.chunk_tags.specs.declared.tiles.Tile.{Tile}
use Rattle.chunk_tags.specs.declared.tiles.TileKind.TheVariants.{Top}
use Rattle.address_space.specs.Spaces.{heaps_start}
use Rattle.arena_rules.specs.declared.heap_end.HeapEnd.{HeapEnd}
use Rattle.arena_rules.specs.PlainArena.{Plain, HeapWindows, empty_bins, unlinked}
use Rattle.arena_rules.specs.Moves.{top_size, top_start, with_top_size, with_moved_top, with_tiles, chunk_of, tile_of}

-- ---- where they are

-- where a heap begins
abbrev pub heap_start : Plain → ℕ → ℕ
heap_start a heap = heaps_start + ((a.number - 1) * a.windows.heaps + heap) * a.windows.heap_max

-- the heap in whose window an address is
abbrev pub heap_index : Plain → ℕ → ℕ
heap_index a at = (at - heap_start a 0) / a.windows.heap_max

-- the length of the heap in which a tile is the last one
abbrev pub heap_length : Plain → Tile → ℕ
heap_length a edge = end_of edge - heap_start a (heap_index a edge.addr)

-- the heap that top is in, and its length
abbrev pub last_heap : Plain → ℕ
last_heap a = elim (top_of a.tiles) [ None ↦ 0 | Some top ↦ heap_index a top.addr ]

abbrev pub last_length : Plain → ℕ
last_length a = elim (top_of a.tiles) [ None ↦ 0 | Some top ↦ heap_length a top ]

-- what stands before the first chunk of a heap: in heap 0 the record of the arena too
abbrev pub header_bytes : ℕ → ℕ
header_bytes heap = if nat_eq heap 0 then 2240 else 32

-- ---- an arena is opened

-- another arena before its first heap
abbrev pub unopened : ℕ → HeapWindows → Plain
unopened number windows = record {
  number = number;
  windows = windows;
  tiles = [];
  bins = empty_bins;
  last = None;
  contiguous = false;
  break_at = 0;
  next_piece = 0;
  system = 0;
  most = 0;
}

-- the arena with its heap 0: behind its header all is top
abbrev pub opened_arena : Plain → ℕ → Plain
opened_arena a len = record a {
  tiles = tile_of Top (heap_start a 0 + header_bytes 0) (len - header_bytes 0) ∷ [];
  system = len;
  most = len;
}

-- ---- its heaps grow

-- the last heap is longer, and so is top
abbrev pub heap_extended : Plain → ℕ → Plain
heap_extended a growth = with_top_size (record a { system = a.system + growth }) (top_size a + growth)

-- top moves to a new heap, behind its header, and the old one is closed
abbrev pub heap_added : Plain → ℕ → Plain
heap_added a len =
    with_moved_top (record a { system = a.system + len }) (heap_start a (last_heap a + 1) + 32) (len - 32)

-- ---- they are given back

-- the end of the last heap, and of top, is given back
abbrev pub heap_shortened : Plain → ℕ → Plain
heap_shortened a bytes = record (with_top_size a (top_size a - bytes)) { system = a.system - bytes }

abbrev pub free_part : Option Tile → Option Tile
free_part None = None
free_part (Some u) = if is_free u then Some u else None

-- the end of the heap before that of top, where a tile is before top
abbrev pub end_before : Plain → Tile → Option HeapEnd
end_before a top = elim (tile_before top.addr a.tiles) [
  | None ↦ None
  | Some f ↦ Some (record { fence = f; before = free_part (tile_before f.addr a.tiles); room = a.windows.heap_max - heap_length a f })
]

-- whether top is the first chunk of a later heap
abbrev pub is_first_in_heap : Plain → Tile → Bool
is_first_in_heap a top = nat_eq top.addr (heap_start a (heap_index a top.addr) + 32)

-- that end, where top is the first chunk of its heap
abbrev pub end_before_heap : Plain → Option HeapEnd
end_before_heap a = elim (top_of a.tiles) [
  | None ↦ None
  | Some top ↦ if is_first_in_heap a top then end_before a top else None
]

-- the bytes of the fence, and of the free chunk before it, and where they begin
abbrev pub end_bytes : HeapEnd → ℕ
end_bytes e = e.fence.size + (elim e.before [ None ↦ 0 | Some u ↦ u.size ])

abbrev pub end_start : HeapEnd → ℕ
end_start e = elim e.before [ None ↦ e.fence.addr | Some u ↦ u.addr ]

-- the arena without that free chunk
abbrev pub without_free_part : Plain → Option Tile → Plain
without_free_part a None = a
without_free_part a (Some u) = with_tiles (unlinked a (chunk_of u)) u.addr []

-- the last heap is dropped, and the end of the one before is top
abbrev pub without_heap : Plain → HeapEnd → Plain
without_heap a e =
    let gone = with_tiles (without_free_part a e.before) (top_start a) [] in
    record (with_tiles gone e.fence.addr (tile_of Top (end_start e) (end_bytes e) ∷ [])) { system = a.system - last_length a }
