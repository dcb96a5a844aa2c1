-- The words beside the arenas that a hold reads: glibc 2.31 malloc/malloc.c, mp_.mmap_threshold, mp_.trim_threshold and
-- mp_.n_mmaps.

pub data Dial : Type 0 where
  MmapThreshold : Dial
  TrimThreshold : Dial
  MappedCount : Dial
