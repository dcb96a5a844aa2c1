-- The values that tunables start with: mallopt(3), the tunables of glibc 2.31, and this project's own limits.
use Rattle.chunk_tags.specs.declared.tunables.Tunables.{Tunables}
use Rattle.chunk_tags.specs.declared.tunables.Mode.{Mode}
use Rattle.chunk_tags.specs.declared.tunables.Mode.TheVariants.{Serial, Threads}
use Rattle.std.specs.Prelude.{◌≡◌, ℕ, ◌^◌, ◌%◌, ◌<◌, ◌≤◌, true}

-- the longest windows of main (this project's own)
abbrev pub main_limit : ℕ
main_limit = 1073741824

-- tunables in their ranges, as far as they are read
pub record IsTuned (t : Tunables) : Type 0 where
  pub pad : t.top_pad < 2 ^ 31
  pub count : t.tcache_count ≤ 127
  pub bins : t.tcache_bins ≤ 64
  pub fast : t.max_fast ≤ 160
  pub main : t.main_max ≤ main_limit
  pub heap_pages : t.heap_max % 4096 ≡ 0
  pub heap_least : 65536 ≤ t.heap_max
  pub heap_most : t.heap_max ≤ 67108864
  pub heaps : t.heaps ≤ 64
  pub one_heap : 0 < t.heaps
  pub one_arena : 1 ≤ t.records
  pub records : t.records ≤ 64

-- a serial run's
abbrev pub serial_values : Tunables
serial_values = record {
  mmap_threshold = 131072;
  trim_threshold = 131072;
  top_pad = 131072;
  mmaps_max = 65536;
  max_fast = 128;
  dynamic = true;
  tcache_count = 7;
  tcache_bins = 64;
  arena_test = 8;
  arena_max = 0;
  cores = 4;
  records = 64;
  heap_max = 67108864;
  heaps = 64;
  main_max = 67108864;
  polls = 1;
}

-- a run's with threads has less of what the shared words have to hold, and asks a tray more than once
abbrev pub defaults_of : Mode → Tunables
defaults_of Serial = serial_values
defaults_of Threads = record serial_values { records = 16; heap_max = 1048576; heaps = 4; main_max = 16777216; polls = 1000000 }
