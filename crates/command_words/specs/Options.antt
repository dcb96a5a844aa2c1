-- The options of the command line: their names, the values that they take, and what each sets (this project's own, but
-- for the values of mallopt(3) and the sizes of glibc 2.31's caches).
use Rattle.std.specs.Prelude.{ℕ, ◌+◌, ◌%◌, ◌==◌, ◌&&◌, Bool, true, nat_le, List, [], ◌∷◌, Option, codes, find}
use Rattle.std.specs.Int.{is_power_of_two}
use Rattle.std.specs.Str.{bytes_eq}
use Rattle.chunk_tags.specs.Mallopt.{largest_of, set_parameter}
use Rattle.chunk_tags.specs.Sizes.{chunk_size_of, cache_index_of}
use Rattle.chunk_tags.specs.declared.mallopt.Parameter.{Parameter}
use Rattle.chunk_tags.specs.declared.mallopt.Parameter.TheVariants.{Mxfast, TrimThreshold, TopPad, MmapThreshold, MmapMax, ArenaTest, ArenaMax}
use Rattle.chunk_tags.specs.declared.tunables.Tunables.{Tunables}
use Rattle.command_words.specs.declared.setting.Setting.{Setting}
use Rattle.command_words.specs.declared.setting.Setting.TheVariants.{Mallopt, TcacheCount, TcacheMax, Cores, Records, HeapMax, Heaps, MainMax, Polls, Gen, Lines, Trim}
use Rattle.command_words.specs.declared.setting.Form.{Form}
use Rattle.command_words.specs.declared.setting.Form.TheVariants.{Any, PowerOfTwo, Pages}
use Rattle.command_words.specs.declared.setting.Range.{Range}

-- ---- the table

-- an option with a value: its name behind `--`, and its values, from the lowest to the highest
pub record Row : Type 0 where
  pub name : List ℕ
  pub range : Range

abbrev pub row : List ℕ → ℕ → ℕ → Form → Row
row name lowest highest form = record { name = name; range = record { lowest = lowest; highest = highest; form = form } }

-- the name of the option for a parameter of mallopt(3)
abbrev pub parameter_name : Parameter → List ℕ
parameter_name Mxfast = codes "mxfast"
parameter_name TrimThreshold = codes "trim-threshold"
parameter_name TopPad = codes "top-pad"
parameter_name MmapThreshold = codes "mmap-threshold"
parameter_name MmapMax = codes "mmap-max"
parameter_name ArenaTest = codes "arena-test"
parameter_name ArenaMax = codes "arena-max"

-- the lowest value of that option
abbrev pub lowest_of : Parameter → ℕ
lowest_of ArenaTest = 1
lowest_of _ = 0

abbrev pub row_of : Setting → Row
row_of (Mallopt parameter) = row (parameter_name parameter) (lowest_of parameter) (largest_of parameter) Any
row_of TcacheCount = row (codes "tcache-count") 0 127 Any
row_of TcacheMax = row (codes "tcache-max") 0 1032 Any
row_of Cores = row (codes "cores") 1 64 Any
row_of Records = row (codes "records") 1 64 Any
row_of HeapMax = row (codes "heap-max") 65536 67108864 PowerOfTwo
row_of Heaps = row (codes "heaps") 1 64 Any
row_of MainMax = row (codes "main-max") 4096 1073741824 Pages
row_of Polls = row (codes "polls") 1 1000000 Any
row_of Gen = row (codes "gen") 0 18446744073709551615 Any
row_of Lines = row (codes "lines") 0 1000000 Any
row_of Trim = row (codes "trim") 0 2147483647 Any

-- the options that take a value
abbrev pub settings : List Setting
settings = Mallopt Mxfast ∷ Mallopt TrimThreshold ∷ Mallopt TopPad ∷ Mallopt MmapThreshold ∷ Mallopt MmapMax ∷ Mallopt ArenaTest ∷ Mallopt ArenaMax ∷ TcacheCount ∷ TcacheMax ∷ Cores ∷ Records ∷ HeapMax ∷ Heaps ∷ MainMax ∷ Polls ∷ Gen ∷ Lines ∷ Trim ∷ []

-- the option with a value that has this name
unfoldable pub setting_named : List ℕ → Option Setting
setting_named name = find (λ setting. bytes_eq name (row_of setting).name) settings

-- the options without a value
abbrev pub threads_flag : List ℕ
threads_flag = codes "threads"

abbrev pub summary_flag : List ℕ
summary_flag = codes "summary"

-- ---- values

abbrev pub has_form : Form → ℕ → Bool
has_form Any n = true
has_form PowerOfTwo n = is_power_of_two n
has_form Pages n = n % 4096 == 0

abbrev pub is_within : Range → ℕ → Bool
is_within range n = nat_le range.lowest n && (nat_le n range.highest && has_form range.form n)

-- whether a setting takes this number
abbrev pub takes_number : Setting → ℕ → Bool
takes_number setting n = is_within (row_of setting).range n

-- ---- what a setting sets

-- how many lists of a cache are used, where this is the largest request that is cached
abbrev pub bins_up_to : ℕ → ℕ
bins_up_to n = cache_index_of (chunk_size_of n) + 1

-- the tunables with a setting at this number; what a generated trace has, and the pad of a trim at the end, is no tunable
abbrev pub set : Setting → ℕ → Tunables → Tunables
set (Mallopt parameter) n t = set_parameter parameter n t
set TcacheCount n t = record t { tcache_count = n }
set TcacheMax n t = record t { tcache_bins = bins_up_to n }
set Cores n t = record t { cores = n }
set Records n t = record t { records = n }
set HeapMax n t = record t { heap_max = n }
set Heaps n t = record t { heaps = n }
set MainMax n t = record t { main_max = n }
set Polls n t = record t { polls = n }
set Gen n t = t
set Lines n t = t
set Trim n t = t
