-- Setting tunables by number: mallopt(3), with the numbers of glibc 2.31 malloc/malloc.h, and malloc/malloc.c,
-- __libc_mallopt, do_set_mxfast and its kin, set_max_fast. That a value which is negative or no int is refused is this
-- project's own.
use Rattle.std.specs.Prelude.{ℕ, ◌+◌, ◌*◌, ◌/◌, ◌&&◌, ℤ, pos, negsuc, neg_ℤ, Bool, true, false, nat_lt, nat_le, List, [], ◌∷◌, Option, find, if◌then◌else◌}
use Rattle.std.specs.Option.{option_map_or}
use Rattle.std.specs.Ordering.{int_eq}
use Rattle.chunk_tags.specs.declared.mallopt.Parameter.{Parameter}
use Rattle.chunk_tags.specs.declared.mallopt.Parameter.TheVariants.{Mxfast, TrimThreshold, TopPad, MmapThreshold, MmapMax, ArenaTest, ArenaMax}
use Rattle.chunk_tags.specs.declared.tunables.Tunables.{Tunables}

-- ---- the table

abbrev pub number_of : Parameter → ℤ
number_of Mxfast = pos 1
number_of TrimThreshold = neg_ℤ (pos 1)
number_of TopPad = neg_ℤ (pos 2)
number_of MmapThreshold = neg_ℤ (pos 3)
number_of MmapMax = neg_ℤ (pos 4)
number_of ArenaTest = neg_ℤ (pos 7)
number_of ArenaMax = neg_ℤ (pos 8)

abbrev pub parameters : List Parameter
parameters = Mxfast ∷ TrimThreshold ∷ TopPad ∷ MmapThreshold ∷ MmapMax ∷ ArenaTest ∷ ArenaMax ∷ []

-- the parameter with a number
abbrev pub parameter_numbered : ℤ → Option Parameter
parameter_numbered number = find (λ parameter. int_eq number (number_of parameter)) parameters

-- the least value that sets a parameter: 0 leaves the counts of arenas as they are
abbrev pub least_of : Parameter → ℕ
least_of ArenaTest = 1
least_of ArenaMax = 1
least_of _ = 0

-- the largest value that a parameter takes: MAX_FAST_SIZE, HEAP_MAX_SIZE / 2, or the largest int
abbrev pub largest_of : Parameter → ℕ
largest_of Mxfast = 160
largest_of MmapThreshold = 33554432
largest_of _ = 2147483647

-- ---- what a parameter sets

-- the largest size of a fast chunk for a value: set_max_fast
abbrev pub max_fast_of : ℕ → ℕ
max_fast_of n = if nat_lt n 8 then 16 else (n + 8) / 16 * 16

-- the tunables with a parameter at this value. Each of the four thresholds switches the dynamic one off, whatever its
-- value.
abbrev pub set_parameter : Parameter → ℕ → Tunables → Tunables
set_parameter Mxfast n t = record t { max_fast = max_fast_of n }
set_parameter TrimThreshold n t = record t { trim_threshold = n; dynamic = false }
set_parameter TopPad n t = record t { top_pad = n; dynamic = false }
set_parameter MmapThreshold n t = record t { mmap_threshold = n; dynamic = false }
set_parameter MmapMax n t = record t { mmaps_max = n; dynamic = false }
set_parameter ArenaTest n t = record t { arena_test = n }
set_parameter ArenaMax n t = record t { arena_max = n }

-- ---- mallopt

-- whether a parameter takes a value; none takes a negative one
abbrev pub takes_value : Parameter → ℤ → Bool
takes_value parameter (pos n) = nat_le n (largest_of parameter)
takes_value parameter (negsuc n) = false

-- whether mallopt takes a number with a value; it takes any value of a number that no parameter has
abbrev pub mallopt_takes : ℤ → ℤ → Bool
mallopt_takes number value = option_map_or (λ parameter. takes_value parameter value) (parameter_numbered number) true

-- the tunables once a parameter is given a value, which changes nothing where it isn't taken
abbrev pub with_value : Parameter → ℤ → Tunables → Tunables
with_value parameter (pos n) t =
    if nat_le (least_of parameter) n && nat_le n (largest_of parameter) then set_parameter parameter n t else t
with_value parameter (negsuc n) t = t

-- the tunables behind a call of mallopt; a number that no parameter has changes nothing
abbrev pub mallopt_of : ℤ → ℤ → Tunables → Tunables
mallopt_of number value t = option_map_or (λ parameter. with_value parameter value t) (parameter_numbered number) t
