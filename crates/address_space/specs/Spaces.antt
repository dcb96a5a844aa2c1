-- A thread's address space: its kernel behind the windows (this project's own).
use Rattle.std.specs.Prelude.{◌≡◌, ℕ, ◌+◌, ◌*◌, ◌%◌, ◌≤◌, nat_lt, nat_le, Bool, false, ◌&&◌, ◌||◌, IsTrue, Option, Some, None, IfSome, if◌then◌else◌}
use Rattle.address_space.specs.declared.asks.Ask.{Ask}
use Rattle.address_space.specs.declared.asks.Ask.TheVariants.{Map, Remap}
use Rattle.address_space.specs.declared.asks.Answer.{Answer}
use Rattle.address_space.specs.declared.asks.Answer.TheVariants.{Granted, Refused}
use Rattle.address_space.specs.declared.asks.Back.{Back}
use Rattle.address_space.specs.declared.space.Windows.{Windows}
use Rattle.address_space.specs.declared.space.Space.{Space}
use Rattle.address_space.specs.Ports.{Port, counted, Rose, Asks, GivesBack}

-- where main's break begins
abbrev pub main_start : ℕ
main_start = 0x555555559000

-- where main's pieces begin
abbrev pub piece_start : ℕ
piece_start = 0x5a0000000000

-- where the heaps of other arenas begin
abbrev pub heaps_start : ℕ
heaps_start = 0x7f0000000000

-- a break that would pass main's window
abbrev pub break_passes : Windows → ℕ → Bool
break_passes w new = nat_lt (main_start + w.main_max) new

-- a piece that would end behind main's window for pieces
abbrev pub piece_passes : Windows → ℕ → ℕ → Bool
piece_passes w at len = nat_lt (piece_start + w.main_max) (at + len)

-- the length of a thread's window for mappings, 2^36 bytes
abbrev pub map_length : ℕ
map_length = 0x1000000000

-- a new heap that would be longer than its window, or behind the last window of its arena
abbrev pub new_heap_passes : Windows → ℕ → ℕ → Bool
new_heap_passes w heap len = nat_lt w.heap_max len || nat_le w.heaps heap

-- a heap that would grow beyond its window
abbrev pub heap_growth_passes : Windows → ℕ → Bool
heap_growth_passes w new_len = nat_lt w.heap_max new_len

-- where the mappings of a thread begin
abbrev pub map_start : ℕ → ℕ
map_start thread = 0x600000000000 + thread * map_length

-- an address behind the windows of all threads for mappings
abbrev pub map_limit : ℕ
map_limit = 0x700000000000

-- the space of a thread, before its first ask
abbrev pub new_space : {K : Type 0} → K → ℕ → Windows → Space K
new_space kernel thread windows = record { kernel = kernel; thread = thread; windows = windows; passed = 0; mapped = 0 }

-- whether its kernel tells
abbrev pub space_tells : {K : Type 0} → Port K → Space K → Bool
space_tells port s = port.tells s.kernel

-- its count: the kernel's, and the asks that would have passed a window
abbrev pub space_refusals : {K : Type 0} → Port K → Space K → ℕ
space_refusals port s = port.refusals s.kernel + s.passed

-- The answer to an ask, and the space after it, over a kernel that tells. An ask that passes isn't put.
abbrev pub space_answer : {K : Type 0} → Port K → Space K → Bool → Ask → Answer
space_answer port s passes ask = if passes then Refused else port.answer s.kernel ask

abbrev pub space_asked : {K : Type 0} → Port K → Space K → Bool → Ask → Space K
space_asked port s passes ask =
    if passes then record s { passed = counted s.passed } else record s { kernel = port.asked s.kernel ask }

-- one ask of a space
pub record AsksWithin {K : Type 0} (port : Port K) (before : Space K) (passes : Bool) (ask : Ask) (answer : Answer) (now : Space K) : Type 0 where
  pub later : space_refusals port before ≤ space_refusals port now
  -- refused only where the count rose
  pub cause : answer ≡ Refused → Rose (space_refusals port before) (space_refusals port now)
  -- an ask that would pass a window is refused, and isn't put to the kernel
  pub passed : IsTrue passes → (answer ≡ Refused) × (now ≡ record before { passed = counted before.passed })
  -- any other is answered by the kernel
  pub put : passes ≡ false → Asks port before.kernel ask answer now.kernel × (now ≡ record before { kernel = now.kernel })
  -- and over a kernel that tells, this is what was told
  pub tells : IsTrue (space_tells port before) → IsTrue (space_tells port now)
  pub answered : IsTrue (space_tells port before) → answer ≡ space_answer port before passes ask
  pub left : IsTrue (space_tells port before) → now ≡ space_asked port before passes ask

-- Mappings. A thread's go upwards in its window: the next one begins where the last one that was granted ended.

-- the place of the next mapping
abbrev pub map_place : {K : Type 0} → Space K → ℕ
map_place s = map_start s.thread + s.mapped

-- a mapping that would end behind its thread's window
abbrev pub map_passes : {K : Type 0} → Space K → ℕ → Bool
map_passes s len = nat_lt map_length (s.mapped + len)

-- the ask for a mapping
abbrev pub map_ask : {K : Type 0} → Space K → ℕ → Ask
map_ask s len = Map (map_place s) len

-- a granted mapping has the place that was asked for
abbrev pub granted_place : ℕ → Answer → Option ℕ
granted_place at Granted = Some at
granted_place at Refused = None

-- the answer behind a place
abbrev pub place_answer : Option ℕ → Answer
place_answer None = Refused
place_answer (Some at) = Granted

-- a granted mapping uses its place up, a refused one doesn't
abbrev pub used_up : {K : Type 0} → Answer → ℕ → Space K → Space K
used_up Granted len s = record s { mapped = s.mapped + len }
used_up Refused len s = s

-- the place that is granted, and the space after it, over a kernel that tells
abbrev pub space_place : {K : Type 0} → Port K → Space K → ℕ → Option ℕ
space_place port s len = granted_place (map_place s) (space_answer port s (map_passes s len) (map_ask s len))

abbrev pub space_mapped : {K : Type 0} → Port K → Space K → ℕ → Space K
space_mapped port s len =
    let passes = map_passes s len in
    used_up (space_answer port s passes (map_ask s len)) len (space_asked port s passes (map_ask s len))

-- a place that is granted: the next one, a page's, the one after it behind it, and both in the thread's window
pub record IsNextPlace {K : Type 0} (before : Space K) (len : ℕ) (now : Space K) (place : ℕ) : Type 0 where
  pub told : place ≡ map_place before
  pub page : place % 4096 ≡ 0
  pub behind : place + len ≡ map_place now
  pub inside : now.mapped ≤ map_length
  pub limit : place + len ≤ map_limit

-- one mapping that a space is asked for
pub record MapsWithin {K : Type 0} (port : Port K) (before : Space K) (len : ℕ) (place : Option ℕ) (now : Space K) : Type 0 where
  pub later : space_refusals port before ≤ space_refusals port now
  -- refused only where the count rose
  pub cause : place ≡ None → Rose (space_refusals port before) (space_refusals port now)
  -- no place is given twice
  pub fresh : IfSome place (IsNextPlace before len now)
  -- a mapping that would pass the window is refused, and isn't put to the kernel
  pub passed : IsTrue (map_passes before len) → (place ≡ None) × (now ≡ record before { passed = counted before.passed })
  -- any other is answered by the kernel
  pub put : map_passes before len ≡ false → Asks port before.kernel (map_ask before len) (place_answer place) now.kernel × (now ≡ used_up (place_answer place) len (record before { kernel = now.kernel }))
  -- and over a kernel that tells, this is what was told
  pub tells : IsTrue (space_tells port before) → IsTrue (space_tells port now)
  pub answered : IsTrue (space_tells port before) → place ≡ space_place port before len
  pub left : IsTrue (space_tells port before) → now ≡ space_mapped port before len

-- Remaps. One that grows goes to the next place of the window, one that shrinks stays where it is.

-- a mapping that shall have another length, and whether that is a larger one
pub record LengthChange : Type 0 where
  pub grows : Bool
  pub addr : ℕ
  pub old_len : ℕ
  pub new_len : ℕ

abbrev pub length_change : ℕ → ℕ → ℕ → LengthChange
length_change addr old_len new_len = record { grows = nat_lt old_len new_len; addr = addr; old_len = old_len; new_len = new_len }

-- where the mapping then is
abbrev pub remap_place : {K : Type 0} → Space K → LengthChange → ℕ
remap_place s change = if change.grows then map_place s else change.addr

-- a mapping that grows and would end behind its thread's window
abbrev pub remap_passes : {K : Type 0} → Space K → LengthChange → Bool
remap_passes s change = change.grows && map_passes s change.new_len

-- the ask for another length
abbrev pub remap_ask : {K : Type 0} → Space K → LengthChange → Ask
remap_ask s change = Remap change.addr change.old_len (remap_place s change) change.new_len

-- a granted mapping that grows uses its place up, any other uses none up
abbrev pub remap_uses : {K : Type 0} → Answer → LengthChange → Space K → Space K
remap_uses answer change s = if change.grows then used_up answer change.new_len s else s

-- the place that is granted, and the space after it, over a kernel that tells
abbrev pub space_remap_place : {K : Type 0} → Port K → Space K → LengthChange → Option ℕ
space_remap_place port s change =
    granted_place (remap_place s change) (space_answer port s (remap_passes s change) (remap_ask s change))

abbrev pub space_remapped : {K : Type 0} → Port K → Space K → LengthChange → Space K
space_remapped port s change =
    let passes = remap_passes s change in
    remap_uses (space_answer port s passes (remap_ask s change)) change (space_asked port s passes (remap_ask s change))

-- a place that is kept: the old one, with no byte behind the old mapping, and no place is used up
pub record IsKeptPlace {K : Type 0} (before : Space K) (change : LengthChange) (now : Space K) (place : ℕ) : Type 0 where
  pub told : place ≡ change.addr
  pub inside : place + change.new_len ≤ change.addr + change.old_len
  pub next : map_place now ≡ map_place before

-- another length that a space is asked for
pub record RemapsWithin {K : Type 0} (port : Port K) (before : Space K) (change : LengthChange) (place : Option ℕ) (now : Space K) : Type 0 where
  pub later : space_refusals port before ≤ space_refusals port now
  -- refused only where the count rose
  pub cause : place ≡ None → Rose (space_refusals port before) (space_refusals port now)
  -- a mapping that grows gets a place that is given once
  pub fresh : IsTrue change.grows → IfSome place (IsNextPlace before change.new_len now)
  -- one that doesn't grow stays
  pub kept : change.grows ≡ false → IfSome place (IsKeptPlace before change now)
  -- one that would pass the window is refused, and isn't put to the kernel
  pub passed : IsTrue (remap_passes before change) → (place ≡ None) × (now ≡ record before { passed = counted before.passed })
  -- any other is answered by the kernel
  pub put : remap_passes before change ≡ false → Asks port before.kernel (remap_ask before change) (place_answer place) now.kernel × (now ≡ remap_uses (place_answer place) change (record before { kernel = now.kernel }))
  -- and over a kernel that tells, this is what was told
  pub tells : IsTrue (space_tells port before) → IsTrue (space_tells port now)
  pub answered : IsTrue (space_tells port before) → place ≡ space_remap_place port before change
  pub left : IsTrue (space_tells port before) → now ≡ space_remapped port before change

-- one giving back through a space
pub record GivesWithin {K : Type 0} (port : Port K) (before : Space K) (back : Back) (now : Space K) : Type 0 where
  pub kernel : GivesBack port before.kernel back now.kernel
  pub others : now ≡ record before { kernel = now.kernel }
