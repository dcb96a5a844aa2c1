-- A thread of a trace (this project's own): its number, what it has of its own, and its address space.
use Rattle.std.specs.Prelude.{◌≡◌, ℕ}
use Rattle.address_space.specs.declared.space.Space.{Space}
use Rattle.arena_core.specs.declared.journal.Who.{Who}
use Rattle.block_names.specs.Names.{NameTable}
use Rattle.own_blocks.specs.Own.{new_own}
use Rattle.own_blocks.specs.declared.own.Own.{Own}
use Rattle.malloc_calls.specs.declared.thread.Thread.{Thread}

abbrev pub own_of : {K : Type 0} → Thread K → Own
own_of th = th.own

abbrev pub names_of : {K : Type 0} → Thread K → NameTable
names_of th = th.own.names

abbrev pub number_of : {K : Type 0} → Thread K → ℕ
number_of th = th.number

-- who a thread is in a line
abbrev pub who_of : {K : Type 0} → ℕ → Thread K → Who
who_of line th = record { thread = th.number; line = line }

-- a thread's address space
abbrev pub space_of : {K : Type 0} → Thread K → Space K
space_of th = th.space

-- the space was made for a thread with this number
abbrev pub IsSpaceOf : {K : Type 0} → ℕ → Space K → Type 0
IsSpaceOf number space = space.thread ≡ number

-- the same thread with something else of its own
abbrev pub with_own : {K : Type 0} → Own → Thread K → Thread K
with_own own th = record th { own = own }

abbrev pub with_names : {K : Type 0} → NameTable → Thread K → Thread K
with_names names th = record th { own = record (own_of th) { names = names } }

-- a thread that begins
abbrev pub new_thread : {K : Type 0} → ℕ → Space K → Thread K
new_thread number space = record { number = number; own = new_own; space = space }
