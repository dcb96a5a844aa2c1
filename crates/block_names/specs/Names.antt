-- The blocks of a thread by name (this project's own): what a program has in its variables, of what malloc gave it.
use Rattle.std.specs.Prelude.{ℕ, ◌+◌, ◌-◌, ◌≤◌, Bool, ◌||◌, nat_lt, List, [], ◌++◌, length, replicate, sum_by, Option, Some, None, is_some, IfSome, slice_index_or, slice_set, if◌then◌else◌}
use Rattle.std.specs.BTreeMap.{insert_entry, is_at}
use Rattle.std.specs.List.Sorted.{IsStrictlySortedBy}
use Rattle.std.specs.Map.{lookup, set_value, remove_entry, keys_of, values_of}
use Rattle.std.specs.Option.{unwrap_or}
use Rattle.std.specs.Ordering.{nat_cmp}
use Rattle.chunk_tags.specs.declared.block.Block.{Block}
use Rattle.block_names.specs.Blocks.{IsHeld}

-- The places of names, each empty or with a block: for names below 2 ^ 20 a place for each up to the largest that was made
-- ready, in a row; for the others only their own, by rising name.
pub record NameTable : Type 0 where
  pub near : List (Option Block)
  pub far : List (ℕ × Option Block)

-- the names whose places are in a row
abbrev pub is_near : ℕ → Bool
is_near name = nat_lt name 1048576

-- no places
unfoldable pub no_names : NameTable
no_names = record { near = []; far = [] }

-- whether a key is the name
abbrev pub is_name : ℕ → ℕ → Bool
is_name name = is_at (nat_cmp name)

-- what is in the place of a name that isn't near, where it has one
abbrev pub far_place : ℕ → List (ℕ × Option Block) → Option (Option Block)
far_place name far = lookup (is_name name) far

-- ---- the two parts of a table

-- whether a name has a place in the row, or one of its own
abbrev pub in_row : NameTable → ℕ → Bool
in_row names name = nat_lt name (length names.near)

abbrev pub in_far : NameTable → ℕ → Bool
in_far names name = is_some (far_place name names.far)

-- its block
abbrev pub row_at : NameTable → ℕ → Option Block
row_at names name = slice_index_or names.near name None

abbrev pub far_at : NameTable → ℕ → Option Block
far_at names name = unwrap_or (far_place name names.far) None

-- the row with places up to a name, and with something else in one of them
abbrev pub with_row_to : ℕ → NameTable → NameTable
with_row_to name names = record { near = names.near ++ replicate (name + 1 - length names.near) None; far = names.far }

abbrev pub with_in_row : ℕ → Option Block → NameTable → NameTable
with_in_row name held names = record { near = slice_set names.near name held; far = names.far }

-- a new place of its own, and something else in one
abbrev pub with_far_place : ℕ → NameTable → NameTable
with_far_place name names = record { near = names.near; far = insert_entry nat_cmp names.far name None }

abbrev pub with_in_far : ℕ → Option Block → NameTable → NameTable
with_in_far name held names = record { near = names.near; far = set_value (is_name name) names.far held }

-- without a place of its own
abbrev pub without_far_place : ℕ → NameTable → NameTable
without_far_place name names = record { near = names.near; far = remove_entry (is_name name) names.far }

-- ---- a table

-- whether a name has a place
unfoldable pub has_place : NameTable → ℕ → Bool
has_place names name = if is_near name then in_row names name else in_far names name

-- the block of a name, where it holds one
unfoldable pub block_at : NameTable → ℕ → Option Block
block_at names name = if is_near name then row_at names name else far_at names name

-- the table with a place for a name
unfoldable pub with_place : ℕ → NameTable → NameTable
with_place name names =
    if is_near name then with_row_to name names else (if in_far names name then names else with_far_place name names)

-- with something else in the place of a name, where it has one
unfoldable pub with_at : ℕ → Option Block → NameTable → NameTable
with_at name held names = if is_near name then with_in_row name held names else with_in_far name held names

abbrev pub with_block : ℕ → Block → NameTable → NameTable
with_block name b names = with_at name (Some b) names

-- with a block that may be none
abbrev pub with_some : ℕ → Option Block → NameTable → NameTable
with_some name None names = names
with_some name (Some b) names = with_block name b names

abbrev pub without_block : ℕ → NameTable → NameTable
without_block name names = with_at name None names

-- without the place of a name, where that is one of its own and empty
unfoldable pub tidied : ℕ → NameTable → NameTable
tidied name names = if is_near name || is_some (block_at names name) then names else without_far_place name names

-- what all places weigh together, an empty one nothing
unfoldable pub weight_in : NameTable → (Option Block → ℕ) → ℕ
weight_in names weigh = sum_by weigh names.near + sum_by weigh (values_of names.far)

-- what is true of every table: the row has near names alone, and the blocks are such as a thread may hold
pub record IsTable (names : NameTable) : Type 0 where
  pub row : length names.near ≤ 1048576
  pub held : (name : ℕ) → IfSome (block_at names name) IsHeld

-- the names that have places of their own rise, so that each has one
abbrev pub FarNamesRise : NameTable → Type 0
FarNamesRise names = IsStrictlySortedBy nat_cmp (keys_of names.far)
