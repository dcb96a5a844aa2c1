-- The call that takes a name's block: glibc 2.31 malloc/malloc.c, __libc_free.
use Rattle.std.specs.Prelude.{◌≡◌, ◌⊎◌, ℕ, Option, Some, None}
use Rattle.chunk_tags.specs.declared.block.Block.{Block}
use Rattle.chunk_tags.specs.declared.tunables.Tunables.{Tunables}
use Rattle.arena_core.specs.declared.journal.Who.{Who}
use Rattle.arena_holds.specs.Calls.{Call, Done, Frees, then_call}
use Rattle.arena_holds.specs.Holding.{GivesUp}
use Rattle.arena_holds.specs.Places.{Setting, Standing}
use Rattle.own_blocks.specs.Calls.{opening, releasing, with_cache}
use Rattle.block_names.specs.Names.{NameTable, block_at, without_block}
use Rattle.own_blocks.specs.declared.own.Own.{Own}
use Rattle.own_blocks.specs.declared.reply.Reply.{Reply}
use Rattle.own_blocks.specs.declared.reply.Reply.TheVariants.{Freed, NotYours}
use Rattle.own_blocks.specs.declared.reply.To.TheVariants as sinks

abbrev pub without_name : ℕ → Own → Own
without_name name own = record own { names = without_block name own.names }

-- a block of an arena leaves its name and is released
abbrev pub free_to : Tunables → ℕ → ℕ → Block → Own → Call (Reply × Own)
free_to t a name b own = then_call (releasing t a b own.cache) (λ r. Done (Freed r.0, with_cache r.1 (without_name name own)))

-- a block is freed with its mapping, or the cache is opened where it is closed, and the block released
abbrev pub free_of_block : Tunables → ℕ → ℕ → Block → Option ℕ → Own → Call (Reply × Own)
free_of_block t thread name b None own = Frees b (Done (Freed sinks.Unmapped, without_name name own))
free_of_block t thread name b (Some a) own = then_call (opening t thread own.cache) (λ cache.
    free_to t a name b (with_cache cache own))

abbrev pub free_of_name : Tunables → ℕ → ℕ → Option Block → Own → Call (Reply × Own)
free_of_name t thread name None own = Done (NotYours, own)
free_of_name t thread name (Some b) own = free_of_block t thread name b b.arena own

abbrev pub free_call : Tunables → ℕ → ℕ → Own → Call (Reply × Own)
free_call t thread name own = free_of_name t thread name (block_at own.names name) own

-- the answers of a free
abbrev pub IsFreed : Reply → Type 0
IsFreed (Freed to) = Unit {0}
IsFreed NotYours = Unit {0}
IsFreed reply = ⊥

-- Memory was short behind the entry of the hold in which a name's block was given to its arena: the arena has the block, and
-- the name holds nothing. Before that hold something else may have been done.
pub record LosesBlock {P H D K : Type 0} (s : Setting P H D K) (t : Tunables) (who : Who) (name : ℕ) (names now : NameTable)
    (new : Standing P K) : Type 0 where
  pub a : ℕ
  pub block : Block
  pub before : Standing P K
  pub at : block_at names name ≡ Some block
  pub gives : GivesUp s t who a block before new
  pub gone : now ≡ without_block name names

-- after want of memory the name holds its block, or the arena has that
abbrev pub HoldsOrLoses : {P H D K : Type 0} → Setting P H D K → Tunables → Who → ℕ → NameTable → NameTable → Standing P K → Type 0
HoldsOrLoses s t who name names now new = (now ≡ names) ⊎ LosesBlock s t who name names now new
