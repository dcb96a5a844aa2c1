-- The calls that give a name a block: glibc 2.31 malloc/malloc.c, __libc_malloc, __libc_calloc and __posix_memalign. That a
-- refused size or alignment changes nothing, not even the cache, is this project's own.
use Rattle.std.specs.Prelude.{◌≡◌, ℕ, ◌+◌, ◌*◌, ◌%◌, Bool, ◌&&◌, nat_eq, nat_le, Option, Some, None, if◌then◌else◌}
use Rattle.std.specs.Int.{is_power_of_two}
use Rattle.chunk_tags.specs.Pages.{user_address}
use Rattle.chunk_tags.specs.Sizes.{padded_request}
use Rattle.chunk_tags.specs.declared.block.Block.{Block}
use Rattle.chunk_tags.specs.declared.tunables.Tunables.{Tunables}
use Rattle.arena_core.specs.Replay.{has_lead_in_range}
use Rattle.arena_core.specs.declared.journal.Act.TheVariants.{Align}
use Rattle.arena_holds.specs.Calls.{Call, Done}
use Rattle.own_blocks.specs.Calls.{from_arena, plain_supply, fresh_supply, named}
use Rattle.block_names.specs.Names.{NameTable, block_at}
use Rattle.own_blocks.specs.declared.own.Own.{Own}
use Rattle.own_blocks.specs.declared.reply.Reply.{Reply}
use Rattle.own_blocks.specs.declared.reply.Reply.TheVariants.{Null}
use Rattle.own_blocks.specs.declared.reply.Why.{Why}
use Rattle.own_blocks.specs.declared.reply.Why.TheVariants as whys

-- no block, and nothing changes
abbrev pub refuse : Why → Own → Call (Reply × Own)
refuse why own = Done (Null why, own)

-- malloc of a padded size, or of one that is too big
abbrev pub padded_malloc : Tunables → ℕ → ℕ → ℕ → Option ℕ → Own → Call (Reply × Own)
padded_malloc t thread name size None own = refuse whys.Big own
padded_malloc t thread name size (Some nb) own = named name own (plain_supply t thread size nb own.cache)

abbrev pub malloc_call : Tunables → ℕ → ℕ → ℕ → Own → Call (Reply × Own)
malloc_call t thread name size own = padded_malloc t thread name size (padded_request size) own

-- calloc is malloc of the product, past the cache.
abbrev pub padded_calloc : Tunables → ℕ → ℕ → ℕ → Option ℕ → Own → Call (Reply × Own)
padded_calloc t thread name product None own = refuse whys.Big own
padded_calloc t thread name product (Some nb) own = named name own (fresh_supply t thread product nb own.cache)

abbrev pub calloc_call : Tunables → ℕ → ℕ → ℕ → ℕ → Own → Call (Reply × Own)
calloc_call t thread name n size own = padded_calloc t thread name (n * size) (padded_request (n * size)) own

-- an alignment that posix_memalign takes: a power of two that is a multiple of a pointer's size
abbrev pub is_memalign : ℕ → Bool
is_memalign align = is_power_of_two align && nat_eq (align % 8) 0

-- Each chunk's user address is a multiple of 16. Beyond that an aligned chunk is searched for, and the cache stays closed
-- where it is; the padded size is looked at last. The second try chooses an arena for the size alone.
abbrev pub aligned_malloc : Tunables → ℕ → ℕ → ℕ → ℕ → ℕ → Own → Call (Reply × Own)
aligned_malloc t thread name align size nb own =
    if nat_le align 16 then padded_malloc t thread name size (Some nb) own
    else (if has_lead_in_range align nb
    then named name own (from_arena t thread (size + align + 32) size (Align align nb) own.cache)
    else refuse whys.Big own)

abbrev pub padded_memalign : Tunables → ℕ → ℕ → ℕ → ℕ → Option ℕ → Own → Call (Reply × Own)
padded_memalign t thread name align size None own = refuse whys.Big own
padded_memalign t thread name align size (Some nb) own =
    if is_memalign align then aligned_malloc t thread name align size nb own else refuse whys.Align own

abbrev pub posix_memalign_call : Tunables → ℕ → ℕ → ℕ → ℕ → Own → Call (Reply × Own)
posix_memalign_call t thread name align size own = padded_memalign t thread name align size (padded_request size) own

-- the user address of the block that a name has, if any, is a multiple
abbrev pub IsAlignedName : ℕ → ℕ → NameTable → Type 0
IsAlignedName align name names = (b : Block) → block_at names name ≡ Some b → user_address b.addr % align ≡ 0
