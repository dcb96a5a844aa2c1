-- The call that gives a name's block another size: glibc 2.31 malloc/malloc.c, __libc_realloc. That a refused size changes
-- nothing is this project's own.
use Rattle.std.specs.Prelude.{ℕ, ◌-◌, ◌||◌, Bool, nat_eq, nat_le, Option, Some, None, if◌then◌else◌}
use Rattle.chunk_tags.specs.Sizes.{padded_request}
use Rattle.chunk_tags.specs.declared.block.Block.{Block}
use Rattle.chunk_tags.specs.declared.tunables.Tunables.{Tunables}
use Rattle.mapped_chunks.specs.Mappings.{remap_length, mapping_bytes, chunk_with_lead}
use Rattle.realloc_align.specs.declared.to_size.Resized.{Resized}
use Rattle.realloc_align.specs.declared.to_size.Resized.TheVariants as sizes
use Rattle.thread_cache.specs.Caches.{CacheValue}
use Rattle.arena_core.specs.declared.journal.Act.TheVariants.{Resize}
use Rattle.arena_holds.specs.Calls.{Call, Done, Unmaps, Remaps, then_call, hold_of}
use Rattle.arena_holds.specs.Holding.{resized_to}
use Rattle.own_blocks.specs.Calls.{origin_of, opening, plain_supply, Supplied, releasing, own_with}
use Rattle.own_blocks.specs.Frees.{free_of_block}
use Rattle.block_names.specs.Names.{block_at}
use Rattle.own_blocks.specs.declared.own.Own.{Own}
use Rattle.malloc_calls.specs.declared.reallocated.Reallocated.{Reallocated}
use Rattle.own_blocks.specs.declared.reply.Reply.{Reply}
use Rattle.own_blocks.specs.declared.reply.Reply.TheVariants.{Got, Kept, Null, NotYours}
use Rattle.own_blocks.specs.declared.reply.Origin.{Origin}
use Rattle.own_blocks.specs.declared.reply.Origin.TheVariants as origins
use Rattle.own_blocks.specs.declared.reply.Why.TheVariants as whys

-- what a realloc comes to: the answer, the block that the name then has, and the thread's cache
abbrev pub Resettled : Type 0
Resettled = Reallocated × CacheValue

-- a block that stays where it is, and one that is elsewhere
abbrev pub kept_block : Origin → Block → Reallocated
kept_block from b = record { block = b; reply = Kept b.addr b.size from }

abbrev pub got_block : Origin → Block → Reallocated
got_block from b = record { block = b; reply = Got b.addr b.size from }

-- one that stays as it was, since nothing was got for it
abbrev pub refused_block : Block → Reallocated
refused_block b = record { block = b; reply = Null whys.Refused }

-- ---- malloc in the place of a resize

-- the block of an arena is released for one that was got
abbrev pub moved_from_arena : Tunables → ℕ → Block → Supplied → Call Resettled
moved_from_arena t a b (None, cache) = Done (refused_block b, cache)
moved_from_arena t a b (Some s, cache) = then_call (releasing t a b cache) (λ r. Done (got_block s.from s.block, r.1))

-- the mapping of the block goes back for one that was got
abbrev pub moved_from_mapping : Block → Supplied → Call Resettled
moved_from_mapping b (None, cache) = Done (refused_block b, cache)
moved_from_mapping b (Some s, cache) = Unmaps b (Done (got_block s.from s.block, cache))

-- ---- a block of an arena

-- behind a resize in a hold whose entry has this place; where it was refused, malloc is called in its place
abbrev pub after_resize : Tunables → ℕ → ℕ → ℕ → ℕ → ℕ → Resized → CacheValue → Call Resettled
after_resize t thread size nb a place (sizes.Kept c) cache = Done (kept_block (origin_of place c) c, cache)
after_resize t thread size nb a place (sizes.Moved c) cache = Done (got_block (origin_of place c) c, cache)
after_resize t thread size nb a place (sizes.Refused b) cache = then_call (plain_supply t thread size nb cache) (moved_from_arena t a b)

-- the block gets its size under the lock of its arena
abbrev pub resize_in_arena : Tunables → ℕ → ℕ → ℕ → ℕ → Block → CacheValue → Call Resettled
resize_in_arena t thread size nb a b cache = then_call (hold_of a (Resize b.addr b.size nb) cache) (λ e.
    after_resize t thread size nb a e.place (resized_to a b nb e.ended) e.cache)

-- the cache is opened first where it is closed
abbrev pub realloc_in_arena : Tunables → ℕ → ℕ → ℕ → ℕ → Block → CacheValue → Call Resettled
realloc_in_arena t thread size nb a b cache = then_call (opening t thread cache) (resize_in_arena t thread size nb a b)

-- ---- a mapped block

-- one whose mapping has another length, at the same address or at another
abbrev pub remapped : Block → Block → Reallocated
remapped b c = if nat_eq c.addr b.addr then kept_block origins.Mapped c else got_block origins.Mapped c

-- The ask for another length was refused: a block that has 8 bytes more than the new size is kept, else malloc is called in
-- its place.
abbrev pub not_remapped : Tunables → ℕ → ℕ → ℕ → Block → CacheValue → Call Resettled
not_remapped t thread size nb b cache =
    if nat_le nb (b.size - 8) then Done (kept_block origins.Mapped b, cache)
    else then_call (plain_supply t thread size nb cache) (moved_from_mapping b)

abbrev pub after_remap : Tunables → ℕ → ℕ → ℕ → Block → CacheValue → Option ℕ → Call Resettled
after_remap t thread size nb b cache (Some start) = Done (remapped b (chunk_with_lead (remap_length b nb) b start), cache)
after_remap t thread size nb b cache None = not_remapped t thread size nb b cache

-- a block whose mapping has the length already is kept
abbrev pub realloc_in_mapping : Tunables → ℕ → ℕ → ℕ → Block → CacheValue → Call Resettled
realloc_in_mapping t thread size nb b cache =
    if nat_eq (remap_length b nb) (mapping_bytes b) then Done (kept_block origins.Mapped b, cache)
    else Remaps b (remap_length b nb) (after_remap t thread size nb b cache)

-- ---- realloc

abbrev pub realloc_in : Tunables → ℕ → ℕ → ℕ → Block → Option ℕ → CacheValue → Call Resettled
realloc_in t thread size nb b None cache = realloc_in_mapping t thread size nb b cache
realloc_in t thread size nb b (Some a) cache = realloc_in_arena t thread size nb a b cache

-- the name has the block then
abbrev pub resettled : ℕ → Own → Resettled → Reply × Own
resettled name own r = (r.0.reply, own_with name r.0.block r.1 own)

abbrev pub padded_realloc : Tunables → ℕ → ℕ → ℕ → Option ℕ → Block → Own → Call (Reply × Own)
padded_realloc t thread name size None b own = Done (Null whys.Big, own)
padded_realloc t thread name size (Some nb) b own =
    then_call (realloc_in t thread size nb b b.arena own.cache) (λ r. Done (resettled name own r))

-- to 0 bytes the block is freed
abbrev pub realloc_of_block : Tunables → ℕ → ℕ → ℕ → Block → Own → Call (Reply × Own)
realloc_of_block t thread name size b own =
    if nat_eq size 0 then free_of_block t thread name b b.arena own
    else padded_realloc t thread name size (padded_request size) b own

abbrev pub realloc_of_name : Tunables → ℕ → ℕ → ℕ → Option Block → Own → Call (Reply × Own)
realloc_of_name t thread name size None own = Done (NotYours, own)
realloc_of_name t thread name size (Some b) own = realloc_of_block t thread name size b own

abbrev pub realloc_call : Tunables → ℕ → ℕ → ℕ → Own → Call (Reply × Own)
realloc_call t thread name size own = realloc_of_name t thread name size (block_at own.names name) own

-- ---- what is promised

-- what is true of an answer that isn't null
abbrev pub IfAnswered : Reply → Type 0 → Type 0
IfAnswered (Null why) X = Unit {0}
IfAnswered reply X = X

-- whether a mapped block has what a request needs without a search: its mapping has the length, or it has 8 bytes more
abbrev pub has_what_it_needs : ℕ → Block → Bool
has_what_it_needs nb b = nat_eq (remap_length b nb) (mapping_bytes b) || nat_le nb (b.size - 8)
