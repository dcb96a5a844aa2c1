-- The end of a thread: tcache_thread_shutdown and __malloc_arena_thread_freeres of glibc 2.31 malloc/malloc.c and malloc/arena.c.
use Rattle.std.specs.Prelude.{ℕ, List, [], ◌∷◌, ◌++◌, Option, Some, None, option_to_list}
use Rattle.chunk_tags.specs.declared.block.Block.{Block}
use Rattle.chunk_tags.specs.declared.tunables.Tunables.{Tunables}
use Rattle.thread_cache.specs.Caches.{CacheValue, blocks_of, structure_of}
use Rattle.arena_holds.specs.BookChanges.{Leaves}
use Rattle.arena_holds.specs.Calls.{Call, Done, Books, Frees, then_call}
use Rattle.own_blocks.specs.Calls.{past_cache, with_cache}
use Rattle.own_blocks.specs.declared.own.Own.{Own}
use Rattle.own_blocks.specs.declared.reply.Reply.{Reply}
use Rattle.own_blocks.specs.declared.reply.Reply.TheVariants.{Ended}

-- a block is released with the cache closed, or freed with its mapping
abbrev pub released_past_cache : Tunables → Block → Option ℕ → Call (Unit {0})
released_past_cache t b None = Frees b (Done tt)
released_past_cache t b (Some a) = then_call (past_cache t a b None) (λ to. Done tt)

abbrev pub released_in_turn : Tunables → List Block → Call (Unit {0})
released_in_turn t [] = Done tt
released_in_turn t (b ∷ bs) = then_call (released_past_cache t b b.arena) (λ u. released_in_turn t bs)

-- what a cache has: its lists ascending, each newest first, and the chunk of its structure behind them
abbrev pub cache_in_turn : CacheValue → List Block
cache_in_turn cache = blocks_of cache ++ option_to_list (structure_of cache)

-- the cache is closed, what it had is released, and the thread leaves its arena; its named blocks stay
abbrev pub exit_call : Tunables → ℕ → Own → Call (Reply × Own)
exit_call t thread own = then_call (released_in_turn t (cache_in_turn own.cache)) (λ u.
    Books (Leaves thread) (λ book. Done (Ended, with_cache None own)))
