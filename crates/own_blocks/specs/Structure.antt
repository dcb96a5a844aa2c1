-- What a thread's own cache keeps of the chunk of its structure (this project's own): a thread's end releases it.
use Rattle.std.specs.Prelude.{◌≡◌, true, IfSome}
use Rattle.thread_cache.specs.Caches.{CacheValue, is_open, structure_of}
use Rattle.block_names.specs.Blocks.{IsHeld}

-- the chunk of an open cache's structure is one that a thread may hold
abbrev pub HasStructure : CacheValue → Type 0
HasStructure cache = IfSome (structure_of cache) IsHeld

-- a cache that was open is open still, in the same chunk
abbrev pub StaysOpen : CacheValue → CacheValue → Type 0
StaysOpen old new = is_open old ≡ true → structure_of new ≡ structure_of old
