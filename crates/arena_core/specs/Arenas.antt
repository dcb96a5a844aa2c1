-- What a hold of an arena is recorded as (this project's own).
use Rattle.std.specs.Prelude.{◌≡◌, ℕ, ◌+◌, List, [], ◌∷◌, ◌++◌, Option, Some, None, ◌⊎◌}
use Rattle.chunk_tags.specs.declared.block.Block.{Block}
use Rattle.chunk_tags.specs.declared.tiles.Chunk.{Chunk}
use Rattle.chunk_tags.specs.declared.tunables.Tunables.{Tunables}
use Rattle.thread_cache.specs.Caches.{CacheValue}
use Rattle.address_space.specs.declared.space.Space.{Space}
use Rattle.mapped_chunks.specs.Mappings.{chunk_of_mapping}
use Rattle.arena_rules.specs.declared.said.Said.{Said}
use Rattle.arena_rules.specs.PlainArena.{Plain}
use Rattle.arena_rules.specs.Rules.{Stop, block_of}
use Rattle.arena_rules.specs.Walks.{Reaches, StopsShort}
use Rattle.consolidate_trim.specs.Holds.{Chunks, no_chunk, one_chunk}
use Rattle.consolidate_trim.specs.Outside.{Means, Outside, ways}
use Rattle.arena_growth.specs.Ledgers.{stage, Balances, Loses, full}
use Rattle.arena_growth.specs.Steps.{IsEnough}
use Rattle.arena_growth.specs.declared.found.Found.{Found}
use Rattle.arena_growth.specs.declared.found.Found.TheVariants as finds
use Rattle.arena_growth.specs.Asking.{found_of, chunks_found, beside_arena}
use Rattle.arena_core.specs.declared.journal.Act.{Act}
use Rattle.arena_core.specs.declared.journal.Act.TheVariants.{Give, Resize}
use Rattle.arena_core.specs.declared.journal.Ended.{Ended}
use Rattle.arena_core.specs.declared.journal.Ended.TheVariants.{Short}
use Rattle.arena_core.specs.declared.journal.Who.{Who}
use Rattle.arena_core.specs.declared.take.Take.{Take}
use Rattle.arena_core.specs.declared.take.Take.TheVariants as takes
use Rattle.arena_core.specs.Journal.{Recorded}
use Rattle.arena_core.specs.Replay.{rules_of, ended_of, chunk_at}

abbrev pub recorded : Who → Act → List Said → Ended → Recorded
recorded who act said ended = record { who = who; act = act; said = said; ended = ended }

-- a chunk that is a mapping of its own, in the caller's hand
abbrev pub mapped_block : Chunk → Block
mapped_block c = chunk_of_mapping c.size c.at

-- what is taken where this was found, in the arena with this number
abbrev pub take_of : ℕ → Found → Take
take_of number (finds.InArena c) = takes.Got (block_of number c)
take_of number (finds.InMapping c) = takes.Got (mapped_block c)
take_of number finds.Nowhere = takes.Refused

-- what a block needs for a request of nb bytes: 8 more where it is mapped
abbrev pub need_of : Option ℕ → ℕ → ℕ
need_of None nb = nb + 8
need_of (Some number) nb = nb

-- the block that was taken is enough
abbrev pub FitsRequest : ℕ → Take → Type 0
FitsRequest nb (takes.Got b) = IsEnough (need_of b.arena nb) b.size
FitsRequest nb takes.Refused = Unit {0}

-- a hold: its arena and what is beside it, and the journal
pub record Held (P K : Type 0) : Type 0 where
  pub arena : Plain
  pub outside : Outside P K
  pub journal : List Recorded

abbrev pub held : {P K : Type 0} → Plain → P → CacheValue → Space K → List Recorded → Held P K
held arena port cache space journal = record { arena = arena; outside = beside_arena port cache space; journal = journal }

-- the chunks of the arena in the caller's hand where an act found this: what was found, and of a resize that was refused the
-- chunk that it was to change
abbrev pub chunks_got : Act → Found → Chunks
chunks_got (Resize at size nb) finds.Nowhere = one_chunk (chunk_at at size)
chunks_got act found = chunks_found found

-- The journal has one entry more, of this hold: its answers are those that the outside gave, one by one, while the act went
-- through its rules to their end; and the chunks are accounted for.
pub record Records {P K : Type 0} (m : Means P K) (t : Tunables) (who : Who) (act : Act) (before : Held P K) (given : Chunks) (found : Found) (after : Held P K) : Type 0 where
  pub said : List Said
  pub added : after.journal ≡ before.journal ++ recorded who act said (ended_of act (found_of found)) ∷ []
  pub walks : Reaches t (ways m before.arena.number) (rules_of t act before.arena) before.outside [] (Stop (record { found = found_of found; arena = after.arena })) said after.outside
  pub balances : Balances (full m) (stage before.arena before.outside []) given (chunks_got act found) (stage after.arena after.outside said)

-- The same where memory was short: the entry says so, and the arena is what the rules have before the next answer.
pub record RecordsShort {P K : Type 0} (m : Means P K) (t : Tunables) (who : Who) (act : Act) (before : Held P K) (given : Chunks) (after : Held P K) : Type 0 where
  pub said : List Said
  pub added : after.journal ≡ before.journal ++ recorded who act said Short ∷ []
  pub stops : StopsShort t (ways m before.arena.number) (rules_of t act before.arena) before.outside [] after.arena said after.outside
  pub loses : Loses (full m) (stage before.arena before.outside []) given (stage after.arena after.outside said)

-- a chunk was taken, or the search was refused
pub record Takes {P K : Type 0} (m : Means P K) (t : Tunables) (who : Who) (act : Act) (before : Held P K) (take : Take) (after : Held P K) : Type 0 where
  pub found : Found
  pub taken : take ≡ take_of before.arena.number found
  pub records : Records m t who act before no_chunk found after

-- Memory was short: for the entry itself, and then nothing changed; or later, and then the entry says so.
abbrev pub FailsShort : {P K : Type 0} → Means P K → Tunables → Who → Act → Held P K → Chunks → Held P K → Type 0
FailsShort m t who act before given after = (after ≡ before) ⊎ RecordsShort m t who act before given after

-- Memory was short where a block was given back: the block comes back exactly where nothing changed; else the entry says so.
abbrev pub GivesShort : {P K : Type 0} → Means P K → Tunables → Who → Block → Held P K → Option Block → Held P K → Type 0
GivesShort m t who b before (Some back) after = (back ≡ b) × (after ≡ before)
GivesShort m t who b before None after = RecordsShort m t who (Give b.addr b.size) before (one_chunk (chunk_at b.addr b.size)) after
