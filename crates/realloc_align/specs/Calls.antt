-- What is recorded of a resize and of a search for an aligned chunk, and what they give (this project's own).
use Rattle.std.specs.Prelude.{◌≡◌, ℕ, ◌≤◌, ◌++◌, List, [], ◌∷◌, Option, Some, None, IfSome, ◌⊎◌, if◌then◌else◌}
use Rattle.chunk_tags.specs.declared.block.Block.{Block}
use Rattle.chunk_tags.specs.declared.tiles.Chunk.{Chunk}
use Rattle.chunk_tags.specs.declared.tunables.Tunables.{Tunables}
use Rattle.arena_rules.specs.declared.said.Said.{Said}
use Rattle.arena_rules.specs.Align as aligns
use Rattle.arena_rules.specs.Resize.{is_kept, is_moved}
use Rattle.arena_rules.specs.Rules.{block_of}
use Rattle.arena_rules.specs.Walks.{StopsShort}
use Rattle.consolidate_trim.specs.Holds.{no_chunk, one_chunk}
use Rattle.consolidate_trim.specs.Outside.{Means, ways}
use Rattle.arena_growth.specs.Ledgers.{stage, full}
use Rattle.arena_growth.specs.Steps.{IsEnough}
use Rattle.arena_growth.specs.declared.found.Found.{Found}
use Rattle.arena_growth.specs.declared.found.Found.TheVariants as finds
use Rattle.arena_growth.specs.Asking.{found_of}
use Rattle.arena_core.specs.declared.journal.Act.TheVariants as acts
use Rattle.arena_core.specs.declared.journal.Ended.TheVariants.{Short}
use Rattle.arena_core.specs.declared.journal.Who.{Who}
use Rattle.arena_core.specs.declared.take.Take.{Take}
use Rattle.arena_core.specs.declared.take.Take.TheVariants as takes
use Rattle.arena_core.specs.Arenas.{Held, Records, FailsShort, mapped_block, need_of, recorded}
use Rattle.arena_core.specs.Replay.{rules_of, chunk_at}
use Rattle.realloc_align.specs.declared.to_size.Resized.{Resized}
use Rattle.realloc_align.specs.declared.to_size.Resized.TheVariants.{Kept, Moved, Refused}
use Rattle.realloc_align.specs.Aligns.{FitsAt}
use Rattle.realloc_align.specs.Resizes.{Spares, StopsInMapping, Strands, chunks_kept}

-- where a block is whose resize found this, in the arena with this number: as it was where nothing was found
abbrev pub block_of_resize : ℕ → Block → Found → Block
block_of_resize number b (finds.InArena c) = block_of number c
block_of_resize number b (finds.InMapping c) = mapped_block c
block_of_resize number b finds.Nowhere = b

-- what became of a block whose resize found this
abbrev pub resize_to : ℕ → Block → Found → Resized
resize_to number b found =
    let c = chunk_at b.addr b.size in
    if is_kept c (found_of found) then Kept (block_of_resize number b found)
    else (if is_moved c (found_of found) then Moved (block_of_resize number b found) else Refused b)

-- A block got another size, or that was refused: the entry, and what it says.
pub record ResizesBlock {P K : Type 0} (m : Means P K) (t : Tunables) (who : Who) (b : Block) (nb : ℕ) (before : Held P K) (result : Resized) (after : Held P K) : Type 0 where
  pub found : Found
  pub came : result ≡ resize_to before.arena.number b found
  pub records : Records m t who (acts.Resize b.addr b.size nb) before (one_chunk (chunk_at b.addr b.size)) found after

-- Memory was short behind the entry: it says so, the arena is what the rules have before the next answer, and the block that
-- comes back is a used chunk of it, or a mapping that a search found: as it was only where memory was short before anything
-- was found, else where the rules had it to go.
pub record ResizesShort {P K : Type 0} (m : Means P K) (t : Tunables) (who : Who) (b : Block) (nb : ℕ) (before : Held P K) (back : Block) (after : Held P K) : Type 0 where
  pub said : List Said
  pub found : Found
  pub came : back ≡ block_of_resize before.arena.number b found
  pub added : after.journal ≡ before.journal ++ recorded who (acts.Resize b.addr b.size nb) said Short ∷ []
  pub stops : StopsShort t (ways m before.arena.number) (rules_of t (acts.Resize b.addr b.size nb) before.arena) before.outside [] after.arena said after.outside
  pub spares : Spares (full m) (stage before.arena before.outside []) (one_chunk (chunk_at b.addr b.size)) (chunks_kept (chunk_at b.addr b.size) found) (stage after.arena after.outside said)
  pub strands : Strands m t (chunk_at b.addr b.size) nb (stage before.arena before.outside []) found (stage after.arena after.outside said)
  pub mapped : (d : Chunk) → found ≡ finds.InMapping d →
      StopsInMapping m t (chunk_at b.addr b.size) nb (stage before.arena before.outside []) d (stage after.arena after.outside said)

-- Memory was short: for the entry itself, and then nothing changed; or later. A block always comes back.
abbrev pub FailsResize : {P K : Type 0} → Means P K → Tunables → Who → Block → ℕ → Held P K → Option Block → Held P K → Type 0
FailsResize m t who b nb before None after = ⊥
FailsResize m t who b nb before (Some back) after = ((back ≡ b) × (after ≡ before)) ⊎ ResizesShort m t who b nb before back after

-- the block that a resize gives is enough
abbrev pub FitsResize : ℕ → Resized → Type 0
FitsResize nb (Kept b) = IsEnough (need_of b.arena nb) b.size
FitsResize nb (Moved b) = IsEnough (need_of b.arena nb) b.size
FitsResize nb (Refused b) = Unit {0}

-- where memory was short the block comes back as it was, or is enough
abbrev pub FitsBack : ℕ → Block → Option Block → Type 0
FitsBack nb b back = IfSome back (λ c. (c ≡ b) ⊎ (need_of c.arena nb ≤ c.size))

-- what is taken where this was found for an aligned block: in a mapping the block is behind its lead
abbrev pub aligned_take : ℕ → ℕ → Found → Take
aligned_take align number (finds.InArena c) = takes.Got (block_of number c)
aligned_take align number (finds.InMapping c) = takes.Got (aligns.aligned_block align c)
aligned_take align number finds.Nowhere = takes.Refused

-- an aligned block was taken, or the search was refused
pub record AlignsBlock {P K : Type 0} (m : Means P K) (t : Tunables) (who : Who) (align nb : ℕ) (before : Held P K) (take : Take) (after : Held P K) : Type 0 where
  pub found : Found
  pub taken : take ≡ aligned_take align before.arena.number found
  pub records : Records m t who (acts.Align align nb) before no_chunk found after

-- the block that was taken is enough, and its user address is aligned
abbrev pub FitsTake : ℕ → ℕ → Take → Type 0
FitsTake align nb (takes.Got b) = FitsAt align (need_of b.arena nb) b.addr b.size
FitsTake align nb takes.Refused = Unit {0}

-- Memory was short in a search for an aligned block: no block comes back.
pub record FailsAlign {P K : Type 0} (m : Means P K) (t : Tunables) (who : Who) (align nb : ℕ) (before : Held P K) (back : Option Block) (after : Held P K) : Type 0 where
  pub none : back ≡ None
  pub fails : FailsShort m t who (acts.Align align nb) before no_chunk after
