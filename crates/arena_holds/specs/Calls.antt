-- A call of a thread, as a tree over what it is told: glibc 2.31 malloc/malloc.c and malloc/arena.c. That it is a tree is this
-- project's own form.
use Rattle.std.specs.Prelude.{ℕ, ◌-◌, Bool, Option, Some, None, Result, if◌then◌else◌}
use Rattle.chunk_tags.specs.Pages.{mapping_length}
use Rattle.chunk_tags.specs.declared.block.Block.{Block}
use Rattle.thread_cache.specs.Caches.{CacheValue}
use Rattle.arena_rules.specs.Align.{size_with_lead}
use Rattle.arena_core.specs.declared.journal.Act.{Act}
use Rattle.arena_core.specs.declared.journal.Act.TheVariants.{Align}
use Rattle.arena_core.specs.declared.journal.Ended.{Ended}
use Rattle.arena_core.specs.declared.journal.Ended.TheVariants as ends
use Rattle.arena_choice.specs.Books.{BookValue}
use Rattle.arena_holds.specs.BookChanges.{BookChange}

-- What a call does. It ends; or
-- - an arena is held for an act, with the caller's cache (`rules_of` of arena_core `Replay` has the rules of an act), and the
--   call goes on by the place of the hold's entry in the arena's journal, how it ended, and the cache then;
-- - the first arena from one on whose lock is free is held so, and the call goes on by which one that was, too;
-- - an arena is opened under a number that the book keeps, for so many bytes; it is put into its place, and the thread attached
--   to it, or the number is given back, and the call goes on by whether there is one;
-- - something is done at the book, and the call goes on by the book as it was;
-- - a mapping of a length is asked for, or another length of a chunk's mapping, and the call goes on by where it begins, or by
--   `None` where that was refused;
-- - a block is pushed into a fast bin of its arena; a mapped chunk is freed; or the mapping of one goes back, and the
--   thresholds stay;
-- - a block is posted to a tray, and the call goes on by what was found there, if it didn't take it; or a tray's block is
--   taken, and the call goes on by the block, or by what was found.
pub data Call (A : Type 0) : Type 0 where
  Done : A → Call A
  Holds : ℕ → Act → CacheValue → (ℕ → Ended → CacheValue → Call A) → Call A
  HoldsFree : ℕ → Option ℕ → Act → CacheValue → (ℕ → ℕ → Ended → CacheValue → Call A) → Call A
  Opens : ℕ → ℕ → (Bool → Call A) → Call A
  Books : BookChange → (BookValue → Call A) → Call A
  Maps : ℕ → (Option ℕ → Call A) → Call A
  Pushes : Block → Call A → Call A
  Frees : Block → Call A → Call A
  Unmaps : Block → Call A → Call A
  Remaps : Block → ℕ → (Option ℕ → Call A) → Call A
  Posts : ℕ → Block → (Option ℕ → Call A) → Call A
  Takes : ℕ → (Result Block ℕ → Call A) → Call A

-- one call, and another behind it
abbrev pub then_call : {A B : Type 0} → Call A → (A → Call B) → Call B
then_call (Done x) f = f x
then_call (Holds a act cache g) f = Holds a act cache (λ place ended left. then_call (g place ended left) f)
then_call (HoldsFree start avoid act cache g) f = HoldsFree start avoid act cache (λ a place ended left. then_call (g a place ended left) f)
then_call (Opens a bytes g) f = Opens a bytes (λ opened. then_call (g opened) f)
then_call (Books change g) f = Books change (λ book. then_call (g book) f)
then_call (Maps len g) f = Maps len (λ start. then_call (g start) f)
then_call (Pushes b c) f = Pushes b (then_call c f)
then_call (Frees b c) f = Frees b (then_call c f)
then_call (Unmaps b c) f = Unmaps b (then_call c f)
then_call (Remaps b len g) f = Remaps b len (λ start. then_call (g start) f)
then_call (Posts tray b g) f = Posts tray b (λ full. then_call (g full) f)
then_call (Takes tray g) f = Takes tray (λ found. then_call (g found) f)

-- ---- what a hold gives

-- how a hold ended: the place of its entry, its end, and the cache
pub record HoldEnd : Type 0 where
  pub place : ℕ
  pub ended : Ended
  pub cache : CacheValue

abbrev pub hold_end : ℕ → Ended → CacheValue → HoldEnd
hold_end place ended cache = record { place = place; ended = ended; cache = cache }

-- one hold
abbrev pub hold_of : ℕ → Act → CacheValue → Call HoldEnd
hold_of a act cache = Holds a act cache (λ place ended left. Done (hold_end place ended left))

-- the bytes before a mapped chunk of a size in its mapping: an aligned one has a lead
abbrev pub lead_taken : Act → ℕ → ℕ
lead_taken (Align align nb) size = mapping_length (size_with_lead align nb) - size
lead_taken _ size = 0

-- the block that an act in an arena took
abbrev pub block_taken : ℕ → Act → ℕ → ℕ → Bool → Block
block_taken a act at size mapped = record {
  addr = at;
  size = size;
  lead = if mapped then lead_taken act size else 0;
  arena = if mapped then None else Some a;
}

abbrev pub taken_of : ℕ → Act → Ended → Option Block
taken_of a act (ends.Got at size mapped) = Some (block_taken a act at size mapped)
taken_of a act ends.Done = None
taken_of a act ends.Refused = None
taken_of a act ends.Short = None
