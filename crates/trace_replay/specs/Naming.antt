-- Which names and trays hold blocks, beside what the lines of the trace say of them (this project's own). No public clause
-- cites this file.
use Rattle.std.specs.Prelude.{◌≡◌, ℕ, ◌≤◌, Bool, false, List, Some, None, slice_get, slice_set}
use Rattle.chunk_tags.specs.Sizes.{chunk_size_of}
use Rattle.chunk_tags.specs.declared.block.Block.{Block}
use Rattle.block_names.specs.Names.{NameTable, block_at}
use Rattle.own_blocks.specs.Calls.{FitsName}
use Rattle.malloc_calls.specs.Reallocs.{IfAnswered}
use Rattle.own_blocks.specs.declared.reply.Reply.{Reply}
use Rattle.own_blocks.specs.declared.reply.Reply.TheVariants.{Null, Posted, Taken}
use Rattle.own_blocks.specs.declared.reply.Why.{Why}
use Rattle.serial_places.specs.Trays.{tray_at}
use Rattle.serial_places.specs.declared.tray.Tray.{Tray}
use Rattle.serial_places.specs.declared.tray.Tray.TheVariants.{Empty, Full}
use Rattle.trace_text.specs.declared.trace.Call.{Call}
use Rattle.trace_text.specs.declared.trace.Call.TheVariants.{Malloc, Calloc, Align, Post, Take}
use Rattle.trace_text.specs.declared.trace.Line.{Line}
use Rattle.trace_text.specs.Before.{held_after, is_held, is_post, was_posted}
use Rattle.trace_text.specs.Spelling.{IsCall}
use Rattle.trace_replay.specs.Tiling.{Wanted, Wishes, IsLargeEnough, IsFit, wished_after}
use Rattle.trace_replay.specs.World.{World, ThreadWorld}

-- ---- the blocks of a thread and of the trays

-- a name that isn't held behind these lines holds no block; a tray to which none of them posts is empty
pub record HoldsWithin {K : Type 0} (before : List Line) (w : World K) : Type 0 where
  pub named : (thread name : ℕ) (th : ThreadWorld K) → slice_get w.threads thread ≡ Some th → is_held thread name before ≡ false →
      block_at th.own.names name ≡ None
  pub posted : (tray : ℕ) → was_posted tray before ≡ false → tray_at w.trays tray ≡ Empty

-- a name that a call makes holds no block, and a tray to which it posts is empty
abbrev pub IsFree : Call → NameTable → List Tray → Type 0
IsFree (Malloc name size) names trays = block_at names name ≡ None
IsFree (Calloc name n size) names trays = block_at names name ≡ None
IsFree (Align name align size) names trays = block_at names name ≡ None
IsFree (Post name tray) names trays = tray_at trays tray ≡ Empty
IsFree (Take name tray) names trays = block_at names name ≡ None
IsFree _ names trays = Unit {0}

-- a line that may be run by its thread, over these names and trays
pub record MayCall (line : Line) (names : NameTable) (trays : List Tray) : Type 0 where
  pub version : ℕ
  pub call : IsCall version line.thread line.call
  pub free : IsFree line.call names trays

-- a line that may be run in a world
pub record MayRun {K : Type 0} (line : Line) (w : World K) : Type 0 where
  pub thread : line.thread ≤ 63
  pub may : (th : ThreadWorld K) → slice_get w.threads line.thread ≡ Some th → MayCall line th.own.names w.trays

-- the blocks of a thread and of the trays are what was asked for
pub record FitsThread (wishes : Wishes) (thread : ℕ) (names : NameTable) (trays : List Tray) : Type 0 where
  pub named : (name : ℕ) (b : Block) → block_at names name ≡ Some b → IsFit (wishes.named thread name) b
  pub posted : (tray : ℕ) (b : Block) → tray_at trays tray ≡ Full b → IsFit (wishes.posted tray) b

-- what a line leaves that was answered so: a name that isn't held behind it holds no block, where that was so before; a tray
-- to which it doesn't post is empty still; and blocks are what was asked for, where those before were
pub record LeavesBlocks (line : Line) (reply : Reply) (names now : NameTable) (trays left : List Tray) : Type 0 where
  pub held : (name : ℕ) (was : Bool) → (was ≡ false → block_at names name ≡ None) → held_after name was line.call ≡ false →
      block_at now name ≡ None
  pub empty : (tray : ℕ) → is_post tray line.call ≡ false → tray_at trays tray ≡ Empty → tray_at left tray ≡ Empty
  pub fit : (wishes : Wishes) → FitsThread wishes line.thread names trays →
      FitsThread (wished_after wishes (line, reply)) line.thread now left

-- what it leaves of a world: all other threads have what they had
pub record LeavesLine {K : Type 0} (line : Line) (reply : Reply) (before now : World K) : Type 0 where
  pub old : ThreadWorld K
  pub new : ThreadWorld K
  pub thread : slice_get before.threads line.thread ≡ Some old
  pub threads : now.threads ≡ slice_set before.threads line.thread new
  pub blocks : LeavesBlocks line reply old.own.names new.own.names before.trays now.trays

-- ---- what each call leaves

-- what a call leaves that makes a name: all other names hold what they held, and a block that the name then holds is what
-- was asked for
pub record MakesName (name : ℕ) (wanted : Wanted) (names now : NameTable) : Type 0 where
  pub others : (n : ℕ) → (n ≡ name → ⊥) → block_at now n ≡ block_at names n
  pub made : (b : Block) → block_at now name ≡ Some b → IsLargeEnough wanted b

-- What realloc to a size leaves: all other names hold what they held. So does the name where it held nothing, and where no
-- block was answered; to 0 it then holds nothing; else its block is large enough.
pub record ResizesName (name size : ℕ) (reply : Reply) (names now : NameTable) : Type 0 where
  pub others : (n : ℕ) → (n ≡ name → ⊥) → block_at now n ≡ block_at names n
  pub none : block_at names name ≡ None → block_at now name ≡ None
  pub gone : size ≡ 0 → block_at now name ≡ None
  pub stays : (why : Why) → reply ≡ Null why → block_at now name ≡ block_at names name
  pub made : IfAnswered reply (FitsName (chunk_size_of size) name now)

-- what free leaves: all other names hold what they held, and the name holds nothing
pub record EmptiesName (name : ℕ) (names now : NameTable) : Type 0 where
  pub others : (n : ℕ) → (n ≡ name → ⊥) → block_at now n ≡ block_at names n
  pub gone : block_at now name ≡ None

-- what a post to an empty tray leaves: all other names and trays hold what they held, the name nothing, and the tray the block
-- of the name, where it was posted
pub record PostsName (name tray : ℕ) (reply : Reply) (names now : NameTable) (trays left : List Tray) : Type 0 where
  pub empties : EmptiesName name names now
  pub others : (n : ℕ) → (n ≡ tray → ⊥) → tray_at left n ≡ tray_at trays n
  pub posted : (b : Block) → tray_at left tray ≡ Full b → (reply ≡ Posted) × (block_at names name ≡ Some b)

-- what a take leaves: all other names and trays hold what they held, and a block that the name then holds is the tray's, which
-- has it no more
pub record TakesName (name tray : ℕ) (reply : Reply) (names now : NameTable) (trays left : List Tray) : Type 0 where
  pub others : (n : ℕ) → (n ≡ name → ⊥) → block_at now n ≡ block_at names n
  pub empty : (n : ℕ) → tray_at trays n ≡ Empty → tray_at left n ≡ Empty
  pub stays : (n : ℕ) (b : Block) → tray_at left n ≡ Full b → tray_at trays n ≡ Full b
  pub taken : (b : Block) → block_at now name ≡ Some b → (tray_at trays tray ≡ Full b) × ((addr size : ℕ) × (reply ≡ Taken addr size))
