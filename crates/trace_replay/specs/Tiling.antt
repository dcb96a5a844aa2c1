-- What is true of the world behind each line of a run: each arena is sound and fills its ranges, each used chunk stands in one
-- place, the mapped chunks are those that are counted and lie apart, nothing of all this is left out of the report, and the
-- blocks fit (this project's own).
use Rattle.std.specs.Prelude.{◌≡◌, ℕ, ◌*◌, ◌%◌, ◌≤◌, ◌==◌, nat_le, List, [], fold, take, slice_get, Option, Some, None, Result, Ok, sum_by, if◌then◌else◌}
use Rattle.chunk_tags.specs.Pages.{user_address}
use Rattle.chunk_tags.specs.Sizes.{chunk_size_of}
use Rattle.chunk_tags.specs.declared.block.Block.{Block}
use Rattle.chunk_tags.specs.declared.tunables.Tunables.{Tunables}
use Rattle.address_space.specs.Ports.{Port}
use Rattle.arena_core.specs.Arenas.{need_of}
use Rattle.own_blocks.specs.declared.reply.Reply.{Reply}
use Rattle.own_blocks.specs.declared.reply.Reply.TheVariants.{Null, Posted, Taken}
use Rattle.block_names.specs.Names.{block_at}
use Rattle.arena_holds.specs.Places.{as_mapped, as_mapped_bytes, as_mapped_byte, given_byte}
use Rattle.serial_places.specs.Trays.{tray_at}
use Rattle.serial_places.specs.declared.tray.Tray.TheVariants.{Full}
use Rattle.trace_text.specs.declared.trace.Call.{Call}
use Rattle.trace_text.specs.declared.trace.Call.TheVariants.{Malloc, Calloc, Realloc, Align, Post, Take}
use Rattle.trace_text.specs.declared.trace.Line.{Line}
use Rattle.world_view.specs.Shows.{IsWholeScene, ShowsAll, in_scene}
use Rattle.trace_replay.specs.declared.exit.Exit.{Exit}
use Rattle.trace_replay.specs.Runs.{Run, run_of}
use Rattle.trace_replay.specs.SerialText.{Job}
use Rattle.trace_replay.specs.Views.{scene_of}
use Rattle.trace_replay.specs.World.{World, ThreadWorld, opening_world}

-- how many threads were given a byte of their windows for mappings
abbrev pub times_given : {K : Type 0} → ℕ → World K → ℕ
times_given n w = sum_by (λ th. given_byte n th.space) w.threads

-- a thread of a world has a block under a name; a tray has one
pub record HasNamed {K : Type 0} (w : World K) (thread name : ℕ) (b : Block) : Type 0 where
  pub owner : ThreadWorld K
  pub owns : slice_get w.threads thread ≡ Some owner
  pub names : block_at owner.own.names name ≡ Some b

abbrev pub HasPosted : {K : Type 0} → World K → ℕ → Block → Type 0
HasPosted w tray b = tray_at w.trays tray ≡ Full b

-- The scene of the world is whole: each arena is sound, and its tiles fill its ranges; a used chunk stands just once: under a
-- name, in a cache, as the structure of one, in a tray or in a fast bin; and what stands there is used; no byte is of two
-- tiles, of two mapped chunks, or of one and a tile. The report shows all of it. The mapped chunks are those that the words
-- count; each lies in the window for mappings of some thread, each of which has its own. The user of a block that has a name,
-- or is in a tray, has an address that is a multiple of 16.
pub record IsTiled {K : Type 0} (w : World K) : Type 0 where
  pub whole : IsWholeScene (scene_of [] w)
  pub shown : ShowsAll (scene_of [] w)
  pub mapped : in_scene (scene_of [] w) as_mapped ≡ w.dials.mapped
  pub bytes : in_scene (scene_of [] w) as_mapped_bytes ≡ w.dials.bytes
  pub window : (n : ℕ) → in_scene (scene_of [] w) (as_mapped_byte n) ≤ times_given n w
  pub own_window : (thread : ℕ) (th : ThreadWorld K) → slice_get w.threads thread ≡ Some th → th.space.thread ≡ thread
  pub aligned : (thread name : ℕ) (b : Block) → HasNamed w thread name b → user_address b.addr % 16 ≡ 0
  pub posted : (tray : ℕ) (b : Block) → HasPosted w tray b → user_address b.addr % 16 ≡ 0

-- What is asked for of a block: so many bytes, and a user address that is a multiple of a number. That is 1 where no more
-- is asked than what each block has, `aligned` above.
pub record Wanted : Type 0 where
  pub size : ℕ
  pub align : ℕ

-- what was asked for last: under a name of a thread, and of the block in a tray
pub record Wishes : Type 0 where
  pub named : ℕ → ℕ → Option Wanted
  pub posted : ℕ → Option Wanted

-- a size alone; and a size with an alignment, which asks for more where it is above 16
abbrev pub bytes_wanted : ℕ → Wanted
bytes_wanted size = record { size = size; align = 1 }

abbrev pub aligned_wanted : ℕ → ℕ → Wanted
aligned_wanted align size = record { size = size; align = if nat_le align 16 then 1 else align }

-- what stands behind realloc to a size: the size, but where no block was answered what stood before
abbrev pub wanted_anew : ℕ → Reply → Option Wanted → Option Wanted
wanted_anew size (Null why) was = was
wanted_anew size reply was = Some (bytes_wanted size)

-- what stands where a block may have come that has another wish: that one where it came, else what stood before
abbrev pub wanted_taken : Reply → Option Wanted → Option Wanted → Option Wanted
wanted_taken (Taken addr size) posted was = posted
wanted_taken reply posted was = was

abbrev pub wanted_posted : Reply → Option Wanted → Option Wanted → Option Wanted
wanted_posted Posted named was = named
wanted_posted reply named was = was

-- what stands under a name of the thread behind a call that was answered so
abbrev pub named_next : Wishes → ℕ → Call → Reply → Option Wanted → Option Wanted
named_next w name (Malloc made size) reply was = if made == name then Some (bytes_wanted size) else was
named_next w name (Calloc made n size) reply was = if made == name then Some (bytes_wanted (n * size)) else was
named_next w name (Align made align size) reply was = if made == name then Some (aligned_wanted align size) else was
named_next w name (Realloc made size) reply was = if made == name then wanted_anew size reply was else was
named_next w name (Take made tray) reply was = if made == name then wanted_taken reply (w.posted tray) was else was
named_next w name call reply was = was

-- what stands in a tray behind a call of a thread
abbrev pub posted_next : Wishes → ℕ → ℕ → Call → Reply → Option Wanted
posted_next w thread tray (Post name used) reply = if used == tray then wanted_posted reply (w.named thread name) (w.posted tray) else w.posted tray
posted_next w thread tray call reply = w.posted tray

-- what stands everywhere behind a line that was answered so
abbrev pub wished_after : Wishes → Line × Reply → Wishes
wished_after w r = record {
  named = λ thread name. if r.0.thread == thread then named_next w name r.0.call r.1 (w.named thread name) else w.named thread name;
  posted = λ tray. posted_next w r.0.thread tray r.0.call r.1;
}

abbrev pub no_wishes : Wishes
no_wishes = record { named = λ thread name. None; posted = λ tray. None }

-- what was asked for last, by the replies to the lines
unfoldable pub wishes_of : List (Line × Reply) → Wishes
wishes_of replies = fold wished_after no_wishes replies

-- a block is what was asked for: it is large enough, where a mapped one needs 8 bytes more, and its user's address is such a
-- multiple
pub record IsLargeEnough (w : Wanted) (b : Block) : Type 0 where
  pub size : need_of b.arena (chunk_size_of w.size) ≤ b.size
  pub place : user_address b.addr % w.align ≡ 0

abbrev pub IsFit : Option Wanted → Block → Type 0
IsFit None b = ⊥
IsFit (Some w) b = IsLargeEnough w b

-- each block that has a name is what was last asked for under it; one in a tray is what was asked for before it was posted
pub record FitsWithin {K : Type 0} (wishes : Wishes) (w : World K) : Type 0 where
  pub named : (thread name : ℕ) (b : Block) → HasNamed w thread name b → IsFit (wishes.named thread name) b
  pub posted : (tray : ℕ) (b : Block) → HasPosted w tray b → IsFit (wishes.posted tray) b

-- lines give a run from a world on, which ends in a world that is such, and whose blocks fit
pub record TilesAfter {K : Type 0} (port : Port K) (t : Tunables) (lines : List Line) (first : World K) : Type 0 where
  pub run : Run K
  pub gives : run_of port t lines first ≡ Ok run
  pub tiled : IsTiled run.world
  pub fit : FitsWithin (wishes_of run.replies) run.world

-- so do the first lines of a run, however many: it is such behind each line, and before the first
pub record GivesTiles {K : Type 0} (port : Port K) (t : Tunables) (lines : List Line) (kernels : List K) : Type 0 where
  pub behind : (count : ℕ) → TilesAfter port t (take count lines) (opening_world t kernels)

-- so does a job, over the port of each thread
pub record ShowsTiles {K : Type 0} (port : Port K) (kernels : List K) (rules : Result Job Exit) : Type 0 where
  pub job : Job
  pub given : rules ≡ Ok job
  pub tiles : GivesTiles port job.asked.tunables job.lines kernels
