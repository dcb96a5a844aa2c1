-- What a hold of an arena within a call promises, and what is done with a mapped chunk outside all holds (this project's own).
use Rattle.std.specs.Prelude.{◌≡◌, ℕ, ◌+◌, ◌%◌, ◌≤◌, ◌&&◌, nat_eq, is_some, Bool, true, false, IsTrue, Option, Some, None, IsSome, IfSome, Result, Ok, Err, IfOk, IfErr, IsErr, ◌⊎◌, if◌then◌else◌}
use Rattle.chunk_tags.specs.Pages.{mapping_length}
use Rattle.chunk_tags.specs.declared.block.Block.{Block}
use Rattle.chunk_tags.specs.declared.tiles.Chunk.{Chunk}
use Rattle.chunk_tags.specs.declared.tunables.Tunables.{Tunables}
use Rattle.address_space.specs.Ports.{Rose}
use Rattle.address_space.specs.Spaces.{space_refusals, map_limit}
use Rattle.mapped_chunks.specs.Mappings.{IsMapped, chunk_of_mapping, remap_length, chunk_with_lead, mapping_start, granted_start}
use Rattle.thread_cache.specs.Caches.{CacheValue, is_open}
use Rattle.arena_rules.specs.Align.{aligned_block}
use Rattle.arena_rules.specs.PlainArena.{Plain}
use Rattle.arena_rules.specs.Rules.{block_of}
use Rattle.consolidate_trim.specs.Holds.{no_chunk, one_chunk}
use Rattle.consolidate_trim.specs.Outside.{Means}
use Rattle.arena_growth.specs.Steps.{IsEnough}
use Rattle.arena_growth.specs.declared.found.Found.{Found}
use Rattle.arena_growth.specs.declared.found.Found.TheVariants as finds
use Rattle.arena_core.specs.Arenas.{Held, Records, RecordsShort, held, mapped_block, need_of}
use Rattle.arena_core.specs.Journal.{Recorded}
use Rattle.arena_core.specs.Replay.{chunk_at}
use Rattle.arena_core.specs.declared.journal.Act.{Act}
use Rattle.arena_core.specs.declared.journal.Act.TheVariants.{Give, Resize, Align}
use Rattle.arena_core.specs.declared.journal.Who.{Who}
use Rattle.arena_core.specs.declared.take.Take as take
use Rattle.arena_core.specs.declared.take.Take.TheVariants as takes
use Rattle.arena_core.specs.declared.journal.Ended.{Ended}
use Rattle.realloc_align.specs.Calls.{FitsResize}
use Rattle.realloc_align.specs.declared.to_size.Resized.{Resized}
use Rattle.realloc_align.specs.declared.to_size.Resized.TheVariants as sizes
use Rattle.block_names.specs.Blocks.{IsHeld}
use Rattle.arena_holds.specs.Searching.{Searched, Chosen, search_end, size_searched, size_wanted, IsAligned}
use Rattle.arena_holds.specs.declared.searching.Tried.{Tried}
use Rattle.arena_holds.specs.Calls.{Call, Done, Opens, hold_of, hold_end, taken_of}
use Rattle.arena_holds.specs.Going.{Does, HoldStep, FreeStep, UnmapStep, RemapStep}
use Rattle.arena_holds.specs.RunningShort.{KeepsHold, EntersShort}
use Rattle.arena_holds.specs.Places.{KeptArena, PlaceWays, Setting, Standing, Hands, IsServed, Carries, both_of, weight_of, in_cache}

-- the block of a search
abbrev pub block_in : take.Take → Option Block
block_in (takes.Got b) = Some b
block_in takes.Refused = None

-- the block behind a resize
abbrev pub block_behind : Resized → Block
block_behind (sizes.Kept b) = b
block_behind (sizes.Moved b) = b
block_behind (sizes.Refused b) = b

-- the block behind an ask for another length
abbrev pub block_answered : Result Block Block → Block
block_answered (Ok b) = b
block_answered (Err b) = b

-- ---- a search

-- the block of an act in a mapping: an aligned one is behind its lead
abbrev pub block_mapped : Act → Chunk → Block
block_mapped (Align align nb) c = aligned_block align c
block_mapped _ c = mapped_block c

-- the block that was found for an act, in the arena with a number or in a mapping
abbrev pub block_found : Act → ℕ → Found → Option Block
block_found act number (finds.InArena c) = Some (block_of number c)
block_found act number (finds.InMapping c) = Some (block_mapped act c)
block_found act number finds.Nowhere = None

-- A held arena was searched for an act, and the hold recorded.
pub record SearchesArena {P K : Type 0} (m : Means P K) (t : Tunables) (who : Who) (act : Act) (before : Held P K) (block : Option Block)
    (after : Held P K) : Type 0 where
  pub found : Found
  pub records : Records m t who act before no_chunk found after
  pub block_is : block ≡ block_found act before.arena.number found
  pub enough : IfSome block (λ b. IsEnough (need_of b.arena (size_wanted act)) b.size)
  pub aligned : IfSome block (IsAligned act)
  pub refused : block ≡ None → Rose (space_refusals m.kernel before.outside.space) (space_refusals m.kernel after.outside.space)

-- What a search for an act gives, and keeps.
pub record Gets {P H D K : Type 0} (s : Setting P H D K) (act : Act) (cache : CacheValue) (old : Standing P K) (block : Option Block)
    (left : CacheValue) (new : Standing P K) : Type 0 where
  pub held : IfSome block IsHeld
  pub fits : IfSome block (λ b. need_of b.arena (size_wanted act) ≤ b.size)
  pub aligned : IfSome block (IsAligned act)
  pub later : space_refusals s.means.kernel old.space ≤ space_refusals s.means.kernel new.space
  pub opens : is_open left ≡ is_open cache
  pub carries : Carries s.ways true (in_cache cache) old (both_of (weight_of block) (in_cache left)) new

-- An arena is lent from there to a thread that has these blocks.
pub record IsLentTo {P H D K : Type 0} (ways : PlaceWays P H D) (t : Tunables) (who : Who) (hands : Hands) (o : Standing P K) (a : ℕ) (port : H)
    (k : KeptArena) (lending : P) : Type 0 where
  pub writes : ways.writes o.places who
  pub served : IsServed ways t hands o
  pub lent : ways.lent o.places a port (Some k) lending

-- An arena was searched for an act in one hold: the hold's entry has this place, and the block is what it ended with. It is
-- there again.
pub record SearchesHeld {P H D K : Type 0} (s : Setting P H D K) (t : Tunables) (who : Who) (a : ℕ) (act : Act) (cache : CacheValue)
    (old : Standing P K) (place : ℕ) (block : Option Block) (left : CacheValue) (new : Standing P K) : Type 0 where
  pub before : Plain
  pub entry : Recorded
  pub step : HoldStep s t who a act cache old place before entry left new
  pub block_is : block ≡ taken_of a act entry.ended
  pub gets : Gets s act cache old block left new
  pub refused : block ≡ None → Rose (space_refusals s.means.kernel old.space) (space_refusals s.means.kernel new.space)
  pub lists : (n : ℕ) → IsTrue (s.ways.listed old.places n) → IsTrue (s.ways.listed new.places n)

-- Memory was short in such a hold: for its entry, for which the arena's journal had no room, and the arena is given back as it
-- was; or behind it. The journal had so many entries, and room for so many in all.
abbrev pub SearchesShort : {P H D K : Type 0} → Setting P H D K → Tunables → Who → ℕ → Act → CacheValue → Standing P K → ℕ → ℕ → Standing P K → Type 0
SearchesShort s t who a act cache old entries room new = ((room ≤ entries) × KeepsHold s a old new) ⊎ EntersShort s t who a act cache old new

-- A chunk was searched for by these rules, for an act: the block, where one was found, and the place of the hold's entry.
pub record Finds {P H D K : Type 0} (s : Setting P H D K) (t : Tunables) (who : Who) (rules : Call Searched) (act : Act) (cache : CacheValue)
    (old : Standing P K) (place : ℕ) (block : Option Block) (left : CacheValue) (new : Standing P K) : Type 0 where
  pub does : Does s t who rules old (search_end place block left) new
  pub gets : Gets s act cache old block left new
  pub refused : block ≡ None → Rose (space_refusals s.means.kernel old.space) (space_refusals s.means.kernel new.space)

-- the arena that was searched, and what that came to, with the cache then; and the block
abbrev pub chosen_with : CacheValue → Option Tried → Chosen
chosen_with left None = None
chosen_with left (Some r) = Some (r.arena, search_end r.search.hold r.search.block left)

abbrev pub block_tried : Option Tried → Option Block
block_tried None = None
block_tried (Some r) = r.search.block

-- An arena was chosen and searched by these rules, or none could be had.
pub record FindsChosen {P H D K : Type 0} (s : Setting P H D K) (t : Tunables) (who : Who) (rules : Call Chosen) (act : Act) (cache : CacheValue)
    (old : Standing P K) (tried : Option Tried) (left : CacheValue) (new : Standing P K) : Type 0 where
  pub does : Does s t who rules old (chosen_with left tried) new
  pub none : tried ≡ None → left ≡ cache
  pub gets : Gets s act cache old (block_tried tried) left new
  pub refused : IsSome tried → block_tried tried ≡ None → Rose (space_refusals s.means.kernel old.space) (space_refusals s.means.kernel new.space)

-- a new arena, which may be refused
abbrev pub new_arena_of : ℕ → ℕ → Call Bool
new_arena_of a bytes = Opens a bytes Done

-- One was opened under a number, or refused; it is there, and whatever is given out stays so.
pub record OpensArena {P H D K : Type 0} (s : Setting P H D K) (t : Tunables) (who : Who) (a bytes : ℕ) (old : Standing P K) (opened : Bool)
    (new : Standing P K) : Type 0 where
  pub does : Does s t who (new_arena_of a bytes) old opened new
  pub there : IsTrue opened → IsTrue (s.ways.there new.places a)
  pub later : space_refusals s.means.kernel old.space ≤ space_refusals s.means.kernel new.space
  pub carries : (hands : Hands) → Carries s.ways true hands old hands new
  pub whole : s.ways.whole new.places

-- a chunk that fills a new mapping for an act
pub record FillsMapping (act : Act) (b : Block) : Type 0 where
  pub chunk : b ≡ chunk_of_mapping (mapping_length (size_searched act)) b.addr
  pub page : b.addr % 4096 ≡ 0
  pub limit : b.addr + b.size ≤ map_limit

-- ---- other holds

-- A block was given to its arena in a hold.
pub record Gives {P H D K : Type 0} (s : Setting P H D K) (t : Tunables) (who : Who) (a : ℕ) (b : Block) (cache : CacheValue)
    (old : Standing P K) (place : ℕ) (new : Standing P K) : Type 0 where
  pub ended : Ended
  pub does : Does s t who (hold_of a (Give b.addr b.size) cache) old (hold_end place ended cache) new
  pub carries : Carries s.ways true (λ weigh. weigh b) old (λ weigh. 0) new

-- Memory was short behind the entry there: the arena has the chunk, and the entry says so.
pub record GivesUp {P H D K : Type 0} (s : Setting P H D K) (t : Tunables) (who : Who) (a : ℕ) (b : Block) (old new : Standing P K) : Type 0 where
  pub lending : P
  pub hold : H
  pub last_hold : H
  pub before : KeptArena
  pub after : KeptArena
  pub lent : s.ways.lent old.places a hold (Some before) lending
  pub short : (cache : CacheValue) → RecordsShort s.means t who (Give b.addr b.size) (held before.arena hold cache old.space before.journal)
      (one_chunk (chunk_at b.addr b.size)) (held after.arena last_hold cache new.space after.journal)
  pub gave : s.ways.gave lending last_hold after new.places

-- Memory was short there: the block comes back as it was, and so does the arena; or the arena has it.
pub record GivesShort {P H D K : Type 0} (s : Setting P H D K) (t : Tunables) (who : Who) (a : ℕ) (b : Block)
    (old : Standing P K) (back : Option Block) (new : Standing P K) : Type 0 where
  pub same : IfSome back (λ c. c ≡ b)
  pub kept : IsSome back → KeepsHold s a old new
  pub gone : back ≡ None → GivesUp s t who a b old new
  pub carries : Carries s.ways false (λ weigh. weigh b) old (weight_of back) new

-- what a hold's end makes of a block that was to get another size: where it isn't mapped and has its address, it is kept
abbrev pub placed_block : Block → Block → Resized
placed_block b c = if is_some c.arena && nat_eq c.addr b.addr then sizes.Kept c else sizes.Moved c

abbrev pub resized_to : ℕ → Block → ℕ → Ended → Resized
resized_to a b nb ended = elim (taken_of a (Resize b.addr b.size nb) ended) [ None ↦ sizes.Refused b | Some c ↦ placed_block b c ]

-- A block of an arena was to get nb bytes, in a hold whose entry has this place: what became of it.
pub record Resizes {P H D K : Type 0} (s : Setting P H D K) (t : Tunables) (who : Who) (a : ℕ) (b : Block) (nb : ℕ) (cache : CacheValue)
    (old : Standing P K) (place : ℕ) (resized : Resized) (left : CacheValue) (new : Standing P K) : Type 0 where
  pub ended : Ended
  pub became : resized ≡ resized_to a b nb ended
  pub does : Does s t who (hold_of a (Resize b.addr b.size nb) cache) old (hold_end place ended left) new
  pub held : IsHeld (block_behind resized)
  pub fits : FitsResize nb resized
  pub refused : resized ≡ sizes.Refused b → Rose (space_refusals s.means.kernel old.space) (space_refusals s.means.kernel new.space)
  pub later : space_refusals s.means.kernel old.space ≤ space_refusals s.means.kernel new.space
  pub opens : is_open left ≡ is_open cache
  pub carries : Carries s.ways true (both_of (λ weigh. weigh b) (in_cache cache)) old
      (both_of (λ weigh. weigh (block_behind resized)) (in_cache left)) new

-- Memory was short there: the block comes back, where it is then, as it was or large enough.
pub record ResizesShort {P H D K : Type 0} (s : Setting P H D K) (b : Block) (nb : ℕ) (cache : CacheValue)
    (old : Standing P K) (back : Block) (left : CacheValue) (new : Standing P K) : Type 0 where
  pub held : IsHeld back
  pub enough : (back ≡ b) ⊎ (need_of back.arena nb ≤ back.size)
  pub carries : Carries s.ways false (both_of (λ weigh. weigh b) (in_cache cache)) old
      (both_of (λ weigh. weigh back) (in_cache left)) new

-- A mapped chunk was freed.
pub record FreesMapped {P H D K : Type 0} (s : Setting P H D K) (t : Tunables) (b : Block)
    (old new : Standing P K) : Type 0 where
  pub threshold : ℕ
  pub step : FreeStep s t b old threshold new
  pub carries : Carries s.ways true (λ weigh. weigh b) old (λ weigh. 0) new

-- The mapping of a chunk went back.
pub record UnmapsMapped {P H D K : Type 0} (s : Setting P H D K) (b : Block) (old new : Standing P K) : Type 0 where
  pub step : UnmapStep s b old new
  pub carries : Carries s.ways true (λ weigh. weigh b) old (λ weigh. 0) new

-- Another length of a chunk's mapping was asked for, for a chunk of nb bytes.
pub record RemapsMapped {P H D K : Type 0} (s : Setting P H D K) (b : Block) (nb : ℕ)
    (old : Standing P K) (answer : Result Block Block) (new : Standing P K) : Type 0 where
  pub step : RemapStep s b (remap_length b nb) old (granted_start answer) new
  pub chunk : IfOk answer (λ c. c ≡ chunk_with_lead (remap_length b nb) b (mapping_start c))
  pub mapped : IfOk answer IsMapped
  pub fits : IfOk answer (λ c. nb + 8 ≤ c.size)
  pub back : IfErr answer (λ c. c ≡ b)
  pub refused : IsErr answer → Rose (space_refusals s.means.kernel old.space) (space_refusals s.means.kernel new.space)
  pub later : space_refusals s.means.kernel old.space ≤ space_refusals s.means.kernel new.space
  pub carries : Carries s.ways true (λ weigh. weigh b) old (λ weigh. weigh (block_answered answer)) new

-- Room was made for a push, and the block was pushed.
pub record PushesWithRoom {P H D : Type 0} (ways : PlaceWays P H D) (old : P) (b : Block) (new : P) : Type 0 where
  pub roomy : P
  pub idle : ways.idle old roomy
  pub pushed : ways.pushed roomy b new
