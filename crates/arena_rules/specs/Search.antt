-- The search for a chunk in an arena: glibc 2.31 malloc/malloc.c, _int_malloc. At most two consolidations when top
-- doesn't suffice are this project's own.
use Rattle.std.specs.Prelude.{ℕ, ◌+◌, ◌-◌, suc, zero, Bool, false, ◌&&◌, nat_eq, nat_lt, nat_le, List, [], ◌∷◌, drop, reverse, Option, Some, None, if◌then◌else◌}
use Rattle.chunk_tags.specs.BinOrder.{oldest_of, inserted, best_of, fast_chunk}
use Rattle.chunk_tags.specs.declared.tiles.Chunk.{Chunk}
use Rattle.chunk_tags.specs.Sizes.{is_small_size, small_index_of, large_index_of, bin_of, fast_index_of}
use Rattle.chunk_tags.specs.declared.tunables.Tunables.{Tunables}
use Rattle.arena_rules.specs.PlainArena.{Plain, bin_at, with_bin, with_front, unsorted_of, unlinked, is_own}
use Rattle.arena_rules.specs.Moves.{claimed, parted, shelved}
use Rattle.arena_rules.specs.Rules.{Rules, Stop, Misfit, Does, Stashes, Draws, behind, asks_flag, asks_room, pops}
use Rattle.arena_rules.specs.Release.{consolidated, consolidated_if}
use Rattle.arena_rules.specs.Growth.{Took, InArena, cut_or, system_asked}

-- A step of the search: a chunk was taken, and it ends; or it goes on.
pub data Step : Type 0 where
  Taken : Chunk → Plain → Step
  Onward : Plain → Step

-- a step, and the next one where it goes on
abbrev pub next_step : Rules Step → (Plain → Rules Step) → Rules Step
next_step r f = behind r (λ (step : Step). elim step [ Taken c a ↦ Stop (Taken c a) | Onward a ↦ f a ])

-- One more than a list of the caller's cache takes: no hold puts as many into it in a row.
unfoldable pub most_stashed : ℕ
most_stashed = 128

-- Further chunks of a fast bin go to the cache while it has room and the bin has one; the first is the answer.
abbrev pub stashing_fast : ℕ → ℕ → ℕ → Chunk → Plain → Rules Step
stashing_fast zero bin nb first a = Misfit
stashing_fast (suc n) bin nb first a = asks_room a nb (λ room.
    if room then pops a bin (λ found. elim found [
      | None ↦ Stop (Taken first a)
      | Some at ↦ if is_own a (fast_chunk bin at)
          then Does (Stashes (fast_chunk bin at)) (stashing_fast n bin nb first a)
          else Misfit
    ])
    else Stop (Taken first a))

-- A fast size: the front of its fast bin.
abbrev pub fast_taken : Tunables → ℕ → Plain → Rules Step
fast_taken t nb a =
    if nat_le nb t.max_fast
    then (let bin = fast_index_of nb in pops a bin (λ found. elim found [
      | None ↦ Stop (Onward a)
      | Some at ↦ if is_own a (fast_chunk bin at) then stashing_fast most_stashed bin nb (fast_chunk bin at) a else Misfit
    ]))
    else Stop (Onward a)

-- Further last chunks of a small bin go to the cache in the same way.
abbrev pub stashing_small : ℕ → ℕ → Chunk → Plain → Rules Step
stashing_small zero nb first a = Misfit
stashing_small (suc n) nb first a = asks_room a nb (λ room.
    if room then elim (oldest_of (bin_at a (small_index_of nb))) [
      | None ↦ Stop (Taken first a)
      | Some c ↦ Does (Stashes c) (stashing_small n nb first (claimed a c))
    ]
    else Stop (Taken first a))

-- A small size: the last chunk of its bin.
abbrev pub small_taken : ℕ → Plain → Rules Step
small_taken nb a =
    if is_small_size nb
    then elim (oldest_of (bin_at a (small_index_of nb))) [
      | None ↦ Stop (Onward a)
      | Some c ↦ stashing_small most_stashed nb c (claimed a c)
    ]
    else Stop (Onward a)

-- A large size: the arena is consolidated first, where the flag is set.
abbrev pub consolidated_first : ℕ → Plain → Rules Step
consolidated_first nb a =
    if is_small_size nb then Stop (Onward a)
    else asks_flag a (λ flag. behind (consolidated_if flag a) (λ b. Stop (Onward b)))

-- A free chunk is taken. A rest of at least 32 bytes is split off and goes to the front of unsorted; a smaller one stays.
abbrev pub carved : Plain → Chunk → ℕ → Plain
carved a c nb =
    if nat_lt (c.size - nb) 32 then claimed a c
    else shelved (parted (claimed a c) c nb) (record { at = c.at + nb; size = c.size - nb })

-- what of it is the answer
abbrev pub carved_chunk : Chunk → ℕ → Chunk
carved_chunk c nb = if nat_lt (c.size - nb) 32 then c else record { at = c.at; size = nb }

-- where a rest was split off for a small size, it is the last remainder
abbrev pub with_remainder : Plain → Chunk → ℕ → Plain
with_remainder a c nb =
    if nat_lt (c.size - nb) 32 then a else (if is_small_size nb then record a { last = Some (c.at + nb) } else a)

-- An unsorted chunk goes to its own bin: in front of a small one, by its size into a large one.
abbrev pub sorted_in : Plain → Chunk → Plain
sorted_in a c =
    let b = unlinked a c in
    if is_small_size c.size
    then with_front b (small_index_of c.size) c
    else with_bin b (large_index_of c.size) (inserted c (bin_at b (large_index_of c.size)))

-- the chunk is the last remainder, and large enough to be cut for a size
abbrev pub is_large_remainder : ℕ → Plain → Chunk → Bool
is_large_remainder nb a c = (elim a.last [ None ↦ false | Some at ↦ nat_eq at c.at ]) && nat_lt (nb + 32) c.size

-- it is, for a small size, and alone in unsorted, with no others behind it
abbrev pub splits_remainder : ℕ → Plain → Chunk → List Chunk → Bool
splits_remainder nb a c [] = is_small_size nb && is_large_remainder nb a c
splits_remainder nb a c (d ∷ ds) = false

-- the scan ends behind so many chunks that went to bins (MAX_ITERS)
abbrev pub most_sorted : ℕ
most_sorted = 10000

-- Where the scan has put chunks into the cache, the newest of that list is the answer.
abbrev pub scan_end : ℕ → Option Chunk → Plain → Rules Step
scan_end nb None a = Stop (Onward a)
scan_end nb (Some c) a = Does (Draws nb) (Stop (Taken c a))

-- The scan over what is left of unsorted, oldest first. The last remainder, alone there, is split for a small size.
-- A chunk of the very size goes to the cache where that has room, and else is the answer. Any other goes to its bin.
abbrev pub scanned : ℕ → List Chunk → ℕ → Option Chunk → Plain → Rules Step
scanned nb [] sorted stashed a = scan_end nb stashed a
scanned nb (c ∷ cs) sorted stashed a =
    if splits_remainder nb a c cs then Stop (Taken (carved_chunk c nb) (with_remainder (carved a c nb) c nb))
    else (if nat_eq c.size nb
    then asks_room a nb (λ room.
    if room then Does (Stashes c) (scanned nb cs sorted (Some c) (claimed a c)) else Stop (Taken c (claimed a c)))
    else (if nat_eq (sorted + 1) most_sorted
    then scan_end nb stashed (sorted_in a c)
    else scanned nb cs (sorted + 1) stashed (sorted_in a c)))

-- all of unsorted
abbrev pub scanned_all : ℕ → Plain → Rules Step
scanned_all nb a = scanned nb (reverse (unsorted_of a)) 0 None a

-- a found chunk is taken, with what becomes of its rest
abbrev pub taken_from : ℕ → Plain → Option Chunk → Step
taken_from nb a None = Onward a
taken_from nb a (Some c) = Taken (carved_chunk c nb) (with_remainder (carved a c nb) c nb)

-- A large size: the smallest chunk of its own bin that fits.
abbrev pub best_taken : ℕ → Plain → Rules Step
best_taken nb a =
    Stop (if is_small_size nb then Onward a else taken_from nb a (best_of nb (bin_at a (large_index_of nb))))

-- the last chunk of the first list that has one
abbrev pub first_oldest : List (List Chunk) → Option Chunk
first_oldest [] = None
first_oldest ([] ∷ lists) = first_oldest lists
first_oldest ((c ∷ cs) ∷ lists) = oldest_of (c ∷ cs)

-- The last chunk of the first bin above that isn't empty.
abbrev pub larger_taken : ℕ → Plain → Rules Step
larger_taken nb a = Stop (taken_from nb a (first_oldest (drop (bin_of nb + 1) a.bins)))

-- Top, where it suffices.
abbrev pub top_taken : ℕ → Plain → Rules Step
top_taken nb a = Stop (cut_or Taken Onward nb a)

-- the scan and what follows it, as far as top
abbrev pub looked : ℕ → Plain → Rules Step
looked nb a =
    next_step (scanned_all nb a) (λ b. next_step (best_taken nb b) (λ c. next_step (larger_taken nb c) (top_taken nb)))

-- The scan and what follows; where top doesn't suffice and the flag is set, the arena is consolidated and all of this
-- comes again, so many times at most; else the system is asked.
abbrev pub rounds : ℕ → Tunables → ℕ → Plain → Rules Took
rounds zero t nb a = behind (looked nb a) (λ (step : Step). elim step [
  | Taken c b ↦ Stop (record { found = InArena c; arena = b })
  | Onward b ↦ system_asked t nb b
])
rounds (suc n) t nb a = behind (looked nb a) (λ (step : Step). elim step [
  | Taken c b ↦ Stop (record { found = InArena c; arena = b })
  | Onward b ↦ asks_flag b (λ flag.
      if flag then behind (consolidated b) (rounds n t nb) else system_asked t nb b)
])

-- The first steps of a search: a fast size is taken from its fast bin; else a small one from its bin, and for a large one
-- the fast bins are consolidated.
abbrev pub small_or_consolidated : ℕ → Plain → Rules Step
small_or_consolidated nb a = next_step (small_taken nb a) (consolidated_first nb)

abbrev pub first_steps : Tunables → ℕ → Plain → Rules Step
first_steps t nb a = next_step (fast_taken t nb a) (small_or_consolidated nb)

-- The search.
abbrev pub searched : Tunables → ℕ → Plain → Rules Took
searched t nb a =
    behind (first_steps t nb a) (λ (step : Step). elim step [
      | Taken c b ↦ Stop (record { found = InArena c; arena = b })
      | Onward b ↦ rounds 2 t nb b
    ])
