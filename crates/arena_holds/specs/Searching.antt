-- A search for a chunk in the arena that a thread chooses, and in another one where that is refused: arena_get, arena_get2 and
-- arena_get_retry of glibc 2.31 malloc/arena.c as __libc_malloc, __libc_calloc and _mid_memalign of malloc/malloc.c use them, and
-- sysmalloc where there is no arena. That a search is an act that takes a chunk is this project's own form.
use Rattle.std.specs.Prelude.{◌≡◌, ℕ, ◌+◌, ◌-◌, ◌%◌, ◌≤◌, ◌^◌, Bool, true, false, nat_eq, Option, Some, None, is_some, if◌then◌else◌}
use Rattle.chunk_tags.specs.Pages.{mapping_length, user_address}
use Rattle.chunk_tags.specs.Sizes.{IsRequestSize}
use Rattle.chunk_tags.specs.declared.block.Block.{Block}
use Rattle.chunk_tags.specs.declared.tunables.Tunables.{Tunables}
use Rattle.thread_cache.specs.Caches.{CacheValue}
use Rattle.arena_rules.specs.Align.{IsAlignment, size_with_lead}
use Rattle.arena_rules.specs.Growth.{InMapping}
use Rattle.arena_core.specs.declared.journal.Act.{Act}
use Rattle.arena_core.specs.declared.journal.Act.TheVariants.{Take, Align}
use Rattle.arena_core.specs.Replay.{chunk_at, ended_of}
use Rattle.arena_choice.specs.Choices.{choice_of}
use Rattle.arena_choice.specs.declared.choice.Choice.{Choice}
use Rattle.arena_choice.specs.declared.choice.Choice.TheVariants.{Attached, Free, New, Reuse}
use Rattle.arena_holds.specs.BookChanges.{Chooses, Reuses}
use Rattle.arena_holds.specs.Calls.{Call, Done, HoldsFree, Opens, Books, Maps, then_call, hold_of, hold_end, HoldEnd, taken_of}

-- ---- what a search asks for

-- the bytes of the chunk that an act searches for, a lead included
abbrev pub size_searched : Act → ℕ
size_searched (Take nb) = nb
size_searched (Align align nb) = size_with_lead align nb
size_searched _ = 0

-- the bytes that its caller wants of it
abbrev pub size_wanted : Act → ℕ
size_wanted (Take nb) = nb
size_wanted (Align align nb) = nb
size_wanted _ = 0

-- an act that searches for a chunk
abbrev pub IsSearch : Act → Type 0
IsSearch (Take nb) = IsRequestSize nb
IsSearch (Align align nb) = IsRequestSize nb × (IsAlignment align × (nb + align + 32 ≤ 2 ^ 63 - 1))
IsSearch _ = ⊥

-- the user address of its block is a multiple of the alignment
abbrev pub IsAligned : Act → Block → Type 0
IsAligned (Align align nb) b = user_address b.addr % align ≡ 0
IsAligned _ b = Unit {0}

-- ---- what it comes to

-- the place of its hold's entry, the block, where one was found, and the cache
pub record Searched : Type 0 where
  pub place : ℕ
  pub block : Option Block
  pub cache : CacheValue

abbrev pub search_end : ℕ → Option Block → CacheValue → Searched
search_end place block cache = record { place = place; block = block; cache = cache }

abbrev pub found_in : ℕ → Act → HoldEnd → Searched
found_in a act e = search_end e.place (taken_of a act e.ended) e.cache

-- one arena is searched
abbrev pub search_in : ℕ → Act → CacheValue → Call Searched
search_in a act cache = then_call (hold_of a act cache) (λ e. Done (found_in a act e))

-- ---- the arena that a thread chooses is searched

-- the arena that was searched, and what that came to; `None` where no arena could be had
abbrev pub Chosen : Type 0
Chosen = Option (ℕ × Searched)

abbrev pub search_chosen : ℕ → Act → CacheValue → Call Chosen
search_chosen a act cache = then_call (search_in a act cache) (λ x. Done (Some (a, x)))

-- a new arena, which may be refused
abbrev pub search_new : ℕ → ℕ → Act → CacheValue → Call Chosen
search_new a bytes act cache = Opens a bytes (λ opened. if opened then search_chosen a act cache else Done None)

-- the arena to avoid: a thread chooses afresh where main was refused
abbrev pub avoided : Bool → Option ℕ
avoided fresh = if fresh then Some 0 else None

-- the first with a free lock, to which the thread is attached behind its hold
abbrev pub search_reused : ℕ → Bool → ℕ → Act → CacheValue → Call Chosen
search_reused thread fresh start act cache =
    HoldsFree start (avoided fresh) act cache (λ a place ended left. Books (Reuses thread a) (λ book.
    Done (Some (a, found_in a act (hold_end place ended left)))))

abbrev pub search_by_choice : ℕ → Bool → ℕ → Act → CacheValue → Choice → Call Chosen
search_by_choice thread fresh bytes act cache (Attached a) = search_chosen a act cache
search_by_choice thread fresh bytes act cache (Free a) = search_chosen a act cache
search_by_choice thread fresh bytes act cache (New a) = search_new a bytes act cache
search_by_choice thread fresh bytes act cache (Reuse start) = search_reused thread fresh start act cache

-- an arena is chosen for so many bytes, and searched
abbrev pub choose_and_search : Tunables → ℕ → Bool → ℕ → Act → CacheValue → Call Chosen
choose_and_search t thread fresh bytes act cache =
    Books (Chooses thread fresh) (λ book. search_by_choice thread fresh bytes act cache (choice_of book thread fresh t))

-- ---- a second try

-- what an act takes in a mapping of its own
abbrev pub mapped_for : Act → Option ℕ → Option Block
mapped_for act None = None
mapped_for act (Some start) = taken_of 0 act (ended_of act (InMapping (chunk_at start (mapping_length (size_searched act)))))

-- where no arena could be had, a mapping is asked for, whatever the threshold and the count are
abbrev pub search_mapping : Act → CacheValue → Call Searched
search_mapping act cache = Maps (mapping_length (size_searched act)) (λ start. Done (search_end 0 (mapped_for act start) cache))

abbrev pub or_in_mapping : Act → CacheValue → Chosen → Call Searched
or_in_mapping act cache None = search_mapping act cache
or_in_mapping act cache (Some r) = Done r.1

-- what another arena was refused is searched for in main, and what main was refused in one that is chosen afresh
abbrev pub search_again : Tunables → ℕ → ℕ → ℕ → Act → CacheValue → Call Searched
search_again t thread bytes a act cache =
    if nat_eq a 0 then then_call (choose_and_search t thread true bytes act cache) (or_in_mapping act cache)
    else search_in 0 act cache

abbrev pub tried_again : Tunables → ℕ → ℕ → Act → CacheValue → Chosen → Call Searched
tried_again t thread bytes act cache None = search_mapping act cache
tried_again t thread bytes act cache (Some r) =
    if is_some r.1.block then Done r.1 else search_again t thread bytes r.0 act r.1.cache

-- A thread's search: its arena is chosen for so many bytes, and at the second try for as many as `again`.
abbrev pub search : Tunables → ℕ → ℕ → ℕ → Act → CacheValue → Call Searched
search t thread bytes again act cache =
    then_call (choose_and_search t thread false bytes act cache) (tried_again t thread again act cache)
