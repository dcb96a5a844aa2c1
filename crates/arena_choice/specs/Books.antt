-- The book of arenas: main_arena.next, free_list, next_to_use, narenas_limit, attached_threads and thread_arena of
-- glibc 2.31 malloc/arena.c. Main has the number 0.
use Rattle.std.specs.Prelude.{◌≡◌, ℕ, ◌+◌, ◌<◌, ◌≤◌, ◌==◌, Bool, false, true, List, [], ◌∷◌, ◌++◌, length, replicate, Option, Some, None, slice_get, slice_set, slice_index_or}
use Rattle.std.specs.List.{count_by}
use Rattle.arena_choice.specs.Numbers.{has, Apart}

-- The arenas in their list, main first and then from the newest to the oldest; the numbers of new arenas that aren't in
-- it yet; the free list, newest first; the next arena to reuse, until one was reused none; the limit, 0 until it is
-- settled; the arena of each of 256 threads; and how many arenas there may be at all.
pub record BookValue : Type 0 where
  pub list : List ℕ
  pub kept : List ℕ
  pub free : List ℕ
  pub next : Option ℕ
  pub limit : ℕ
  pub arenas : List (Option ℕ)
  pub records : ℕ

-- whether a thread's arena is this one
abbrev pub is_at : ℕ → Option ℕ → Bool
is_at a None = false
is_at a (Some b) = b == a

-- how many threads are attached to an arena (attached_threads)
abbrev pub attached_to : ℕ → List (Option ℕ) → ℕ
attached_to a arenas = count_by (is_at a) arenas

-- the arena of a thread (thread_arena)
abbrev pub arena_of : BookValue → ℕ → Option ℕ
arena_of b thread = slice_index_or b.arenas thread None

-- the threads' arenas, one of which changes
abbrev pub with_arena : ℕ → Option ℕ → List (Option ℕ) → List (Option ℕ)
with_arena thread arena arenas = slice_set arenas thread arena

-- the numbers of all arenas (narenas is their count)
abbrev pub numbers_of : BookValue → List ℕ
numbers_of b = b.list ++ b.kept

-- no thread is attached to an arena
unfoldable pub no_arenas : List (Option ℕ)
no_arenas = replicate 256 None

-- a book as it begins: main alone, to which thread 0 is attached
abbrev pub first_book : ℕ → BookValue
first_book records = record {
  list = 0 ∷ [];
  kept = [];
  free = [];
  next = None;
  limit = 0;
  arenas = with_arena 0 (Some 0) no_arenas;
  records = records;
}

-- what is true of every book
pub record IsSound (b : BookValue) : Type 0 where
  -- main is first, and no arena is in the list twice; each arena with a thread is in it
  pub main : slice_get b.list 0 ≡ Some 0
  pub list : Apart b.list
  pub attached : (a : ℕ) → 0 < attached_to a b.arenas → has a b.list ≡ true
  -- the kept numbers are without repeats and outside the list
  pub kept : Apart b.kept
  pub outside : (a : ℕ) → has a b.kept ≡ true → has a b.list ≡ false
  -- the free list names arenas of the list, without repeats and without threads
  pub free : Apart b.free
  pub free_listed : (a : ℕ) → has a b.free ≡ true → has a b.list ≡ true
  pub free_idle : (a : ℕ) → has a b.free ≡ true → attached_to a b.arenas ≡ 0
  -- there are no more arenas than there may be
  pub number : length b.list + length b.kept ≤ b.records
  pub records : b.records ≤ 64
  -- until an arena was reused none has two threads; the next one to reuse is in the list
  pub alone : b.next ≡ None → (a : ℕ) → attached_to a b.arenas ≤ 1
  pub next : (a : ℕ) → b.next ≡ Some a → has a b.list ≡ true
