-- The choice of an arena, and what a thread's getting or leaving one does to the book: arena_get2, get_free_list,
-- reused_arena, _int_new_arena and detach_arena of glibc 2.31 malloc/arena.c.
use Rattle.std.specs.Prelude.{◌≡◌, ℕ, ◌-◌, ◌*◌, ◌^◌, ◌==◌, min, nat_lt, Bool, false, true, cond, ◌&&◌, ◌||◌, List, ◌∷◌, length, drop, Option, Some, None, slice_get}
use Rattle.chunk_tags.specs.declared.tunables.Tunables.{Tunables}
use Rattle.arena_choice.specs.Numbers.{has, without, lowest_unused, behind_or, list_with}
use Rattle.arena_choice.specs.Books.{BookValue, attached_to, arena_of, with_arena, numbers_of}
use Rattle.arena_choice.specs.declared.choice.Choice.{Choice}
use Rattle.arena_choice.specs.declared.choice.Choice.TheVariants.{Attached, Free, New, Reuse}

-- ---- the choice

-- the arena that a thread uses without choosing: its own, unless it has to choose afresh
abbrev pub own_arena : BookValue → ℕ → Bool → Option ℕ
own_arena b thread true = None
own_arena b thread false = arena_of b thread

-- the arena that the free list gives: the one that came to it last
abbrev pub newest_free : BookValue → Option ℕ
newest_free b = slice_get b.free 0

abbrev pub without_newest_free : BookValue → BookValue
without_newest_free b = record b { free = drop 1 b.free }

-- eight arenas a core (NARENAS_FROM_NCORES), as far as 32 bits hold it
abbrev pub limit_by_cores : Tunables → ℕ
limit_by_cores t = min (8 * t.cores) (2 ^ 32 - 1)

-- the limit, where it is settled among so many arenas: arena_max where that is set, else by the cores where more than
-- arena_test arenas exist, else not yet
abbrev pub new_limit : Tunables → ℕ → ℕ
new_limit t count = cond (t.arena_max == 0) (cond (nat_lt t.arena_test count) (limit_by_cores t) 0) t.arena_max

-- the book with its limit settled, where it isn't yet; a settled limit stays
abbrev pub with_limit_settled : Tunables → BookValue → BookValue
with_limit_settled t b = record b { limit = cond (b.limit == 0) (new_limit t (length (numbers_of b))) b.limit }

-- whether one more arena may be made: none is settled or fewer exist than the limit says, and fewer than there may be
abbrev pub has_number_left : BookValue → Bool
has_number_left b = (b.limit == 0 || nat_lt (length (numbers_of b)) b.limit) && nat_lt (length (numbers_of b)) b.records

-- the number of a new arena: the lowest that none has
abbrev pub new_number : BookValue → ℕ
new_number b = lowest_unused (numbers_of b)

-- the book that keeps that number
abbrev pub with_new_number : BookValue → BookValue
with_new_number b = record b { kept = new_number b ∷ b.kept }

-- the arena from which one is looked for to be reused: the next one to use, at first main
abbrev pub start_of : Option ℕ → ℕ
start_of None = 0
start_of (Some a) = a

-- where the limit is settled: a new arena where there is a place for it, else one to be reused
abbrev pub new_or_reuse : BookValue → Choice
new_or_reuse b = cond (has_number_left b) (New (new_number b)) (Reuse (start_of b.next))

abbrev pub after_new_or_reuse : BookValue → BookValue
after_new_or_reuse b = cond (has_number_left b) (with_new_number b) b

-- the choice: the thread's own arena, else the newest of the free list, else a new one or one to be reused
abbrev pub choice_from : Option ℕ → Option ℕ → BookValue → Choice
choice_from (Some a) free b = Attached a
choice_from None (Some a) b = Free a
choice_from None None b = new_or_reuse b

abbrev pub choice_of : BookValue → ℕ → Bool → Tunables → Choice
choice_of b thread fresh t = choice_from (own_arena b thread fresh) (newest_free b) (with_limit_settled t b)

-- the book after it: a thread's own arena changes nothing, one of the free list leaves it, and a new one's number is kept
abbrev pub book_from : Option ℕ → Option ℕ → Tunables → BookValue → BookValue
book_from (Some a) free t b = b
book_from None (Some a) t b = without_newest_free b
book_from None None t b = after_new_or_reuse (with_limit_settled t b)

abbrev pub after_choice : BookValue → ℕ → Bool → Tunables → BookValue
after_choice b thread fresh t = book_from (own_arena b thread fresh) (newest_free b) t b

-- a thread may be attached to an arena: it is in the list or its number is kept, and no thread is attached to it
pub record CanAttach (b : BookValue) (a : ℕ) : Type 0 where
  pub known : (has a b.list || has a b.kept) ≡ true
  pub idle : attached_to a b.arenas ≡ 0

-- what a choice allows in the book after it: the arena may be attached, and a new one's number is kept, or it is one of
-- the list
abbrev pub IsUsable : BookValue → Choice → Type 0
IsUsable b (Attached a) = has a b.list ≡ true
IsUsable b (Free a) = CanAttach b a
IsUsable b (New a) = CanAttach b a × (has a b.kept ≡ true)
IsUsable b (Reuse start) = has start b.list ≡ true

-- ---- getting and leaving

-- the arena behind another, round the list: behind the last one comes main
abbrev pub next_behind : BookValue → ℕ → ℕ
next_behind b a = behind_or 0 a b.list

-- the list with a kept number as its newest, which stands behind main; an arena of the list stays where it is
abbrev pub listed : BookValue → ℕ → List ℕ
listed b a = list_with a b.kept b.list

-- the book when a thread is attached to an arena, and so detached from the one that it had
abbrev pub attached_book : BookValue → ℕ → ℕ → BookValue
attached_book b thread a = record b {
  list = listed b a;
  kept = without a b.kept;
  free = without a b.free;
  arenas = with_arena thread (Some a) b.arenas;
}

-- the book when a thread reuses an arena: the next one to use is the one behind it
abbrev pub reused_book : BookValue → ℕ → ℕ → BookValue
reused_book b thread a = record b {
  free = without a b.free;
  next = Some (next_behind b a);
  arenas = with_arena thread (Some a) b.arenas;
}

-- the book that gives a kept number back
abbrev pub undone_book : BookValue → ℕ → BookValue
undone_book b a = record b { kept = without a b.kept }

-- the book with an arena in front of the free list, where no thread is attached to it
abbrev pub freed_if_idle : ℕ → BookValue → BookValue
freed_if_idle a b = record b { free = cond (attached_to a b.arenas == 0) (a ∷ b.free) b.free }

-- the book when a thread leaves the arena that it has
abbrev pub left_book : BookValue → ℕ → Option ℕ → BookValue
left_book b thread None = b
left_book b thread (Some a) = freed_if_idle a (record b { arenas = with_arena thread None b.arenas })

-- the book at a thread's end
abbrev pub detached_book : BookValue → ℕ → BookValue
detached_book b thread = left_book b thread (arena_of b thread)
