-- What is done in one hold of the book of arenas: glibc 2.31 malloc/arena.c, arena_get2 with get_free_list, reused_arena, the
-- end of arena_get2 where a new arena couldn't be had, and __malloc_arena_thread_freeres.
use Rattle.std.specs.Prelude.{ℕ, Bool}
use Rattle.chunk_tags.specs.declared.tunables.Tunables.{Tunables}
use Rattle.arena_choice.specs.Books.{BookValue}
use Rattle.arena_choice.specs.Choices.{choice_of, after_choice, attached_book, reused_book, undone_book, detached_book}
use Rattle.arena_choice.specs.declared.choice.Choice.{Choice}
use Rattle.arena_choice.specs.declared.choice.Choice.TheVariants.{Attached, Free, New, Reuse}

-- An arena is chosen for a thread, afresh or not, and where it comes from the free list the thread is attached to it at once;
-- the number of a new arena that couldn't be had is given back; a thread is attached to an arena that others use too; or a
-- thread leaves its arena.
pub data BookChange : Type 0 where
  Chooses : ℕ → Bool → BookChange
  Undoes : ℕ → BookChange
  Reuses : ℕ → ℕ → BookChange
  Leaves : ℕ → BookChange

-- the book when what comes from the free list is attached
abbrev pub attached_where_free : ℕ → Choice → BookValue → BookValue
attached_where_free thread (Attached a) b = b
attached_where_free thread (Free a) b = attached_book b thread a
attached_where_free thread (New a) b = b
attached_where_free thread (Reuse start) b = b

-- the book then
abbrev pub book_after : Tunables → BookChange → BookValue → BookValue
book_after t (Chooses thread fresh) b = attached_where_free thread (choice_of b thread fresh t) (after_choice b thread fresh t)
book_after t (Undoes a) b = undone_book b a
book_after t (Reuses thread a) b = reused_book b thread a
book_after t (Leaves thread) b = detached_book b thread
