-- Ports to the fast bins of an arena, as contracts see them (this project's own form). What is done at them is in glibc
-- 2.31 malloc/malloc.c: the push of _int_free, the pop REMOVE_FB of _int_malloc, and what malloc_consolidate takes.
use Rattle.std.specs.Prelude.{◌≡◌, ℕ, ◌+◌, ◌<◌, Bool, ◌&&◌, ◌||◌, not, nat_eq, IsTrue, Option, Some, None}
use Rattle.chunk_tags.specs.BinOrder.{once, fast_chunk}
use Rattle.chunk_tags.specs.declared.tiles.Chunk.{Chunk}

-- What is done at a port, with its answer: the flag is told or cleared; a chunk is pushed into a bin, or popped from it;
-- a bin's chain goes before its private list, or that list gives its front.
pub data FastStep : Type 0 where
  Flags : Bool → FastStep
  Clears : FastStep
  Pushes : ℕ → ℕ → FastStep
  Pops : ℕ → Option ℕ → FastStep
  Gathers : ℕ → FastStep
  Owns : ℕ → Option ℕ → FastStep

-- What a port is: what each step makes of it; what it is after it made room, or found none; how often a chunk stands in
-- its stock, the chunks that it may still give in this hold; and whether a bin has room for one more.
pub record Fast (P : Type 0) : Type 1 where
  pub step : P → FastStep → P → Type 0
  pub idle : P → P → Type 0
  pub stock : P → Chunk → ℕ
  pub room : P → ℕ → Bool

-- how often a step puts a chunk into the stock
abbrev pub times_put : FastStep → Chunk → ℕ
times_put (Flags f) e = 0
times_put Clears e = 0
times_put (Pushes bin at) e = once e (fast_chunk bin at)
times_put (Pops bin at) e = 0
times_put (Gathers bin) e = 0
times_put (Owns bin at) e = 0

-- how often it gives a chunk out of the stock
abbrev pub times_given : FastStep → Chunk → ℕ
times_given (Flags f) e = 0
times_given Clears e = 0
times_given (Pushes bin at) e = 0
times_given (Pops bin None) e = 0
times_given (Pops bin (Some at)) e = once e (fast_chunk bin at)
times_given (Gathers bin) e = 0
times_given (Owns bin None) e = 0
times_given (Owns bin (Some at)) e = once e (fast_chunk bin at)

-- Whether a step leaves room in a bin, which had room or had none: a push uses up the room of its bin, and a chunk that
-- is given leaves room there.
abbrev pub leaves_room : FastStep → ℕ → Bool → Bool
leaves_room (Flags f) k had = had
leaves_room Clears k had = had
leaves_room (Pushes bin at) k had = not (nat_eq k bin) && had
leaves_room (Pops bin None) k had = had
leaves_room (Pops bin (Some at)) k had = nat_eq k bin || had
leaves_room (Gathers bin) k had = had
leaves_room (Owns bin None) k had = had
leaves_room (Owns bin (Some at)) k had = nat_eq k bin || had

-- one step of a port
pub record Did {P : Type 0} (fast : Fast P) (old : P) (s : FastStep) (new : P) : Type 0 where
  pub step : fast.step old s new
  pub stock : (e : Chunk) → fast.stock new e + times_given s e ≡ fast.stock old e + times_put s e
  pub room : (k : ℕ) → IsTrue (leaves_room s k (fast.room old k)) → IsTrue (fast.room new k)

-- room was asked for, and no bin changed
pub record Idles {P : Type 0} (fast : Fast P) (old new : P) : Type 0 where
  pub idle : fast.idle old new
  pub stock : (e : Chunk) → fast.stock new e ≡ fast.stock old e
  pub room : (k : ℕ) → IsTrue (fast.room old k) → IsTrue (fast.room new k)

-- how many fast bins there are (NFASTBINS)
abbrev pub fast_bin_count : ℕ
fast_bin_count = 10

-- each of them has room for one more
abbrev pub HasRoom : {P : Type 0} → Fast P → P → Type 0
HasRoom fast p = (k : ℕ) → k < fast_bin_count → IsTrue (fast.room p k)
