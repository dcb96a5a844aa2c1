-- The ten fast bins of an arena for one order of calls: fastbinsY of glibc 2.31 malloc/malloc.c, and beside each the
-- private list of who holds the arena's lock (this project's own).
use Rattle.std.specs.Prelude.{◌≡◌, ℕ, ◌+◌, ◌<◌, Bool, false, true, nat_lt, List, [], ◌∷◌, ◌++◌, map, drop, length, replicate, IsTrue, Option, slice_get, slice_index_or, slice_set}
use Rattle.chunk_tags.specs.BinOrder.{times_in, fast_chunk}
use Rattle.chunk_tags.specs.declared.tiles.Chunk.{Chunk}
use Rattle.fast_bins.specs.FastPorts.{FastStep, Flags, Clears, Pushes, Pops, Gathers, Owns, Fast, fast_bin_count}

-- a bin: its chain, and behind it its private list, addresses of chunks and front first
pub record FastBin : Type 0 where
  pub chain : List ℕ
  pub own : List ℕ

-- the flag that chunks may be in a bin, and the bins
pub record FastState : Type 0 where
  pub flag : Bool
  pub bins : List FastBin

abbrev pub empty_bin : FastBin
empty_bin = record { chain = []; own = [] }

-- ten empty bins and an unset flag
unfoldable pub empty_state : FastState
empty_state = record { flag = false; bins = replicate fast_bin_count empty_bin }

-- the addresses of a bin, front first
abbrev pub listed : FastBin → List ℕ
listed b = b.chain ++ b.own

abbrev pub fast_bin_at : FastState → ℕ → FastBin
fast_bin_at s k = slice_index_or s.bins k empty_bin

-- What is done to one bin. A push goes before all that is there; a pop takes the front of all.

abbrev pub pushed : ℕ → FastBin → FastBin
pushed at b = record b { chain = at ∷ b.chain }

abbrev pub first_in : FastBin → Option ℕ
first_in b = slice_get (listed b) 0

abbrev pub without_front : FastBin → FastBin
without_front b = elim b.chain [ [] ↦ record b { own = drop 1 b.own } | at ∷ chain ↦ record b { chain = chain } ]

-- the whole chain goes before the private list
abbrev pub gathered : FastBin → FastBin
gathered b = record { chain = []; own = listed b }

abbrev pub own_front : FastBin → Option ℕ
own_front b = slice_get b.own 0

abbrev pub without_own : FastBin → FastBin
without_own b = record b { own = drop 1 b.own }

abbrev pub on_bin : ℕ → (FastBin → FastBin) → FastState → FastState
on_bin k f s = record s { bins = slice_set s.bins k (f (fast_bin_at s k)) }

-- the answer of a step is what the bins tell
abbrev pub FastTells : FastState → FastStep → Type 0
FastTells s (Flags flag) = flag ≡ s.flag
FastTells s Clears = Unit {0}
FastTells s (Pushes bin at) = Unit {0}
FastTells s (Pops bin at) = at ≡ first_in (fast_bin_at s bin)
FastTells s (Gathers bin) = Unit {0}
FastTells s (Owns bin at) = at ≡ own_front (fast_bin_at s bin)

-- the bins after a step
abbrev pub after_fast_step : FastStep → FastState → FastState
after_fast_step (Flags flag) s = s
after_fast_step Clears s = record s { flag = false }
after_fast_step (Pushes bin at) s = record (on_bin bin (pushed at) s) { flag = true }
after_fast_step (Pops bin at) s = on_bin bin without_front s
after_fast_step (Gathers bin) s = on_bin bin gathered s
after_fast_step (Owns bin at) s = on_bin bin without_own s

-- the chunks of the bins, the first of which has an index
abbrev pub chunks_from : ℕ → List FastBin → List Chunk
chunks_from k [] = []
chunks_from k (b ∷ bs) = map (fast_chunk k) (listed b) ++ chunks_from (k + 1) bs

-- the chunks of all bins
abbrev pub chunks_of : FastState → List Chunk
chunks_of s = chunks_from 0 s.bins

-- a bin, and how many chunks it takes before memory is asked for
pub record RoomyBin : Type 0 where
  pub bin : FastBin
  pub room : ℕ

pub record PlainBins : Type 0 where
  pub flag : Bool
  pub bins : List RoomyBin

abbrev pub no_bin : RoomyBin
no_bin = record { bin = empty_bin; room = 0 }

abbrev pub has_room : RoomyBin → Bool
has_room b = nat_lt (length (listed b.bin)) b.room

-- the bins, without their room
abbrev pub state_of : PlainBins → FastState
state_of p = record { flag = p.flag; bins = map (λ b. b.bin) p.bins }

-- room was made: the bins are the same, and where there was room there is
pub record Roomier (old new : List RoomyBin) : Type 0 where
  pub bins : map (λ b. b.bin) new ≡ map (λ b. b.bin) old
  pub room : (k : ℕ) → IsTrue (has_room (slice_index_or old k no_bin)) → IsTrue (has_room (slice_index_or new k no_bin))

-- the first n bins have room for one more
abbrev pub HaveRoom : ℕ → List RoomyBin → Type 0
HaveRoom n bins = (k : ℕ) → k < n → IsTrue (has_room (slice_index_or bins k no_bin))

-- the ten bins that are meant where none is there yet
abbrev pub ten_bins : List RoomyBin → List RoomyBin
ten_bins [] = replicate fast_bin_count no_bin
ten_bins (b ∷ bins) = b ∷ bins

-- there are ten, and where they are said to be roomy each has room for one more
pub record AreTen (is_roomy : Bool) (bins : List RoomyBin) : Type 0 where
  pub count : length bins ≡ fast_bin_count
  pub room : IsTrue is_roomy → HaveRoom fast_bin_count bins

-- What these bins are as a port: they tell each answer and what they are after each step, and their stock is all that
-- is in them.
abbrev pub plain_fast : Fast PlainBins
plain_fast = record {
  step = λ p s q. FastTells (state_of p) s × (state_of q ≡ after_fast_step s (state_of p));
  idle = λ p q. state_of q ≡ state_of p;
  stock = λ p e. times_in e (chunks_of (state_of p));
  room = λ p k. has_room (slice_index_or p.bins k no_bin);
}
