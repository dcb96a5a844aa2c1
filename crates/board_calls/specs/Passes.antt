-- What a pass of a board may do at the words, and what its view is then (this project's own).
use Rattle.std.specs.Prelude.{◌≡◌, ℕ, ◌+◌, ◌-◌, ◌*◌, ◌%◌, ◌^◌, ◌<◌, ◌≤◌, ◌||◌, ◌⊎◌, nat_eq, nat_le, Bool, false, List, [], ◌∷◌, ◌++◌, Option, Some, None, sum_by, IsTrue, if◌then◌else◌}
use Rattle.std.specs.List.{list_any, AllByRecursion}
use Rattle.chunk_tags.specs.declared.block.Block.{Block}
use Rattle.chunk_tags.specs.Dials.{Dial, MmapThreshold, TrimThreshold, MappedCount}
use Rattle.address_space.specs.Spaces.{map_length}
use Rattle.mapped_chunks.specs.DialPorts.{DialStep, Reads, Raises, Maps, Unmaps, Remaps}
use Rattle.arena_core.specs.Journal.{Recorded}
use Rattle.arena_core.specs.declared.journal.Who.{Who}
use Rattle.arena_choice.specs.Numbers.{has}
use Rattle.arena_holds.specs.Places.{Hands}
use Rattle.board_types.specs.Views.{Added, Own}
use Rattle.board_types.specs.Flat.{FlatView}

-- the entries that an unlock adds behind a journal
abbrev pub added_to : ℕ → List Recorded → List Recorded → List Added
added_to a before [] = []
added_to a before (e ∷ es) = record { arena = a; before = before; entry = e } ∷ added_to a (before ++ e ∷ []) es

-- what its blocks of arenas weigh
abbrev pub in_mine : FlatView → Hands
in_mine v weigh = sum_by weigh v.mine

-- ---- which arenas are known to be in their records

abbrev pub is_in : ℕ → Option ℕ → Bool
is_in n None = false
is_in n (Some a) = nat_eq a n

-- an arena of a book's list that was given back
abbrev pub in_lists : ℕ → FlatView → Bool
in_lists n v = list_any (λ xs. has n xs) v.lists

-- main, one of those lists, that of a block, or one of which an entry was added
abbrev pub is_known : FlatView → ℕ → Bool
is_known v n = nat_eq n 0 || (in_lists n v || (list_any (λ (b : Block). is_in n b.arena) v.mine || list_any (λ (x : Added). nat_eq x.arena n) v.added))

-- whether a number is one of its own ones
abbrev pub owns_number : ℕ → List Own → Bool
owns_number n os = list_any (λ (o : Own). nat_eq o.number n) os

-- What is so of each pass: what it knows is a record's number, and so is what is its own, which main isn't.
pub record IsWithin (v : FlatView) : Type 0 where
  pub most : v.tunables.records ≤ 64
  pub known : (n : ℕ) → IsTrue (is_known v n) → n < v.tunables.records
  pub own : (n : ℕ) → IsTrue (owns_number n v.own) → (0 < n) × (n < v.tunables.records)

-- ---- the words

-- the word that a dial is
abbrev pub word_of : Dial → ℕ
word_of MmapThreshold = 0
word_of TrimThreshold = 1
word_of MappedCount = 2

-- the view behind a step at the words
abbrev pub after_word : DialStep → FlatView → FlatView
after_word (Reads w n) v = record v { read = (word_of w, n) ∷ v.read }
after_word (Raises size) v = record v { raises = size ∷ v.raises }
after_word (Maps len) v = record v { mapped = v.mapped + 1; bytes = v.bytes + len; given = v.given + len; all_mapped = v.all_mapped + 1; all_bytes = v.all_bytes + len }
after_word (Unmaps len) v = record v { mapped = v.mapped - 1; bytes = v.bytes - len }
after_word (Remaps old_len new_len) v = record v {
  bytes = v.bytes - old_len + new_len;
  given = if nat_le new_len old_len then v.given else v.given + new_len;
  all_bytes = v.all_bytes + new_len;
}

-- what a step tells: a threshold that was read is the one that was set, or a multiple of 16 that isn't below that
abbrev pub WordTells : DialStep → FlatView → Type 0
WordTells (Reads MmapThreshold n) v = (n ≡ v.tunables.mmap_threshold) ⊎ ((n % 16 ≡ 0) × (v.tunables.mmap_threshold ≤ n + 1))
WordTells s v = Unit {0}

-- which steps a pass may make
abbrev pub MayWord : DialStep → FlatView → Type 0
MayWord (Reads w n) v = Unit {0}
MayWord (Raises size) v = (size % 16 ≡ 0) × ((v.tunables.mmap_threshold ≤ size + 1) × (2 * size < 2 ^ 64))
MayWord (Maps len) v = (v.given + len ≤ map_length) × (v.all_mapped ≤ map_length)
MayWord (Unmaps len) v = (1 ≤ v.mapped) × (len ≤ v.bytes)
MayWord (Remaps old_len new_len) v = (old_len ≤ v.bytes) × (old_len < new_len → v.given + new_len ≤ map_length)

-- in a hold no mapping is counted no more, and none gets another length
abbrev pub HeldWord : DialStep → Type 0
HeldWord (Reads w n) = Unit {0}
HeldWord (Raises size) = Unit {0}
HeldWord (Maps len) = Unit {0}
HeldWord (Unmaps len) = ⊥
HeldWord (Remaps old_len new_len) = ⊥

-- a step outside all holds
pub record AfterWord (s : DialStep) (v w : FlatView) : Type 0 where
  pub is : w ≡ after_word s v
  pub tells : WordTells s v

-- ---- lines

-- Entries of a line may be added: it is of the pass's thread, and no entry that the pass added is of a later line.
pub record LineFits (who : Who) (v : FlatView) : Type 0 where
  pub thread : who.thread ≡ v.number
  pub lines : AllByRecursion (λ (x : Added). x.entry.who.line ≤ who.line) v.added
