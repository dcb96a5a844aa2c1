-- Where the words of a board stand (this project's own): the roster word and 63 more, of which six are dials and six tuned words;
-- 16 a record, of which the locks, with that of the book behind the arenas', the flags and ten heads each are used; a word a tray;
-- and a link for each 16 bytes of arena memory.
use Rattle.std.specs.Prelude.{ℕ, ◌+◌, ◌-◌, ◌*◌, ◌/◌, ◌^◌, ◌≤◌, List, take, drop}
use Rattle.board_types.specs.declared.layout.Layout.{Layout}

-- How many link words there are. `unfoldable`: to the proofs it is one number.
unfoldable pub link_words : Layout → ℕ
link_words k = (2 * k.main_max + (k.records - 1) * k.heaps * k.heap_max) / 16

-- how many words a board takes
abbrev pub words_of : Layout → ℕ
words_of k = link_words k + 16 * k.records + 65600

-- How many trays there are. `unfoldable`, since lists of that length are not to be written out.
unfoldable pub tray_count : ℕ
tray_count = 65536

-- the first word of the dials, of the tuned words, and of the locks
abbrev pub dials_at : ℕ
dials_at = 1

abbrev pub tuned_at : ℕ
tuned_at = 7

abbrev pub locks_at : ℕ
locks_at = 64

-- the first word of the arenas' flags, of the heads of their fast bins, of the trays, and of the links
abbrev pub flags_at : Layout → ℕ
flags_at k = 65 + k.records

abbrev pub heads_at : Layout → ℕ
heads_at k = 65 + 2 * k.records

abbrev pub trays_at : Layout → ℕ
trays_at k = 64 + 16 * k.records

abbrev pub links_at : Layout → ℕ
links_at k = 65600 + 16 * k.records

-- The numbers of a layout are in their ranges; windows are in bytes.
pub record IsLaid (k : Layout) : Type 0 where
  pub records : (1 ≤ k.records) × (k.records ≤ 64)
  pub main : k.main_max ≤ 2 ^ 30
  pub heaps : k.heaps ≤ 64
  pub heap : k.heap_max ≤ 2 ^ 26

-- the n elements from a place on: what a part of the rule reads of the words
abbrev pub window : {A : Type 0} → ℕ → ℕ → List A → List A
window from n xs = take n (drop from xs)
