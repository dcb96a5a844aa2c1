-- What steps on the dials make of a pass's view, and what they tell it (this project's own). The words are those of struct
-- malloc_par of glibc 2.31 malloc/malloc.c, by number: 0 mmap_threshold, 1 trim_threshold, 2 n_mmaps, 3 mmapped_mem, 4 and 5 the
-- maxima of these two.
use Rattle.std.specs.Prelude.{◌≡◌, ℕ, ◌+◌, ◌-◌, List, [], ◌∷◌, ◌++◌, drop, slice_index}
use Rattle.atomic_table.specs.Table.{Step}
use Rattle.board_types.specs.declared.slot.Slot.{Slot}
use Rattle.board_types.specs.Layouts.{dials_at}
use Rattle.board_types.specs.Views.{ViewValue, DialsView}
use Rattle.board_types.specs.Plays.{Mine}

-- ---- the words

pub record DialWords : Type 0 where
  pub mmap_threshold : ℕ
  pub trim_threshold : ℕ
  pub mapped : ℕ
  pub bytes : ℕ
  pub most_mapped : ℕ
  pub most_bytes : ℕ

abbrev pub words_in : DialWords → List ℕ
words_in d = d.mmap_threshold ∷ d.trim_threshold ∷ d.mapped ∷ d.bytes ∷ d.most_mapped ∷ d.most_bytes ∷ []

abbrev pub dials_in : List ℕ → DialWords
dials_in ws = record {
  mmap_threshold = slice_index ws 0;
  trim_threshold = slice_index ws 1;
  mapped = slice_index ws 2;
  bytes = slice_index ws 3;
  most_mapped = slice_index ws 4;
  most_bytes = slice_index ws 5;
}

-- ---- a view after a step

-- a mapping is counted no more
abbrev pub one_uncounted : DialsView → DialsView
one_uncounted v = record v { mapped = v.mapped - 1 }

-- k bytes more of a mapping are counted, which made them n; the maximum is due to that
abbrev pub bytes_counted : DialsView → ℕ → ℕ → DialsView
bytes_counted v n k = record v {
  bytes = v.bytes + k;
  all_bytes = v.all_bytes + k;
  given = v.given + k;
  due_bytes = n ∷ v.due_bytes;
}

-- k bytes of a mapping that ends are counted no more
abbrev pub bytes_uncounted : DialsView → ℕ → DialsView
bytes_uncounted v k = record v { bytes = v.bytes - k }

-- a mapping is k bytes shorter, which made them n; the maximum is due to that too, as mremap_chunk of glibc has it
abbrev pub bytes_shortened : DialsView → ℕ → ℕ → DialsView
bytes_shortened v n k = record v { bytes = v.bytes - k; due_bytes = n ∷ v.due_bytes }

-- A mapping that became longer, or shorter, is listed once more: k bytes of it that weren't counted with the step on the bytes.
-- One that became longer went to a new place, so its window gave them; one that became shorter stayed.
abbrev pub length_given : DialsView → ℕ → DialsView
length_given v k = record v { all_bytes = v.all_bytes + k; given = v.given + k }

abbrev pub length_listed : DialsView → ℕ → DialsView
length_listed v k = record v { all_bytes = v.all_bytes + k }

-- a maximum was raised to what it was due to last
abbrev pub most_mapped_raised : DialsView → DialsView
most_mapped_raised v = record v { due_mapped = drop 1 v.due_mapped }

abbrev pub most_bytes_raised : DialsView → DialsView
most_bytes_raised v = record v { due_bytes = drop 1 v.due_bytes }

-- the mmap threshold was raised to n
abbrev pub threshold_raised : DialsView → ℕ → DialsView
threshold_raised v n = record v { raises = n ∷ v.raises }

-- the word w was set to n
abbrev pub threshold_set : DialsView → ℕ → ℕ → DialsView
threshold_set v w n = record v { set = (w, n) ∷ v.set }

-- n was read of the word w
abbrev pub dial_read : DialsView → ℕ → ℕ → DialsView
dial_read v w n = record v { read = (w, n) ∷ v.read }

-- two views as one, whose hands are empty
abbrev pub joined_dials : DialsView → DialsView → DialsView
joined_dials v w = record {
  mapped = v.mapped + w.mapped;
  bytes = v.bytes + w.bytes;
  all_mapped = v.all_mapped + w.all_mapped;
  all_bytes = v.all_bytes + w.all_bytes;
  given = v.given + w.given;
  windows = v.windows + w.windows;
  due_mapped = v.due_mapped ++ w.due_mapped;
  due_bytes = v.due_bytes ++ w.due_bytes;
  raises = v.raises ++ w.raises;
  set = v.set ++ w.set;
  read = v.read ++ w.read;
}

-- ---- what a step tells

abbrev pub with_dials : ViewValue → DialsView → ViewValue
with_dials v d = record v { dials = d }

-- of a word of the table
abbrev pub dial_of : ℕ → ℕ
dial_of word = word - dials_at

abbrev pub Uncounts : Step Slot → Mine → ℕ → Mine → Type 0
Uncounts st m found m' = m' ≡ (with_dials m.0 (one_uncounted m.0.dials), m.1)

abbrev pub CountsBytes : Step Slot → Mine → ℕ → Mine → Type 0
CountsBytes st m found m' = m' ≡ (with_dials m.0 (bytes_counted m.0.dials (found + st.first) st.first), m.1)

abbrev pub UncountsBytes : Step Slot → Mine → ℕ → Mine → Type 0
UncountsBytes st m found m' = m' ≡ (with_dials m.0 (bytes_uncounted m.0.dials st.first), m.1)

abbrev pub ShortensBytes : Step Slot → Mine → ℕ → Mine → Type 0
ShortensBytes st m found m' = m' ≡ (with_dials m.0 (bytes_shortened m.0.dials (found - st.first) st.first), m.1)

abbrev pub GivesLength : Step Slot → Mine → ℕ → Mine → Type 0
GivesLength st m found m' = m' ≡ (with_dials m.0 (length_given m.0.dials st.first), m.1)

abbrev pub ListsLength : Step Slot → Mine → ℕ → Mine → Type 0
ListsLength st m found m' = m' ≡ (with_dials m.0 (length_listed m.0.dials st.first), m.1)

abbrev pub RaisesMapped : Step Slot → Mine → ℕ → Mine → Type 0
RaisesMapped st m found m' = m' ≡ (with_dials m.0 (most_mapped_raised m.0.dials), m.1)

abbrev pub RaisesBytes : Step Slot → Mine → ℕ → Mine → Type 0
RaisesBytes st m found m' = m' ≡ (with_dials m.0 (most_bytes_raised m.0.dials), m.1)

abbrev pub RaisesMmap : Step Slot → Mine → ℕ → Mine → Type 0
RaisesMmap st m found m' = m' ≡ (with_dials m.0 (threshold_raised m.0.dials st.first), m.1)

-- the trim threshold is raised to twice a raise that is listed already
abbrev pub RaisesTrim : Step Slot → Mine → ℕ → Mine → Type 0
RaisesTrim st m found m' = m' ≡ m

abbrev pub ReadsDial : Step Slot → Mine → ℕ → Mine → Type 0
ReadsDial st m found m' = m' ≡ (with_dials m.0 (dial_read m.0.dials (dial_of st.word) found), m.1)

-- ---- what calls of several steps make of a view

-- a mapping of k bytes is counted, and both maxima are raised
abbrev pub mapping_noted : DialsView → ℕ → DialsView
mapping_noted v k = record v {
  mapped = v.mapped + 1;
  bytes = v.bytes + k;
  all_mapped = v.all_mapped + 1;
  all_bytes = v.all_bytes + k;
  given = v.given + k;
}

-- a mapping of k bytes is counted no more
abbrev pub mapping_ended : DialsView → ℕ → DialsView
mapping_ended v k = record v { mapped = v.mapped - 1; bytes = v.bytes - k }

-- a mapping of old bytes has more: all of them come of the window
abbrev pub mapping_lengthened : DialsView → ℕ → ℕ → DialsView
mapping_lengthened v old more = record v {
  bytes = v.bytes + more;
  all_bytes = v.all_bytes + more + old;
  given = v.given + more + old;
}

-- a mapping has less bytes, and so many are left
abbrev pub mapping_shortened : DialsView → ℕ → ℕ → DialsView
mapping_shortened v less left = record v { bytes = v.bytes - less; all_bytes = v.all_bytes + left }
