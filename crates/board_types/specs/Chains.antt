-- Chains (fastbinsY of glibc 2.31 malloc/malloc.c): each head word and the link words spell a list of addresses, and so do the
-- fronts of the holders' private lists, which are this project's own. Bins are numbered through all arenas: 10 · arena + bin.
use Rattle.std.specs.Prelude.{◌≡◌, ◌≢◌, ℕ, ◌+◌, ◌-◌, ◌*◌, ◌/◌, ◌%◌, ◌<◌, Option as Maybe, Some, None, List, [], ◌∷◌, ◌++◌, map, take, drop, slice_index, slice_index_or, nat_eq, nat_lt, if◌then◌else◌}
use mathlib.Core.Option.{some}
use lib.ListN.{get_elem?}
use Rattle.chunk_tags.specs.declared.tiles.Chunk.{Chunk}
use Rattle.chunk_tags.specs.BinOrder.{once, fast_chunk}
use Rattle.address_space.specs.Spaces.{main_start, piece_start, heaps_start}
use Rattle.board_types.specs.declared.layout.Layout.{Layout}
use Rattle.board_types.specs.Views.{HomeValue, OwnChunk, Loaded, Walk, ChainsView, Taken}
use Rattle.board_types.specs.Weights.{weigh, each}

-- the number of the link word for the chunk at an address of an arena: main's break, main's pieces, the heaps of the others
abbrev pub link_index : Layout → ℕ → ℕ → ℕ
link_index k a at =
    if nat_eq a 0 then (if nat_lt at piece_start then (at - main_start) / 16 else (k.main_max + (at - piece_start)) / 16)
    else (2 * k.main_max + (at - heaps_start)) / 16

-- what that word says
abbrev pub link_at : Layout → List ℕ → ℕ → ℕ → ℕ
link_at k links a at = slice_index links (link_index k a at)

-- From this word on the links give the list, each address followed by what its link says, and 0 at the end.
abbrev pub Spells : (ℕ → ℕ) → List ℕ → ℕ → Type 0
Spells link [] w = w ≡ 0
Spells link (c ∷ cs) w = (w ≡ c) × (c ≢ 0) × Spells link cs (link c)

-- a chunk of this arena
abbrev pub own_chunk : ℕ → Chunk → OwnChunk
own_chunk a c = record { arena = a; chunk = c }

-- 1 for this chunk of this arena
abbrev pub once_own : ℕ → Chunk → OwnChunk → ℕ
once_own a c o = if nat_eq o.arena a then once c o.chunk else 0

-- how often it is there
abbrev pub times_own : ℕ → Chunk → List OwnChunk → ℕ
times_own a c os = weigh (once_own a c) os

-- how often a chunk stands in the list of a bin, the bins being numbered through all arenas
abbrev pub times_at : ℕ → Chunk → ℕ → List ℕ → ℕ
times_at a c i cs =
    if nat_eq (i / 10) a then weigh (λ at. once c (fast_chunk (i % 10) at)) cs else 0

-- the same of lists, the first bin being i
abbrev pub in_lists : ℕ → Chunk → ℕ → List (List ℕ) → ℕ
in_lists a c i lists = each (times_at a c) i lists

-- and of the lists that the holder of an arena took over
abbrev pub in_gathered : ℕ → Chunk → Maybe Taken → List (List ℕ) → ℕ
in_gathered a c None lists = 0
in_gathered a c (Some h) lists = in_lists a c (10 * h.home) lists

-- the front of a list, 0 where it is empty
abbrev pub front : List ℕ → ℕ
front cs = slice_index_or cs 0 0

-- what chains see of a view: what it remembers of chains, and what it holds
abbrev pub Chaining : Type 0
Chaining = ChainsView × Maybe Taken

-- the view holds the home a
abbrev pub is_holder : ℕ → Chaining → Type 0
is_holder a v = (x : HomeValue) × (v.1 ≡ Some (record { home = a; value = x }))

-- the ten bins of an arena
abbrev pub bins_of : ℕ → List (List ℕ) → List (List ℕ)
bins_of a lists = take 10 (drop (10 * a) lists)

-- A walk has come to where it stands: the chain has its head, behind that as many chunks as it passed, and then this one.
abbrev pub IsWalked : List ℕ → Walk → Type 0
IsWalked cs w =
    (before : List ℕ) × (passed : List ℕ) × (rest : List ℕ) × (cs ≡ before ++ (passed ++ rest))
    × (slice_index_or (passed ++ rest) 0 0 ≡ w.head) × (w.passed ≡ weigh (λ x. 1) passed) × (slice_index_or rest 0 0 ≡ w.at)

-- The part of the rule.
pub record Chains (k : Layout) (chains own : List (List ℕ)) (last : List HomeValue) (locks heads links : List ℕ)
    (views : List Chaining) : Type 0 where
  -- chains and private lists, also of arenas that are out
  pub spelled : (i : ℕ) (cs : List ℕ) → get_elem? chains i ≡ some cs → Spells (link_at k links (i / 10)) cs (slice_index heads i)
  pub owned : (i : ℕ) (cs : List ℕ) → get_elem? own i ≡ some cs → Spells (link_at k links (i / 10)) cs (front cs)
  -- at home the fronts are in the record; in a hand the view has the lists
  pub fronts : (a : ℕ) (x : HomeValue) → a < k.records → get_elem? last a ≡ some x → slice_index locks a ≡ 0 →
      map front (bins_of a own) ≡ x.fronts
  pub in_hand : (p a : ℕ) (v : Chaining) → get_elem? views p ≡ some v → is_holder a v → a < k.records → v.0.own ≡ bins_of a own
  -- what was taken over and isn't joined yet
  pub gathered : (p a b : ℕ) (cs : List ℕ) (v : Chaining) → get_elem? views p ≡ some v → is_holder a v →
      get_elem? v.0.gathered b ≡ some cs → Spells (link_at k links a) cs (front cs)
  pub none_gathered : (p : ℕ) (v : Chaining) → get_elem? views p ≡ some v → v.1 ≡ None → v.0.gathered ≡ []
  -- what was pushed was popped, or is in a chain or a private list
  pub pushed : (a : ℕ) (c : Chunk) → weigh (λ v. times_own a c v.0.pushes) views
      ≡ weigh (λ v. times_own a c v.0.pops) views
      + (weigh (λ v. in_gathered a c v.1 v.0.gathered) views + (in_lists a c 0 chains + in_lists a c 0 own))
  -- what a view remembers is still so: a link that it wrote, a head that it loaded as the holder, that head's link, and a walk
  pub written : (p n : ℕ) (c : OwnChunk) (v : Chaining) → get_elem? views p ≡ some v → v.0.written ≡ Some (c, n) →
      link_at k links c.arena c.chunk.at ≡ n
  pub loaded : (p : ℕ) (l : Loaded) (v : Chaining) → get_elem? views p ≡ some v → v.0.loaded ≡ Some l → l.head ≢ 0 →
      is_holder l.arena v →
      (cs : List ℕ) × (get_elem? chains (10 * l.arena + l.bin) ≡ some cs) × (0 < weigh (λ x. if nat_eq x l.head then 1 else 0) cs)
  pub next : (p n : ℕ) (l : Loaded) (v : Chaining) → get_elem? views p ≡ some v → v.0.loaded ≡ Some l → l.next ≡ Some n →
      link_at k links l.arena l.head ≡ n
  pub walks : (p : ℕ) (w : Walk) (v : Chaining) → get_elem? views p ≡ some v → v.0.walk ≡ Some w → is_holder w.arena v →
      (cs : List ℕ) × (get_elem? chains (10 * w.arena + w.bin) ≡ some cs) × IsWalked cs w
  -- bins are below ten
  pub bins : (p : ℕ) (l : Loaded) (v : Chaining) → get_elem? views p ≡ some v → v.0.loaded ≡ Some l → l.bin < 10
  pub walk_bins : (p : ℕ) (w : Walk) (v : Chaining) → get_elem? views p ≡ some v → v.0.walk ≡ Some w → w.bin < 10
