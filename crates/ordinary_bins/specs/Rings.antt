-- Links that lead round a bin (this project's own words for glibc's doubly linked bins; a bin's own node is its
-- bin_at). A node is a number: below 127 a bin's own, else the address of a chunk. No public clause cites this file.
use Rattle.std.specs.Prelude.{◌≡◌, ◌≢◌, ℕ, zero, suc, ◌+◌, ◌^◌, ◌<◌, ◌≤◌, nat_eq, nat_lt, List, [], ◌∷◌, Option, Some, None, if◌then◌else◌, map, length}
use Rattle.std.specs.List.{range_with_len}
use Rattle.part_words.specs.Extents.{Extent, IsOpen}
use Rattle.ordinary_bins.specs.Lists.{bin_count, list_at, times_listed}

-- s leads forward to x, and x back to s
pub record Meet (f b : ℕ → ℕ) (s x : ℕ) : Type 0 where
  pub ahead : f s ≡ x
  pub back : b x ≡ s

-- from s over the nodes of a list to e, each step both ways
abbrev pub IsPath : (ℕ → ℕ) → (ℕ → ℕ) → ℕ → List ℕ → ℕ → Type 0
IsPath f b s [] e = Meet f b s e
IsPath f b s (x ∷ xs) e = Meet f b s x × IsPath f b x xs e

-- the nodes from n on before e, as many as the fuel allows
unfoldable pub walk : ℕ → (ℕ → ℕ) → ℕ → ℕ → List ℕ
walk zero f e n = []
walk (suc fuel) f e n = if nat_eq n e then [] else n ∷ walk fuel f e (f n)

-- the list of each of n bins, from its node forward round to it
unfoldable pub walked : ℕ → ℕ → (ℕ → ℕ) → List (List ℕ)
walked fuel n f = map (λ bin. walk fuel f bin (f bin)) (range_with_len 0 n)

-- the lists that the forward links spell: no list has more chunks than there are addresses
abbrev pub lists_of : (ℕ → ℕ) → List (List ℕ)
lists_of f = walked (2 ^ 64 + 1) bin_count f

-- a bin's own node, or a chunk's that has a link word
pub record IsNode (e : Extent) (n : ℕ) : Type 0 where
  pub word : bin_count ≤ n → IsOpen e n

-- where a listed chunk may lie
pub record IsPlace (e : Extent) (n : ℕ) : Type 0 where
  pub high : bin_count ≤ n
  pub fits : n < 2 ^ 64
  pub word : IsOpen e n

-- the links spell these lists forward and back, no chunk stands twice, and one that stands nowhere leads to the node of
-- the bin that is never used
pub record Spells (f b : ℕ → ℕ) (e : Extent) (lists : List (List ℕ)) : Type 0 where
  pub width : length lists ≡ bin_count
  pub unused : list_at 0 lists ≡ []
  pub rings : (bin : ℕ) → bin < bin_count → IsPath f b bin (list_at bin lists) bin
  pub once : (n : ℕ) → times_listed n lists ≤ 1
  pub places : (n : ℕ) → 1 ≤ times_listed n lists → IsPlace e n
  pub idle : (n : ℕ) → bin_count ≤ n → times_listed n lists ≡ 0 → f n ≡ 0

-- one link leads elsewhere
pub record Redirects (f f' : ℕ → ℕ) (node to : ℕ) : Type 0 where
  pub here : f' node ≡ to
  pub others : (n : ℕ) → n ≢ node → f' n ≡ f n

-- a node's neighbours lead past it; its own links may be any
pub record Skips (f b f' b' : ℕ → ℕ) (at : ℕ) : Type 0 where
  pub ahead : f' (b at) ≡ f at
  pub back : b' (f at) ≡ b at
  pub ahead_else : (n : ℕ) → n ≢ b at → n ≢ at → f' n ≡ f n
  pub back_else : (n : ℕ) → n ≢ f at → n ≢ at → b' n ≡ b n

-- a node stands between another one and the one that was behind that
pub record Splices (f b f' b' : ℕ → ℕ) (after at : ℕ) : Type 0 where
  pub ahead : f' after ≡ at
  pub ahead_on : f' at ≡ f after
  pub back : b' (f after) ≡ at
  pub back_on : b' at ≡ after
  pub ahead_else : (n : ℕ) → n ≢ after → n ≢ at → f' n ≡ f n
  pub back_else : (n : ℕ) → n ≢ f after → n ≢ at → b' n ≡ b n

-- a node that is a chunk's
abbrev pub chunk_at_node : ℕ → Option ℕ
chunk_at_node n = if nat_lt n bin_count then None else Some n
