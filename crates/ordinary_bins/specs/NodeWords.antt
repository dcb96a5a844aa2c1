-- The links of nodes, as they are kept: those of the bins' own nodes apart from those of chunks (this project's own).
-- No public clause cites this file.
use Rattle.std.specs.Prelude.{◌≡◌, ◌≢◌, ℕ, ◌<◌, ◌≤◌, nat_lt, if◌then◌else◌, slice_index_or}
use Rattle.part_words.specs.Extents.{Extent}
use Rattle.part_words.specs.Parts.{word_at, extent_of}
use Rattle.ordinary_bins.specs.Lists.{bin_count, Linked}
use Rattle.ordinary_bins.specs.Rings.{lists_of, Spells}
use Rattle.ordinary_bins.specs.Codes.{node_of}
use Rattle.ordinary_bins.specs.declared.nodes.Links.{Links}
use Rattle.ordinary_bins.specs.declared.nodes.LinkCodes.{LinkCodes}
use Rattle.ordinary_bins.specs.declared.nodes.Nodes.{Nodes}

-- links that lead nowhere: what a word is before it is written
abbrev pub no_codes : LinkCodes
no_codes = record { fd = 0; bk = 0 }

-- the links of a node as they are kept
unfoldable pub codes_at : Nodes → ℕ → LinkCodes
codes_at nodes n =
    if nat_lt n bin_count then slice_index_or nodes.own.items n no_codes else word_at nodes.words no_codes n

-- the node of a code
abbrev pub node_in : Nodes → ℕ → ℕ
node_in nodes code = node_of nodes.base nodes.width code

-- the links of a node
abbrev pub links_at : Nodes → ℕ → Links
links_at nodes n = record { fd = node_in nodes (codes_at nodes n).fd; bk = node_in nodes (codes_at nodes n).bk }

abbrev pub ahead : Nodes → ℕ → ℕ
ahead nodes n = (links_at nodes n).fd

abbrev pub back : Nodes → ℕ → ℕ
back nodes n = (links_at nodes n).bk

-- the addresses that have link words
abbrev pub extent : Nodes → Extent
extent nodes = extent_of nodes.words

-- nodes with other links at one node
pub record Wrote (old new : Nodes) (node : ℕ) (c : LinkCodes) : Type 0 where
  pub here : codes_at new node ≡ c
  pub others : (n : ℕ) → n ≢ node → codes_at new n ≡ codes_at old n
  pub base : new.base ≡ old.base
  pub width : new.width ≡ old.width

-- each bin's node leads to itself, and no chunk's leads anywhere
pub record IsFresh (nodes : Nodes) : Type 0 where
  pub own : (n : ℕ) → n < bin_count → (ahead nodes n ≡ n) × (back nodes n ≡ n)
  pub chunks : (n : ℕ) → bin_count ≤ n → ahead nodes n ≡ 0

-- the lists that the links spell
abbrev pub linked_of : Nodes → Linked
linked_of nodes = record { lists = lists_of (ahead nodes); extent = extent nodes }

abbrev pub AreLinked : Nodes → Type 0
AreLinked nodes = Spells (ahead nodes) (back nodes) (extent nodes) (lists_of (ahead nodes))
