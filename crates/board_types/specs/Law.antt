-- The rule of a board (this project's own): what the parts say, of one plain state.
use Rattle.std.specs.Prelude.{◌≡◌, ℕ, ◌+◌, ◌*◌, ◌≤◌, ◌<◌, Some, None, List, [], ◌∷◌, map, length, true, false}
use mathlib.Core.Option.{some}
use lib.ListN.{get_elem?}
use Rattle.atomic_table.specs.Table.{State}
use Rattle.board_types.specs.declared.layout.Fixed.{Fixed}
use Rattle.board_types.specs.declared.layout.Layout.{Layout}
use Rattle.board_types.specs.declared.slot.Slot.{Slot}
use Rattle.board_types.specs.Layouts.{window, locks_at, heads_at, trays_at, links_at, link_words, words_of, dials_at, tray_count, IsLaid}
use Rattle.board_types.specs.Views.{ViewValue, HomeValue, HomesView, TraysView, no_told, no_dials, no_trays, no_chains, no_places, no_tuned, no_view}
use Rattle.board_types.specs.Homes.{Homes}
use Rattle.block_names.specs.Blocks.{IsHeld}
use Rattle.chunk_tags.specs.declared.block.Block.{Block}
use Rattle.board_types.specs.Trays.{Tray, Vacant, Claimed, Full, Took, Trays}
use Rattle.board_types.specs.Dials.{Dials, Counting}
use Rattle.board_types.specs.Chains.{Chains, Chaining}
use Rattle.board_types.specs.Places.{Sight, Places}
use Rattle.board_types.specs.TunedWords.{Tuning}

-- what each part sees of a view
abbrev pub homes_of : ViewValue → HomesView
homes_of v = v.homes

abbrev pub trays_of : ViewValue → TraysView
trays_of v = v.trays

abbrev pub dials_of : ViewValue → Counting
dials_of v = (v.dials, v.trays.hand)

abbrev pub chains_of : ViewValue → Chaining
chains_of v = (v.chains, v.homes.holds)

abbrev pub places_of : ViewValue → Sight
places_of v = record { places = v.places; hand = v.trays.hand; holds = v.homes.holds; gathered = v.chains.gathered }

abbrev pub tuned_of : ViewValue → Tuning
tuned_of v = (v.tuned, v.homes.holds)

-- how many words and slots there are: a lock and a slot for each arena and the book, and for each tray
abbrev pub table_words : Layout → ℕ
table_words k = words_of k

abbrev pub table_slots : Layout → ℕ
table_slots k = k.records + 1 + tray_count

-- A block that may lie in a tray: it is held, and mapped or of an arena that there is a record for.
pub record IsPostable (r : ℕ) (b : Block) : Type 0 where
  pub held : IsHeld b
  pub inside : (a : ℕ) → b.arena ≡ Some a → a < r

-- the block of a tray is so
abbrev pub IsTrayed : ℕ → Tray → Type 0
IsTrayed r Vacant = Unit {0}
IsTrayed r (Claimed p b) = IsPostable r b
IsTrayed r (Full b) = IsPostable r b
IsTrayed r (Took b) = IsPostable r b

-- The plain state that words, slots and views stand for: what lay at each home when its lock was last 0, the trays, and the lists that
-- chains and private lists spell, by the number of the bin through all arenas.
pub record Plain : Type 0 where
  pub last : List HomeValue
  pub trays : List Tray
  pub chains : List (List ℕ)
  pub own : List (List ℕ)

-- Words, slots and views stand for this plain state.
pub record Stands (k : Fixed) (s : State Slot ViewValue) (b : Plain) : Type 0 where
  pub wide : (length s.words ≡ table_words k.layout) × (length s.homes ≡ table_slots k.layout)
  -- the parts, each of its windows of the words and slots
  pub homes : Homes k.tunables b.last (window locks_at (k.layout.records + 1) s.words) (window 0 (k.layout.records + 1) s.homes)
      (map homes_of s.views)
  pub trays : Trays b.trays (window (trays_at k.layout) tray_count s.words) (window (k.layout.records + 1) tray_count s.homes)
      (map trays_of s.views)
  pub dials : Dials k.tunables b.trays (window dials_at 6 s.words) (map dials_of s.views)
  pub chains : Chains k.layout b.chains b.own b.last (window locks_at (k.layout.records + 1) s.words)
      (window (heads_at k.layout) (10 * k.layout.records) s.words) (window (links_at k.layout) (link_words k.layout) s.words)
      (map chains_of s.views)
  pub places : Places b.last b.chains b.own b.trays (map places_of s.views)
  -- each pass has what the board was made with
  pub fixed : (p : ℕ) (v : ViewValue) → get_elem? s.views p ≡ some v → v.homes.live ≡ true → v.fixed ≡ k
  -- a view that speaks for nobody holds and has nothing
  pub spent : (p : ℕ) (v : ViewValue) → get_elem? s.views p ≡ some v → v.homes.speaks ≡ [] → v ≡ no_view
  -- what lies in a tray is a chunk, of an arena that there is a record for or mapped
  pub held : (j : ℕ) (t : Tray) → get_elem? b.trays j ≡ some t → IsTrayed k.layout.records t
  pub few : length s.views ≤ 256
  pub laid : IsLaid k.layout
  pub records : k.tunables.records ≡ k.layout.records
  pub counts : (length b.last ≡ k.layout.records + 1) × (length b.trays ≡ tray_count)
      × (length b.chains ≡ 10 * k.layout.records) × (length b.own ≡ 10 * k.layout.records)

-- the rule: there is such a plain state
abbrev pub Lawful : Fixed → State Slot ViewValue → Type 0
Lawful k s = (b : Plain) × Stands k s b

-- what a new pass with the number n knows
abbrev pub newcomer : Fixed → ℕ → ViewValue
newcomer k n = record {
  fixed = k;
  homes = record {
    live = true;
    retired = false;
    number = n;
    speaks = n ∷ [];
    made = 1;
    holds = None;
    added = [];
    own = [];
    lists = [];
  };
  trays = no_trays;
  dials = no_dials;
  chains = no_chains;
  places = no_places;
  tuned = no_tuned;
  told = no_told;
}

-- what the first pass knows once it made one more
abbrev pub enroller : ViewValue → ViewValue
enroller v = record v { homes = record v.homes { made = v.homes.made + 1 } }

-- what the first pass knows of a new board
abbrev pub opener : Fixed → ViewValue
opener k = newcomer k 0
