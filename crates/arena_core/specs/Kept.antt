-- How a journal is kept (this project's own): a row for each entry, and the answers of all, one behind the other.
use Rattle.std.specs.Prelude.{◌≡◌, ℕ, ◌+◌, Bool, ◌&&◌, nat_eq, nat_lt, cond, List, [], ◌∷◌, ◌++◌, take, drop, length, Option, Some, None, Vec, vec_len, vec_capacity}
use Rattle.address_space.specs.declared.asks.Ask.{Ask}
use Rattle.address_space.specs.declared.asks.Answer.{Answer}
use Rattle.arena_rules.specs.declared.said.Said.{Said}
use Rattle.arena_rules.specs.declared.said.Said.TheVariants as saids
use Rattle.arena_core.specs.declared.kept.Row.{Row}
use Rattle.arena_core.specs.declared.kept.Told.{Told}
use Rattle.arena_core.specs.declared.kept.Told.TheVariants.{Flag, NonePopped, Popped, NoOwn, Own, Room, Asked, Dial}
use Rattle.arena_core.specs.Arenas.{recorded}
use Rattle.arena_core.specs.Journal.{Recorded}

-- what an answer is kept as
abbrev pub told_of : Said → Told
told_of (saids.Flag up) = Flag up
told_of (saids.Popped None) = NonePopped
told_of (saids.Popped (Some at)) = Popped at
told_of (saids.Own None) = NoOwn
told_of (saids.Own (Some at)) = Own at
told_of (saids.Room there) = Room there
told_of (saids.Asked ask answer) = Asked
told_of (saids.Dial n) = Dial n

-- the ask of an answer, where it is to one
abbrev pub asks_of : Said → List (Ask × Answer)
asks_of (saids.Asked ask answer) = (ask, answer) ∷ []
asks_of s = []

-- the asks among answers, in order
abbrev pub asks_in : List Said → List (Ask × Answer)
asks_in [] = []
asks_in (s ∷ ss) = asks_of s ++ asks_in ss

-- how many asks belong to answers that are kept so
abbrev pub asks_told : List Told → ℕ
asks_told [] = 0
asks_told (Asked ∷ ts) = 1 + asks_told ts
asks_told (t ∷ ts) = asks_told ts

-- the answers that are kept so, with their asks
abbrev pub answers_of : List Told → List (Ask × Answer) → List Said
answers_of [] asks = []
answers_of (Flag up ∷ ts) asks = saids.Flag up ∷ answers_of ts asks
answers_of (NonePopped ∷ ts) asks = saids.Popped None ∷ answers_of ts asks
answers_of (Popped at ∷ ts) asks = saids.Popped (Some at) ∷ answers_of ts asks
answers_of (NoOwn ∷ ts) asks = saids.Own None ∷ answers_of ts asks
answers_of (Own at ∷ ts) asks = saids.Own (Some at) ∷ answers_of ts asks
answers_of (Room there ∷ ts) asks = saids.Room there ∷ answers_of ts asks
answers_of (Asked ∷ ts) [] = []
answers_of (Asked ∷ ts) (a ∷ asks) = saids.Asked a.0 a.1 ∷ answers_of ts asks
answers_of (Dial n ∷ ts) asks = saids.Dial n ∷ answers_of ts asks

-- the entries of rows, each with its answers
abbrev pub entries_of : List Row → List Said → List Recorded
entries_of [] said = []
entries_of (r ∷ rs) said = recorded r.who r.act (take r.answers said) r.ended ∷ entries_of rs (drop r.answers said)

-- how many answers rows have
abbrev pub answers_told : List Row → ℕ
answers_told [] = 0
answers_told (r ∷ rs) = r.answers + answers_told rs

-- There are as many asks as the answers are told of, and as many answers as the rows have: those that are kept, and the last hold's.
pub record AreKept (rows : List Row) (told : List Told) (asks : List (Ask × Answer)) (last : List Said) : Type 0 where
  pub asks_are : asks_told told ≡ length asks
  pub answers_are : answers_told rows ≡ length told + length last

-- A journal: its entries, and for how many there is room: for these, or for these and one more.
pub record JournalValue : Type 0 where
  pub items : List Recorded
  pub capacity : ℕ

-- whether there is room for one more entry: for its row, and the last hold's answers are kept with the others
abbrev pub has_room : {A B G : Type 0} → Vec A G → Vec B G → Bool
has_room rows last = nat_lt (vec_len rows) (vec_capacity rows) && nat_eq (vec_len last) 0

abbrev pub journal_of : {A B G : Type 0} → Vec A G → Vec B G → List Recorded → JournalValue
journal_of rows last entries = record { items = entries; capacity = length entries + cond (has_room rows last) 1 0 }
