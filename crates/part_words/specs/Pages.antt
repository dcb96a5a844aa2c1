-- Where a part's words stand (this project's own). The words stand in pages, and each page has a code: its kind times so many,
-- plus the number of a slot. By its kind all its words stand side by side in a slot of the whole pages, or one of them, which alone is written,
-- stands in a slot of the lone words, or none is written.
use Rattle.std.specs.Prelude.{◌≡◌, ◌≢◌, ℕ, ◌+◌, ◌*◌, ◌/◌, ◌%◌, ◌<◌, ◌≤◌, ◌^◌, Bool, false, nat_eq, nat_lt, if◌then◌else◌, Option, Some, None, is_some, List, length, map, slice_index}
use Rattle.std.specs.List.{count_by, range_with_len}
use Rattle.part_words.specs.Slots.{Slots, word_in, one_if, times, is_below}

-- how many words a page may have: kinds are below 128 then
pub record IsPageSize (page : ℕ) : Type 0 where
  pub some : 1 < page
  pub few : page ≤ 64

-- where the numbers of slots end, and kinds begin
abbrev pub slots : ℕ
slots = 2 ^ 25

-- the slot of a whole page, which has kind 1
abbrev pub whole_slot : ℕ → Option ℕ
whole_slot code = if nat_eq (code / slots) 1 then Some (code % slots) else None

-- the slot of the word of a page that alone is written: the page has kind page + o, where o is the word's offset
abbrev pub lone_slot : ℕ → ℕ → Option ℕ
lone_slot page code = if nat_lt (code / slots) page then None else Some (code % slots)

-- the word at an offset of a page, by the page's code
abbrev pub page_word : {T : Type 0} → T → ℕ → ℕ → Slots T → Slots T → ℕ → T
page_word unwritten page code lone whole offset =
    if nat_eq (code / slots) 1
    then word_in unwritten page whole.words (code % slots) offset
    else if nat_eq (code / slots) (page + offset)
    then word_in unwritten 1 lone.words (code % slots) 0
    else unwritten

-- the word with a number, by the codes of all pages
abbrev pub word_of : {T : Type 0} → T → ℕ → List ℕ → Slots T → Slots T → ℕ → T
word_of unwritten page codes lone whole n = page_word unwritten page (slice_index codes (n / page)) lone whole (n % page)

-- the words with the numbers below a length
abbrev pub words_in : {T : Type 0} → T → ℕ → ℕ → List ℕ → Slots T → Slots T → List T
words_in unwritten page len codes lone whole = map (word_of unwritten page codes lone whole) (range_with_len 0 len)

abbrev pub is_slot : ℕ → Option ℕ → Bool
is_slot n None = false
is_slot n (Some m) = nat_eq m n

-- how many pages have this slot
abbrev pub held : (ℕ → Option ℕ) → List ℕ → ℕ → ℕ
held slot_of codes n = count_by (λ code. is_slot n (slot_of code)) codes

-- how many have one
abbrev pub holding : (ℕ → Option ℕ) → List ℕ → ℕ
holding slot_of codes = count_by (λ code. is_some (slot_of code)) codes

-- Each slot is one page's, or stands once among the free ones; other numbers are nowhere. So no two pages have the same slot, and
-- no page a free one. There are no more slots than pages, and room for as many as there are pages.
pub record IsPool {T : Type 0} (slot_of : ℕ → Option ℕ) (codes : List ℕ) (pool : Slots T) : Type 0 where
  pub once : (n : ℕ) → held slot_of codes n + times n pool.free ≡ is_below n pool.count
  pub count : pool.count ≡ holding slot_of codes + length pool.free
  pub few : pool.count ≤ length codes
  pub room : length codes ≤ pool.room

-- two words are written
pub record HasTwo {T : Type 0} (unwritten : T) (page : ℕ) (word : ℕ → T) : Type 0 where
  pub first : ℕ
  pub second : ℕ
  pub apart : first ≢ second
  pub first_within : first < page
  pub second_within : second < page
  pub first_written : word first ≢ unwritten
  pub second_written : word second ≢ unwritten

-- a page's kind is below twice its size, and it has no slot without need: a lone word is written, and two words of a whole page are
pub record IsNeeded {T : Type 0} (unwritten : T) (page code : ℕ) (lone whole : Slots T) : Type 0 where
  pub kind : code / slots < page + page
  pub alone : page ≤ code / slots → word_in unwritten 1 lone.words (code % slots) 0 ≢ unwritten
  pub two : code / slots ≡ 1 → HasTwo unwritten page (word_in unwritten page whole.words (code % slots))

pub record IsPaged {T : Type 0} (unwritten : T) (page : ℕ) (codes : List ℕ) (lone whole : Slots T) : Type 0 where
  pub size : IsPageSize page
  pub few : length codes ≤ slots
  pub lone_pool : IsPool (lone_slot page) codes lone
  pub whole_pool : IsPool whole_slot codes whole
  pub needed : (i : ℕ) → IsNeeded unwritten page (slice_index codes i) lone whole

-- the words below a length have pages, each page has one of these words, and no word from there on is written
pub record IsPart {T : Type 0} (unwritten : T) (page len : ℕ) (codes : List ℕ) (lone whole : Slots T) : Type 0 where
  pub paged : IsPaged unwritten page codes lone whole
  pub all : len ≤ page * length codes
  pub tight : page * length codes < len + page
  pub rest : (n : ℕ) → len ≤ n → word_of unwritten page codes lone whole n ≡ unwritten

-- what is known of the slots where one page has this one, or none: that it isn't free, and that there is room
pub record IsIn {T : Type 0} (slot : Option ℕ) (pool : Slots T) : Type 0 where
  pub once : (n : ℕ) → one_if (is_slot n slot) + times n pool.free ≤ is_below n pool.count
  pub few : pool.count ≤ slots
  pub number : pool.count < slots + one_if (is_some slot) + length pool.free
  pub next : pool.count < pool.room + one_if (is_some slot) + length pool.free
  pub back : length pool.free + one_if (is_some slot) ≤ pool.room

-- A page gives its slot back, gets one, or keeps what it has. What stands in the slots of other pages stays.
pub record Trades {T : Type 0} (unwritten : T) (width : ℕ) (slot_of : ℕ → Option ℕ) (code recode : ℕ) (old new : Slots T) : Type 0 where
  pub once : (n : ℕ) → one_if (is_slot n (slot_of recode)) + times n new.free + is_below n old.count
      ≡ one_if (is_slot n (slot_of code)) + times n old.free + is_below n new.count
  pub count : new.count + one_if (is_some (slot_of code)) + length old.free
      ≡ old.count + one_if (is_some (slot_of recode)) + length new.free
  pub grown : old.count < new.count → length new.free ≡ 0
  pub kept : (n x : ℕ) → n < old.count → one_if (is_slot n (slot_of code)) + times n old.free ≡ 0 → x < width
      → word_in unwritten width new.words n x ≡ word_in unwritten width old.words n x
  pub room : old.room ≤ new.room

-- a page gets another code
pub record Recodes {T : Type 0} (unwritten : T) (page code : ℕ) (lone whole : Slots T) (recode : ℕ) (new_lone new_whole : Slots T) : Type 0 where
  pub lone_trade : Trades unwritten 1 (lone_slot page) code recode lone new_lone
  pub whole_trade : Trades unwritten page whole_slot code recode whole new_whole
  pub needed : IsNeeded unwritten page recode new_lone new_whole
