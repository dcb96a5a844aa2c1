-- What is written into a page.
use Rattle.std.proofs.Common.{◌≡◌, ℕ, ◌+◌, ◌-◌, ◌*◌, ◌/◌, ◌%◌, ◌<◌, ◌≤◌, Some, sym, ap, ◌∙◌, inl, inr, arith}
use Rattle.std.proofs.lemmas.Bool.{cases_eq}
use Rattle.part_words.specs.Slots.{Slots, word_in, Sets, Takes, Gives}
use Rattle.part_words.specs.Pages.{slots, lone_slot, whole_slot, page_word, Trades, Recodes}
use Rattle.part_words.proofs.CodeLaws.{whole_some, whole_none, lone_some, lone_none, word_whole, word_lone, word_none}
use Rattle.part_words.proofs.PageLaws.{Writes}
use Rattle.part_words.proofs.PoolLaws.{trades_same, trades_from, trades_after, trades_before, trades_gives, trades_takes}

-- the code of a page with a slot
pub record HasCode (code kind slot : ℕ) : Type 0 where
  pub kind_is : code / slots ≡ kind
  pub slot_is : code % slots ≡ slot

pub has_code : (kind slot : ℕ) → slot < slots → HasCode (kind * slots + slot) kind slot
has_code kind slot lt = record { kind_is = omega (arith, lt); slot_is = omega (arith, lt) }

-- the word that alone is written becomes again as if never written
pub ends : {T : Type 0} (none : T) (page code : ℕ) (lone whole mid l : Slots T) (offset : ℕ) (value : T) → 1 < page → code / slots ≡ page + offset → Sets none 1 lone (code % slots) 0 value mid → Gives mid (code % slots) l → value ≡ none → Writes none page code lone whole offset value 0 l whole
ends none page code lone whole mid l offset value some kind s g unwritten =
    let has = lone_some page code (omega (arith, kind)) in
    record {
      recodes = record {
        lone_trade = trades_after none 1 (lone_slot page) code 0 (code % slots) 0 value lone mid l has s (trades_gives none 1 (lone_slot page) code 0 (code % slots) mid l has (lone_none page 0 (omega (arith, some))) g);
        whole_trade = trades_same none page whole_slot code 0 whole (sym (whole_none code (λ e. omega (arith, e, some, kind))));
        needed = record { kind = omega (arith, some); alone = λ le. absurd (omega (arith, le, some)); two = λ e. absurd (omega (arith, e)) };
      };
      written = word_none none page 0 l whole offset (λ e. omega (arith, e)) (λ e. omega (arith, e, some)) ∙ sym unwritten;
      others = λ x within apart. word_none none page 0 l whole x (λ e. omega (arith, e)) (λ e. omega (arith, e, some)) ∙ sym (word_none none page code lone whole x (λ e. omega (arith, e, some, kind)) (λ e. apart (omega (arith, e, kind))));
    }

-- a whole page may get another code, and no word of it changes
pub record Narrows {T : Type 0} (none : T) (page code : ℕ) (lone whole : Slots T) (recode : ℕ) (l w : Slots T) : Type 0 where
  pub recodes : Recodes none page code lone whole recode l w
  pub words : (x : ℕ) → x < page → page_word none page recode l w x ≡ page_word none page code lone whole x

-- where one word of it is written it has a slot for that one
pub narrows_lone : {T : Type 0} (none : T) (page code recode : ℕ) (lone whole mid l w : Slots T) (first : ℕ) (value : T) → 1 < page → first < page → code / slots ≡ 1 → ((x : ℕ) → x < page → (x ≡ first → ⊥) → word_in none page whole.words (code % slots) x ≡ none) → value ≡ word_in none page whole.words (code % slots) first → (value ≡ none → ⊥) → Sets none page whole (code % slots) first none mid → Gives mid (code % slots) w → recode / slots ≡ page + first → Trades none 1 (lone_slot page) 0 recode lone l → word_in none 1 l.words (recode % slots) 0 ≡ value → Narrows none page code lone whole recode l w
narrows_lone none page code recode lone whole mid l w first value some below kind clear is written s g new_kind t word =
    let has = whole_some code kind in
    record {
      recodes = record {
        lone_trade = trades_from none 1 (lone_slot page) code 0 recode lone l (lone_none page code (omega (arith, some, kind)) ∙ sym (lone_none page 0 (omega (arith, some)))) t;
        whole_trade = trades_after none page whole_slot code recode (code % slots) first none whole mid w has s (trades_gives none page whole_slot code recode (code % slots) mid w has (whole_none recode (λ e. omega (arith, e, some, new_kind))) g);
        needed = record { kind = omega (arith, below, new_kind); alone = λ le e. written (sym word ∙ e); two = λ e. absurd (omega (arith, e, some, new_kind)) };
      };
      words = λ x within. elim (cases_eq x first) [
        | inl e ↦ rw e (word_lone none page recode l w first some new_kind ∙ (word ∙ (is ∙ sym (word_whole none page code lone whole first kind))))
        | inr other ↦ word_none none page recode l w x (λ e. omega (arith, e, some, new_kind)) (λ e. other (omega (arith, e, new_kind))) ∙ sym (word_whole none page code lone whole x kind ∙ clear x within other)
      ];
    }

-- after a word of it was written
pub writes_narrowed : {T : Type 0} (none : T) (page code recode : ℕ) (lone whole mid l w : Slots T) (offset : ℕ) (value : T) → offset < page → code / slots ≡ 1 → Sets none page whole (code % slots) offset value mid → Narrows none page code lone mid recode l w → Writes none page code lone whole offset value recode l w
writes_narrowed none page code recode lone whole mid l w offset value below kind s n =
    record {
      recodes = record {
        lone_trade = n.recodes.lone_trade;
        whole_trade = trades_after none page whole_slot code recode (code % slots) offset value whole mid w (whole_some code kind) s n.recodes.whole_trade;
        needed = n.recodes.needed;
      };
      written = n.words offset below ∙ (word_whole none page code lone mid offset kind ∙ s.here);
      others = λ x within apart. n.words x within ∙ (word_whole none page code lone mid x kind ∙ (s.others (code % slots) x within (λ same. apart) ∙ sym (word_whole none page code lone whole x kind)));
    }

-- a page of one word gets a second
pub record Widening {T : Type 0} (none : T) (page code : ℕ) (lone whole mid l w v u : Slots T) (offset : ℕ) (value word : T) (recode slot : ℕ) : Type 0 where
  pub some : 1 < page
  pub low : page ≤ code / slots
  pub high : code / slots < page + page
  pub other : code / slots ≡ page + offset → ⊥
  pub within : offset < page
  pub is : word ≡ word_in none 1 lone.words (code % slots) 0
  pub word_written : word ≡ none → ⊥
  pub written : value ≡ none → ⊥
  pub cleared : Sets none 1 lone (code % slots) 0 none mid
  pub given : Gives mid (code % slots) l
  pub taken : Takes none page whole slot w
  pub first : Sets none page w slot (code / slots - page) word v
  pub second : Sets none page v slot offset value u
  pub has : HasCode recode 1 slot

abbrev first_of : ℕ → ℕ → ℕ
first_of page code = code / slots - page

first_read : {T : Type 0} (none : T) (page code : ℕ) (lone whole mid l w v u : Slots T) (offset : ℕ) (value word : T) (recode slot : ℕ) → Widening none page code lone whole mid l w v u offset value word recode slot → word_in none page u.words slot (first_of page code) ≡ word
first_read none page code lone whole mid l w v u offset value word recode slot h =
    h.second.others slot (first_of page code) (omega (arith, h.high)) (λ same e. h.other (omega (arith, e, h.low))) ∙ h.first.here

rest_read : {T : Type 0} (none : T) (page code : ℕ) (lone whole mid l w v u : Slots T) (offset : ℕ) (value word : T) (recode slot x : ℕ) → Widening none page code lone whole mid l w v u offset value word recode slot → x < page → (x ≡ offset → ⊥) → (x ≡ first_of page code → ⊥) → word_in none page u.words slot x ≡ none
rest_read none page code lone whole mid l w v u offset value word recode slot x h within apart other =
    h.second.others slot x within (λ same. apart) ∙ (h.first.others slot x within (λ same. other) ∙ h.taken.clear x within)

pub widens : {T : Type 0} (none : T) (page code : ℕ) (lone whole mid l w v u : Slots T) (offset : ℕ) (value word : T) (recode slot : ℕ) → Widening none page code lone whole mid l w v u offset value word recode slot → Writes none page code lone whole offset value recode l u
widens none page code lone whole mid l w v u offset value word recode slot h =
    let kind = h.has.kind_is in
    let has_lone = lone_some page code h.low in
    let has_whole : whole_slot recode ≡ Some slot = whole_some recode kind ∙ ap Some h.has.slot_is in
    let first = first_read none page code lone whole mid l w v u offset value word recode slot h in
    record {
      recodes = record {
        lone_trade = trades_after none 1 (lone_slot page) code recode (code % slots) 0 none lone mid l has_lone h.cleared (trades_gives none 1 (lone_slot page) code recode (code % slots) mid l has_lone (lone_none page recode (omega (arith, h.some, kind))) h.given);
        whole_trade = trades_before none page whole_slot code recode slot offset value whole v u has_whole (trades_before none page whole_slot code recode slot (first_of page code) word whole w v has_whole (trades_takes none page whole_slot code recode slot whole w (whole_none code (λ e. omega (arith, e, h.some, h.low))) has_whole h.taken) h.first) h.second;
        needed = record {
          kind = omega (arith, h.some, kind);
          alone = λ le. absurd (omega (arith, le, h.some, kind));
          two = λ e. rw h.has.slot_is (record {
            first = first_of page code;
            second = offset;
            apart = λ e. h.other (omega (arith, e, h.low));
            first_within = omega (arith, h.high);
            second_within = h.within;
            first_written = λ e. h.word_written (sym first ∙ e);
            second_written = λ e. h.written (sym h.second.here ∙ e);
          });
        };
      };
      written = word_whole none page recode l u offset kind ∙ rw h.has.slot_is h.second.here;
      others = λ x within apart. word_whole none page recode l u x kind ∙ rw h.has.slot_is (elim (cases_eq x (first_of page code)) [
        | inl e ↦ ap (word_in none page u.words slot) e ∙ (first ∙ (h.is ∙ sym (word_lone none page code lone whole x h.some (omega (arith, e, h.low)))))
        | inr other ↦ rest_read none page code lone whole mid l w v u offset value word recode slot x h within apart other ∙ sym (word_none none page code lone whole x (λ e. omega (arith, e, h.some, h.low)) (λ e. other (omega (arith, e, h.low))))
      ]);
    }
