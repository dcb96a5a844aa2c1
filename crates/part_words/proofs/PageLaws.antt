-- Words in pages, read and written.
use Rattle.std.proofs.Common.{◌≡◌, ℕ, ◌+◌, ◌-◌, ◌*◌, ◌/◌, ◌%◌, ◌<◌, ◌≤◌, max, List, [], ◌++◌, length, take, replicate, get_or, set, sym, ap, ◌∙◌, refl, inl, inr, arith}
use Rattle.std.proofs.lemmas.Bool.{cases_eq, cases_lt}
use Rattle.std.proofs.lemmas.List.{length-set, set-get_or, take_all, get_or_past, get_or-set_same, get_or-set_other, ext_get_or, get_or_default}
use Rattle.std.proofs.lemmas.List.FromFn.{length-map-range_with_len, get_or-map-range_with_len}
use Rattle.std.proofs.Math.Nat.{mod-lt, mul_comm, mul-le-mul_left, div-lt_iff_lt-mul}
use Rattle.std.proofs.lemmas.Grind.{div_ceil_times}
use Rattle.std.specs.Int.{div_ceil}
use Rattle.std.specs.Prelude.{Result, Ok, Err, OnErr}
use Rattle.part_words.specs.Pages.{slots, IsPageSize, whole_slot, lone_slot, page_word, word_of, words_in, HasTwo, IsIn, IsNeeded, IsPaged, IsPart, Recodes}
use Rattle.part_words.specs.Parts.{filled}
use Rattle.part_words.specs.Slots.{Slots, word_in, Widens}
use Rattle.part_words.proofs.CodeLaws.{whole_some, lone_some, lone_none, word_whole, word_lone, word_none}
use Rattle.part_words.proofs.Filled.{get_or-filled, length_filled}
use Rattle.part_words.proofs.SlotLaws.{below_no}
use Rattle.part_words.proofs.WordLaws.{same_number}
use Rattle.part_words.proofs.PoolLaws.{pool_recoded, pool_more, other_kept, is_in, IsOwn, is_own}

-- a list that is resized to no less than it has
pub resized : {T : Type 0} (vs ws : List T) (n k m : ℕ) (x : T) → vs ≡ ws → length ws ≤ k → k ≡ length ws + (n - length ws) → m ≡ k - length ws → take k vs ++ replicate m x ≡ filled n x ws
resized vs ws n k m x e long is more =
    let few : m ≡ n - length ws = omega (arith, is, more) in
    rw (few, e, take_all k ws long) refl

-- the page of a word that is open
pub page_below : (page n len count : ℕ) → 1 < page → n < len → len ≤ page * count → n / page < count
page_below page n len count some lt le =
    (div-lt_iff_lt-mul (omega (arith, some))).1 (omega (arith, lt, le, mul_comm page count))

-- the pages of so many words
pub pages_for : (page n count : ℕ) → 1 < page → count ≡ div_ceil n page → (n ≤ page * count) × (page * count < n + page)
pages_for page n count some e =
    let h = div_ceil_times n page (omega (arith, some)) in
    rw e (omega (arith, h.0, mul_comm page (div_ceil n page)), omega (arith, h.1, mul_comm page (div_ceil n page)))

-- what a page's slot has, where another page gets another code
whole_kept : {T : Type 0} (none : T) (page : ℕ) (cs : List ℕ) (lone l whole w : Slots T) (i j c x : ℕ) → IsPaged none page cs lone whole → i < length cs → Recodes none page (get_or cs i 0) lone whole c l w → (j ≡ i → ⊥) → get_or cs j 0 / slots ≡ 1 → x < page → word_in none page w.words (get_or cs j 0 % slots) x ≡ word_in none page whole.words (get_or cs j 0 % slots) x
whole_kept none page cs lone l whole w i j c x h lt r other kind within =
    other_kept none page whole_slot cs i j c (get_or cs j 0 % slots) x whole w refl h.whole_pool lt r.whole_trade other (whole_some (get_or cs j 0) kind) within

lone_kept : {T : Type 0} (none : T) (page : ℕ) (cs : List ℕ) (lone l whole w : Slots T) (i j c : ℕ) → IsPaged none page cs lone whole → i < length cs → Recodes none page (get_or cs i 0) lone whole c l w → (j ≡ i → ⊥) → page ≤ get_or cs j 0 / slots → word_in none 1 l.words (get_or cs j 0 % slots) 0 ≡ word_in none 1 lone.words (get_or cs j 0 % slots) 0
lone_kept none page cs lone l whole w i j c h lt r other kind =
    other_kept none 1 (lone_slot page) cs i j c (get_or cs j 0 % slots) 0 lone l (lone_none page 0 (omega (arith, h.size.some))) h.lone_pool lt r.lone_trade other (lone_some page (get_or cs j 0) kind) (omega arith)

-- two words are written where they read as before
pub two_kept : {T : Type 0} (none : T) (page : ℕ) (f g : ℕ → T) → ((x : ℕ) → x < page → g x ≡ f x) → HasTwo none page f → HasTwo none page g
two_kept none page f g same h =
    record {
      first = h.first;
      second = h.second;
      apart = h.apart;
      first_within = h.first_within;
      second_within = h.second_within;
      first_written = λ e. h.first_written (sym (same h.first h.first_within) ∙ e);
      second_written = λ e. h.second_written (sym (same h.second h.second_within) ∙ e);
    }

needed_other : {T : Type 0} (none : T) (page : ℕ) (cs : List ℕ) (lone l whole w : Slots T) (i j c : ℕ) → IsPaged none page cs lone whole → i < length cs → Recodes none page (get_or cs i 0) lone whole c l w → (j ≡ i → ⊥) → IsNeeded none page (get_or cs j 0) l w
needed_other none page cs lone l whole w i j c h lt r other =
    record {
      kind = (h.needed j).kind;
      alone = λ kind e. (h.needed j).alone kind (sym (lone_kept none page cs lone l whole w i j c h lt r other kind) ∙ e);
      two = λ kind. two_kept none page (word_in none page whole.words (get_or cs j 0 % slots)) (word_in none page w.words (get_or cs j 0 % slots)) (λ x within. whole_kept none page cs lone l whole w i j c x h lt r other kind within) ((h.needed j).two kind);
    }

-- a page gets another code
pub paged_recoded : {T : Type 0} (none : T) (page : ℕ) (cs : List ℕ) (lone l whole w : Slots T) (i c : ℕ) → IsPaged none page cs lone whole → i < length cs → Recodes none page (get_or cs i 0) lone whole c l w → IsPaged none page (set cs i c) l w
paged_recoded none page cs lone l whole w i c h lt r =
    record {
      size = h.size;
      few = rw (length-set cs i c) h.few;
      lone_pool = pool_recoded none 1 (lone_slot page) cs i c lone l h.lone_pool lt r.lone_trade;
      whole_pool = pool_recoded none page whole_slot cs i c whole w h.whole_pool lt r.whole_trade;
      needed = λ j. elim (cases_eq j i) [
        | inl e ↦ rw (e, get_or-set_same cs i c 0 lt) r.needed
        | inr other ↦ rw (get_or-set_other cs i j c 0 other) (needed_other none page cs lone l whole w i j c h lt r other)
      ];
    }

-- the words of the other pages
word_other : {T : Type 0} (none : T) (page : ℕ) (cs : List ℕ) (lone l whole w : Slots T) (i j c x : ℕ) → IsPaged none page cs lone whole → i < length cs → Recodes none page (get_or cs i 0) lone whole c l w → (j ≡ i → ⊥) → x < page → page_word none page (get_or cs j 0) l w x ≡ page_word none page (get_or cs j 0) lone whole x
word_other none page cs lone l whole w i j c x h lt r other within =
    let d = get_or cs j 0 in
    elim (cases_eq (d / slots) 1) [
      | inl kind ↦ word_whole none page d l w x kind ∙ (whole_kept none page cs lone l whole w i j c x h lt r other kind within ∙ sym (word_whole none page d lone whole x kind))
      | inr not_whole ↦ elim (cases_eq (d / slots) (page + x)) [
        | inl kind ↦ word_lone none page d l w x h.size.some kind ∙ (lone_kept none page cs lone l whole w i j c h lt r other (omega (arith, kind)) ∙ sym (word_lone none page d lone whole x h.size.some kind))
        | inr not_lone ↦ word_none none page d l w x not_whole not_lone ∙ sym (word_none none page d lone whole x not_whole not_lone)
      ]
    ]

-- a word is written, and the others of its page stay
pub record Writes {T : Type 0} (none : T) (page code : ℕ) (lone whole : Slots T) (offset : ℕ) (value : T) (recode : ℕ) (l w : Slots T) : Type 0 where
  pub recodes : Recodes none page code lone whole recode l w
  pub written : page_word none page recode l w offset ≡ value
  pub others : (x : ℕ) → x < page → (x ≡ offset → ⊥) → page_word none page recode l w x ≡ page_word none page code lone whole x

pub word_of-written : {T : Type 0} (none : T) (page : ℕ) (cs : List ℕ) (lone l whole w : Slots T) (n c : ℕ) (x : T) → n / page < length cs → Writes none page (get_or cs (n / page) 0) lone whole (n % page) x c l w → word_of none page (set cs (n / page) c) l w n ≡ x
word_of-written none page cs lone l whole w n c x lt r =
    rw (get_or-set_same cs (n / page) c 0 lt) r.written

pub word_of-others : {T : Type 0} (none : T) (page : ℕ) (cs : List ℕ) (lone l whole w : Slots T) (n c : ℕ) (x : T) → IsPaged none page cs lone whole → n / page < length cs → Writes none page (get_or cs (n / page) 0) lone whole (n % page) x c l w → (m : ℕ) → (m ≡ n → ⊥) → word_of none page (set cs (n / page) c) l w m ≡ word_of none page cs lone whole m
word_of-others none page cs lone l whole w n c x h lt r m other =
    elim (cases_eq (m / page) (n / page)) [
      | inl e ↦ rw (e, get_or-set_same cs (n / page) c 0 lt) (r.others (m % page) (mod-lt m (omega (arith, h.size.some))) (λ f. other (same_number page m n e f)))
      | inr elsewhere ↦ rw (get_or-set_other cs (n / page) (m / page) c 0 elsewhere) (word_other none page cs lone l whole w (n / page) (m / page) c (m % page) h lt r.recodes elsewhere (mod-lt m (omega (arith, h.size.some))))
    ]

-- the words of a part, by number
pub get_or-words : {T : Type 0} (none : T) (page len : ℕ) (cs : List ℕ) (lone whole : Slots T) (i : ℕ) → IsPart none page len cs lone whole → get_or (words_in none page len cs lone whole) i none ≡ word_of none page cs lone whole i
get_or-words none page len cs lone whole i h =
    elim (cases_lt i len) [
      | inl lt ↦ get_or-map-range_with_len (word_of none page cs lone whole) 0 len i i none lt (omega arith)
      | inr past ↦ get_or_past (words_in none page len cs lone whole) i none (omega (arith, past, length-map-range_with_len (word_of none page cs lone whole) 0 len)) ∙ sym (h.rest i past)
    ]

pub length-words : {T : Type 0} (none : T) (page len : ℕ) (cs : List ℕ) (lone whole : Slots T) → length (words_in none page len cs lone whole) ≡ len
length-words none page len cs lone whole = length-map-range_with_len (word_of none page cs lone whole) 0 len

-- what a caller sees of a part, who knows it as a list s
pub length-seen : {T : Type 0} (none : T) (page len : ℕ) (cs : List ℕ) (lone whole : Slots T) (s : List T) → words_in none page len cs lone whole ≡ s → length s ≡ len
length-seen none page len cs lone whole s is = ap length (sym is) ∙ length-words none page len cs lone whole

pub get_or-seen : {T : Type 0} (none : T) (page len : ℕ) (cs : List ℕ) (lone whole : Slots T) (s : List T) → words_in none page len cs lone whole ≡ s → IsPart none page len cs lone whole → (n : ℕ) (d : T) → n < length s → get_or s n d ≡ word_of none page cs lone whole n
get_or-seen none page len cs lone whole s is h n d lt =
    get_or_default s n d none lt ∙ (ap (λ l. get_or l n none) (sym is) ∙ get_or-words none page len cs lone whole n h)

-- the code of a page that is read
pub code_read : (cs : List ℕ) (n code : ℕ) → code ≡ get_or cs n code → n < length cs → get_or cs n 0 ≡ code
code_read cs n code e lt = sym (e ∙ get_or_default cs n code 0 lt)

-- so a word reads as its page has it
pub seen_word : {T : Type 0} (none : T) (page len : ℕ) (cs : List ℕ) (lone whole : Slots T) (s : List T) (code n : ℕ) (d : T) → words_in none page len cs lone whole ≡ s → IsPart none page len cs lone whole → n < length s → get_or cs (n / page) 0 ≡ code → get_or s n d ≡ page_word none page code lone whole (n % page)
seen_word none page len cs lone whole s code n d is h lt e =
    get_or-seen none page len cs lone whole s is h n d lt ∙ ap (λ c. page_word none page c lone whole (n % page)) e

-- what a page knows of the slots
pub lone_in : {T : Type 0} (none : T) (page : ℕ) (cs : List ℕ) (lone whole : Slots T) (i code : ℕ) → IsPaged none page cs lone whole → i < length cs → get_or cs i 0 ≡ code → IsIn (lone_slot page code) lone
lone_in none page cs lone whole i code h lt e = rw e at (is_in (lone_slot page) cs lone i h.lone_pool h.few lt)

pub whole_in : {T : Type 0} (none : T) (page : ℕ) (cs : List ℕ) (lone whole : Slots T) (i code : ℕ) → IsPaged none page cs lone whole → i < length cs → get_or cs i 0 ≡ code → IsIn (whole_slot code) whole
whole_in none page cs lone whole i code h lt e = rw e at (is_in whole_slot cs whole i h.whole_pool h.few lt)

pub lone_own : {T : Type 0} (page : ℕ) (lone : Slots T) (code : ℕ) → IsIn (lone_slot page code) lone → page ≤ code / slots → IsOwn (code % slots) lone
lone_own page lone code h kind = is_own (lone_slot page code) (code % slots) lone h (lone_some page code kind)

pub whole_own : {T : Type 0} (whole : Slots T) (code : ℕ) → IsIn (whole_slot code) whole → code / slots ≡ 1 → IsOwn (code % slots) whole
whole_own whole code h kind = is_own (whole_slot code) (code % slots) whole h (whole_some code kind)

-- and where a page gets the code that it has
pub code_kept : (cs : List ℕ) (n code recode : ℕ) → get_or cs n 0 ≡ code → recode ≡ code → set cs n recode ≡ cs
code_kept cs n code recode e same = ap (set cs n) (same ∙ sym e) ∙ set-get_or cs n 0

pub on_err : {T E P : Type 0} (r : Result T E) → P → OnErr r P
on_err (Ok u) p = tt
on_err (Err e) p = p

-- a part of which a word was written
pub part_written : {T : Type 0} (none : T) (page len : ℕ) (cs : List ℕ) (lone l whole w : Slots T) (n c : ℕ) (x : T) → IsPart none page len cs lone whole → n < len → n / page < length cs → Writes none page (get_or cs (n / page) 0) lone whole (n % page) x c l w → IsPart none page len (set cs (n / page) c) l w
part_written none page len cs lone l whole w n c x h below lt r =
    let count = length-set cs (n / page) c in
    record {
      paged = paged_recoded none page cs lone l whole w (n / page) c h.paged lt r.recodes;
      all = rw count h.all;
      tight = rw count h.tight;
      rest = λ m past. word_of-others none page cs lone l whole w n c x h.paged lt r m (λ e. omega (arith, e, past, below)) ∙ h.rest m past;
    }

-- and what a caller sees of it
pub seen_written : {T : Type 0} (none : T) (page len : ℕ) (cs : List ℕ) (lone l whole w : Slots T) (n c : ℕ) (x : T) (s : List T) → words_in none page len cs lone whole ≡ s → IsPart none page len cs lone whole → n < len → n / page < length cs → Writes none page (get_or cs (n / page) 0) lone whole (n % page) x c l w → words_in none page len (set cs (n / page) c) l w ≡ set s n x
seen_written none page len cs lone l whole w n c x s is h below lt r =
    let ds = set cs (n / page) c in
    let old = words_in none page len cs lone whole in
    ext_get_or none (words_in none page len ds l w) (set old n x) (length-words none page len ds l w ∙ (sym (length-words none page len cs lone whole) ∙ sym (length-set old n x))) (λ i there.
    get_or-map-range_with_len (word_of none page ds l w) 0 len i i none (omega (arith, there, length-words none page len ds l w)) (omega arith)
    ∙ elim (cases_eq i n) [
      | inl e ↦ rw e (word_of-written none page cs lone l whole w n c x lt r ∙ sym (get_or-set_same old n x none (omega (arith, below, length-words none page len cs lone whole))))
      | inr other ↦ word_of-others none page cs lone l whole w n c x h.paged lt r i other ∙ (sym (get_or-words none page len cs lone whole i h) ∙ sym (get_or-set_other old n i x none other))
    ])
    ∙ ap (λ ws. set ws n x) is

-- a part without words
pub no_part : {T : Type 0} (none : T) (page : ℕ) (lone whole : Slots T) → IsPageSize page → lone.count ≡ 0 → lone.free ≡ [] → whole.count ≡ 0 → whole.free ≡ [] → IsPart none page 0 [] lone whole
no_part none page lone whole size c f d g =
    record {
      paged = record {
        size = size;
        few = omega arith;
        lone_pool = record { once = λ n. rw (f, c, below_no n 0 (omega arith)) refl; count = rw (f, c) refl; few = omega (arith, c); room = omega arith };
        whole_pool = record { once = λ n. rw (g, d, below_no n 0 (omega arith)) refl; count = rw (g, d) refl; few = omega (arith, d); room = omega arith };
        needed = λ i. record { kind = omega (arith, size.some); alone = λ le. absurd (omega (arith, le, size.some)); two = λ e. absurd (omega (arith, e)) };
      };
      all = omega arith;
      tight = omega (arith, size.some);
      rest = λ n past. word_none none page 0 lone whole (n % page) (λ e. omega (arith, e)) (λ e. omega (arith, e, size.some));
    }

-- with more pages
pub paged_more : {T : Type 0} (none : T) (page : ℕ) (cs : List ℕ) (lone l whole w : Slots T) (count : ℕ) → IsPaged none page cs lone whole → Widens lone l → Widens whole w → count ≤ slots → count ≤ l.room → count ≤ w.room → IsPaged none page (filled count 0 cs) l w
paged_more none page cs lone l whole w count h a b few room_l room_w =
    record {
      size = h.size;
      few = omega (arith, length_filled count 0 cs, h.few, few);
      lone_pool = pool_more (lone_slot page) cs count lone l (lone_none page 0 (omega (arith, h.size.some))) h.lone_pool a room_l;
      whole_pool = pool_more whole_slot cs count whole w refl h.whole_pool b room_w;
      needed = λ i. rw (get_or-filled count 0 cs i) (record {
        kind = (h.needed i).kind;
        alone = rw a.words (h.needed i).alone;
        two = rw b.words (h.needed i).two;
      });
    }

-- more words are opened
word_of-more : {T : Type 0} (none : T) (page : ℕ) (cs : List ℕ) (lone l whole w : Slots T) (count n : ℕ) → l.words ≡ lone.words → w.words ≡ whole.words → word_of none page (filled count 0 cs) l w n ≡ word_of none page cs lone whole n
word_of-more none page cs lone l whole w count n a b = rw (get_or-filled count 0 cs (n / page), a, b) refl

pub part_longer : {T : Type 0} (none : T) (page len end count : ℕ) (cs : List ℕ) (lone l whole w : Slots T) → IsPart none page len cs lone whole → len ≤ end → end ≤ page * count → page * count < end + page → l.words ≡ lone.words → w.words ≡ whole.words → IsPaged none page (filled count 0 cs) l w → IsPart none page end (filled count 0 cs) l w
part_longer none page len end count cs lone l whole w h le enough tight a b paged =
    record {
      paged = paged;
      all = rw (length_filled count 0 cs) (omega (arith, enough, mul-le-mul_left page (le_max count (length cs))));
      tight = rw (length_filled count 0 cs) (most count (length cs) tight h.tight);
      rest = λ n past. word_of-more none page cs lone l whole w count n a b ∙ h.rest n (omega (arith, le, past));
    }
  where
    le_max : (m n : ℕ) → m ≤ max m n
    le_max m n = omega arith

    most : (m n : ℕ) → page * m < end + page → page * n < len + page → page * max m n < end + page
    most m n mine old =
        elim (cases_lt m n) [
          | inl lt ↦ let e : max m n ≡ n = omega (arith, lt) in rw e (omega (arith, old, le))
          | inr ge ↦ let e : max m n ≡ m = omega (arith, ge) in rw e mine
        ]

pub seen_longer : {T : Type 0} (none : T) (page len end count : ℕ) (cs : List ℕ) (lone l whole w : Slots T) (s : List T) → words_in none page len cs lone whole ≡ s → IsPart none page len cs lone whole → len ≤ end → l.words ≡ lone.words → w.words ≡ whole.words → words_in none page end (filled count 0 cs) l w ≡ filled end none s
seen_longer none page len end count cs lone l whole w s is h le a b =
    let ds = filled count 0 cs in
    let old = words_in none page len cs lone whole in
    ext_get_or none (words_in none page end ds l w) (filled end none old) (omega (arith, le, length-words none page end ds l w, length-words none page len cs lone whole, length_filled end none old)) (λ i lt.
    get_or-map-range_with_len (word_of none page ds l w) 0 end i i none (omega (arith, lt, length-words none page end ds l w)) (omega arith)
    ∙ (word_of-more none page cs lone l whole w count i a b ∙ (sym (get_or-words none page len cs lone whole i h) ∙ sym (get_or-filled end none old i))))
    ∙ ap (filled end none) is
