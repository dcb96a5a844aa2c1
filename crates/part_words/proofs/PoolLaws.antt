-- The slots of pages.
use Rattle.std.proofs.Common.{◌≡◌, ℕ, ◌+◌, ◌-◌, ◌*◌, ◌<◌, ◌≤◌, ◌⊎◌, inl, inr, Bool, true, false, Option, Some, None, List, [], ◌∷◌, length, set, replicate, get_or, eqb, sym, ap, ◌∙◌, refl, arith, zero, suc}
use Rattle.std.proofs.lemmas.Bool.{cases_lt}
use Rattle.std.proofs.lemmas.List.{length-set, length-append, get_or_past, get_or-set_other}
use Rattle.std.proofs.lemmas.List.Folds.{sum_by-replicate}
use Rattle.std.proofs.lemmas.List.Sums.{sum_by-cons, sum_by-append, sum_by-set, get_or-le-sum_by, count_by-le-length}
use Rattle.std.proofs.lemmas.Option.{none-some}
use Rattle.std.specs.Option.{is_some}
use Rattle.part_words.specs.Pages.{slots, is_slot, held, holding, IsPool, IsIn, Trades}
use Rattle.part_words.specs.Parts.{filled}
use Rattle.part_words.specs.Slots.{Slots, word_in, one_if, times, is_below, Reuses, Adds, Sets, Takes, Gives, Widens}
use Rattle.part_words.proofs.Filled.{length_filled}
use Rattle.part_words.proofs.SlotLaws.{times-push, one_yes, below_yes, below_some, below_most, below_next}

one_most : (b : Bool) → one_if b ≤ 1
one_most true = omega arith
one_most false = omega arith

-- how many pages have a slot, where one gets another code
held-set : (slot_of : ℕ → Option ℕ) (cs : List ℕ) (i c n : ℕ) → i < length cs → held slot_of (set cs i c) n + one_if (is_slot n (slot_of (get_or cs i 0))) ≡ held slot_of cs n + one_if (is_slot n (slot_of c))
held-set slot_of cs i c n lt = sum_by-set (λ d. one_if (is_slot n (slot_of d))) cs i c 0 lt

held_here : (slot_of : ℕ → Option ℕ) (cs : List ℕ) (i n : ℕ) → i < length cs → one_if (is_slot n (slot_of (get_or cs i 0))) ≤ held slot_of cs n
held_here slot_of cs i n lt = get_or-le-sum_by (λ d. one_if (is_slot n (slot_of d))) cs i 0 lt

holding-set : (slot_of : ℕ → Option ℕ) (cs : List ℕ) (i c : ℕ) → i < length cs → holding slot_of (set cs i c) + one_if (is_some (slot_of (get_or cs i 0))) ≡ holding slot_of cs + one_if (is_some (slot_of c))
holding-set slot_of cs i c lt = sum_by-set (λ d. one_if (is_some (slot_of d))) cs i c 0 lt

holding_here : (slot_of : ℕ → Option ℕ) (cs : List ℕ) (i : ℕ) → i < length cs → one_if (is_some (slot_of (get_or cs i 0))) ≤ holding slot_of cs
holding_here slot_of cs i lt = get_or-le-sum_by (λ d. one_if (is_some (slot_of d))) cs i 0 lt

holding_most : (slot_of : ℕ → Option ℕ) (cs : List ℕ) → holding slot_of cs ≤ length cs
holding_most slot_of cs = count_by-le-length (λ d. is_some (slot_of d)) cs

-- a page without a slot is one more than those that have one
holding_left : (slot_of : ℕ → Option ℕ) (cs : List ℕ) (i : ℕ) → i < length cs → holding slot_of cs + 1 ≤ length cs + one_if (is_some (slot_of (get_or cs i 0)))
holding_left slot_of [] i lt = absurd (omega arith)
holding_left slot_of (c ∷ cs) zero lt =
    omega (arith, sum_by-cons (λ d. one_if (is_some (slot_of d))) c cs, holding_most slot_of cs)
holding_left slot_of (c ∷ cs) (suc i) lt =
    omega (arith, sum_by-cons (λ d. one_if (is_some (slot_of d))) c cs, holding_left slot_of cs i (omega arith), one_most (is_some (slot_of c)))

-- what one page knows of the slots
pub is_in : {T : Type 0} (slot_of : ℕ → Option ℕ) (cs : List ℕ) (pool : Slots T) (i : ℕ) → IsPool slot_of cs pool → length cs ≤ slots → i < length cs → IsIn (slot_of (get_or cs i 0)) pool
is_in slot_of cs pool i h few lt =
    record {
      once = λ n. omega (arith, h.once n, held_here slot_of cs i n lt);
      few = omega (arith, h.few, few);
      number = omega (arith, h.count, holding_left slot_of cs i lt, few);
      next = omega (arith, h.count, holding_left slot_of cs i lt, h.room);
      back = omega (arith, h.count, holding_here slot_of cs i lt, h.few, h.room);
    }

-- the slots where a page has another code
pub pool_recoded : {T : Type 0} (none : T) (width : ℕ) (slot_of : ℕ → Option ℕ) (cs : List ℕ) (i c : ℕ) (old new : Slots T) → IsPool slot_of cs old → i < length cs → Trades none width slot_of (get_or cs i 0) c old new → IsPool slot_of (set cs i c) new
pool_recoded none width slot_of cs i c old new h lt t =
    let count : new.count ≡ holding slot_of (set cs i c) + length new.free = omega (arith, t.count, h.count, holding-set slot_of cs i c lt) in
    record {
      once = λ n. omega (arith, t.once n, h.once n, held-set slot_of cs i c n lt);
      count = count;
      few = elim (cases_lt (old.count) (new.count)) [
        | inl more ↦ omega (arith, count, t.grown more, holding_most slot_of (set cs i c))
        | inr le ↦ omega (arith, le, h.few, length-set cs i c)
      ];
      room = omega (arith, length-set cs i c, h.room, t.room);
    }

-- two pages don't have one slot
held_both : (slot_of : ℕ → Option ℕ) (cs : List ℕ) (i j n : ℕ) → slot_of 0 ≡ None → i < length cs → j < length cs → (j ≡ i → ⊥) → one_if (is_slot n (slot_of (get_or cs i 0))) + one_if (is_slot n (slot_of (get_or cs j 0))) ≤ held slot_of cs n
held_both slot_of cs i j n empty lt there other =
    let rest = held_here slot_of (set cs i 0) j n (omega (arith, there, length-set cs i 0)) in
    let same = ap (λ c. one_if (is_slot n (slot_of c))) (get_or-set_other cs i j 0 0 other) in
    omega (arith, rest, same, held-set slot_of cs i 0 n lt, ap (λ s. one_if (is_slot n s)) empty)

-- so what stands in another page's slot stays
pub other_kept : {T : Type 0} (none : T) (width : ℕ) (slot_of : ℕ → Option ℕ) (cs : List ℕ) (i j c n x : ℕ) (old new : Slots T) → slot_of 0 ≡ None → IsPool slot_of cs old → i < length cs → Trades none width slot_of (get_or cs i 0) c old new → (j ≡ i → ⊥) → slot_of (get_or cs j 0) ≡ Some n → x < width → word_in none width new.words n x ≡ word_in none width old.words n x
other_kept none width slot_of cs i j c n x old new empty h lt t other has within =
    elim (cases_lt j (length cs)) [
      | inl there ↦
          let both = held_both slot_of cs i j n empty lt there other in
          let mine = ap (λ s. one_if (is_slot n s)) has ∙ one_yes n in
          t.kept n x (below_some n old.count (omega (arith, both, mine, h.once n))) (omega (arith, both, mine, h.once n, below_most n old.count)) within
      | inr past ↦ absurd (none-some n (sym empty ∙ (ap slot_of (sym (get_or_past cs j 0 past)) ∙ has)))
    ]

-- with more pages
pub pool_more : {T : Type 0} (slot_of : ℕ → Option ℕ) (cs : List ℕ) (count : ℕ) (old new : Slots T) → slot_of 0 ≡ None → IsPool slot_of cs old → Widens old new → count ≤ new.room → IsPool slot_of (filled count 0 cs) new
pool_more slot_of cs count old new empty h w room =
    record {
      once = λ n. rw (w.count, w.free) (omega (arith, h.once n, sum_by-append (λ d. one_if (is_slot n (slot_of d))) cs (replicate (count - length cs) 0), sum_by-replicate (λ d. one_if (is_slot n (slot_of d))) (count - length cs) 0, none_times n));
      count = rw (w.count, w.free) (omega (arith, h.count, sum_by-append (λ d. one_if (is_some (slot_of d))) cs (replicate (count - length cs) 0), sum_by-replicate (λ d. one_if (is_some (slot_of d))) (count - length cs) 0, none_some));
      few = rw w.count (omega (arith, h.few, length_filled count 0 cs));
      room = omega (arith, h.room, length_filled count 0 cs, w.room, room);
    }
  where
    none_times : (n : ℕ) → (count - length cs) * one_if (is_slot n (slot_of 0)) ≡ 0
    none_times n = rw empty (omega arith)

    none_some : (count - length cs) * one_if (is_some (slot_of 0)) ≡ 0
    none_some = rw empty (omega arith)

-- a page keeps its slot
pub trades_same : {T : Type 0} (none : T) (width : ℕ) (slot_of : ℕ → Option ℕ) (code recode : ℕ) (pool : Slots T) → slot_of recode ≡ slot_of code → Trades none width slot_of code recode pool pool
trades_same none width slot_of code recode pool e =
    record {
      once = λ n. rw e refl;
      count = rw e refl;
      grown = λ lt. absurd (omega (arith, lt));
      kept = λ n x there others within. refl;
      room = omega arith;
    }

-- where it had none, its code before tells no more
pub trades_from : {T : Type 0} (none : T) (width : ℕ) (slot_of : ℕ → Option ℕ) (code from recode : ℕ) (old new : Slots T) → slot_of code ≡ slot_of from → Trades none width slot_of from recode old new → Trades none width slot_of code recode old new
trades_from none width slot_of code from recode old new e t =
    record {
      once = λ n. rw e (t.once n);
      count = rw e t.count;
      grown = t.grown;
      kept = λ n x there others within. t.kept n x there (rw e at others) within;
      room = t.room;
    }

-- what is another page's, or free, isn't this slot
not_own : (n slot k : ℕ) (s : Option ℕ) → s ≡ Some slot → one_if (is_slot n s) + k ≡ 0 → n ≡ slot → ⊥
not_own n slot k s has zeros e =
    omega (arith, zeros, ap (λ t. one_if (is_slot n t)) has, ap (λ m. one_if (eqb slot m)) e, one_yes slot)

-- a word of the slot that it had is written first
pub trades_after : {T : Type 0} (none : T) (width : ℕ) (slot_of : ℕ → Option ℕ) (code recode slot offset : ℕ) (word : T) (old mid new : Slots T) → slot_of code ≡ Some slot → Sets none width old slot offset word mid → Trades none width slot_of code recode mid new → Trades none width slot_of code recode old new
trades_after none width slot_of code recode slot offset word old mid new has s t =
    record {
      once = λ n. rw (s.count, s.free) at (t.once n);
      count = rw (s.count, s.free) at t.count;
      grown = rw s.count at t.grown;
      kept = λ n x there others within. t.kept n x (rw s.count there) (rw s.free others) within ∙ s.others n x within (λ e f. not_own n slot (times n old.free) (slot_of code) has others e);
      room = omega (arith, t.room, s.room);
    }

-- or a word of the slot that it has got
pub trades_before : {T : Type 0} (none : T) (width : ℕ) (slot_of : ℕ → Option ℕ) (code recode slot offset : ℕ) (word : T) (old mid new : Slots T) → slot_of recode ≡ Some slot → Trades none width slot_of code recode old mid → Sets none width mid slot offset word new → Trades none width slot_of code recode old new
trades_before none width slot_of code recode slot offset word old mid new has t s =
    record {
      once = λ n. rw (s.count, s.free) (t.once n);
      count = rw (s.count, s.free) t.count;
      grown = rw (s.count, s.free) t.grown;
      kept = λ n x there others within. s.others n x within (λ e f. not_own n slot 0 (slot_of recode) has (omega (arith, t.once n, others, below_yes n old.count there, below_most n mid.count)) e) ∙ t.kept n x there others within;
      room = omega (arith, t.room, s.room);
    }

-- it gives its slot back
pub trades_gives : {T : Type 0} (none : T) (width : ℕ) (slot_of : ℕ → Option ℕ) (code recode slot : ℕ) (old new : Slots T) → slot_of code ≡ Some slot → slot_of recode ≡ None → Gives old slot new → Trades none width slot_of code recode old new
trades_gives none width slot_of code recode slot old new has gone g =
    record {
      once = λ n. rw (has, gone, g.count, g.free) (omega (arith, times-push n slot old.free));
      count = rw (has, gone, g.count, g.free) (omega (arith, length-append old.free (slot ∷ [])));
      grown = λ lt. absurd (omega (arith, lt, g.count));
      kept = λ n x there others within. ap (λ l. get_or l (n * width + x) none) g.words;
      room = g.room;
    }

-- or it takes one
pub trades_takes : {T : Type 0} (none : T) (width : ℕ) (slot_of : ℕ → Option ℕ) (code recode slot : ℕ) (old new : Slots T) → slot_of code ≡ None → slot_of recode ≡ Some slot → Takes none width old slot new → Trades none width slot_of code recode old new
trades_takes none width slot_of code recode slot old new gone has t =
    record {
      once = λ n. rw (has, gone) (once n t.way);
      count = rw (has, gone) (count t.way);
      grown = grown t.way;
      kept = λ n x there others within. t.kept n x there within;
      room = t.room;
    }
  where
    once : (n : ℕ) → (Reuses old slot new) ⊎ (Adds old slot new) → one_if (eqb slot n) + times n new.free + is_below n old.count ≡ 0 + times n old.free + is_below n new.count
    once n (inl w) = rw (w.free, w.count) (omega (arith, times-push n slot new.free))
    once n (inr w) = rw (w.free, w.none, w.count, w.next) (omega (arith, below_next n old.count))

    count : (Reuses old slot new) ⊎ (Adds old slot new) → new.count + 0 + length old.free ≡ old.count + 1 + length new.free
    count (inl w) = rw (w.free, w.count) (omega (arith, length-append new.free (slot ∷ [])))
    count (inr w) = rw (w.free, w.none, w.count) (omega arith)

    grown : (Reuses old slot new) ⊎ (Adds old slot new) → old.count < new.count → length new.free ≡ 0
    grown (inl w) lt = absurd (omega (arith, lt, w.count))
    grown (inr w) lt = ap length w.free

-- What one page knows of its own slot: it is there and not free, so that the page may write it and give it back.
pub record IsOwn {T : Type 0} (slot : ℕ) (pool : Slots T) : Type 0 where
  pub there : slot < pool.count
  pub once : times slot pool.free ≡ 0

pub is_own : {T : Type 0} (s : Option ℕ) (slot : ℕ) (pool : Slots T) → IsIn s pool → s ≡ Some slot → IsOwn slot pool
is_own s slot pool h has =
    let mine : one_if (is_slot slot s) ≡ 1 = ap (λ t. one_if (is_slot slot t)) has ∙ one_yes slot in
    record {
      there = below_some slot pool.count (omega (arith, mine, h.once slot));
      once = omega (arith, mine, h.once slot, below_most slot pool.count);
    }

pub may_give : {T : Type 0} (s : Option ℕ) (slot : ℕ) (pool : Slots T) → IsIn s pool → s ≡ Some slot → length pool.free < pool.room
may_give s slot pool h has = omega (arith, h.back, ap (λ t. one_if (is_some t)) has)

-- a slot that is taken is the page's own, and has a number that is small enough
pub own_taken : {T : Type 0} (none : T) (width : ℕ) (s : Option ℕ) (slot : ℕ) (old new : Slots T) → IsIn s old → Takes none width old slot new → IsOwn slot new
own_taken none width s slot old new h t = own t.way
  where
    own : (Reuses old slot new) ⊎ (Adds old slot new) → IsOwn slot new
    own (inl w) =
        let was : times slot old.free ≡ times slot new.free + 1 = ap (times slot) w.free ∙ (times-push slot slot new.free ∙ ap (λ k. times slot new.free + k) (one_yes slot)) in
        record {
          there = omega (arith, w.count, below_some slot old.count (omega (arith, was, h.once slot)));
          once = omega (arith, was, h.once slot, below_most slot old.count);
        }
    own (inr w) = record { there = omega (arith, w.next, w.count); once = ap (times slot) w.free }

pub small_taken : {T : Type 0} (none : T) (width : ℕ) (s : Option ℕ) (slot : ℕ) (old new : Slots T) → IsIn s old → s ≡ None → Takes none width old slot new → slot < slots
small_taken none width s slot old new h gone t = small t.way
  where
    small : (Reuses old slot new) ⊎ (Adds old slot new) → slot < slots
    small (inl w) = omega (arith, (own_taken none width s slot old new h t).there, w.count, h.few)
    small (inr w) = omega (arith, w.next, h.number, ap length w.none, ap (λ u. one_if (is_some u)) gone)

-- and so it is where a word is written
pub own_set : {T : Type 0} (none : T) (width slot n offset : ℕ) (word : T) (old new : Slots T) → IsOwn slot old → Sets none width old n offset word new → IsOwn slot new
own_set none width slot n offset word old new h s =
    record { there = rw s.count h.there; once = rw s.free h.once }
