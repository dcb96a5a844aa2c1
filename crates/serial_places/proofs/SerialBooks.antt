-- What is done at the book leaves the arenas of its list, but where a new one comes into it. Other crates may cite this file.
use Rattle.std.proofs.Common.{◌≡◌, ℕ, zero, suc, ◌+◌, ◌<◌, ◌≤◌, Bool, true, false, cond, ◌||◌, List, [], ◌∷◌, length, Option, Some, None, IsTrue, ◌⊎◌, inl, inr, refl, sym, ap, ◌∙◌, arith, length-append}
use Rattle.std.specs.Prelude.{slice_get, ◌==◌}
use Rattle.chunk_tags.specs.declared.tunables.Tunables.{Tunables}
use Rattle.arena_choice.specs.Numbers.{has, lowest_from, lowest_unused, with_second}
use Rattle.arena_choice.specs.Books.{BookValue, IsSound, attached_to, arena_of, numbers_of}
use Rattle.arena_choice.specs.Choices.{CanAttach, choice_from, choice_of, book_from, own_arena, newest_free, without_newest_free, with_limit_settled, new_number, with_new_number, has_number_left, start_of, listed, left_book}
use Rattle.arena_choice.specs.declared.choice.Choice.{Choice}
use Rattle.arena_choice.specs.declared.choice.Choice.TheVariants.{Attached, Free, New, Reuse}
use Rattle.arena_choice.proofs.BookLaws.{sound_limit, sound_without_newest_free, sound_undone, place_left, new_unlisted, sound_with_new_number, sound_attached, sound_reused, arena_listed, sound_detached}
use Rattle.arena_choice.proofs.NumberLaws.{same, has_first, has_more, has-with_second}
use Rattle.arena_holds.specs.BookChanges.{Chooses, Undoes, Reuses, Leaves, attached_where_free, book_after}
use Rattle.arena_holds.specs.Returning.{IsAllowed}
use Rattle.serial_places.specs.SerialWays.{SerialState, IsWhole, IsOwed, is_there, state_ways}

-- the book has the arenas that it had, and is sound
pub record KeepsList (old new : BookValue) : Type 0 where
  pub list : new.list ≡ old.list
  pub records : new.records ≡ old.records
  pub sound : IsSound new

-- ---- what is known of numbers

-- the first of a list is in it
first_has : (n : ℕ) (xs : List ℕ) → slice_get xs 0 ≡ Some n → has n xs ≡ true
first_has n [] e = absurd cc
first_has n (x ∷ xs) e = let is : x ≡ n = cc in ap (λ y. has n (y ∷ xs)) is ∙ has_first n xs

-- a number of the list isn't kept
not_kept : (b : BookValue) (n : ℕ) → IsSound b → has n b.list ≡ true → has n b.kept ≡ false
not_kept b n s listed =
    let cases : (v : Bool) → has n b.kept ≡ v → v ≡ false = elim [
      | true ↦ λ e. absurd (let out : has n b.list ≡ false = s.outside n e in cc)
      | false ↦ λ e. refl
    ] in
    cases (has n b.kept) refl

-- an arena of the free list
record IsFree (b : BookValue) (n : ℕ) : Type 0 where
  listed : has n b.list ≡ true
  unkept : has n b.kept ≡ false
  may : CanAttach (without_newest_free b) n

free_known : (b : BookValue) (n : ℕ) → IsSound b → newest_free b ≡ Some n → IsFree b n
free_known b n s e =
    let free : has n b.free ≡ true = first_has n b.free e in
    let there : has n b.list ≡ true = s.free_listed n free in
    record {
      listed = there;
      unkept = not_kept b n s there;
      may = record { known = ap (λ v. v || has n b.kept) there; idle = s.free_idle n free };
    }

-- a number that isn't in the list is none of main's
not_main : (b : BookValue) (n : ℕ) → IsSound b → has n b.list ≡ false → 0 < n
not_main b zero s out = absurd (let main : has 0 b.list ≡ true = first_has 0 b.list s.main in cc)
not_main b (suc n) s out = omega arith

lowest_most : (k n : ℕ) (xs : List ℕ) → lowest_from k n xs ≤ n + k
lowest_most zero n xs = omega arith
lowest_most (suc k) n xs = elim (has n xs) as (λ v. cond v (lowest_from k (n + 1) xs) n ≤ n + suc k) [
  | true ↦ omega (arith, lowest_most k (n + 1) xs)
  | false ↦ omega arith
]

new_most : (xs : List ℕ) → lowest_unused xs ≤ length xs
unfolding lowest_unused
new_most xs = omega (arith, lowest_most (length xs) 0 xs)

-- ---- a choice

at_new : (b : BookValue) (thread : ℕ) → IsSound b → (v : Bool) → has_number_left b ≡ v →
    KeepsList b (attached_where_free thread (cond v (New (new_number b)) (Reuse (start_of b.next))) (cond v (with_new_number b) b))
at_new b thread s true e = record { list = refl; records = refl; sound = sound_with_new_number b s e }
at_new b thread s false e = record { list = refl; records = refl; sound = s }

from_choice : (b : BookValue) (thread : ℕ) (own free : Option ℕ) (t : Tunables) → IsSound b → newest_free b ≡ free →
    KeepsList b (attached_where_free thread (choice_from own free (with_limit_settled t b)) (book_from own free t b))
from_choice b thread (Some a) free t s e = record { list = refl; records = refl; sound = s }
from_choice b thread None (Some a) t s e =
    let f : IsFree b a = free_known b a s e in
    record {
      list = ap (λ v. cond v (with_second a b.list) b.list) f.unkept;
      records = refl;
      sound = sound_attached (without_newest_free b) thread a (sound_without_newest_free b s) f.may;
    }
from_choice b thread None None t s e =
    let c : BookValue = with_limit_settled t b in
    let k = at_new c thread (sound_limit b c.limit s) (has_number_left c) refl in
    record { list = k.list; records = k.records; sound = k.sound }

pub chooses : (b : BookValue) (thread : ℕ) (fresh : Bool) (t : Tunables) → IsSound b → KeepsList b (book_after t (Chooses thread fresh) b)
chooses b thread fresh t s = from_choice b thread (own_arena b thread fresh) (newest_free b) t s refl

pub undoes : (b : BookValue) (n : ℕ) (t : Tunables) → IsSound b → KeepsList b (book_after t (Undoes n) b)
undoes b n t s = record { list = refl; records = refl; sound = sound_undone b n s }

pub reuses : (b : BookValue) (thread n : ℕ) (t : Tunables) → IsSound b → has n b.list ≡ true → KeepsList b (book_after t (Reuses thread n) b)
reuses b thread n t s there = record { list = refl; records = refl; sound = sound_reused b thread n s there }

left_list : (b : BookValue) (thread : ℕ) (own : Option ℕ) → (left_book b thread own).list ≡ b.list
left_list b thread None = refl
left_list b thread (Some a) = refl

left_records : (b : BookValue) (thread : ℕ) (own : Option ℕ) → (left_book b thread own).records ≡ b.records
left_records b thread None = refl
left_records b thread (Some a) = refl

pub leaves : (b : BookValue) (thread : ℕ) (t : Tunables) → IsSound b → KeepsList b (book_after t (Leaves thread) b)
leaves b thread t s = record {
  list = left_list b thread (arena_of b thread);
  records = left_records b thread (arena_of b thread);
  sound = sound_detached b thread s;
}

-- ---- what a choice allows

own_listed : (b : BookValue) (thread : ℕ) (fresh : Bool) (a : ℕ) → IsSound b → own_arena b thread fresh ≡ Some a → has a b.list ≡ true
own_listed b thread true a s e = absurd cc
own_listed b thread false a s e = arena_listed b thread a s e

start_listed : (b : BookValue) (next : Option ℕ) → IsSound b → b.next ≡ next → has (start_of next) b.list ≡ true
start_listed b None s e = first_has 0 b.list s.main
start_listed b (Some a) s e = s.next a e

-- a new number is owed
owed_new : (st : SerialState) (b : BookValue) → IsSound b → b.list ≡ st.book.list → IsWhole st → has_number_left b ≡ true → IsOwed (record st { book = with_new_number b }) (new_number b)
owed_new st b s list w place =
    let n : ℕ = new_number b in
    let out : has n b.list ≡ false = new_unlisted b in
    let kept : has n (n ∷ b.kept) ≡ true = has_first n b.kept in
    let none : (k : ℕ) → attached_to n b.arenas ≡ k → k ≡ 0 = elim [
      | zero ↦ λ e. refl
      | suc k ↦ λ e. absurd (let there : has n b.list ≡ true = s.attached n (omega (arith, e)) in cc)
    ] in
    record {
      kept = kept;
      may = record { known = ap (λ v. has n b.list || v) kept ∙ ap (λ v. v || true) out; idle = none (attached_to n b.arenas) refl };
      other = not_main b n s out;
      below = omega (arith, new_most (numbers_of b), length-append b.list b.kept, place_left b place, s.records);
      whole = record { main = w.main; listed = λ k h. w.listed k (ap (has k) (sym list) ∙ h) };
    }

-- the arena of a choice is there, or its number is owed
abbrev pub IsUsable : SerialState → Choice → Type 0
IsUsable st (Attached a) = IsTrue (is_there st a)
IsUsable st (Free a) = IsTrue (is_there st a)
IsUsable st (New a) = IsOwed st a
IsUsable st (Reuse start) = IsTrue (is_there st start)

allowed_new : (st : SerialState) (b : BookValue) (thread : ℕ) → IsSound b → b.list ≡ st.book.list → IsWhole st → (v : Bool) → has_number_left b ≡ v →
    let choice : Choice = cond v (New (new_number b)) (Reuse (start_of b.next)) in
    IsUsable (record st { book = attached_where_free thread choice (cond v (with_new_number b) b) }) choice
allowed_new st b thread s list w true e = owed_new st b s list w e
allowed_new st b thread s list w false e = w.listed (start_of b.next) (ap (has (start_of b.next)) (sym list) ∙ start_listed b b.next s refl)

allowed_from : (st : SerialState) (thread : ℕ) (own free : Option ℕ) (t : Tunables) → IsSound st.book → ((a : ℕ) → own ≡ Some a → has a st.book.list ≡ true) → newest_free st.book ≡ free → IsWhole st →
    let choice : Choice = choice_from own free (with_limit_settled t st.book) in
    IsUsable (record st { book = attached_where_free thread choice (book_from own free t st.book) }) choice
allowed_from st thread (Some a) free t s mine e w = w.listed a (mine a refl)
allowed_from st thread None (Some a) t s mine e w = w.listed a (free_known st.book a s e).listed
allowed_from st thread None None t s mine e w =
    let b : BookValue = with_limit_settled t st.book in
    allowed_new st b thread (sound_limit st.book b.limit s) refl w (has_number_left b) refl

pub usable : (st : SerialState) (thread : ℕ) (fresh : Bool) (t : Tunables) → IsSound st.book → IsWhole st →
    IsUsable (record st { book = book_after t (Chooses thread fresh) st.book }) (choice_of st.book thread fresh t)
usable st thread fresh t s w = allowed_from st thread (own_arena st.book thread fresh) (newest_free st.book) t s (λ a. own_listed st.book thread fresh a s) refl w

-- so the choice is allowed
pub allowed_by : (st : SerialState) (choice : Choice) → IsWhole st → IsUsable st choice → IsAllowed state_ways st choice
allowed_by st (Attached a) w u = (w, u)
allowed_by st (Free a) w u = (w, u)
allowed_by st (New a) w u = u
allowed_by st (Reuse start) w u = (w, (u, u))

-- ---- a new arena comes into the list

-- it is none of those that were there
pub new_out : (st : SerialState) (n : ℕ) → IsSound st.book → IsOwed st n → has n st.book.list ≡ false
new_out st n s o = s.outside n o.kept

pub listed_more : (b : BookValue) (n k : ℕ) → has n b.kept ≡ true → has k b.list ≡ true → has k (listed b n) ≡ true
listed_more b n k kept there = ap (λ v. has k (cond v (with_second n b.list) b.list)) kept ∙ (has-with_second k n b.list ∙ has_more k n b.list there)

pub has_cases : (k n : ℕ) (xs : List ℕ) → has k (n ∷ xs) ≡ true → (k ≡ n) ⊎ (has k xs ≡ true)
has_cases k n xs h =
    let go : (v : Bool) → (n == k) ≡ v → (v || has k xs) ≡ true → (k ≡ n) ⊎ (has k xs ≡ true) = elim [
      | true ↦ λ e there. inl (sym (same n k e))
      | false ↦ λ e there. inr there
    ] in
    go (n == k) refl h

pub listed_was : (b : BookValue) (n k : ℕ) → has n b.kept ≡ true → has k (listed b n) ≡ true → (k ≡ n) ⊎ (has k b.list ≡ true)
listed_was b n k kept there =
    has_cases k n b.list (sym (has-with_second k n b.list) ∙ (sym (ap (λ v. has k (cond v (with_second n b.list) b.list)) kept) ∙ there))
