-- Each call leaves a sound book, and what a sound book has room for. Other crates may cite this file.
use Rattle.std.proofs.Common.{◌≡◌, ℕ, zero, suc, ◌+◌, ◌<◌, ◌≤◌, Bool, true, false, cond, ◌&&◌, ◌||◌, List, [], ◌∷◌, length, drop, set, Option, Some, None, ◌⊎◌, inl, inr, refl, sym, ap, subst, ◌∙◌, arith, length-append}
use Rattle.std.specs.Prelude.{◌==◌, nat_lt, slice_get}
use Rattle.std.proofs.lemmas.Bool.Decides.{nat_tests}
use Rattle.chunk_tags.specs.declared.tunables.Tunables.{Tunables}
use Rattle.arena_choice.specs.Numbers.{has, Apart, without, with_second}
use Rattle.arena_choice.specs.Books.{BookValue, IsSound, attached_to, arena_of, numbers_of, first_book, no_arenas}
use Rattle.arena_choice.specs.Choices.{has_number_left, new_number, with_new_number, without_newest_free, with_limit_settled, listed, next_behind, attached_book, reused_book, undone_book, left_book, detached_book, newest_free, own_arena, start_of, new_or_reuse, after_new_or_reuse, choice_from, book_from, choice_of, after_choice, CanAttach, IsUsable}
use Rattle.arena_choice.specs.declared.choice.Choice.TheVariants.{New, Reuse}
use Rattle.arena_choice.proofs.NumberLaws.{same, has_first, has_more, has-append, gone, was_there, Apart-without, length-without, length-without_one, no_more, lowest_not_there, has-with_second, Apart-with_second, length-with_second, behind_in}
use Rattle.arena_choice.proofs.AttachedLaws.{weight, attached-set, attached-get, none_at_first}

-- ---- words on tests

and_right : (a b : Bool) → (a && b) ≡ true → b ≡ true
and_right true b h = h
and_right false b h = absurd cc

or_true : (b : Bool) → (b || true) ≡ true
or_true true = refl
or_true false = refl

cases_lt : (a b : ℕ) → (a < b) ⊎ (b ≤ a)
cases_lt zero zero = inr (omega arith)
cases_lt zero (suc b) = inl (omega arith)
cases_lt (suc a) zero = inr (omega arith)
cases_lt (suc a) (suc b) = elim (cases_lt a b) [ inl lt ↦ inl (omega (arith, lt)) | inr le ↦ inr (omega (arith, le)) ]

or_left : (a b : Bool) → (a || b) ≡ false → a ≡ false
or_left true b h = absurd cc
or_left false b h = refl

or_right : (a b : Bool) → (a || b) ≡ false → b ≡ false
or_right true b h = absurd cc
or_right false b h = h

left_only : (t : Bool) → (t || false) ≡ true → t ≡ true
left_only true h = refl
left_only false h = absurd cc

weight_at_most_one : (a : ℕ) (x : Option ℕ) → weight a x ≤ 1
weight_at_most_one a None = omega arith
weight_at_most_one a (Some b) = elim (b == a) as (λ t. cond t 1 0 ≤ 1) [ true ↦ omega arith | false ↦ omega arith ]

-- what holds of the arena, and of each other one whose count doesn't rise, holds of each
at_each : (P : ℕ → Type 0) (a q : ℕ) → P a → ((a == q) ≡ false → P q) → P q
at_each P a q here there =
    let go : (t : Bool) → (a == q) ≡ t → P q = elim [
      | true ↦ λ e. subst P (same a q e) here
      | false ↦ λ e. there e
    ] in
    go (a == q) refl

-- another arena has no more threads than it had
others_stay : (arenas : List (Option ℕ)) (thread a q : ℕ) → (a == q) ≡ false → attached_to q (set arenas thread (Some a)) ≤ attached_to q arenas
others_stay arenas thread a q ne =
    let none : weight q (Some a) ≡ 0 = ap (λ t. cond t 1 0) ne in
    omega (arith, none, attached-set q arenas thread (Some a))

one_more : (arenas : List (Option ℕ)) (thread a : ℕ) → attached_to a arenas ≡ 0 → attached_to a (set arenas thread (Some a)) ≤ 1
one_more arenas thread a none = omega (arith, none, weight_at_most_one a (Some a), attached-set a arenas thread (Some a))

-- a number that was taken out of a list isn't one that still is there
not_gone : (a q : ℕ) (xs : List ℕ) → has q (without a xs) ≡ true → (a == q) ≡ false
not_gone a q xs h =
    let go : (t : Bool) → (a == q) ≡ t → t ≡ false = elim [
      | true ↦ λ e. let no : has q (without a xs) ≡ false = subst (λ y. has y (without a xs) ≡ false) (same a q e) (gone a xs) in absurd cc
      | false ↦ λ e. refl
    ] in
    go (a == q) refl

-- ---- as a book begins

pub sound_first : (records : ℕ) → 1 ≤ records → records ≤ 64 → IsSound (first_book records)
sound_first records one most = record {
  main = refl;
  list = (refl, tt);
  attached = λ a h. at_each (λ q. 0 < attached_to q (set no_arenas 0 (Some 0)) → has q (0 ∷ []) ≡ true) 0 a (λ _. refl) (λ ne more. let none : ⊥ = omega (arith, more, others_stay no_arenas 0 0 a ne, none_at_first a) in absurd none) h;
  kept = tt;
  outside = λ a h. absurd cc;
  free = tt;
  free_listed = λ a h. absurd cc;
  free_idle = λ a h. absurd cc;
  number = omega arith;
  records = most;
  alone = λ e a. omega (arith, weight_at_most_one a (Some 0), attached-set a no_arenas 0 (Some 0), none_at_first a);
  next = λ a e. absurd cc;
}

-- ---- choosing

pub sound_limit : (b : BookValue) (limit : ℕ) → IsSound b → IsSound (record b { limit = limit })
sound_limit b limit s = record {
  main = s.main;
  list = s.list;
  attached = s.attached;
  kept = s.kept;
  outside = s.outside;
  free = s.free;
  free_listed = s.free_listed;
  free_idle = s.free_idle;
  number = s.number;
  records = s.records;
  alone = s.alone;
  next = s.next;
}

-- a free list without some of its arenas
less_free : (b : BookValue) (free : List ℕ) → IsSound b → Apart free → ((q : ℕ) → has q free ≡ true → has q b.free ≡ true) → IsSound (record b { free = free })
less_free b free s apart among = record {
  main = s.main;
  list = s.list;
  attached = s.attached;
  kept = s.kept;
  outside = s.outside;
  free = apart;
  free_listed = λ q h. s.free_listed q (among q h);
  free_idle = λ q h. s.free_idle q (among q h);
  number = s.number;
  records = s.records;
  alone = s.alone;
  next = s.next;
}

Apart-rest : (xs : List ℕ) → Apart xs → Apart (drop 1 xs)
Apart-rest [] h = tt
Apart-rest (x ∷ xs) h = h.1

rest_among : (xs : List ℕ) (q : ℕ) → has q (drop 1 xs) ≡ true → has q xs ≡ true
rest_among [] q h = h
rest_among (x ∷ xs) q h = has_more q x xs h

pub sound_without_newest_free : (b : BookValue) → IsSound b → IsSound (without_newest_free b)
sound_without_newest_free b s = less_free b (drop 1 b.free) s (Apart-rest b.free s.free) (rest_among b.free)

-- kept numbers that are fewer
fewer_kept : (b : BookValue) (kept : List ℕ) → IsSound b → Apart kept → ((q : ℕ) → has q kept ≡ true → has q b.kept ≡ true) → length kept ≤ length b.kept → IsSound (record b { kept = kept })
fewer_kept b kept s apart among less = record {
  main = s.main;
  list = s.list;
  attached = s.attached;
  kept = apart;
  outside = λ q h. s.outside q (among q h);
  free = s.free;
  free_listed = s.free_listed;
  free_idle = s.free_idle;
  number = omega (arith, s.number, less);
  records = s.records;
  alone = s.alone;
  next = s.next;
}

pub sound_undone : (b : BookValue) (a : ℕ) → IsSound b → IsSound (undone_book b a)
sound_undone b a s = fewer_kept b (without a b.kept) s (Apart-without a b.kept s.kept) (λ q. was_there q a b.kept) (length-without a b.kept)

-- where there is a place for a new arena, the kept numbers have room for one more
pub place_left : (b : BookValue) → has_number_left b ≡ true → length b.list + length b.kept < b.records
place_left b h =
    let below : nat_lt (length (numbers_of b)) b.records ≡ true = and_right (b.limit == 0 || nat_lt (length (numbers_of b)) b.limit) (nat_lt (length (numbers_of b)) b.records) h in
    let lt : length (numbers_of b) < b.records = grind (arith, nat_tests) in
    omega (arith, lt, length-append b.list b.kept)

-- a new number is in neither list
pub new_unlisted : (b : BookValue) → has (new_number b) b.list ≡ false
new_unlisted b =
    or_left (has (new_number b) b.list) (has (new_number b) b.kept) (sym (has-append (new_number b) b.list b.kept) ∙ lowest_not_there (numbers_of b))

pub new_unkept : (b : BookValue) → has (new_number b) b.kept ≡ false
new_unkept b =
    or_right (has (new_number b) b.list) (has (new_number b) b.kept) (sym (has-append (new_number b) b.list b.kept) ∙ lowest_not_there (numbers_of b))

pub sound_with_new_number : (b : BookValue) → IsSound b → has_number_left b ≡ true → IsSound (with_new_number b)
sound_with_new_number b s place = record {
  main = s.main;
  list = s.list;
  attached = s.attached;
  kept = (new_unkept b, s.kept);
  outside = λ q h. at_each (λ y. has y (new_number b ∷ b.kept) ≡ true → has y b.list ≡ false) (new_number b) q (λ _. new_unlisted b) (λ ne had. s.outside q (sym (ap (λ t. t || has q b.kept) ne) ∙ had)) h;
  free = s.free;
  free_listed = s.free_listed;
  free_idle = s.free_idle;
  number = omega (arith, place_left b place);
  records = s.records;
  alone = s.alone;
  next = s.next;
}

-- main is in the list
main_in : (xs : List ℕ) → slice_get xs 0 ≡ Some 0 → has 0 xs ≡ true
main_in [] h = absurd cc
main_in (x ∷ xs) h = let e : x ≡ 0 = cc in subst (λ y. has 0 (y ∷ xs) ≡ true) (sym e) refl

first_free : (xs : List ℕ) (a : ℕ) → slice_get xs 0 ≡ Some a → has a xs ≡ true
first_free [] a e = absurd cc
first_free (x ∷ xs) a e = let is : x ≡ a = cc in subst (λ y. has a (y ∷ xs) ≡ true) (sym is) (has_first a xs)

-- an arena that isn't in the list has no thread
unlisted_idle : (b : BookValue) (a : ℕ) → IsSound b → has a b.list ≡ false → attached_to a b.arenas ≡ 0
unlisted_idle b a s out =
    elim (cases_lt 0 (attached_to a b.arenas)) [
      | inl more ↦ let yes : has a b.list ≡ true = s.attached a more in absurd cc
      | inr none ↦ omega (arith, none)
    ]

new_usable : (b : BookValue) → IsSound b → IsUsable (with_new_number b) (New (new_number b))
new_usable b s =
    let can : CanAttach (with_new_number b) (new_number b) = record {
      known = ap (λ t. has (new_number b) b.list || t) (has_first (new_number b) b.kept) ∙ or_true (has (new_number b) b.list);
      idle = unlisted_idle b (new_number b) s (new_unlisted b);
    } in
    (can, has_first (new_number b) b.kept)

start_usable : (b : BookValue) (next : Option ℕ) → IsSound b → b.next ≡ next → has (start_of next) b.list ≡ true
start_usable b None s e = main_in b.list s.main
start_usable b (Some a) s e = s.next a e

new_or_reuse_usable : (b : BookValue) → IsSound b → IsUsable (after_new_or_reuse b) (new_or_reuse b)
new_or_reuse_usable b s =
    elim (has_number_left b) as (λ t. IsUsable (cond t (with_new_number b) b) (cond t (New (new_number b)) (Reuse (start_of b.next)))) [
      | true ↦ new_usable b s
      | false ↦ start_usable b b.next s refl
    ]

-- what is chosen may be used
pub usable_from : (own free : Option ℕ) (t : Tunables) (b : BookValue) → IsSound b → ((a : ℕ) → own ≡ Some a → has a b.list ≡ true) → newest_free b ≡ free → IsUsable (book_from own free t b) (choice_from own free (with_limit_settled t b))
usable_from (Some a) free t b s mine e = mine a refl
usable_from None (Some a) t b s mine e =
    let there : has a b.free ≡ true = first_free b.free a e in
    record { known = ap (λ y. y || has a b.kept) (s.free_listed a there); idle = s.free_idle a there }
usable_from None None t b s mine e = new_or_reuse_usable (with_limit_settled t b) (sound_limit b (with_limit_settled t b).limit s)

own_listed : (b : BookValue) (thread : ℕ) (fresh : Bool) (a : ℕ) → IsSound b → own_arena b thread fresh ≡ Some a → has a b.list ≡ true
own_listed b thread true a s e = absurd cc
own_listed b thread false a s e = s.attached a (attached-get a b.arenas thread e)

pub choice_usable : (b : BookValue) (thread : ℕ) (fresh : Bool) (t : Tunables) → IsSound b → IsUsable (after_choice b thread fresh t) (choice_of b thread fresh t)
choice_usable b thread fresh t s = usable_from (own_arena b thread fresh) (newest_free b) t b s (λ a. own_listed b thread fresh a s) refl

-- ---- getting an arena

main_first : (a : ℕ) (xs : List ℕ) → slice_get xs 0 ≡ Some 0 → slice_get (with_second a xs) 0 ≡ Some 0
main_first a [] h = absurd cc
main_first a (x ∷ xs) h = h

-- what was in the list still is
in_second : (a q : ℕ) (xs : List ℕ) → has q xs ≡ true → has q (with_second a xs) ≡ true
in_second a q xs h = has-with_second q a xs ∙ has_more q a xs h

-- a kept number comes into the list
newly_listed : (b : BookValue) (a : ℕ) → IsSound b → has a b.kept ≡ true → IsSound (record b { list = with_second a b.list; kept = without a b.kept })
newly_listed b a s had = record {
  main = main_first a b.list s.main;
  list = Apart-with_second a b.list (s.outside a had) s.list;
  attached = λ q h. in_second a q b.list (s.attached q h);
  kept = Apart-without a b.kept s.kept;
  outside = λ q h. has-with_second q a b.list ∙ ap (λ t. t || has q b.list) (not_gone a q b.kept h) ∙ s.outside q (was_there q a b.kept h);
  free = s.free;
  free_listed = λ q h. in_second a q b.list (s.free_listed q h);
  free_idle = s.free_idle;
  number = omega (arith, s.number, length-with_second a b.list, length-without_one a b.kept had);
  records = s.records;
  alone = s.alone;
  next = λ q e. in_second a q b.list (s.next q e);
}

pub sound_listed : (b : BookValue) (a : ℕ) → IsSound b → IsSound (record b { list = listed b a; kept = without a b.kept })
sound_listed b a s =
    let go : (t : Bool) → has a b.kept ≡ t → IsSound (record b { list = cond t (with_second a b.list) b.list; kept = without a b.kept }) = elim [
      | true ↦ λ e. newly_listed b a s e
      | false ↦ λ e. sound_undone b a s
    ] in
    go (has a b.kept) refl

-- an arena of the list or a kept number is in the list then
pub in_listed : (b : BookValue) (a : ℕ) → (has a b.list || has a b.kept) ≡ true → has a (listed b a) ≡ true
in_listed b a known =
    let go : (t : Bool) → (has a b.list || t) ≡ true → has a (cond t (with_second a b.list) b.list) ≡ true = elim [
      | true ↦ λ h. has-with_second a a b.list ∙ has_first a b.list
      | false ↦ λ h. left_only (has a b.list) h
    ] in
    go (has a b.kept) known

-- a kept number leaves room in the list
pub list_has_room : (b : BookValue) (a : ℕ) → IsSound b → has a b.kept ≡ true → length b.list < b.records
list_has_room b a s had = omega (arith, s.number, length-without_one a b.kept had)

-- a thread gets an arena of the list
pub sound_with_thread : (b : BookValue) (thread a : ℕ) → IsSound b → has a b.list ≡ true → (b.next ≡ None → attached_to a b.arenas ≡ 0) → IsSound (record b { free = without a b.free; arenas = set b.arenas thread (Some a) })
sound_with_thread b thread a s known idle = record {
  main = s.main;
  list = s.list;
  attached = λ q h. at_each (λ y. 0 < attached_to y (set b.arenas thread (Some a)) → has y b.list ≡ true) a q (λ _. known) (λ ne more. s.attached q (omega (arith, more, others_stay b.arenas thread a q ne))) h;
  kept = s.kept;
  outside = s.outside;
  free = Apart-without a b.free s.free;
  free_listed = λ q h. s.free_listed q (was_there q a b.free h);
  free_idle = λ q h. omega (arith, s.free_idle q (was_there q a b.free h), others_stay b.arenas thread a q (not_gone a q b.free h));
  number = s.number;
  records = s.records;
  alone = λ e q. at_each (λ y. attached_to y (set b.arenas thread (Some a)) ≤ 1) a q (one_more b.arenas thread a (idle e)) (λ ne. omega (arith, s.alone e q, others_stay b.arenas thread a q ne));
  next = s.next;
}

pub sound_attached : (b : BookValue) (thread a : ℕ) → IsSound b → CanAttach b a → IsSound (attached_book b thread a)
sound_attached b thread a s can =
    sound_with_thread (record b { list = listed b a; kept = without a b.kept }) thread a (sound_listed b a s) (in_listed b a can.known) (λ _. can.idle)

pub behind_listed : (b : BookValue) (a : ℕ) → IsSound b → has (next_behind b a) b.list ≡ true
behind_listed b a s =
    elim (behind_in 0 a b.list) [
      | inl e ↦ subst (λ y. has y b.list ≡ true) (sym e) (main_in b.list s.main)
      | inr h ↦ h
    ]

sound_next : (b : BookValue) (a : ℕ) → IsSound b → has a b.list ≡ true → IsSound (record b { next = Some a })
sound_next b a s known = record {
  main = s.main;
  list = s.list;
  attached = s.attached;
  kept = s.kept;
  outside = s.outside;
  free = s.free;
  free_listed = s.free_listed;
  free_idle = s.free_idle;
  number = s.number;
  records = s.records;
  alone = λ e. absurd cc;
  next = λ q e. let is : a ≡ q = cc in subst (λ y. has y b.list ≡ true) is known;
}

pub sound_reused : (b : BookValue) (thread a : ℕ) → IsSound b → has a b.list ≡ true → IsSound (reused_book b thread a)
sound_reused b thread a s known =
    sound_with_thread (record b { next = Some (next_behind b a) }) thread a (sound_next b (next_behind b a) s (behind_listed b a s)) known (λ e. absurd cc)

-- ---- leaving an arena

pub sound_left : (b : BookValue) (thread : ℕ) → IsSound b → IsSound (record b { arenas = set b.arenas thread None })
sound_left b thread s = record {
  main = s.main;
  list = s.list;
  attached = λ q h. s.attached q (omega (arith, h, attached-set q b.arenas thread None));
  kept = s.kept;
  outside = s.outside;
  free = s.free;
  free_listed = s.free_listed;
  free_idle = λ q h. omega (arith, s.free_idle q h, attached-set q b.arenas thread None);
  number = s.number;
  records = s.records;
  alone = λ e q. omega (arith, s.alone e q, attached-set q b.arenas thread None);
  next = s.next;
}

-- the arena of a thread is in the list, and isn't free
pub arena_listed : (b : BookValue) (thread a : ℕ) → IsSound b → arena_of b thread ≡ Some a → has a b.list ≡ true
arena_listed b thread a s e = s.attached a (attached-get a b.arenas thread e)

pub arena_not_free : (b : BookValue) (thread a : ℕ) → IsSound b → arena_of b thread ≡ Some a → has a b.free ≡ false
arena_not_free b thread a s e =
    let go : (t : Bool) → has a b.free ≡ t → t ≡ false = elim [
      | true ↦ λ h. let none : ⊥ = omega (arith, s.free_idle a h, attached-get a b.arenas thread e) in absurd none
      | false ↦ λ h. refl
    ] in
    go (has a b.free) refl

-- an arena of the list that isn't free has room on the free list
pub free_has_room : (b : BookValue) (a : ℕ) → IsSound b → has a b.list ≡ true → has a b.free ≡ false → length b.free < b.records
free_has_room b a s known apart =
    let among : (q : ℕ) → has q (a ∷ b.free) ≡ true → has q b.list ≡ true = λ q h. at_each (λ y. has y (a ∷ b.free) ≡ true → has y b.list ≡ true) a q (λ _. known) (λ ne had. s.free_listed q (sym (ap (λ t. t || has q b.free) ne) ∙ had)) h in
    let less : length (a ∷ b.free) ≤ length b.list = no_more (a ∷ b.free) b.list (apart, s.free) among in
    omega (arith, less, s.number)

pub sound_freed : (b : BookValue) (a : ℕ) → IsSound b → has a b.list ≡ true → has a b.free ≡ false → attached_to a b.arenas ≡ 0 → IsSound (record b { free = a ∷ b.free })
sound_freed b a s known apart idle = record {
  main = s.main;
  list = s.list;
  attached = s.attached;
  kept = s.kept;
  outside = s.outside;
  free = (apart, s.free);
  free_listed = λ q h. at_each (λ y. has y (a ∷ b.free) ≡ true → has y b.list ≡ true) a q (λ _. known) (λ ne had. s.free_listed q (sym (ap (λ t. t || has q b.free) ne) ∙ had)) h;
  free_idle = λ q h. at_each (λ y. has y (a ∷ b.free) ≡ true → attached_to y b.arenas ≡ 0) a q (λ _. idle) (λ ne had. s.free_idle q (sym (ap (λ t. t || has q b.free) ne) ∙ had)) h;
  number = s.number;
  records = s.records;
  alone = s.alone;
  next = s.next;
}

-- ---- a whole choice, and a thread's end

sound_new_or_reuse : (b : BookValue) → IsSound b → IsSound (after_new_or_reuse b)
sound_new_or_reuse b s =
    let go : (t : Bool) → has_number_left b ≡ t → IsSound (cond t (with_new_number b) b) = elim [
      | true ↦ λ place. sound_with_new_number b s place
      | false ↦ λ place. s
    ] in
    go (has_number_left b) refl

sound_from : (own free : Option ℕ) (t : Tunables) (b : BookValue) → IsSound b → IsSound (book_from own free t b)
sound_from (Some a) free t b s = s
sound_from None (Some a) t b s = sound_without_newest_free b s
sound_from None None t b s = sound_new_or_reuse (with_limit_settled t b) (sound_limit b (with_limit_settled t b).limit s)

pub sound_after_choice : (b : BookValue) (thread : ℕ) (fresh : Bool) (t : Tunables) → IsSound b → IsSound (after_choice b thread fresh t)
sound_after_choice b thread fresh t s = sound_from (own_arena b thread fresh) (newest_free b) t b s

sound_end : (b : BookValue) (thread : ℕ) (own : Option ℕ) → IsSound b → arena_of b thread ≡ own → IsSound (left_book b thread own)
sound_end b thread None s e = s
sound_end b thread (Some a) s e =
    let left : BookValue = record b { arenas = set b.arenas thread None } in
    let go : (t : Bool) → (attached_to a left.arenas == 0) ≡ t → IsSound (record left { free = cond t (a ∷ b.free) b.free }) = elim [
      | true ↦ λ none. sound_freed left a (sound_left b thread s) (arena_listed b thread a s e) (arena_not_free b thread a s e) (same (attached_to a left.arenas) 0 none)
      | false ↦ λ some. sound_left b thread s
    ] in
    go (attached_to a left.arenas == 0) refl

pub sound_detached : (b : BookValue) (thread : ℕ) → IsSound b → IsSound (detached_book b thread)
sound_detached b thread s = sound_end b thread (arena_of b thread) s refl
