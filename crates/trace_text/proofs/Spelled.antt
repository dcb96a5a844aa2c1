-- A line is read from its spelling, and from no other text.
use Rattle.std.proofs.Common.{◌≡◌, ℕ, ◌^◌, ◌<◌, ◌≤◌, true, false, not, eqb, ◌==◌, List, [], ◌∷◌, ◌++◌, length, map, codes, Ok, Err, refl, sym, ap, subst, ◌∙◌, append_assoc, arith}
use Rattle.std.specs.Fmt.{decimal}
use Rattle.std.specs.Char.{is_ascii_digit}
use Rattle.std.specs.List.{slice_split, join_with_byte, AllByRecursion}
use Rattle.std.proofs.lemmas.Bool.{ne_eqb, not_from_false}
use Rattle.std.proofs.lemmas.Fmt.{decimal_nonempty}
use Rattle.std.proofs.lemmas.List.Elements.{All-weaker}
use Rattle.std.proofs.lemmas.List.Folds.{list_all-append}
use Rattle.std.proofs.lemmas.List.Sums.{AllPass-from_list_all, list_all-from_AllPass}
use Rattle.std.proofs.lemmas.List.Splits.{join_with_byte-slice_split}
use Rattle.trace_text.specs.declared.fault.BadWhy.TheVariants as bad
use Rattle.trace_text.specs.declared.command.Command.{Command}
use Rattle.trace_text.specs.declared.command.Command.TheVariants as command
use Rattle.trace_text.specs.declared.trace.Call.{Call}
use Rattle.trace_text.specs.declared.trace.Call.TheVariants.{Malloc, Calloc, Realloc, Align, Free, Post, Take, Exit}
use Rattle.trace_text.specs.declared.trace.Line.{Line}
use Rattle.trace_text.specs.Before.{has_ended}
use Rattle.trace_text.specs.Grammar.{is_empty, all_filled, fields_of, fault_if, thread_of, command_of, call_read, fitting, place_after, filled_line, line_of}
use Rattle.trace_text.specs.Spelling.{call_spelling, spelling_of, IsCall, Fits}
use Rattle.trace_text.proofs.Numerals.{are_digits}
use Rattle.trace_text.proofs.Digits.{digit_bounds}
use Rattle.trace_text.proofs.Cuts.{Lacks, split_join}
use Rattle.trace_text.proofs.Steps.{bind_ok, guard_ok, no_fault, ok_is, thread_is, thread_again}
use Rattle.trace_text.proofs.Calls.{letter_of, command_again, command_is, command_for, numbers_of, call_is, named_small, call_again}

-- the fields of a line
abbrev pub line_fields : ℕ → Call → List (List ℕ)
line_fields thread call = decimal thread ∷ letter_of (command_for call) ∷ map decimal (numbers_of call)

spelled : (thread : ℕ) (call : Call) → decimal thread ++ codes " " ++ call_spelling call ≡ join_with_byte 32 (line_fields thread call)
spelled thread (Malloc name size) = simp append_assoc
spelled thread (Calloc name n size) = simp append_assoc
spelled thread (Realloc name size) = simp append_assoc
spelled thread (Align name align size) = simp append_assoc
spelled thread (Free name) = simp append_assoc
spelled thread (Post name tray) = simp append_assoc
spelled thread (Take name tray) = simp append_assoc
spelled thread Exit = simp append_assoc

pub spelling_is : (line : Line) → spelling_of line ≡ join_with_byte 32 (line_fields line.thread line.call)
spelling_is line = spelled line.thread line.call

-- ---- what decimals and letters are made of

decimal_lacks : (c n : ℕ) → c < 48 → n < 2 ^ 64 → Lacks c (decimal n)
decimal_lacks c n low h =
    list_all-from_AllPass (λ b. not (eqb b c)) (decimal n)
    (All-weaker (λ b. is_ascii_digit b ≡ true) (λ b. not (eqb b c) ≡ true)
    (λ b digit. let bounds = digit_bounds b digit in not_from_false (eqb b c) (ne_eqb b c (λ is. absurd (omega (arith, bounds, is)))))
    (decimal n) (AllPass-from_list_all is_ascii_digit (decimal n) (are_digits n h)))

letter_is : (k : Command) → Lacks 32 (letter_of k) × Lacks 10 (letter_of k) × (is_empty (letter_of k) ≡ false)
letter_is command.Malloc = (refl, refl, refl)
letter_is command.Calloc = (refl, refl, refl)
letter_is command.Realloc = (refl, refl, refl)
letter_is command.Align = (refl, refl, refl)
letter_is command.Free = (refl, refl, refl)
letter_is command.Post = (refl, refl, refl)
letter_is command.Take = (refl, refl, refl)
letter_is command.Exit = (refl, refl, refl)

filled_from_length : (field : List ℕ) → 0 < length field → is_empty field ≡ false
filled_from_length field some = ne_eqb (length field) 0 (λ none. absurd (omega (arith, none)))

abbrev AllSmall : List ℕ → Type 0
AllSmall ns = AllByRecursion (λ n. n < 2 ^ 64) ns

numbers_small : (version thread : ℕ) (call : Call) → IsCall version thread call → AllSmall (numbers_of call)
numbers_small version thread (Malloc name size) r = (named_small version name r.0, (r.1, tt))
numbers_small version thread (Calloc name n size) r = (named_small version name r.0, (r.1, (r.2, tt)))
numbers_small version thread (Realloc name size) r = (named_small version name r.0, (r.1, tt))
numbers_small version thread (Align name align size) r = (named_small version name r.0, (r.1, (r.2, tt)))
numbers_small version thread (Free name) r = (named_small version name r, tt)
numbers_small version thread (Post name tray) r = (named_small version name r.0, (omega (arith, r.1), tt))
numbers_small version thread (Take name tray) r = (named_small version name r.0, (omega (arith, r.1), tt))
numbers_small version thread Exit r = tt

decimals_filled : (ns : List ℕ) → AllSmall ns → all_filled (map decimal ns) ≡ true
decimals_filled [] h = refl
decimals_filled (n ∷ ns) h = rw (filled_from_length (decimal n) (decimal_nonempty n h.0)) (decimals_filled ns h.1)

decimals_lack : (c : ℕ) (ns : List ℕ) → c < 48 → AllSmall ns → AllByRecursion (Lacks c) (map decimal ns)
decimals_lack c [] low h = tt
decimals_lack c (n ∷ ns) low h = (decimal_lacks c n low h.0, decimals_lack c ns low h.1)

Lacks-join : (c : ℕ) (parts : List (List ℕ)) → eqb 32 c ≡ false → AllByRecursion (Lacks c) parts → Lacks c (join_with_byte 32 parts)
Lacks-join c [] other h = refl
Lacks-join c (part ∷ []) other h = h.0
Lacks-join c (part ∷ next ∷ parts) other h =
    rw (list_all-append (λ b. not (eqb b c)) part (32 ∷ join_with_byte 32 (next ∷ parts)), h.0, other) (Lacks-join c (next ∷ parts) other h.1)

-- ---- the fields of a text

fields_again : (version : ℕ) (line : Line) → line.thread ≤ 63 → IsCall version line.thread line.call → fields_of (spelling_of line) ≡ line_fields line.thread line.call
fields_again version line small range =
    ap (slice_split (λ b. b == 32)) (spelling_is line)
    ∙ split_join 32 (decimal line.thread) (letter_of (command_for line.call) ∷ map decimal (numbers_of line.call))
    (decimal_lacks 32 line.thread (omega arith) (omega arith), ((letter_is (command_for line.call)).0, decimals_lack 32 (numbers_of line.call) (omega arith) (numbers_small version line.thread line.call range)))

-- a spelling has no newline
pub spelling_lacks : (version : ℕ) (before : List Line) (line : Line) → Fits version before line → Lacks 10 (spelling_of line)
spelling_lacks version before line fits =
    let small = fits.thread in
    rw (spelling_is line) (Lacks-join 10 (line_fields line.thread line.call) refl
    (decimal_lacks 10 line.thread (omega arith) (omega arith), ((letter_is (command_for line.call)).1, decimals_lack 10 (numbers_of line.call) (omega arith) (numbers_small version line.thread line.call fits.call))))

-- no field of a line is empty
fields_filled : (version thread : ℕ) (call : Call) → thread ≤ 63 → IsCall version thread call → all_filled (line_fields thread call) ≡ true
fields_filled version thread call small range =
    rw (filled_from_length (decimal thread) (decimal_nonempty thread (omega arith)), (letter_is (command_for call)).2) (decimals_filled (numbers_of call) (numbers_small version thread call range))

-- ---- a line that fits is read from its spelling

filled_again : (version : ℕ) (before : List Line) (line : Line) → Fits version before line → filled_line version before (decimal line.thread) (letter_of (command_for line.call)) (map decimal (numbers_of line.call)) ≡ Ok line
unfolding filled_line
filled_again version before line fits =
    rw (thread_again line.thread fits.thread, fits.goes_on, command_again (command_for line.call), call_again version line.thread line.call fits.call, fits.suits)
    (ap (λ (n : ℕ). Ok (record { thread = line.thread; number = n; call = line.call })) (sym fits.number))

pub line_again : (version : ℕ) (before : List Line) (line : Line) → Fits version before line → line_of version before (fields_of (spelling_of line)) ≡ Ok line
unfolding line_of
line_again version before line fits =
    rw (fields_again version line fits.thread fits.call, fields_filled version line.thread line.call fits.thread fits.call) (filled_again version before line fits)

-- ---- what is read is that line's spelling

three_same : (a b : List ℕ) (others : List (List ℕ)) (x y : List ℕ) (zs : List (List ℕ)) → a ≡ x → b ≡ y → others ≡ zs → a ∷ b ∷ others ≡ x ∷ y ∷ zs
three_same a b others x y zs p q r = cc

filled_is : (version : ℕ) (before : List Line) (a b : List ℕ) (others : List (List ℕ)) (line : Line) → filled_line version before a b others ≡ Ok line → (a ∷ b ∷ others ≡ line_fields line.thread line.call) × Fits version before line
unfolding filled_line
filled_is version before a b others line e =
    let thread = bind_ok (thread_of a) _ line e in
    let going = bind_ok (fault_if (has_ended thread.0 before) bad.Ended) _ line thread.2 in
    let k = bind_ok (command_of b) _ line going.2 in
    let call = bind_ok (call_read version thread.0 k.0 others) _ line k.2 in
    let suits = bind_ok (fitting before thread.0 call.0) _ line call.2 in
    let first = thread_is a thread.0 thread.1 in
    let spells = call_is version thread.0 k.0 others call.0 call.1 in
    let read : Line = record { thread = thread.0; number = place_after before; call = call.0 } in
    subst (λ (l : Line). (a ∷ b ∷ others ≡ line_fields l.thread l.call) × Fits version before l) {x = read} (ok_is read line suits.2) (
      three_same a b others (decimal thread.0) (letter_of (command_for call.0)) (map decimal (numbers_of call.0)) first.0 (command_is b k.0 k.1 ∙ ap letter_of spells.command) spells.spelled,
      record {
        number = refl;
        thread = first.1;
        goes_on = no_fault (has_ended thread.0 before) bad.Ended going.0 going.1;
        call = spells.range;
        suits = suits.1;
      },
    )

fields_are : (version : ℕ) (before : List Line) (fields : List (List ℕ)) (line : Line) → line_of version before fields ≡ Ok line → (fields ≡ line_fields line.thread line.call) × Fits version before line
unfolding line_of
fields_are version before [] line e = absurd cc
fields_are version before (a ∷ []) line e = absurd cc
fields_are version before (a ∷ b ∷ others) line e = filled_is version before a b others line (guard_ok (all_filled (a ∷ b ∷ others)) bad.Fields (filled_line version before a b others) line e).1

pub line_is : (version : ℕ) (before : List Line) (text : List ℕ) (line : Line) → line_of version before (fields_of text) ≡ Ok line → (text ≡ spelling_of line) × Fits version before line
line_is version before text line e =
    let found = fields_are version before (fields_of text) line e in
    (sym (join_with_byte-slice_split 32 text) ∙ ap (join_with_byte 32) found.0 ∙ sym (spelling_is line), found.1)

-- ---- fields of which none was asked whether it is filled

-- where a line is read from them, each is
pub line_read : (version : ℕ) (before : List Line) (a b : List ℕ) (others : List (List ℕ)) (line : Line) → filled_line version before a b others ≡ Ok line → line_of version before (a ∷ b ∷ others) ≡ Ok line
unfolding line_of
line_read version before a b others line e =
    let found = filled_is version before a b others line e in
    let filled : all_filled (a ∷ b ∷ others) ≡ true = ap all_filled found.0 ∙ fields_filled version line.thread line.call found.1.thread found.1.call in
    rw filled e

pub line_filled : (version : ℕ) (before : List Line) (a b : List ℕ) (others : List (List ℕ)) → all_filled (a ∷ b ∷ others) ≡ true → line_of version before (a ∷ b ∷ others) ≡ filled_line version before a b others
unfolding line_of
line_filled version before a b others filled = rw filled refl

pub line_unfilled : (version : ℕ) (before : List Line) (a b : List ℕ) (others : List (List ℕ)) → all_filled (a ∷ b ∷ others) ≡ false → line_of version before (a ∷ b ∷ others) ≡ Err bad.Fields
unfolding line_of
line_unfilled version before a b others unfilled = rw unfilled refl

pub line_alone : (version : ℕ) (before : List Line) (a : List ℕ) → line_of version before (a ∷ []) ≡ Err bad.Fields
unfolding line_of
line_alone version before a = refl

pub line_none : (version : ℕ) (before : List Line) → line_of version before [] ≡ Err bad.Fields
unfolding line_of
line_none version before = refl

-- what tells a line
pub ruleset line_cases = (line_read, line_filled, line_unfilled, line_alone, line_none)
