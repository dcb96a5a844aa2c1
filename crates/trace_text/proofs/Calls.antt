-- A call is read from the command and the numbers that spell it, and from no other.
use Rattle.std.proofs.Common.{◌≡◌, ℕ, ◌^◌, ◌<◌, ◌≤◌, eqb, cond, List, [], ◌∷◌, map, codes, Result, Ok, refl, ap, subst, ◌∙◌, arith, inl, inr}
use Rattle.std.specs.Fmt.{decimal}
use Rattle.std.specs.Str.{bytes_eq}
use Rattle.std.proofs.lemmas.Bool.{cases_Bool, ne_eqb}
use Rattle.std.proofs.lemmas.Slice.Eq.{bytes_eq-Decides}
use Rattle.trace_text.specs.declared.fault.BadWhy.{BadWhy}
use Rattle.trace_text.specs.declared.command.Command.{Command}
use Rattle.trace_text.specs.declared.command.Command.TheVariants as command
use Rattle.trace_text.specs.declared.trace.Call.{Call}
use Rattle.trace_text.specs.declared.trace.Call.TheVariants.{Malloc, Calloc, Realloc, Align, Free, Post, Take, Exit}
use Rattle.trace_text.specs.Grammar.{◌>>=◌, highest_name, command_of, call_read}
use Rattle.trace_text.specs.Spelling.{IsName, IsCall}
use Rattle.trace_text.proofs.Steps.{bind_ok, ok_is, name_again, tray_again, one_again, two_again, three_again, alone_is, size_is, tray_pair_is, sizes_is, end_is}

-- ---- commands

abbrev pub letter_of : Command → List ℕ
letter_of command.Malloc = codes "m"
letter_of command.Calloc = codes "c"
letter_of command.Realloc = codes "r"
letter_of command.Align = codes "a"
letter_of command.Free = codes "f"
letter_of command.Post = codes "p"
letter_of command.Take = codes "t"
letter_of command.Exit = codes "x"

pub command_again : (k : Command) → command_of (letter_of k) ≡ Ok k
unfolding command_of
command_again command.Malloc = refl
command_again command.Calloc = refl
command_again command.Realloc = refl
command_again command.Align = refl
command_again command.Free = refl
command_again command.Post = refl
command_again command.Take = refl
command_again command.Exit = refl

-- a field that is a letter is that command's; any other goes on
letter_step : (field letter : List ℕ) (k found : Command) (rest : Result Command BadWhy) → letter ≡ letter_of k → (rest ≡ Ok found → field ≡ letter_of found) → cond (bytes_eq field letter) (Ok k) rest ≡ Ok found → field ≡ letter_of found
letter_step field letter k found rest is others e =
    elim (cases_Bool (bytes_eq field letter)) [
      | inl same ↦ (bytes_eq-Decides field letter).0 same ∙ is ∙ ap letter_of (ok_is k found (rw same at e))
      | inr other ↦ others (rw other at e)
    ]

pub command_is : (field : List ℕ) (k : Command) → command_of field ≡ Ok k → field ≡ letter_of k
unfolding command_of
command_is field k e =
    letter_step field (codes "m") command.Malloc k _ refl (letter_step field (codes "c") command.Calloc k _ refl (letter_step field (codes "r") command.Realloc k _ refl (letter_step field (codes "a") command.Align k _ refl (letter_step field (codes "f") command.Free k _ refl (letter_step field (codes "p") command.Post k _ refl (letter_step field (codes "t") command.Take k _ refl (letter_step field (codes "x") command.Exit k _ refl (λ never. absurd cc)))))))) e

-- ---- the parts of a call

abbrev pub command_for : Call → Command
command_for (Malloc name size) = command.Malloc
command_for (Calloc name n size) = command.Calloc
command_for (Realloc name size) = command.Realloc
command_for (Align name align size) = command.Align
command_for (Free name) = command.Free
command_for (Post name tray) = command.Post
command_for (Take name tray) = command.Take
command_for Exit = command.Exit

abbrev pub numbers_of : Call → List ℕ
numbers_of (Malloc name size) = name ∷ size ∷ []
numbers_of (Calloc name n size) = name ∷ n ∷ size ∷ []
numbers_of (Realloc name size) = name ∷ size ∷ []
numbers_of (Align name align size) = name ∷ align ∷ size ∷ []
numbers_of (Free name) = name ∷ []
numbers_of (Post name tray) = name ∷ tray ∷ []
numbers_of (Take name tray) = name ∷ tray ∷ []
numbers_of Exit = []

-- ---- reading a call

-- what was read: the fields are the numbers of the call
pub record Spells (version thread : ℕ) (k : Command) (fields : List (List ℕ)) (call : Call) : Type 0 where
  pub command : k ≡ command_for call
  pub spelled : fields ≡ map decimal (numbers_of call)
  pub range : IsCall version thread call

-- what was read before it is made a call
made : {A : Type 0} (version thread : ℕ) (k : Command) (fields : List (List ℕ)) (read : Result A BadWhy) (make : A → Call) (call : Call) → (read >>= λ x. Ok (make x)) ≡ Ok call → ((x : A) → read ≡ Ok x → Spells version thread k fields (make x)) → Spells version thread k fields call
made version thread k fields read make call e spells =
    let x = bind_ok read (λ x. Ok (make x)) call e in
    subst (λ (c : Call). Spells version thread k fields c) (ok_is (make x.0) call x.2) (spells x.0 x.1)

pub call_is : (version thread : ℕ) (k : Command) (fields : List (List ℕ)) (call : Call) → call_read version thread k fields ≡ Ok call → Spells version thread k fields call
unfolding call_read
call_is version thread command.Malloc fields call e = made version thread command.Malloc fields _ _ call e (λ p read. let found = size_is version fields p read in record { command = refl; spelled = found.0; range = (found.1, found.2) })
call_is version thread command.Calloc fields call e = made version thread command.Calloc fields _ _ call e (λ p read. let found = sizes_is version fields p read in record { command = refl; spelled = found.0; range = (found.1, found.2, found.3) })
call_is version thread command.Realloc fields call e = made version thread command.Realloc fields _ _ call e (λ p read. let found = size_is version fields p read in record { command = refl; spelled = found.0; range = (found.1, found.2) })
call_is version thread command.Align fields call e = made version thread command.Align fields _ _ call e (λ p read. let found = sizes_is version fields p read in record { command = refl; spelled = found.0; range = (found.1, found.2, found.3) })
call_is version thread command.Free fields call e = made version thread command.Free fields _ _ call e (λ name read. let found = alone_is version fields name read in record { command = refl; spelled = found.0; range = found.1 })
call_is version thread command.Post fields call e = made version thread command.Post fields _ _ call e (λ p read. let found = tray_pair_is version fields p read in record { command = refl; spelled = found.0; range = (found.1, found.2) })
call_is version thread command.Take fields call e = made version thread command.Take fields _ _ call e (λ p read. let found = tray_pair_is version fields p read in record { command = refl; spelled = found.0; range = (found.1, found.2) })
call_is version thread command.Exit fields call e = made version thread command.Exit fields _ _ call e (λ none read. let found = end_is thread fields none read in record { command = refl; spelled = found.0; range = found.1 })

highest_small : (version : ℕ) → highest_name version ≤ 4294967295
highest_small version = elim (cases_Bool (eqb version 1)) [ inl first ↦ rw first (omega arith) | inr other ↦ rw other (omega arith) ]

pub named_small : (version name : ℕ) → IsName version name → name < 2 ^ 64
named_small version name h = omega (arith, h.1, highest_small version)

pub call_again : (version thread : ℕ) (call : Call) → IsCall version thread call → call_read version thread (command_for call) (map decimal (numbers_of call)) ≡ Ok call
unfolding call_read
call_again version thread (Malloc name size) r = rw (two_again name size (named_small version name r.0) r.1, name_again version name r.0) refl
call_again version thread (Calloc name n size) r = rw (three_again name n size (named_small version name r.0) r.1 r.2, name_again version name r.0) refl
call_again version thread (Realloc name size) r = rw (two_again name size (named_small version name r.0) r.1, name_again version name r.0) refl
call_again version thread (Align name align size) r = rw (three_again name align size (named_small version name r.0) r.1 r.2, name_again version name r.0) refl
call_again version thread (Free name) r = rw (one_again name (named_small version name r), name_again version name r) refl
call_again version thread (Post name tray) r = rw (two_again name tray (named_small version name r.0) (omega (arith, r.1)), name_again version name r.0, tray_again tray r.1) refl
call_again version thread (Take name tray) r = rw (two_again name tray (named_small version name r.0) (omega (arith, r.1)), name_again version name r.0, tray_again tray r.1) refl
call_again version thread Exit r = rw (ne_eqb thread 0 (λ is. absurd (omega (arith, is)))) refl
