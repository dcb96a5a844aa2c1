-- Reading in pieces.
use Rattle.std.proofs.Common.{◌≡◌, ℕ, ◌+◌, ◌<◌, ◌≤◌, List, [], ◌++◌, length, take, drop, Option, Some, refl, sym, ap, subst, ◌∙◌, append_assoc, append-nil, arith, length-append}
use Rattle.std.proofs.lemmas.List.{take-append-drop}
use Rattle.std.proofs.Math.Seq.{drop-append_seam}
use Rattle.address_space.specs.Ports.{Rose}
use Rattle.byte_edge.specs.Streams.{Supply, Takes, IsAtEnd, FailsToRead}
use Rattle.byte_edge.specs.Input.{max_input, read_room, IsWhole, IsTooMuch, IsCutOff}

-- what was read so far, and what is left, are all that was left at first
pub record SoFar {S : Type 0} (supply : Supply S) (first now : S) (read : List ℕ) : Type 0 where
  pub unfaulted : supply.faults now ≡ supply.faults first
  pub told : (all : List ℕ) → supply.left first ≡ Some all → (rest : List ℕ) × (read ++ rest ≡ all) × (supply.left now ≡ Some rest)

pub nothing_yet : {S : Type 0} (supply : Supply S) (first : S) → SoFar supply first first []
nothing_yet supply first = record { unfaulted = refl; told = λ all h. (all, refl, h) }

pub one_more : {S : Type 0} (supply : Supply S) (first now next : S) (read room : List ℕ) (n : ℕ) → SoFar supply first now read → Takes supply now room n next → SoFar supply first next (read ++ take n room)
one_more supply first now next read room n so_far takes = record {
  unfaulted = takes.unfaulted ∙ so_far.unfaulted;
  told = λ all h.
      let was = so_far.told all h in
      let took = takes.told was.0 was.2 in (
        drop n was.0,
        append_assoc read (take n room) (drop n was.0)
            ∙ ap (λ (front : List ℕ). read ++ (front ++ drop n was.0)) took.1
            ∙ ap (λ (rest : List ℕ). read ++ rest) (take-append-drop n was.0)
            ∙ was.1,
        took.2,
      );
}

pub at_the_end : {S : Type 0} (supply : Supply S) (first now next : S) (read : List ℕ) → length read ≤ max_input → SoFar supply first now read → IsAtEnd supply now next → IsWhole supply first next read
at_the_end supply first now next read short so_far ended = record {
  unfaulted = ended.unfaulted ∙ so_far.unfaulted;
  told = λ all h.
      let was = so_far.told all h in
      let none = ended.told was.0 was.2 in
      let whole : read ≡ all = sym (append-nil read) ∙ ap (λ (rest : List ℕ). read ++ rest) (sym none.0) ∙ was.1 in
      (whole, subst (λ (bytes : List ℕ). length bytes ≤ max_input) whole short, none.1);
}

-- what was taken of all bytes
taken : (all read rest : List ℕ) → read ++ rest ≡ all → (length read ≤ length all) × (rest ≡ drop (length read) all)
taken all read rest is = (omega (arith, length-append read rest, ap length is), sym (drop-append_seam read rest) ∙ ap (drop (length read)) is)

pub more_came : {S : Type 0} (supply : Supply S) (first now : S) (read : List ℕ) → max_input < length read → length read ≤ max_input + read_room → SoFar supply first now read → IsTooMuch supply first now
more_came supply first now read long bound so_far = record {
  unfaulted = so_far.unfaulted;
  told = λ all h.
      let was = so_far.told all h in
      let took = taken all read was.0 was.1 in
      (length read, long, bound, took.0, was.2 ∙ ap (λ (rest : List ℕ). Some rest) took.1);
}

pub cut_off : {S : Type 0} (supply : Supply S) (first now next : S) (read : List ℕ) → length read ≤ max_input → SoFar supply first now read → FailsToRead supply now next → IsCutOff supply first next
cut_off supply first now next read short so_far fails = record {
  rose = subst (λ (n : ℕ). Rose n (supply.faults next)) so_far.unfaulted fails.rose;
  last = record { failing = now; unfaulted = so_far.unfaulted; fails = fails };
  told = λ all h.
      let was = so_far.told all h in
      let took = taken all read was.0 was.1 in
      (length read, short, took.0, fails.told was.0 was.2 ∙ ap (λ (rest : List ℕ). Some rest) took.1);
}
