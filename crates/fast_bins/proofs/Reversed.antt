-- A list from its end, in two parts.
use Rattle.std.proofs.Common.{◌≡◌, ℕ, List, length, ◌≤◌, arith, ◌++◌, take, drop, reverse, sym, ap, ◌∙◌}
use Rattle.fast_bins.specs.PlainBins.{FastBin, gathered}
use Rattle.std.proofs.lemmas.List.{reverse-append, take-append-drop, take_all, drop_all}

pub reversed_parts : (n : ℕ) (xs : List ℕ) → reverse (drop n xs) ++ reverse (take n xs) ≡ reverse xs
reversed_parts n xs = sym (reverse-append (take n xs) (drop n xs)) ∙ ap reverse (take-append-drop n xs)

-- A bin in one list, its front last, whose first n are its private list; and the same where all are.
pub reversed_bin : (n m : ℕ) (xs : List ℕ) → m ≡ length xs → let all : FastBin = record { chain = reverse (drop m xs); own = reverse (take m xs) } in let b : FastBin = record { chain = reverse (drop n xs); own = reverse (take n xs) } in all ≡ gathered b
reversed_bin n m xs e =
    let long : length xs ≤ m = omega arith in
    rw (drop_all m xs long, take_all m xs long, reversed_parts n xs)
