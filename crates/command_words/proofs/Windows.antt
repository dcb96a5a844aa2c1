-- The lengths of heaps' windows.
use Rattle.std.proofs.Common.{◌≡◌, ℕ, ◌+◌, ◌*◌, ◌/◌, ◌%◌, ◌^◌, ◌≤◌, true, leb, ◌&&◌, IsTrue, count_ones, sym, ap, ◌∙◌, arith}
use Rattle.std.specs.Int.{is_power_of_two}
use Rattle.std.proofs.lemmas.Bool.{and_parts, eqb-true, leb-true}
use Rattle.std.proofs.lemmas.Nat.{ones_cat, zero_from_ones}
use Rattle.command_words.specs.declared.setting.Setting.TheVariants.{HeapMax}
use Rattle.command_words.specs.Options.{takes_number}

-- a power of two from a page on is whole pages: of its binary digits one is set, and that is none of the lowest twelve
whole_pages : (n : ℕ) → is_power_of_two n ≡ true → 4096 ≤ n → n % 4096 ≡ 0
whole_pages n power least =
    let parts : n / 4096 * 2 ^ 12 + n % 4096 ≡ n = omega arith in
    let one : count_ones (n / 4096) + count_ones (n % 4096) ≡ 1 = sym (ones_cat 12 (n / 4096) (n % 4096) (omega arith)) ∙ (ap count_ones parts ∙ eqb-true (count_ones n) 1 power) in
    let high : count_ones (n / 4096) ≡ 0 → ⊥ = λ none. let none : n / 4096 ≡ 0 = zero_from_ones (n / 4096) none in omega (arith, least) in
    zero_from_ones (n % 4096) (omega arith)

pub whole_window : (n : ℕ) → IsTrue (takes_number HeapMax n) → n % 4096 ≡ 0
whole_window n takes =
    let within = and_parts (leb 65536 n) (leb n 67108864 && is_power_of_two n) takes in
    whole_pages n (and_parts (leb n 67108864) (is_power_of_two n) within.1).1 (omega (arith, leb-true 65536 n within.0))
