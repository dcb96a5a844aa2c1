-- The search for a bin with a chunk.
use Rattle.std.proofs.Common.{◌≡◌, ℕ, zero, suc, ◌+◌, ◌-◌, ◌<◌, ◌≤◌, List, [], length, Option, Some, None, IfSome, IfNone, eqb, ap, ◌∙◌, sym, refl, true, false, arith}
use Rattle.std.specs.List.{position_from}
use Rattle.std.proofs.lemmas.Bool.{lt-ltb, le-ltb}
use Rattle.std.proofs.lemmas.List.{at_drop_more, at_drop_all}
use Rattle.part_words.specs.Extents.{Extent}
use Rattle.ordinary_bins.specs.Lists.{bin_count, list_at, has_chunk, first_filled}
use Rattle.ordinary_bins.specs.Rings.{Spells}
use Rattle.ordinary_bins.proofs.Reading.{none_read}

filled_next : (bin : ℕ) (lists : List (List ℕ)) → bin < length lists → eqb (length (list_at bin lists)) 0 ≡ true → first_filled bin lists ≡ first_filled (bin + 1) lists
filled_next bin lists lt empty = at_drop_more (position_from has_chunk bin) lists bin [] lt ∙ rw empty refl

filled_here : (bin : ℕ) (lists : List (List ℕ)) → bin < length lists → eqb (length (list_at bin lists)) 0 ≡ false → first_filled bin lists ≡ Some bin
filled_here bin lists lt full = at_drop_more (position_from has_chunk bin) lists bin [] lt ∙ rw full refl

filled_end : (bin : ℕ) (lists : List (List ℕ)) → length lists ≤ bin → first_filled bin lists ≡ None
filled_end bin lists le = at_drop_all (position_from has_chunk bin) lists bin le

-- past empty bins
passes : (lists : List (List ℕ)) (count bin end : ℕ) → bin + count ≡ end → end ≤ length lists → ((n : ℕ) → bin ≤ n → n < end → eqb (length (list_at n lists)) 0 ≡ true) →
    first_filled bin lists ≡ first_filled end lists
passes lists zero bin end is within empty = ap (λ n. first_filled n lists) (omega (arith, is))
passes lists (suc count) bin end is within empty =
    filled_next bin lists (omega arith) (empty bin (omega arith) (omega arith))
    ∙ passes lists count (bin + 1) end (omega arith) within (λ n low high. empty n (omega arith) high)

-- The first bin whose node leads to a chunk is the first that isn't empty.
pub first_is : {f b : ℕ → ℕ} {e : Extent} {lists : List (List ℕ)} → Spells f b e lists → (bin : ℕ) → bin ≤ bin_count → (found : Option ℕ) →
    IfSome found (λ k. (bin ≤ k) × (k < bin_count) × (bin_count ≤ f k)) →
    IfSome found (λ k. (n : ℕ) → bin ≤ n → n < k → f n < bin_count) →
    IfNone found ((n : ℕ) → bin ≤ n → n < bin_count → f n < bin_count) → found ≡ first_filled bin lists
first_is {f} {lists = lists} h bin le None some before none =
    sym (passes lists (bin_count - bin) bin bin_count (omega arith) (omega (arith, h.width)) (λ n low high. sym (none_read h n high) ∙ lt-ltb (f n) bin_count (none n low high))
    ∙ filled_end bin_count lists (omega (arith, h.width)))
first_is {f} {lists = lists} h bin le (Some k) some before none =
    sym (passes lists (k - bin) bin k (omega (arith, some.0)) (omega (arith, some.1, h.width)) (λ n low high. sym (none_read h n (omega (arith, some.1))) ∙ lt-ltb (f n) bin_count (before n low high))
    ∙ filled_here k lists (omega (arith, some.1, h.width)) (sym (none_read h k some.1) ∙ le-ltb (f k) bin_count some.2))
