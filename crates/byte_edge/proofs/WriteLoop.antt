-- Writing in pieces.
use Rattle.std.proofs.Common.{◌≡◌, ℕ, List, [], ◌++◌, length, take, drop, Option, Some, refl, sym, ap, ◌∙◌, append_assoc, append-nil, arith}
use Rattle.std.proofs.lemmas.List.{take-append-drop, nil_from_length}
use Rattle.std.proofs.Math.Seq.{take-append_seam}
use Rattle.byte_edge.specs.Streams.{Written, Store, Adds, FailsAlone, IsFlushed}
use Rattle.byte_edge.specs.Output.{IsWritten, IsCutShort}

-- a front of the text stands behind what was written before, and the rest is to come
pub record IsUnderWay {S : Type 0} (store : Store S) (first now : S) (text rest : List ℕ) : Type 0 where
  pub unfaulted : store.faults now ≡ store.faults first
  pub told : (w : Written) → store.written first ≡ Some w → (front : List ℕ) × (front ++ rest ≡ text) × (store.written now ≡ Some (record w { bytes = w.bytes ++ front }))

pub nothing_yet : {S : Type 0} (store : Store S) (first : S) (text : List ℕ) → IsUnderWay store first first text text
nothing_yet store first text = record {
  unfaulted = refl;
  told = λ w h. ([], refl, h ∙ ap (λ (bytes : List ℕ). Some (record w { bytes = bytes })) (sym (append-nil w.bytes)));
}

pub one_more : {S : Type 0} (store : Store S) (first now next : S) (text rest : List ℕ) (n : ℕ) → IsUnderWay store first now text rest → Adds store now rest n next → IsUnderWay store first next text (drop n rest)
one_more store first now next text rest n under_way adds = record {
  unfaulted = adds.unfaulted ∙ under_way.unfaulted;
  told = λ w h.
      let was = under_way.told w h in (
        was.0 ++ take n rest,
        append_assoc was.0 (take n rest) (drop n rest) ∙ ap (λ (more : List ℕ). was.0 ++ more) (take-append-drop n rest) ∙ was.1,
        adds.told (record w { bytes = w.bytes ++ was.0 }) was.2 ∙ ap (λ (bytes : List ℕ). Some (record w { bytes = bytes })) (append_assoc w.bytes was.0 (take n rest)),
      );
}

pub all_flushed : {S : Type 0} (store : Store S) (first now next : S) (text rest : List ℕ) → IsUnderWay store first now text rest → length rest ≡ 0 → IsFlushed store now next → IsWritten store first text next
all_flushed store first now next text rest under_way empty flushed = record {
  unfaulted = flushed.unfaulted ∙ under_way.unfaulted;
  told = λ w h.
      let was = under_way.told w h in
      let whole : was.0 ≡ text = sym (append-nil was.0) ∙ ap (λ (more : List ℕ). was.0 ++ more) (sym (nil_from_length rest empty)) ∙ was.1 in
      flushed.told (record w { bytes = w.bytes ++ was.0 }) was.2
      ∙ ap (λ (front : List ℕ). Some (record { bytes = w.bytes ++ front; flushed = length (w.bytes ++ front) })) whole;
}

pub cut_short : {S : Type 0} (store : Store S) (first now next : S) (text rest : List ℕ) → IsUnderWay store first now text rest → FailsAlone store now next → IsCutShort store first text next
cut_short store first now next text rest under_way fails = record {
  rose = omega (arith, under_way.unfaulted, fails.rose);
  last = record { failing = now; unfaulted = under_way.unfaulted; fails = fails };
  told = λ w h.
      let was = under_way.told w h in
      let front : take (length was.0) text ≡ was.0 = ap (take (length was.0)) (sym was.1) ∙ take-append_seam was.0 rest in (
        length was.0,
        fails.told (record w { bytes = w.bytes ++ was.0 }) was.2
            ∙ ap (λ (bytes : List ℕ). Some (record w { bytes = w.bytes ++ bytes })) (sym front),
      );
}
