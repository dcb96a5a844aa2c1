-- What is true of the words of tiles stays true.
use Rattle.std.proofs.Common.{◌≡◌, ℕ, ◌+◌, ◌^◌, ◌<◌, ◌/◌, [], true, sym, refl, subst, arith}
use Rattle.part_words.specs.Extents.{IsOpen, extended}
use Rattle.part_words.specs.Parts.{Parts, no_words, update, extent_of}
use Rattle.part_words.proofs.Opening.{IsOpen-word, Covers-same, Covers-extended, AreOpen-extended}
use Rattle.part_words.proofs.Updates.{word_at-no_words}
use Rattle.chunk_image.specs.declared.heads.Head.{Head}
use Rattle.chunk_image.specs.Rows.{IsRoom, IsWordSize}
use Rattle.chunk_image.specs.Heads.{no_head, head_at, foot_at, is_free_head, with_foot, IsKept, CanStand}
use Rattle.chunk_image.proofs.FootLaws.{update_cases, free_size, AreFooted-put}

-- the words after a head was written
pub record IsPut (heads : Parts Head) (feet : Parts ℕ) (at : ℕ) (h : Head) (heads' : Parts Head) (feet' : Parts ℕ) : Type 0 where
  pub written : head_at heads' ≡ update (head_at heads) at h
  pub footed : foot_at feet' ≡ with_foot h at h.size (with_foot (head_at heads at) at 0 (foot_at feet))
  pub extent : extent_of heads' ≡ extent_of heads
  pub foot_extent : extent_of feet' ≡ extent_of feet

pub IsKept-put : (heads : Parts Head) (feet : Parts ℕ) (at : ℕ) (h : Head) (heads' : Parts Head) (feet' : Parts ℕ) → IsKept heads feet → CanStand heads at h → IsPut heads feet at h heads' feet' → IsKept heads' feet'
IsKept-put heads feet at h heads' feet' old can is =
    record {
      covers = rw (is.extent, is.foot_extent) old.covers;
      fits = λ a. rw is.written (update_cases (λ k. IsWordSize k.size) (head_at heads) at h a (λ _. can.fits) (λ _. old.fits a));
      room = λ a. rw (is.extent, is.written) (update_cases (λ k. 0 < k.size → IsRoom (extent_of heads) a k.size) (head_at heads) at h a (λ e _. subst (λ b. IsRoom (extent_of heads) b h.size) (sym e) can.room) (λ _. old.room a));
      footed = rw (is.written, is.footed) (AreFooted-put (head_at heads) (foot_at feet) at h old.footed can.alone);
    }

-- the foot of a free tile has a word
pub IsOpen-foot : (heads : Parts Head) (feet : Parts ℕ) (a : ℕ) → IsKept heads feet → is_free_head (head_at heads a) ≡ true → IsOpen (extent_of feet) (a + (head_at heads a).size) × (a + (head_at heads a).size < 2 ^ 64)
IsOpen-foot heads feet a old free =
    let size = free_size (head_at heads a) free in
    (IsOpen-word feet 0 (a + (head_at heads a).size) (λ none. absurd (omega (arith, none, old.footed.footed a free, size))), (old.room a size).end)

-- no words
pub IsKept-no_words : (base stride : ℕ) → IsKept (no_words base stride) (no_words base stride)
IsKept-no_words base stride =
    record {
      covers = Covers-same (record { base = base; width = stride / 16; words = [] });
      fits = rw (word_at-no_words {T = Head} base stride no_head) (λ a. record { whole = refl; below = omega arith });
      room = rw (word_at-no_words {T = Head} base stride no_head) (λ a none. absurd (omega (arith, none)));
      footed = rw (word_at-no_words {T = Head} base stride no_head, word_at-no_words {T = ℕ} base stride 0) (record { footed = λ a no. cc; below = λ b. omega arith; meant = λ b none. absurd (omega (arith, none)) });
    }

-- more words
pub IsKept-opened : (heads : Parts Head) (feet : Parts ℕ) (at len : ℕ) (heads' : Parts Head) (feet' : Parts ℕ) → IsKept heads feet → head_at heads' ≡ head_at heads → foot_at feet' ≡ foot_at feet → extent_of heads' ≡ extended (extent_of heads) at len → extent_of feet' ≡ extended (extent_of feet) at len → IsKept heads' feet'
IsKept-opened heads feet at len heads' feet' old same same_feet more more_feet =
    record {
      covers = rw (more, more_feet) (Covers-extended (extent_of heads) (extent_of feet) at len old.covers);
      fits = rw same old.fits;
      room = rw (same, more) (λ a h. record { words = AreOpen-extended (extent_of heads) at len a _ (old.room a h).words; end = (old.room a h).end });
      footed = rw (same, same_feet) old.footed;
    }
