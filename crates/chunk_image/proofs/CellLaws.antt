-- Heads and feet in words.
use Rattle.std.proofs.Common.{◌≡◌, ℕ, ◌*◌, Result, Ok, Err, sym, ap, ◌∙◌, refl, subst}
use Rattle.std.specs.Prelude.{OnErr}
use Rattle.part_words.specs.Extents.{IsOpen, extended}
use Rattle.part_words.specs.Parts.{Parts, word_at, update, extent_of}
use Rattle.part_words.proofs.Seeing.{word_at-seen_through, extent_of-seen_through, written_through, same_through}
use Rattle.chunk_image.specs.declared.heads.Cell.{Cell}
use Rattle.chunk_image.specs.declared.heads.Head.{Head}
use Rattle.chunk_image.specs.Heads.{head_in, heads_of, feet_of, no_cell, head_at, foot_at}

pub extent_of-heads : (cells : Parts Cell) → extent_of (heads_of cells) ≡ extent_of cells
extent_of-heads cells = extent_of-seen_through (λ c. head_in c.head) cells

pub extent_of-feet : (cells : Parts Cell) → extent_of (feet_of cells) ≡ extent_of cells
extent_of-feet cells = extent_of-seen_through (λ c. c.foot * 16) cells

-- words that are open stay so
pub heads_open : (cells cells' : Parts Cell) → extent_of cells' ≡ extent_of cells → extent_of (heads_of cells') ≡ extent_of (heads_of cells)
heads_open cells cells' e = extent_of-heads cells' ∙ (e ∙ sym (extent_of-heads cells))

pub feet_open : (cells cells' : Parts Cell) → extent_of cells' ≡ extent_of cells → extent_of (feet_of cells') ≡ extent_of (feet_of cells)
feet_open cells cells' e = extent_of-feet cells' ∙ (e ∙ sym (extent_of-feet cells))

pub heads_word : (cells : Parts Cell) (at : ℕ) → IsOpen (extent_of cells) at → IsOpen (extent_of (heads_of cells)) at
heads_word cells at word = rw (extent_of-heads cells) word

pub no_heads_word : (cells : Parts Cell) (at : ℕ) → (IsOpen (extent_of cells) at → ⊥) → IsOpen (extent_of (heads_of cells)) at → ⊥
no_heads_word cells at none word = none (rw (extent_of-heads cells) at word)

-- more words are opened
pub heads_extended : (cells cells' : Parts Cell) (at len : ℕ) → extent_of cells' ≡ extended (extent_of cells) at len → extent_of (heads_of cells') ≡ extended (extent_of (heads_of cells)) at len
heads_extended cells cells' at len e =
    extent_of-heads cells' ∙ (e ∙ ap (λ x. extended x at len) (sym (extent_of-heads cells)))

pub feet_extended : (cells cells' : Parts Cell) (at len : ℕ) → extent_of cells' ≡ extended (extent_of cells) at len → extent_of (feet_of cells') ≡ extended (extent_of (feet_of cells)) at len
feet_extended cells cells' at len e =
    extent_of-feet cells' ∙ (e ∙ ap (λ x. extended x at len) (sym (extent_of-feet cells)))

-- and where there is a word to open, there is a head to open
pub heads_unopened : {T E : Type 0} (cells : Parts Cell) (at len : ℕ) (r : Result T E) → (extended (extent_of cells) at len ≡ extent_of cells → ⊥) → OnErr r (extended (extent_of (heads_of cells)) at len ≡ extent_of (heads_of cells) → ⊥)
heads_unopened cells at len (Ok x) some = tt
heads_unopened cells at len (Err x) some = subst (λ e. extended e at len ≡ e → ⊥) (sym (extent_of-heads cells)) some

-- what a word says
pub head_read : (cells : Parts Cell) (at : ℕ) (cell : Cell) (h : Head) → cell ≡ word_at cells no_cell at → h ≡ head_in cell.head → h ≡ head_at (heads_of cells) at
head_read cells at cell h read says =
    rw (says, read) (sym (ap (λ (f : ℕ → _). f at) (word_at-seen_through (λ c. head_in c.head) cells no_cell)))

pub foot_at-cells : (cells : Parts Cell) (at : ℕ) → foot_at (feet_of cells) at ≡ (word_at cells no_cell at).foot * 16
foot_at-cells cells at =
    ap (λ (f : ℕ → ℕ). f at) (word_at-seen_through (λ c. c.foot * 16) cells no_cell)

-- where the words are the same, heads and feet are
pub heads_alike : (cells cells' : Parts Cell) → word_at cells' no_cell ≡ word_at cells no_cell → head_at (heads_of cells') ≡ head_at (heads_of cells)
heads_alike cells cells' e =
    rw (word_at-seen_through (λ c. head_in c.head) cells' no_cell, word_at-seen_through (λ c. head_in c.head) cells no_cell, e) refl

pub feet_alike : (cells cells' : Parts Cell) → word_at cells' no_cell ≡ word_at cells no_cell → foot_at (feet_of cells') ≡ foot_at (feet_of cells)
feet_alike cells cells' e =
    rw (word_at-seen_through (λ c. c.foot * 16) cells' no_cell, word_at-seen_through (λ c. c.foot * 16) cells no_cell, e) refl

-- a word is written
pub record Writes (cells cells' : Parts Cell) (at : ℕ) (cell : Cell) : Type 0 where
  pub word : word_at cells' no_cell ≡ update (word_at cells no_cell) at cell

pub heads_written : (cells cells' : Parts Cell) (at : ℕ) (cell : Cell) (h : Head) → Writes cells cells' at cell → head_in cell.head ≡ h → head_at (heads_of cells') ≡ update (head_at (heads_of cells)) at h
heads_written cells cells' at cell h w says =
    rw (← says) (written_through (λ c. head_in c.head) cells cells' no_cell at cell w.word)

pub feet_written : (cells cells' : Parts Cell) (at : ℕ) (cell : Cell) → Writes cells cells' at cell → foot_at (feet_of cells') ≡ update (foot_at (feet_of cells)) at (cell.foot * 16)
feet_written cells cells' at cell w =
    written_through (λ c. c.foot * 16) cells cells' no_cell at cell w.word

pub heads_same : (cells cells' : Parts Cell) (at : ℕ) (cell : Cell) → Writes cells cells' at cell → cell.head ≡ (word_at cells no_cell at).head → head_at (heads_of cells') ≡ head_at (heads_of cells)
heads_same cells cells' at cell w same =
    same_through (λ c. head_in c.head) cells cells' no_cell at cell w.word (ap head_in same)

pub feet_same : (cells cells' : Parts Cell) (at : ℕ) (cell : Cell) → Writes cells cells' at cell → cell.foot ≡ (word_at cells no_cell at).foot → foot_at (feet_of cells') ≡ foot_at (feet_of cells)
feet_same cells cells' at cell w same =
    same_through (λ c. c.foot * 16) cells cells' no_cell at cell w.word (ap (λ n. n * 16) same)
