-- A large bin stays in order (public: other crates cite this file).
use Rattle.std.proofs.Common.{◌≡◌, ℕ, ◌<◌, ◌≤◌, List, [], ◌∷◌, eqb, ltb, sym, inl, inr, arith, true, false}
use Rattle.std.proofs.lemmas.Bool.{cases_order, lt-ltb, le-ltb, eq-eqb, ne_eqb}
use Rattle.chunk_tags.specs.BinOrder.{IsFalling, inserted}
use Rattle.chunk_tags.specs.declared.tiles.Chunk.{Chunk}

-- the three ways of an insertion past a chunk
pub data Compares (m n : ℕ) : Type 0 where
  below : ltb m n ≡ true → m < n → Compares m n
  equal : ltb m n ≡ false → eqb m n ≡ true → m ≡ n → Compares m n
  above : ltb m n ≡ false → eqb m n ≡ false → n < m → Compares m n

pub compares : (m n : ℕ) → Compares m n
compares m n = elim (cases_order m n) [
  | inl e ↦ equal (le-ltb m n (omega arith)) (eq-eqb m n e) e
  | inr r ↦ elim r [
    | inl lt ↦ below (lt-ltb m n lt) lt
    | inr gt ↦ above (le-ltb m n (omega arith)) (ne_eqb m n (λ e. absurd (omega arith))) gt
  ]
]

-- a list in order whose first chunk gives its place to an equal one
same_head : (c y : Chunk) (ys : List Chunk) → c.size ≡ y.size → IsFalling (y ∷ ys) → IsFalling (c ∷ ys)
same_head c y [] e h = tt
same_head c y (z ∷ ys) e h = (omega (arith, e, h.0), h.1)

falling_behind : (c x : Chunk) (xs : List Chunk) → c.size ≤ x.size → IsFalling (x ∷ xs) → IsFalling (x ∷ inserted c xs)
falling_behind c x [] le h = (le, tt)
falling_behind c x (y ∷ ys) le h = elim (compares y.size c.size) [
  | below t lt ↦ rw t (le, (omega arith, h.1))
  | equal t u e ↦ rw (t, u) (h.0, (omega arith, same_head c y ys (sym e) h.1))
  | above t u gt ↦ rw (t, u) (h.0, falling_behind c y ys (omega arith) h.1)
]

pub falling_inserted : (c : Chunk) (xs : List Chunk) → IsFalling xs → IsFalling (inserted c xs)
falling_inserted c [] h = tt
falling_inserted c (x ∷ xs) h = elim (compares x.size c.size) [
  | below t lt ↦ rw t (omega arith, h)
  | equal t u e ↦ rw (t, u) (omega arith, same_head c x xs (sym e) h)
  | above t u gt ↦ rw (t, u) (falling_behind c x xs (omega arith) h)
]
