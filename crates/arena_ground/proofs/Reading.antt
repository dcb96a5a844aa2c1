-- A bin is read from its front on.
use Rattle.std.proofs.Common.{◌≡◌, ℕ, List, [], ◌∷◌, ◌++◌, map, Option, Some, refl, sym, ap, ◌∙◌, append_assoc}
use Rattle.chunk_tags.specs.declared.tiles.Chunk.{Chunk}
use Rattle.chunk_tags.specs.declared.tiles.Tile.{Tile}
use Rattle.ordinary_bins.specs.Lists.{first_of}
use Rattle.arena_ground.specs.Grounds.{chunks_at}

-- what was read so far, and the next address
pub record IsRead (xs found : List ℕ) (ahead : Option ℕ) : Type 0 where
  pub rest : List ℕ
  pub split : xs ≡ found ++ rest
  pub next : ahead ≡ first_of rest

-- the next one
pub record IsNext (xs found : List ℕ) (at : ℕ) : Type 0 where
  pub back : List ℕ
  pub split : xs ≡ found ++ at ∷ back

pub next_of : (xs found : List ℕ) (next : Option ℕ) (at : ℕ) → IsRead xs found next → next ≡ Some at → IsNext xs found at
next_of xs found next at r e =
    let cases : (rest : List ℕ) → xs ≡ found ++ rest → first_of rest ≡ Some at → IsNext xs found at = elim [
      | [] ↦ λ split h. absurd cc
      | (x ∷ back) ↦ λ split h. let same : x ≡ at = cc in record { back = back; split = split ∙ ap (λ n. found ++ n ∷ back) same }
    ] in
    cases r.rest r.split (sym r.next ∙ e)

pub read_on : (xs found : List ℕ) (at : ℕ) (next : Option ℕ) (n : IsNext xs found at) → next ≡ first_of n.back → IsRead xs (found ++ at ∷ []) next
read_on xs found at next n e = record { rest = n.back; split = n.split ∙ sym (append_assoc found (at ∷ []) n.back); next = e }

pub addresses_back : (ts : List Tile) (xs : List ℕ) → map (λ (c : Chunk). c.at) (chunks_at ts xs) ≡ xs
addresses_back ts [] = refl
addresses_back ts (x ∷ xs) = ap (λ ys. x ∷ ys) (addresses_back ts xs)
