-- Where a chunk goes in a large bin, and which chunks fit, by addresses with a function that tells sizes (this
-- project's own). No public clause cites this file.
use Rattle.std.specs.Prelude.{◌≡◌, ℕ, ◌<◌, ◌≤◌, nat_eq, nat_lt, List, [], ◌∷◌, ◌++◌, Option, Some, None, if◌then◌else◌}
use Rattle.ordinary_bins.specs.Lists.{first_of, last_of}
use Rattle.large_bins.specs.FirstChunks.{firsts_behind, firsts_of}
use Rattle.large_bins.specs.SeenChunks.{chunks_by}

-- the insertion into a large bin, by addresses
abbrev pub put_by : (ℕ → ℕ) → ℕ → ℕ → List ℕ → List ℕ
put_by f size at [] = at ∷ []
put_by f size at (x ∷ xs) =
    if nat_lt (f x) size then at ∷ x ∷ xs
    else (if nat_eq (f x) size then x ∷ at ∷ xs else x ∷ put_by f size at xs)

-- the first chunk of a list, if it has this size
abbrev pub first_of_size : (ℕ → ℕ) → ℕ → List ℕ → Option ℕ
first_of_size f s [] = None
first_of_size f s (x ∷ xs) = if nat_eq (f x) s then Some x else None

-- the first chunks of each size, by addresses
abbrev pub leads : (ℕ → ℕ) → List ℕ → List ℕ
leads f xs = firsts_of (chunks_by f xs)

abbrev pub leads_behind : (ℕ → ℕ) → ℕ → List ℕ → List ℕ
leads_behind f s xs = firsts_behind s (chunks_by f xs)

abbrev pub AllAbove : (ℕ → ℕ) → ℕ → List ℕ → Type 0
AllAbove f size [] = Unit {0}
AllAbove f size (x ∷ xs) = (size < f x) × AllAbove f size xs

abbrev pub AllBelow : (ℕ → ℕ) → ℕ → List ℕ → Type 0
AllBelow f size [] = Unit {0}
AllBelow f size (x ∷ xs) = (f x < size) × AllBelow f size xs

-- greater chunks, behind which the next one stands, or none
pub record Passes (f : ℕ → ℕ) (size : ℕ) (xs : List ℕ) (next : Option ℕ) : Type 0 where
  pub front : List ℕ
  pub rest : List ℕ
  pub split : xs ≡ front ++ rest
  pub greater : AllAbove f size front
  pub first : first_of rest ≡ next

-- a chunk that isn't greater, before which all are: the first of its size
pub record StopsAt (f : ℕ → ℕ) (size : ℕ) (xs firsts : List ℕ) (at : ℕ) : Type 0 where
  pub front : List ℕ
  pub back : List ℕ
  pub split : xs ≡ front ++ at ∷ back
  pub first : firsts ≡ leads f front ++ at ∷ leads_behind f (f at) back
  pub greater : AllAbove f size front
  pub most : f at ≤ size

-- a chunk behind which none fits, or none where the list is empty
pub record EndsBelow (f : ℕ → ℕ) (nb : ℕ) (xs : List ℕ) (next : Option ℕ) : Type 0 where
  pub front : List ℕ
  pub rest : List ℕ
  pub split : xs ≡ front ++ rest
  pub below : AllBelow f nb rest
  pub last : last_of front ≡ next

-- a chunk that fits, behind which none does
pub record FitsLast (f : ℕ → ℕ) (nb : ℕ) (xs : List ℕ) (last : ℕ) : Type 0 where
  pub front : List ℕ
  pub back : List ℕ
  pub split : xs ≡ front ++ last ∷ back
  pub fits : nb ≤ f last
  pub below : AllBelow f nb back
