-- Looking through the lists for the first that has a block.
use Rattle.std.proofs.Common.{◌≡◌, ℕ, ◌<◌, zero, suc, List, [], ◌∷◌, set, get_or, drop, length, arith, refl, ap, Some, None}
use Rattle.std.specs.Prelude.{slice_get}
use Rattle.std.specs.List.{flat_map}
use Rattle.chunk_tags.specs.declared.block.Block.{Block}
use Rattle.thread_cache.specs.Caches.{first_of, without_first}

-- the first block is b, of the list at n
pub record IsFirstAt (lists : List (List Block)) (n : ℕ) (b : Block) : Type 0 where
  pub next : first_of lists ≡ Some b
  pub rest : without_first lists ≡ set lists n (drop 1 (get_or lists n []))
  pub order : flat_map (λ l. l) lists ≡ b ∷ flat_map (λ l. l) (set lists n (drop 1 (get_or lists n [])))

pub first_at : (lists : List (List Block)) (n : ℕ) (b : Block) → ((k : ℕ) → k < n → get_or lists k [] ≡ []) → slice_get (get_or lists n []) 0 ≡ Some b → IsFirstAt lists n b
first_at [] n b before here = absurd cc
first_at ([] ∷ lists) zero b before here = absurd cc
first_at ((x ∷ xs) ∷ lists) zero b before here = record { next = here; rest = refl; order = cc }
first_at ([] ∷ lists) (suc n) b before here =
    let at : IsFirstAt lists n b = first_at lists n b (λ k h. before (suc k) (omega arith)) here in
    record { next = at.next; rest = ap (λ ls. [] ∷ ls) at.rest; order = at.order }
first_at ((x ∷ xs) ∷ lists) (suc n) b before here = let e = before 0 (omega arith) in absurd cc

-- no list has a block
pub record AreEmpty (lists : List (List Block)) : Type 0 where
  pub next : first_of lists ≡ None
  pub rest : without_first lists ≡ lists
  pub order : flat_map (λ l. l) lists ≡ []

pub none_in : (lists : List (List Block)) → ((k : ℕ) → k < length lists → get_or lists k [] ≡ []) → AreEmpty lists
none_in [] all = record { next = refl; rest = refl; order = refl }
none_in ([] ∷ lists) all =
    let others : AreEmpty lists = none_in lists (λ k h. all (suc k) (omega arith)) in
    record { next = others.next; rest = ap (λ ls. [] ∷ ls) others.rest; order = others.order }
none_in ((x ∷ xs) ∷ lists) all = let e = all 0 (omega arith) in absurd cc

-- the block that is found first is the newest of a list, and leaves that list alone
pub record IsFound (lists : List (List Block)) (b : Block) : Type 0 where
  pub place : ℕ
  pub lt : place < length lists
  pub here : slice_get (get_or lists place []) 0 ≡ Some b
  pub rest : without_first lists ≡ set lists place (drop 1 (get_or lists place []))

pub first_found : (lists : List (List Block)) (b : Block) → first_of lists ≡ Some b → IsFound lists b
first_found [] b found = absurd cc
first_found ([] ∷ lists) b found =
    let later : IsFound lists b = first_found lists b found in
    record { place = suc later.place; lt = omega (arith, later.lt); here = later.here; rest = ap (λ ls. [] ∷ ls) later.rest }
first_found ((x ∷ xs) ∷ lists) b found = record { place = 0; lt = omega arith; here = found; rest = refl }
