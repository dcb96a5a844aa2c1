-- Memory that is missing behind the first part of a text is missing for the whole, and what stood in front stays there.
use Rattle.std.proofs.Common.{◌≡◌, ℕ, ◌<◌, ◌≤◌, List, ◌++◌, length, get_or, take, refl, sym, ap, ◌∙◌, arith, length-append}
use Rattle.std.specs.Prelude.{Result, Ok, Err, OnErr, vec_capacity}
use Rattle.std.specs.Global.{Vec}
use Rattle.std.specs.List.{flat_map}
use Rattle.std.proofs.lemmas.List.Folds.{length-flat_map-take}
use Rattle.std.proofs.lemmas.List.{take-take, take_at}
use Rattle.stats_text.specs.Appends.{LacksRoom, KeepsText}

pub when_err : {A E P : Type 0} (r : Result A E) → P → OnErr r P
when_err (Ok x) p = tt
when_err (Err e) p = p

-- a text made of pieces, of which the first were appended and the next had no room
pub lacks_more : {X : Type 0} (f : X → List ℕ) (xs : List X) (i : ℕ) (x d : X) (old mid : Vec ℕ) → x ≡ get_or xs i d → i < length xs → mid.items ≡ old.items ++ flat_map f (take i xs) → vec_capacity old ≤ vec_capacity mid → LacksRoom mid (f x) → LacksRoom old (flat_map f xs)
lacks_more f xs i x d old mid is lt text room lacks =
    omega (
      arith,
      ap length text,
      length-append old.items (flat_map f (take i xs)),
      length-flat_map-take f xs i d lt,
      ap (λ y. length (f y)) is,
      room,
      lacks,
    )

pub kept_more : (old mid new : Vec ℕ) (text : List ℕ) → mid.items ≡ old.items ++ text → vec_capacity old ≤ vec_capacity mid → KeepsText mid new → KeepsText old new
kept_more old mid new text is room kept =
    let shorter : length old.items ≤ length mid.items = omega (arith, ap length is, length-append old.items text) in (
      sym (take-take (length old.items) (length mid.items) new.items shorter)
          ∙ ap (take (length old.items)) (kept.0 ∙ is)
          ∙ take_at old.items text (length old.items) refl,
      omega (arith, room, kept.1),
    )
