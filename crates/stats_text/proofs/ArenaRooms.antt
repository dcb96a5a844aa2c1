-- Memory that is missing behind the text of the first bins or arenas is missing for that of all.
use Rattle.std.proofs.Common.{◌≡◌, ℕ, zero, suc, ◌+◌, ◌<◌, ◌≤◌, Bool, true, List, [], ◌∷◌, ◌++◌, length, get_or, take, refl, ap, ◌∙◌, arith, length-append}
use Rattle.std.specs.Prelude.{vec_capacity, All, ◌==◌, filter, map, if◌then◌else◌}
use Rattle.std.specs.Global.{Vec}
use Rattle.std.specs.List.{flat_map}
use Rattle.std.proofs.lemmas.Grind.{flat_map-append}
use Rattle.stats_text.specs.Appends.{LacksRoom}
use Rattle.stats_text.proofs.Rooms.{lacks_more}
use Rattle.stats_text.specs.Views.{Arena, lists_of}
use Rattle.stats_text.specs.Totals.{arena_totals, all_arena_totals, in_list_order}
use Rattle.stats_text.proofs.ListOrder.{at_first_places, next_place, all_places}

-- pieces that are made of what lies in lists of their own
pub flat_map-map : {X Y : Type 0} (f : Y → List ℕ) (g : X → Y) (xs : List X) → flat_map f (map g xs) ≡ flat_map (λ x. f (g x)) xs
flat_map-map f g [] = refl
flat_map-map f g (x ∷ xs) = ap (λ rest. f (g x) ++ rest) (flat_map-map f g xs)

pub lacks_lists : (f : ℕ × List ℕ → List ℕ) (bins : List (ℕ × Vec ℕ)) (i : ℕ) (bin : ℕ × Vec ℕ) (old mid : Vec ℕ) → bin ≡ get_or bins i bin → i < length bins → mid.items ≡ old.items ++ flat_map f (lists_of (take i bins)) → vec_capacity old ≤ vec_capacity mid → LacksRoom mid (f (bin.0, bin.1.items)) → LacksRoom old (flat_map f (lists_of bins))
lacks_lists f bins i bin old mid is lt text room lacks =
    let list_of : ℕ × Vec ℕ → ℕ × List ℕ = λ b. (b.0, b.1.items) in
    rw (flat_map-map f list_of bins) (
    lacks_more (λ b. f (list_of b)) bins i bin bin old mid is lt (text ∙ ap (λ rest. old.items ++ rest) (flat_map-map f list_of (take i bins))) room lacks
    )

-- the pieces of those that a test lets through
abbrev pub piece_if : {X : Type 0} → (X → Bool) → (X → List ℕ) → X → List ℕ
piece_if p f x = if p x then f x else []

pub flat_map-filter : {X : Type 0} (p : X → Bool) (f : X → List ℕ) (xs : List X) → flat_map f (filter p xs) ≡ flat_map (piece_if p f) xs
flat_map-filter p f [] = refl
flat_map-filter p f (x ∷ xs) = let rest = flat_map-filter p f xs in grind arith

pub lacks_those : (p : Arena → Bool) (arenas : List Arena) (i : ℕ) (a : Arena) (old mid : Vec ℕ) → a ≡ get_or arenas i a → i < length arenas → p a ≡ true → mid.items ≡ old.items ++ all_arena_totals (filter p (take i arenas)) → vec_capacity old ≤ vec_capacity mid → LacksRoom mid (arena_totals a) → LacksRoom old (all_arena_totals (filter p arenas))
unfolding all_arena_totals
lacks_those p arenas i a old mid is lt passes text room lacks =
    let here : piece_if p arena_totals a ≡ arena_totals a = ap (λ (b : Bool). if b then arena_totals a else []) passes in
    rw (flat_map-filter p arena_totals arenas) (
    lacks_more (piece_if p arena_totals) arenas i a a old mid is lt
    (text ∙ ap (λ rest. old.items ++ rest) (flat_map-filter p arena_totals (take i arenas)))
    room
    (rw here lacks)
    )

-- the text of the arenas at the first places grows with the places
longer : (arenas : List Arena) (places more : ℕ) → length (all_arena_totals (at_first_places places arenas)) ≤ length (all_arena_totals (at_first_places (places + more) arenas))
unfolding all_arena_totals
longer arenas places zero = let e : places + zero ≡ places = omega arith in rw e (omega arith)
longer arenas places (suc more) =
    let e : places + suc more ≡ places + more + 1 = omega arith in
    let first : List Arena = at_first_places (places + more) arenas in
    let next : List Arena = filter (λ a. a.list == (places + more)) arenas in
    let split = ap length (ap (flat_map arena_totals) (next_place arenas (places + more)) ∙ flat_map-append arena_totals first next) in
    rw e (omega (arith, split, length-append (flat_map arena_totals first) (flat_map arena_totals next), longer arenas places more))

pub lacks_first : (arenas : List Arena) (place places more : ℕ) (old mid : Vec ℕ) → place + 1 + more ≡ places → All (λ a. a.list < places) arenas → mid.items ≡ old.items ++ all_arena_totals (at_first_places place arenas) → vec_capacity old ≤ vec_capacity mid → LacksRoom mid (all_arena_totals (filter (λ a. a.list == place) arenas)) → LacksRoom old (all_arena_totals (in_list_order arenas))
unfolding all_arena_totals
lacks_first arenas place places more old mid is all text room lacks =
    let first : List Arena = at_first_places place arenas in
    let next : List Arena = filter (λ a. a.list == place) arenas in
    let split = ap length (ap (flat_map arena_totals) (next_place arenas place) ∙ flat_map-append arena_totals first next) in
    let whole = ap (λ listed. length (flat_map arena_totals listed)) (ap (λ n. at_first_places n arenas) is ∙ all_places arenas places all) in
    omega (
      arith,
      ap length text,
      length-append old.items (flat_map arena_totals first),
      split,
      length-append (flat_map arena_totals first) (flat_map arena_totals next),
      longer arenas (place + 1) more,
      whole,
      room,
      lacks,
    )
