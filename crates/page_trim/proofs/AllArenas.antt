-- The loop over arenas: those that are left, with their lists.
use Rattle.std.proofs.Common.{◌≡◌, ℕ, suc, ◌+◌, ◌*◌, ◌<◌, List, [], ◌∷◌, ◌++◌, map, take, drop, length, get_or, set, drop-cons, length-drop, refl, sym, ap, ◌∙◌, subst, append_assoc, arith}
use Rattle.std.specs.Global.{Vec}
use Rattle.std.proofs.lemmas.List.{take-map, drop-map}
use Rattle.arena_core.specs.declared.arena.Arena.{Arena}
use Rattle.arena_ground.specs.Grounds.{GroundView}
use Rattle.arena_rules.specs.PlainArena.{Plain}
use Rattle.page_trim.specs.Trimming.{AreListed, AreAllListed, Trim, numbered_trim, plains_of, trims_of}

-- So far these were given up, and these lists and arenas are left.
pub record IsTrimming (pad : ℕ) (lists : List (List ℕ)) (arenas : List Plain) (done : List (ℕ × Trim)) (left : List (List ℕ)) (rest : List Plain) : Type 0 where
  pub all : done ++ trims_of pad left rest ≡ trims_of pad lists arenas
  pub listed : AreAllListed left rest
  pub ten : length left ≡ 10 * length rest

pub trimming_begins : (pad : ℕ) (lists : List (List ℕ)) (arenas : List Plain) → AreAllListed lists arenas → length lists ≡ 10 * length arenas → IsTrimming pad lists arenas [] lists arenas
trimming_begins pad lists arenas listed ten = record { all = refl; listed = listed; ten = ten }

pub next_listed : (pad : ℕ) (lists : List (List ℕ)) (arenas : List Plain) (done : List (ℕ × Trim)) (left : List (List ℕ)) (rest more : List Plain) (a : Plain) → IsTrimming pad lists arenas done left rest → rest ≡ a ∷ more → AreListed (take 10 left) a
next_listed pad lists arenas done left rest more a t e = (subst (AreAllListed left) e t.listed).0

pub trimming_further : (pad : ℕ) (lists : List (List ℕ)) (arenas : List Plain) (done all : List (ℕ × Trim)) (left : List (List ℕ)) (rest more : List Plain) (a : Plain) → IsTrimming pad lists arenas done left rest → rest ≡ a ∷ more → all ≡ done ++ numbered_trim pad (take 10 left) a ∷ [] →
    IsTrimming pad lists arenas all (drop 10 left) more
trimming_further pad lists arenas done all left rest more a t e is =
    let here : IsTrimming pad lists arenas done left (a ∷ more) = subst (IsTrimming pad lists arenas done left) e t in
    record {
      all = ap (λ xs. xs ++ trims_of pad (drop 10 left) more) is ∙ (append_assoc done (numbered_trim pad (take 10 left) a ∷ []) (trims_of pad (drop 10 left) more) ∙ here.all);
      listed = here.listed.1;
      ten = omega (arith, here.ten, length-drop 10 left);
    }

-- the first arena that is left
pub first_left : (arenas : List (Arena GroundView)) (index : ℕ) (a : Arena GroundView) → index < length arenas → a ≡ get_or arenas index a →
    plains_of (drop index arenas) ≡ a.ground.value.arena ∷ plains_of (drop (index + 1) arenas)
first_left arenas index a within is =
    let next : suc index ≡ index + 1 = omega arith in
    ap plains_of (drop-cons arenas index a within)
    ∙ (ap (λ (x : Arena GroundView). x.ground.value.arena ∷ plains_of (drop (suc index) arenas)) (sym is)
    ∙ ap (λ n. a.ground.value.arena ∷ plains_of (drop n arenas)) next)

-- the lists that are cut off in front, and those that are left
pub front_items : (v split : List (Vec ℕ)) → split ≡ take 10 v → take 10 (map (λ l. l.items) v) ≡ map (λ l. l.items) split
front_items v split e = take-map (λ (l : Vec ℕ). l.items) 10 v ∙ ap (map (λ (l : Vec ℕ). l.items)) (sym e)

pub back_items : (v split : List (Vec ℕ)) → split ≡ drop 10 v → drop 10 (map (λ l. l.items) v) ≡ map (λ l. l.items) split
back_items v split e = drop-map (λ (l : Vec ℕ). l.items) 10 v ∙ ap (map (λ (l : Vec ℕ). l.items)) (sym e)
