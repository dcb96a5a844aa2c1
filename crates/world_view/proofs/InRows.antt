-- Arenas one after another are those of a scene.
use Rattle.std.proofs.Common.{◌≡◌, ℕ, zero, suc, ◌+◌, ◌*◌, ◌<◌, ◌≤◌, List, [], ◌∷◌, ◌++◌, map, length, get_or, fold, refl, sym, ap, ◌∙◌, append_assoc, arith}
use Rattle.std.specs.List.{AllByRecursion, flat_map, range_with_len}
use Rattle.std.proofs.lemmas.List.Sums.{fold-append}
use Rattle.std.proofs.lemmas.List.{get_or-append-add, get_or_append_left, length-append, length-map}
use Rattle.fast_bins.specs.PlainBins.{listed}
use Rattle.arena_rules.specs.PlainArena.{Plain}
use Rattle.stats_text.specs.Views.{Arena}
use Rattle.world_view.specs.Places.{Placed, FoundAt, finds_of, fast_lists, fast_of, ten_lists, bins_of, binned, finds_found, nothing_found, put_found, found_by_address}
use Rattle.world_view.specs.Scenes.{ArenaScene, Scene, AreArenas, all_binned, all_found, arena_shown, shown_arena}
use Rattle.world_view.specs.Rows.{fast_at, fast_bin_at, binned_from, arenas_from}

-- functions that agree on a range
same_on : {X : Type 0} (f g : ℕ → X) (from count : ℕ) → ((k : ℕ) → from ≤ k → k < from + count → f k ≡ g k) → map f (range_with_len from count) ≡ map g (range_with_len from count)
same_on f g from zero same = refl
same_on f g from (suc count) same =
    ap (λ x. x ∷ map f (range_with_len (from + 1) count)) (same from (omega arith) (omega arith))
    ∙ ap (λ rest. g from ∷ rest) (same_on f g (from + 1) count (λ k low high. same k (omega arith) (omega arith)))

-- ten lists behind those of the arenas before
ten_at : (front ten rest : List (List ℕ)) (index : ℕ) → length front ≡ 10 * index → length ten ≡ 10 → fast_at (front ++ (ten ++ rest)) index ≡ ten_lists ten
unfolding fast_at ten_lists
ten_at front ten rest index before is =
    same_on (fast_bin_at (front ++ (ten ++ rest)) index) (λ number. (number, get_or ten number [])) 0 10 (λ k low high.
    ap (λ (ats : List ℕ). (k, ats))
    (ap (λ n. get_or (front ++ (ten ++ rest)) (n + k) []) (sym before)
    ∙ get_or-append-add front (ten ++ rest) k []
    ∙ get_or_append_left ten rest [] k (omega arith)))

-- the lists of the fast chunks of arenas
abbrev all_lists : List ArenaScene → List (List ℕ)
all_lists scenes = flat_map (λ s. fast_lists s.fast) scenes

abbrev plains : List ArenaScene → List Plain
plains scenes = map (λ s. s.arena) scenes

abbrev HaveTen : List ArenaScene → Type 0
HaveTen scenes = AllByRecursion (λ s. length s.fast.bins ≡ 10) scenes

first_ten : (front : List (List ℕ)) (index : ℕ) (s : ArenaScene) (scenes : List ArenaScene) → length front ≡ 10 * index → length s.fast.bins ≡ 10 → fast_at (front ++ all_lists (s ∷ scenes)) index ≡ fast_of s.fast
first_ten front index s scenes before ten = ten_at front (fast_lists s.fast) (all_lists scenes) index before (length-map s.fast.bins listed ∙ ten)

-- those of the next arena stand in front then
next_front : (front : List (List ℕ)) (s : ArenaScene) (scenes : List ArenaScene) → front ++ all_lists (s ∷ scenes) ≡ (front ++ fast_lists s.fast) ++ all_lists scenes
next_front front s scenes = sym (append_assoc front (fast_lists s.fast) (all_lists scenes))

next_length : (front : List (List ℕ)) (index : ℕ) (s : ArenaScene) → length front ≡ 10 * index → length s.fast.bins ≡ 10 → length (front ++ fast_lists s.fast) ≡ 10 * (index + 1)
next_length front index s before ten = omega (arith, length-append front (fast_lists s.fast), length-map s.fast.bins listed)

binned_rows : (front : List (List ℕ)) (index : ℕ) (scenes : List ArenaScene) → length front ≡ 10 * index → HaveTen scenes → binned_from (front ++ all_lists scenes) index (plains scenes) ≡ all_binned scenes
binned_rows front index [] before ten = refl
binned_rows front index (s ∷ scenes) before ten =
    let rest : List Placed = binned_from (front ++ all_lists (s ∷ scenes)) (index + 1) (plains scenes) in
    let later : rest ≡ all_binned scenes =
    ap (λ lists. binned_from lists (index + 1) (plains scenes)) (next_front front s scenes)
    ∙ binned_rows (front ++ fast_lists s.fast) (index + 1) scenes (next_length front index s before ten.0) ten.1 in
    ap (λ fast. binned fast (bins_of s.arena) ++ rest) (first_ten front index s scenes before ten.0)
    ∙ ap (λ found. binned (fast_of s.fast) (bins_of s.arena) ++ found) later

shown_rows : (found : FoundAt) (list : List ℕ) (front : List (List ℕ)) (index : ℕ) (scenes : List ArenaScene) → length front ≡ 10 * index → HaveTen scenes →
    arenas_from found list (front ++ all_lists scenes) index (plains scenes) ≡ map (λ s. arena_shown found list (fast_of s.fast) s.arena) scenes
shown_rows found list front index [] before ten = refl
shown_rows found list front index (s ∷ scenes) before ten =
    let rest : List Arena = arenas_from found list (front ++ all_lists (s ∷ scenes)) (index + 1) (plains scenes) in
    let later : rest ≡ map (λ s. arena_shown found list (fast_of s.fast) s.arena) scenes =
    ap (λ lists. arenas_from found list lists (index + 1) (plains scenes)) (next_front front s scenes)
    ∙ shown_rows found list (front ++ fast_lists s.fast) (index + 1) scenes (next_length front index s before ten.0) ten.1 in
    ap (λ fast. arena_shown found list fast s.arena ∷ rest) (first_ten front index s scenes before ten.0)
    ∙ ap (λ arenas. arena_shown found list (fast_of s.fast) s.arena ∷ arenas) later

-- what is in bins, and the arenas as they are shown
rows_binned : (scenes : List ArenaScene) (arenas : List Plain) (lists : List (List ℕ)) → AreArenas scenes arenas lists → binned_from lists 0 arenas ≡ all_binned scenes
rows_binned scenes arenas lists are =
    ap (λ ls. binned_from ls 0 arenas) (sym are.lists_are)
    ∙ ap (λ ps. binned_from (all_lists scenes) 0 ps) (sym are.arenas_are)
    ∙ binned_rows [] 0 scenes refl are.ten

rows_shown : (found : FoundAt) (list : List ℕ) (scenes : List ArenaScene) (arenas : List Plain) (lists : List (List ℕ)) → AreArenas scenes arenas lists →
    arenas_from found list lists 0 arenas ≡ map (λ s. arena_shown found list (fast_of s.fast) s.arena) scenes
rows_shown found list scenes arenas lists are =
    ap (λ ls. arenas_from found list ls 0 arenas) (sym are.lists_are)
    ∙ ap (λ ps. arenas_from found list (all_lists scenes) 0 ps) (sym are.arenas_are)
    ∙ shown_rows found list [] 0 scenes refl are.ten

-- the arenas of a scene, as the code shows them
pub arenas_shown : (s : Scene) (arenas : List Plain) (lists : List (List ℕ)) (list : List ℕ) (found : FoundAt) (views : List Arena) → AreArenas s.arenas arenas lists →
    found ≡ found_by_address (finds_found (finds_of s.owns s.trays)) → list ≡ s.book.list →
    views ≡ arenas_from (fold put_found found (binned_from lists 0 arenas)) list lists 0 arenas → views ≡ map (shown_arena s) s.arenas
unfolding all_found found_by_address
arenas_shown s arenas lists list found views are before order shown =
    let blocks : List Placed = finds_found (finds_of s.owns s.trays) in
    shown
    ∙ ap (λ at. arenas_from (fold put_found at (binned_from lists 0 arenas)) list lists 0 arenas) before
    ∙ ap (λ ns. arenas_from (fold put_found (fold put_found nothing_found blocks) (binned_from lists 0 arenas)) ns lists 0 arenas) order
    ∙ ap (λ binned. arenas_from (fold put_found (fold put_found nothing_found blocks) binned) s.book.list lists 0 arenas) (rows_binned s.arenas arenas lists are)
    ∙ ap (λ at. arenas_from at s.book.list lists 0 arenas) (sym (fold-append put_found nothing_found blocks (all_binned s.arenas)))
    ∙ rows_shown (found_by_address (blocks ++ all_binned s.arenas)) s.book.list s.arenas arenas lists are
