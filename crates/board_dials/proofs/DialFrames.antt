-- Dials where another word changes, and a view in what isn't of dials.
use Rattle.std.proofs.Common.{◌≡◌, ℕ, ◌+◌, ◌<◌, ◌≤◌, ◌⊎◌, ⊎_elim, List, map, set, sym, subst}
use mathlib.Core.Option.{some}
use lib.ListN.{get_elem?}
use Rattle.chunk_tags.specs.declared.tunables.Tunables.{Tunables}
use Rattle.board_types.specs.Layouts.{window, dials_at}
use Rattle.board_types.specs.Views.{ViewValue}
use Rattle.board_types.specs.Trays.{Tray}
use Rattle.board_types.specs.Dials.{Dials, Counting}
use Rattle.board_types.specs.Law.{dials_of}
use Rattle.board_types.proofs.Lists.{same_field, window_past, window_below}

pub dials_stand : (t : Tunables) (trays : List Tray) (words : List ℕ) (views : List ViewValue) (i n p : ℕ) (v w : ViewValue) → (i < dials_at) ⊎ (dials_at + 6 ≤ i) → get_elem? views p ≡ some v → dials_of w ≡ dials_of v
    → Dials t trays (window dials_at 6 words) (map dials_of views) → Dials t trays (window dials_at 6 (set words i n)) (map dials_of (set views p w))
dials_stand t trays words views i n p v w past at same h =
    let words_same : window dials_at 6 (set words i n) ≡ window dials_at 6 words = ⊎_elim (λ l. window_below dials_at 6 i words n l) (λ l. window_past dials_at 6 i words n l) past in
    let views_same = same_field dials_of views p v w at same in
    subst (λ (s : List ℕ × List Counting). Dials t trays s.0 s.1) (λ j. (sym words_same j, sym views_same j)) h
