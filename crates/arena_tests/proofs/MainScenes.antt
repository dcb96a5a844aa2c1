-- Main of the tests through each call.
use Rattle.std.proofs.Common.{◌≡◌, ℕ, ◌+◌, ◌-◌, ◌/◌, ◌%◌, ◌≤◌, [], None, refl, sym, ◌∙◌, subst, arith}
use Rattle.part_words.specs.Extents.{Extent, AreOpen, extended}
use Rattle.part_words.proofs.Opening.{AreOpen-range, AreOpen-extended, AreOpen-drop, AreOpen-take}
use Rattle.address_space.specs.Spaces.{main_start, piece_start}
use Rattle.chunk_image.specs.Rows.{TileRow}
use Rattle.arena_rules.specs.PlainArena.{Plain, IsSound, empty_bins, empty_main}
use Rattle.arena_rules.specs.Growth.{noted}
use Rattle.arena_rules.specs.MainPlaces.{IsMainPlaced}
use Rattle.arena_rules.proofs.MainPlaces.{empty_placed, placed_beside}
use Rattle.arena_rules.proofs.Moved.{sound_empty, sound_as}
use Rattle.heap_top.specs.declared.regions.Regions.{Regions}
use Rattle.heap_top.specs.Regions.{arena_of, HasTop}
use Rattle.arena_tests.specs.MainScenes.{IsScene, scene_words}
use Rattle.heap_top.proofs.MainMoves.{IsMainKept}
use Rattle.heap_top.proofs.TopLaws.{knows_top}

-- ---- before the first growth

pub scene_start : (r : Regions) (w : TileRow) → arena_of r [] empty_bins None ≡ empty_main → r.top ≡ None → w ≡ record { tiles = []; extent = scene_words } → IsScene r w
scene_start r w arena top is =
    let here : IsScene r (record { tiles = []; extent = scene_words }) = record {
      sound = subst IsSound (sym arena) sound_empty;
      placed = subst IsMainPlaced (sym arena) empty_placed;
      known = record { row = tt; is = sym top };
      words = refl;
    } in
    subst (IsScene r) (sym is) here

-- ---- words

no_words : Extent
no_words = record { base = main_start; width = (piece_start - main_start) / 16; words = [] }

break_words : AreOpen scene_words main_start 262144
unfolding no_words
break_words =
    AreOpen-extended (extended no_words main_start 262144) piece_start 2097152 main_start 262144
    (AreOpen-range no_words main_start 262144 (record { place = refl; whole = refl; fits = omega arith }))

piece_words : AreOpen scene_words piece_start 2097152
unfolding no_words
piece_words = AreOpen-range (extended no_words main_start 262144) piece_start 2097152 (record { place = refl; whole = refl; fits = omega arith })

pub part : (e : Extent) (from long at len : ℕ) → AreOpen e from long → from ≤ at → (at - from) % 16 ≡ 0 → at + len ≤ from + long → AreOpen e at len
part e from long at len words ge whole le =
    let rest : AreOpen e (from + (at - from)) (long - (at - from)) = AreOpen-drop e from long (at - from) whole words in
    let here : from + (at - from) ≡ at = omega (arith, ge) in
    AreOpen-take e at (long - (at - from)) len (omega (arith, ge, le)) (subst (λ n. AreOpen e n (long - (at - from))) here rest)

pub break_part : (w : TileRow) (at len : ℕ) → w.extent ≡ scene_words → main_start ≤ at → at % 4096 ≡ 0 → at + len ≤ main_start + 262144 → AreOpen w.extent at len
break_part w at len is ge page le =
    subst (λ e. AreOpen e at len) (sym is) (part scene_words main_start 262144 at len break_words ge (omega (arith, ge, page)) le)

pub piece_part : (w : TileRow) (at len : ℕ) → w.extent ≡ scene_words → piece_start ≤ at → at % 4096 ≡ 0 → at + len ≤ piece_start + 2097152 → AreOpen w.extent at len
piece_part w at len is ge page le =
    subst (λ e. AreOpen e at len) (sym is) (part scene_words piece_start 2097152 at len piece_words ge (omega (arith, ge, page)) le)

-- ---- a call

pub bare_scene : (r : Regions) (w : TileRow) → IsScene r w → IsMainPlaced (arena_of r w.tiles [] None)
bare_scene r w g = placed_beside (arena_of r w.tiles empty_bins None) [] None r.most g.placed

pub scene_next : (r s : Regions) (w v : TileRow) (new : Plain) → IsScene r w → IsMainKept (arena_of r w.tiles empty_bins None) new → arena_of s v.tiles empty_bins None ≡ new → HasTop s.top v.tiles → v.extent ≡ w.extent → IsScene s v
scene_next r s w v new g kept is top extent =
    let sound : IsSound (arena_of s v.tiles empty_bins None) = subst IsSound (sym is) kept.sound in
    record {
      sound = sound;
      placed = subst IsMainPlaced (sym is) kept.placed;
      known = knows_top (arena_of s v.tiles empty_bins None) s.top sound top;
      words = extent ∙ g.words;
    }

pub scene_noted : (r s : Regions) (w : TileRow) → IsScene r w → s.top ≡ r.top → arena_of s w.tiles empty_bins None ≡ noted (arena_of r w.tiles empty_bins None) → IsScene s w
scene_noted r s w g top is =
    let a : Plain = arena_of r w.tiles empty_bins None in
    record {
      sound = subst IsSound (sym is) (sound_as a (noted a) refl refl g.sound);
      placed = subst IsMainPlaced (sym is) (placed_beside a empty_bins None (noted a).most g.placed);
      known = record { row = g.known.row; is = g.known.is ∙ sym top };
      words = g.words;
    }
