-- Another arena of the tests through each call.
use Rattle.std.proofs.Common.{◌≡◌, ℕ, ◌+◌, ◌≤◌, List, [], ◌∷◌, ◌++◌, Some, None, refl, sym, ap, ◌∙◌, subst, arith}
use Rattle.std.specs.Prelude.{vec_capacity}
use Rattle.chunk_tags.specs.BinOrder.{once}
use Rattle.chunk_tags.specs.declared.tiles.TileKind.TheVariants.{Top}
use Rattle.part_words.specs.Extents.{Extent, AreOpen, extended}
use Rattle.part_words.proofs.Opening.{AreOpen-range, AreOpen-extended}
use Rattle.address_space.specs.Spaces.{heaps_start}
use Rattle.chunk_image.specs.Rows.{TileRow}
use Rattle.arena_rules.specs.PlainArena.{Plain, HeapWindows, IsSound}
use Rattle.arena_rules.specs.Heaps.{opened_arena, unopened}
use Rattle.arena_rules.specs.HeapPlaces.{AreHeapWindows, IsHeapLength, IsHeapPlaced}
use Rattle.arena_rules.specs.Moves.{tile_of, top_end, top_size, top_start}
use Rattle.arena_rules.proofs.ChunkMoves.{shelved_moved}
use Rattle.arena_rules.proofs.HeapEnds.{heap_dropped_placed}
use Rattle.arena_rules.proofs.HeapPlaces.{IsHeapMove, heap_added_placed, heap_extended_placed, heap_shortened_placed, heap_still, opened_placed, opened_sound}
use Rattle.arena_rules.proofs.Moved.{Moved, none, nothing}
use Rattle.arena_rules.proofs.TopEnds.{heap_cut_placed}
use Rattle.arena_rules.proofs.TopMoves.{cut_moved}
use Rattle.heap_top.specs.Regions.{arena_of, bare_arena, HasTop, IsOther}
use Rattle.heap_top.specs.HeapRanges.{IsHeapGrowth, IsNewHeap}
use Rattle.arena_tests.specs.HeapScenes.{two_windows, one_heap, longer_heap, two_heaps, rest_chunk, free_rest, first_end, heap_again, shorter_heap, heap_words, IsHeapScene}
use Rattle.heap_top.specs.declared.regions.Regions.{Regions}
use Rattle.arena_tests.proofs.MainScenes.{part}
use Rattle.heap_top.proofs.TopLaws.{heaps_beside, knows_top}

-- ---- the arenas

pub windows_fit : AreHeapWindows two_windows
windows_fit = record { whole = refl; least = omega arith; most = omega arith; heaps = omega arith }

pub opened_length : IsHeapLength two_windows 8192
opened_length = record { whole = refl; some = omega arith; window = omega arith }

pub sound_opened : IsSound (opened_arena (unopened 1 two_windows) 8192)
sound_opened = opened_sound 1 two_windows 8192 windows_fit opened_length

pub placed_opened : IsHeapPlaced (opened_arena (unopened 1 two_windows) 8192) []
placed_opened = opened_placed 1 two_windows 8192 (omega arith) (omega arith) windows_fit opened_length (omega arith)

pub sound_heap : IsSound one_heap
sound_heap = (cut_moved (opened_arena (unopened 1 two_windows) 8192) (tile_of Top (heaps_start + 2240) 5952) 1024 sound_opened refl (omega arith, omega arith) (omega arith)).sound

pub placed_heap : IsHeapPlaced one_heap []
placed_heap = heap_cut_placed (opened_arena (unopened 1 two_windows) 8192) [] 1024 sound_opened placed_opened (omega arith, omega arith) (omega arith)

longer : IsHeapMove one_heap longer_heap [] None nothing (λ v. v (top_end one_heap) 4096)
longer = heap_extended_placed one_heap [] 4096 sound_heap placed_heap (omega arith) refl (omega arith)

pub sound_longer : IsSound longer_heap
sound_longer = longer.gains.sound

pub sound_heaps : IsSound two_heaps
sound_heaps = (heap_added_placed longer_heap [] 8192 sound_longer longer.placed opened_length (omega arith)).gains.sound

pub placed_heaps : IsHeapPlaced two_heaps (12288 ∷ [])
placed_heaps = (heap_added_placed longer_heap [] 8192 sound_longer longer.placed opened_length (omega arith)).placed

rest_freed : Moved two_heaps free_rest (λ e. once e rest_chunk) none nothing nothing
rest_freed = shelved_moved two_heaps rest_chunk sound_heaps refl (record { before = refl; behind = refl; top = refl })

pub sound_rest : IsSound free_rest
sound_rest = rest_freed.sound

pub placed_rest : IsHeapPlaced free_rest (12288 ∷ [])
placed_rest = heap_still two_heaps free_rest _ _ (12288 ∷ []) rest_freed refl refl placed_heaps

dropped : IsHeapMove free_rest heap_again [] None (λ v. v (top_start free_rest) (top_size free_rest)) nothing
dropped = (heap_dropped_placed free_rest [] 12288 first_end sound_rest placed_rest refl).drop

pub sound_again : IsSound heap_again
sound_again = dropped.gains.sound

pub placed_again : IsHeapPlaced heap_again []
placed_again = dropped.placed

pub sound_shorter : IsSound shorter_heap
sound_shorter = (heap_shortened_placed heap_again [] 4096 sound_again placed_again (omega arith) refl).gains.sound

pub placed_longer : IsHeapPlaced longer_heap []
placed_longer = longer.placed

-- ---- words

no_words : Extent
no_words = record { base = heaps_start; width = 4096; words = [] }

first_words : AreOpen heap_words heaps_start 65536
unfolding no_words
first_words =
    AreOpen-extended (extended no_words heaps_start 65536) (heaps_start + 65536) 65536 heaps_start 65536
    (AreOpen-range no_words heaps_start 65536 (record { place = refl; whole = refl; fits = omega arith }))

second_words : AreOpen heap_words (heaps_start + 65536) 65536
unfolding no_words
second_words = AreOpen-range (extended no_words heaps_start 65536) (heaps_start + 65536) 65536 (record { place = refl; whole = refl; fits = omega arith })

-- ---- a call

-- regions seen without bins
bare_is : (r : Regions) (w : TileRow) (a : Plain) (closed : List ℕ) → IsHeapScene r w a closed → bare_arena r w.tiles ≡ record a { bins = []; last = None }
bare_is r w a closed g = ap (λ (x : Plain). record x { bins = []; last = None }) g.arena

pub other_scene : (r : Regions) (w : TileRow) (a : Plain) (closed : List ℕ) → IsHeapScene r w a closed → IsHeapPlaced a closed → IsOther r w.tiles
other_scene r w a closed g placed = record {
  known = g.known;
  placed = subst (IsHeapPlaced (bare_arena r w.tiles)) (sym g.closed) (subst (λ x. IsHeapPlaced x closed) (sym (bare_is r w a closed g)) (heaps_beside a closed [] None a.most placed));
  room = g.room;
}

pub scene_next : (r s : Regions) (w v : TileRow) (a new : Plain) (closed lens : List ℕ) → IsHeapScene r w a closed → IsSound new → new.windows ≡ a.windows → arena_of s v.tiles new.bins new.last ≡ new → s.closed.items ≡ lens → vec_capacity r.closed ≤ vec_capacity s.closed → HasTop s.top v.tiles → v.extent ≡ w.extent → IsHeapScene s v new lens
scene_next r s w v a new closed lens g sound windows is lengths room top extent =
    let heaps : s.heaps ≡ r.heaps = ap (λ (x : Plain). x.windows.heaps) is ∙ (ap (λ (x : HeapWindows). x.heaps) windows ∙ sym (ap (λ (x : Plain). x.windows.heaps) g.arena)) in
    record {
      arena = is;
      closed = lengths;
      known = knows_top (arena_of s v.tiles new.bins new.last) s.top (subst IsSound (sym is) sound) top;
      room = omega (arith, heaps, room, g.room);
      words = extent ∙ g.words;
    }

-- a list of one entry, as others with one behind them
pub none_left : (xs : List ℕ) (n m : ℕ) → n ∷ [] ≡ xs ++ m ∷ [] → xs ≡ []
none_left [] n m e = refl
none_left (x ∷ []) n m e = absurd cc
none_left (x ∷ y ∷ xs) n m e = absurd cc

pub extension_range : (r : Regions) (w : TileRow) → IsHeapScene r w one_heap [] → IsHeapGrowth w.extent (bare_arena r w.tiles) 4096
extension_range r w g =
    let here : IsHeapGrowth heap_words (record one_heap { bins = []; last = None }) 4096 = record {
      words = part heap_words heaps_start 65536 (heaps_start + 8192) 4096 first_words (omega arith) refl (omega arith);
      some = omega arith;
      pages = refl;
      window = omega arith;
    } in
    subst (λ e. IsHeapGrowth e (bare_arena r w.tiles) 4096) (sym g.words) (subst (λ x. IsHeapGrowth heap_words x 4096) (sym (bare_is r w one_heap [] g)) here)

pub new_range : (r : Regions) (w : TileRow) → IsHeapScene r w longer_heap [] → IsNewHeap w.extent (bare_arena r w.tiles) 8192
new_range r w g =
    let here : IsNewHeap heap_words (record longer_heap { bins = []; last = None }) 8192 = record {
      words = part heap_words (heaps_start + 65536) 65536 (heaps_start + 65536) 8192 second_words (omega arith) refl (omega arith);
      length = opened_length;
      window = omega arith;
    } in
    subst (λ e. IsNewHeap e (bare_arena r w.tiles) 8192) (sym g.words) (subst (λ x. IsNewHeap heap_words x 8192) (sym (bare_is r w longer_heap [] g)) here)
