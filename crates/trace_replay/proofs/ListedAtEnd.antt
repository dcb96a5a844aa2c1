-- The fast bins at the end of a run have used chunks of their arenas, and what is given up of these is that of the world.
use Rattle.std.proofs.Common.{◌≡◌, ℕ, suc, ◌+◌, List, [], ◌∷◌, ◌++◌, map, take, drop, length, Option, Some, None, refl, sym, ap, ◌∙◌, subst, arith}
use Rattle.std.specs.Prelude.{IfSome, slice_get}
use Rattle.std.specs.List.{flat_map}
use Rattle.std.proofs.Math.Seq.{take-append_seam, drop-append_seam}
use Rattle.std.proofs.lemmas.List.{length-map}
use Rattle.chunk_tags.specs.BinOrder.{times_in, fast_chunk}
use Rattle.chunk_tags.specs.declared.block.Block.{Block}
use Rattle.chunk_tags.specs.declared.tiles.Chunk.{Chunk}
use Rattle.arena_choice.specs.Books.{BookValue}
use Rattle.arena_core.specs.declared.arena.Arena.{Arena}
use Rattle.arena_ground.specs.Grounds.{GroundView}
use Rattle.arena_rules.specs.PlainArena.{Plain}
use Rattle.fast_bins.specs.PlainBins.{FastBin, listed, chunks_from}
use Rattle.malloc_calls.specs.declared.thread.Thread.{Thread}
use Rattle.mapped_chunks.specs.declared.plain.DialState.{DialState}
use Rattle.page_trim.specs.Trimming.{AreListed, AreAllListed, chunks_listed, plains_of}
use Rattle.serial_places.specs.SerialWays.{SerialState, EndsAs, slot_in}
use Rattle.world_view.specs.Places.{fast_lists}
use Rattle.world_view.specs.Scenes.{ArenaScene, Scene, AreArenas}
use Rattle.world_view.specs.Shows.{IsWholeArena}
use Rattle.trace_replay.specs.Processes.{world_with}
use Rattle.trace_replay.specs.SerialText.{trim_lines, trim_section}
use Rattle.trace_replay.specs.Tiling.{IsTiled}
use Rattle.trace_replay.specs.Views.{scene_of}
use Rattle.trace_replay.specs.World.{World}
use Rattle.trace_replay.proofs.Snapshots.{scenes_of, are_arenas}

chunks_are : (k : ℕ) (bins : List FastBin) → chunks_listed k (map listed bins) ≡ chunks_from k bins
chunks_are k [] = refl
chunks_are k (b ∷ bins) = ap (λ (cs : List Chunk). map (fast_chunk k) (listed b) ++ cs) (chunks_are (k + 1) bins)

whole_listed : (s : Scene) (a : ArenaScene) → IsWholeArena s a → AreListed (fast_lists a.fast) a.arena
whole_listed s a w = record {
  sound = w.sound;
  used = λ e. omega (arith, w.each e, ap (times_in e) (chunks_are 0 a.fast.bins));
}

all_listed : (s : Scene) (arenas : List ArenaScene) → ((i : ℕ) (a : ArenaScene) → slice_get arenas i ≡ Some a → IsWholeArena s a) →
    AreAllListed (flat_map (λ (a : ArenaScene). fast_lists a.fast) arenas) (map (λ (a : ArenaScene). a.arena) arenas)
all_listed s [] each = tt
all_listed s (a ∷ arenas) each =
    let w : IsWholeArena s a = each 0 a refl in
    let mine : List (List ℕ) = fast_lists a.fast in
    let more : List (List ℕ) = flat_map (λ (x : ArenaScene). fast_lists x.fast) arenas in
    let ten : length mine ≡ 10 = length-map a.fast.bins listed ∙ w.ten in
    let front : take 10 (mine ++ more) ≡ mine = subst (λ n. take n (mine ++ more) ≡ mine) ten (take-append_seam mine more) in
    let back : drop 10 (mine ++ more) ≡ more = subst (λ n. drop n (mine ++ more) ≡ more) ten (drop-append_seam mine more) in (
      subst (λ ls. AreListed ls a.arena) (sym front) (whole_listed s a w),
      subst (λ ls. AreAllListed ls (map (λ (x : ArenaScene). x.arena) arenas)) (sym back) (all_listed s arenas (λ i x at. each (suc i) x at)),
    )

-- what places have at the end is listed so
pub end_listed : {K : Type 0} (threads : List (Thread K)) (st : SerialState) (arenas : List (Arena GroundView)) (fast : List (List ℕ)) (book : BookValue) (trays : List (ℕ × Block)) (words : DialState) → EndsAs st arenas fast book trays words →
    ((n : ℕ) → IfSome (slot_in st.slots n) (λ s. length s.bins.bins ≡ 10)) → IsTiled (world_with threads st) → AreAllListed fast (plains_of arenas)
end_listed threads st arenas fast book trays words ends ten tiled =
    let are : AreArenas (scenes_of st.slots) (plains_of arenas) fast = are_arenas st arenas fast book trays words ends ten in
    subst (λ ls. AreAllListed ls (plains_of arenas)) are.lists_are
    (subst (AreAllListed (flat_map (λ (a : ArenaScene). fast_lists a.fast) (scenes_of st.slots))) are.arenas_are
    (all_listed (scene_of [] (world_with threads st)) (scenes_of st.slots) tiled.whole.arenas))

-- and what is given up of it is that of its world
pub end_trimmed : {K : Type 0} (threads : List (Thread K)) (st : SerialState) (arenas : List (Arena GroundView)) (fast : List (List ℕ)) (book : BookValue) (trays : List (ℕ × Block)) (words : DialState) (trim : Option ℕ) (list numbers : List ℕ) → EndsAs st arenas fast book trays words →
    ((n : ℕ) → IfSome (slot_in st.slots n) (λ s. length s.bins.bins ≡ 10)) → list ≡ book.list → trim_lines trim list fast (plains_of arenas) ≡ trim_section trim (scene_of numbers (world_with threads st))
end_trimmed threads st arenas fast book trays words trim list numbers ends ten is =
    let are : AreArenas (scenes_of st.slots) (plains_of arenas) fast = are_arenas st arenas fast book trays words ends ten in
    ap (λ ls. trim_lines trim list ls (plains_of arenas)) (sym are.lists_are)
    ∙ (ap (trim_lines trim list (flat_map (λ (a : ArenaScene). fast_lists a.fast) (scenes_of st.slots))) (sym are.arenas_are)
    ∙ ap (λ ns. trim_lines trim ns (flat_map (λ (a : ArenaScene). fast_lists a.fast) (scenes_of st.slots)) (map (λ (a : ArenaScene). a.arena) (scenes_of st.slots))) (is ∙ ap (λ (b : BookValue). b.list) ends.book_is))
