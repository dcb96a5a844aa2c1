-- One list of an open cache is replaced by another.
use Rattle.std.proofs.Common.{◌≡◌, ℕ, ◌<◌, ◌≤◌, List, [], ◌∷◌, map, set, get_or, drop, length, sym, ap, ◌∙◌, subst, arith, Some}
use Rattle.std.specs.Prelude.{IsSome, IsTrue}
use Rattle.std.specs.List.{All}
use Rattle.std.proofs.lemmas.List.{map-set, get_or-map, length-map}
use Rattle.std.proofs.lemmas.List.Elements.{All-set}
use Rattle.chunk_tags.specs.Sizes.{IsChunkSize, cache_index_of}
use Rattle.chunk_tags.specs.declared.block.Block.{Block}
use Rattle.thread_cache.specs.Caches.{has_room, empty_cache_lists}
use Rattle.thread_cache.specs.Held.{IsListAt, IsSoundCache}
use Rattle.thread_cache.specs.Stacks.{Stacked, seen, IsKept}
use Rattle.thread_cache.proofs.CacheLaws.{HasRoomAt, room_at, sound_with, sound_opened, list_at-rest, list_at-more}

-- s is the list at an index below 64 of a cache that is kept
pub record Reads (structure : Block) (count bins : ℕ) (ss : List Stacked) (i : ℕ) (s : Stacked) : Type 0 where
  pub kept : IsKept structure count bins ss
  pub below : i < 64
  pub read : s ≡ get_or ss i s

pub list_seen : (structure : Block) (count bins : ℕ) (ss : List Stacked) (i : ℕ) (s : Stacked) → Reads structure count bins ss i s → get_or (map (λ x. x.blocks) ss) i [] ≡ s.blocks
list_seen structure count bins ss i s r =
    get_or-map (λ x. x.blocks) ss i s [] (omega (arith, r.below, r.kept.sound.width, length-map ss (λ (x : Stacked). x.blocks))) ∙ sym (ap (λ (x : Stacked). x.blocks) r.read)

pub list_at : (structure : Block) (count bins : ℕ) (ss : List Stacked) (i : ℕ) (s : Stacked) → Reads structure count bins ss i s → IsListAt count i s.blocks
list_at structure count bins ss i s r = subst (IsListAt count i) (list_seen structure count bins ss i s r) (r.kept.sound.lists i)

pub room_of : (structure : Block) (count bins : ℕ) (ss : List Stacked) (i : ℕ) (s : Stacked) → Reads structure count bins ss i s → count ≤ s.room
room_of structure count bins ss i s r =
    subst (λ (x : Stacked). count ≤ x.room) (sym r.read) (r.kept.room i s (omega (arith, r.below, r.kept.sound.width, length-map ss (λ (x : Stacked). x.blocks))))

-- the lists that are seen, when one is replaced
pub seen_with : (structure : Block) (count bins : ℕ) (ss : List Stacked) (i : ℕ) (s t : Stacked) → Reads structure count bins ss i s → (f : List Block → List Block) → t.blocks ≡ f s.blocks → map (λ x. x.blocks) (set ss i t) ≡ set (map (λ x. x.blocks) ss) i (f (get_or (map (λ x. x.blocks) ss) i []))
seen_with structure count bins ss i s t r f e =
    map-set (λ x. x.blocks) ss i t ∙ ap (set (map (λ x. x.blocks) ss) i) (e ∙ ap f (sym (list_seen structure count bins ss i s r)))

-- a list with room is put in the place of another
pub kept_with : (structure : Block) (count bins : ℕ) (ss : List Stacked) (i : ℕ) (s t : Stacked) → Reads structure count bins ss i s → IsListAt count i t.blocks → (bins ≤ i → t.blocks ≡ []) → s.room ≤ t.room → IsKept structure count bins (set ss i t)
kept_with structure count bins ss i s t r at unused room = record {
  sound = subst (λ ls. IsSoundCache (record { structure = structure; count = count; bins = bins; lists = ls })) (sym (map-set (λ x. x.blocks) ss i t)) (sound_with (seen structure count bins ss) i t.blocks r.kept.sound r.below at unused);
  room = All-set (λ x. count ≤ x.room) ss i t (omega (arith, room, room_of structure count bins ss i s r)) r.kept.room;
}

pub kept_without : (structure : Block) (count bins : ℕ) (ss : List Stacked) (i : ℕ) (s t : Stacked) → Reads structure count bins ss i s → t.blocks ≡ drop 1 s.blocks → t.room ≡ s.room → IsKept structure count bins (set ss i t)
kept_without structure count bins ss i s t r e room =
    kept_with structure count bins ss i s t r (subst (IsListAt count i) (sym e) (list_at-rest count i s.blocks (list_at structure count bins ss i s r)))
    (λ past. e ∙ ap (λ (blocks : List Block). drop 1 blocks) (sym (list_seen structure count bins ss i s r) ∙ r.kept.sound.unused i past)) (omega (arith, room))

pub kept_more : (structure : Block) (count bins : ℕ) (ss : List Stacked) (b : Block) (s t : Stacked) → Reads structure count bins ss (cache_index_of b.size) s → IsTrue (has_room (Some (seen structure count bins ss)) b.size) → IsChunkSize b.size → IsSome b.arena → t.blocks ≡ b ∷ s.blocks → s.room ≤ t.room → IsKept structure count bins (set ss (cache_index_of b.size) t)
kept_more structure count bins ss b s t r room chunk arena e more =
    let i = cache_index_of b.size in
    let has : HasRoomAt (seen structure count bins ss) b.size = room_at (seen structure count bins ss) b.size room in
    let is : t.blocks ≡ b ∷ get_or (map (λ x. x.blocks) ss) i [] = e ∙ ap (λ (l : List Block). b ∷ l) (sym (list_seen structure count bins ss i s r)) in
    kept_with structure count bins ss i s t r (subst (IsListAt count i) (sym is) (list_at-more (seen structure count bins ss) b r.kept.sound has chunk arena))
    (λ past. let no : ⊥ = omega (arith, past, has.used) in absurd no) more

-- a cache as it is opened
pub kept_empty : (structure : Block) (count bins : ℕ) (ss : List Stacked) → count ≤ 127 → bins ≤ 64 → map (λ x. x.blocks) ss ≡ empty_cache_lists → All (λ x. count ≤ x.room) ss → IsKept structure count bins ss
kept_empty structure count bins ss c b e room = record {
  sound = subst (λ ls. IsSoundCache (record { structure = structure; count = count; bins = bins; lists = ls })) (sym e) (sound_opened structure count bins c b);
  room = room;
}
