-- Laws of merging a chunk by moves, for this crate.
use Rattle.std.proofs.Common.{◌≡◌, false, IsTrue, sym, subst}
use Rattle.chunk_tags.specs.declared.tiles.Chunk.{Chunk}
use Rattle.chunk_tags.specs.Tiles.{tile_before}
use Rattle.arena_rules.specs.PlainArena.{Plain, IsSound, is_own}
use Rattle.arena_rules.specs.Moves.{hand, joined_before, joined_behind, is_before_top, is_free_tile, StandsAlone}
use Rattle.arena_rules.proofs.ChunkMoves.{own_from, own_count, IsJoinedBefore, joined_before_moved, IsJoinedBehind, joined_behind_moved, alone_after, no_free_found}

-- a used chunk that was joined with its free neighbours
pub record IsWhole (x : Chunk) (d : Plain) : Type 0 where
  pub sound : IsSound d
  pub own : IsTrue (is_own d x)
  pub before : is_free_tile (tile_before x.at d.tiles) ≡ false
  pub alone : is_before_top d x ≡ false → StandsAlone d x

joined_once : (a b : Plain) (c x : Chunk) → IsSound a → IsTrue (is_own a c) → hand x b ≡ joined_before (hand c a) → IsJoinedBefore (hand c a) (hand x b)
joined_once a b c x sound own e = subst (IsJoinedBefore (hand c a)) (sym e) (joined_before_moved (hand c a) sound (own_count a c own))

pub longer : {a b : Plain} {x : Chunk} (c : Chunk) → IsSound a → IsTrue (is_own a c) → hand x b ≡ joined_before (hand c a) → IsSound b × IsTrue (is_own b x)
longer {a = a} {b = b} {x = x} c sound own e =
    let j : IsJoinedBefore (hand c a) (hand x b) = joined_once a b c x sound own e in
    (j.joined.moved.sound, own_from b x j.joined.own)

pub whole : {a b d : Plain} {x y : Chunk} (c : Chunk) → IsSound a → IsTrue (is_own a c) → hand x b ≡ joined_before (hand c a) → hand y d ≡ joined_behind (hand x b) → IsWhole y d
whole {a = a} {b = b} {d = d} {x = x} {y = y} c sound own e f =
    let j : IsJoinedBefore (hand c a) (hand x b) = joined_once a b c x sound own e in
    let k : IsJoinedBehind (hand x b) (hand y d) = subst (IsJoinedBehind (hand x b)) (sym f) (joined_behind_moved (hand x b) j.joined.moved.sound j.joined.own) in
    record { sound = k.joined.moved.sound; own = own_from d y k.joined.own; before = no_free_found (tile_before y.at d.tiles) (k.before j.before); alone = alone_after d y (k.before j.before) k.behind }
