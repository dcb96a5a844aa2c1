-- Laws on room for tiles. Other crates may cite this file.
use Rattle.std.proofs.Common.{◌≡◌, ℕ, ◌+◌, ◌-◌, ◌%◌, ◌^◌, ◌<◌, ◌≤◌, arith}
use Rattle.part_words.specs.Extents.{Extent, IsWithinPart, extended}
use Rattle.part_words.proofs.Opening.{AreOpen-range, AreOpen-extended, AreOpen-append, AreOpen-take, AreOpen-drop}
use Rattle.chunk_image.specs.Rows.{IsRoom}

-- a range that is opened is room
pub IsRoom-opened : (e : Extent) (at len : ℕ) → IsWithinPart e at len → at + len < 2 ^ 64 → IsRoom (extended e at len) at len
IsRoom-opened e at len within end = record { words = AreOpen-range e at len within; end = end }

-- room stays
pub IsRoom-extended : (e : Extent) (at len a l : ℕ) → IsRoom e a l → IsRoom (extended e at len) a l
IsRoom-extended e at len a l room =
    record { words = AreOpen-extended e at len a l room.words; end = room.end }

-- ranges side by side
pub IsRoom-append : (e : Extent) (a l m : ℕ) → l % 16 ≡ 0 → IsRoom e a l → IsRoom e (a + l) m → IsRoom e a (l + m)
IsRoom-append e a l m whole low high =
    record { words = AreOpen-append e a l m whole low.words high.words; end = omega (arith, high.end) }

-- the beginning and the end of a range
pub IsRoom-take : (e : Extent) (a l m : ℕ) → m ≤ l → IsRoom e a l → IsRoom e a m
IsRoom-take e a l m le room =
    record { words = AreOpen-take e a l m le room.words; end = omega (arith, le, room.end) }

pub IsRoom-drop : (e : Extent) (a l m : ℕ) → m % 16 ≡ 0 → m ≤ l → IsRoom e a l → IsRoom e (a + m) (l - m)
IsRoom-drop e a l m whole le room =
    record { words = AreOpen-drop e a l m whole room.words; end = omega (arith, le, room.end) }
