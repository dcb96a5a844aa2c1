-- What chunks a hold is told of (this project's own): used ones that it hasn't in hand. What it takes or cuts off meanwhile is
-- none of these, since it was no used chunk as the hold began, or the hold has it in hand.
use Rattle.std.specs.Prelude.{ℕ, Bool, true, ◌&&◌, ◌||◌, nat_eq, nat_lt, List, [], ◌∷◌, Option, Some, None}
use Rattle.chunk_tags.specs.BinOrder.{fast_chunk, times_in, without}
use Rattle.chunk_tags.specs.declared.tiles.Chunk.{Chunk}
use Rattle.arena_rules.specs.declared.said.Said.{Said}
use Rattle.arena_rules.specs.PlainArena.{Plain, is_own}
use Rattle.arena_rules.specs.Rules.{Rules, Stop, Misfit, Does, Needs, Need, Flagged, Pops, Owns, Rooms, Asks, Maps, Reads, Deed, Clears, Gathers, Pushes, Stashes, Draws, Gives, Counts, chunk_told}

-- the chunk at an address in a fast bin, where there is one
abbrev pub chunk_in_bin : ℕ → Option ℕ → Option Chunk
chunk_in_bin bin None = None
chunk_in_bin bin (Some at) = Some (fast_chunk bin at)

-- the chunk that an answer to a need tells of
abbrev pub chunk_of_answer : Need → Said → Option Chunk
chunk_of_answer Flagged s = None
chunk_of_answer (Pops bin) s = chunk_in_bin bin (chunk_told s)
chunk_of_answer (Owns bin) s = chunk_in_bin bin (chunk_told s)
chunk_of_answer (Rooms size) s = None
chunk_of_answer (Asks ask) s = None
chunk_of_answer (Maps len) s = None
chunk_of_answer (Reads which) s = None

-- What a hold deals with: in hand, the chunk of its act and those that it was told of and hasn't pushed since; and the chunks
-- that it pushed and wasn't told of since.
pub record Dealings : Type 0 where
  pub hand : List Chunk
  pub pushed : List Chunk

-- as it begins, with these chunks in hand
abbrev pub dealings_with : List Chunk → Dealings
dealings_with hand = record { hand = hand; pushed = [] }

-- Whether a hold may be told of a chunk, or of none: it pushed it, or the chunk was used as the hold began and isn't in hand.
abbrev pub may_be_told : Plain → Dealings → Option Chunk → Bool
may_be_told start d None = true
may_be_told start d (Some c) = nat_lt 0 (times_in c d.pushed) || (is_own start c && nat_eq (times_in c d.hand) 0)

-- then it is in hand
abbrev pub with_told : Dealings → Option Chunk → Dealings
with_told d None = d
with_told d (Some c) = record { hand = c ∷ d.hand; pushed = without c d.pushed }

-- what is pushed is in hand no more
abbrev pub with_pushed : Dealings → Chunk → Dealings
with_pushed d c = record { hand = without c d.hand; pushed = c ∷ d.pushed }

abbrev pub with_deed : Dealings → Deed → Dealings
with_deed d Clears = d
with_deed d (Gathers bin) = d
with_deed d (Pushes bin at) = with_pushed d (fast_chunk bin at)
with_deed d (Stashes c) = d
with_deed d (Draws size) = d
with_deed d (Gives back) = d
with_deed d (Counts len) = d

-- Each answer tells of a chunk that the hold may be told of, or of none, while the rules are read against the answers. `start`
-- is the arena as the hold began.
abbrev pub tells_others : {A : Type 0} → Plain → Dealings → Rules A → List Said → Bool
tells_others start d (Stop x) ss = true
tells_others start d Misfit ss = true
tells_others start d (Does deed r) ss = tells_others start (with_deed d deed) r ss
tells_others start d (Needs a n f) [] = true
tells_others start d (Needs a n f) (s ∷ ss) =
    may_be_told start d (chunk_of_answer n s) && tells_others start (with_told d (chunk_of_answer n s)) (f s) ss
