-- A journal is replayed: each entry's act goes through its rules with the answers that the entry has (this project's own).
use Rattle.std.specs.Prelude.{◌≡◌, ℕ, ◌+◌, ◌-◌, ◌^◌, ◌%◌, Bool, true, false, ◌&&◌, ◌||◌, not, length, nat_eq, nat_le, nat_lt, List, [], ◌∷◌, Option, Some, None, if◌then◌else◌}
use Rattle.std.specs.Int.{is_power_of_two}
use Rattle.chunk_tags.specs.declared.tiles.Chunk.{Chunk}
use Rattle.chunk_tags.specs.declared.tunables.Tunables.{Tunables}
use Rattle.arena_rules.specs.PlainArena.{Plain, is_main, is_own}
use Rattle.arena_rules.specs.Rules.{Rules, Stop, Misfit, behind, end_of_rules, left_by_rules}
use Rattle.arena_rules.specs.Release.{given}
use Rattle.arena_rules.specs.Growth.{Found, InArena, InMapping, Nowhere, Took, opened}
use Rattle.arena_rules.specs.Search.{searched}
use Rattle.arena_rules.specs.Resize.{resize_of}
use Rattle.arena_rules.specs.Align.{align_of, aligned_block, request_with_lead}
use Rattle.arena_core.specs.declared.journal.Act.{Act}
use Rattle.arena_core.specs.declared.journal.Act.TheVariants.{Open, Take, Give, Resize, Align}
use Rattle.arena_core.specs.declared.journal.Ended.{Ended}
use Rattle.arena_core.specs.declared.journal.Ended.TheVariants.{Got, Done, Refused, Short}
use Rattle.arena_rules.specs.declared.said.Said.{Said}
use Rattle.arena_core.specs.Journal.{Recorded}
use Rattle.arena_core.specs.Tellings.{dealings_with, tells_others}

abbrev pub chunk_at : ℕ → ℕ → Chunk
chunk_at at size = record { at = at; size = size }

-- what a hold that only changes the arena ends with
abbrev pub found_nothing : Plain → Took
found_nothing a = record { found = Nowhere; arena = a }

-- the rules of an act; an arena that couldn't be opened has no journal
abbrev pub rules_of : Tunables → Act → Plain → Rules Took
rules_of t (Open bytes) a = behind (opened t bytes a) (λ o. elim o [ Some b ↦ Stop (found_nothing b) | None ↦ Misfit ])
rules_of t (Take nb) a = searched t nb a
rules_of t (Give at size) a = behind (given t a (chunk_at at size)) (λ b. Stop (found_nothing b))
rules_of t (Resize at size nb) a = resize_of t a (chunk_at at size) nb
rules_of t (Align align nb) a = align_of t align nb a

-- a size that a request may become
abbrev pub is_request_size : ℕ → Bool
is_request_size nb = nat_le 32 nb && nat_eq (nb % 16) 0 && nat_le nb (2 ^ 63 + 16)

-- an alignment that isn't every chunk's, a power of two from 32 on (`IsAlignment`)
abbrev pub is_alignment : ℕ → Bool
is_alignment align = nat_le 32 align && is_power_of_two align

-- whether the request with room for a lead isn't too big
abbrev pub has_lead_in_range : ℕ → ℕ → Bool
has_lead_in_range align nb = nat_le (request_with_lead align nb) (2 ^ 63 - 1)

-- whether an arena is there: main always, another one from its opening on
abbrev pub is_opened : Plain → Bool
is_opened a = is_main a || nat_lt 0 (length a.tiles)

-- Whether an act meets the conditions of its call: its sizes are in range, its alignment is one of posix_memalign's, its chunk
-- is a used one, and a search is in an arena that is there. What is opened is another arena without a heap. So the journal of
-- another arena begins with its opening.
abbrev pub may_act : Act → Plain → Bool
may_act (Open bytes) a = not (is_main a) && (nat_eq (length a.tiles) 0 && nat_le bytes (2 ^ 63))
may_act (Take nb) a = is_opened a && is_request_size nb
may_act (Give at size) a = is_own a (chunk_at at size)
may_act (Resize at size nb) a = is_request_size nb && is_own a (chunk_at at size)
may_act (Align align nb) a = is_opened a && (is_request_size nb && (is_alignment align && has_lead_in_range align nb))

-- the chunks in hand when an act begins
abbrev pub hand_of : Act → List Chunk
hand_of (Open bytes) = []
hand_of (Take nb) = []
hand_of (Give at size) = chunk_at at size ∷ []
hand_of (Resize at size nb) = chunk_at at size ∷ []
hand_of (Align align nb) = []

-- the end of what found this
abbrev pub ended_found : Found → Ended
ended_found (InArena c) = Got c.at c.size false
ended_found (InMapping c) = Got c.at c.size true
ended_found Nowhere = Refused

-- the end of what found this for an aligned block: of a mapping it is the block behind the lead
abbrev pub ended_aligned : ℕ → Found → Ended
ended_aligned align (InArena c) = Got c.at c.size false
ended_aligned align (InMapping c) = let b = aligned_block align c in Got b.addr b.size true
ended_aligned align Nowhere = Refused

-- how an act ends that found this
abbrev pub ended_of : Act → Found → Ended
ended_of (Open bytes) found = Done
ended_of (Take nb) found = ended_found found
ended_of (Give at size) found = Done
ended_of (Resize at size nb) found = ended_found found
ended_of (Align align nb) found = ended_aligned align found

abbrev same_bool : Bool → Bool → Bool
same_bool true b = b
same_bool false true = false
same_bool false false = true

abbrev pub same_end : Ended → Ended → Bool
same_end (Got at size mapped) (Got at' size' mapped') = nat_eq at at' && nat_eq size size' && same_bool mapped mapped'
same_end Done Done = true
same_end Refused Refused = true
same_end Short Short = true
same_end x y = false

-- the arena that the rules ended with, where the entry ended as they did
abbrev pub arena_ended : Act → Ended → Option Took → Option Plain
arena_ended act ended None = None
arena_ended act ended (Some took) = if same_end (ended_of act took.found) ended then Some took.arena else None

-- the arena that an entry leaves, read by how it ended: short of memory, it leaves what the rules have before the next answer
abbrev pub arena_after : Tunables → Act → Ended → Rules Took → List Said → Option Plain
arena_after t act (Got at size mapped) r said = arena_ended act (Got at size mapped) (end_of_rules t r said)
arena_after t act Done r said = arena_ended act Done (end_of_rules t r said)
arena_after t act Refused r said = arena_ended act Refused (end_of_rules t r said)
arena_after t act Short r said = left_by_rules t r said

-- whether a hold for this leaves an entry that ended so: an opening that was short of memory leaves none
abbrev pub may_end : Act → Ended → Bool
may_end (Open bytes) Short = false
may_end act ended = true

-- whether an entry can be one of a hold of this arena, as far as its act and the chunks that it was told of go
abbrev pub is_possible : Tunables → Recorded → Plain → Bool
is_possible t e a =
    may_end e.act e.ended && (may_act e.act a && tells_others a (dealings_with (hand_of e.act)) (rules_of t e.act a) e.said)

-- one entry
abbrev pub next_arena : Tunables → Recorded → Plain → Option Plain
next_arena t e a = if is_possible t e a then arena_after t e.act e.ended (rules_of t e.act a) e.said else None

-- the entries of a journal, in order
abbrev pub replayed : Tunables → Option Plain → List Recorded → Option Plain
replayed t a [] = a
replayed t None (e ∷ es) = None
replayed t (Some a) (e ∷ es) = replayed t (next_arena t e a) es

-- an arena is what the replay of a journal gives
pub record IsReplay (t : Tunables) (start : Plain) (journal : List Recorded) (a : Plain) : Type 0 where
  pub gives : replayed t (Some start) journal ≡ Some a
