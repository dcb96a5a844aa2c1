-- What was lent comes back (this project's own): an arena with its port, and the words.
use Rattle.std.specs.Prelude.{◌≡◌, ℕ, ◌+◌, ◌≤◌, Bool, false, List, [], ◌∷◌, ◌++◌, Option, Some, None, is_some, IsTrue, Result, Ok, Err, IfOk, if◌then◌else◌}
use Rattle.chunk_tags.specs.declared.block.Block.{Block}
use Rattle.chunk_tags.specs.declared.tiles.Chunk.{Chunk}
use Rattle.chunk_tags.specs.declared.tunables.Tunables.{Tunables}
use Rattle.mapped_chunks.specs.DialPorts.{DialStep, Reads, Raises, Maps, Unmaps, Remaps, Dialled}
use Rattle.mapped_chunks.specs.Mappings.{AllSteps}
use Rattle.fast_bins.specs.FastPorts.{Fast, FastStep, Did, Idles}
use Rattle.arena_rules.specs.PlainArena.{IsSound, is_main, times_used}
use Rattle.arena_rules.specs.MainPlaces.{IsPlaced}
use Rattle.arena_rules.specs.Rules.{heap_windows_of}
use Rattle.arena_core.specs.Journal.{Recorded}
use Rattle.arena_core.specs.declared.journal.Who.{Who}
use Rattle.std.specs.List.{AllByRecursion}
use Rattle.arena_core.specs.Replay.{IsReplay}
use Rattle.arena_core.specs.Shown.{MappedShown}
use Rattle.arena_choice.specs.Books.{BookValue}
use Rattle.arena_choice.specs.Choices.{choice_of}
use Rattle.arena_choice.specs.declared.choice.Choice.{Choice}
use Rattle.arena_choice.specs.declared.choice.Choice.TheVariants.{Attached, Free, New, Reuse}
use Rattle.block_names.specs.Blocks.{IsHeld}
use Rattle.arena_holds.specs.declared.trays.Full.{Full}
use Rattle.arena_holds.specs.declared.trays.Empty.{Empty}
use Rattle.arena_holds.specs.BookChanges.{BookChange, Chooses, Undoes}
use Rattle.arena_holds.specs.Places.{KeptArena, PlaceWays, Hands, both_of, as_chunk_of, as_mapped, as_mapped_bytes, Covers, new_arena}

-- What was done at a lent port, in order: steps of its fast bins and of the words, and room that was made.
pub data PortWalks {H : Type 0} (fast : Fast H) (dials : Dialled H) : H → H → Type 0 where
  port_stays : {h : H} → PortWalks fast dials h h
  port_steps : {h i j : H} {s : FastStep} → Did fast h s i → PortWalks fast dials i j → PortWalks fast dials h j
  word_steps : {h i j : H} {s : DialStep} → dials.step h s i → PortWalks fast dials i j → PortWalks fast dials h j
  port_rests : {h i j : H} → Idles fast h i → PortWalks fast dials i j → PortWalks fast dials h j

-- entries of one line
abbrev pub AreOf : Who → List Recorded → Type 0
AreOf who entries = AllByRecursion (λ (e : Recorded). e.who ≡ who) entries

-- An arena that comes back with its port: it was lent with a port that then went so, is sound, and is what the replay of its
-- journal gives; the journal has entries more. The chunks that aren't used any more were the caller's or the port's.
pub record IsReturn {P H D : Type 0} (ways : PlaceWays P H D) (fast : Fast H) (dials : Dialled H) (k : KeptArena) (left : H) (q : P) : Type 0 where
  pub places : P
  pub arena : ℕ
  pub port : H
  pub before : KeptArena
  pub lent : ways.lent places arena port (Some before) q
  pub goes : PortWalks fast dials port left
  pub entries : List Recorded
  pub grew : k.journal ≡ before.journal ++ entries
  pub who : Who
  pub writes : ways.writes places who
  pub whose : AreOf who entries
  pub hands : Hands
  pub served : ways.serves false places hands
  pub covered : (e : Chunk) → times_used e before.arena + fast.stock left e ≤ times_used e k.arena + (fast.stock port e + hands (as_chunk_of arena e))
  pub number : k.arena.number ≡ arena
  pub sound : IsSound k.arena
  pub placed : IsPlaced k.arena
  pub heaps : is_main k.arena ≡ false → k.arena.windows ≡ heap_windows_of (ways.tunables places)
  pub replays : IsReplay (ways.tunables places) (new_arena (ways.tunables places) arena) k.journal k.arena

-- The used chunks of a held arena changed as the port's, and those given up and got, did; those of other arenas are the
-- same; and mapped chunks as the port shows them. All is known exactly, or in hands is at most what there is.
pub record IsAccounted {P H D : Type 0} (ways : PlaceWays P H D) (fast : Fast H) (a : ℕ) (exact : Bool) (given : Hands) (port : H) (before : KeptArena)
    (got : Hands) (left : H) (after : KeptArena) : Type 0 where
  pub chunks : (e : Chunk) → Covers exact (times_used e before.arena + (fast.stock left e + got (as_chunk_of a e)))
      (times_used e after.arena + (fast.stock port e + given (as_chunk_of a e)))
  pub others : (n : ℕ) (e : Chunk) → (n ≡ a → ⊥) → Covers exact (got (as_chunk_of n e)) (given (as_chunk_of n e))
  pub count : Covers exact (got as_mapped + (ways.shown port).count) (given as_mapped + (ways.shown left).count)
  pub bytes : Covers exact (got as_mapped_bytes + (ways.shown port).bytes) (given as_mapped_bytes + (ways.shown left).bytes)

-- no more mappings were counted than this
pub record IsNoted {P H D : Type 0} (ways : PlaceWays P H D) (port left : H) (own own' : ℕ) : Type 0 where
  pub count : (ways.shown left).count + own ≤ (ways.shown port).count + own'
  pub bytes : (ways.shown left).bytes + own ≤ (ways.shown port).bytes + own'

-- What unlocking keeps of what was there when the arena was lent: blocks are given out by the account of the hold, the
-- mappings of the hold are noted, the tunables are the same, each arena of the book is there again, and the list has those
-- that it had.
pub record IsUnlocked {P H D : Type 0} (ways : PlaceWays P H D) (fast : Fast H) (places : P) (a : ℕ) (port : H) (before : KeptArena)
    (left : H) (after : KeptArena) (new : P) : Type 0 where
  pub serves : (exact : Bool) (given got others : Hands) → IsAccounted ways fast a exact given port before got left after →
      ways.serves exact places (both_of given others) → ways.serves exact new (both_of got others)
  pub notes : (own own' others : ℕ) → IsNoted ways port left own own' → ways.notes places own others → ways.notes new own' others
  pub tunables : ways.tunables new ≡ ways.tunables places
  pub lists : (n : ℕ) → IsTrue (ways.listed places n) → IsTrue (ways.listed new n)
  pub whole : ways.whole places → ways.whole new
  pub writes : (who : Who) → ways.writes places who → ways.writes new who

-- what unlocking keeps, whatever was lent
abbrev pub Unlocks : {P H D : Type 0} → PlaceWays P H D → Fast H → Dialled H → P → H → KeptArena → P → Type 0
Unlocks {P} {H} ways fast dials lending left after new =
    (places : P) (a : ℕ) (port : H) (before : KeptArena) → ways.lent places a port (Some before) lending → PortWalks fast dials port left →
    IsUnlocked ways fast places a port before left after new

-- ---- the words

-- the words come back after these steps
pub record AreReturn {P H D : Type 0} (ways : PlaceWays P H D) (words : Dialled D) (d : D) (q : P) : Type 0 where
  pub places : P
  pub first : D
  pub steps : List DialStep
  pub lent : ways.dials_lent places first q
  pub walk : AllSteps words first steps d

-- the mappings that steps count, and those that they count no more
abbrev pub maps_in : List DialStep → MappedShown
maps_in [] = record { count = 0; bytes = 0 }
maps_in (Reads w n ∷ ss) = maps_in ss
maps_in (Raises size ∷ ss) = maps_in ss
maps_in (Maps len ∷ ss) = record { count = (maps_in ss).count + 1; bytes = (maps_in ss).bytes + len }
maps_in (Unmaps len ∷ ss) = maps_in ss
maps_in (Remaps old_len new_len ∷ ss) = record (maps_in ss) { bytes = (maps_in ss).bytes + new_len }

abbrev pub unmaps_in : List DialStep → MappedShown
unmaps_in [] = record { count = 0; bytes = 0 }
unmaps_in (Reads w n ∷ ss) = unmaps_in ss
unmaps_in (Raises size ∷ ss) = unmaps_in ss
unmaps_in (Maps len ∷ ss) = unmaps_in ss
unmaps_in (Unmaps len ∷ ss) = record { count = (unmaps_in ss).count + 1; bytes = (unmaps_in ss).bytes + len }
unmaps_in (Remaps old_len new_len ∷ ss) = record (unmaps_in ss) { bytes = (unmaps_in ss).bytes + old_len }

-- The mapped chunks given up and got are those that the steps count no more and count; no other block changes hands.
pub record IsSettled (exact : Bool) (given got : Hands) (steps : List DialStep) : Type 0 where
  pub chunks : (n : ℕ) (e : Chunk) → got (as_chunk_of n e) ≡ given (as_chunk_of n e)
  pub count : got as_mapped + (unmaps_in steps).count ≡ given as_mapped + (maps_in steps).count
  pub bytes : got as_mapped_bytes + (unmaps_in steps).bytes ≡ given as_mapped_bytes + (maps_in steps).bytes
  pub had : (unmaps_in steps).count ≤ given as_mapped
  pub had_bytes : (unmaps_in steps).bytes ≤ given as_mapped_bytes

-- What giving the words back keeps. A mapping that becomes shorter takes nothing of its thread's window.
pub record AreReturned {P H D : Type 0} (ways : PlaceWays P H D) (words : Dialled D) (places : P) (first : D) (steps : List DialStep) (new : P) : Type 0 where
  pub serves : (exact : Bool) (given got others : Hands) → IsSettled exact given got steps →
      ways.serves exact places (both_of given others) → ways.serves exact new (both_of got others)
  pub notes : (own own' others : ℕ) → (maps_in steps).count + own ≤ own' → (maps_in steps).bytes + own ≤ own' →
      ways.notes places own others → ways.notes new own' others
  pub shorter : (old_len new_len own others : ℕ) → steps ≡ Remaps old_len new_len ∷ [] → words.allows first (Remaps old_len new_len) →
      new_len ≤ old_len → ways.notes places own others → ways.notes new own others
  pub tunables : ways.tunables new ≡ ways.tunables places
  pub whole : ways.whole places → ways.whole new
  pub writes : (who : Who) → ways.writes places who → ways.writes new who

-- so it does, whatever was lent and whatever steps were made
abbrev pub ReturnsWords : {P H D : Type 0} → PlaceWays P H D → Dialled D → P → D → P → Type 0
ReturnsWords {P} {H} {D} ways words lending d new =
    (places : P) (first : D) (steps : List DialStep) → ways.dials_lent places first lending →
    AllSteps words first steps d → AreReturned ways words places first steps new

-- ---- room, and a push

-- nothing of it is seen by who has blocks
pub record IsUnseen {P H D : Type 0} (ways : PlaceWays P H D) (old : P) (given got : Hands) (new : P) : Type 0 where
  pub serves : (exact : Bool) (others : Hands) → ways.serves exact old (both_of given others) → ways.serves exact new (both_of got others)
  pub notes : (own others : ℕ) → ways.notes old own others → ways.notes new own others
  pub tunables : ways.tunables new ≡ ways.tunables old
  pub whole : ways.whole old → ways.whole new
  pub writes : (who : Who) → ways.writes old who → ways.writes new who

-- The same, whatever became of the numbers that the book keeps for the caller.
pub record IsAside {P H D : Type 0} (ways : PlaceWays P H D) (old new : P) : Type 0 where
  pub serves : (exact : Bool) (hands : Hands) → ways.serves exact old hands → ways.serves exact new hands
  pub notes : (own others : ℕ) → ways.notes old own others → ways.notes new own others
  pub tunables : ways.tunables new ≡ ways.tunables old
  pub writes : (who : Who) → ways.writes old who → ways.writes new who

-- ---- the book, and a new arena

-- something was done at the book, which nobody sees who has blocks
pub record IsBooked {P H D : Type 0} (ways : PlaceWays P H D) (old : P) (change : BookChange) (new : P) : Type 0 where
  pub book : BookValue
  pub booked : ways.booked old change book new
  pub unseen : IsUnseen ways old (λ _. 0) (λ _. 0) new

-- What a choice allows: the arena is there, and the book keeps no number for the caller; or it keeps that of a new one.
abbrev pub IsAllowed : {P H D : Type 0} → PlaceWays P H D → P → Choice → Type 0
IsAllowed ways p (Attached a) = ways.whole p × IsTrue (ways.there p a)
IsAllowed ways p (Free a) = ways.whole p × IsTrue (ways.there p a)
IsAllowed ways p (New a) = ways.owed p a
IsAllowed ways p (Reuse start) = ways.whole p × (IsTrue (ways.there p start) × IsTrue (ways.listed p start))

-- An arena was chosen for a thread.
pub record IsChosen {P H D : Type 0} (ways : PlaceWays P H D) (thread : ℕ) (fresh : Bool) (t : Tunables) (old : P) (choice : Choice) (new : P) : Type 0 where
  pub book : BookValue
  pub booked : ways.booked old (Chooses thread fresh) book new
  pub choice_is : choice ≡ choice_of book thread fresh t
  pub aside : IsAside ways old new
  pub allowed : IsAllowed ways new choice

-- The number of a new arena was given back.
pub record IsUndone {P H D : Type 0} (ways : PlaceWays P H D) (a : ℕ) (old new : P) : Type 0 where
  pub book : BookValue
  pub booked : ways.booked old (Undoes a) book new
  pub aside : IsAside ways old new
  pub whole : ways.whole new

-- A new arena, of which no chunk is used.
pub record IsNew {P H D : Type 0} (ways : PlaceWays P H D) (k : KeptArena) (p : P) : Type 0 where
  pub owed : ways.owed p k.arena.number
  pub sound : IsSound k.arena
  pub placed : IsPlaced k.arena
  pub heaps : k.arena.windows ≡ heap_windows_of (ways.tunables p)
  pub replays : IsReplay (ways.tunables p) (new_arena (ways.tunables p) k.arena.number) k.journal k.arena
  pub who : Who
  pub writes : ways.writes p who
  pub whose : AreOf who k.journal
  pub unused : (e : Chunk) → times_used e k.arena ≡ 0

-- It was put into its place, and a thread attached to it.
pub record IsAdded {P H D : Type 0} (ways : PlaceWays P H D) (thread : ℕ) (old : P) (k : KeptArena) (new : P) : Type 0 where
  pub added : ways.added old thread k new
  pub there : IsTrue (ways.there new k.arena.number)
  pub aside : IsAside ways old new
  pub whole : ways.whole new

-- ---- trays

-- what was found in a tray that didn't take a block, and what one gave
abbrev pub seen_full : Result (Unit {0}) Full → Option ℕ
seen_full (Ok u) = None
seen_full (Err full) = Some full.seen

abbrev pub found_in_tray : Result Block Empty → Result Block ℕ
found_in_tray (Ok b) = Ok b
found_in_tray (Err empty) = Err empty.seen

-- a block went to a tray, or stayed where it was by what was found there
pub record IsPosted {P H D : Type 0} (ways : PlaceWays P H D) (tray : ℕ) (old : P) (b : Block) (full : Option ℕ) (new : P) : Type 0 where
  pub posted : ways.posted old tray b full new
  pub unseen : IsUnseen ways old (λ weigh. weigh b) (λ weigh. if is_some full then weigh b else 0) new

-- what was taken from a tray is a block that a thread may hold
pub record IsTaken {P H D : Type 0} (ways : PlaceWays P H D) (tray : ℕ) (old : P) (found : Result Block ℕ) (new : P) : Type 0 where
  pub took : ways.took old tray found new
  pub held : IfOk found IsHeld
  pub unseen : IsUnseen ways old (λ _. 0) (λ weigh. elim found [ Ok b ↦ weigh b | Err seen ↦ 0 ]) new
