-- A hold for one order of calls, over fast bins and words that are plain and a kernel that tells: what it is told and what it
-- leaves follow from the world that it begins with (this project's own).
use Rattle.std.specs.Prelude.{ℕ, List, [], ◌∷◌, Option, Some, None}
use Rattle.std.specs.Option.{option_map}
use Rattle.chunk_tags.specs.Dials.{Dial, MmapThreshold, TrimThreshold, MappedCount}
use Rattle.address_space.specs.declared.space.Space.{Space}
use Rattle.address_space.specs.Ports.{Port}
use Rattle.address_space.specs.Spaces.{space_answer, space_asked, space_place, space_mapped, map_ask, place_answer}
use Rattle.thread_cache.specs.Caches.{CacheValue, has_room}
use Rattle.fast_bins.specs.FastPorts as fasts
use Rattle.fast_bins.specs.PlainBins as bins
use Rattle.fast_bins.specs.PlainBins.{FastState, PlainBins, state_of, fast_bin_at, first_in, own_front, plain_fast}
use Rattle.mapped_chunks.specs.DialPorts as dials
use Rattle.mapped_chunks.specs.PlainDials as words
use Rattle.mapped_chunks.specs.PlainDials.{plain_dials}
use Rattle.mapped_chunks.specs.declared.plain.DialState.{DialState}
use Rattle.mapped_chunks.specs.declared.plain.PlainDials.{PlainDials}
use Rattle.arena_rules.specs.declared.said.Said.{Said}
use Rattle.arena_rules.specs.declared.said.Said.TheVariants as told
use Rattle.arena_rules.specs.Rules.{Rules, Stop, Misfit, Does, Needs, Need, Flagged, Pops, Owns, Rooms, Asks, Maps, Reads, Deed, Clears, Gathers, Pushes, Stashes, Draws, Gives, Counts, passes_window, cache_after_deed}
use Rattle.consolidate_trim.specs.Outside.{Means, Outside, means}
use Rattle.serial_places.specs.declared.both.Both.{Both}
use Rattle.serial_places.specs.Joined.{joined_fast, joined_dials}

-- what stands beside the arena in a hold
pub record HoldWorld (K : Type 0) : Type 0 where
  pub bins : FastState
  pub dials : DialState
  pub cache : CacheValue
  pub space : Space K

-- the port of such a hold
abbrev pub PlainPort : Type 0
PlainPort = Both PlainBins PlainDials

abbrev pub plain_means : {K : Type 0} → Port K → Means PlainPort K
plain_means port = means (joined_fast plain_fast) (joined_dials plain_dials) port

abbrev pub world_of : {K : Type 0} → Outside PlainPort K → HoldWorld K
world_of o = record { bins = state_of o.port.bins; dials = o.port.dials.state; cache = o.cache; space = o.space }

abbrev pub word_of : Dial → DialState → ℕ
word_of MmapThreshold d = d.mmap_threshold
word_of TrimThreshold d = d.trim_threshold
word_of MappedCount d = d.mapped

-- what the world answers
abbrev pub world_answer : {K : Type 0} → Port K → Need → HoldWorld K → Said
world_answer port Flagged w = told.Flag w.bins.flag
world_answer port (Pops bin) w = told.Popped (first_in (fast_bin_at w.bins bin))
world_answer port (Owns bin) w = told.Own (own_front (fast_bin_at w.bins bin))
world_answer port (Rooms size) w = told.Room (has_room w.cache size)
world_answer port (Asks ask) w = told.Asked ask (space_answer port w.space (passes_window w.space.windows ask) ask)
world_answer port (Maps len) w = told.Asked (map_ask w.space len) (place_answer (space_place port w.space len))
world_answer port (Reads which) w = told.Dial (word_of which w.dials)

-- the world when it has answered
abbrev pub world_told : {K : Type 0} → Port K → Need → HoldWorld K → HoldWorld K
world_told port Flagged w = w
world_told port (Pops bin) w = record w { bins = bins.after_fast_step (fasts.Pops bin (first_in (fast_bin_at w.bins bin))) w.bins }
world_told port (Owns bin) w = record w { bins = bins.after_fast_step (fasts.Owns bin (own_front (fast_bin_at w.bins bin))) w.bins }
world_told port (Rooms size) w = w
world_told port (Asks ask) w = record w { space = space_asked port w.space (passes_window w.space.windows ask) ask }
world_told port (Maps len) w = record w { space = space_mapped port w.space len }
world_told port (Reads which) w = w

-- the world after a deed in a hold of the arena with a number
abbrev pub world_done : {K : Type 0} → Port K → ℕ → Deed → HoldWorld K → HoldWorld K
world_done port number Clears w = record w { bins = bins.after_fast_step fasts.Clears w.bins }
world_done port number (Gathers bin) w = record w { bins = bins.after_fast_step (fasts.Gathers bin) w.bins }
world_done port number (Pushes bin at) w = record w { bins = bins.after_fast_step (fasts.Pushes bin at) w.bins }
world_done port number (Stashes c) w = record w { cache = cache_after_deed number (Stashes c) w.cache }
world_done port number (Draws size) w = record w { cache = cache_after_deed number (Draws size) w.cache }
world_done port number (Gives back) w = record w { space = record w.space { kernel = port.given w.space.kernel back } }
world_done port number (Counts len) w = record w { dials = words.after_dial_step (dials.Maps len) w.dials }

-- how a hold ended: its result, what it was told, and the world
pub record PlayedHold (K A : Type 0) : Type 0 where
  pub result : A
  pub said : List Said
  pub world : HoldWorld K

abbrev pub told_first : {K A : Type 0} → Said → PlayedHold K A → PlayedHold K A
told_first s p = record p { said = s ∷ p.said }

-- a hold from a world on
abbrev pub played_hold : {K A : Type 0} → Port K → ℕ → Rules A → HoldWorld K → Option (PlayedHold K A)
played_hold port number (Stop x) w = Some (record { result = x; said = []; world = w })
played_hold port number Misfit w = None
played_hold port number (Does d r) w = played_hold port number r (world_done port number d w)
played_hold port number (Needs a n f) w =
    option_map (told_first (world_answer port n w)) (played_hold port number (f (world_answer port n w)) (world_told port n w))
