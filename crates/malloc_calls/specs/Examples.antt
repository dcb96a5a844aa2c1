-- Words for worked examples (this project's own).
use Rattle.std.specs.Prelude.{ℕ, true, List, [], ◌∷◌, replicate, Some, None, slice_index_or, slice_set}
use Rattle.chunk_tags.specs.Tunables.{serial_values}
use Rattle.address_space.specs.declared.asks.Answer.TheVariants.{Granted}
use Rattle.address_space.specs.declared.space.Space.{Space}
use Rattle.address_space.specs.Ports.{Port}
use Rattle.address_space.specs.Spaces.{new_space}
use Rattle.arena_rules.specs.Rules.{windows_of}
use Rattle.arena_holds.specs.Calls.{Call}
use Rattle.serial_places.specs.SerialWays.{SerialWorld, first_world, played_call}
use Rattle.serial_places.specs.declared.tray.Tray.TheVariants.{Empty}
use Rattle.block_names.specs.Names.{no_names, with_place}
use Rattle.own_blocks.specs.Own.{new_own}
use Rattle.own_blocks.specs.declared.own.Own.{Own}
use Rattle.own_blocks.specs.declared.reply.Reply.{Reply}

-- a kernel that grants every ask
abbrev pub grants_all : Port (Unit {0})
grants_all = record {
  refusals = λ _. 0;
  tells = λ _. true;
  answer = λ _ _. Granted;
  asked = λ k _. k;
  given = λ k _. k;
}

abbrev pub space_at_first : ℕ → Space (Unit {0})
space_at_first thread = new_space tt thread (windows_of serial_values)

-- the world before the first call, with two trays
abbrev pub world_at_first : SerialWorld (Unit {0})
world_at_first = record (first_world serial_values (space_at_first 0)) { trays = replicate 2 Empty }

-- what a thread has between two calls; one that begins has places for four names
pub record Actor : Type 0 where
  pub own : Own
  pub space : Space (Unit {0})

abbrev pub first_actor : ℕ → Actor
first_actor thread = record { own = record new_own { names = with_place 4 no_names }; space = space_at_first thread }

abbrev pub actor_in : List Actor → ℕ → Actor
actor_in actors thread = slice_index_or actors thread (first_actor thread)

-- a call of a thread
abbrev pub Calling : Type 0
Calling = ℕ × (Own → Call (Reply × Own))

-- the answers to some calls of threads, each in the first line
abbrev pub replies_from : List Calling → List Actor → SerialWorld (Unit {0}) → List Reply
replies_from [] actors w = []
replies_from (c ∷ cs) actors w =
    let a = actor_in actors c.0 in
    elim (played_call grants_all serial_values (record { thread = c.0; line = 1 }) (c.1 a.own) (record w { space = a.space })) [
      | None ↦ []
      | Some r ↦ r.0.0 ∷ replies_from cs (slice_set actors c.0 (record { own = r.0.1; space = r.1.space })) r.1
    ]

-- those of two threads that begin
abbrev pub replies : List Calling → List Reply
replies calls = replies_from calls (first_actor 0 ∷ first_actor 1 ∷ []) world_at_first
