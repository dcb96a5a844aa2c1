-- What trimming does: glibc 2.31 malloc/malloc.c, systrim, for main, and malloc/arena.c, heap_trim, for another arena.
use Rattle.std.specs.Prelude.{◌≡◌, ℕ, ◌-◌, ◌<◌, ◌≤◌, [], None}
use Rattle.chunk_tags.specs.declared.tunables.Tunables.{Tunables}
use Rattle.address_space.specs.Ports.{Port}
use Rattle.address_space.specs.Spaces.{GivesWithin}
use Rattle.address_space.specs.declared.asks.Back.TheVariants.{Break}
use Rattle.address_space.specs.declared.space.Space.{Space}
use Rattle.arena_rules.specs.PlainArena.{Plain}
use Rattle.arena_rules.specs.Moves.{Gains}
use Rattle.arena_rules.specs.Rules.{Rules, Deed, Gives}
use Rattle.arena_rules.specs.Walks.{Ways, Walks}
use Rattle.arena_rules.specs.Trim.{main_spare, main_cut}

-- main's end was given back, so many bytes of it, and where these are none nothing changed
pub record TrimsMain {K : Type 0} (port : Port K) (t : Tunables) (threshold : ℕ) (a : Plain) (before : Space K)
    (bytes : ℕ) (b : Plain) (after : Space K) : Type 0 where
  pub bytes_are : bytes ≡ main_spare t a threshold
  pub some : 0 < bytes → (b ≡ main_cut a bytes) × GivesWithin port before (Break a.break_at (a.break_at - bytes)) after
  pub none : bytes ≡ 0 → (b ≡ a) × (after ≡ before)

-- the ways of an address space alone, to which address space goes back
abbrev pub SpaceDoes : {K : Type 0} → Port K → Space K → Deed → Space K → Type 0
SpaceDoes port s (Gives back) z = GivesWithin port s back z
SpaceDoes port s deed z = ⊥

abbrev pub space_ways : {K : Type 0} → Port K → Ways (Space K)
space_ways port = record { goes = λ s need said z. ⊥; does = SpaceDoes port; idles = λ s z. ⊥ }

-- Heaps of another arena were given back, by these rules to those that are left; no used chunk was in them.
pub record TrimsHeaps {K : Type 0} (port : Port K) (rules : Rules Plain) (a : Plain) (before : Space K)
    (left : Rules Plain) (b : Plain) (after : Space K) : Type 0 where
  pub walks : (t : Tunables) → Walks t (space_ways port) rules before [] left after
  pub gains : Gains a None b
  pub number : b.number ≡ a.number
  pub windows : b.windows ≡ a.windows
  pub less : b.system ≤ a.system
