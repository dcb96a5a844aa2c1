-- Where main may lie (this project's own): its break and its pieces are in windows as long as the tunables say, however
-- a hold goes.
use Rattle.std.specs.Prelude.{◌+◌, ◌≤◌, IsTrue}
use Rattle.chunk_tags.specs.declared.tunables.Tunables.{Tunables}
use Rattle.address_space.specs.Spaces.{main_start, piece_start}
use Rattle.arena_rules.specs.declared.said.Said.{Said}
use Rattle.arena_rules.specs.PlainArena.{Plain}
use Rattle.arena_rules.specs.Rules.{Rules, Stop, Misfit, Does, Needs, fits}

-- main's break and its pieces don't pass their windows
pub record IsInMainWindows (t : Tunables) (a : Plain) : Type 0 where
  pub break : a.break_at ≤ main_start + t.main_max
  pub pieces : a.next_piece ≤ piece_start + t.main_max

-- What the rules leave is in these windows: so is the arena beside each need, and of every end this holds.
abbrev pub KeepsWindows : {A : Type 0} → Tunables → (A → Type 0) → Rules A → Type 0
KeepsWindows t P (Stop x) = P x
KeepsWindows t P Misfit = Unit {0}
KeepsWindows t P (Does d r) = KeepsWindows t P r
KeepsWindows t P (Needs a n f) = IsInMainWindows t a × ((s : Said) → IsTrue (fits t n s) → KeepsWindows t P (f s))
