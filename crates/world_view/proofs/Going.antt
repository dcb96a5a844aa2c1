-- The arenas that are shown so far, of all that are there.
use Rattle.std.proofs.Common.{◌≡◌, ℕ, ◌+◌, ◌*◌, ◌^◌, ◌<◌, ◌≤◌, List, [], ◌∷◌, ◌++◌, drop, length, get_or, refl, sym, ap, ◌∙◌, append_assoc, arith}
use Rattle.std.proofs.lemmas.List.{drop_more}
use Rattle.std.proofs.lemmas.List.Elements.{All-push, All-from_recursion}
use Rattle.std.proofs.lemmas.List.Sums.{sum_by-cons, sum_by-append}
use Rattle.arena_rules.specs.PlainArena.{Plain}
use Rattle.arena_ground.specs.Grounds.{GroundView}
use Rattle.arena_core.specs.declared.arena.Arena.{Arena}
use Rattle.stats_text.specs.Totals.{AreWithinSystem, idle_bytes_of, system_bytes_of}
use Rattle.stats_text.specs.Views.{Arena as Shown}
use Rattle.world_view.specs.Places.{FoundAt}
use Rattle.world_view.specs.Scenes.{arena_shown}
use Rattle.world_view.specs.Rows.{fast_at, arenas_from, plains_of}

pub record ShowsSoFar (found : FoundAt) (list : List ℕ) (lists : List (List ℕ)) (all : List Plain) (index : ℕ) (rest : List Plain) (views : List Shown) : Type 0 where
  pub shown : views ++ arenas_from found list lists index rest ≡ arenas_from found list lists 0 all
  pub idle : AreWithinSystem views
  pub fits : system_bytes_of views ≤ index * 2 ^ 32

bytes_more : (views : List Shown) (v : Shown) → system_bytes_of (views ++ v ∷ []) ≡ system_bytes_of views + v.system
unfolding system_bytes_of
bytes_more views v = omega (arith, sum_by-append (λ (a : Shown). a.system) views (v ∷ []), sum_by-cons (λ (a : Shown). a.system) v [])

pub one_more : (found : FoundAt) (list : List ℕ) (lists : List (List ℕ)) (all : List Plain) (index : ℕ) (a : Plain) (left rest : List Plain) (views after : List Shown) (v : Shown) →
    ShowsSoFar found list lists all index left views → left ≡ a ∷ rest → after ≡ views ++ v ∷ [] → v ≡ arena_shown found list (fast_at lists index) a → idle_bytes_of v.tiles ≤ v.system → v.system ≤ 2 ^ 32 →
    ShowsSoFar found list lists all (index + 1) rest after
one_more found list lists all index a left rest views after v s is pushed view idle fits =
    record {
      shown = rw pushed (append_assoc views (v ∷ []) (arenas_from found list lists (index + 1) rest)
          ∙ ap (λ x. views ++ x ∷ arenas_from found list lists (index + 1) rest) view
          ∙ ap (λ ls. views ++ arenas_from found list lists index ls) (sym is)
          ∙ s.shown);
      idle = rw pushed (All-push (λ (x : Shown). idle_bytes_of x.tiles ≤ x.system) views v s.idle idle);
      fits = rw pushed (omega (arith, s.fits, fits, bytes_more views v));
    }

pub none_yet : (found : FoundAt) (list : List ℕ) (lists : List (List ℕ)) (all : List Plain) → ShowsSoFar found list lists all 0 all []
unfolding system_bytes_of
none_yet found list lists all = record {
  shown = refl;
  idle = All-from_recursion (λ (x : Shown). idle_bytes_of x.tiles ≤ x.system) [] tt;
  fits = omega arith;
}

-- the first of the arenas that are left
pub first_left : (arenas : List (Arena GroundView)) (index : ℕ) (a : Arena GroundView) → index < length arenas → a ≡ get_or arenas index a →
    plains_of (drop index arenas) ≡ a.ground.value.arena ∷ plains_of (drop (index + 1) arenas)
first_left arenas index a within is =
    ap plains_of (drop_more arenas index a within)
    ∙ ap (λ (x : Arena GroundView). x.ground.value.arena ∷ plains_of (drop (index + 1) arenas)) (sym is)
