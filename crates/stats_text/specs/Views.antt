-- What a report shows, as lists (this project's own).
use Rattle.std.specs.Prelude.{ℕ, Option, List, map}
use Rattle.std.specs.Global.{Vec}
use Rattle.stats_text.specs.declared.views.TileView.{TileView}
use Rattle.stats_text.specs.declared.views.DialsView.{DialsView}

-- numbered lists, without where they lie in memory
abbrev pub lists_of : List (ℕ × Vec ℕ) → List (ℕ × List ℕ)
lists_of bins = map (λ bin. (bin.0, bin.1.items)) bins

-- an arena
pub record Arena : Type 0 where
  pub number : ℕ
  pub system : ℕ
  pub max : ℕ
  pub list : ℕ
  pub last : Option ℕ
  pub tiles : List TileView
  pub fast : List (ℕ × List ℕ)
  pub bins : List (ℕ × List ℕ)

-- a list of a thread's cache
pub record CacheList : Type 0 where
  pub thread : ℕ
  pub bin : ℕ
  pub addrs : List ℕ

-- all that stands behind the records
pub record Shown : Type 0 where
  pub arenas : List Arena
  pub mapped : List TileView
  pub caches : List CacheList
  pub threads : List (ℕ × Option ℕ)
  pub free : List ℕ
  pub next : Option ℕ
  pub limit : ℕ
  pub dials : DialsView
