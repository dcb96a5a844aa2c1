use Rattle.std.proofs.Common.{◌≡◌, ℕ, List, map, Option, ◌∙◌}
use Rattle.malloc_calls.specs.Threads.{own_of}
use Rattle.stats_text.specs.declared.views.TileView.{TileView}
use Rattle.stats_text.specs.declared.views.DialsView.{DialsView}
use Rattle.stats_text.specs.Views.{Arena, CacheList, Shown}
use Rattle.world_view.specs.Scenes.{Scene, shown_of, shown_arena}
use Rattle.world_view.proofs.InRows.{arenas_shown}
use Rattle.world_view.proofs.shown.snapshot.Goals as goal

same_parts : (a b : List Arena) (m n : List TileView) (c d : List CacheList) (t u : List (ℕ × Option ℕ)) (f g : List ℕ) (next last : Option ℕ) (limit most : ℕ) (e h : DialsView) →
    a ≡ b → m ≡ n → c ≡ d → t ≡ u → f ≡ g → next ≡ last → limit ≡ most → e ≡ h →
    ◌≡◌ {A = Shown} (record { arenas = a; mapped = m; caches = c; threads = t; free = f; next = next; limit = limit; dials = e })
    (record { arenas = b; mapped = n; caches = d; threads = u; free = g; next = last; limit = most; dials = h })
same_parts a b m n c d t u f g next last limit most e h ab mn cd tu fg nl lm eh = cc

pub returns-clause-shown : goal.returns-clause-shown
unfolding shown_of
returns-clause-shown g c = λ scenes are.
    let s : Scene = record {
      owns = map own_of c.args.threads.now;
      arenas = scenes;
      trays = c.args.trays.now;
      book = c.args.book.now;
      dials = c.args.dials.now;
      lines = c.args.lines.now;
    } in
    let arenas : c.in_ok-arena_views.field-0.items ≡ map (shown_arena s) s.arenas =
    arenas_shown s (map (λ a. a.ground.value.arena) c.args.arenas.now) (map (λ l. l.items) c.args.fast.now) c.list.result.now _ c.in_ok-arena_views.field-0.items are c.in_ok-found.ensures.found c.list.ensures c.in_ok-arena_views.ensures.shown in
    same_parts _ _ _ _ _ _ _ _ _ _ _ _ _ _ _ _ arenas (c.in_ok-mapped_views.ensures ∙ c.in_ok-found.ensures.mapped) c.in_ok-cache_views.ensures c.in_ok-thread_views.ensures
    (c.in_ok-from_slice.ensures.items ∙ c.free.ensures) c.next.ensures c.limit.ensures c.dial_view.ensures
