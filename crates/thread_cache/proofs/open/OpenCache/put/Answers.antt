use Rattle.std.proofs.Common.{◌≡◌, ◌∙◌, ◌∷◌, Some, arith}
use Rattle.std.specs.Prelude.{IsTrue}
use Rattle.chunk_tags.specs.Sizes.{cache_index_of}
use Rattle.thread_cache.specs.Caches.{Opened, has_room}
use Rattle.thread_cache.specs.Stacks.{seen}
use Rattle.thread_cache.proofs.CacheLaws.{room_at}
use Rattle.thread_cache.proofs.Kept.{Reads, seen_with, kept_more}
use Rattle.thread_cache.proofs.open.OpenCache.put.Goals as goal
use Rattle.thread_cache.proofs.open.OpenCache.put.Goals.{After-index_mut-list}

abbrev before : After-index_mut-list → Opened
before c = seen c.self.inside.structure c.self.inside.count c.self.inside.bins c.self.inside.lists.items

room : (c : After-index_mut-list) → IsTrue (has_room (Some (before c)) c.args.b.size)
room c = rw (← c.self.view_is) at c.requires.room

is : (c : After-index_mut-list) → c.from.result ≡ cache_index_of c.args.b.size
is c = c.from.ensures ∙ c.cache_index.ensures

reads : (c : After-index_mut-list) → Reads c.self.inside.structure c.self.inside.count c.self.inside.bins c.self.inside.lists.items (cache_index_of c.args.b.size) c.index_mut-list.result.now
reads c = record { kept = c.self.invariant; below = omega (arith, (room_at (before c) c.args.b.size (room c)).used, c.self.invariant.sound.bins); read = rw (is c) at c.index_mut-list.ensures.value }

pub invariant_of-self : goal.invariant_of-self
invariant_of-self c =
    let here = (goal.at.invariant_of-self c).After-index_mut-list in
    rw (is here) (kept_more _ _ _ _ _ _ c.push.new.self (reads here) (room here) c.requires.chunk c.requires.arena c.push.ensures.pushed c.push.ensures.room)

pub returns-clause-put : goal.returns-clause-put
returns-clause-put c =
    let here = (goal.at.returns-clause-put c).After-index_mut-list in
    rw (is here, ← c.self.view_is, seen_with _ _ _ _ _ _ c.push.new.self (reads here) (λ l. c.args.b ∷ l) c.push.ensures.pushed)

pub returns-clause-sound : goal.returns-clause-sound
returns-clause-sound c = (invariant_of-self c).sound
