use Rattle.std.proofs.Common.{◌+◌, ◌-◌, [], refl, sym, subst, arith}
use Rattle.part_words.specs.Extents.{AreOpen}
use Rattle.part_words.proofs.Opening.{AreOpen-drop}
use Rattle.heap_top.specs.Regions.{bare_arena}
use Rattle.arena_rules.proofs.HeapRanges.{windows_end}
use Rattle.heap_top.proofs.TopLaws.{entered_here}
use Rattle.heap_top.proofs.regions.Regions.open_heap.Goals as goal

pub enter-requires-clause-room : goal.enter-requires-clause-room
enter-requires-clause-room c =
    let r = c.requires in
    let words : AreOpen c.args.tiles.now.extent c.heap_start.result c.args.len = subst (λ n. AreOpen c.args.tiles.now.extent n c.args.len) (sym c.heap_start.ensures) r.words in
    record {
      words = AreOpen-drop c.args.tiles.now.extent c.heap_start.result c.args.len 2240 refl words;
      end = omega (arith, c.heap_start.ensures, r.length.window, r.length.some, r.windows.most, windows_end (bare_arena c.args.self.now []) 0 r.windows r.number r.count);
    }

pub returns-clause-top : goal.returns-clause-top
returns-clause-top c =
    rw (c.enter.ensures, c.requires.bare) (record {
      at = c.heap_start.result + 2240;
      size = c.args.len - 2240;
      known = refl;
      stands = entered_here _ [] refl;
    })
