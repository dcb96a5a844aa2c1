use Rattle.std.proofs.Common.{◌≡◌, ◌+◌, sym, ap, arith}
use Rattle.std.specs.Prelude.{nat_eq}
use Rattle.chunk_tags.specs.declared.tiles.Tile.{Tile}
use Rattle.arena_rules.specs.Moves.{top_end}
use Rattle.heap_top.specs.Regions.{bare_arena}
use Rattle.heap_top.proofs.TopLaws.{top_end_is, no_top_end}
use Rattle.heap_top.proofs.regions.Regions.is_top_at_break.Goals as goal

pub returns-in-None : goal.returns-in-None
returns-in-None c =
    let a = bare_arena c.args.self.now c.args.tiles.now.tiles in
    ap (λ n. nat_eq n a.break_at) (sym (no_top_end a (sym c.in-None.ensures.top)))

pub returns-in-Some : goal.returns-in-Some
returns-in-Some c =
    let a = bare_arena c.args.self.now c.args.tiles.now.tiles in
    let end : c.top-in-Some.inside.0.0.0 + c.top-in-Some.inside.0.1.0.0 ≡ top_end a = omega (
      arith,
      ap (λ (t : Tile). t.addr) c.top-in-Some.view_is,
      ap (λ (t : Tile). t.size) c.top-in-Some.view_is,
      top_end_is a _ (sym c.in-Some.ensures.top),
    ) in
    ap (λ n. nat_eq n a.break_at) end
