use Rattle.std.proofs.Common.{◌+◌, ◌^◌, ◌≤◌, max, sym, ap, ◌∙◌, arith}
use Rattle.chunk_image.specs.declared.heads.Head.{Head}
use Rattle.chunk_image.specs.Heads.{head_at, heads_of, feet_of}
use Rattle.chunk_image.proofs.CellLaws.{heads_word, no_heads_word}
use Rattle.chunk_image.proofs.ScanLaws.{tiles_below-none}
use Rattle.chunk_image.proofs.WalkLaws.{walked_on, walked_off, walked_out}
use Rattle.chunk_image.proofs.tile_words.TileWords.tiles.Goals as goal

pub loop-at-init : goal.loop-at-init
loop-at-init c =
    record { read = c.new-tiles.ensures.items ∙ sym (tiles_below-none (heads_of c.self.inside.cells)); below = omega arith }

pub read_head-head-requires : goal.read_head-head-requires
read_head-head-requires c = heads_word _ _ c.in-Some.ensures.word.0

pub loop-at-preserved : goal.loop-at-preserved
loop-at-preserved c =
    record {
      read = rw (c.in_ok-push_tile.ensures, c.loop-at.invariant.read, c.in-Some-checked_add.ensures.1, c.max.ensures, c.read_head-head.ensures)
          (sym (walked_on _ _ c.loop-at.from c.in-Some.at c.self.invariant (rw (← c.self.view_is) at c.requires) c.in-Some.ensures.word.1 (λ b from past. no_heads_word _ b (c.in-Some.ensures.first b from past))));
      below = omega (arith, c.in-Some-checked_add.ensures.0, c.in-Some-checked_add.ensures.1);
    }

pub returns-in_default-checked_add : goal.returns-in_default-checked_add
returns-in_default-checked_add c =
    let head = c.read_head-head.ensures in
    let past : 2 ^ 64 ≤ c.in-Some.at + max (head_at (heads_of c.self.inside.cells) c.in-Some.at).size 1 = omega (arith, c.in_default-checked_add.ensures, c.max.ensures, ap (λ (h : Head). h.size) head) in
    rw (c.in_ok-push_tile.ensures, c.loop-at.invariant.read, head, ← c.self.view_is)
    (sym (walked_on _ _ c.loop-at.from c.in-Some.at c.self.invariant (rw (← c.self.view_is) at c.requires) c.in-Some.ensures.word.1 (λ b from past. no_heads_word _ b (c.in-Some.ensures.first b from past))) ∙ walked_out _ (feet_of c.self.inside.cells) _ c.self.invariant past)

pub returns : goal.returns
returns c =
    rw (c.loop-at.invariant.read, ← c.self.view_is) (walked_off _ _ c.loop-at.from c.self.invariant (omega (arith, c.loop-at.invariant.below)) (λ b from past. no_heads_word _ b (c.in_default.ensures.none b from past)))
