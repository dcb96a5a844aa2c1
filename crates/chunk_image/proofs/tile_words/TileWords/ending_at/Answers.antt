use Rattle.std.proofs.Common.{◌≡◌, ◌<◌, Some, sym, ap, ◌∙◌, inl, inr, arith}
use Rattle.std.proofs.lemmas.Bool.{cases_lt}
use Rattle.chunk_image.specs.declared.heads.Head.{Head}
use Rattle.chunk_image.specs.Heads.{head_at, heads_of}
use Rattle.chunk_image.proofs.EndLaws.{near_last, near_open, near_before, near_found}
use Rattle.chunk_image.proofs.tile_words.TileWords.ending_at.Goals as goal

pub overflow_sub-at : goal.overflow_sub-at
overflow_sub-at c = (near_last _ _ _ c.self.invariant (rw (← c.self.view_is) at c.requires.row) (rw (← c.self.view_is, ← c.end.view_is) at c.requires.tile)).0

pub read_head-head-requires : goal.read_head-head-requires
read_head-head-requires c = near_open _ _ _ (near_last _ _ _ c.self.invariant (rw (← c.self.view_is) at c.requires.row) (rw (← c.self.view_is, ← c.end.view_is) at c.requires.tile)).1

pub loop-head-init : goal.loop-head-init
loop-head-init c =
    record {
      near = rw (← c.end.view_is) (near_last _ _ _ c.self.invariant (rw (← c.self.view_is) at c.requires.row) (rw (← c.self.view_is, ← c.end.view_is) at c.requires.tile)).1;
      read = c.read_head-head.ensures;
    }

pub overflow_sub-at-in-loop-head : goal.overflow_sub-at-in-loop-head
overflow_sub-at-in-loop-head c = (near_before _ _ _ c.loop-head.invariant.near (ap (λ (h : Head). h.size) (sym c.loop-head.invariant.read) ∙ c.loop-head-test.true)).0

pub read_head-head-requires-in-loop-head : goal.read_head-head-requires-in-loop-head
read_head-head-requires-in-loop-head c =
    near_open _ _ _ (near_before _ _ _ c.loop-head.invariant.near (ap (λ (h : Head). h.size) (sym c.loop-head.invariant.read) ∙ c.loop-head-test.true)).1

pub loop-head-preserved : goal.loop-head-preserved
loop-head-preserved c =
    record {
      near = (near_before _ _ _ c.loop-head.invariant.near (ap (λ (h : Head). h.size) (sym c.loop-head.invariant.read) ∙ c.loop-head-test.true)).1;
      read = c.read_head-head-in-loop-head.ensures;
    }

pub returns : goal.returns
returns c =
    let some : 0 < (head_at (heads_of c.self.inside.cells) c.loop-head.at).size = positive _ _ c.loop-head.invariant.read c.loop-head-test.false in
    rw (← c.self.view_is) (near_found _ _ c.args.end c.loop-head.at c.self.invariant (rw (← c.self.view_is) at c.requires.row) c.loop-head.invariant.near some
    ∙ ap (λ (h : Head). Some (record { addr = c.loop-head.at; size = h.size; kind = h.kind })) (sym c.loop-head.invariant.read))
  where
    positive : (h k : Head) → h ≡ k → (h.size ≡ 0 → ⊥) → 0 < k.size
    positive h k e some =
        elim (cases_lt 0 k.size) [
          | inl lt ↦ lt
          | inr le ↦ absurd (some (omega (arith, le, ap (λ (h : Head). h.size) e)))
        ]
