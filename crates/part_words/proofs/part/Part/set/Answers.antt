use Rattle.std.proofs.Common.{◌≡◌, ◌/◌, ◌%◌, ◌<◌, get_or, length, arith}
use Rattle.std.proofs.Math.Nat.{mod-lt}
use Rattle.part_words.proofs.PageLaws.{page_below, length-seen, code_read, code_kept, lone_in, whole_in, Writes, part_written, seen_written}
use Rattle.part_words.proofs.part.Part.set.Goals as goal
use Rattle.part_words.proofs.part.Part.set.Goals.{After-self, After-index-code, After-rewritten-recode}

below : (g : _) → (c : After-self g) → c.args.word < c.self.inside.len
below g c =
    omega (arith, c.requires, length-seen g.T.Word.UNWRITTEN g.row.PAGE _ c.self.inside.codes.items c.self.inside.lone c.self.inside.whole _ c.self.view_is)

page_there : (g : _) → (c : After-self g) → c.args.word / g.row.PAGE < length c.self.inside.codes.items
page_there g c =
    page_below g.row.PAGE c.args.word c.self.inside.len (length c.self.inside.codes.items) c.self.invariant.paged.size.some (below g c) c.self.invariant.all

code : (g : _) → (c : After-index-code g) → c.args.word / g.row.PAGE < length c.self.inside.codes.items → get_or c.self.inside.codes.items (c.args.word / g.row.PAGE) 0 ≡ c.index-code.result.now
code g c lt =
    code_read c.self.inside.codes.items (c.args.word / g.row.PAGE) c.index-code.result.now c.index-code.ensures lt

pub index-code-requires : goal.index-code-requires
index-code-requires g c =
    omega (arith, page_there g (goal.at.index-code-requires g c).After-self, c.self.inside.codes.ok.0)

pub rewritten-recode-requires : goal.rewritten-recode-requires
rewritten-recode-requires g c =
    let none = g.T.Word.UNWRITTEN in
    let b = goal.at.rewritten-recode-requires g c in
    let lt = page_there g b.After-self in
    let e = code g b.After-index-code lt in
    let n = c.args.word / g.row.PAGE in (
      omega arith,
      (
        c.self.invariant.paged.size,
        (
          mod-lt c.args.word (omega (arith, c.self.invariant.paged.size.some)),
          (
            lone_in none g.row.PAGE c.self.inside.codes.items c.self.inside.lone c.self.inside.whole n c.index-code.result.now c.self.invariant.paged lt e,
            (
              whole_in none g.row.PAGE c.self.inside.codes.items c.self.inside.lone c.self.inside.whole n c.index-code.result.now c.self.invariant.paged lt e,
              rw e at (c.self.invariant.paged.needed n),
            ),
          ),
        ),
      ),
    )

pub index_mut-requires : goal.index_mut-requires
index_mut-requires g c =
    omega (arith, page_there g (goal.at.index_mut-requires g c).After-self, c.self.inside.codes.ok.0)

writes : (g : _) → (c : After-rewritten-recode g) → get_or c.self.inside.codes.items (c.args.word / g.row.PAGE) 0 ≡ c.index-code.result.now → Writes g.T.Word.UNWRITTEN g.row.PAGE (get_or c.self.inside.codes.items (c.args.word / g.row.PAGE) 0) c.self.inside.lone c.self.inside.whole (c.args.word % g.row.PAGE) c.args.value c.rewritten-recode.result c.rewritten-recode.new.lone c.rewritten-recode.new.whole
writes g c e =
    let r = c.rewritten-recode.ensures in
    rw e (record { recodes = r.recodes; written = r.written; others = r.others })

pub invariant_of-self : goal.invariant_of-self
invariant_of-self g c =
    let b = goal.at.invariant_of-self g c in
    let lt = page_there g b.After-self in
    let e = code g b.After-index-code lt in
    rw (code_kept c.self.inside.codes.items (c.args.word / g.row.PAGE) c.index-code.result.now c.rewritten-recode.result e c.if-recode-code.true) at (part_written g.T.Word.UNWRITTEN g.row.PAGE _ c.self.inside.codes.items c.self.inside.lone c.rewritten-recode.new.lone c.self.inside.whole c.rewritten-recode.new.whole c.args.word c.rewritten-recode.result c.args.value c.self.invariant (below g b.After-self) lt (writes g b.After-rewritten-recode e))

pub invariant_of-self-2 : goal.invariant_of-self-2
invariant_of-self-2 g c =
    let b = goal.at.invariant_of-self-2 g c in
    let lt = page_there g b.After-self in
    part_written g.T.Word.UNWRITTEN g.row.PAGE _ c.self.inside.codes.items c.self.inside.lone _ c.self.inside.whole _ c.args.word _ c.args.value c.self.invariant (below g b.After-self) lt (writes g b.After-rewritten-recode (code g b.After-index-code lt))

pub returns-then-recode-code : goal.returns-then-recode-code
returns-then-recode-code g c =
    let b = goal.at.returns-then-recode-code g c in
    let lt = page_there g b.After-self in
    let e = code g b.After-index-code lt in
    rw (code_kept c.self.inside.codes.items (c.args.word / g.row.PAGE) c.index-code.result.now c.rewritten-recode.result e c.if-recode-code.true) at (seen_written g.T.Word.UNWRITTEN g.row.PAGE _ c.self.inside.codes.items c.self.inside.lone c.rewritten-recode.new.lone c.self.inside.whole c.rewritten-recode.new.whole c.args.word c.rewritten-recode.result c.args.value _ c.self.view_is c.self.invariant (below g b.After-self) lt (writes g b.After-rewritten-recode e))

pub returns : goal.returns
returns g c =
    let b = goal.at.returns g c in
    let lt = page_there g b.After-self in
    seen_written g.T.Word.UNWRITTEN g.row.PAGE _ c.self.inside.codes.items c.self.inside.lone c.rewritten-recode.new.lone c.self.inside.whole c.rewritten-recode.new.whole c.args.word _ c.args.value _ c.self.view_is c.self.invariant (below g b.After-self) lt (writes g b.After-rewritten-recode (code g b.After-index-code lt))
