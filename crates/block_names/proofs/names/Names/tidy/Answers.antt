use Rattle.std.proofs.Common.{◌≡◌, false, sym, ◌∙◌, arith, None}
use Rattle.std.proofs.lemmas.Bool.Decides.{nat_tests}
use Rattle.block_names.specs.Names.{NameTable, is_near, block_at}
use Rattle.block_names.proofs.Tables.{none_there, removed_table}
use Rattle.block_names.proofs.names.Names.tidy.Goals as goal

pub invariant_of-self : goal.invariant_of-self
invariant_of-self c =
    let seen : NameTable = record { near = c.self.inside.near.items; far = c.self.inside.far } in
    let far : is_near c.args.name ≡ false = grind (arith, nat_tests, c.if-name-lt-NEAR_NAMES.false) in
    let none : block_at c.args.self.now c.args.name ≡ None = sym c.get.ensures.block ∙ none_there c.get.result (sym c.is_some.ensures ∙ c.if-is_some.false) in
    removed_table c.args.name seen c.args.self.now c.remove.new.self c.self.view_is c.remove.ensures far none c.laws.ensures.rising c.laws.ensures.table
