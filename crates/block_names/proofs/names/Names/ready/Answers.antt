use Rattle.std.proofs.Common.{◌≡◌, false, sym, ap, ◌∙◌, arith}
use Rattle.std.proofs.lemmas.Bool.Decides.{nat_tests}
use Rattle.block_names.specs.Names.{NameTable, is_near, has_place}
use Rattle.block_names.proofs.Tables.{placed_table}
use Rattle.block_names.proofs.names.Names.ready.Goals as goal

pub invariant_of-self-else-name-lt-NEAR_NAMES : goal.invariant_of-self-else-name-lt-NEAR_NAMES
invariant_of-self-else-name-lt-NEAR_NAMES c =
    let far : is_near c.args.name ≡ false = grind (arith, nat_tests, c.if-name-lt-NEAR_NAMES.false) in
    let seen : NameTable = record { near = c.self.inside.near.items; far = c.self.inside.far } in
    let none : has_place seen c.args.name ≡ false = ap (λ (x : NameTable). has_place x c.args.name) c.self.view_is ∙ (sym c.has_room.ensures ∙ c.if-has_room.false) in
    placed_table c.args.name seen c.make.new.self far none c.in_ok-make.ensures.ok c.self.invariant
