use Rattle.std.proofs.Common.{◌≡◌, Some, false, arith}
use Rattle.std.proofs.lemmas.Bool.Decides.{nat_tests}
use Rattle.block_names.specs.Names.{NameTable, is_near}
use Rattle.block_names.proofs.Tables.{set_table}
use Rattle.block_names.proofs.names.Names.put.Goals as goal

pub invariant_of-self-else-name-lt-NEAR_NAMES : goal.invariant_of-self-else-name-lt-NEAR_NAMES
invariant_of-self-else-name-lt-NEAR_NAMES c =
    let far : is_near c.args.name ≡ false = grind (arith, nat_tests, c.if-name-lt-NEAR_NAMES.false) in
    let seen : NameTable = record { near = c.self.inside.near.items; far = c.self.inside.far } in
    set_table c.args.name (Some c.args.block) seen c.put.new.self far c.put.ensures c.requires.held c.self.invariant
