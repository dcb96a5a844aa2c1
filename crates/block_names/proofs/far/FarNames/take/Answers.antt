use Rattle.std.proofs.Common.{◌≡◌, None, false, is_some, sym, ◌∙◌, rules}
use Rattle.std.specs.Map.{lookup}
use Rattle.block_names.specs.Names.{is_name}
use Rattle.block_names.proofs.Keyed.{set_none}
use Rattle.block_names.proofs.far.FarNames.take.Goals as goal

pub returns-in_err-get_mut-clause-rest : goal.returns-in_err-get_mut-clause-rest
returns-in_err-get_mut-clause-rest c =
    let same : c.get_mut.follows.lender-at-none.entries ≡ c.args.self.now = search rules in
    let none : is_some (lookup (is_name c.args.name) c.args.self.now) ≡ false = search rules in
    same ∙ sym (set_none (is_name c.args.name) c.args.self.now None none)
