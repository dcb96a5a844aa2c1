use Rattle.std.proofs.Common.{true, refl}
use Rattle.std.specs.Prelude.{IsTrue}
use Rattle.std.proofs.lemmas.List.Elements.{All-replicate}
use Rattle.address_space.specs.declared.kernel.Always.{Always}
use Rattle.ptmreplay.proofs.replay_over.Goals as goal

pub returns-in-Ok-clause-told : goal.returns-in-Ok-clause-told
returns-in-Ok-clause-told g c bytes input =
    rw c.in-Ok.ensures at (c.run.ensures.told bytes (record { input = input; ports = rw c.in-Ok.ensures (All-replicate (λ (k : Always). IsTrue true) 64 _ refl) }))
