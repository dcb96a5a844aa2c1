-- A step of the linear congruence, as the code takes it.
use Rattle.std.proofs.Common.{◌≡◌, ℕ, ◌+◌, ◌*◌, ◌%◌, ◌^◌}
use Rattle.std.proofs.Math.Nat.{mod-add-mod}

pub draw_steps : (x m a : ℕ) → ((x * m) % 2 ^ 64 + a) % 2 ^ 64 ≡ (x * m + a) % 2 ^ 64
draw_steps x m a = mod-add-mod (x * m) (2 ^ 64) a
