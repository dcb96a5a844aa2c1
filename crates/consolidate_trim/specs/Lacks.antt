-- Why a hold is left for want of memory (this project's own): room is made for each answer and each push before it comes,
-- and there is none.
use Rattle.std.specs.Prelude.{◌≤◌, ◌⊎◌, vec_len, vec_capacity}
use Rattle.std.specs.Global.{Vec}
use Rattle.fast_bins.specs.FastPorts.{Fast, HasRoom}

-- there is no room for one more item
abbrev pub IsFull : {X : Type 0} → Vec X → Type 0
IsFull items = vec_capacity items ≤ vec_len items

-- there is no room for one more answer, or a bin has none for a push
abbrev pub LacksRoom : {P X : Type 0} → Fast P → P → Vec X → Type 0
LacksRoom fast port said = IsFull said ⊎ (HasRoom fast port → ⊥)
