-- What an append to a text does with its memory (this project's own).
use Rattle.std.specs.Prelude.{◌≡◌, ℕ, ◌+◌, ◌<◌, ◌≤◌, List, length, take, vec_capacity}
use Rattle.std.specs.Global.{Vec}

-- the text is longer than the room that is left
abbrev pub LacksRoom : Vec ℕ → List ℕ → Type 0
LacksRoom out text = vec_capacity out < length out.items + length text

-- what was there is there still, in front, and no room was lost
abbrev pub KeepsText : Vec ℕ → Vec ℕ → Type 0
KeepsText old new = (take (length old.items) new.items ≡ old.items) × (vec_capacity old ≤ vec_capacity new)
