-- The port with a budget (this project's own).
use Rattle.std.specs.Prelude.{ℕ, ◌+◌, ◌-◌, Bool, true, ◌||◌, nat_eq, nat_lt, List, if◌then◌else◌}
use Rattle.std.specs.List.{list_any}
use Rattle.address_space.specs.declared.asks.Ask.{Ask}
use Rattle.address_space.specs.declared.asks.Ask.TheVariants as asks
use Rattle.address_space.specs.declared.asks.Back.{Back}
use Rattle.address_space.specs.declared.asks.Back.TheVariants as backs
use Rattle.address_space.specs.declared.asks.Answer.TheVariants.{Granted, Refused}
use Rattle.address_space.specs.Ports.{Port, counted}

-- A budget of bytes, the numbers of the asks to refuse, the asks so far, the bytes granted less those given
-- back, and the count of refusals.
pub record BudgetState : Type 0 where
  pub bytes : ℕ
  pub refuse_at : List ℕ
  pub asks : ℕ
  pub held : ℕ
  pub refusals : ℕ

abbrev pub new_budget : ℕ → List ℕ → BudgetState
new_budget bytes refuse_at = record { bytes = bytes; refuse_at = refuse_at; asks = 0; held = 0; refusals = 0 }

-- the bytes that an ask adds: the new less the old where it has both, and none where the new is less
abbrev pub new_bytes : Ask → ℕ
new_bytes (asks.Break old new) = new - old
new_bytes (asks.Piece addr len) = len
new_bytes (asks.NewHeap arena heap len) = len
new_bytes (asks.GrowHeap arena heap old_len new_len) = new_len - old_len
new_bytes (asks.Map addr len) = len
new_bytes (asks.Remap old_addr old_len new_addr new_len) = new_len - old_len

-- the bytes that a granted ask gives back: the rest, of a remap to a smaller length
abbrev pub shrunk_bytes : Ask → ℕ
shrunk_bytes (asks.Break old new) = 0
shrunk_bytes (asks.Piece addr len) = 0
shrunk_bytes (asks.NewHeap arena heap len) = 0
shrunk_bytes (asks.GrowHeap arena heap old_len new_len) = 0
shrunk_bytes (asks.Map addr len) = 0
shrunk_bytes (asks.Remap old_addr old_len new_addr new_len) = old_len - new_len

-- the bytes that come back
abbrev pub returned_bytes : Back → ℕ
returned_bytes (backs.Break old new) = old - new
returned_bytes (backs.ShrinkHeap arena heap old_len new_len) = old_len - new_len
returned_bytes (backs.DropHeap arena heap len) = len
returned_bytes (backs.Unmap addr len) = len

-- An ask is refused whose number is in the list, or whose new bytes would take what is held past the budget.
abbrev pub refuses : BudgetState → Ask → Bool
refuses p ask = list_any (nat_eq (counted p.asks)) p.refuse_at || nat_lt p.bytes (p.held + new_bytes ask)

abbrev pub budget_port : Port BudgetState
budget_port = record {
  refusals = λ p. p.refusals;
  tells = λ p. true;
  answer = λ p ask. if refuses p ask then Refused else Granted;
  asked = λ p ask. if refuses p ask
      then record p { asks = counted p.asks; refusals = counted p.refusals }
      else record p { asks = counted p.asks; held = p.held + new_bytes ask - shrunk_bytes ask };
  given = λ p back. record p { held = p.held - returned_bytes back };
}
