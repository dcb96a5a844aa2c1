-- Ports that stand for kernels, as contracts see them (this project's own).
use Rattle.std.specs.Prelude.{◌≡◌, ℕ, ◌+◌, ◌-◌, ◌^◌, ◌≤◌, min, Bool, IsTrue}
use Rattle.address_space.specs.declared.asks.Ask.{Ask}
use Rattle.address_space.specs.declared.asks.Back.{Back}
use Rattle.address_space.specs.declared.asks.Answer.{Answer}
use Rattle.address_space.specs.declared.asks.Answer.TheVariants.{Refused}

-- a count of 64 bits that goes up by one, and stays at its end
abbrev pub counted : ℕ → ℕ
counted n = min (n + 1) (2 ^ 64 - 1)

-- a count went up by one at least, or stands at its end
abbrev pub Rose : ℕ → ℕ → Type 0
Rose before now = counted before ≤ now

-- What a port is: its count of refusals, and where it tells, its answer to each ask and itself after each
-- ask and each giving back.
pub record Port (K : Type 0) : Type 0 where
  pub refusals : K → ℕ
  pub tells : K → Bool
  pub answer : K → Ask → Answer
  pub asked : K → Ask → K
  pub given : K → Back → K

-- one ask, and what it leaves
pub record Asks {K : Type 0} (port : Port K) (before : K) (ask : Ask) (answer : Answer) (now : K) : Type 0 where
  -- the count never falls
  pub later : port.refusals before ≤ port.refusals now
  -- refused only where it rose
  pub cause : answer ≡ Refused → Rose (port.refusals before) (port.refusals now)
  -- a port that tells goes on telling
  pub tells : IsTrue (port.tells before) → IsTrue (port.tells now)
  -- and this is the answer that it told, and the port that it told
  pub answered : IsTrue (port.tells before) → answer ≡ port.answer before ask
  pub left : IsTrue (port.tells before) → now ≡ port.asked before ask

-- one giving back, and what it leaves
pub record GivesBack {K : Type 0} (port : Port K) (before : K) (back : Back) (now : K) : Type 0 where
  pub refusals : port.refusals now ≡ port.refusals before
  pub tells : IsTrue (port.tells before) → IsTrue (port.tells now)
  pub left : IsTrue (port.tells before) → now ≡ port.given before back
