-- What costs come to, each over its period: a sum of fractions, cleared of their denominators (Liu and Layland 1973).
use Rattle.std.specs.Prelude.{ℕ, ◌+◌, ◌*◌, ◌≤◌, List, [], ◌∷◌}
use Rattle.std.specs.Int.{div_ceil}
use Rattle.loads.specs.declared.shares.Share.{Share}

-- a cost and a period of at most ten seconds, in microseconds
pub record IsShare (s : Share) : Type 0 where
  pub some : 1 ≤ s.period
  pub period : s.period ≤ 10000000
  pub cost : s.cost ≤ 10000000

-- the product of their periods
abbrev pub periods_of : List Share → ℕ
periods_of [] = 1
periods_of (s ∷ shares) = s.period * periods_of shares

-- each cost times the periods of the others, added: ∑ costᵢ / periodᵢ is this over the product of all periods
abbrev pub costs_of : List Share → ℕ
costs_of [] = 0
costs_of (s ∷ shares) = s.cost * periods_of shares + s.period * costs_of shares

-- ∑ costᵢ / periodᵢ, in so many parts of the processor, rounded up once
abbrev pub load_in : ℕ → List Share → ℕ
load_in parts shares = div_ceil (costs_of shares * parts) (periods_of shares)
