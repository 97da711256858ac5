-- A fraction by the digits of its numerator and denominator to the base 2^32, the least first.
use Rattle.std.specs.Prelude.{ℕ, ◌+◌, ◌*◌, ◌<◌, List, [], ◌∷◌, All}
use Rattle.loads.specs.declared.shares.Digit.{Digit}

-- the numerator
abbrev pub top_of : List Digit → ℕ
top_of [] = 0
top_of (d ∷ ds) = d.top + 4294967296 * top_of ds

-- the denominator
abbrev pub bottom_of : List Digit → ℕ
bottom_of [] = 0
bottom_of (d ∷ ds) = d.bottom + 4294967296 * bottom_of ds

-- both are below the base
pub record IsDigit (d : Digit) : Type 0 where
  pub top : d.top < 4294967296
  pub bottom : d.bottom < 4294967296

abbrev pub AreDigits : List Digit → Type 0
AreDigits ds = All IsDigit ds
