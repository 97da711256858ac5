-- Counts over lists of numbers, and totals over views.
use Rattle.std.specs.Prelude.{ℕ, ◌+◌, nat_eq, nat_lt, nat_le, if◌then◌else◌, List, [], ◌∷◌}
use Rattle.candidate_workers.specs.declared.view.View.{View}

-- how often x stands in the list
abbrev pub times : ℕ → List ℕ → ℕ
times x [] = 0
times x (y ∷ ys) = (if nat_eq y x then 1 else 0) + times x ys

-- how many are n or more
abbrev pub from_on : ℕ → List ℕ → ℕ
from_on n [] = 0
from_on n (y ∷ ys) = (if nat_le n y then 1 else 0) + from_on n ys

-- 1 for a number below n, else 0
abbrev pub once_below : ℕ → ℕ → ℕ
once_below x n = if nat_lt x n then 1 else 0

-- the sum over all views
abbrev pub total : (View → ℕ) → List View → ℕ
total f [] = 0
total f (v ∷ vs) = f v + total f vs
