-- Iterations of a demand from any number.
use Rattle.std.specs.Prelude.{ℕ, zero, suc}

-- a, W(a), W(W(a)), ..
abbrev pub iterate_from : (ℕ → ℕ) → ℕ → ℕ → ℕ
iterate_from W a zero = a
iterate_from W a (suc k) = W (iterate_from W a k)
