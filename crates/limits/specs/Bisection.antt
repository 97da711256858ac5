-- Where a test stops to hold.
use Rattle.std.specs.Prelude.{ℕ, ◌+◌, ◌<◌, ◌≤◌, Bool, true, false}

-- of the numbers from `known` on and before `end` one of which the test says yes, if it isn't `known`, and of the next of
-- which it says no, if that isn't `end`
pub record IsEdge (Says : ℕ → Bool → Type 0) (known end edge : ℕ) : Type 0 where
  pub from : known ≤ edge
  pub before : edge < end
  pub holds : known < edge → Says edge true
  pub fails : edge + 1 < end → Says (edge + 1) false
