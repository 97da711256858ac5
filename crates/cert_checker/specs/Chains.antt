-- A chain of a demand W as a test, from the first number to the last.
use Rattle.std.specs.Prelude.{ℕ, Bool, false, ◌&&◌, ◌==◌, nat_lt, nat_le, List, [], ◌∷◌}

-- b may stand behind a
abbrev pub may_follow : (ℕ → ℕ) → ℕ → ℕ → ℕ → Bool
may_follow W limit a b = nat_le a limit && nat_lt a b && nat_le b (W a)

-- what follows a climbs by the work requested, up to the first that is past the limit
abbrev pub goes_past : (ℕ → ℕ) → ℕ → ℕ → List ℕ → Bool
goes_past W limit a [] = nat_lt limit a
goes_past W limit a (b ∷ bs) = may_follow W limit a b && goes_past W limit b bs

-- the numbers are a chain, as a test
abbrev pub are_chain : (ℕ → ℕ) → ℕ → List ℕ → Bool
are_chain W limit [] = false
are_chain W limit (a ∷ bs) = (a == 1) && goes_past W limit a bs
