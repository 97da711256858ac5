-- Responses and chains of a demand W (Audsley et al. 1993): W t is what must be executed for a task in a window of t,
-- its cost, its blocking, the jobs released above it, timers and interrupts. A limit is the last time that serves.
use Rattle.std.specs.Prelude.{◌≡◌, ℕ, zero, suc, ◌<◌, ◌≤◌, ◌↔◌, List, [], ◌∷◌, Contains}
use Rattle.std.specs.List.Sorted.{IsStrictlyIncreasing}

-- some time from 1 to the limit covers its demand
abbrev pub Covers : (ℕ → ℕ) → ℕ → Type 0
Covers W limit = (t : ℕ) × (1 ≤ t) × (t ≤ limit) × (W t ≤ t)

-- the response: the least positive time that is its own demand
pub record IsResponse (W : ℕ → ℕ) (r : ℕ) : Type 0 where
  pub positive : 1 ≤ r
  pub fixed : W r ≡ r
  pub least : (t : ℕ) → 1 ≤ t → W t ≡ t → r ≤ t

-- numbers after a, each above the one before it and at most its demand; the last, and no other, is past the limit
abbrev pub ChainFrom : (ℕ → ℕ) → ℕ → ℕ → List ℕ → Type 0
ChainFrom W limit a [] = limit < a
ChainFrom W limit a (b ∷ bs) = (a ≤ limit) × (a < b) × (b ≤ W a) × ChainFrom W limit b bs

-- a chain: it begins with 1 and climbs past the limit
abbrev pub IsChain : (ℕ → ℕ) → ℕ → List ℕ → Type 0
IsChain W limit [] = ⊥
IsChain W limit (a ∷ bs) = (a ≡ 1) × ChainFrom W limit a bs

-- each number is the demand of the one before it
abbrev pub FullFrom : (ℕ → ℕ) → ℕ → List ℕ → Type 0
FullFrom W a [] = Unit {0}
FullFrom W a (b ∷ bs) = (b ≡ W a) × FullFrom W b bs

-- each number after the first is the demand of the one before it
abbrev pub IsFull : (ℕ → ℕ) → List ℕ → Type 0
IsFull W [] = Unit {0}
IsFull W (a ∷ bs) = FullFrom W a bs

-- a full chain: 1, W(1), W(W(1)), .., up to the first that is past the limit
pub record IsFullChain (W : ℕ → ℕ) (limit : ℕ) (numbers : List ℕ) : Type 0 where
  pub chain : IsChain W limit numbers
  pub full : IsFull W numbers

-- 1, W(1), W(W(1)), ..
abbrev pub iterate : (ℕ → ℕ) → ℕ → ℕ
iterate W zero = 1
iterate W (suc k) = W (iterate W k)

-- the different numbers up to the limit among the iterates, rising
pub record IsTrail (W : ℕ → ℕ) (limit : ℕ) (numbers : List ℕ) : Type 0 where
  pub rises : IsStrictlyIncreasing numbers
  pub all : (x : ℕ) → Contains numbers x ↔ ((x ≤ limit) × ((k : ℕ) × (iterate W k ≡ x)))
