-- What walks come to.
use Rattle.std.proofs.Common.{ℕ, ◌+◌, ◌-◌, ◌*◌, ◌<◌, ◌≤◌, ◌≡◌, refl, arith, Some, None, suc, cond, List, max, true, false}
use Rattle.std.specs.Prelude.{Bool, Option, find}
use Rattle.task_sheet.specs.Demand.{greatest_of}
use Rattle.chains.specs.Walks.{are_whole, arrivals, first_whole}
use Rattle.chains.specs.declared.walks.Step.{Step}

-- ---- where walks begin
first_whole_none : (steps : List Step) (period n : ℕ) → first_whole steps period 0 n ≡ None
unfolding first_whole
first_whole_none steps period n = refl

first_whole_next : (steps : List Step) (period many n : ℕ) → first_whole steps period (suc many) n
    ≡ cond (are_whole steps (n * period)) (Some n) (first_whole steps period many (n + 1))
unfolding first_whole
first_whole_next steps period many n = refl

-- the first of those left, where that one isn't
pub first_whole_past : (steps : List Step) (period limit n : ℕ) (first : Option ℕ) → n < limit
    → are_whole steps (n * period) ≡ false → first_whole steps period (limit - n) n ≡ first
    → first_whole steps period (limit - (n + 1)) (n + 1) ≡ first
first_whole_past steps period limit n first less not is =
    let left : limit - n ≡ suc (limit - (n + 1)) = omega arith in
    rw (left, first_whole_next, not) at is

-- where that one is
pub first_whole_here : (steps : List Step) (period limit n : ℕ) (first : Option ℕ) → n < limit
    → are_whole steps (n * period) ≡ true → first_whole steps period (limit - n) n ≡ first
    → Some n ≡ first
first_whole_here steps period limit n first less whole is =
    let left : limit - n ≡ suc (limit - (n + 1)) = omega arith in
    rw (left, first_whole_next, whole) at is

-- where none is left
pub first_whole_end : (steps : List Step) (period limit n : ℕ) (first : Option ℕ) → limit ≤ n
    → first_whole steps period (limit - n) n ≡ first → None ≡ first
first_whole_end steps period limit n first past is =
    let none : limit - n ≡ 0 = omega arith in
    rw (none, first_whole_none) at is

-- ---- the longest of those left
pub greatest_past : (f : ℕ → ℕ) (longest longer start period count n greatest : ℕ) → n < count
    → longer ≡ max longest (f start)
    → max longest (greatest_of f (arrivals start period (count - n))) ≡ greatest
    → max longer (greatest_of f (arrivals (start + period) period (count - (n + 1)))) ≡ greatest
greatest_past f longest longer start period count n greatest less is_longer is =
    let left : count - n ≡ suc (count - (n + 1)) = omega arith in
    let is' = rw left at is in
    omega (arith, is')

pub find_past : (p : ℕ → Bool) (start period count n : ℕ) (first : Option ℕ) → n < count
    → p start ≡ false → find p (arrivals start period (count - n)) ≡ first
    → find p (arrivals (start + period) period (count - (n + 1))) ≡ first
find_past p start period count n first less not is =
    let left : count - n ≡ suc (count - (n + 1)) = omega arith in
    rw (left, not) at is
