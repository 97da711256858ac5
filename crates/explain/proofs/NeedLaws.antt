-- The last numbers of chains, the lists of a conflict's tasks, and that what each needs adds up.
use Rattle.std.proofs.Common.{◌≡◌, ℕ, ◌+◌, ◌-◌, ◌<◌, ◌≤◌, ◌==◌, All, true, false}
use Rattle.std.proofs.Common.{cond, List, [], ◌∷◌, ◌++◌, length, get_or, take, drop, reverse, sym}
use Rattle.std.proofs.Common.{◌∙◌, ap, subst, arith}
use Rattle.std.proofs.lemmas.List.{drop_more, drop_all, take-append-drop, length-reverse}
use Rattle.std.proofs.lemmas.List.{get_or-reverse}
use Rattle.std.proofs.lemmas.List.Elements.{All-from_recursion}
use Rattle.std.proofs.lemmas.List.Sorted.{IsPermutation-reverse, sum_by-IsPermutation}
use Rattle.task_sheet.proofs.Common.{Task, Indexes, listed_below, ChainFrom, IsFullChain, IsOrderOf}
use Rattle.task_sheet.specs.Responses.{FullFrom}
use Rattle.task_sheet.proofs.IndexLaws.{listed-below}
use Rattle.assignment.proofs.GatherLaws.{listed_below-member, listed_below-other}
use Rattle.explain.specs.Needs.{EndsWith, IsNeedOf, AreNeedsOf}
use Rattle.explain.specs.declared.needs.Need.{Need}

-- ---- the two last numbers
pub ends_with : (xs : List ℕ) → 2 ≤ length xs
    → EndsWith xs (get_or xs (length xs - 2) 0) (get_or xs (length xs - 1) 0)
ends_with xs two =
    let k = length xs - 2 in
    let next : k + 1 ≡ length xs - 1 = omega (arith, two) in
    let none : drop (k + 1 + 1) xs ≡ [] = drop_all (k + 1 + 1) xs (omega (arith, two)) in
    let last : drop (k + 1) xs ≡ get_or xs (length xs - 1) 0 ∷ [] =
    drop_more xs (k + 1) 0 (omega (arith, two)) ∙ ap (λ ys. get_or xs (k + 1) 0 ∷ ys) none
    ∙ ap (λ n. get_or xs n 0 ∷ []) next in (
      take k xs,
      sym (take-append-drop k xs) ∙ ap (λ ys. take k xs ++ ys)
          (drop_more xs k 0 (omega (arith, two)) ∙ ap (λ ys. get_or xs k 0 ∷ ys) last),
    )

-- a full chain has two numbers at least
pub full-two : (W : ℕ → ℕ) (limit : ℕ) (chain : List ℕ) → 0 < limit → IsFullChain W limit chain
    → 2 ≤ length chain
full-two W limit [] some full = absurd full.chain
full-two W limit (a ∷ []) some full = absurd (omega (arith, full.chain.0, full.chain.1))
full-two W limit (a ∷ b ∷ bs) some full = omega arith

-- the number before the last is within the limit, and the last is its demand
pub record IsLastStep (W : ℕ → ℕ) (limit before last : ℕ) : Type 0 where
  pub within : before ≤ limit
  pub demanded : last ≡ W before

from-step : (W : ℕ → ℕ) (limit a before last : ℕ) (rest : List ℕ)
    → ChainFrom W limit a (rest ++ before ∷ last ∷ []) → FullFrom W a (rest ++ before ∷ last ∷ [])
    → IsLastStep W limit before last
from-step W limit a before last [] chain full = record { within = chain.3.0; demanded = full.1.0 }
from-step W limit a before last (b ∷ rest) chain full =
    from-step W limit b before last rest chain.3 full.1

last-step : (W : ℕ → ℕ) (limit before last : ℕ) (rest : List ℕ)
    → IsFullChain W limit (rest ++ before ∷ last ∷ []) → IsLastStep W limit before last
last-step W limit before last [] full = record { within = full.chain.1.0; demanded = full.full.0 }
last-step W limit before last (a ∷ rest) full =
    from-step W limit a before last rest full.chain.1 full.full

pub ends-step : (W : ℕ → ℕ) (limit before last : ℕ) (chain : List ℕ) → IsFullChain W limit chain
    → EndsWith chain before last → IsLastStep W limit before last
ends-step W limit before last chain full ends =
    last-step W limit before last ends.0 (rw ends.1 at full)

-- ---- lists of tasks
pub order-reverse : (L : Indexes) (order : List ℕ) → IsOrderOf L order → IsOrderOf L (reverse order)
order-reverse L order each k = sum_by-IsPermutation (λ x. cond (x == k) 1 0) order (reverse order)
    (IsPermutation-reverse order) ∙ each k

pub AreNeedsOf-push : (U : List Task) (C : Indexes) (tasks : List ℕ) (needs : List Need) (i : ℕ)
    (n : Need) → AreNeedsOf U C tasks needs → IsNeedOf U C i n
    → AreNeedsOf U C (tasks ++ i ∷ []) (needs ++ n ∷ [])
AreNeedsOf-push U C [] [] i n are is = (is, tt)
AreNeedsOf-push U C [] (m ∷ needs) i n are is = absurd are
AreNeedsOf-push U C (j ∷ tasks) [] i n are is = absurd are
AreNeedsOf-push U C (j ∷ tasks) (m ∷ needs) i n are is =
    (are.0, AreNeedsOf-push U C tasks needs i n are.1 is)

-- the task at hand is one of C, with its need, or it is none
pub AreNeedsOf-in : (U : List Task) (C : Indexes) (n : ℕ) (before after : List Need) (need : Need)
    → C n ≡ true → after ≡ before ++ need ∷ [] → AreNeedsOf U C (listed_below n C) before
    → IsNeedOf U C n need → AreNeedsOf U C (listed_below (n + 1) C) after
AreNeedsOf-in U C n before after need member pushed are is =
    rw (pushed, listed_below-member n C member)
    (AreNeedsOf-push U C (listed_below n C) before n need are is)

pub AreNeedsOf-out : (U : List Task) (C : Indexes) (n : ℕ) (before after : List Need) → C n ≡ false
    → after ≡ before → AreNeedsOf U C (listed_below n C) before
    → AreNeedsOf U C (listed_below (n + 1) C) after
AreNeedsOf-out U C n before after outside same are =
    rw (same, listed_below-other n C outside) are

-- ---- what holds of each
pub All-reversed : (P : ℕ → Type 0) (xs : List ℕ) → All P xs → All P (reverse xs)
All-reversed P xs all k d lt =
    let far : length xs - 1 - k < length xs = omega (arith, lt, length-reverse xs) in
    subst P (sym (get_or-reverse xs k d (omega (arith, lt, length-reverse xs))))
    (all (length xs - 1 - k) d far)

pub falling-within : (n : ℕ) (L : Indexes) → All (λ k. k < n) (reverse (listed_below n L))
falling-within n L = All-reversed (λ k. k < n) (listed_below n L)
    (All-from_recursion (λ k. k < n) (listed_below n L) (listed-below n n L (omega arith)))
