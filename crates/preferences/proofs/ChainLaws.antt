-- In a set by chains the weights follow the places and the limits.
use Rattle.std.proofs.Common.{◌≡◌, ◌↔◌, ℕ, zero, suc, ◌+◌, ◌<◌, ◌≤◌, inl, inr, true, false}
use Rattle.std.proofs.Common.{cond, List, [], ◌∷◌, length, refl, sym, ◌∙◌, ap, arith}
use Rattle.std.specs.List.{AllByRecursion}
use Rattle.std.proofs.lemmas.Bool.{cases_Bool}
use Rattle.std.proofs.lemmas.Bool.Decides.{nat_tests}
use Rattle.std.proofs.lemmas.List.Sums.{sum_by-cons, sum_by-le-sum_by}
use Rattle.std.proofs.lemmas.List.Elements.{All-from_recursion}
use Rattle.std.proofs.lemmas.List.Sorted.{All-permutation, sum_by-IsPermutation}
use Rattle.task_sheet.proofs.Common.{Task, no_task, task_at, IsByRank}
use Rattle.task_sheet.specs.Sheet.{weighing}
use Rattle.chain_tables.specs.Tables.{WrittenData}
use Rattle.preferences.specs.Preferences.{is_behind, lower_tasks, weighed}

-- ---- who is wanted lower
module _ (chains : List WrittenData) where
  -- of two tasks that are behind no other, what is behind the first is behind the second
  behind-le : (u x y : Task) → is_behind chains x y ≡ false
      → cond (is_behind chains u y) 1 0 ≤ cond (is_behind chains u x) 1 0
  behind-le u x y not = grind (arith, nat_tests)

  behind-self : (x : Task) → is_behind chains x x ≡ false
  behind-self x = grind (arith, nat_tests)

  behind-once : (x y : Task) → is_behind chains x y ≡ true → is_behind chains y x ≡ false
  behind-once x y lower = grind (arith, nat_tests)

  one-more : (t : Task) (ts : List Task) (x : Task)
      → lower_tasks chains (t ∷ ts) x ≡ cond (is_behind chains t x) 1 0 + lower_tasks chains ts x
  one-more t ts x = sum_by-cons (λ (u : Task). cond (is_behind chains u x) 1 0) t ts

  lower-le : (U : List Task) (x y : Task) → is_behind chains x y ≡ false
      → lower_tasks chains U y ≤ lower_tasks chains U x
  lower-le U x y not = sum_by-le-sum_by (λ (u : Task). cond (is_behind chains u y) 1 0)
      (λ (u : Task). cond (is_behind chains u x) 1 0) U (λ u. behind-le u x y not)

  -- the task that is wanted lower is counted more
  lower-lt : (U : List Task) (x y : Task) (k : ℕ) → is_behind chains x y ≡ true → k < length U
      → is_behind chains (task_at U k) x ≡ false → is_behind chains (task_at U k) y ≡ true
      → lower_tasks chains U x < lower_tasks chains U y
  lower-lt [] x y k lower within not so = absurd (omega arith)
  lower-lt (t ∷ ts) x y zero lower within not so =
      rw (one-more t ts x, one-more t ts y, not, so)
      (omega (arith, lower-le ts y x (behind-once x y lower)))
  lower-lt (t ∷ ts) x y (suc k) lower within not so = omega (
    arith,
    one-more t ts x,
    one-more t ts y,
    behind-le t y x (behind-once x y lower),
    lower-lt ts x y k lower (omega arith) not so,
  )

  -- ---- the weights of a set by chains
  lower-weighed : (weight : Task → ℕ) (xs : List Task) (x : Task)
      → lower_tasks chains (weighed weight xs) x ≡ lower_tasks chains xs x
  lower-weighed weight [] x = refl
  lower-weighed weight (t ∷ ts) x =
      one-more (weighing t (weight t)) (weighed weight ts) x
      ∙ ap (λ n. cond (is_behind chains t x) 1 0 + n) (lower-weighed weight ts x)
      ∙ sym (one-more t ts x)

  weighed-all : (U xs : List Task) → AllByRecursion (λ t. t.weight ≡ lower_tasks chains U t)
      (weighed (lower_tasks chains U) xs)
  weighed-all U [] = tt
  weighed-all U (t ∷ ts) = (refl, weighed-all U ts)

  module _ (U V : List Task) (preferred : IsByRank (weighed (lower_tasks chains U) U) V) where
    lower-same : (x : Task) → lower_tasks chains V x ≡ lower_tasks chains U x
    lower-same x =
        sum_by-IsPermutation (λ (u : Task). cond (is_behind chains u x) 1 0)
        (weighed (lower_tasks chains U) U) V preferred.permutation
        ∙ lower-weighed (lower_tasks chains U) U x

    weight-at : (k : ℕ) → k < length V
        → (task_at V k).weight ≡ lower_tasks chains V (task_at V k)
    weight-at k lt =
        let P : Task → Type 0 = λ t. t.weight ≡ lower_tasks chains U t in
        All-permutation P (weighed (lower_tasks chains U) U) V preferred.permutation
        (All-from_recursion P (weighed (lower_tasks chains U) U) (weighed-all U U)) k no_task lt
        ∙ sym (lower-same (task_at V k))

    pub chained-compare : (i j : ℕ) → i < length V → j < length V
        → ((task_at V i).weight < (task_at V j).weight)
        ↔ (is_behind chains (task_at V i) (task_at V j) ≡ true)
    chained-compare i j within within' =
        let x = task_at V i in
        let y = task_at V j in
        let here = weight-at i within in
        let there = weight-at j within' in (
          λ less. elim (cases_Bool (is_behind chains x y)) [
            | inl so ↦ so
            | inr not ↦ absurd (omega (arith, here, there, lower-le V x y not))
          ],
          λ so. omega (arith, here, there, lower-lt V x y i so within (behind-self x) so),
        )
