-- Of some tasks, what is executed below all others of them is one blocking, the jobs of all of them and the interrupts: a
-- task of a longer limit passes there where one of a shorter limit does.
use Rattle.std.proofs.Common.{◌≡◌, ℕ, ◌+◌, ◌*◌, ◌<◌, ◌≤◌, true, cond, ◌||◌, inl, inr}
use Rattle.std.proofs.Common.{List, length, refl, sym, ◌∙◌, ap, arith}
use Rattle.std.proofs.Math.Path.{fun_ext}
use Rattle.std.proofs.lemmas.Bool.{cases_eq, eq-eqb, ne_eqb, ltb-true}
use Rattle.task_sheet.proofs.Common.{Task, AllTasks, no_task, task_at, Indexes, IsPart, with_index}
use Rattle.task_sheet.proofs.Common.{without_index, greatest_below, limit_of}
use Rattle.task_sheet.proofs.Common.{longest_reached, blocking_of, demand_of, interference_of}
use Rattle.task_sheet.proofs.Common.{interference_within, interrupts_within, releases_within}
use Rattle.task_sheet.proofs.Common.{all_of}
use Rattle.task_sheet.proofs.Exchange.{demand-part}
use Rattle.task_sheet.proofs.IndexLaws.{sum-without, without-kept}
use Rattle.task_sheet.proofs.Releases.{cost-le-interference, div_ceil-le}
use Rattle.latest_first.specs.LatestFirst.{IsPrompt, AllPrompt}

-- a member put back
with-without : (L : Indexes) (i : ℕ) → L i ≡ true → with_index (without_index L i) i ≡ L
with-without L i member = fun_ext (λ k. elim (cases_eq k i) [
  | inl e ↦ ap (λ b. b || without_index L i k) (eq-eqb k i e) ∙ sym (ap L e ∙ member)
  | inr ne ↦ ap (λ b. b || without_index L i k) (ne_eqb k i ne) ∙ without-kept L i k ne
])

-- the longest section of a task outside X that the tasks X reach
abbrev pub longest_outside : List Task → Indexes → ℕ
longest_outside U X =
    greatest_below (length U) (λ k. cond (X k) 0 (longest_reached U X (task_at U k)))

blocking-longest : (U : List Task) (i : ℕ) (H : Indexes)
    → blocking_of U i H ≡ longest_outside U (with_index H i)
unfolding blocking_of
blocking-longest U i H = refl

-- below all others of some, each of these is blocked for the same time
pub blocking-lowest : (U : List Task) (L : Indexes) (i : ℕ) → L i ≡ true
    → blocking_of U i (without_index L i) ≡ longest_outside U L
blocking-lowest U L i member = blocking-longest U i (without_index L i)
    ∙ ap (λ X. longest_outside U X) (with-without L i member)

-- ---- jobs within a window
-- within its limit a task has one job
pub once-within : (x : Task) (t : ℕ) → IsPrompt x → 1 ≤ t → t ≤ limit_of x
    → interference_of x t ≤ x.cost
once-within x t prompt pos le =
    let once =
    div_ceil-le (t + x.jitter) x.period 1 prompt.period (omega (arith, le, prompt.deadline)) in
    let jobs : releases_within x t * x.cost ≤ 1 * x.cost = grind arith in
    omega arith

pub cost-within : (x : Task) (t : ℕ) → IsPrompt x → 1 ≤ t → x.cost ≤ interference_of x t
cost-within x t prompt pos = cost-le-interference x t prompt.period pos

module _ (U : List Task) (prompt : AllPrompt U) (L : Indexes) (part : IsPart L (all_of U)) where
  -- what is executed of all of them, the one blocking, and the interrupts
  abbrev pub all_within : ℕ → ℕ
  all_within t = longest_outside U L + interference_within U L t + interrupts_within U t

  pub inside : (i : ℕ) → L i ≡ true → i < length U
  inside i member = ltb-true i (length U) (part i member)

  pub demand-split : (i t : ℕ) → L i ≡ true → demand_of U i (without_index L i) t + interference_of
      (task_at U i) t ≡ (task_at U i).cost + all_within t
  unfolding demand_of
  demand-split i t member =
      omega (
        arith,
        blocking-lowest U L i member,
        sum-without (length U)
            (λ h. interference_of (task_at U h) t) L i (inside i member) member,
      )

  -- of two of them, within the limit of the other one none has a greater demand
  demand-later : (i j t : ℕ) → L i ≡ true → L j ≡ true → 1 ≤ t → t ≤ limit_of (task_at U j)
      → demand_of U i (without_index L i) t ≤ demand_of U j (without_index L j) t
  demand-later i j t member member' positive within =
      let above = cost-within (task_at U i) t (prompt i no_task (inside i member)) positive in
      let below = once-within (task_at U j) t (prompt j no_task (inside j member')) positive within in
      omega (arith, demand-split i t member, demand-split j t member', above, below)

-- ---- a test of the demand at some time from 1 to the limit, which a lesser demand passes, too
abbrev pub PassesWhere : (Is : (need time : ℕ) → Type 0) → List Task → ℕ → Indexes → Type 0
PassesWhere Is U i H =
    (t : ℕ) × (1 ≤ t) × (t ≤ limit_of (task_at U i)) × Is (demand_of U i H t) t

module _ (Is : (need time : ℕ) → Type 0)
    (eased : (low high time : ℕ) → low ≤ high → Is high time → Is low time) (U : List Task) where
  -- with fewer tasks above
  pub PassesWhere-part : AllTasks U → (i : ℕ) (H G : Indexes) → IsPart H G → PassesWhere Is U i G
      → PassesWhere Is U i H
  PassesWhere-part valid i H G part (t, positive, within, is) =
      (t, positive, within, eased _ _ t (demand-part U valid i H G part t positive) is)

  -- with a longer limit below all others of some
  pub PassesWhere-later : AllPrompt U → (L : Indexes) → IsPart L (all_of U) → (i j : ℕ)
      → L i ≡ true → L j ≡ true → limit_of (task_at U j) ≤ limit_of (task_at U i)
      → PassesWhere Is U j (without_index L j) → PassesWhere Is U i (without_index L i)
  PassesWhere-later prompt L part i j member member' later (t, positive, within, is) = (
    t,
    positive,
    omega (arith, within, later),
    eased _ _ t (demand-later U prompt L part i j t member member' positive within) is,
  )

pub covers-eased : (low high time : ℕ) → low ≤ high → high ≤ time → low ≤ time
covers-eased low high time le covers = omega (arith, le, covers)
