-- What becomes of the tasks of an order that a node has.
use Rattle.std.specs.Prelude.{◌≡◌, ℕ, ◌+◌, ◌≤◌, Bool, true, false, List, [], ◌∷◌, map, IsFalse}
use Rattle.std.specs.List.{list_all}
use Rattle.task_sheet.specs.Sheet.{Task, task_at}
use Rattle.task_sheet.specs.Indexes.{Indexes, among}
use Rattle.task_sheet.specs.Demand.{IsResponseOf, Passes, demand_of, limit_of}
use Rattle.task_sheet.specs.Responses.{IsFullChain}
use Rattle.task_sheet.specs.Orders.{must_outrank_any}
use Rattle.task_sheet.specs.Verdicts.{IsLeastOver}
use Rattle.assignment.specs.Places.{PlaceData}
use Rattle.explain.specs.Needs.{EndsWith}
use Rattle.judge.specs.declared.judging.JudgedTask.{JudgedTask}
use Rattle.judge.specs.declared.judging.Judgement.{Judgement}
use Rattle.judge.specs.declared.judging.Judgement.TheVariants.{Meets, Misses, Below}

-- what task i needs at least below the tasks H, where it doesn't pass there: the last number of its full chain, with its
-- jitter
pub record IsNeeded (U : List Task) (i : ℕ) (H : Indexes) (needs : ℕ) : Type 0 where
  pub chain : List ℕ
  pub before : ℕ
  pub last : ℕ
  pub full : IsFullChain (demand_of U i H) (limit_of (task_at U i)) chain
  pub ends : EndsWith chain before last
  pub time : needs ≡ last + (task_at U i).jitter

-- what becomes of task i with the tasks H above it: its response, which is within its deadline; or it doesn't pass, and
-- what it needs at least; or it stands below tasks that it must outrank, of which one has the least rank
abbrev pub IsJudgementOf : List Task → ℕ → Indexes → Judgement → Type 0
IsJudgementOf U i H (Meets response) =
    IsFalse (must_outrank_any U i H) × IsResponseOf U i H response × (response ≤ (task_at U i).deadline)
IsJudgementOf U i H (Misses needs) =
    IsFalse (must_outrank_any U i H) × ¬ Passes U i H × IsNeeded U i H needs
IsJudgementOf U i H (Below other) = IsLeastOver U i H other

-- the tasks, the lowest first
abbrev pub order_judged : List JudgedTask → List ℕ
order_judged judged = map (λ j. j.task) judged

-- what becomes of each task of an order, with those after it above it
abbrev pub AllJudged : List Task → List JudgedTask → Type 0
AllJudged U [] = Unit {0}
AllJudged U (j ∷ above) =
    IsJudgementOf U j.task (among (order_judged above)) j.judgement × AllJudged U above

-- the task meets its deadline
abbrev pub does_meet : Judgement → Bool
does_meet (Meets response) = true
does_meet (Misses needs) = false
does_meet (Below other) = false

-- each task meets its deadline
abbrev pub all_meet : List JudgedTask → Bool
all_meet judged = list_all (λ j. does_meet j.judgement) judged

-- each task of a placing meets its deadline, with its response
abbrev pub judged_of : List PlaceData → List JudgedTask
judged_of places = map (λ p. record { task = p.task; judgement = Meets p.response }) places
