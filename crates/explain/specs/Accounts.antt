-- Times of tasks, each with what it is made of, and those that are the responses of an order.
use Rattle.std.specs.Prelude.{◌≡◌, ℕ, ◌<◌, ◌≤◌, List, [], ◌∷◌, length, reverse, All}
use Rattle.task_sheet.specs.Sheet.{Task, task_at}
use Rattle.task_sheet.specs.Indexes.{among}
use Rattle.task_sheet.specs.Demand.{past_jitter, IsResponseOf}
use Rattle.assignment.specs.Places.{PlaceData}
use Rattle.assignment.specs.Placings.{tasks_of_places}
use Rattle.explain.specs.Parts.{IsPartsOf}
use Rattle.explain.specs.declared.accounts.Account.{Account}

-- the response of a place below these tasks, the lowest first: its parts are listed from the highest level down
pub record IsResponseAccount (U : List Task) (above : List ℕ) (p : PlaceData) (a : Account) : Type 0 where
  pub task : a.task ≡ p.task
  pub time : a.time ≡ p.response
  pub deadline : a.deadline ≡ (task_at U p.task).deadline
  pub parts : IsPartsOf U p.task (among above) (reverse above)
      (past_jitter (task_at U p.task) p.response) a.parts

-- the response of each place, below those after it
abbrev pub AreResponseAccounts : List Task → List PlaceData → List Account → Type 0
AreResponseAccounts U [] [] = Unit {0}
AreResponseAccounts U (p ∷ places) (a ∷ accounts) =
    IsResponseAccount U (tasks_of_places places) p a × AreResponseAccounts U places accounts
AreResponseAccounts U _ _ = ⊥

-- the response of a place below these tasks, within its deadline
pub record IsInTime (U : List Task) (above : List ℕ) (p : PlaceData) : Type 0 where
  pub in_set : p.task < length U
  pub others : All (λ k. k < length U) above
  pub response : IsResponseOf U p.task (among above) p.response
  pub in_time : p.response ≤ (task_at U p.task).deadline

-- those of each place, below those after it
abbrev pub AreInTime : List Task → List PlaceData → Type 0
AreInTime U [] = Unit {0}
AreInTime U (p ∷ places) = IsInTime U (tasks_of_places places) p × AreInTime U places
