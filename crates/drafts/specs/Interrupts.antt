-- The node's interrupts along a log.
use Rattle.std.specs.Prelude.{◌≡◌, ℕ, ◌*◌, List, [], ◌∷◌, sum_by}
use Rattle.std.specs.List.{AllByRecursion}
use Rattle.task_sheet.specs.Demand.{releases_within}
use Rattle.drafts.specs.declared.roster.Owned.{Owned}
use Rattle.drafts.specs.declared.change.Change.{Change}
use Rattle.drafts.specs.declared.change.Change.TheVariants.{Put, Remove}
use Rattle.drafts.specs.declared.interrupts.TeamInterrupt.{TeamInterrupt}
use Rattle.drafts.specs.Applied.{interrupts_after}
use Rattle.drafts.specs.Machine.{Ruling, Admitted, Refused, Infeasible, Entry}

-- the change says no interrupts
abbrev pub SaysNone : Change → Type 0
SaysNone (Put sheet) = sheet.interrupts ≡ []
SaysNone Remove = Unit {0}

-- so it is for each of a team's changes
abbrev pub SayNone : List (List ℕ × Change) → Type 0
SayNone changes = AllByRecursion (λ c. SaysNone c.1) changes

-- the second where it is admitted, else the first
abbrev pub where_admitted : Ruling → List TeamInterrupt → List TeamInterrupt → List TeamInterrupt
where_admitted (Admitted version) before after = after
where_admitted (Refused refusal) before after = before
where_admitted (Infeasible o) before after = before

-- the interrupts after the admitted entries of a log
abbrev pub interrupts_along : List TeamInterrupt → List Entry → List TeamInterrupt
interrupts_along interrupts [] = interrupts
interrupts_along interrupts (e ∷ log) =
    interrupts_along (where_admitted e.decision interrupts
    (interrupts_after e.team interrupts e.changes)) log

-- what the timers of tasks take in a window of whoever executes
abbrev pub timers_within : List Owned → ℕ → ℕ
timers_within tasks time = sum_by (λ o. releases_within o.sheet time * o.sheet.node.release) tasks
