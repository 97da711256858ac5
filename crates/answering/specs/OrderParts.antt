-- How much is printed of a placing.
use Rattle.std.specs.Prelude.{ℕ, ◌==◌, List, ◌++◌, length, codes, if◌then◌else◌}
use Rattle.std.specs.Fmt.{decimal}
use Rattle.task_sheet.specs.Sheet.{Task}
use Rattle.task_sheet.specs.Indexes.{indexes_of, listed_below}
use Rattle.assignment.specs.Places.{PlaceData}
use Rattle.assignment.specs.Placings.{tasks_of_places}
use Rattle.assignment.specs.declared.placing.Placing.{Placing}
use Rattle.assignment.specs.declared.placing.Placing.TheVariants.{Best, Stuck}
use Rattle.settings.specs.Settings.{settings_anew, settings_from}
use Rattle.answering.specs.OutcomeLines.{infeasible_line}
use Rattle.answering.specs.declared.answer.OrderPart.{OrderPart}
use Rattle.answering.specs.declared.answer.OrderPart.TheVariants.{Count, Settings}

-- what a node is set to for an order, where level 1 has a priority, with so much room beside each
abbrev pub settings_said : List Task → (base room : ℕ) → List ℕ → List ℕ
settings_said U base room order =
    if room == 0 then settings_from U base order else settings_anew U base room order

-- so much of an order: how many levels it has; or what a node is set to
abbrev pub order_said : OrderPart → List Task → List PlaceData → List ℕ
order_said Count U places = codes "admitted " ++ decimal (length places) ++ codes "\n"
order_said (Settings base room) U places = settings_said U base room (tasks_of_places places)

-- so much of the order of a placing, or the line of its obstruction
abbrev pub placing_said : OrderPart → List Task → Placing → List ℕ
placing_said part U (Best places) = order_said part U places.items
placing_said part U (Stuck left) = infeasible_line U (listed_below (length U) (indexes_of left))

-- the same of a placing
abbrev pub placing_first : List Task → Placing → List ℕ
placing_first U placing = placing_said Count U placing
