use Rattle.std.proofs.Common.{◌∙◌, ℕ, List, length, ap}
use Rattle.std.proofs.lemmas.List.{length-map}
use Rattle.task_sheet.specs.Sheet.{Task}
use Rattle.assignment.specs.Placings.{tasks_of_places}
use Rattle.kept_order.specs.Keeping.{IsKeepingOf}
use Rattle.kept_order.specs.declared.Keeping.{Keeping}
use Rattle.kept_order.specs.declared.Keeping.TheVariants.{Kept}
use Rattle.two_input_commands.specs.Keep.{HasOld, HaveOld, IsKeptIn}

-- what is kept is an order of the set
kept_in : (U : List Task) (kept : List ℕ) (keeping : Keeping) → IsKeepingOf U kept keeping
    → IsKeptIn U keeping
kept_in U kept (Kept places) is = is.best.passing.passing.each_once
kept_in U kept _ is = tt

-- each of its tasks has an old number, or 0
have_old : (U : List Task) (text : List ℕ) (keeping : Keeping) (old : List ℕ)
    → HasOld U text keeping old → HaveOld keeping old
have_old U text (Kept places) old has =
    ap length has.each ∙ length-map (tasks_of_places places.items) _ ∙ length-map places.items _
have_old U text _ old has = tt
