-- What is said of a set's chains in its best order.
use Rattle.std.specs.Prelude.{◌≡◌, ℕ, Bool, List, [], Option, if◌then◌else◌}
use Rattle.task_sheet.specs.Sheet.{Task}
use Rattle.assignment.specs.Placings.{IsPlacingOf}
use Rattle.assignment.specs.declared.placing.Placing.{Placing}
use Rattle.assignment.specs.declared.placing.Placing.TheVariants.{Best, Stuck}
use Rattle.chains.specs.declared.bounds.Level.{Level}
use Rattle.least_chains.specs.LeastBound.{levels_at, levels_of}
use Rattle.chain_tables.specs.Chains.{ChainData}
use Rattle.chain_lines.specs.ChainLines.{all_met, chains_said}
use Rattle.chain_lines.specs.Leasts.{AreLeast}
use Rattle.chain_lines.specs.declared.text.Telling.{Telling}
use Rattle.set_commands.specs.declared.chained.Placed.{Placed}
use Rattle.answering.specs.declared.status.Status.{Status}
use Rattle.answering.specs.declared.status.Status.TheVariants as status

-- the least bounds of the chains that it misses; none where no order passes
abbrev pub AreLeastOf : List Task → List Level → List ChainData → Placing → List (Option ℕ) → Type 0
AreLeastOf U levels chains (Best places) leasts = AreLeast U levels chains leasts
AreLeastOf U levels chains (Stuck left) leasts = leasts ≡ []

-- the lines of chains in the order of a placing, with these least bounds; nothing where no order passes
abbrev pub chained_said : Telling → List Task → (leasts : List (Option ℕ)) → List ChainData → Placing → List ℕ
chained_said telling U leasts chains (Best places) =
    chains_said telling U (levels_at places.items) leasts chains
chained_said telling U leasts chains (Stuck left) = []

-- the exit status of chains in an order: a bound past its limit has that of a deadline that isn't met
abbrev pub met_status : (are_met : Bool) → Status
met_status are_met = if are_met then status.Done else status.Infeasible

-- that of a placing and the chains in its order
abbrev pub chained_status : List Task → List ChainData → Placing → Status
chained_status U chains (Best places) = met_status (all_met U (levels_at places.items) chains)
chained_status U chains (Stuck left) = status.Infeasible

-- a set was placed: this becomes of its tasks, and these are the levels, the least bounds of what they miss, and whether they miss
-- anything
pub record IsPlaced (placed : Placed) : Type 0 where
  pub placing : IsPlacingOf placed.tasks placed.placing
  pub levels : placed.levels.items ≡ levels_of placed.placing
  pub leasts : AreLeastOf placed.tasks placed.levels.items placed.chains.items placed.placing placed.leasts.items
  pub met : placed.are_met ≡ all_met placed.tasks placed.levels.items placed.chains.items

-- the lines of the chains of a set that was placed, and its exit status
abbrev pub chained_of : Telling → Placed → List ℕ
chained_of telling placed =
    chained_said telling placed.tasks placed.leasts.items placed.chains.items placed.placing

abbrev pub status_of : Placed → Status
status_of placed = chained_status placed.tasks placed.chains.items placed.placing
