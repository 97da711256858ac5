use Rattle.preferences.proofs.Renumbering.{unweighed-preferred, ShareOrders-preferred}
use Rattle.preferences.proofs.Renumbering.{IsFeasible-preferred}
use Rattle.preferences.proofs.laws.preference_keeps_tasks.Goals as goal

pub returns : goal.returns
returns c = record {
  tasks = unweighed-preferred;
  orders = ShareOrders-preferred;
  feasible =
      IsFeasible-preferred;
}
