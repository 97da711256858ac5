use Rattle.std.proofs.Common.{◌∙◌, false, sym, arith}
use Rattle.std.proofs.lemmas.List.{length-map}
use Rattle.settings.specs.Settings.{settings_from}
use Rattle.task_sheet.proofs.TaskLaws.{AllTasks-from_set}
use Rattle.assignment.specs.Placings.{tasks_of_places}
use Rattle.judge.specs.Judgements.{judged_of, order_judged}
use Rattle.judge.proofs.OrderLaws.{best_judged, judged_tasks, one_judged, one_node_order}
use Rattle.judge.proofs.SettingsLaws.{comes_back}
use Rattle.judge.proofs.laws.best_settings_meet.Goals as goal

pub returns : goal.returns
returns c = λ U base places judged kept best some few order each.
    let tasks = tasks_of_places places in
    let same = one_node_order false U (settings_from U base tasks) (order_judged judged) tasks order
    (comes_back U base tasks kept best.best.passing.each_once some
    (omega (arith, length-map places (λ p. p.task)))) in
    one_judged U judged (judged_of places) (same ∙ sym (judged_tasks places)) each
    (best_judged U places (AllTasks-from_set U kept) best)
