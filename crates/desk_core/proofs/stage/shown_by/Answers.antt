use Rattle.std.proofs.Common.{◌∙◌, ap, subst}
use Rattle.drafts.specs.declared.judging.Judged.{Judged}
use Rattle.drafts.specs.Outcomes.{IsJudgedSet}
use Rattle.desk_core.specs.Trials.{names_of}
use Rattle.desk_core.proofs.StageLaws.{stuck-shown}
use Rattle.desk_core.proofs.stage.shown_by.Goals as goal

pub returns-in_ok-room-in-Stuck : goal.returns-in_ok-room-in-Stuck
returns-in_ok-room-in-Stuck c = λ U so.
    stuck-shown U c.in-Stuck.stuck c.members.result c.list_names.result.items
    (rw c.set.ensures at c.sheets.ensures.kept) c.members.ensures.same
    (c.list_names.ensures ∙ ap (λ V. names_of V c.members.result) c.set-in-Stuck-2.ensures)
    (subst (λ (j : Judged). IsJudgedSet U j) c.in-Stuck.is so)
