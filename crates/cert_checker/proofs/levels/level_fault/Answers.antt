use Rattle.std.proofs.Common.{◌∙◌, ap}
use Rattle.task_sheet.proofs.Common.{indexes_of, tasks_of}
use Rattle.cert_checker.specs.Ready.{failures_of}
use Rattle.cert_checker.specs.CertificateFaults.{fault_unless, are_lesser, time_stands}
use Rattle.cert_checker.specs.declared.fault.CheckFault.TheVariants.{WrongTasks, BadPass}
use Rattle.cert_checker.proofs.levels.level_fault.Goals as goal

pub returns-in-Tasks : goal.returns-in-Tasks
returns-in-Tasks c =
    rw c.in-Tasks.is (c.fault_unless.ensures ∙ ap (λ b. fault_unless b (WrongTasks c.args.level))
    (c.are_lesser.ensures ∙ ap (λ k. are_lesser (indexes_of c.args.left) 0 k
    (tasks_of (failures_of c.args.set.now c.args.fails.now))) c.task_by_name-task.ensures.is))

pub returns-in-Pass : goal.returns-in-Pass
returns-in-Pass c =
    rw c.in-Pass.is (c.fault_unless-in-Pass.ensures ∙ ap (λ b. fault_unless b
    (BadPass c.args.level)) (c.time_stands.ensures ∙ ap (λ k. time_stands c.args.set.now
    (indexes_of c.args.left) k c.args.time) c.task_by_name-task.ensures.is))
