use Rattle.task_sheet.proofs.InterruptLaws.{demand-plain, uninterrupted-iff}
use Rattle.task_sheet.proofs.laws.no_interrupts_is_plain.Goals as goal

pub returns : goal.returns
returns c = record { demand = demand-plain; test = uninterrupted-iff }
