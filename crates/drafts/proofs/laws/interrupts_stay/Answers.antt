use Rattle.drafts.specs.Machine.{empty_desk}
use Rattle.drafts.proofs.InterruptLaws.{others_stay, unsaid_stay, along_log}
use Rattle.drafts.proofs.laws.interrupts_stay.Goals as goal

pub returns : goal.returns
returns c = record { others = others_stay; unsaid = unsaid_stay; along = along_log empty_desk }
