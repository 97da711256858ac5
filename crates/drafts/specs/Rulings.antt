-- What a decision says.
use Rattle.drafts.specs.declared.entry.Decision.{Decision}
use Rattle.drafts.specs.declared.entry.Decision.TheVariants as decision
use Rattle.drafts.specs.Machine.{Ruling, Admitted, Refused, Infeasible}

-- what a decision says
abbrev pub ruling_of : Decision → Ruling
ruling_of (decision.Admitted version) = Admitted version
ruling_of (decision.Refused refusal) = Refused refusal
ruling_of (decision.Infeasible stuck) = Infeasible stuck
