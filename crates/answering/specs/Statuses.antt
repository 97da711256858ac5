-- The numbers of the exit statuses.
use Rattle.std.specs.Prelude.{ℕ}
use Rattle.answering.specs.declared.status.Status.{Status}
use Rattle.answering.specs.declared.status.Status.TheVariants.{Done, BadArguments, Infeasible, BadInput, BadCertificate, OutOfMemory, InputOrOutputFailed}
use Rattle.assignment.specs.declared.placing.Placing.{Placing}
use Rattle.assignment.specs.declared.placing.Placing.TheVariants.{Best, Stuck}

-- the number that a process ends with
abbrev pub code_of : Status → ℕ
code_of Done = 0
code_of BadArguments = 2
code_of Infeasible = 3
code_of BadInput = 4
code_of BadCertificate = 5
code_of OutOfMemory = 6
code_of InputOrOutputFailed = 7

-- the exit status of a placing
abbrev pub placing_status : Placing → Status
placing_status (Best places) = Done
placing_status (Stuck left) = Infeasible
