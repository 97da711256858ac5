-- What `desk certify` answers and prints.
use Rattle.std.specs.Prelude.{◌≡◌, ℕ, List, map, Option, Result, Ok, Err}
use Rattle.preferences.specs.declared.asking.Asking.{Asking}
use Rattle.task_sheet.specs.Sheet.{Task}
use Rattle.task_sheet.specs.Verdicts.{LevelData, VerdictData, IsVerdictOf}
use Rattle.chains.specs.declared.bounds.Level.{Level}
use Rattle.chain_tables.specs.Chains.{ChainData}
use Rattle.certificate.specs.Body.{Body, Best, NoOrder, Cert}
use Rattle.certificate.specs.CertificateOf.{certificate_of}
use Rattle.certificate.specs.Spelling.{spelling}
use Rattle.cert_checker.specs.Numbers.{level_at, numbers_of}
use Rattle.answering.specs.Printed.{Prints}
use Rattle.set_commands.specs.OnSet.{OfOneSays}
use Rattle.answering.specs.Owning.{HasChained}
use Rattle.answering.specs.Sets.{HasNoSet, HasSet}
use Rattle.answering.specs.declared.refusal.CommandRefusal.{CommandRefusal}
use Rattle.answering.specs.declared.status.Status.{Status}
use Rattle.answering.specs.declared.status.Status.TheVariants as status

-- the tasks of levels with their responses
abbrev pub levels_in : List LevelData → List Level
levels_in levels = map level_at levels

-- the answer on what a reader has: the certificate of the verdict of its set, with each of its chains and its bound in the
-- order; or why there is none
abbrev pub Certifies : Asking → Option (List ℕ) → Result Cert CommandRefusal → Type 0
Certifies asking known (Ok c) =
    (U : List Task) × (chains : List ChainData) × (v : VerdictData) × HasSet asking known U
    × HasChained known U chains × IsVerdictOf U v × (c ≡ certificate_of U v (numbers_of U chains v))
Certifies asking known (Err r) = HasNoSet asking known r

-- the exit status of a body
abbrev pub body_status : Body → Status
body_status (Best levels) = status.Done
body_status (NoOrder members) = status.Infeasible

-- the exit status of a certificate
abbrev pub certified_status : Cert → Status
certified_status c = body_status c.body

-- the answer on what the reader had is printed after what the writer held, and the status is the answer's
abbrev pub SaysCertified : OfOneSays
SaysCertified asking known before after s =
    Prints (Certifies asking known) spelling certified_status before after s
