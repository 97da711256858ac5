-- What a call answers, from what its command promises and what was handed out.
use Rattle.std.proofs.Common.{rules, ◌≡◌, ◌≢◌, ℕ, List, [], Bool, true, false, length, Some, Option}
use Rattle.answering.specs.Statuses.{code_of}
use Rattle.answering.specs.declared.status.Status.{Status}
use Rattle.answering.specs.declared.status.Status.TheVariants.{InputOrOutputFailed}
use Rattle.libdesk.specs.Answers.{AnswersCall, Fills, GivesUp, TellsCall}

-- by cases of the status: of a failed write nothing is handed out, and any other shows that none has failed
pub answered : (says : Option (List ℕ) → Option (List ℕ) → Status → Type 0) (failed : Bool)
    (s : Status)
    (text before after : List ℕ) (count number : ℕ)
    → (failed ≡ false → says (Some []) (Some text) s)
    → (failed ≡ true → s ≡ InputOrOutputFailed)
    → (s ≢ InputOrOutputFailed → Fills text before after × (count ≡ length text)
    × (number ≡ code_of s))
    → (s ≡ InputOrOutputFailed → GivesUp before after count number)
    → AnswersCall says before after count number
answered says failed s text before after count number printed unwritten given gave_up =
    Prim.search (rules)

-- the same of what a person is told: what is handed out is that, and what the command prints stays where it was put
pub told : (says : Option (List ℕ) → Option (List ℕ) → Status → Type 0) (failed : Bool) (s : Status)
    (said text before after : List ℕ) (count number : ℕ)
    → (failed ≡ false → says (Some []) (Some text) s)
    → (failed ≡ true → s ≡ InputOrOutputFailed)
    → (s ≢ InputOrOutputFailed → Fills said before after × (count ≡ length said)
    × (number ≡ code_of s))
    → (s ≡ InputOrOutputFailed → GivesUp before after count number)
    → TellsCall says before after count number
told says failed s said text before after count number printed unwritten given gave_up =
    Prim.search (rules)
