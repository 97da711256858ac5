-- Why there is no script of all teams.
use Rattle.std.proofs.Common.{ℕ, List, Option}
use Rattle.preferences.specs.declared.asking.Asking.{Asking}
use Rattle.task_sheet.specs.Sheet.{Task}
use Rattle.task_lines.specs.declared.owner.Owner.{Owner}
use Rattle.answering.specs.Owning.{HasOwned}
use Rattle.answering.specs.Sets.{HasNoSet}
use Rattle.answering.specs.declared.refusal.CommandRefusal.{CommandRefusal}
use Rattle.answering.specs.declared.refusal.CommandRefusal.TheVariants as refusal
use Rattle.set_commands.specs.Script.{AreTooMany, HasNoParts}

-- no reader without a set has too many teams
pub no_parts : (asking : Asking) (known : Option (List ℕ)) (r : CommandRefusal)
    → HasNoSet asking known r → HasNoParts asking known r
no_parts asking known refusal.TooManyTeams why = absurd why
no_parts asking known r why = why

pub too_many : (asking : Asking) (known : Option (List ℕ)) (U : List Task) (owners : List Owner)
    (r : CommandRefusal) → HasOwned asking known U owners → AreTooMany owners U r
    → HasNoParts asking known r
too_many asking known U owners refusal.TooManyTeams has why = (U, owners, has, why)
too_many asking known U owners refusal.OutOfMemory has why = tt
too_many asking known U owners r has why = absurd why
