-- What `desk limits` answers and prints.
use Rattle.std.specs.Prelude.{◌≡◌, ℕ, List, ◌++◌, Option}
use Rattle.limit_lines.specs.LimitLines.{order_given, places_in}
use Rattle.limit_lines.specs.Whole.{AreLimits}
use Rattle.answering.specs.Asked.{AnswersAsked}
use Rattle.answering.specs.OrderParts.{placing_first}
use Rattle.answering.specs.Printed.{AnswersText}
use Rattle.answering.specs.Statuses.{placing_status}
use Rattle.set_commands.specs.OnSet.{OfSet}
use Rattle.set_commands.specs.declared.chained.Placed.{Placed}

-- a text is the first line of a placing, and then how far the numbers of its set may go, or those of the task that is asked about
abbrev pub AreLimitsOf : Placed → (asked : Option ℕ) → List ℕ → Type 0
AreLimitsOf placed asked text =
    (lines : List ℕ)
    × AreLimits placed.owners.items placed.chains.items placed.tasks (order_given placed.placing)
    (places_in placed.placing) asked lines
    × (text ≡ placing_first placed.tasks placed.placing ++ lines)

-- the answer, of the task that a word names
abbrev pub LimitsSet : Option (List ℕ) → OfSet
LimitsSet word placed =
    AnswersAsked (λ asked. AnswersText (AreLimitsOf placed asked) (placing_status placed.placing)) placed.tasks word
