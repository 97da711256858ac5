-- What a task needs that misses its deadline in an order.
use Rattle.std.specs.Prelude.{ℕ, List, ◌++◌, reverse, codes}
use Rattle.std.specs.Fmt.{decimal}
use Rattle.task_sheet.specs.Sheet.{Task}
use Rattle.task_sheet.specs.Indexes.{among}
use Rattle.lines.specs.Naming.{name_at}
use Rattle.task_lines.specs.Teams.{team_words}
use Rattle.task_lines.specs.declared.owner.Owner.{Owner}
use Rattle.explain.specs.ExplanationLines.{parts_lines}
use Rattle.explain.specs.Needs.{IsNeedsAccount}
use Rattle.explain.specs.declared.accounts.Account.{Account}

-- what task i needs at least below these tasks, the lowest first, which are listed from the highest level down
abbrev pub IsMissedBelow : List Task → (above : List ℕ) → ℕ → Account → Type 0
IsMissedBelow U above i a = IsNeedsAccount U i (among above) (reverse above) a

-- the first line of a level, which has a number, whose task misses its deadline: what it needs at least, and its team
abbrev pub missed_line : List Owner → List Task → ℕ → Account → List ℕ
missed_line owners U number a =
    decimal number ++ codes " " ++ name_at U a.task ++ codes " misses " ++ decimal a.deadline
    ++ codes " needs " ++ decimal a.time ++ team_words owners U a.task ++ codes "\n"

-- the same, and then the parts of what it needs
abbrev pub missed_lines : List Owner → List Task → ℕ → Account → List ℕ
missed_lines owners U number a = missed_line owners U number a ++ parts_lines owners U a.task a.parts
