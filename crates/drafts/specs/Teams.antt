-- Teams, numbered from 1.
use Rattle.std.specs.Prelude.{ℕ, ◌≤◌}
use Rattle.drafts.specs.declared.team.TheConstants.{TEAM_LIMIT}
use Rattle.drafts.specs.declared.team.Team.TheInside.{Inside}

-- the number of a team
abbrev pub team_number : Inside → ℕ
team_number a = a.number

-- the team of a number
abbrev pub team_of : ℕ → Inside
team_of n = record { number = n }

-- a team's number is from 1 to the greatest one
pub record IsTeam (a : Inside) : Type 0 where
  pub from : 1 ≤ a.number
  pub to : a.number ≤ TEAM_LIMIT
