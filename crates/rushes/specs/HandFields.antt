-- The drafts of a `Hand` are its team's.
use Rattle.std.specs.Prelude.{◌≡◌, ℕ, Option, None, Some}
use Rattle.drafts.specs.Edits.{Draft}
use Rattle.rushes.specs.Hands.{Hand, draft_at}

-- a draft is of that team
abbrev pub IsOfTeam : ℕ → Option Draft → Type 0
IsOfTeam team None = Unit {0}
IsOfTeam team (Some d) = d.team ≡ team

-- each draft is the team's
abbrev pub AllOwn : Hand → Type 0
AllOwn h = (number : ℕ) → IsOfTeam h.pass.team (draft_at h number)
