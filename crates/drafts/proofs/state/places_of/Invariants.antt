use Rattle.std.proofs.Common.{◌≡◌, ℕ, ◌&&◌, nat_lt}
use Rattle.std.specs.FinSet.{contains}
use Rattle.drafts.specs.Applied.{is_team_at, teams_of}
use Rattle.drafts.proofs.state.places_of.Given as goal

abbrev pub invariant-loop-index : goal.invariant-loop-index
invariant-loop-index l = (k : ℕ)
    → contains l.members k ≡ (nat_lt k l.index && is_team_at l.team (teams_of l.tasks) k)
