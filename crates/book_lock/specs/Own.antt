-- A team's own tasks, and what a decision makes of them.
use Rattle.std.specs.Prelude.{◌≡◌, ◌≢◌, ℕ, ◌==◌, true, List, filter, Result, Ok, Err}
use Rattle.std.specs.Ordering.{nat_cmp, is_lt}
use Rattle.std.specs.Cmp.Lexicographic.{slice_cmp}
use Rattle.drafts.specs.declared.roster.Owned.{Owned}
use Rattle.drafts.specs.declared.change.Refusal.{Refusal}
use Rattle.drafts.specs.Applied.{held}
use Rattle.drafts.specs.Machine.{Ruling, Admitted, Refused, Infeasible}

-- the tasks that a team holds, by rank
abbrev pub own_of : ℕ → List Owned → List Owned
own_of team tasks = filter (λ o. o.team == team) tasks

-- a team's own tasks after a decision on changes that come to this on them: as on a desk that has no others
abbrev pub own_after : Ruling → Result (List Owned) Refusal → List Owned → List Owned
own_after (Admitted version) (Ok tasks) own = tasks
own_after (Admitted version) (Err refusal) own = own
own_after (Refused refusal) outcome own = own
own_after (Infeasible s) outcome own = own

-- the first name by bytes on which the two differ
pub record IsForeignName (book pass : List Owned) (name : List ℕ) : Type 0 where
  pub differs : held name book ≢ held name pass
  pub first : (other : List ℕ) → is_lt (slice_cmp nat_cmp other name) ≡ true
      → held other book ≡ held other pass
