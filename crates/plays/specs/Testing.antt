-- A draft that is brought all findings that it misses.
use Rattle.std.specs.Prelude.{ℕ, List}
use Rattle.assignment.specs.Questions.{FindingData}
use Rattle.desk_core.specs.declared.events.Standing.{Standing}
use Rattle.desk_core.specs.declared.events.Standing.TheVariants.{NoSuchDraft, Untestable, Asking, Tested}
use Rattle.desk_core.specs.World.{World, live_at}
use Rattle.desk_core.specs.Standings.{IsStanding}
use Rattle.plays.specs.Plays.{IsBroughtAll}

-- nothing is asked
abbrev pub IsOver : Standing → Type 0
IsOver (Asking question) = ⊥
IsOver (Tested infeasible) = Unit {0}
IsOver NoSuchDraft = Unit {0}
IsOver Untestable = Unit {0}

-- it was brought findings until nothing was asked, and stands there then
abbrev pub IsTestedBy : World → ℕ → World → Standing → Type 0
IsTestedBy w draft v s =
    ((findings : List FindingData) × IsBroughtAll w draft findings v)
    × IsStanding (live_at v.drafts draft) s × IsOver s
