-- A draft is brought the finding that it asks for.
use Rattle.std.specs.Prelude.{◌≡◌, ℕ, ◌<◌, List, Option, None, Some, Result, IsTrue, IsFalse}
use Rattle.std.specs.FinSet.{contains}
use Rattle.assignment.specs.Questions.{QuestionData, FindingData}
use Rattle.assignment.specs.Levels.{LevelState, IsAsked}
use Rattle.drafts.specs.Applied.{OnNode}
use Rattle.drafts.specs.declared.change.Refusal.{Refusal}
use Rattle.desk_core.specs.declared.told.Told.{Told}
use Rattle.desk_core.specs.declared.events.Event.TheVariants.{Found}
use Rattle.desk_core.specs.declared.events.Reply.{Reply}
use Rattle.desk_core.specs.declared.events.Standing.TheVariants.{Asking}
use Rattle.desk_core.specs.Asking.{IsNextAsked}
use Rattle.desk_core.specs.Findings.{Asked, asked_of, IsTold, found_after, IsTested}
use Rattle.desk_core.specs.Standings.{IsStanding, IsStandingOn}
use Rattle.desk_core.specs.Trials.{TrialData}
use Rattle.desk_core.specs.World.{World, Live, live_at, IsFound, Happens}
use Rattle.desk_core.specs.Slots.{IsFoundIn}

-- the question on the missing candidate of least rank of a level
pub record IsLeast (l : LevelState) (q : QuestionData) : Type 0 where
  pub asked : IsAsked l q
  pub missing : IsTrue (contains l.missing q.task)
  pub least : (j : ℕ) → j < q.task → IsFalse (contains l.missing j)

-- the trial was brought the finding on its next question, and this was told
pub record IsTriedOn (t : TrialData) (q : QuestionData) (told : Told) (u : TrialData) : Type 0 where
  pub asked : (k : ℕ) × IsNextAsked t.set t.found q k
  pub answer : IsTold t.set t.found q told
  pub same : u.set ≡ t.set
  pub found : u.found ≡ found_after t.found (asked_of q) told

-- what a trial told of that finding; none is asked for where the verdict is complete
abbrev pub IsTried : TrialData → TrialData → Option Told → Type 0
IsTried t u None = IsTested t.set t.found × (u ≡ t)
IsTried t u (Some told) = (f : FindingData) × IsTriedOn t f.question told u

-- what was replied to that finding, on what changes come to, with the findings before and after;
-- none where none is asked for
abbrev pub IsAdvancedOn :
    Result OnNode Refusal → List Asked → List Asked → Option Reply → Type 0
IsAdvancedOn outcome found after None =
    ((q : QuestionData) → ¬ IsStandingOn outcome found (Asking q)) × (after ≡ found)
IsAdvancedOn outcome found after (Some reply) =
    (f : FindingData) × IsStandingOn outcome found (Asking f.question)
    × IsFound outcome found f.question reply after

-- and to that finding for a draft, if it is live, with the draft before and after
abbrev pub IsAdvancedIn : Option Live → Option Live → Option Reply → Type 0
IsAdvancedIn slot new None = ((q : QuestionData) → ¬ IsStanding slot (Asking q)) × (new ≡ slot)
IsAdvancedIn slot new (Some reply) =
    (f : FindingData) × IsStanding slot (Asking f.question) × IsFoundIn slot f.question reply new

-- the draft of that number was brought the finding that it asks for, as an event, and this is the
-- reply; none where it asks for none
abbrev pub IsAdvanced : World → ℕ → World → Option Reply → Type 0
IsAdvanced w draft v None =
    ((q : QuestionData) → ¬ IsStanding (live_at w.drafts draft) (Asking q)) × (v ≡ w)
IsAdvanced w draft v (Some reply) =
    (f : FindingData) × IsStanding (live_at w.drafts draft) (Asking f.question)
    × Happens w (Found draft f) reply v
