-- What is answered to a finding that is brought to a draft.
use Rattle.std.proofs.Common.{◌≡◌, List, Result, Ok, Err, length, refl}
use Rattle.std.proofs.lemmas.Bool.{ltb-true}
use Rattle.assignment.specs.Questions.{QuestionData}
use Rattle.drafts.specs.Applied.{OnNode}
use Rattle.drafts.specs.declared.change.Refusal.{Refusal}
use Rattle.drafts.specs.Edits.{on_base}
use Rattle.desk_core.specs.declared.events.Reply.{Reply}
use Rattle.desk_core.specs.declared.events.Reply.TheVariants as reply
use Rattle.desk_core.specs.declared.events.Cause.TheVariants as cause
use Rattle.desk_core.specs.declared.told.Told.{Told}
use Rattle.desk_core.specs.declared.told.Told.TheVariants.{Stranger, Twice, Taken, LevelDone}
use Rattle.desk_core.specs.declared.told.Told.TheVariants.{Tested}
use Rattle.desk_core.specs.Findings.{Asked, asked_of, IsTold, found_after}
use Rattle.desk_core.specs.Trials.{TrialData}
use Rattle.desk_core.specs.World.{Live, with_found, IsFound, IsBroughtTo, IsToldReply, IsTestedOn}
use Rattle.desk_core.specs.Stages.{IsTrialOn}
use Rattle.desk_core.specs.Brought.{IsTelling}
use Rattle.task_sheet.proofs.ChosenLaws.{level_at-part}

pub telling : (old new : TrialData) (q : QuestionData) (told : Told)
    → IsTold old.set old.found q told → new.set ≡ old.set
    → new.found ≡ found_after old.found (asked_of q) told → IsTelling new told
telling old new q Stranger is same found = tt
telling old new q Twice is same found = tt
telling old new q Taken is same found = tt
telling old new q (LevelDone level task response) is same found =
    let within =
    ltb-true task (length old.set) (level_at-part old.set is.0 task is.2.chosen.member) in
    rw same within
telling old new q Tested is same found = rw (same, found) is.2

-- what a trial of what the changes come to tells of a finding is the answer to it
pub told-found : (outcome : Result OnNode Refusal) (old new : TrialData) (q : QuestionData)
    (told : Told) (r : Reply) → IsTrialOn outcome old → IsTold old.set old.found q told
    → new.set ≡ old.set → new.found ≡ found_after old.found (asked_of q) told
    → IsToldReply new.set told r → IsFound outcome old.found q r new.found
told-found (Err refusal) old new q told r so answer same found reply = absurd so
told-found (Ok node) old new q told r so answer same found reply =
    (told, rw (← so) answer, rw (← so, ← same) reply, found)

-- a finding for a draft that is tested is a stranger
pub tested-stranger : (outcome : Result OnNode Refusal) (found after : List Asked)
    (q : QuestionData) → IsTestedOn outcome found → after ≡ found
    → IsFound outcome found q (reply.Refused cause.Stranger) after
tested-stranger (Err refusal) found after q tested same = absurd tested
tested-stranger (Ok node) found after q tested same =
    (Stranger, (λ k present. absurd (present.undecided (tested k))), refl, same)

-- so it is for a live draft, with these findings after its stage was put away
pub live-brought : (old l : Live) (q : QuestionData) (r : Reply) (found after : List Asked)
    → l ≡ old → after ≡ found → IsFound (on_base l.draft) l.found q r found
    → IsBroughtTo old q r (with_found l after)
live-brought old l q r found after is same so = rw (← is) (after, rw same so, refl)
