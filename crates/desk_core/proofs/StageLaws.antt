-- How far the test of a draft has come, from stage to stage.
use Rattle.std.proofs.Common.{◌≡◌, ◌∙◌, ◌↔◌, ℕ, zero, suc, ◌<◌, Bool, true, List, [], length, map}
use Rattle.std.proofs.Common.{None, inr, Result, Ok, Err, Box, Global, IsTrue, refl, sym, ap}
use Rattle.std.proofs.Common.{subst, arith}
use Rattle.std.specs.Ordering.{nat_cmp}
use Rattle.std.specs.Global.{Vec}
use Rattle.std.specs.FinSet.{FinSet, contains, empty}
use Rattle.std.proofs.lemmas.Bool.{lt-ltb}
use Rattle.std.proofs.lemmas.List.{length-map}
use Rattle.task_sheet.proofs.Common.{Task, task_at, among, indexes_of, listed_below, no_index}
use Rattle.task_sheet.proofs.Common.{all_below, level_at}
use Rattle.task_sheet.specs.TaskSet.{IsTaskSet}
use Rattle.task_sheet.proofs.MembersIndexes.{indexes_of-all_below, indexes_of-empty}
use Rattle.task_sheet.proofs.ObstructionLaws.{IsObstruction-fails}
use Rattle.task_sheet.proofs.TaskLaws.{AllTasks-from_set}
use Rattle.drafts.specs.declared.change.Refusal.{Refusal}
use Rattle.drafts.specs.declared.judging.Judged.{Judged}
use Rattle.drafts.specs.declared.judging.Judged.TheVariants as judged
use Rattle.drafts.specs.Outcomes.{IsJudged, IsJudgedSet}
use Rattle.drafts.specs.Placed.{StuckSetData}
use Rattle.desk_core.specs.declared.events.Standing.TheVariants as standing
use Rattle.desk_core.specs.declared.notes.Notes.{Notes}
use Rattle.desk_core.specs.declared.stage.Stage.{Stage}
use Rattle.desk_core.specs.declared.stage.Stage.TheVariants.{Fresh, Trying, Tested}
use Rattle.overheads.proofs.ChargedSets.{count-charged}
use Rattle.drafts.specs.Applied.{OnNode, sheets_of, said_of, set_of}
use Rattle.desk_core.specs.Trials.{TrialData, names_of}
use Rattle.desk_core.specs.Findings.{Asked, level_of, IsTested}
use Rattle.desk_core.specs.World.{IsTestedOn, IsShown}
use Rattle.desk_core.specs.Stages.{found_of, is_begun, IsBegun, IsComplete, IsStage, IsTrialOn}
use Rattle.desk_core.specs.Standings.{IsStandingOn, IsQuestionOn}
use Rattle.drafts.specs.Edits.{HasTasks}
use Rattle.desk_core.proofs.FindingLaws.{fresh-undecided}

-- ---- names
listed-none : (n : ℕ) → listed_below n no_index ≡ []
listed-none zero = refl
listed-none (suc n) = listed-none n

-- no tasks have no names
pub names-none : (U : List Task) → names_of U (empty {R = nat_cmp}) ≡ []
names-none U =
    ap (λ L. map (λ i. (task_at U i).name) (listed_below (length U) L)) indexes_of-empty
    ∙ ap (λ ns. map (λ i. (task_at U i).name) ns) (listed-none (length U))

-- ---- whether it is tested
pub trying-tested : (outcome : Result OnNode Refusal) (trial : TrialData) (found : List Asked)
    → IsTrialOn outcome trial → trial.found ≡ found → IsTested trial.set trial.found
    ↔ IsTestedOn outcome found
trying-tested (Err refusal) trial found so same = absurd so
trying-tested (Ok node) trial found so same =
    (λ tested. rw (← same, ← so) tested, λ tested. rw (so, same) tested)

-- a stage that is complete, by the findings that were brought: they decide all, and what was judged is right
pub tested-stage : (outcome : Result OnNode Refusal) (stage : Stage) (judged : Judged)
    (found : Notes) (brought : List Asked) → stage ≡ Tested judged found → IsStage outcome stage
    → found_of stage ≡ brought → IsTestedOn outcome brought × IsJudged outcome judged
tested-stage outcome stage judged found brought is so same =
    let now = rw is at so in
    (subst (IsTestedOn outcome) (sym (ap found_of is) ∙ same) now.0, now.1)

-- a trial that goes on is one of what the changes come to, with the findings that were brought
pub trying-stage : (outcome : Result OnNode Refusal) (stage : Stage)
    (trial : Box TrialData Global) (now : TrialData) (brought : List Asked) → stage ≡ Trying trial
    → now ≡ trial.value → IsStage outcome stage → found_of stage ≡ brought → IsTrialOn outcome now
    × (now.found ≡ brought)
trying-stage outcome stage trial now brought is at so same =
    (rw at (rw is at so), ap (λ (t : TrialData). t.found) at ∙ sym (ap found_of is) ∙ same)

-- a trial whose findings decide all comes to what was judged of its set
pub trying-rest : (outcome : Result OnNode Refusal) (trial : TrialData) (judged : Judged)
    (found : Notes) → IsTrialOn outcome trial → IsTested trial.set trial.found
    → IsJudgedSet trial.set judged → found.items ≡ trial.found
    → IsStage outcome (Tested judged found)
trying-rest (Err refusal) trial judged found so tested right same = absurd so
trying-rest (Ok node) trial judged found so tested right same =
    (rw (same, ← so) tested, rw (← so) right)

-- the findings that are on the trial of a stage decide all where they do so on what the changes come to
pub trying-done : (outcome : Result OnNode Refusal) (stage : Stage)
    (trial : Box TrialData Global) → stage ≡ Trying trial → IsStage outcome stage
    → IsTestedOn outcome (found_of stage) → IsTested trial.value.set trial.value.found
trying-done outcome stage trial is so tested =
    (trying-tested outcome trial.value trial.value.found (rw is at so) refl).1 (rw is at tested)

-- where the findings decide all, the changes apply
pub begun-tested : (outcome : Result OnNode Refusal) (stage : Stage) (found : List Asked)
    (applies : Bool) → IsBegun outcome stage applies → IsTestedOn outcome found
    → (applies ≡ true) × (is_begun stage ≡ true)
begun-tested (Err refusal) stage found applies begun tested = absurd tested
begun-tested (Ok node) stage found applies begun tested = begun

-- a stage that is complete keeps what was judged
pub complete-tested : (stage : Stage)
    → ((judged : Judged) (found : Notes) → ¬ (stage ≡ Tested judged found)) → ¬ IsComplete stage
complete-tested Fresh other complete = complete
complete-tested (Trying trial) other complete = complete
complete-tested (Tested judged found) other complete = other judged found refl

-- ---- the names that are shown of a set that is stuck
pub stuck-shown : (U : List Task) (stuck : StuckSetData) (members : FinSet nat_cmp)
    (names : List (List ℕ)) → IsTaskSet stuck.set
    → listed_below (length stuck.set) (indexes_of members) ≡ stuck.members
    → names ≡ names_of stuck.set members → IsJudgedSet U (judged.Stuck stuck) → IsShown U names
stuck-shown U stuck members names valid listed is so =
    let tasks = AllTasks-from_set U (subst IsTaskSet so.0 valid) in
    inr (
      IsObstruction-fails U tasks (among stuck.members) so.1.greatest.obstruction,
      (
        stuck.members,
        so.1,
        is ∙ ap (λ ms. map (λ i. (task_at stuck.set i).name) ms) listed
            ∙ ap (λ V. map (λ i. (task_at V i).name) stuck.members) so.0,
      ),
    )

-- ---- where it stands
pub tested-standing : (outcome : Result OnNode Refusal) (stage : Stage) (judged : Judged)
    (found : Notes) (brought : List Asked) (infeasible : Vec (List ℕ)) → stage ≡ Tested judged found
    → IsStage outcome stage → found_of stage ≡ brought
    → ((U : List Task) → IsJudgedSet U judged → IsShown U infeasible.items)
    → IsStandingOn outcome brought (standing.Tested infeasible)
tested-standing (Err refusal) stage judged found brought infeasible is so same shown =
    absurd (tested-stage (Err refusal) stage judged found brought is so same).0
tested-standing (Ok node) stage judged found brought infeasible is so same shown =
    let now = tested-stage (Ok node) stage judged found brought is so same in
    (now.0, shown (set_of node) now.1)

-- a draft that is tested asks nothing
pub tested-unasked : (outcome : Result OnNode Refusal) (found : List Asked) (name : List ℕ)
    → IsTestedOn outcome found → IsQuestionOn outcome found name None
tested-unasked (Err refusal) found name tested = absurd tested
tested-unasked (Ok node) found name tested =
    λ q asked. asked.present.undecided (tested asked.level)

-- ---- a draft without findings asks for one where its changes come to some task
untested : (U : List Task) → 0 < length U → ¬ IsTested U []
unfolding level_at
untested U some tested =
    let member : IsTrue (contains (all_below (length U)) 0) =
    ap (λ X. X 0) (indexes_of-all_below (length U)) ∙ lt-ltb 0 (length U) some in
    fresh-undecided (level_of U [] 0) refl 0 member (tested 0)

pub fresh-untested : (outcome : Result OnNode Refusal) → HasTasks outcome
    → ¬ IsTestedOn outcome []
fresh-untested (Err refusal) some tested = tested
fresh-untested (Ok node) some tested =
    untested (set_of node) (omega (
      arith,
      some,
      length-map node.tasks (λ o. o.sheet),
      count-charged (sheets_of node.tasks) (said_of node.interrupts),
    )) tested
