-- What is said of the set that changes come to is said of what they come to.
use Rattle.std.proofs.Common.{◌≡◌, ◌∙◌, ◌<◌, ◌≤◌, ℕ, List, None, refl, sym, subst, arith, Global}
use Rattle.std.specs.Prelude.{Result, Ok, Err}
use Rattle.std.specs.declared.sync.Arc.{Arc}
use Rattle.task_sheet.proofs.Common.{Task, IsTaskSet, VerdictData, Admitted, Infeasible}
use Rattle.task_sheet.proofs.Common.{indexes_of, all_of}
use Rattle.task_sheet.proofs.TaskLaws.{AllTasks-from_set}
use Rattle.task_sheet.proofs.IndexLaws.{same_parts}
use Rattle.assignment.specs.Questions.{QuestionData}
use Rattle.assignment.specs.Placings.{IsPlacingOf, SaysSame}
use Rattle.assignment.specs.declared.placing.Placing.{Placing}
use Rattle.assignment.specs.declared.placing.Placing.TheVariants.{Best, Stuck}
use Rattle.assignment.proofs.VerdictPlacings.{says_same, some_verdict_says}
use Rattle.candidate_workers.specs.Asked.{IsOfLevel, IsOfPlaces, IsOfPlacing}
use Rattle.candidate_workers.specs.WorkerFaults.{NoVerdict, IsBadCount}
use Rattle.candidate_workers.specs.declared.assaying.AssayFault.{AssayFault}
use Rattle.candidate_workers.specs.declared.assaying.AssayFault.TheVariants as assay
use Rattle.drafts.specs.declared.change.Refusal.{Refusal}
use Rattle.drafts.specs.declared.applying.Applied.TheVariants.{Tasks}
use Rattle.drafts.specs.Applied.{OnNode, set_of}
use Rattle.drafts.specs.Outcomes.{IsApplied}
use Rattle.book_lock.specs.Asking.{NoneShutOf, IsUntestedSet, IsUntested}
use Rattle.book_lock.specs.Asking.{IsCauseOf}
use Rattle.book_lock.specs.declared.commit.CommitCause.{CommitCause}
use Rattle.book_lock.specs.declared.commit.CommitCause.TheVariants.{OutOfMemory}

-- ---- faults of the test
pub untested_set : (may : QuestionData → Type 0) (U : List Task) (workers : ℕ) (fault : AssayFault)
    (cause : CommitCause) → ¬ IsBadCount workers → NoVerdict may U workers fault
    → IsCauseOf U fault cause → IsUntestedSet may U cause
untested_set may U workers assay.BadWorkers cause good h is = absurd (good h)
untested_set may U workers (assay.GateShut task) cause good h is =
    rw is (record { task = task; shut = h; named = refl })
untested_set may U workers fault cause good h is = rw is tt

-- no more workers than a good number of them, and some, are a good number
pub still_good : (n workers : ℕ) → ¬ IsBadCount workers → 0 < n → n ≤ workers → ¬ IsBadCount n
still_good n workers good some le = grind arith

-- ---- questions of the one placing
-- two placings that say the same have the same questions
same_questions : (U : List Task) (v : VerdictData) (p r : Placing) (q : QuestionData)
    → SaysSame U v p → SaysSame U v r → IsPlacingOf U p → IsPlacingOf U r
    → IsOfPlacing U p q → IsOfPlacing U r q
same_questions U (Admitted levels) (Best places) (Best others) q a b h g asked =
    subst (λ ps. IsOfPlaces U (all_of U) ps q) (a ∙ sym b) asked
same_questions U (Admitted levels) (Best places) (Stuck left) q a b h g asked = absurd b
same_questions U (Admitted levels) (Stuck left) r q a b h g asked = absurd a
same_questions U (Infeasible members) (Best places) r q a b h g asked = absurd a
same_questions U (Infeasible members) (Stuck left) (Best places) q a b h g asked = absurd b
same_questions U (Infeasible members) (Stuck left) (Stuck other) q a b h g asked =
    let same = same_parts (indexes_of left) (indexes_of other)
    (g.greatest (indexes_of left) h.obstruction) (h.greatest (indexes_of other) g.obstruction) in
    subst (λ L. IsOfLevel U L None q) same asked

pub none_shut : (shut : QuestionData → Type 0) (U own : List Task) (p : Placing) → own ≡ U
    → IsTaskSet U → IsPlacingOf own p
    → ((q : QuestionData) → IsOfPlacing own p q → shut q → ⊥) → NoneShutOf shut U
none_shut shut U own p same valid right none =
    let tasks = AllTasks-from_set own (rw same valid) in
    rw (← same) (λ placing is q asked.
    let v = some_verdict_says own tasks placing is in
    none q (same_questions own v.0 placing p q v.2 (says_same own tasks v.0 p v.1 right) is right
    asked))

-- ---- from a set to what changes come to
-- the set of tasks that are told
pub set_told : (outcome : Result OnNode Refusal) (set : Arc (List Task) Global)
    → IsApplied outcome (Tasks set)
    → (node : OnNode) × (outcome ≡ Ok node) × (set.value ≡ set_of node)
set_told (Ok node) set h = (node, refl, h)
set_told (Err told) set h = absurd h

-- out of memory, whatever the changes come to
pub untested_memory : (may : QuestionData → Type 0) (outcome : Result OnNode Refusal)
    → IsUntested may outcome OutOfMemory
untested_memory may (Ok node) = tt
untested_memory may (Err refusal) = refl
