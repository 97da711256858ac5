-- The question that comes next, and the question on the task of a name.
use Rattle.std.proofs.Common.{◌≡◌, ℕ, ◌<◌, inl, inr, true, List, [], ◌∷◌, length, position, Some}
use Rattle.std.proofs.Common.{refl, sym, ◌∙◌, ap, IsTrue, IsFalse}
use Rattle.std.specs.Ordering.{nat_cmp}
use Rattle.std.specs.FinSet as members
use Rattle.std.proofs.lemmas.Bool.{cases_Bool, ltb-true, lt-ltb}
use Rattle.std.proofs.lemmas.List.Quantifiers.{position-Some}
use Rattle.std.proofs.lemmas.Slice.Eq.{bytes_eq-Decides}
use Rattle.task_sheet.proofs.Common.{Task, same_bytes, no_task, task_at, IsTaskSet, indexes_of}
use Rattle.task_sheet.proofs.Common.{level_at}
use Rattle.task_sheet.proofs.ChosenLaws.{level_at-part}
use Rattle.task_sheet.proofs.IndexLaws.{without-parts}
use Rattle.task_sheet.proofs.MembersIndexes.{indexes_of-remove}
use Rattle.task_sheet.proofs.TaskLaws.{place_of_name}
use Rattle.assignment.specs.Questions.{QuestionData}
use Rattle.assignment.specs.Climbs.{ClimbState, IsUnfinished}
use Rattle.desk_core.specs.Findings.{Asked, is_on, missing_after, level_of}
use Rattle.desk_core.specs.Progress.{IsProgress}
use Rattle.desk_core.specs.Asking.{IsNextAsked, IsAskedBy}
use Rattle.desk_core.proofs.FindingLaws.{IsPresent-one}
use Rattle.desk_core.proofs.ProgressLaws.{progress-present}

-- what is missing is a candidate
missing_after-part : (left m : members.FinSet nat_cmp) (found : List Asked) (k : ℕ)
    → members.contains (missing_after left m found) k ≡ true → members.contains m k ≡ true
missing_after-part left m [] k h = h
missing_after-part left m (a ∷ found) k h = elim (cases_Bool (is_on left a)) [
  | inl on ↦
      let rest = missing_after-part left (members.remove m a.task) found k (rw on at h) in
      (without-parts (indexes_of m) a.task k
      (ap (λ X. X k) (sym (indexes_of-remove m a.task)) ∙ rest)).0
  | inr off ↦ missing_after-part left m found k (rw off at h)
]

-- the question on a task, with the others of a climb above it
abbrev pub asked_at : List Task → ClimbState → ℕ → QuestionData
asked_at U c task = record { set = U; above = members.remove c.left task; task = task }

module _ (U : List Task) (c : ClimbState) (found : List Asked) (so : IsProgress U c found)
    (going : IsUnfinished c) where
  pub asking-next : (task : ℕ)
      → IsTrue (members.contains (level_of U found (length c.levels)).missing task)
      → ((j : ℕ) → j < task
      → IsFalse (members.contains (level_of U found (length c.levels)).missing j))
      → IsNextAsked U found (asked_at U c task) (length c.levels)
  asking-next task missing least =
      let left = level_at U (length c.levels) in
      record {
        present = progress-present U c found so going;
        asked = record {
          same = refl;
          candidate = missing_after-part left left found task missing;
          rest = ap (λ m. members.remove m task) so.left;
        };
        missing = missing;
        least = least;
      }

  pub asking-named : (name : List ℕ) (task : ℕ)
      → Some task ≡ position (λ s. same_bytes s.name name) U → IsTrue (members.contains c.left task)
      → IsAskedBy U found name (asked_at U c task)
  asking-named name task is member =
      let at = position-Some (λ s. same_bytes s.name name) U task no_task (sym is) in
      record {
        level = length c.levels;
        present = progress-present U c found so going;
        asked = record {
          same = refl;
          candidate = rw (← so.left) member;
          rest = ap (λ m. members.remove m task) so.left;
        };
        named = (bytes_eq-Decides (task_at U task).name name).0 at.1;
      }

  pub asked-left : (name : List ℕ) (q : QuestionData) → IsAskedBy U found name q
      → IsTrue (members.contains c.left q.task)
  asked-left name q asked =
      let here = IsPresent-one U found (length c.levels) asked.level
      (progress-present U c found so going) asked.present in
      rw (so.left, here) asked.asked.candidate

-- the task that is asked of is the first of its name
pub asked-place : (U : List Task) (found : List Asked) (name : List ℕ) (q : QuestionData)
    → IsTaskSet U → IsAskedBy U found name q
    → position (λ s. same_bytes s.name name) U ≡ Some q.task
asked-place U found name q valid asked =
    let lt : q.task < length U =
    ltb-true q.task (length U) (level_at-part U asked.level q.task asked.asked.candidate) in
    rw (
      ← asked.named,
      place_of_name U valid.distinct q.task lt,
      lt-ltb q.task (length U) lt,
    ) refl
