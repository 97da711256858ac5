-- Answers on the candidates of a level: what a right one says, when the level is decided, and one answer more.
use Rattle.std.proofs.Common.{◌↔◌, ℕ, ◌≤◌, false, List, IsTrue, IsFalse, refl, arith, ◌≡◌, ◌+◌, ◌<◌}
use Rattle.std.proofs.Common.{◌&&◌, not, inl, inr, get_or, Option, None, Some, is_some, ◌∙◌, ap}
use Rattle.std.proofs.Common.{subst, below_more, length, set, sym}
use Rattle.std.proofs.lemmas.Bool.{both_ways, cases_eq, ne_eqb, eq-eqb}
use Rattle.task_sheet.proofs.Common.{Task, task_at, IsTaskSet, Indexes, indexes_of, without_index}
use Rattle.task_sheet.proofs.Common.{past_jitter, IsResponseOf, must_outrank_any, Stands, ReasonData}
use Rattle.task_sheet.specs.Verdicts.{IsReason}
use Rattle.assignment.specs.Outcomes.{reason_of, IsOutcome}
use Rattle.assignment.specs.declared.outcome.Outcome.{Outcome}
use Rattle.assignment.specs.declared.outcome.Outcome.TheVariants.{Pass, Fail}
use Rattle.task_sheet.proofs.TaskLaws.{AllTasks-from_set}
use Rattle.task_sheet.proofs.PassingLaws.{Refutes-fails, Refutes-from_reason}
use Rattle.assignment.specs.Levels.{lets_stand, LevelState, IsDecided, IsRightAt, AreRight}
use Rattle.assignment.specs.Levels.{AreMissing, IsAsked, with_finding}
use Rattle.std.specs.Ordering.{nat_cmp}
use Rattle.std.specs.FinSet.{FinSet, contains}
use Rattle.std.proofs.Math.Bool.{and-false, and-true}
use Rattle.std.specs.FinSet as members
use Rattle.std.proofs.lemmas.List.{length-set, get_or-set_same, get_or-set_other}
use Rattle.task_sheet.proofs.MembersIndexes.{indexes_of-remove, same_members}
use Rattle.task_sheet.proofs.IndexLaws.{without-gone, without-kept}
use Rattle.std.proofs.Math.Path.{fun_ext}
use Rattle.assignment.specs.Questions.{QuestionData, IsRight}

pub stands_by_response : (U : List Task) (i : ℕ) (H : Indexes) (r : ℕ) → IsFalse (must_outrank_any U i H)
    → IsResponseOf U i H r → r ≤ (task_at U i).deadline → Stands U i H
stands_by_response U i H r free response within = (
  (
    past_jitter (task_at U i) r,
    response.positive,
    omega (arith, within),
    omega (arith, response.fixed),
  ),
  free,
)

pub fails_by_reason : (U : List Task) (i : ℕ) (H : Indexes) (reason : ReasonData) → IsTaskSet U
    → IsReason U i H reason → ¬ Stands U i H
fails_by_reason U i H reason valid is =
    Refutes-fails U (AllTasks-from_set U valid) i H reason (Refutes-from_reason U i H reason is)

pub lets_stand-iff : (U : List Task) (i : ℕ) (H : Indexes) (answer : Outcome) → IsTaskSet U
    → IsOutcome U i H answer → IsTrue (lets_stand answer) ↔ Stands U i H
lets_stand-iff U i H (Pass response) valid right =
    (λ _. stands_by_response U i H response right.0 right.1 right.2, λ _. refl)
lets_stand-iff U i H (Fail reason) valid right = (
  λ so. absurd (both_ways false refl so),
  λ stands.
      absurd (fails_by_reason U i H (reason_of reason) valid right stands),
)

-- each candidate below n has a finding, by which it may not stand
pub record NoneBelow (l : LevelState) (n : ℕ) : Type 0 where
  pub found : (j : ℕ) → j < n → IsTrue (contains l.left j) → IsFalse (contains l.missing j)
  pub stuck : (j : ℕ) → j < n → IsTrue (contains l.left j)
      → ¬ Stands l.set j (without_index (indexes_of l.left) j)

pub IsDecided-standing : (l : LevelState) (k : ℕ) → NoneBelow l k → IsTrue (contains l.left k)
    → IsFalse (contains l.missing k) → Stands l.set k (without_index (indexes_of l.left) k)
    → IsDecided l
IsDecided-standing l k none member found stands =
    inr (k, record { candidate = member; found = found; stands = stands; lesser = none.found })

pub NoneBelow-more : (l : LevelState) (k : ℕ) → NoneBelow l k
    → (IsTrue (contains l.left k) → IsFalse (contains l.missing k)
    × (¬ Stands l.set k (without_index (indexes_of l.left) k))) → NoneBelow l (k + 1)
NoneBelow-more l k none here = record {
  found = below_more (λ j. IsTrue (contains l.left j) → IsFalse (contains l.missing j)) k none.found
      (λ member. (here member).0);
  stuck = below_more (λ j. IsTrue (contains l.left j)
      → ¬ Stands l.set j (without_index (indexes_of l.left) j)) k none.stuck
      (λ member. (here member).1);
}

-- ---- a candidate whose answer is known
pub known-found : (left missing : FinSet nat_cmp) (answers : List (Option Outcome)) (k : ℕ)
    (answer : Outcome) → AreMissing left missing answers → get_or answers k None ≡ Some answer
    → IsFalse (contains missing k)
known-found left missing answers k answer are known = are k
    ∙ ap (λ (o : Option Outcome). contains left k && not (is_some o)) known ∙ and-false _

pub known-stands : (U : List Task) (L : Indexes) (answers : List (Option Outcome)) (k : ℕ)
    (answer : Outcome) → IsTaskSet U → AreRight U L answers → get_or answers k None ≡ Some answer
    → IsTrue (lets_stand answer) ↔ Stands U k (without_index L k)
known-stands U L answers k answer valid are known = lets_stand-iff U k (without_index L k) answer
    valid (subst (λ o. IsRightAt U L k o) known (are.right k))

-- the answer to the question on a candidate is right for it
pub IsRightAt-asked : (l : LevelState) (q : QuestionData) (answer : Outcome) → IsAsked l q
    → IsRight q answer → IsRightAt l.set (indexes_of l.left) q.task (Some answer)
IsRightAt-asked l q answer asked right =
    let above : indexes_of q.above ≡ without_index (indexes_of l.left) q.task =
    ap indexes_of asked.rest ∙ indexes_of-remove l.left q.task in
    subst (λ U. IsOutcome U q.task (without_index (indexes_of l.left) q.task) answer) asked.same
    (subst (λ H. IsOutcome q.set q.task H answer) above right)

pub AreRight-set : (U : List Task) (L : Indexes) (answers : List (Option Outcome)) (i : ℕ)
    (o : Option Outcome) → AreRight U L answers → i < length U → IsRightAt U L i o
    → AreRight U L (set answers i o)
AreRight-set U L answers i o are lt right = record {
  full = length-set answers i o ∙ are.full;
  right = λ k. elim (cases_eq k i) [
    | inl e ↦
        let within : i < length answers = omega (arith, are.full) in
        let here : get_or (set answers i o) k None ≡ o = ap (λ j. get_or (set answers i o) j None) e
        ∙ get_or-set_same answers i o None within in
        subst (λ x. IsRightAt U L k x) (sym here) (subst (λ j. IsRightAt U L j o) (sym e) right)
    | inr ne ↦ subst (λ x. IsRightAt U L k x) (sym (get_or-set_other answers i k o None ne))
        (are.right k)
  ];
}

pub AreMissing-set : (left missing : members.FinSet nat_cmp) (answers : List (Option Outcome))
    (i : ℕ) (answer : Outcome) → i < length answers → AreMissing left missing answers
    → AreMissing left (members.remove missing i) (set answers i (Some answer))
AreMissing-set left missing answers i answer lt are k =
    let removed : members.contains (members.remove missing i) k
    ≡ without_index (indexes_of missing) i k = ap (λ H. H k) (indexes_of-remove missing i) in
    elim (cases_eq k i) [
      | inl e ↦
          let here : get_or (set answers i (Some answer)) k None ≡ Some answer =
          ap (λ j. get_or (set answers i (Some answer)) j None) e
          ∙ get_or-set_same answers i (Some answer) None lt in
          removed ∙ rw (eq-eqb k i e, here) (and-false _ ∙ sym (and-false _))
      | inr ne ↦ removed ∙ rw (ne_eqb k i ne, get_or-set_other answers i k (Some answer) None ne)
          (and-true _ ∙ are k)
    ]

-- one more finding on a candidate that has one changes nothing
pub found_again : (l : LevelState) (i : ℕ) → IsFalse (members.contains l.missing i)
    → with_finding l i ≡ l
found_again l i found =
    let same : indexes_of (members.remove l.missing i) ≡ indexes_of l.missing =
    indexes_of-remove l.missing i ∙ fun_ext (λ k. elim (cases_eq k i) [
      | inl e ↦ without-gone (indexes_of l.missing) i k e
          ∙ sym (ap (λ j. members.contains l.missing j) e ∙ found)
      | inr ne ↦ without-kept (indexes_of l.missing) i k ne
    ]) in
    let rest : members.remove l.missing i ≡ l.missing =
    same_members (members.remove l.missing i) l.missing same in
    λ t. let h : LevelState = record { set = l.set; left = l.left; missing = rest t } in h
