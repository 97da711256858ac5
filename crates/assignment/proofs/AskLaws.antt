-- A level whose candidates are asked by rank.
use Rattle.std.proofs.Common.{◌≡◌, ℕ, ◌+◌, ◌<◌, ◌≤◌, List, IsTrue, IsFalse, sym, ◌∙◌, ap, refl}
use Rattle.std.proofs.Common.{arith, below_more}
use Rattle.std.specs.Ordering.{nat_cmp}
use Rattle.std.specs.FinSet as members
use Rattle.std.proofs.lemmas.Bool.{both_ways}
use Rattle.task_sheet.proofs.Common.{Task, indexes_of, without_index, IsPart, all_of}
use Rattle.task_sheet.proofs.IndexLaws.{without-parts, without-gone, without-kept}
use Rattle.task_sheet.proofs.MembersIndexes.{indexes_of-remove}
use Rattle.assignment.specs.Levels.{LevelState, with_finding}

-- the others of a set's tasks are of the set
pub remove-part : (U : List Task) (left : members.FinSet nat_cmp) (i : ℕ)
    → IsPart (indexes_of left) (all_of U) → IsPart (indexes_of (members.remove left i)) (all_of U)
remove-part U left i part k h = part k
    (without-parts (indexes_of left) i k (ap (λ X. X k) (sym (indexes_of-remove left i)) ∙ h)).0

pub remove-apart : (left : members.FinSet nat_cmp) (i : ℕ)
    → IsFalse (indexes_of (members.remove left i) i)
remove-apart left i = ap (λ X. X i) (indexes_of-remove left i)
    ∙ without-gone (indexes_of left) i i refl

-- the candidates below n have a finding, and the others have none
pub record IsAsking (U : List Task) (left : members.FinSet nat_cmp) (l : LevelState)
    (n : ℕ) : Type 0 where
  pub same : l.set ≡ U
  pub candidates : l.left ≡ left
  pub found : (j : ℕ) → j < n → IsTrue (members.contains left j)
      → IsFalse (members.contains l.missing j)
  pub rest : (j : ℕ) → n ≤ j → members.contains l.missing j ≡ members.contains left j

pub IsAsking-skip : (U : List Task) (left : members.FinSet nat_cmp) (l : LevelState) (n : ℕ)
    → IsAsking U left l n → IsFalse (members.contains left n) → IsAsking U left l (n + 1)
IsAsking-skip U left l n so out = record {
  same = so.same;
  candidates = so.candidates;
  found =
      below_more (λ j. IsTrue (members.contains left j) → IsFalse (members.contains l.missing j)) n
      so.found (λ member. absurd (both_ways (members.contains left n) out member));
  rest = λ j le. so.rest j (omega arith);
}

pub IsAsking-ask : (U : List Task) (left : members.FinSet nat_cmp) (l l' : LevelState) (n : ℕ)
    → IsAsking U left l n → l' ≡ with_finding l n → IsAsking U left l' (n + 1)
IsAsking-ask U left l l' n so asked =
    let missing : (j : ℕ)
    → members.contains l'.missing j ≡ without_index (indexes_of l.missing) n j =
    λ j. ap (λ (x : LevelState). members.contains x.missing j) asked
    ∙ ap (λ X. X j) (indexes_of-remove l.missing n) in
    record {
      same = ap (λ (x : LevelState). x.set) asked ∙ so.same;
      candidates = ap (λ (x : LevelState). x.left) asked ∙ so.candidates;
      found = below_more (λ j. IsTrue (members.contains left j)
          → IsFalse (members.contains l'.missing j)) n
          (λ j lt member.
          let ne : j ≡ n → ⊥ = λ e. omega arith in
          missing j ∙ without-kept (indexes_of l.missing) n j ne ∙ so.found j lt member)
          (λ _. missing n ∙ without-gone (indexes_of l.missing) n n refl);
      rest = λ j le.
          let ne : j ≡ n → ⊥ = λ e. omega arith in
          missing j ∙ without-kept (indexes_of l.missing) n j ne ∙ so.rest j (omega arith);
    }

-- what a question needs of the others above its task
pub ruleset others_above = (remove-part, remove-apart)
