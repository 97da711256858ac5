-- The answer to a finding is determined.
use Rattle.std.proofs.Common.{◌≡◌, ℕ, suc, inl, inr, List, [], ◌∷◌, ◌++◌, refl, sym, ◌∙◌, subst}
use Rattle.std.proofs.Common.{arith, IsFalse}
use Rattle.std.specs.FinSet.{contains}
use Rattle.std.proofs.lemmas.Bool.{cases_order, both_ways}
use Rattle.task_sheet.proofs.Common.{Task, Indexes, indexes_of, without_index, IsChosen, level_at}
use Rattle.task_sheet.proofs.PassingLaws.{IsResponseOf-one}
use Rattle.assignment.specs.Questions.{QuestionData}
use Rattle.desk_core.specs.declared.told.Told.{Told}
use Rattle.desk_core.specs.declared.told.Told.TheVariants.{Stranger, Twice, Taken, LevelDone}
use Rattle.desk_core.specs.declared.told.Told.TheVariants.{Tested}
use Rattle.desk_core.specs.Findings.{Asked, asked_of, level_of, IsPresent, IsNews, IsLevelDone}
use Rattle.desk_core.specs.Findings.{IsTold}
use Rattle.desk_core.proofs.FindingLaws.{IsPresent-one}

chosen-one : (U : List Task) (L : Indexes) (i j : ℕ) → IsChosen U L i → IsChosen U L j → i ≡ j
chosen-one U L i j first second = elim (cases_order i j) [
  | inl e ↦ e
  | inr apart ↦ elim apart [
    | inl lt ↦ absurd (second.first i lt first.member first.stands)
    | inr lt ↦ absurd (first.first j lt second.member second.stands)
  ]
]

module _ (U : List Task) (found : List Asked) (q : QuestionData) where
  -- a candidate without a finding has none at the same level
  twice-news : (j k : ℕ) → IsPresent U found j
      → IsFalse (contains (level_of U found j).missing q.task) → IsNews U found q k → ⊥
  twice-news j k present known news =
      let same = IsPresent-one U found j k present news.present in
      both_ways (contains (level_of U found k).missing q.task)
      (subst (λ n. IsFalse (contains (level_of U found n).missing q.task)) same known)
      news.missing

  taken-done : (j k level task response : ℕ) → IsPresent U found j
      → IsPresent U (found ++ asked_of q ∷ []) j → IsPresent U found k
      → IsLevelDone U (found ++ asked_of q ∷ []) k level task response → ⊥
  taken-done j k level task response first still second done =
      let same = IsPresent-one U found j k first second in
      let next = IsPresent-one U (found ++ asked_of q ∷ []) j (suc k) still done.next in
      omega arith

  done-one : (j k level task response level' task' response' : ℕ) → j ≡ k
      → IsLevelDone U (found ++ asked_of q ∷ []) j level task response
      → IsLevelDone U (found ++ asked_of q ∷ []) k level' task' response'
      → LevelDone level task response ≡ LevelDone level' task' response'
  done-one j k level task response level' task' response' same a b =
      let first = rw same at a in
      let number : level ≡ level' = first.number ∙ sym b.number in
      let L : Indexes = indexes_of (level_at U k) in
      let chosen : task ≡ task' = chosen-one U L task task' first.chosen b.chosen in
      let right : response ≡ response' =
      IsResponseOf-one U task' (without_index L task') response response'
      (rw chosen at first.right) b.right in
      λ i. LevelDone (number i) (chosen i) (right i)

  pub told-one : (a b : Told) → IsTold U found q a → IsTold U found q b → a ≡ b
  told-one Stranger Stranger x y = refl
  told-one Stranger Twice x y = absurd (x y.0 y.1 y.2)
  told-one Stranger Taken x y = absurd (x y.0 y.1.present y.1.asked)
  told-one Stranger (LevelDone level task response) x y = absurd (x y.0 y.1.present y.1.asked)
  told-one Stranger Tested x y = absurd (x y.0 y.1.present y.1.asked)
  told-one Twice Stranger x y = absurd (y x.0 x.1 x.2)
  told-one Twice Twice x y = refl
  told-one Twice Taken x y = absurd (twice-news x.0 y.0 x.1 x.3 y.1)
  told-one Twice (LevelDone level task response) x y = absurd (twice-news x.0 y.0 x.1 x.3 y.1)
  told-one Twice Tested x y = absurd (twice-news x.0 y.0 x.1 x.3 y.1)
  told-one Taken Stranger x y = absurd (y x.0 x.1.present x.1.asked)
  told-one Taken Twice x y = absurd (twice-news y.0 x.0 y.1 y.3 x.1)
  told-one Taken Taken x y = refl
  told-one Taken (LevelDone level task response) x y =
      absurd (taken-done x.0 y.0 level task response x.1.present x.2 y.1.present y.2)
  told-one Taken Tested x y = absurd (x.2.undecided (y.2 x.0))
  told-one (LevelDone level task response) Stranger x y = absurd (y x.0 x.1.present x.1.asked)
  told-one (LevelDone level task response) Twice x y = absurd (twice-news y.0 x.0 y.1 y.3 x.1)
  told-one (LevelDone level task response) Taken x y =
      absurd (taken-done y.0 x.0 level task response y.1.present y.2 x.1.present x.2)
  told-one (LevelDone level task response) (LevelDone level' task' response') x y =
      done-one x.0 y.0 level task response level' task' response'
      (IsPresent-one U found x.0 y.0 x.1.present y.1.present) x.2 y.2
  told-one (LevelDone level task response) Tested x y = absurd (x.2.next.undecided (y.2 (suc x.0)))
  told-one Tested Stranger x y = absurd (y x.0 x.1.present x.1.asked)
  told-one Tested Twice x y = absurd (twice-news y.0 x.0 y.1 y.3 x.1)
  told-one Tested Taken x y = absurd (y.2.undecided (x.2 y.0))
  told-one Tested (LevelDone level task response) x y = absurd (y.2.next.undecided (x.2 (suc y.0)))
  told-one Tested Tested x y = refl
