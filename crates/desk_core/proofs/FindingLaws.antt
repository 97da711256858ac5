-- One more finding.
use Rattle.std.proofs.Common.{◌≡◌, ℕ, ◌<◌, ◌≤◌, inl, inr, true, false, cond, List, [], ◌∷◌, ◌++◌}
use Rattle.std.proofs.Common.{refl, sym, ◌∙◌, ap, subst, arith, IsTrue}
use Rattle.std.proofs.Math.Path.{fun_ext}
use Rattle.std.specs.Ordering.{nat_cmp}
use Rattle.std.specs.FinSet as members
use Rattle.std.proofs.lemmas.Bool.{cases_Bool, cases_eq, cases_order, both_ways, eq-eqb, ne_eqb}
use Rattle.task_sheet.proofs.Common.{Task, Indexes, indexes_of, with_index, without_index, level_at}
use Rattle.task_sheet.specs.MembersLaws.{same_members-Decides}
use Rattle.std.proofs.Math.Bool.{and-true}
use Rattle.task_sheet.proofs.MembersIndexes.{indexes_of-insert, indexes_of-remove, same_members}
use Rattle.assignment.specs.Questions.{QuestionData}
use Rattle.assignment.specs.Levels.{LevelState, IsDecided, with_finding}
use Rattle.desk_core.specs.Findings.{Asked, asked_of, is_on, missing_after, level_of, Decides}
use Rattle.desk_core.specs.Findings.{IsPresent}
use Rattle.desk_core.specs.Progress.{AreWide}

-- ---- a level with one finding more
missing_after-push : (left missing : members.FinSet nat_cmp) (found : List Asked) (a : Asked)
    → missing_after left missing (found ++ a ∷ []) ≡ cond (is_on left a)
    (members.remove (missing_after left missing found) a.task) (missing_after left missing found)
missing_after-push left missing [] a = refl
missing_after-push left missing (b ∷ found) a =
    missing_after-push left (cond (is_on left b) (members.remove missing b.task) missing) found a

pub level_of-on : (U : List Task) (found : List Asked) (k : ℕ) (a : Asked) → is_on (level_at U k) a
    ≡ true → level_of U (found ++ a ∷ []) k ≡ with_finding (level_of U found k) a.task
level_of-on U found k a on =
    rw (missing_after-push (level_at U k) (level_at U k) found a, on) refl

pub level_of-off : (U : List Task) (found : List Asked) (k : ℕ) (a : Asked)
    → is_on (level_at U k) a ≡ false → level_of U (found ++ a ∷ []) k ≡ level_of U found k
level_of-off U found k a off =
    rw (missing_after-push (level_at U k) (level_at U k) found a, off) refl

-- ---- the question on a candidate is asked of its level
back_again : (H : Indexes) (i k : ℕ) → H i ≡ true → with_index (without_index H i) i k ≡ H k
back_again H i k member = elim (cases_eq k i) [
  | inl e ↦ rw (eq-eqb k i e) (sym (ap H e ∙ member))
  | inr ne ↦ rw (ne_eqb k i ne) (and-true (H k))
]

pub insert-back : (left : members.FinSet nat_cmp) (i : ℕ) → members.contains left i ≡ true
    → members.insert (members.remove left i) i ≡ left
insert-back left i member =
    same_members (members.insert (members.remove left i) i) left
    (indexes_of-insert (members.remove left i) i ∙ ap (λ X. with_index X i)
    (indexes_of-remove left i) ∙ fun_ext (λ k. back_again (indexes_of left) i k member))

pub asked-whole : (left : members.FinSet nat_cmp) (q : QuestionData) → members.contains left q.task
    ≡ true → q.above ≡ members.remove left q.task → members.insert q.above q.task ≡ left
asked-whole left q member rest = ap (λ m. members.insert m q.task) rest
    ∙ insert-back left q.task member

pub asked-on : (left : members.FinSet nat_cmp) (q : QuestionData) → members.contains left q.task
    ≡ true → q.above ≡ members.remove left q.task → is_on left (asked_of q) ≡ true
asked-on left q member rest =
    (same_members-Decides (members.insert q.above q.task) left).1 (asked-whole left q member rest)

-- ---- a finding more takes no decision back
removed-out : (m : members.FinSet nat_cmp) (t j : ℕ) → members.contains m j ≡ false
    → members.contains (members.remove m t) j ≡ false
removed-out m t j out = ap (λ X. X j) (indexes_of-remove m t) ∙ rw out refl

IsDecided-more : (l : LevelState) (t : ℕ) → IsDecided l → IsDecided (with_finding l t)
IsDecided-more l t decided = elim decided [
  | inl all ↦ inl (λ j member. removed-out l.missing t j (all j member))
  | inr some ↦ inr (
    some.0,
    record {
      candidate = some.1.candidate;
      found = removed-out l.missing t some.0 some.1.found;
      stands = some.1.stands;
      lesser = λ j lt member. removed-out l.missing t j (some.1.lesser j lt member);
    },
  )
]

pub Decides-push : (U : List Task) (found : List Asked) (k : ℕ) (a : Asked) → Decides U found k
    → Decides U (found ++ a ∷ []) k
Decides-push U found k a decided = elim (cases_Bool (is_on (level_at U k) a)) [
  | inl on ↦ subst (λ (l : LevelState). IsDecided l) (sym (level_of-on U found k a on))
      (IsDecided-more (level_of U found k) a.task decided)
  | inr off ↦ subst (λ (l : LevelState). IsDecided l) (sym (level_of-off U found k a off)) decided
]

-- ---- findings on wider levels say nothing of a narrower one
pub missing_after-fresh : (n : ℕ) (left missing : members.FinSet nat_cmp) (found : List Asked)
    → AreWide n found → members.len left < n → missing_after left missing found ≡ missing
missing_after-fresh n left missing [] wide lt = refl
missing_after-fresh n left missing (a ∷ found) wide lt = elim (cases_Bool (is_on left a)) [
  | inl on ↦
      let whole : members.insert a.above a.task ≡ left =
      (same_members-Decides (members.insert a.above a.task) left).0 on in
      let same : members.len (members.insert a.above a.task) ≡ members.len left =
      ap (λ (m : members.FinSet nat_cmp). members.len m) whole in
      absurd (omega (arith, wide.0))
  | inr off ↦ rw off (missing_after-fresh n left missing found wide.1 lt)
]

pub AreWide-less : (n m : ℕ) (found : List Asked) → m ≤ n → AreWide n found → AreWide m found
AreWide-less n m [] le wide = tt
AreWide-less n m (a ∷ found) le wide = (omega (arith, wide.0), AreWide-less n m found le wide.1)

pub AreWide-push : (n : ℕ) (found : List Asked) (a : Asked) → AreWide n found
    → n ≤ members.len (members.insert a.above a.task) → AreWide n (found ++ a ∷ [])
AreWide-push n [] a wide le = (le, tt)
AreWide-push n (b ∷ found) a wide le = (wide.0, AreWide-push n found a wide.1 le)

pub fresh-undecided : (l : LevelState) → l.missing ≡ l.left → (i : ℕ)
    → IsTrue (members.contains l.left i) → ¬ IsDecided l
fresh-undecided l same i member decided = elim decided [
  | inl all ↦ both_ways (members.contains l.left i)
      (ap (λ m. members.contains m i) (sym same) ∙ all i member) member
  | inr some ↦ both_ways (members.contains l.left some.0)
      (ap (λ m. members.contains m some.0) (sym same) ∙ some.1.found) some.1.candidate
]

-- ---- there is one present level
pub IsPresent-one : (U : List Task) (found : List Asked) (j k : ℕ) → IsPresent U found j
    → IsPresent U found k → j ≡ k
IsPresent-one U found j k first second = elim (cases_order j k) [
  | inl e ↦ e
  | inr apart ↦ elim apart [
    | inl lt ↦ absurd (first.undecided (second.before j lt))
    | inr lt ↦ absurd (second.undecided (first.before k lt))
  ]
]
