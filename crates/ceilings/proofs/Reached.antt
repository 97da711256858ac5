-- A section is reached by the members where one of its locks has a user among them.
use Rattle.std.proofs.Common.{◌≡◌, ℕ, zero, suc, ◌≤◌, inl, inr, Bool, true, false, ◌||◌, ◌&&◌, List}
use Rattle.std.proofs.Common.{[], ◌∷◌, length, refl, sym, ◌∙◌, ap, arith}
use Rattle.std.proofs.Math.Bool.{and_comm, or-false, and-or_distrib_left}
use Rattle.std.proofs.lemmas.Bool.{cases_eq, and_right}
use Rattle.std.specs.FinSet as set
use Rattle.std.specs.List.{list_any}
use Rattle.std.specs.Ordering.{nat_cmp}
use Rattle.task_sheet.proofs.Common.{CriticalSection, Task, task_at, indexes_of, some_below, meet}
use Rattle.task_sheet.proofs.Common.{uses, reaches}
use Rattle.task_sheet.proofs.Below.{some_below-none}
use Rattle.task_sheet.proofs.MembersMeet.{some_below-congr}
use Rattle.ceilings.specs.Table.{Table, users_in, some_uses}
use Rattle.ceilings.specs.IsTableOf.{AreUsersOf}
use Rattle.ceilings.proofs.WholeTable.{past_none}

swapped : (a b c d : Bool) → ((a || b) || (c || d)) ≡ ((a || c) || (b || d))
swapped true b c d = refl
swapped false true true d = refl
swapped false true false d = refl
swapped false false c d = refl

some_below-or : (n : ℕ) (p q : ℕ → Bool)
    → some_below n (λ k. p k || q k) ≡ (some_below n p || some_below n q)
some_below-or zero p q = refl
some_below-or (suc n) p q = ap (λ b. b || (p n || q n)) (some_below-or n p q)
    ∙ swapped (some_below n p) (some_below n q) (p n) (q n)

-- numbers past n change nothing where none of them passes
some_below-further : (n m : ℕ) (p : ℕ → Bool) → n ≤ m → ((k : ℕ) → n ≤ k → p k ≡ false)
    → some_below m p ≡ some_below n p
some_below-further n zero p le none =
    let same : n ≡ 0 = omega arith in
    rw same refl
some_below-further n (suc m) p le none =
    elim (cases_eq n (suc m)) [
      | inl e ↦ rw e refl
      | inr ne ↦
          let last : p m ≡ false = none m (omega arith) in
          rw last (or-false (some_below m p) ∙ some_below-further n m p (omega arith) none)
    ]

-- some of these members is among the users of a lock
pub meet_users : (U : List Task) (users members : set.FinSet nat_cmp) (lock : List ℕ)
    → ((k : ℕ) → indexes_of users k ≡ uses (task_at U k) lock) → length U ≤ 32
    → meet (indexes_of users) (indexes_of members)
    ≡ some_below (length U) (λ k. indexes_of members k && uses (task_at U k) lock)
unfolding meet
meet_users U users members lock are few =
    let one : ℕ → Bool = λ k. indexes_of members k && uses (task_at U k) lock in
    some_below-congr 32 (λ k. indexes_of users k && indexes_of members k) one
    (λ k lt. ap (λ b. b && indexes_of members k) (are k)
    ∙ and_comm (uses (task_at U k) lock) (indexes_of members k))
    ∙ some_below-further (length U) 32 one few
    (λ k le. and_right (indexes_of members k) (uses (task_at U k) lock) (past_none U k lock le))

module _ (U : List Task) (table : Table) (is_table : AreUsersOf U table)
    (members : set.FinSet nat_cmp) where
  abbrev uses_one : List (List ℕ) → ℕ → Bool
  uses_one locks k = indexes_of members k && list_any (λ lock. uses (task_at U k) lock) locks

  abbrev member_uses : List ℕ → ℕ → Bool
  member_uses lock k = indexes_of members k && uses (task_at U k) lock

  meet_is : (lock : List ℕ) → meet (indexes_of (users_in table lock)) (indexes_of members)
      ≡ some_below (length U) (member_uses lock)
  meet_is lock = meet_users U (users_in table lock) members lock (is_table.users lock)
      is_table.few

  some_uses-is : (locks : List (List ℕ))
      → some_uses table members locks ≡ some_below (length U) (uses_one locks)
  some_uses-is [] = sym (some_below-none (length U) (uses_one [])
      (λ k lt. and_right (indexes_of members k) false refl))
  some_uses-is (lock ∷ locks) =
      ap (λ b. b || some_uses table members locks) (meet_is lock)
      ∙ ap (λ b. some_below (length U) (member_uses lock) || b) (some_uses-is locks)
      ∙ sym (some_below-or (length U) (member_uses lock) (uses_one locks))
      ∙ some_below-congr (length U) (λ k. member_uses lock k || uses_one locks k)
      (uses_one (lock ∷ locks))
      (λ k lt. sym (and-or_distrib_left (indexes_of members k) (uses (task_at U k) lock)
      (list_any (λ l. uses (task_at U k) l) locks)))

  pub reached : (s : CriticalSection)
      → some_uses table members s.locks ≡ reaches U (indexes_of members) s
  reached s = some_uses-is s.locks
