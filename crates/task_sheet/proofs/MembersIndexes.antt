-- A `Members` as a set of indexes: its edits, and how many there are.
use Rattle.std.proofs.Common.{◌≡◌, ℕ, ◌<◌, inl, inr, true, ◌||◌, ◌&&◌, ◌==◌, not, nat_lt, sym, ◌∙◌}
use Rattle.std.proofs.Common.{ap, arith}
use Rattle.std.proofs.Math.Path.{fun_ext}
use Rattle.std.proofs.Math.Bool.{and-true, and_comm}
use Rattle.std.specs.Ordering.{nat_cmp}
use Rattle.std.specs.FinSet as set
use Rattle.std.specs.Cmp.{nat_cmp_total, unsigned_tied}
use Rattle.std.proofs.lemmas.Bool.{cases_eq, both_ways, false_from_ne_true, ltb-true}
use Rattle.task_sheet.proofs.Common.{all_below, indexes_of, no_index, below, with_index}
use Rattle.task_sheet.proofs.Common.{without_index, IsPart}
use Rattle.task_sheet.specs.MembersLaws.{contains-set_of}
use Rattle.task_sheet.proofs.Below.{find_below}

-- ---- the edits
pub indexes_of-empty : indexes_of set.empty ≡ no_index
indexes_of-empty = fun_ext (λ k. set.contains-empty nat_cmp k)

pub indexes_of-all_below : (n : ℕ) → indexes_of (all_below n) ≡ below n
indexes_of-all_below n = fun_ext (λ k. contains-set_of (λ _. true) n k ∙ and-true (nat_lt k n))

pub indexes_of-insert : (m : set.FinSet nat_cmp) (i : ℕ)
    → indexes_of (set.insert m i) ≡ with_index (indexes_of m) i
indexes_of-insert m i = fun_ext (λ k. set.contains-insert nat_cmp_total m i k
    ∙ ap (λ b. b || set.contains m k) (unsigned_tied k i))

pub indexes_of-remove : (m : set.FinSet nat_cmp) (i : ℕ)
    → indexes_of (set.remove m i) ≡ without_index (indexes_of m) i
indexes_of-remove m i = fun_ext (λ k. set.contains-remove nat_cmp_total m i k ∙ ap (λ b. not b
    && set.contains m k) (unsigned_tied k i) ∙ and_comm (not (k == i)) (set.contains m k))

-- the same indexes are the same members
pub same_members : (m n : set.FinSet nat_cmp) → indexes_of m ≡ indexes_of n → m ≡ n
same_members m n e =
    set.same_set nat_cmp_total set.nat_cmp-IsAntisymmetric m n (λ k. ap (λ H. H k) e)

-- ---- how many there are
pub len-of_none : (m : set.FinSet nat_cmp) → indexes_of m ≡ no_index → set.len m ≡ 0
len-of_none m none = ap (λ (s : set.FinSet nat_cmp). set.len s)
    (same_members m set.empty (none ∙ sym indexes_of-empty)) ∙ set.len-empty nat_cmp

pub len-of_member : (m : set.FinSet nat_cmp) (i : ℕ) → set.contains m i ≡ true → 0 < set.len m
len-of_member m i member = elim (cases_eq (set.len m) 0) [
  | inl e ↦
      let none = ap indexes_of (set.empty_of_len m e) ∙ indexes_of-empty in
      absurd (both_ways (set.contains m i) (ap (λ H. H i) none) member)
  | inr ne ↦ omega arith
]

pub member_of-len : (m : set.FinSet nat_cmp) (n : ℕ) → IsPart (indexes_of m) (below n)
    → 0 < set.len m → (k : ℕ) × (k < n) × (set.contains m k ≡ true)
member_of-len m n part some = elim (find_below n (indexes_of m)) [
  | inl found ↦ found
  | inr none ↦
      let empty : indexes_of m ≡ no_index = fun_ext (λ k. false_from_ne_true _
      (λ member. both_ways _ (none k (ltb-true k n (part k member))) member)) in
      absurd (omega (arith, len-of_none m empty))
]

-- one fewer
pub len-remove_member : (m : set.FinSet nat_cmp) (i : ℕ) → set.contains m i ≡ true
    → set.len (set.remove m i) < set.len m
len-remove_member m i member =
    let some = len-of_member m i member in
    rw (set.len-remove nat_cmp_total m i, member) (omega arith)
