-- The table of the first tasks of a set, and of all of them.
use Rattle.std.proofs.Common.{◌≡◌, ℕ, ◌+◌, ◌<◌, ◌≤◌, Bool, false, ◌||◌, ◌&&◌, nat_lt, List, [], ◌∷◌}
use Rattle.std.proofs.Common.{◌++◌, length, take, refl, sym, ◌∙◌, ap, arith}
use Rattle.std.proofs.lemmas.Bool.Decides.{nat_tests}
use Rattle.std.proofs.lemmas.Grind.{flat_map-append}
use Rattle.std.proofs.lemmas.List.{take_more, take_all, append-nil}
use Rattle.std.proofs.lemmas.List.Sums.{fold-append}
use Rattle.std.proofs.Math.ListN.{get_or-eq_default}
use Rattle.std.specs.FinSet as set
use Rattle.std.specs.List.{fold, flat_map}
use Rattle.std.specs.Ordering.{nat_cmp, eq_by_cmp}
use Rattle.task_sheet.proofs.Common.{Task, no_task, task_at, indexes_of, uses}
use Rattle.ceilings.specs.Table.{Table, locks_in, users_in, with_user_of}
use Rattle.ceilings.specs.IsTableOf.{with_name, first_sights, names_in, AreUsersOf}
use Rattle.ceilings.proofs.Growth.{task_added, task_noted}

-- the table of the first n tasks
pub record IsTableOfFirst (U : List Task) (n : ℕ) (table : Table) : Type 0 where
  pub locks : locks_in table ≡ first_sights (names_in (take n U))
  pub users : (lock : List ℕ) (k : ℕ)
      → indexes_of (users_in table lock) k ≡ (nat_lt k n && uses (task_at U k) lock)

pub nothing_below : (k : ℕ) (p : Bool) → false ≡ (nat_lt k 0 && p)
nothing_below k p = grind (arith, nat_tests)

pub none_noted : (U : List Task) → IsTableOfFirst U 0 []
none_noted U = record {
  locks = refl;
  users = λ lock k. set.contains-empty nat_cmp k
      ∙ nothing_below k (uses (task_at U k) lock);
}

below_more : (b : Bool) (k n : ℕ) (p q : Bool) → (k ≡ n → p ≡ q) → b ≡ eq_by_cmp nat_cmp k n
    → ((nat_lt k n && q) || (p && b)) ≡ (nat_lt k (n + 1) && q)
below_more b k n p q same e = grind (arith, nat_tests)

pub one_noted : (U : List Task) (n : ℕ) (t : Task) (table : Table) → n < length U → t ≡ task_at U n
    → IsTableOfFirst U n table → IsTableOfFirst U (n + 1) (with_user_of n table t)
one_noted U n t table lt is h = record {
  locks = task_noted n t table
      ∙ ap (λ found. fold with_name found (flat_map (λ s. s.locks) t.sections)) h.locks
      ∙ sym (fold-append with_name [] (names_in (take n U)) (flat_map (λ s. s.locks) t.sections))
      ∙ ap first_sights (more
      ∙ sym (flat_map-append (λ x. flat_map (λ s. s.locks) x.sections) (take n U) (t ∷ []))
      ∙ ap names_in (ap (λ x. take n U ++ x ∷ []) is ∙ sym (take_more U n no_task lt)));
  users = λ lock k. task_added n t table lock k
      ∙ ap (λ b. b || (uses t lock && eq_by_cmp nat_cmp k n)) (h.users lock k)
      ∙ below_more (eq_by_cmp nat_cmp k n) k n (uses t lock) (uses (task_at U k) lock)
      (λ e. rw (is, e)) refl;
}
  where
    more : names_in (take n U) ++ flat_map (λ s. s.locks) t.sections ≡ names_in (take n U)
        ++ names_in (t ∷ [])
    more = ap (λ names. names_in (take n U) ++ names)
        (sym (append-nil (flat_map (λ s. s.locks) t.sections)))

-- past the end of a set nobody uses a lock
pub past_none : (U : List Task) (k : ℕ) (lock : List ℕ) → length U ≤ k
    → uses (task_at U k) lock ≡ false
past_none U k lock le = ap (λ t. uses t lock) (get_or-eq_default U no_task le)

within : (k n : ℕ) (p : Bool) → (n ≤ k → p ≡ false) → (nat_lt k n && p) ≡ p
within k n p h = grind (arith, nat_tests)

pub all_noted : (U : List Task) (table : Table) → length U ≤ 32 → IsTableOfFirst U (length U) table
    → AreUsersOf U table
all_noted U table few h = record {
  few = few;
  locks = rw (take_all (length U) U (omega arith)) at h.locks;
  users = λ lock k. h.users lock k
      ∙ within k (length U) (uses (task_at U k) lock) (past_none U k lock);
}
