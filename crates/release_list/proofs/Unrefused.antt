-- A list that a kernel doesn't refuse: each of its releases is a legal job, and they come by time
-- and a period apart.
use Rattle.std.proofs.Common.{◌≡◌, ℕ, zero, suc, ◌+◌, ◌<◌, ◌≤◌, inl, inr, Bool, false, ◌==◌, nat_lt}
use Rattle.std.proofs.Common.{Option, Some, None, List, length, refl, ◌∙◌, ap, arith}
use Rattle.std.specs.Prelude.{is_none, unwrap_or}
use Rattle.std.proofs.lemmas.List.Folds.{list_any_none}
use Rattle.std.proofs.lemmas.Bool.{and_left, and_right, cases_eq, le-ltb, lt-leb, ne_eqb, or_from}
use Rattle.task_sheet.proofs.Common.{Task, task_at, IsTaskSet}
use Rattle.task_sheet.proofs.Below.{some_below-none}
use Rattle.ceiling_kernel.specs.declared.trace.Release.{Release}
use Rattle.ceiling_kernel.proofs.Common.{lateness_of, task_named, task_number, jobs_of, ready_of}
use Rattle.ceiling_kernel.proofs.Common.{first_where, no_release, release_at, is_unsorted}
use Rattle.ceiling_kernel.proofs.Common.{is_unknown, is_too_soon, is_too_late, is_outside_cost}
use Rattle.ceiling_kernel.proofs.Common.{is_past, refusal_of}
use Rattle.ceiling_kernel.specs.Releases.{is_soon_job}
use Rattle.ceiling_kernel.proofs.ReleaseLaws.{job_is}
use Rattle.release_list.proofs.TaskNumbers.{found}
use Rattle.release_list.proofs.InLaws.{In, Pairs, in_at, pairs_at}

-- where none passes, none is the first
none_first : (test : ℕ → Bool) (n : ℕ) → ((k : ℕ) → k < n → test k ≡ false)
    → first_where test n ≡ None
unfolding first_where
none_first test zero h = refl
none_first test (suc n) h = rw (none_first test n (λ k lt. h k (omega arith)), h n (omega arith))

-- a job executes so long: some, and no more than a cost
abbrev pub Executes : ℕ → Option ℕ → Type 0
Executes cost runs = (0 < unwrap_or runs cost) × (unwrap_or runs cost ≤ cost)

-- a release is a job that a task of the set may have, and ready before the end
pub record IsLegal (U : List Task) (until : ℕ) (r : Release) : Type 0 where
  pub task : ℕ
  pub in_set : task < length U
  pub named : r.name ≡ (task_at U task).name
  pub prompt : r.late ≤ lateness_of (task_at U task)
  pub executes : Executes (task_at U task).cost r.runs
  pub before : ready_of r < until

-- of two releases the second comes no earlier, and of one task a period later
pub record IsAfter (U : List Task) (r s : Release) : Type 0 where
  pub rises : r.time ≤ s.time
  pub apart : task_number U r ≡ task_number U s → r.time + (task_at U (task_number U s)).period
      ≤ s.time

module _ (U : List Task) (set : IsTaskSet U) (rs : List Release) (until : ℕ)
    (legal : (r : Release) → In r rs → IsLegal U until r) (order : Pairs (IsAfter U) rs) where
  at : (k : ℕ) → k < length rs → IsLegal U until (release_at rs k)
  at k lt = legal (release_at rs k) (in_at rs k no_release lt)

  named : (k : ℕ) (lt : k < length rs)
      → task_named U (release_at rs k).name ≡ Some (at k lt).task
  named k lt = (let l : IsLegal U until (release_at rs k) = at k lt in
      ap (task_named U) l.named ∙ found U set.distinct l.task l.in_set)

  number_is : (k : ℕ) (lt : k < length rs) → task_number U (release_at rs k) ≡ (at k lt).task
  number_is k lt = ap (λ o. unwrap_or o (length U)) (named k lt)

  sorted : (k : ℕ) → k < length rs → is_unsorted rs k ≡ false
  sorted zero lt = refl
  sorted (suc k) lt = le-ltb (release_at rs (suc k)).time (release_at rs k).time
      (pairs_at k (suc k) no_release order (omega arith) lt).rises

  none_soon : (k : ℕ) → k < length rs → is_too_soon U (jobs_of U rs) k ≡ false
  none_soon k lt = some_below-none k (is_soon_job U (jobs_of U rs) k) (λ j less.
      let r : Release = release_at rs j in
      let s : Release = release_at rs k in
      let o : IsAfter U r s = pairs_at j k no_release order less lt in
      let end : ℕ = r.time + (task_at U (task_number U s)).period in
      rw (job_is U rs j (omega arith), job_is U rs k lt)
      (elim (cases_eq (task_number U r) (task_number U s)) [
        | inl same ↦ and_right (task_number U r == task_number U s) (nat_lt s.time end)
            (le-ltb s.time end (o.apart same))
        | inr other ↦ and_left (task_number U r == task_number U s) (nat_lt s.time end)
            (ne_eqb (task_number U r) (task_number U s) other)
      ]))

  none_late : (k : ℕ) → k < length rs → is_too_late U rs k ≡ false
  none_late k lt = rw (number_is k lt)
      (le-ltb (lateness_of (task_at U (at k lt).task)) (release_at rs k).late (at k lt).prompt)

  none_outside : (k : ℕ) → k < length rs → is_outside_cost U rs k ≡ false
  none_outside k lt =
      let l : IsLegal U until (release_at rs k) = at k lt in
      let cost : ℕ = (task_at U l.task).cost in
      let runs : ℕ = unwrap_or (release_at rs k).runs cost in
      rw (number_is k lt) (or_from (runs == 0) (nat_lt cost runs)
      (ne_eqb runs 0 (λ none. omega (arith, none, l.executes.0))) (le-ltb cost runs l.executes.1))

  pub unrefused : until ≤ 60000000 → length rs ≤ 10000 → refusal_of U rs until ≡ None
  unrefused horizon few =
      rw (
        none_first (is_unsorted rs) (length rs) sorted,
        none_first (is_unknown U rs) (length rs) (λ k lt. ap is_none (named k lt)),
        none_first (is_too_soon U (jobs_of U rs)) (length rs) none_soon,
        none_first (is_too_late U rs) (length rs) none_late,
        none_first (is_outside_cost U rs) (length rs) none_outside,
        or_from _ _ (le-ltb 60000000 until horizon)
            (list_any_none (is_past until) rs
            (λ k d lt. lt-leb until _ (legal _ (in_at rs k d lt)).before)),
        le-ltb 10000 (length rs) few,
      ) refl
