-- While a job waits, the tasks below it execute no more than what is left of a section that blocks.
use Rattle.std.proofs.Common.{ℕ, zero, suc, ◌+◌, ◌<◌, ◌≤◌, ◌≡◌, inl, inr, sym, ap, ◌∙◌}
use Rattle.std.proofs.Common.{arith, Bool, List, length}
use Rattle.std.proofs.Common.{nat_lt}
use Rattle.std.proofs.lemmas.Bool.{cases_eq, cases_lt, le-leb, le-ltb, lt-leb}
use Rattle.std.proofs.lemmas.Bool.{true≢false}
use Rattle.task_sheet.proofs.Common.{blocking_of}
use Rattle.ceiling_kernel.proofs.Common.{Job, Node, executed_before, job_at}
use Rattle.ceiling_kernel.proofs.Common.{level_in_order, level_of_job, picked}
use Rattle.ceiling_kernel.proofs.Common.{AreLegalJobs, IsNode, above_of}
use Rattle.ceiling_kernel.proofs.NodeLaws.{IsSound, IsSoundTask, sound}
use Rattle.ceiling_kernel.proofs.SumLaws.{total, total-le, total-lt, total-one}
use Rattle.ceiling_kernel.proofs.BehaviourLaws.{HasSpans, spans_of}
use Rattle.ceiling_kernel.proofs.BoundLaws.{rest_most}
use Rattle.ceiling_kernel.proofs.MachineLaws.{is_high, machine, rest_at}
use Rattle.ceiling_kernel.proofs.Busy.{one_inside}
use Rattle.kept_promises.proofs.TickLaws.{hit-le, hit_none, hits, total_next}

module _ (node : Node) (jobs : List Job) (is_node : IsNode node) (legal : AreLegalJobs node jobs)
    (i : ℕ) (is : i < length node.tasks) where
  abbrev pub level : ℕ
  level = level_in_order node i

  valid : IsSound node
  valid = sound node is_node

  level_some : 0 < level
  level_some = (let v : IsSoundTask node i = valid.each i is in v.level_from_one)

  spanned : (j : ℕ) → HasSpans node jobs j
  spanned = spans_of node jobs legal.within

  abbrev blocking : ℕ
  blocking = blocking_of node.tasks i (above_of node i)

  -- what is left of a section of a lower job that reaches the level
  abbrev left : ℕ → ℕ → ℕ
  left j e = rest_at node jobs level level_some spanned j e

  left_most : (j e : ℕ) → left j e ≤ blocking
  left_most j e = omega (arith, rest_most node jobs is_node spanned i is level_some j e)

  -- of all lower jobs before a tick
  abbrev all_left : ℕ → ℕ
  all_left t = total (λ k. left k (executed_before node jobs t k)) (length jobs)

  all_left_most : (t : ℕ) → all_left t ≤ blocking
  all_left_most t =
      total-one (λ k. left k (executed_before node jobs t k)) (length jobs) blocking
      (λ k lt. left_most k (executed_before node jobs t k))
      (one_inside (length jobs) (λ k. (job_at jobs k).ready) (λ k. (job_at jobs k).executes)
      (is_high node jobs level level_some spanned) (rest_at node jobs level level_some spanned)
      (executed_before node jobs) (picked node jobs)
      (machine node jobs level level_some spanned) t)

  -- job k is of a task below
  abbrev pub low : ℕ → Bool
  low k = nat_lt (level_of_job node jobs k) level

  -- in a tick in which a job of the level waits, a lower one executes only what is left of its
  -- section
  low_tick : (lo hi j u : ℕ) → j < length jobs → (job_at jobs j).ready ≤ u
      → executed_before node jobs u j < (job_at jobs j).executes → level ≤ level_of_job node jobs j
      → hits (picked node jobs) low lo hi u + all_left (suc u) ≤ all_left u
  low_tick lo hi j u lt ready open_ level_is =
      let m = machine node jobs level level_some spanned in
      let high = le-leb level (level_of_job node jobs j) level_is in
      let w = m.works u j lt ready open_ in
      let p : ℕ = w.0 in
      let hot = m.hot_first u p j w.1 lt ready open_ (inl high) in
      let more : executed_before node jobs (suc u) p ≡ suc (executed_before node jobs u p) =
      m.of_picked u p w.1 in
      let others : (k : ℕ) → (k ≡ p → ⊥)
      → left k (executed_before node jobs (suc u) k) ≡ left k (executed_before node jobs u k) =
      λ k ne. ap (left k) (m.of_other u p k w.1 ne) in
      elim (cases_lt (level_of_job node jobs p) level) [
        | inl below ↦
            let not_high = lt-leb level (level_of_job node jobs p) below in
            let inside : 0 < left p (executed_before node jobs u p) =
            elim hot [ inl up ↦ absurd (true≢false (sym up ∙ not_high)) | inr in_ ↦ in_ ] in
            let next = m.rest_next p (executed_before node jobs u p) inside in
            let moved = ap (left p) more in
            let less = total-lt (λ k. left k (executed_before node jobs (suc u) k))
            (λ k. left k (executed_before node jobs u k)) (length jobs) p
            (m.picked_exists u p w.1) (omega (arith, next, moved))
            (λ k within. elim (cases_eq k p) [
              | inl e ↦ rw e (omega (arith, next, moved))
              | inr ne ↦ omega (arith, others k ne)
            ]) in
            omega (arith, less, hit-le low lo hi u (picked node jobs u))
        | inr above ↦
            let none = hit_none low lo hi u p (picked node jobs u) w.1
            (le-ltb (level_of_job node jobs p) level above) in
            let gone = m.rest_low p (executed_before node jobs (suc u) p)
            (le-leb level (level_of_job node jobs p) above) in
            let same = total-le (λ k. left k (executed_before node jobs (suc u) k))
            (λ k. left k (executed_before node jobs u k)) (length jobs)
            (λ k within. elim (cases_eq k p) [
              | inl e ↦ rw e (omega (arith, gone))
              | inr ne ↦ omega (arith, others k ne)
            ]) in
            omega (arith, same, none)
      ]

  -- so in all of them
  low_ticks : (lo hi j a b : ℕ) → j < length jobs → (job_at jobs j).ready ≤ a
      → level ≤ level_of_job node jobs j → a ≤ b
      → ((t : ℕ) → a ≤ t → t < b → executed_before node jobs t j < (job_at jobs j).executes)
      → total (hits (picked node jobs) low lo hi) b + all_left b
      ≤ total (hits (picked node jobs) low lo hi) a + all_left a
  low_ticks lo hi j a zero lt ready level_is le waits =
      (let start : a ≡ 0 = omega arith in rw start (omega arith))
  low_ticks lo hi j a (suc b) lt ready level_is le waits = elim (cases_eq a (suc b)) [
    | inl same ↦ rw same (omega arith)
    | inr more ↦ omega (
      arith,
      low_ticks lo hi j a b lt ready level_is (omega arith)
          (λ t from to. waits t from (omega arith)),
      low_tick lo hi j b lt (omega arith) (waits b (omega arith) (omega arith)) level_is,
      total_next (hits (picked node jobs) low lo hi) b,
    )
  ]

  -- while a job of the level waits, lower ones execute no more than what blocks it
  pub low_most : (lo hi j a b : ℕ) → j < length jobs → (job_at jobs j).ready ≤ a
      → level ≤ level_of_job node jobs j → a ≤ b
      → ((t : ℕ) → a ≤ t → t < b → executed_before node jobs t j < (job_at jobs j).executes)
      → total (hits (picked node jobs) low lo hi) b
      ≤ total (hits (picked node jobs) low lo hi) a + blocking_of node.tasks i (above_of node i)
  low_most lo hi j a b lt ready level_is le waits =
      omega (arith, low_ticks lo hi j a b lt ready level_is le waits, all_left_most a)
