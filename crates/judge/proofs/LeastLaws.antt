-- Where no mutex is above the highest user of its lock, orders are judged as by the least ceilings.
use Rattle.std.proofs.Common.{◌≡◌, ◌↔◌, ℕ, suc, ◌+◌, ◌<◌, ◌≤◌, List, [], ◌∷◌, ◌++◌, length, get_or, drop}
use Rattle.std.proofs.Common.{refl, sym, subst, arith, append_assoc}
use Rattle.task_sheet.proofs.Common.{Task, Indexes, task_at, among, blocking_of, demand_of, limit_of}
use Rattle.task_sheet.specs.Demand.{past_jitter}
use Rattle.task_sheet.specs.Responses.{Covers, IsFullChain, IsResponse}
use Rattle.judge.specs.Ceilings.{AllJudgedBy, IsJudgementWith, blocking_at, ceiling_in, demand_blocked}
use Rattle.judge.specs.SettingFaults.{setting_number, thread_number, top_number}
use Rattle.judge.specs.Judgements.{AllJudged, IsJudgementOf, order_judged}
use Rattle.judge.specs.Node.{IsOrderBy}
use Rattle.judge.specs.declared.judging.JudgedTask.{JudgedTask}
use Rattle.judge.specs.declared.judging.Judgement.{Judgement}
use Rattle.judge.specs.declared.judging.Judgement.TheVariants.{Meets, Misses, Below}
use Rattle.judge.specs.declared.rows.Setting.{Setting}
use Rattle.judge.proofs.RaisedLaws.{blocking-same}

-- ---- a task
module _ (U : List Task) (i : ℕ) (H : Indexes) where
  same-demand : demand_blocked (blocking_of U i H) U i H ≡ demand_of U i H
  unfolding demand_of demand_blocked
  same-demand = refl

  to-least : (j : Judgement) → IsJudgementWith (blocking_of U i H) U i H j → IsJudgementOf U i H j
  to-least (Meets r) is = (
    is.0,
    subst (λ W. IsResponse W (past_jitter (task_at U i) r)) same-demand is.1,
    is.2,
  )
  to-least (Misses n) is = (
    is.0,
    subst (λ W. ¬ Covers W (limit_of (task_at U i))) same-demand is.1,
    record {
      chain = is.2.chain;
      before = is.2.before;
      last = is.2.last;
      full = subst (λ W. IsFullChain W (limit_of (task_at U i)) is.2.chain) same-demand is.2.full;
      ends = is.2.ends;
      time = is.2.time;
    },
  )
  to-least (Below k) is = is

  from-least : (j : Judgement) → IsJudgementOf U i H j → IsJudgementWith (blocking_of U i H) U i H j
  from-least (Meets r) is = (
    is.0,
    subst (λ W. IsResponse W (past_jitter (task_at U i) r)) (sym same-demand) is.1,
    is.2,
  )
  from-least (Misses n) is = (
    is.0,
    subst (λ W. ¬ Covers W (limit_of (task_at U i))) (sym same-demand) is.1,
    record {
      chain = is.2.chain;
      before = is.2.before;
      last = is.2.last;
      full = subst (λ W. IsFullChain W (limit_of (task_at U i)) is.2.chain) (sym same-demand)
          is.2.full;
      ends = is.2.ends;
      time = is.2.time;
    },
  )
  from-least (Below k) is = is

-- ---- an order
-- the task behind some others, and those behind it
at-front : (front rest : List JudgedTask) (j : JudgedTask)
    → (length front < length (order_judged (front ++ j ∷ rest)))
    × (get_or (order_judged (front ++ j ∷ rest)) (length front) 0 ≡ j.task)
    × (drop (length front + 1) (order_judged (front ++ j ∷ rest)) ≡ order_judged rest)
at-front [] rest j = (omega arith, refl, refl)
at-front (x ∷ front) rest j =
    let next = at-front front rest j in
    let one : suc (length front) + 1 ≡ suc (length front + 1) = omega arith in
    (omega (arith, next.0), next.1, rw one next.2)

module _ (U : List Task) (threads mutexes : List Setting)
    (least : (lock : List ℕ) → setting_number mutexes lock ≤ top_number U threads lock) where
  judged-from : (front rest : List JudgedTask) → IsOrderBy U threads (order_judged (front ++ rest))
      → AllJudgedBy U threads mutexes rest ↔ AllJudged U rest
  judged-from front [] by = (λ all. all, λ all. all)
  judged-from front (j ∷ rest) by =
      let (lt, here, later) = at-front front rest j in
      let same = blocking-same U threads mutexes (order_judged (front ++ j ∷ rest)) (length front) by lt
      least in
      let blocking : blocking_at (ceiling_in U threads mutexes) (thread_number U threads j.task) U j.task
      (among (order_judged rest)) ≡ blocking_of U j.task (among (order_judged rest)) =
      rw (here, later) at same in
      let next = judged-from (front ++ j ∷ []) rest
      (rw (append_assoc front (j ∷ []) rest) by) in (
        λ all. (
          to-least U j.task (among (order_judged rest)) j.judgement
              (subst (λ b. IsJudgementWith b U j.task (among (order_judged rest)) j.judgement)
              blocking all.0),
          next.0 all.1,
        ),
        λ all. (
          subst (λ b. IsJudgementWith b U j.task (among (order_judged rest)) j.judgement)
              (sym blocking)
              (from-least U j.task (among (order_judged rest)) j.judgement all.0),
          next.1 all.1,
        ),
      )

pub judged-same : (U : List Task) (threads mutexes : List Setting) (judged : List JudgedTask)
    → IsOrderBy U threads (order_judged judged)
    → ((lock : List ℕ) → setting_number mutexes lock ≤ top_number U threads lock)
    → AllJudgedBy U threads mutexes judged ↔ AllJudged U judged
judged-same U threads mutexes judged by least = judged-from U threads mutexes least [] judged by
