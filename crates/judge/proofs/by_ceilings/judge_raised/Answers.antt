use Rattle.std.proofs.Common.{◌≡◌, ◌+◌, ◌-◌, ℕ, subst, arith}
use Rattle.task_sheet.proofs.Common.{indexes_of, blocking_of}
use Rattle.judge.specs.Ceilings.{IsJudgementWith, blocking_at}
use Rattle.judge.specs.SettingFaults.{thread_number}
use Rattle.judge.proofs.RaisedLaws.{blocking-fits, ceiling}
use Rattle.judge.proofs.by_ceilings.judge_raised.Goals as goal

pub judge_longer-requires-clause-more : goal.judge_longer-requires-clause-more
judge_longer-requires-clause-more c =
    let s = c.args.settings.now in
    let U = c.args.set.now in
    omega (
      arith,
      blocking-fits (ceiling U s.threads.items s.mutexes.items)
          (thread_number U s.threads.items c.args.task) U c.args.task (indexes_of c.args.above)
          c.sheets.ensures.kept,
      c.blocking_at-given.ensures,
    )

pub overflow_sub-more : goal.overflow_sub-more
overflow_sub-more c =
    omega (arith, c.requires.least, c.blocking_at-given.ensures, c.blocking.ensures.is)

pub returns : goal.returns
returns c =
    let s = c.args.settings.now in
    let U = c.args.set.now in
    let H = indexes_of c.args.above in
    let given = blocking_at (ceiling U s.threads.items s.mutexes.items)
    (thread_number U s.threads.items c.args.task) U c.args.task H in
    let same : blocking_of U c.args.task H + (c.blocking_at-given.result - c.blocking.result) ≡ given =
    omega (arith, c.requires.least, c.blocking_at-given.ensures, c.blocking.ensures.is) in
    subst (λ (n : ℕ). IsJudgementWith n U c.args.task H c.judge_longer.result) same
    c.judge_longer.ensures
