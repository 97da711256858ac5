use Rattle.judge.specs.Ceilings.{AllJudgedBy}
use Rattle.judge.proofs.JudgedLaws.{IsJudgedTo}
use Rattle.judge.proofs.by_ceilings.judge_by.Given as goal

abbrev pub invariant-loop-place : goal.invariant-loop-place
invariant-loop-place l = IsJudgedTo
    (AllJudgedBy l.set l.settings.threads.items l.settings.mutexes.items) l.order l.place
    l.judged.items
