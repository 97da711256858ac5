use Rattle.judge.specs.Judgements.{AllJudged}
use Rattle.judge.proofs.JudgedLaws.{IsJudgedTo}
use Rattle.judge.proofs.judging.judge_order.Given as goal

abbrev pub invariant-loop-place : goal.invariant-loop-place
invariant-loop-place l = IsJudgedTo (AllJudged l.set) l.order l.place l.judged.items
