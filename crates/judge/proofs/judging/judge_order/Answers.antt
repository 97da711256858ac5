use Rattle.task_sheet.proofs.Common.{among}
use Rattle.judge.specs.Judgements.{AllJudged, IsJudgementOf}
use Rattle.judge.proofs.JudgedLaws.{judged_start, judged_step, judged_end}
use Rattle.judge.proofs.judging.judge_order.Goals as goal

pub loop-place-init : goal.loop-place-init
loop-place-init c = judged_start (AllJudged c.args.set.now) c.args.order.now
    c.in_ok-judged.judged.items c.in_ok-judged.ensures.items

pub loop-place-preserved : goal.loop-place-preserved
loop-place-preserved c =
    judged_step (AllJudged c.args.set.now)
    (λ i above judgement. IsJudgementOf c.args.set.now i (among above) judgement)
    (λ j rest is all. (is, all)) c.args.order.now c.loop-place.place c.loop-place.judged.items
    c.push.new.self.items c.in_ok-judge_place.field-0
    c.loop-place-test.true c.loop-place.invariant c.in_ok-judge_place.ensures.task
    c.in_ok-judge_place.ensures.judged c.in_ok-push.ensures.items

pub returns-clause-order : goal.returns-clause-order
returns-clause-order c = (judged_end (AllJudged c.args.set.now) tt c.args.order.now
    c.loop-place.place c.loop-place.judged.items c.loop-place-test.false c.loop-place.invariant).0

pub returns-clause-judged : goal.returns-clause-judged
returns-clause-judged c = (judged_end (AllJudged c.args.set.now) tt c.args.order.now
    c.loop-place.place c.loop-place.judged.items c.loop-place-test.false c.loop-place.invariant).1
