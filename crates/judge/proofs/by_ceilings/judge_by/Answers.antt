use Rattle.judge.specs.Ceilings.{AllJudgedBy, IsJudgementBy}
use Rattle.judge.proofs.JudgedLaws.{judged_start, judged_step, judged_end}
use Rattle.judge.proofs.by_ceilings.judge_by.Goals as goal

pub loop-place-init : goal.loop-place-init
loop-place-init c =
    let s = c.args.settings.now in
    judged_start (AllJudgedBy c.args.set.now s.threads.items s.mutexes.items) c.args.order.now
    c.in_ok-judged.judged.items c.in_ok-judged.ensures.items

pub loop-place-preserved : goal.loop-place-preserved
loop-place-preserved c =
    let s = c.args.settings.now in
    judged_step (AllJudgedBy c.args.set.now s.threads.items s.mutexes.items)
    (IsJudgementBy c.args.set.now s.threads.items s.mutexes.items)
    (λ j rest is all. (is, all)) c.args.order.now c.loop-place.place c.loop-place.judged.items
    c.push.new.self.items c.judge_at.result
    c.loop-place-test.true c.loop-place.invariant c.judge_at.ensures.task
    c.judge_at.ensures.judged c.in_ok-push.ensures.items

pub returns-clause-order : goal.returns-clause-order
returns-clause-order c =
    let s = c.args.settings.now in
    (judged_end (AllJudgedBy c.args.set.now s.threads.items s.mutexes.items) tt c.args.order.now
    c.loop-place.place c.loop-place.judged.items c.loop-place-test.false c.loop-place.invariant).0

pub returns-clause-judged : goal.returns-clause-judged
returns-clause-judged c =
    let s = c.args.settings.now in
    (judged_end (AllJudgedBy c.args.set.now s.threads.items s.mutexes.items) tt c.args.order.now
    c.loop-place.place c.loop-place.judged.items c.loop-place-test.false c.loop-place.invariant).1
