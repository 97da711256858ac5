use Rattle.std.proofs.Common.{Bor}
use Rattle.std.proofs.lemmas.Bool.{both_ways}
use Rattle.std.proofs.lemmas.Iterator.{YieldsList-from_slice}
use Rattle.std.proofs.lemmas.Iterator.Consumers.{YieldsList-at, YieldsList-end}
use Rattle.std.proofs.lemmas.Iterator.Consumers.{YieldsList-from_chain}
use Rattle.std.proofs.lemmas.List.{map_push}
use Rattle.drafts.specs.declared.roster.Owned.{Owned}
use Rattle.book_lock.proofs.ForeignLaws.{found-same, found-new, foreign-found}
use Rattle.book_lock.proofs.foreign.foreign_name.Goals as goal

pub loop-task-preserved-then-not-is_before : goal.loop-task-preserved-then-not-is_before
loop-task-preserved-then-not-is_before c =
    rw (map_push (λ (o : Bor Owned). o.now) c.loop-task.yielded c.in-Some.task)
    (found-same c.in-Some.task.now c.loop-task.invariant (λ before. absurd (both_ways _
    c.if-not-is_before.true (c.is_before.ensures.1 (rw c.name-name.ensures.same before)))))

pub loop-task-preserved-then-not-agree : goal.loop-task-preserved-then-not-agree
loop-task-preserved-then-not-agree c =
    let e = c.name-name.ensures.same in
    rw (map_push (λ (o : Bor Owned). o.now) c.loop-task.yielded c.in-Some.task, e)
    (found-new c.in-Some.task.now c.loop-task.invariant
    (rw (← e) (c.is_before.ensures.0 c.if-not-is_before.false))
    (λ same. both_ways _ c.if-not-agree.true (c.agree.ensures.1 (rw e same))))

pub loop-task-preserved : goal.loop-task-preserved
loop-task-preserved c =
    rw (map_push (λ (o : Bor Owned). o.now) c.loop-task.yielded c.in-Some.task)
    (found-same c.in-Some.task.now c.loop-task.invariant
    (λ _. rw (← c.name-name.ensures.same) (c.agree.ensures.0 c.if-not-agree.false)))

pub returns : goal.returns
returns c =
    let B = c.args.book.now in
    let P = c.args.pass.now in
    let chained = YieldsList-from_chain {s = c.chain-task-items.result}
    (YieldsList-at c.chain-task-items.ensures.first (YieldsList-from_slice B c.iter.ensures.rest))
    (YieldsList-from_slice P (cc)) c.chain-task-items.ensures.first_done
    c.chain-task-items.ensures.second_done in
    let all = YieldsList-end (YieldsList-at {t = c.chain-task-items.result} (cc) chained)
    c.loop-task.yielded _ c.loop-task.yielded_by _ _ c.in-None.is c.next.ensures.steps in
    foreign-found c.requires.book c.requires.pass (rw all.0 at c.loop-task.invariant)
