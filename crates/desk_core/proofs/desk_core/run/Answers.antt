use Rattle.std.proofs.Common.{◌∙◌, [], ◌∷◌, ◌++◌, length, sym, ap, subst, arith, append_assoc}
use Rattle.drafts.specs.Books.{IsLegalBook}
use Rattle.desk_core.specs.World.{start}
use Rattle.desk_core.proofs.RunLaws.{IsRun-push, all_done}
use Rattle.desk_core.proofs.desk_core.run.Goals as goal

pub loop-event-init : goal.loop-event-init
loop-event-init c =
    let gives = c.into_iter-event-iterator.ensures.into_iter_gives in
    record {
      run = rw c.new-replies.ensures.items c.in_ok-core.ensures;
      rest = gives.0;
      counted = omega (arith, ap length gives.0, gives.1, c.args.events.ok.0, c.args.events.ok.1);
    }

pub loop-event-preserved : goal.loop-event-preserved
loop-event-preserved c =
    let so = c.loop-event.invariant in
    let done = c.loop-event.yielded in
    let rs = c.loop-event.replies.items in
    let e = c.in-Some.event in
    let r = c.in-Ok.reply in
    let steps = c.in-Some.ensures.steps in
    let pushed = c.in_ok-push.ensures.items in
    record {
      run = rw pushed (IsRun-push start c.loop-event.core c.step.new.self done rs e r so.run
          c.in-Ok.ensures.ok);
      rest = append_assoc done (e ∷ []) c.next.new.self.rest.items
          ∙ ap (λ xs. done ++ xs) (sym steps.0) ∙ so.rest;
      counted = let more = ap length steps.0 in omega (arith, more, steps.1, so.counted);
    }

pub returns-clause-run : goal.returns-clause-run
returns-clause-run c =
    let so = c.loop-event.invariant in
    let all =
    all_done c.loop-event.yielded c.loop-event.event-iterator.rest.items c.args.events.items
    c.loop-event.event-iterator.rest.len so.rest so.counted c.in-None.ensures.steps.0 in
    rw all at so.run

pub returns-clause-legal : goal.returns-clause-legal
returns-clause-legal c = subst IsLegalBook c.book.ensures c.state.ensures.legal
