use Rattle.std.proofs.Common.{inl, inr, ◌∙◌, arith}
use Rattle.std.proofs.lemmas.Bool.{cases_lt}
use Rattle.task_sheet.specs.Indexes.{indexes_of}
use Rattle.task_sheet.proofs.TaskLaws.{AllTasks-from_set}
use Rattle.response_time.proofs.UninterruptedLaws.{with-mono}
use Rattle.response_time.proofs.first_cover.Goals as goal

pub loop-window-init : goal.loop-window-init
loop-window-init c = record {
  work = c.new-work.ensures.is;
  carried = omega (arith, c.new-work.ensures.start, c.first_window-window.ensures.positive);
  positive = c.first_window-window.ensures.positive;
  first = λ s pos to covers. c.first_window-window.ensures.least s pos
      (omega (arith, c.new-work.ensures.is s pos to, covers));
}

pub returns-then-next-window : goal.returns-then-next-window
returns-then-next-window c =
    let inv = c.loop-window.invariant in
    let t = c.loop-window.window in
    let next =
    rw (inv.work t inv.positive c.loop-window-test.true) at c.next_demand-next.ensures.is in
    record {
      some = record {
        positive = inv.positive;
        within = omega (arith, c.limit_of-limit.ensures.is, c.loop-window-test.true);
        covers = omega (arith, next, c.if-next-window.true);
        first = λ s pos covers. elim (cases_lt c.limit_of-limit.result s) [
          | inl past ↦ omega (arith, past, c.loop-window-test.true)
          | inr to ↦ inv.first s pos to covers
        ];
      };
      none = tt;
    }

pub loop-window-preserved : goal.loop-window-preserved
loop-window-preserved c =
    let U = c.args.set.now in
    let inv = c.loop-window.invariant in
    let t = c.loop-window.window in
    let next =
    rw (inv.work t inv.positive c.loop-window-test.true) at c.next_demand-next.ensures.is in
    record {
      work = λ s from to. c.next_demand-next.ensures.same s ∙ inv.work s from to;
      carried = omega (arith, c.if-next-window.false, c.next_demand-next.ensures.time);
      positive = omega (arith, inv.positive, c.if-next-window.false);
      first = λ s pos to covers. omega (
        arith,
        next,
        with-mono U (AllTasks-from_set U c.limit_of-limit.ensures.kept) c.args.task
            (indexes_of c.args.above) c.args.interrupted t s (inv.first s pos to covers),
        covers,
      );
    }

pub returns : goal.returns
returns c = record {
  some = tt;
  none = λ found. omega (
    arith,
    c.loop-window.invariant.first found.0 found.1
        (omega (arith, found.2, c.limit_of-limit.ensures.is)) found.3,
    found.2,
    c.limit_of-limit.ensures.is,
    c.loop-window-test.false,
  );
}
