use Rattle.std.proofs.Common.{◌≡◌, ◌+◌, ◌<◌, [], ◌∷◌, ◌++◌, length, sym, ◌∙◌, ap, arith}
use Rattle.task_sheet.proofs.Common.{task_at, indexes_of}
use Rattle.task_sheet.proofs.TaskLaws.{AllTasks-from_set}
use Rattle.task_sheet.proofs.DemandLaws.{demand-mono, demand_does_not_fall}
use Rattle.task_sheet.proofs.PassingLaws.{IsResponseOf-from}
use Rattle.task_sheet.proofs.Trails.{walk_start, walk_next, next_is_no_less}
use Rattle.response_time.proofs.AboveLaws.{next-is}
use Rattle.response_time.proofs.Walks.{short_passes, short_fails}
use Rattle.response_time.proofs.respond.Goals as goal

pub loop-time-init : goal.loop-time-init
loop-time-init c = record {
  demand = c.new-work.ensures.is;
  carried = omega (arith, c.new-work.ensures.start);
  positive = omega arith;
  walk = rw c.new-numbers.ensures.items (walk_start _ _);
  first = λ s pos covers. pos;
}

pub returns-then-next-time : goal.returns-then-next-time
returns-then-next-time c =
    let U = c.args.set.now in
    let i = c.args.task in
    let H = indexes_of c.args.above in
    let t = c.loop-time.time in
    let inv = c.loop-time.invariant in
    let late : t + c.jitter_of.result ≡ t + (task_at U i).jitter =
    omega (arith, c.jitter_of.ensures.is) in
    let fixed = sym (next-is U i H t _ _ _ c.next_demand-next.ensures.is
    c.has_interrupts-interrupted.ensures
    (inv.demand t inv.positive c.loop-time-test.true)) ∙ c.if-next-time.true in
    let pass = short_passes U i H (AllTasks-from_set _ c.limit_of-limit.ensures.kept) c.requires _ _
    _ inv.walk fixed (omega (arith, c.limit_of-limit.ensures.is, c.loop-time-test.true)) in
    let count = c.len.ensures ∙ c.push.new.self.ok.0 ∙ ap length c.in_ok-push.ensures.items in
    record {
      answer = (
        rw late (IsResponseOf-from U i H t record {
          positive = inv.positive;
          fixed = fixed;
          least = λ s pos e. inv.first s pos (omega (arith, e));
        }),
        omega (arith, late, c.limit_of-limit.ensures.is, c.loop-time-test.true, inv.positive),
      );
      evaluations = (c.loop-time.numbers.items ++ t ∷ [], pass.0, count);
      bound = omega (arith, pass.1, count);
    }

pub loop-time-smaller : goal.loop-time-smaller
loop-time-smaller c =
    let U = c.args.set.now in
    let H = indexes_of c.args.above in
    let inv = c.loop-time.invariant in
    let steady = demand_does_not_fall U (AllTasks-from_set U c.limit_of-limit.ensures.kept)
    c.args.task H c.requires in
    let next = next-is U c.args.task H c.loop-time.time _ _ _ c.next_demand-next.ensures.is
    c.has_interrupts-interrupted.ensures (inv.demand c.loop-time.time inv.positive
    c.loop-time-test.true) in
    omega (
      arith,
      next_is_no_less _ _ _ _ inv.walk steady,
      next,
      c.if-next-time.false,
      c.loop-time-test.true,
    )

pub loop-time-preserved : goal.loop-time-preserved
loop-time-preserved c =
    let U = c.args.set.now in
    let i = c.args.task in
    let H = indexes_of c.args.above in
    let valid = AllTasks-from_set U c.limit_of-limit.ensures.kept in
    let inv = c.loop-time.invariant in
    let next = next-is U i H c.loop-time.time _ _ _ c.next_demand-next.ensures.is
    c.has_interrupts-interrupted.ensures (inv.demand c.loop-time.time inv.positive
    c.loop-time-test.true) in
    let more = next_is_no_less _ _ _ _ inv.walk (demand_does_not_fall U valid i H c.requires) in
    let rises : c.loop-time.time < c.next_demand-next.result =
    omega (arith, more, next, c.if-next-time.false) in
    let on = walk_next _ _ _ _ inv.walk c.next_demand-next.result next rises
    (omega (arith, c.limit_of-limit.ensures.is, c.loop-time-test.true)) in
    record {
      demand = λ t from to. c.next_demand-next.ensures.same t ∙ inv.demand t from to;
      positive = omega (arith, rises, inv.positive);
      carried = omega (arith, rises, c.next_demand-next.ensures.time);
      walk = rw c.in_ok-push.ensures.items on;
      first = λ s pos covers. omega (
        arith,
        next,
        demand-mono U valid i H c.loop-time.time s (inv.first s pos covers),
        covers,
      );
    }

pub returns : goal.returns
returns c =
    let U = c.args.set.now in
    let i = c.args.task in
    let H = indexes_of c.args.above in
    let limit = c.limit_of-limit.ensures in
    let fail = short_fails U i H (AllTasks-from_set _ limit.kept) c.requires _ _ _
    c.loop-time.invariant.walk (omega (arith, limit.is, c.loop-time-test.false)) in
    let count = c.len-evaluations.ensures ∙ c.loop-time.numbers.ok.0 in
    record {
      answer = rw c.in_ok-push-2.ensures.items fail.0;
      evaluations = (c.loop-time.numbers.items, fail.1.0, count);
      bound = omega (arith, fail.1.1, count);
    }
