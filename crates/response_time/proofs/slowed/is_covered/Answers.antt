use Rattle.std.proofs.Common.{◌+◌, ◌*◌, ◌≤◌, inl, inr, refl, true, arith}
use Rattle.std.proofs.Math.Nat.{mul-le-mul_left}
use Rattle.std.proofs.lemmas.Bool.{both_ways, cases_lt}
use Rattle.task_sheet.specs.Indexes.{indexes_of}
use Rattle.task_sheet.specs.Demand.{demand_of}
use Rattle.task_sheet.proofs.DemandLaws.{demand-mono}
use Rattle.task_sheet.proofs.TaskLaws.{AllTasks-from_set}
use Rattle.response_time.proofs.slowed.is_covered.Goals as goal

pub returns-then-next-window : goal.returns-then-next-window
returns-then-next-window c =
    let inv = c.loop-window.invariant in
    let covers : c.args.factor * c.demand-need.result ≤ 1000 * c.loop-window.window = omega (
      arith,
      inv.few,
      c.loop-window-test.true,
      c.if-next-window.true,
      c.div_ceil-next.ensures,
      c.saturating_mul.ensures,
    ) in (
      λ _. (
        c.loop-window.window,
        inv.positive,
        omega (arith, inv.limit, c.loop-window-test.true),
        rw c.demand-need.ensures at covers,
      ),
      λ _. refl,
    )

pub loop-window-preserved : goal.loop-window-preserved
loop-window-preserved c =
    let U = c.args.set.now in
    let H = indexes_of c.args.above in
    let inv = c.loop-window.invariant in
    record {
      positive = omega (arith, inv.positive, c.if-next-window.false);
      limit = inv.limit;
      few = inv.few;
      fails = λ t positive lt. elim (cases_lt t c.loop-window.window) [
        | inl before ↦ inv.fails t positive before
        | inr past ↦
            let need : c.demand-need.result ≤ demand_of U c.args.task H t = rw c.demand-need.ensures
            (demand-mono U (AllTasks-from_set U c.limit_of-limit.ensures.kept) c.args.task H _ t past) in
            let rises : c.args.factor * c.demand-need.result ≤ c.args.factor * demand_of U c.args.task H t =
            mul-le-mul_left c.args.factor need in
            omega (arith, rises, lt, c.div_ceil-next.ensures, c.saturating_mul.ensures)
      ];
    }

pub returns : goal.returns
returns c = (
  λ so. absurd (both_ways _ refl so),
  λ (t, positive, within, covers). absurd (omega (
    arith,
    covers,
    c.loop-window.invariant.fails t positive
        (omega (arith, within, c.loop-window.invariant.limit, c.loop-window-test.false)),
  )),
)
