use Rattle.std.proofs.Common.{None, arith}
use Rattle.task_sheet.proofs.TaskLaws.{AllTasks-from_set}
use Rattle.response_time.proofs.SlowedLaws.{Slowed, slowed-eased}
use Rattle.latest_first.proofs.OneOrder.{obstructs-fails}
use Rattle.factor.proofs.AtLaws.{at-short}
use Rattle.factor.proofs.greatest_slowdown.Goals as goal

pub overflow_add-most : goal.overflow_add-most
overflow_add-most c = omega (
  arith,
  at-short c.args.set.now c.sheets.ensures.kept c.requires _ None c.in_ok-most.ensures.passes,
)

pub unreachable-requires : goal.unreachable-requires
unreachable-requires c = c.in_ok-most.ensures.greatest _ (omega arith) c.in_default.ensures.none

-- else none of those that obstruct might stand below the others of them at the factor with which an order passes
pub unreachable-requires-in_default-latest : goal.unreachable-requires-in_default-latest
unreachable-requires-in_default-latest c =
    let U = c.args.set.now in
    let most = c.in_ok-most.most in
    let stuck = c.in-Some.ensures.some.obstruction in
    obstructs-fails (Slowed most) (slowed-eased most) U (AllTasks-from_set U c.sheets.ensures.kept) _ (record {
      within = stuck.within;
      some = stuck.some;
      stuck = λ i here stands. c.in_default-latest.ensures.none i (here, stands.1);
    }) c.in_ok-most.ensures.passes
