use Rattle.std.proofs.Common.{ℕ, ◌≡◌, ◌+◌, arith}
use Rattle.task_sheet.proofs.Common.{task_at, indexes_of, demand_of}
use Rattle.task_sheet.proofs.TaskLaws.{AllTasks-from_set}
use Rattle.task_sheet.proofs.DemandLaws.{demand_does_not_fall}
use Rattle.task_sheet.proofs.PassingLaws.{IsResponseOf-from}
use Rattle.response_time.proofs.AboveLaws.{with-is}
use Rattle.response_time.proofs.FirstCovers.{first_cover_is_response}
use Rattle.response_time.proofs.response_in_time.Goals as goal

pub returns-in-Some : goal.returns-in-Some
returns-in-Some c =
    let U = c.args.set.now in
    let i = c.args.task in
    let H = indexes_of c.args.above in
    let t = c.in-Some.window in
    let is = c.in-Some.ensures.some in
    let same = λ (s : ℕ). with-is U i H c.has_interrupts.result s c.has_interrupts.ensures in
    let steady = demand_does_not_fall U (AllTasks-from_set U c.limit_of.ensures.kept) i H
    c.requires in
    let response = first_cover_is_response (demand_of U i H) steady t is.positive
    (omega (arith, is.covers, same t))
    (λ s pos covers. is.first s pos (omega (arith, covers, same s))) in
    let late : t + c.jitter_of.result ≡ t + (task_at U i).jitter =
    omega (arith, c.jitter_of.ensures.is) in
    record {
      some = (
        rw late (IsResponseOf-from U i H t response),
        omega (arith, late, is.within, is.positive),
      );
      passes = (t, is.positive, is.within, omega (arith, is.covers, same t));
      none = tt;
    }

pub returns-in-None : goal.returns-in-None
returns-in-None c = record {
  some = tt;
  passes = tt;
  none = λ found. c.in-None.ensures.none (
    found.0,
    found.1,
    found.2,
    omega (
      arith,
      found.3,
      with-is c.args.set.now c.args.task (indexes_of c.args.above) c.has_interrupts.result found.0
          c.has_interrupts.ensures,
    ),
  );
}
