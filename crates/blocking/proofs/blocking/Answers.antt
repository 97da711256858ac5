use Rattle.std.proofs.Common.{◌≡◌, ap, ◌∙◌, arith}
use Rattle.task_sheet.proofs.Common.{indexes_of, blocking_of}
use Rattle.task_sheet.proofs.DemandFits.{blocking-fits}
use Rattle.task_sheet.proofs.MembersIndexes.{indexes_of-insert}
use Rattle.ceilings.specs.Holds.{longest_outside}
use Rattle.blocking.proofs.blocking.Goals as goal

is : (c : goal.After-longest_outside)
    → c.longest_outside.result ≡ blocking_of c.args.set.now c.args.task (indexes_of c.args.above)
unfolding blocking_of
is c =
    c.longest_outside.ensures
    ∙ ap (longest_outside c.args.set.now)
    (ap indexes_of c.with.ensures ∙ indexes_of-insert c.args.above c.args.task)

pub returns : goal.returns
returns c = record {
  is = is c;
  short = omega (
    arith,
    is c,
    blocking-fits c.args.set.now c.sheets.ensures.kept c.args.task
        (indexes_of c.args.above),
  );
}
