use Rattle.std.proofs.Common.{◌≡◌, ◌∷◌, rules, ◌∙◌, ap, refl}
use Rattle.task_sheet.specs.Demand.{demand_of, limit_of}
use Rattle.task_sheet.proofs.TaskLaws.{task_read}
use Rattle.cert_checker.proofs.refuting.are_chain.Goals as goal

pub returns : goal.returns
unfolding demand_of
returns c =
    let is = task_read c.args.set.now c.sheets.result.now c.args.task c.index-sheets-task.result
    c.sheets.ensures.same c.requires c.index-sheets-task.is in
    let limit = c.limit_of-limit.ensures ∙ ap limit_of is in
    let numbers : c.args.numbers.now ≡ c.in-Some.first.now ∷ c.in-Some.rest.now =
    search (rules, c.in-Some.ensures.cases) in
    rw (
      c.goes_past.ensures,
      c.base_demand-base.ensures.is,
      limit,
      numbers,
      c.if-first-ne1.false,
    ) refl
