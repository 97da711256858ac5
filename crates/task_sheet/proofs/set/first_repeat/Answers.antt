use Rattle.std.proofs.Common.{◌≡◌, false, sym, ◌∙◌, take}
use Rattle.std.proofs.lemmas.Bool.{not-true}
use Rattle.std.proofs.Common.{List, subst, arith}
use Rattle.std.proofs.Math.ListN.{drop_of_length-le}
use Rattle.std.proofs.lemmas.List.{take_more, take_all}
use Rattle.std.specs.List.{All}
use Rattle.std.proofs.lemmas.List.Elements.{All-push}
use Rattle.task_sheet.proofs.Common.{IsValidSheet, has_name, Task, AreDistinct, same_name}
use Rattle.task_sheet.proofs.SetLaws.{names_step, repeat_step, distinct_more}
use Rattle.task_sheet.proofs.set.first_repeat.Goals as goal

pub loop-i-preserved : goal.loop-i-preserved
loop-i-preserved c =
    let new : has_name (take c.loop-i.i c.args.sheets.now) c.index-sheets-i.result.name ≡ false =
    sym (c.loop-i.invariant.names c.index-sheets-i.result.name) ∙ not-true _
    (rw c.name.ensures.same at (sym c.in_ok-insert.ensures.added ∙ c.if-not-branch.false)) in
    let step = repeat_step c.args.sheets.now c.loop-i.i c.index-sheets-i.result _ c.loop-i-test.true
    c.index-sheets-i.is (sym new) in
    let more = take_more c.args.sheets.now c.loop-i.i c.index-sheets-i.result
    c.loop-i-test.true in
    record {
      valid = rw (more, ← c.index-sheets-i.is)
          (All-push IsValidSheet _ _ c.loop-i.invariant.valid c.name.ensures.valid);
      distinct = rw (more, ← c.index-sheets-i.is)
          (distinct_more _ _ c.loop-i.invariant.distinct new);
      same = sym step ∙ c.loop-i.invariant.same;
      names = λ q. names_step c.args.sheets.now c.loop-i.i c.index-sheets-i.result q _ _
          c.loop-i-test.true c.index-sheets-i.is (c.loop-i.invariant.names q)
          (rw c.name.ensures.same at (c.in_ok-insert.ensures.updates.0 q));
    }

pub returns-clause-first : goal.returns-clause-first
returns-clause-first c =
    rw (drop_of_length-le c.args.sheets.now c.loop-i-test.false) at c.loop-i.invariant.same

pub returns-clause-valid : goal.returns-clause-valid
returns-clause-valid c = λ none. subst (λ (xs : List Task). All IsValidSheet xs)
    (take_all c.loop-i.i c.args.sheets.now (omega arith)) c.loop-i.invariant.valid

pub returns-clause-distinct : goal.returns-clause-distinct
returns-clause-distinct c = λ none. subst (λ (xs : List Task). AreDistinct same_name xs)
    (take_all c.loop-i.i c.args.sheets.now (omega arith)) c.loop-i.invariant.distinct
