use Rattle.std.proofs.Common.{◌≡◌, ◌∙◌, ap, option_map}
use Rattle.task_sheet.proofs.Common.{Task, task_of}
use Rattle.task_sheet.specs.Sheet.{with_jitter, outranking}
use Rattle.task_sheet.specs.SheetFields.{outranks_of}
use Rattle.task_sheet.specs.declared.read.SetFault.TheVariants as fault
use Rattle.task_sheet.proofs.TreeLaws.{here, task_from, sheet_fails, jitter_fails, outranks_left}
use Rattle.task_sheet.proofs.TreeLaws.{after}
use Rattle.task_sheet.proofs.read.make_sheet.Goals as goal

pub returns-in-Err-clause-err : goal.returns-in-Err-clause-err
returns-in-Err-clause-err c =
    let f = c.args.fields in
    sheet_fails c.args.task (task_from c.args.name f.weight f.period f.deadline f.cost
    c.args.sections.items f.jitter (outranks_of c.args.outranks))
    c.in-Err.ensures.err

pub returns-in_default-clause-err : goal.returns-in_default-clause-err
returns-in_default-clause-err c =
    let f = c.args.fields in
    jitter_fails c.args.task (task_from c.args.name f.weight f.period f.deadline f.cost
    c.args.sections.items f.jitter (outranks_of c.args.outranks)) c.in-Ok.ensures.none
    (rw c.in-Ok.ensures.ok at c.in_default.ensures.err.1)

pub returns-in-Ok-outranking-clause-ok : goal.returns-in-Ok-outranking-clause-ok
returns-in-Ok-outranking-clause-ok c =
    let f = c.args.fields in
    let is : c.in-Ok-jittered.sheet ≡ with_jitter (task_of c.args.name f.weight f.period f.deadline
    f.cost c.args.sections.items) f.jitter =
    c.in-Ok-jittered.ensures.ok.0 ∙ ap (λ (s : Task). with_jitter s f.jitter) c.in-Ok.ensures.ok in (
      outranks_left c.args.task (task_from c.args.name f.weight f.period f.deadline f.cost
          c.args.sections.items f.jitter (outranks_of c.args.outranks)) c.in-Ok.ensures.none
          (rw c.in-Ok.ensures.ok at c.in-Ok-jittered.ensures.ok.1)
          ∙ after (ap (option_map (fault.Outranks c.args.task))
          (rw is at c.in-Ok-outranking.ensures.none)),
      c.in-Ok-outranking.ensures.ok
          ∙ ap (λ (s : Task). outranking s (outranks_of c.args.outranks)) is,
    )

pub returns-in-Err-outranking-clause-err : goal.returns-in-Err-outranking-clause-err
returns-in-Err-outranking-clause-err c =
    let f = c.args.fields in
    let is : c.in-Ok-jittered.sheet ≡ with_jitter (task_of c.args.name f.weight f.period f.deadline
    f.cost c.args.sections.items) f.jitter =
    c.in-Ok-jittered.ensures.ok.0 ∙ ap (λ (s : Task). with_jitter s f.jitter) c.in-Ok.ensures.ok in
    outranks_left c.args.task (task_from c.args.name f.weight f.period f.deadline f.cost
    c.args.sections.items f.jitter (outranks_of c.args.outranks)) c.in-Ok.ensures.none
    (rw c.in-Ok.ensures.ok at c.in-Ok-jittered.ensures.ok.1)
    ∙ here _ (ap (option_map (fault.Outranks c.args.task))
    (rw is at c.in-Err-outranking.ensures.err))
