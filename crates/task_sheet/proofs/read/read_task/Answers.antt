use Rattle.std.proofs.Common.{◌≡◌, ◌∙◌, sym, refl}
use Rattle.std.proofs.lemmas.Bool.{false≢true, false_from_ne_true}
use Rattle.std.proofs.lemmas.Result.{IfOk-weaker, IfErr-weaker}
use Rattle.toml.specs.View.{table_view}
use Rattle.task_sheet.specs.SheetFields.{outranks_of}
use Rattle.task_sheet.specs.Tree.{sheet_at}
use Rattle.task_sheet.specs.TreeFault.{task_fault, values_fault}
use Rattle.task_sheet.proofs.TreeLaws.{after, here, at_exit, sections_fail, names_fail, own_bad}
use Rattle.task_sheet.proofs.TreeLaws.{section_bad, other_bad, made_of, task_from}
use Rattle.task_sheet.proofs.read.read_task.Goals as goal

pub returns-in_err-fields-clause-err : goal.returns-in_err-fields-clause-err
returns-in_err-fields-clause-err c =
    at_exit _ c.from_residual.result c.from_residual.ensures.1 (λ e same other. rw same
    (after (sym c.in_default.ensures) ∙ here _ c.in_err-fields.ensures.err))

pub returns-in_err-read-clause-err : goal.returns-in_err-read-clause-err
returns-in_err-read-clause-err c =
    at_exit _ c.from_residual-in_err-read.result c.from_residual-in_err-read.ensures.1
    (λ e same other. rw same (sections_fail c.args.task (sym c.in_default.ensures)
    c.in_ok-fields.ensures.ok.0 c.in_ok-fields.ensures.ok.1
    (c.in_err-read.ensures.err (rw same at other))))

pub returns-in_default-read-clause-err : goal.returns-in_default-read-clause-err
returns-in_default-read-clause-err c =
    λ other. names_fail (record {
      keys = sym c.in_default.ensures;
      kinds = c.in_ok-fields.ensures.ok.0;
      fields = c.in_ok-fields.ensures.ok.1;
      sections = c.in_ok-read.ensures.ok.0;
    }) (own_bad _ _ (false_from_ne_true _ (λ named. false≢true
    (c.in_default-read.ensures.named.1 (rw c.as_bytes.ensures.value named)))))

pub returns-in-Some-bad-clause-err : goal.returns-in-Some-bad-clause-err
returns-in-Some-bad-clause-err c =
    λ other. names_fail (record {
      keys = sym c.in_default.ensures;
      kinds = c.in_ok-fields.ensures.ok.0;
      fields = c.in_ok-fields.ensures.ok.1;
      sections = c.in_ok-read.ensures.ok.0;
    }) (section_bad _ (rw c.as_bytes.ensures.value at (c.in-Ok.ensures.named.0 refl))
    (sym c.in_ok-read.ensures.ok.1 ∙ c.in-Some-bad.is))

pub returns-in_default-2-clause-err : goal.returns-in_default-2-clause-err
returns-in_default-2-clause-err c =
    λ other. names_fail (record {
      keys = sym c.in_default.ensures;
      kinds = c.in_ok-fields.ensures.ok.0;
      fields = c.in_ok-fields.ensures.ok.1;
      sections = c.in_ok-read.ensures.ok.0;
    }) (other_bad (rw c.as_bytes.ensures.value at (c.in-Ok.ensures.named.0 refl))
    (sym c.in_ok-read.ensures.ok.1 ∙ c.in_default-bad.is)
    (rw c.in_default-2.is at c.in_ok-outranks.ensures))

-- what the values give
made : (c : goal.After-make_sheet) →
    let s = task_from c.in-Ok.name c.in_ok-fields.fields.weight c.in_ok-fields.fields.period
    c.in_ok-fields.fields.deadline c.in_ok-fields.fields.cost c.in_ok-read.read.sections.items
    c.in_ok-fields.fields.jitter (outranks_of c.in-Some-2.outranks) in
    let ms = table_view c.args.table.now in
    (task_fault c.args.task ms ≡ values_fault c.args.task s) × (s ≡ sheet_at ms)
made c =
    let fields = c.in_ok-fields.fields in
    let bad = c.in_default-bad.is in
    let outranks = rw c.in-Some-2.is at c.in_ok-outranks.ensures in
    let named = rw c.as_bytes.ensures.value at (c.in-Ok.ensures.named.0 refl) in
    let same = c.in-Ok.ensures.same ∙ c.as_bytes.ensures.value in
    made_of (record {
      keys = sym c.in_default.ensures;
      kinds = c.in_ok-fields.ensures.ok.0;
      fields = c.in_ok-fields.ensures.ok.1;
      sections = c.in_ok-read.ensures.ok.0;
    }) named (sym c.in_ok-read.ensures.ok.1 ∙ bad) outranks.0
    (rw (same, c.in_ok-read.ensures.ok.2 bad, outranks.1) refl)

pub returns-clause-ok : goal.returns-clause-ok
returns-clause-ok c =
    IfOk-weaker c.make_sheet.result _ _
    (λ s h. ((made c).0 ∙ h.0, h.1 ∙ (made c).1)) c.make_sheet.ensures.ok

pub returns-clause-err : goal.returns-clause-err
returns-clause-err c =
    IfErr-weaker c.make_sheet.result _ _ (λ e h other. (made c).0 ∙ h) c.make_sheet.ensures.err
