use Rattle.std.proofs.Common.{◌≡◌, ◌∙◌, ap, refl, true, nat_lt, length, arith}
use Rattle.std.proofs.lemmas.Bool.{lt-ltb}
use Rattle.task_sheet.specs.Indexes.{indexes_of}
use Rattle.task_sheet.proofs.MembersIndexes.{indexes_of-remove}
use Rattle.cert_checker.specs.Ready.{task_by_name}
use Rattle.cert_checker.proofs.refuting.is_refuted.Goals as goal

pub returns-then-task-len : goal.returns-then-task-len
returns-then-task-len c =
    let U = c.args.set.now in
    let task = c.task_by_name-task.result in
    let named = c.task_by_name-task.ensures.is ∙ ap (λ x. task_by_name U x.name) c.fail.view_is in
    let above = ap indexes_of c.without.ensures ∙ indexes_of-remove c.args.left task in
    let known : nat_lt task (length U) ≡ true =
    lt-ltb task (length U) (omega (arith, c.len.ensures.count, c.if-task-len.true)) in
    rw (c.refutes.ensures, above, ap (λ x. x.reason) c.fail.view_is, ← named, known) refl
