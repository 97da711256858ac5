use Rattle.std.proofs.Common.{◌∙◌, sym, ap}
use Rattle.std.specs.FinSet.{remove}
use Rattle.assignment.proofs.AskLaws.{remove-part, remove-apart}
use Rattle.desk_core.proofs.trial.question_on.Goals as goal

pub new-requires-clause-above : goal.new-requires-clause-above
new-requires-clause-above c =
    let left = c.args.climb.now.left in
    let removed = c.without.ensures ∙ ap (λ m. remove m c.args.task) c.left-left.ensures.same in
    let same = c.requires.same ∙ sym c.in_ok-own.ensures.cases in
    rw (removed, ← same)
    (remove-part c.args.climb.now.set left c.args.task c.left-left.ensures.part)

pub new-requires-clause-apart : goal.new-requires-clause-apart
new-requires-clause-apart c = rw c.without.ensures (remove-apart c.left-left.result c.args.task)
