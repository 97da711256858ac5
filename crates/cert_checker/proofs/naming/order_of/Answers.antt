use Rattle.std.proofs.Common.{rules}
use Rattle.cert_checker.specs.Ready.{task_by_name}
use Rattle.cert_checker.proofs.SeenSteps.{levels-named}
use Rattle.cert_checker.proofs.naming.order_of.Goals as goal

pub returns : goal.returns
returns c =
    let U = c.args.set.now in
    rw (levels-named U c.args.levels.now) at
    (c.tasks_named.ensures (λ x. task_by_name U x.name) (λ item name gives. search rules))
