use Rattle.std.proofs.Common.{rules}
use Rattle.cert_checker.specs.Ready.{task_by_name}
use Rattle.cert_checker.proofs.SeenSteps.{fails-named}
use Rattle.cert_checker.proofs.naming.tasks_of.Goals as goal

pub returns : goal.returns
returns c =
    let U = c.args.set.now in
    rw (fails-named U c.args.fails.now) at
    (c.tasks_named.ensures (λ x. task_by_name U x.name) (λ item name gives. search rules))
