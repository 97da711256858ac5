use Rattle.std.proofs.Common.{◌≡◌, Ok, subst}
use Rattle.ceiling_kernel.specs.Runs.{MeetsTighterBounds, Runs}
use Rattle.ceiling_kernel.specs.Tick.{node_in}
use Rattle.two_input_commands.proofs.simulate.run_order.Goals as goal

pub returns-in-Ok : goal.returns-in-Ok
returns-in-Ok c =
    let node : c.in_ok-kernel.kernel ≡ node_in c.args.set.now c.args.order.now =
    c.in_ok-kernel.ensures in (
      subst (λ n. Runs n c.args.releases.now c.args.until (Ok c.in-Ok.trace)) node
          c.in-Ok.ensures.trace,
      subst (λ n. MeetsTighterBounds n c.args.releases.now c.args.until c.in-Ok.trace) node
          c.in-Ok.ensures.tighter,
    )
