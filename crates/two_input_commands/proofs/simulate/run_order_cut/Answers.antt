use Rattle.std.proofs.Common.{◌≡◌, Ok, subst}
use Rattle.ceiling_kernel.specs.Tick.{node_in}
use Rattle.cut_runs.specs.Cut.{IsTight, RunsCut}
use Rattle.two_input_commands.proofs.simulate.run_order_cut.Goals as goal

pub returns-in-Ok : goal.returns-in-Ok
returns-in-Ok c =
    let node : c.in_ok-kernel.kernel ≡ node_in c.args.set.now c.args.order.now =
    c.in_ok-kernel.ensures in (
      subst (λ n. RunsCut n c.args.releases.items c.args.until (Ok c.in-Ok.cut)) node
          c.in-Ok.ensures.run,
      subst (λ n. IsTight n c.in-Ok.cut) node c.in-Ok.ensures.tighter,
    )
