use Rattle.std.proofs.Common.{◌∙◌, ap, arith, length}
use Rattle.std.proofs.lemmas.List.{length-map}
use Rattle.overheads.proofs.ChargedSets.{count-charged}
use Rattle.drafts.specs.Applied.{is_team_at, teams_of, sheets_of, said_of}
use Rattle.drafts.specs.Machine.{MachineState}
use Rattle.drafts.proofs.state.NodeState.tasks_of.Goals as goal

pub places_of-requires : goal.places_of-requires
places_of-requires c =
    let desk : MachineState = c.args.self.now in
    omega (
      arith,
      ap length c.set.ensures,
      count-charged (sheets_of desk.node.tasks) (said_of desk.node.interrupts),
      length-map desk.node.tasks (λ o. o.sheet),
      ap length c.deref.ensures.value,
      ap (λ (d : MachineState). length d.node.tasks) c.self.view_is,
      c.len.ensures.count,
      c.len.ensures.limit,
    )

pub returns : goal.returns
returns c = λ i. c.places_of.ensures i
    ∙ ap (λ ts. is_team_at c.args.team (teams_of ts) i) c.deref.ensures.value
    ∙ ap (λ (d : MachineState). is_team_at c.args.team (teams_of d.node.tasks) i) c.self.view_is
