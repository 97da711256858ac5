use Rattle.std.proofs.Common.{ap, sym, subst, List, ℕ}
use Rattle.task_sheet.specs.Sheet.{Task}
use Rattle.assignment.specs.Placings.{IsPlacingOf}
use Rattle.assignment.specs.declared.placing.Placing.{Placing}
use Rattle.drafts.specs.Placed.{StuckSetData, AreStuck}
use Rattle.drafts.proofs.PlacedLaws.{listed-stuck}
use Rattle.drafts.proofs.judging.judged_as.Goals as goal

pub returns-in-Stuck : goal.returns-in-Stuck
returns-in-Stuck c =
    let U = c.args.set.value in
    let greatest = subst (λ (p : Placing). IsPlacingOf U p) c.in-Stuck.is c.requires in (
      ap (λ (s : StuckSetData). s.set) c.new-in-Stuck.ensures,
      subst (λ (ms : List ℕ). AreStuck U ms)
          (sym (ap (λ (s : StuckSetData). s.members) c.new-in-Stuck.ensures))
          (listed-stuck U c.in-Stuck.members greatest),
    )
