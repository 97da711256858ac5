use Rattle.std.proofs.Common.{take}
use Rattle.ceiling_kernel.specs.Tick.{node_in}
use Rattle.ceiling_kernel.specs.NodeTasks.{AreSectionsOf}
use Rattle.ceiling_kernel.proofs.build.sections_of.Given as goal

abbrev pub invariant-loop-section : goal.invariant-loop-section
invariant-loop-section l =
    AreSectionsOf (node_in l.set l.order) (take l.section-index l.sections) l.kept.items
