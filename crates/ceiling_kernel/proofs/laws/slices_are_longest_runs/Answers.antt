use Rattle.ceiling_kernel.proofs.SliceLaws.{longest_runs}
use Rattle.ceiling_kernel.proofs.laws.slices_are_longest_runs.Goals as goal

pub returns : goal.returns
returns c = longest_runs
