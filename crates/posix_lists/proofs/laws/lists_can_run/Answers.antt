use Rattle.posix_lists.proofs.ExistLaws.{can_run}
use Rattle.posix_lists.proofs.laws.lists_can_run.Goals as goal

pub returns : goal.returns
returns c = can_run
