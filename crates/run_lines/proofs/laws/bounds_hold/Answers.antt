use Rattle.run_lines.proofs.ResponseLaws.{all_kept}
use Rattle.run_lines.proofs.laws.bounds_hold.Goals as goal

pub returns : goal.returns
returns c = all_kept
