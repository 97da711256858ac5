use Rattle.pieces.proofs.BandLaws.{counted}
use Rattle.pieces.proofs.laws.each_job_is_counted.Goals as goal

pub returns : goal.returns
returns c = counted
