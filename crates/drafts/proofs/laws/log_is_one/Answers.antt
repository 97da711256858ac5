use Rattle.drafts.specs.Machine.{empty_desk}
use Rattle.drafts.proofs.LogLaws.{log-one}
use Rattle.drafts.proofs.laws.log_is_one.Goals as goal

pub returns : goal.returns
returns c = log-one empty_desk
