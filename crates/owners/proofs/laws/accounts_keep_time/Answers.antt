use Rattle.owners.proofs.AccountLaws.{keep_law}
use Rattle.owners.proofs.laws.accounts_keep_time.Goals as goal

pub returns : goal.returns
returns c = keep_law
