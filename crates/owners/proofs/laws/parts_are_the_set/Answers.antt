use Rattle.std.proofs.Common.{[]}
use Rattle.owners.specs.Accounts.{accounted}
use Rattle.owners.specs.Parts.{teams_from}
use Rattle.owners.proofs.PartLaws.{whole}
use Rattle.owners.proofs.laws.parts_are_the_set.Goals as goal

pub returns : goal.returns
returns c = λ owners U. whole owners (teams_from [] owners) (accounted owners U)
