use Rattle.chains.proofs.AgeLaws.{parts_law}
use Rattle.chains.proofs.CountLaws.{count_law}
use Rattle.chains.proofs.PartLaws.{come_to_law}
use Rattle.chains.proofs.laws.parts_add_up.Goals as goal

pub returns : goal.returns
returns c = record { parts = come_to_law; bound = parts_law; costs = count_law }
