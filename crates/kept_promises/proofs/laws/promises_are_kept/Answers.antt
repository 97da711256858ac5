use Rattle.kept_promises.specs.KeptPromises.{Keeps}
use Rattle.kept_promises.proofs.SeenLaws.{all_seen, keeps}
use Rattle.kept_promises.proofs.laws.promises_are_kept.Goals as goal

pub returns : goal.returns
returns c = λ U numbers places lines run. all_seen run numbers Keeps (keeps run numbers)
