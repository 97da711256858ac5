use Rattle.desk_core.proofs.ToldOne.{told-one}
use Rattle.desk_core.proofs.laws.answer_is_one.Goals as goal

pub returns : goal.returns
returns c = told-one
