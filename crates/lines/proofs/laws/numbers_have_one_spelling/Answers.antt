use Rattle.lines.proofs.NumberLaws.{number_again, number_takes}
use Rattle.lines.proofs.laws.numbers_have_one_spelling.Goals as goal

pub returns-clause-taken : goal.returns-clause-taken
returns-clause-taken c = number_takes

pub returns-clause-back : goal.returns-clause-back
returns-clause-back c = number_again
