use Rattle.diff.proofs.SameLaws.{unchanged_is_silent, whole_is_silent}
use Rattle.diff.proofs.laws.unchanged_says_nothing.Goals as goal

pub returns-clause-whole : goal.returns-clause-whole
returns-clause-whole c = λ by whose U. whole_is_silent by whose U

pub returns-clause-tasks : goal.returns-clause-tasks
returns-clause-tasks c = λ weighs owners U P set. unchanged_is_silent weighs owners U P set.distinct
