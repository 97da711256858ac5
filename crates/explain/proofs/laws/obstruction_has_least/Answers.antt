use Rattle.std.proofs.Common.{length}
use Rattle.explain.proofs.ConflictLaws.{find_left, left-least, left-one}
use Rattle.explain.proofs.laws.obstruction_has_least.Goals as goal

pub returns-clause-exists : goal.returns-clause-exists
returns-clause-exists c = λ U S valid o.
    let found = find_left U S (length U) valid o in
    let least = left-least U S found.0 o found.1 in
    (found.0, found.1, least.0, least.1)

pub returns-clause-left : goal.returns-clause-left
returns-clause-left c = left-least

pub returns-clause-one : goal.returns-clause-one
returns-clause-one c = λ U S C D. left-one U S (length U) C D
