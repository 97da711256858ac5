use Rattle.diff.proofs.SilentLaws.{silent_is_unchanged}
use Rattle.diff.proofs.laws.silent_changes_nothing.Goals as goal

pub returns : goal.returns
returns c = λ old was U P new is V Q whose whole silent.
    silent_is_unchanged old was U P new is V Q whose whole silent
