use Rattle.answering.specs.Owning.{AreOwnersOf}
use Rattle.answering.proofs.sets.taken_told.Goals as goal

pub returns : goal.returns
unfolding AreOwnersOf
returns g c =
    let told = c.in_ok-tasks.ensures in
    let found = c.in_ok-owners.ensures in (
      record {
        set = told.0;
        whose = (
          found.0,
          c.in_ok-tasks.chains.items,
          found.1,
          told.2,
          rw c.deref.ensures.value at found.2,
        );
      },
      told.1,
      told.2,
    )
