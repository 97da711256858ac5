use Rattle.scripts.specs.ScriptWords.{made_in}
use Rattle.scripts.proofs.rows.made_of.Goals as goal

pub returns-clause-gives : goal.returns-clause-gives
unfolding made_in
returns-clause-gives c =
    let (all, read, kept) = c.in_ok-sections.ensures in
    rw read (c.valid.ensures.gives all kept)
