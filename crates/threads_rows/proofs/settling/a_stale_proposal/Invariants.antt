use Rattle.threads_rows.proofs.settling.a_stale_proposal.Given as goal

abbrev pub ghosts-settled_on : goal.ghosts-settled_on
ghosts-settled_on g a = record { name = a.start.blank.name; parts = a.start.blank.parts }
