use Rattle.threads_rows.proofs.commits.refusals_of_a_commit.Given as goal

abbrev pub ghosts-causes_on : goal.ghosts-causes_on
ghosts-causes_on g a = record { name = a.start.blank.name; parts = a.start.blank.parts }
